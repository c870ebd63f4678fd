use Rattle.std.proofs.Common.{◌≡◌, ◌+◌, length, true}
use Rattle.fort_turn.specs.Passes.{IsIdle, number_of, numbers_of, seen_by, is_first, made_by}
use Rattle.fort_pool.specs.Workers.{EachWorker}
use Rattle.fort_hall_work.specs.Seats.{IsSeated}
use Rattle.fort_hall.proofs.crew.staff.Given as goal

abbrev pub invariant-loop-own : goal.invariant-loop-own
invariant-loop-own g l = record {
  idle : IsIdle l.turn l.first;
  first : is_first l.first ≡ true;
  made : made_by l.first ≡ length l.workers.items + 1;
  numbers : numbers_of l.first ≡ numbers_of l.initial.first;
  seen : seen_by l.first ≡ seen_by l.initial.first;
  workers : EachWorker 0 (λ n w. IsSeated g.M.Machine.history g.M.Machine.by l.turn w.seat.pass w.seat.legs × (number_of w.seat.pass ≡ n + 1)) l.workers.items;
  long : length l.workers.items + length l.owns.items ≡ length l.initial.owns.items;
  rights : length l.rights.items ≡ length l.owns.items;
}

abbrev pub decreases-loop-own : goal.decreases-loop-own
decreases-loop-own g l = length l.owns.items
