use Rattle.std.proofs.Common.{◌≡◌, ◌+◌, ◌≤◌, length}
use Rattle.fort_turn.specs.Passes.{number_of, made_by}
use Rattle.fort_pool.specs.Workers.{EachWorker}
use Rattle.fort_hall_work.specs.Seats.{IsSeated}
use Rattle.fort_hall.specs.Gathered.{Gathered}
use Rattle.fort_hall.specs.Output.{SeesMore}
use Rattle.fort_hall.proofs.settle.gather.Given as goal

abbrev pub invariant-loop-seat : goal.invariant-loop-seat
invariant-loop-seat g l = record {
  gathered : Gathered g.M.Machine.history g.M.Machine.origin g.M.Machine.by l.turn g.M.Machine.start l.legs.items (length l.workers.items) (length l.initial.workers.items) l.first;
  more : SeesMore g.M.Machine.history g.M.Machine.origin l.initial.first l.first;
  made : made_by l.first ≡ made_by l.initial.first;
  workers : EachWorker 0 (λ n w. IsSeated g.M.Machine.history g.M.Machine.by l.turn w.seat.pass w.seat.legs × (number_of w.seat.pass ≡ n + 1)) l.workers.items;
  long : length l.legs.items ≡ length l.initial.workers.items;
  few : length l.workers.items ≤ length l.initial.workers.items;
}

abbrev pub decreases-loop-seat : goal.decreases-loop-seat
decreases-loop-seat g l = length l.workers.items
