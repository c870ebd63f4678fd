use Rattle.std.proofs.Common.{◌≡◌, ℕ, ◌+◌, length, sym, ◌∙◌, subst}
use Rattle.fort_turn.specs.Passes.{number_of}
use Rattle.fort_pool.specs.Workers.{EachWorker}
use Rattle.fort_hall_work.specs.declared.worker.Worker.{Worker}
use Rattle.fort_hall_work.specs.Seats.{IsSeated}
use Rattle.fort_hall.proofs.Rows.{one_more}
use Rattle.fort_hall.proofs.Chain.{new_seat}
use Rattle.fort_hall.proofs.crew.add_worker.Goals as goal

pub returns-clause-workers : goal.returns-clause-workers
returns-clause-workers g c =
    let P : ℕ → Worker g.row.M.Denot g.row.M-Book.Denot g.row.M-State.Denot g.row.M-Leg.Denot g.row.M-Waste.Denot → Type 0 = λ n w. IsSeated g.M.Machine.history g.M.Machine.by c.args.turn.now w.seat.pass w.seat.legs × (number_of w.seat.pass ≡ n + 1) in
    let s = c.split-pass.ensures in
    let it : IsSeated g.M.Machine.history g.M.Machine.by c.args.turn.now c.new-worker.result.seat.pass c.new-worker.result.seat.legs × (number_of c.new-worker.result.seat.pass ≡ length c.args.workers.now.items + 1) =
    rw c.new-worker.ensures (
      new_seat g.M.Machine.history g.M.Machine.origin g.M.Machine.by c.args.turn.now c.split-pass.result s.idle.1 s.another.1 s.another.2 s.nothing,
      s.another.0 ∙ c.requires.first.2,
    ) in
    subst (EachWorker 0 P) (sym c.in_ok-push.ensures.items) (one_more P c.args.workers.now.items c.new-worker.result c.requires.workers it)
