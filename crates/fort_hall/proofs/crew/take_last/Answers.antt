use Rattle.std.proofs.Common.{◌≡◌, ℕ, ◌+◌}
use Rattle.fort_turn.specs.Passes.{number_of}
use Rattle.fort_hall_work.specs.declared.worker.Worker.{Worker}
use Rattle.fort_hall_work.specs.Seats.{IsSeated}
use Rattle.fort_hall.proofs.Rows.{front}
use Rattle.fort_hall.proofs.crew.take_last.Goals as goal

pub returns-in-Some-clause-rest : goal.returns-in-Some-clause-rest
returns-in-Some-clause-rest g c =
    let P : ℕ → Worker g.row.M.Denot g.row.M-Book.Denot g.row.M-State.Denot g.row.M-Leg.Denot g.row.M-Waste.Denot → Type 0 = λ n w. IsSeated g.M.Machine.history g.M.Machine.by c.args.turn.now w.seat.pass w.seat.legs × (number_of w.seat.pass ≡ n + 1) in
    front P c.args.workers.now.items c.pop.new.self.items c.in-Some.worker c.in-Some.ensures.items c.requires
