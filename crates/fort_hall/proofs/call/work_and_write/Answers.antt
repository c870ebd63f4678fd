use Rattle.std.proofs.Common.{rules, ◌≡◌, refl, subst}
use mathlib.Core.List.{IsPrefix}
use Rattle.fort_turn.specs.declared.held.Pass.{Pass}
use Rattle.fort_turn.specs.Book.{log_of}
use Rattle.fort_turn.specs.Passes.{seen_by}
use Rattle.fort_hall.proofs.Watching.{writes_given}
use Rattle.fort_hall.proofs.call.work_and_write.Goals as goal

pub returns-clause-writes : goal.returns-clause-writes
returns-clause-writes g c all more =
    let pass : c.first-1.given.0 ≡ c.at_work-workers.new.writer.pass.now = search rules in
    writes_given g.K.Sink.can_write g.K.Sink.written g.K.Sink.faults c.args.out.now c.at_work-workers.new.writer.out.now _ c.args.failed _ _ all _ _
    (search rules) c.requires.out refl refl c.at_work-workers.ensures.writes
    (subst (λ (p : Pass g.row.M-Book.Denot). IsPrefix (log_of g.M.Machine.output (seen_by p)) all) pass more)
