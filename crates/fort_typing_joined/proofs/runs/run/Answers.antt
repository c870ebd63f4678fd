use Rattle.std.proofs.Common.{length, arith, sym, subst, ◌∙◌}
use Rattle.fort_typing_known.specs.Read.{facts}
use Rattle.fort_typing_meaning.specs.Joining.{run}
use Rattle.fort_typing_joined.specs.declared.runs.Turned.{Turned}
use Rattle.fort_typing_joined.specs.Steps.{IsTurn}
use Rattle.fort_typing_joined.proofs.Turns.{ended_there}
use Rattle.fort_typing_joined.proofs.runs.run.Goals as goal

pub returns-in-Ends : goal.returns-in-Ends
unfolding run
returns-in-Ends c =
    let k = facts c.args.known.now in
    let before = c.loop-count in
    let t = subst (λ
    (turned : Turned). IsTurn k before.rest before.first turned) c.in-Ends.is
    c.in_ok-outcome.ensures in
    sym (before.invariant
    ∙ ended_there k (length c.args.parts) before.count before.first before.rest
    c.in-Ends.outcome (omega arith) t)
