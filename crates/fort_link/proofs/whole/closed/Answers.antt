use Rattle.std.proofs.Common.{sym, ap, ◌∙◌}
use Rattle.fort_link.specs.Whole.{closed}
use Rattle.fort_link.proofs.Seams.{closed_by}
use Rattle.fort_link.proofs.whole.closed.Goals as goal

pub returns-in_ok-push-in-Some : goal.returns-in_ok-push-in-Some
returns-in_ok-push-in-Some c =
    closed_by c.args.declarations c.pop.new.self _ c.in-Some.last c.args.end _ c.in-Some.ensures
    c.with_semicolon.ensures c.in_ok-push-in-Some.ensures.ok

pub returns-in-None : goal.returns-in-None
returns-in-None c =
    c.in-None.ensures.1 ∙ sym (ap (λ ds. closed ds c.args.end) c.in-None.ensures.0)
