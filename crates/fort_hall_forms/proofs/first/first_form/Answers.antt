use Rattle.std.proofs.Common.{◌∙◌, subst, sym}
use Rattle.fort_store_effects.specs.Levels.{levels_of, seen}
use Rattle.fort_hall_forms.specs.Forms.{HasFirstForm, IsPartOfRun}
use Rattle.fort_hall_forms.specs.Sought.{Follows, whole}
use Rattle.fort_hall_forms.proofs.first.first_form.Goals as goal

pub loop-turn-init : goal.loop-turn-init
loop-turn-init c = (c.at_whole-state.ensures.sought, c.at_whole-state.ensures.same)

pub turned-requires-clause-part : goal.turned-requires-clause-part
turned-requires-clause-part c =
    subst (IsPartOfRun c.args.program.now) (sym c.loop-turn.invariant.1) c.requires.part

pub turned-requires-clause-sought : goal.turned-requires-clause-sought
turned-requires-clause-sought c = c.loop-turn.invariant.0

pub returns-in-Ends : goal.returns-in-Ends
returns-in-Ends c =
    let s = seen (levels_of c.args.view.now) in
    subst (λ t. HasFirstForm t s c.in-Ends.found) c.loop-turn.invariant.1
    (subst (Follows s (whole c.loop-turn.state)) c.in-Ends.is c.in_ok-next.ensures)

pub loop-turn-preserved : goal.loop-turn-preserved
loop-turn-preserved c =
    let s = seen (levels_of c.args.view.now) in
    let h = subst (Follows s (whole c.loop-turn.state)) c.in-Goes.is c.in_ok-next.ensures in
    (h.0, h.1 ∙ c.loop-turn.invariant.1)
