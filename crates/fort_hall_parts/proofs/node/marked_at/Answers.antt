use Rattle.std.proofs.Common.{◌≡◌, true, ap, sym, ◌∙◌}
use Rattle.fort_machine.specs.Ends.{is_still}
use Rattle.fort_hall_parts.proofs.Plain.{marked_plain}
use Rattle.fort_hall_parts.proofs.node.marked_at.Goals as goal

pub returns-then-may_go-clause-plain : goal.returns-then-may_go-clause-plain
returns-then-may_go-clause-plain c =
    let still : is_still c.args.inner.now ≡ true =
    ap is_still (sym c.get.ensures) ∙ (sym c.may_go.ensures ∙ c.if-may_go.true) in
    marked_plain c.args.parts.now c.args.«at» c.args.part.now c.args.inner.now c.in_ok-part.part
    c.requires.own c.requires.marked still c.in_ok-part.ensures
