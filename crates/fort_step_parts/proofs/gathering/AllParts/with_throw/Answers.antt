use Rattle.std.proofs.Common.{ap, sym, ◌∙◌}
use Rattle.fort_core.specs.declared.value.Value.{Value}
use Rattle.fort_machine.specs.Ends.{at_throw}
use Rattle.fort_machine.specs.Acts.{with_first}
use Rattle.fort_step_parts.specs.declared.gathering.AllParts.{AllParts}
use Rattle.fort_step_parts.specs.Gathering.{before, throw_first}
use Rattle.fort_step_parts.proofs.Gathers.{values_throw}
use Rattle.fort_step_parts.proofs.gathering.AllParts.with_throw.Goals as goal

pub returns-in-Values : goal.returns-in-Values
returns-in-Values c = λ marked rest.
    ap (λ (g : AllParts). before g (with_first (at_throw c.args.value.now) marked rest))
    c.in-Values.is
    ∙ values_throw c.in-Values.field-0 c.args.value.now marked rest
    ∙ ap (λ (v : Value). throw_first v rest) (sym c.in_ok-share-in-Values.ensures)
