use Rattle.std.proofs.Common.{[], ◌∷◌, sym, ap₂, ◌∙◌}
use Rattle.std.specs.Option.{option_or}
use Rattle.fort_link_units.specs.declared.unit.Unit.{Unit}
use Rattle.fort_link.specs.Whole.{components, last_end}
use Rattle.fort_link.proofs.Mains.{end_more}
use Rattle.fort_link.proofs.whole.last_end.Goals as goal

pub loop-unit-preserved : goal.loop-unit-preserved
loop-unit-preserved c =
    c.end_behind-end.ensures
    ∙ (ap₂ (λ (u : Unit) e. option_or (last_end (components (u ∷ []))) e) c.unit-item.is
    c.loop-unit.invariant
    ∙ sym (end_more c.args.units.now c.loop-unit.unit-index _ c.loop-unit-test.true))
