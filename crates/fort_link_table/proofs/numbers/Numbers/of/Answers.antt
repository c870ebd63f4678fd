use Rattle.std.proofs.Common.{◌++◌, ◌∷◌, ◌∙◌, [], subst}
use Rattle.fort_link_table.specs.Numbers.{HoldsNumbers}
use Rattle.fort_link_table.proofs.Map.{held_more}
use Rattle.fort_link_table.proofs.numbers.Numbers.of.Goals as goal

pub loop-i-preserved : goal.loop-i-preserved
loop-i-preserved c =
    held_more c.args.names.now c.loop-i.i c.in_ok-number_for.field-0 _ c.loop-i.numbers
    c.add.new.self c.loop-i-test.true c.in_ok-number_for.ensures c.loop-i.invariant
    (λ known h l. subst (λ s. HoldsNumbers (known ++ s ∷ []) c.add.new.self)
    (c.as_slice.ensures ∙ c.index-names-i.is) (c.in_ok-add.ensures known h l))
