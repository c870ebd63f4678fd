use Rattle.std.proofs.Common.{◌≡◌, true, false, Option, refl, sym, ap, ◌∙◌}
use Rattle.std.specs.Prelude.{option_map}
use Rattle.fort_tree.specs.declared.types.SimpleType.{SimpleType}
use Rattle.fort_tree.specs.declared.types.TypeList.{TypeList}
use Rattle.fort_tree.specs.declared.types.TypeTree.{TypeTree}
use Rattle.fort_spawn.specs.Starts.{is_unit, is_unit_list, is_unit_simple, parts_are_unit}
use Rattle.fort_spawn.proofs.Units.{of_more, of_one, units-Simple, units-Arrow, units-Named, units-Array, units-Parts}
use Rattle.fort_spawn.proofs.starts.+types.Goals as goal

pub is_unit-returns-in-Simple : goal.is_unit-returns-in-Simple
is_unit-returns-in-Simple t c =
    c.is_unit_simple.ensures
    ∙ sym (ap (λ (x : TypeTree). is_unit x) c.in-Simple.is ∙ units-Simple _)

pub is_unit-returns-in-Arrow : goal.is_unit-returns-in-Arrow
is_unit-returns-in-Arrow t c =
    sym (ap (λ (x : TypeTree). is_unit x) c.in-Arrow.is ∙ units-Arrow _ _ _)

pub is_unit_simple-returns-in-Named : goal.is_unit_simple-returns-in-Named
is_unit_simple-returns-in-Named t c =
    sym (ap (λ (x : SimpleType). is_unit_simple x) c.in-Named.is ∙ units-Named _)

pub is_unit_simple-returns-in-Array : goal.is_unit_simple-returns-in-Array
is_unit_simple-returns-in-Array t c =
    sym (ap (λ (x : SimpleType). is_unit_simple x) c.in-Array.is ∙ units-Array _ _ _ _ _ _)

pub is_unit_simple-returns-in-Parts : goal.is_unit_simple-returns-in-Parts
is_unit_simple-returns-in-Parts t c =
    c.are_unit.ensures
    ∙ sym (ap (λ (x : SimpleType). is_unit_simple x) c.in-Parts.is ∙ units-Parts _ _ _)

pub are_unit-returns-in-Some : goal.are_unit-returns-in-Some
are_unit-returns-in-Some t c =
    c.is_unit.ensures
    ∙ (ap (λ (x : TypeTree). is_unit x) c.get.ensures
    ∙ sym (ap (λ (o : Option TypeList). parts_are_unit (option_map is_unit_list o)) c.in-Some.is
    ∙ of_one c.in-Some.list (c.if-is_empty.ensures.0 refl)))

pub are_unit-returns-in-Some-2 : goal.are_unit-returns-in-Some-2
are_unit-returns-in-Some-2 t c =
    sym (ap (λ (o : Option TypeList). parts_are_unit (option_map is_unit_list o)) c.in-Some.is
    ∙ of_more c.in-Some.list (λ e. let f : false ≡ true = c.if-is_empty.ensures.1 e in cc))
