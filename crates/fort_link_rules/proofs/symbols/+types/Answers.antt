use Rattle.std.proofs.Common.{List, Option, [], ◌∷◌, ◌++◌, length, ap, sym, ◌∙◌}
use Rattle.std.specs.Prelude.{map, option_map}
use Rattle.fort_tree.specs.declared.types.NextType.{NextType}
use Rattle.fort_tree.specs.declared.types.SimpleType.{SimpleType}
use Rattle.fort_tree.specs.declared.types.TypeList.{TypeList, out-TypeList}
use Rattle.fort_tree.specs.declared.types.TypeTree.{TypeTree}
use Rattle.fort_link_rules.specs.declared.symbols.Symbol.TheVariants as symbol
use Rattle.fort_link_rules.specs.Symbols.{all_symbols, parts_symbols, tuple_symbols, type_symbols, simple_type_symbols, next_type_symbols, type_list_symbols}
use Rattle.fort_link_rules.proofs.Steps.{by, one_added, two_added, three_added, one_more_of}
use Rattle.fort_link_rules.proofs.Written.{writes-Simple, writes-Arrow, writes-Named, writes-Array, writes-Parts, parts_written, next_type_writes}
use Rattle.fort_link_rules.proofs.symbols.+types.Goals as goal

pub add_type-returns-in_ok-add_simple_type-in-Simple : goal.add_type-returns-in_ok-add_simple_type-in-Simple
add_type-returns-in_ok-add_simple_type-in-Simple t c =
    one_added _ c.in_ok-add_simple_type-in-Simple.ensures (ap (λ
    (x : TypeTree). type_symbols x) c.in-Simple.is ∙ writes-Simple _)

pub add_type-returns-in_ok-add_simple_type-in-Arrow-2 : goal.add_type-returns-in_ok-add_simple_type-in-Arrow-2
add_type-returns-in_ok-add_simple_type-in-Arrow-2 t c =
    three_added _ (symbol.Arrow ∷ []) _ _ c.in_ok-push-in-Arrow.ensures.ok
    c.in_ok-add_simple_type-in-Arrow.ensures c.in_ok-add_simple_type-in-Arrow-2.ensures (ap (λ
    (x : TypeTree). type_symbols x) c.in-Arrow.is ∙ writes-Arrow _ _ _)

pub add_simple_type-returns-in_ok-push-in-Named : goal.add_simple_type-returns-in_ok-push-in-Named
add_simple_type-returns-in_ok-push-in-Named t c =
    one_added _ c.in_ok-push-in-Named.ensures.ok (ap (λ
    (x : SimpleType). simple_type_symbols x) c.in-Named.is ∙ writes-Named _)

pub add_simple_type-returns-in_ok-add_type-in-Array : goal.add_simple_type-returns-in_ok-add_type-in-Array
add_simple_type-returns-in_ok-add_type-in-Array t c =
    two_added _ (symbol.Array ∷ []) _ c.in_ok-push-in-Array.ensures.ok (by (λ
    (x : TypeTree). type_symbols x) _ c.get.ensures c.in_ok-add_type-in-Array.ensures) (ap (λ
    (x : SimpleType). simple_type_symbols x) c.in-Array.is ∙ writes-Array _ _ _ _ _ _)

pub add_simple_type-returns-in_ok-add_parts-in-Parts : goal.add_simple_type-returns-in_ok-add_parts-in-Parts
add_simple_type-returns-in_ok-add_parts-in-Parts t c =
    one_added _ c.in_ok-add_parts-in-Parts.ensures (ap (λ
    (x : SimpleType). simple_type_symbols x) c.in-Parts.is ∙ writes-Parts _ _ _)

pub add_parts-returns-in_ok-add_next_types-in-Some : goal.add_parts-returns-in_ok-add_next_types-in-Some
add_parts-returns-in_ok-add_next_types-in-Some t c =
    three_added _ (tuple_symbols (length c.as_slice-others.result.now)) _ _
    c.in_ok-add_tuple-in-Some.ensures (by (λ
    (x : TypeTree). type_symbols x) _ c.get.ensures c.in_ok-add_type-in-Some.ensures) (by (λ
    (l : List NextType). all_symbols (map next_type_symbols l)) _ c.as_slice-others.ensures
    c.in_ok-add_next_types-in-Some.ensures) (ap (λ
    (o : Option TypeList). parts_symbols (option_map type_list_symbols o)) c.in-Some.is
    ∙ (parts_written c.in-Some.list ∙ ap (λ
    (l : List NextType). tuple_symbols (length l)
    ++ (type_symbols (out-TypeList c.in-Some.list).first
    ++ all_symbols (map next_type_symbols (out-TypeList c.in-Some.list).others))) (sym c.as_slice-others.ensures)))

pub add_parts-returns-in_ok-push-in-None : goal.add_parts-returns-in_ok-push-in-None
add_parts-returns-in_ok-push-in-None t c =
    one_added _ c.in_ok-push-in-None.ensures.ok (ap (λ
    (o : Option TypeList). parts_symbols (option_map type_list_symbols o)) c.in-None.is)

pub add_next_types-loop-next-preserved : goal.add_next_types-loop-next-preserved
add_next_types-loop-next-preserved t c =
    one_more_of next_type_symbols c.args.types.now c.loop-next.next-index c.next-item.result
    c.args.out.now c.loop-next.out _ c.loop-next-test.true c.next-item.is c.loop-next.invariant
    (one_added _ c.in_ok-add_type.ensures (next_type_writes c.next-item.result))
