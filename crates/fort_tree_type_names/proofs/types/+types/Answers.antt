use Rattle.std.proofs.Common.{List, Option, ap, ◌∙◌}
use Rattle.std.specs.Prelude.{map, option_map}
use Rattle.fort_tree.specs.declared.types.NextType.{NextType}
use Rattle.fort_tree.specs.declared.types.SimpleType.{SimpleType}
use Rattle.fort_tree.specs.declared.types.TypeList.{TypeList}
use Rattle.fort_tree.specs.declared.types.TypeTree.{TypeTree}
use Rattle.fort_tree_type_names.specs.Mentioned.{all_mentioned, maybe_mentioned}
use Rattle.fort_tree_type_names.specs.Mentions.{mentioned_type, mentioned_simple_type, mentioned_next_type, mentioned_type_list}
use Rattle.fort_tree_type_names.proofs.Steps.{by, one_added, two_added, one_more_of}
use Rattle.fort_tree_type_names.proofs.MentionsTypes.{mentions-Simple, mentions-Arrow, mentions-Named, mentions-Array, mentions-Parts, type_list_mentions, next_type_mentions}
use Rattle.fort_tree_type_names.proofs.types.+types.Goals as goal

pub add_type-returns-in_ok-add_simple_type-in-Simple : goal.add_type-returns-in_ok-add_simple_type-in-Simple
add_type-returns-in_ok-add_simple_type-in-Simple t c =
    one_added _ c.in_ok-add_simple_type-in-Simple.ensures (ap (λ
    (x : TypeTree). mentioned_type x) c.in-Simple.is ∙ mentions-Simple _)

pub add_type-returns-in_ok-add_simple_type-in-Arrow-2 : goal.add_type-returns-in_ok-add_simple_type-in-Arrow-2
add_type-returns-in_ok-add_simple_type-in-Arrow-2 t c =
    two_added _ _ _ c.in_ok-add_simple_type-in-Arrow.ensures
    c.in_ok-add_simple_type-in-Arrow-2.ensures (ap (λ
    (x : TypeTree). mentioned_type x) c.in-Arrow.is ∙ mentions-Arrow _ _ _)

pub add_simple_type-returns-in_ok-push-in-Named : goal.add_simple_type-returns-in_ok-push-in-Named
add_simple_type-returns-in_ok-push-in-Named t c =
    one_added _ c.in_ok-push-in-Named.ensures.ok (ap (λ
    (x : SimpleType). mentioned_simple_type x) c.in-Named.is ∙ mentions-Named _)

pub add_simple_type-returns-in_ok-add_type-in-Array : goal.add_simple_type-returns-in_ok-add_type-in-Array
add_simple_type-returns-in_ok-add_type-in-Array t c =
    one_added _ (by (λ
    (x : TypeTree). mentioned_type x) _ c.get.ensures c.in_ok-add_type-in-Array.ensures) (ap (λ
    (x : SimpleType). mentioned_simple_type x) c.in-Array.is ∙ mentions-Array _ _ _ _ _ _)

pub add_simple_type-returns-in_ok-add_maybe_types-in-Parts : goal.add_simple_type-returns-in_ok-add_maybe_types-in-Parts
add_simple_type-returns-in_ok-add_maybe_types-in-Parts t c =
    one_added _ c.in_ok-add_maybe_types-in-Parts.ensures (ap (λ
    (x : SimpleType). mentioned_simple_type x) c.in-Parts.is ∙ mentions-Parts _ _ _)

pub add_maybe_types-returns-in_ok-add_next_types : goal.add_maybe_types-returns-in_ok-add_next_types
add_maybe_types-returns-in_ok-add_next_types t c =
    two_added _ _ _ (by (λ
    (x : TypeTree). mentioned_type x) _ c.get.ensures c.in_ok-add_type.ensures) (by (λ
    (l : List NextType). all_mentioned (map mentioned_next_type l)) _ c.as_slice.ensures
    c.in_ok-add_next_types.ensures) (ap (λ
    (o : Option TypeList). maybe_mentioned (option_map mentioned_type_list o)) c.in-Some.is
    ∙ type_list_mentions c.in-Some.list)

pub add_next_types-loop-next-preserved : goal.add_next_types-loop-next-preserved
add_next_types-loop-next-preserved t c =
    one_more_of mentioned_next_type c.args.types.now c.loop-next.next-index c.next-item.result
    c.args.names.now c.loop-next.names _ c.loop-next-test.true c.next-item.is c.loop-next.invariant
    (one_added _ c.in_ok-add_type.ensures (next_type_mentions c.next-item.result))
