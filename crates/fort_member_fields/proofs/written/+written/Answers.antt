use Rattle.std.proofs.Common.{◌≡◌, false, true, [], ◌∷◌, ◌++◌, map, sym, ap, ◌∙◌}
use Rattle.fort_member_fields.specs.Written.{written, written_simple, written_next}
use Rattle.fort_member_fields.proofs.Walking.{map_more}
use Rattle.fort_member_fields.proofs.WrittenLaws.{next_type_writes, writes-Simple, writes-Named, writes-Parts, array_written, arrow_written, one_part, more_parts}
use Rattle.fort_member_fields.proofs.written.+written.Goals as goal

pub add_next_types-loop-next-preserved : goal.add_next_types-loop-next-preserved
add_next_types-loop-next-preserved t c =
    λ list h e. map_more (written_next list c.args.names.now) c.args.others.now
    c.loop-next.next-index c.next-item.result _ c.args.types.now _ _ c.loop-next-test.true
    c.next-item.is
    (c.in_ok-written_type.ensures list h e
    ∙ sym (next_type_writes list c.args.names.now c.next-item.result))
    (c.loop-next.invariant list h e) c.in_ok-push.ensures.ok

pub maybe_parts-returns-then-is_empty : goal.maybe_parts-returns-then-is_empty
maybe_parts-returns-then-is_empty t c =
    λ list h e. one_part list c.args.names.now c.args.types.now c.in-Some.list _ c.in-Some.is
    (c.is_empty.ensures.0 c.if-is_empty.true)
    (c.in_ok-first-in-Some.ensures list h e ∙ ap (written list c.args.names.now) c.get.ensures)

pub maybe_parts-returns-in_ok-add_next_types-in-Some : goal.maybe_parts-returns-in_ok-add_next_types-in-Some
maybe_parts-returns-in_ok-add_next_types-in-Some t c =
    λ list h e. more_parts list c.args.names.now c.args.types.now c.in-Some.list
    c.in_ok-first-in-Some.first _ c.in-Some.is
    (λ q. let f = c.is_empty.ensures.1 q in let g : false ≡ true = sym c.if-is_empty.false ∙ f
    in cc)
    (c.in_ok-first-in-Some.ensures list h e ∙ ap (written list c.args.names.now) c.get.ensures)
    (c.in_ok-add_next_types-in-Some.ensures list h e
    ∙ ap (λ z. z ++ map (written_next list c.args.names.now) c.as_slice.result.now)
    (c.in_ok-push-in-Some.ensures.ok
    ∙ ap (λ z. z ++ c.in_ok-first-in-Some.first ∷ []) c.new-all.ensures)
    ∙ ap (λ z. (c.in_ok-first-in-Some.first ∷ []) ++ map (written_next list c.args.names.now) z)
    c.as_slice.ensures)

pub simple_type-returns-in_ok-ty-in-Named : goal.simple_type-returns-in_ok-ty-in-Named
simple_type-returns-in_ok-ty-in-Named t c =
    λ list h e. c.in_ok-ty-in-Named.ensures list h e
    ∙ sym (ap (written_simple list c.args.names.now) c.in-Named.is
    ∙ writes-Named list c.args.names.now _)

pub simple_type-returns-in_ok-ty-in-Parts : goal.simple_type-returns-in_ok-ty-in-Parts
simple_type-returns-in_ok-ty-in-Parts t c =
    λ list h e. c.in_ok-ty-in-Parts.ensures list h e
    ∙ sym (ap (written_simple list c.args.names.now) c.in-Parts.is
    ∙ writes-Parts list c.args.names.now _ _ _)

pub simple_type-returns-in_ok-new-in-Array : goal.simple_type-returns-in_ok-new-in-Array
simple_type-returns-in_ok-new-in-Array t c =
    λ list h e. array_written list c.args.names.now c.args.simple.now _ _ _ _ _ _ _ c.in-Array.is
    (c.in_ok-new-in-Array.ensures ∙ c.in_ok-inner-in-Array.ensures list h e
    ∙ ap (written list c.args.names.now) c.get.ensures)

pub written_type-returns-in_ok-ty-in-Simple : goal.written_type-returns-in_ok-ty-in-Simple
written_type-returns-in_ok-ty-in-Simple t c =
    λ list h e. c.in_ok-ty-in-Simple.ensures list h e
    ∙ sym (ap (written list c.args.names.now) c.in-Simple.is
    ∙ writes-Simple list c.args.names.now _)

pub written_type-returns-in_ok-new-in-Arrow-2 : goal.written_type-returns-in_ok-new-in-Arrow-2
written_type-returns-in_ok-new-in-Arrow-2 t c =
    λ list h e. arrow_written list c.args.names.now c.args.tree.now _ _ _ _ _ c.in-Arrow.is
    (c.in_ok-new-in-Arrow.ensures
    ∙ c.in_ok-from-in-Arrow.ensures list h e) (c.in_ok-new-in-Arrow-2.ensures
    ∙ c.in_ok-to-in-Arrow.ensures list h e)
