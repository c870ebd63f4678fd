use Rattle.std.proofs.Common.{◌≡◌, [], drop, add-one, sym, ◌∙◌, subst}
use Rattle.fort_core.specs.declared.value.Closure.{Closure}
use Rattle.fort_machine.specs.Parts.{in_clauses}
use Rattle.fort_sound_tables.specs.Leaves.{AllLeave, AllLeaveValues, Leaves}
use Rattle.fort_sound_tables.proofs.FormsLeave.{terms_done, clauses_done, values_done, terms_more, clauses_more, values_more, also_at, apply_at, as_is, as_value, atomic_at, call_at, fill_at, for_at, for_halves_at, function_at, function_value_at, group_at, if_at, large_at, let_at, mutable_at, object_at, operator_at, range_at, read_at, read_element_at, read_field_at, reduce_at, reduce_halves_at, size_at, small_at, stepped_at, text_at, then_at, throw_at, truth_at, try_of, last_none, last_some, tuple_at, typecase_at, value_at, variable_at, while_at, write_at, write_element_at, write_field_at}
use Rattle.fort_sound_tables.proofs.leaves.+leaves.Goals as goal

pub leaves-returns-in-Value : goal.leaves-returns-in-Value
leaves-returns-in-Value t c ok =
    as_is c.args.program.now c.args.x.now _ _ c.in-Value.is
    (value_at c.args.program.now c.args.x.now c.in-Value.value (c.value_leaves.ensures ok))

pub leaves-returns-in-Variable : goal.leaves-returns-in-Variable
leaves-returns-in-Variable t c ok =
    as_is c.args.program.now c.args.x.now _ _ c.in-Variable.is
    (variable_at c.args.program.now c.args.x.now _)

pub leaves-returns-in-Read : goal.leaves-returns-in-Read
leaves-returns-in-Read t c ok =
    as_is c.args.program.now c.args.x.now _ _ c.in-Read.is
    (read_at c.args.program.now c.args.x.now _ (c.slot_is_open.ensures ok))

pub leaves-returns-in-Fn : goal.leaves-returns-in-Fn
leaves-returns-in-Fn t c ok =
    as_is c.args.program.now c.args.x.now _ _ c.in-Fn.is
    (function_at c.args.program.now c.args.x.now _
    (subst (λ (z : Closure). z.held ≡ []) c.get.ensures (c.body_leaves.ensures.held ok))
    (subst (λ (z : Closure). Leaves c.args.program.now c.args.x.now z.body) c.get.ensures
    (c.body_leaves.ensures.body ok)))

pub leaves-returns-in-Throw : goal.leaves-returns-in-Throw
leaves-returns-in-Throw t c ok =
    as_is c.args.program.now c.args.x.now _ _ c.in-Throw.is
    (throw_at c.args.program.now c.args.x.now _ (as_is c.args.program.now c.args.x.now _ _ (sym
    c.get-in-Throw.ensures) (c.leaves.ensures ok)))

pub leaves-returns-in-Size : goal.leaves-returns-in-Size
leaves-returns-in-Size t c ok =
    as_is c.args.program.now c.args.x.now _ _ c.in-Size.is
    (size_at c.args.program.now c.args.x.now _ (as_is c.args.program.now c.args.x.now _ _ (sym
    c.get-in-Size.ensures) (c.leaves-in-Size.ensures ok)))

pub leaves-returns-in-Stepped : goal.leaves-returns-in-Stepped
leaves-returns-in-Stepped t c ok =
    as_is c.args.program.now c.args.x.now _ _ c.in-Stepped.is
    (stepped_at c.args.program.now c.args.x.now _ (as_is c.args.program.now c.args.x.now _ _
    (sym c.get-in-Stepped.ensures) (c.leaves-in-Stepped.ensures ok)))

pub leaves-returns-in-Atomic : goal.leaves-returns-in-Atomic
leaves-returns-in-Atomic t c ok =
    as_is c.args.program.now c.args.x.now _ _ c.in-Atomic.is
    (atomic_at c.args.program.now c.args.x.now _ _ (as_is c.args.program.now c.args.x.now _ _
    (sym c.get-in-Atomic.ensures) (c.leaves-in-Atomic.ensures ok)))

pub leaves-returns-then-slot_is_open : goal.leaves-returns-then-slot_is_open
leaves-returns-then-slot_is_open t c ok =
    as_is c.args.program.now c.args.x.now _ _ c.in-Write.is
    (write_at c.args.program.now c.args.x.now _ _
    (c.slot_is_open-in-Write.ensures c.if-slot_is_open.true)
    (as_is c.args.program.now c.args.x.now _ _ (sym c.get-then-slot_is_open.ensures)
    (c.leaves-then-slot_is_open.ensures ok)))

pub leaves-returns-then-not-is_own_field : goal.leaves-returns-then-not-is_own_field
leaves-returns-then-not-is_own_field t c ok =
    as_is c.args.program.now c.args.x.now _ _ c.in-ReadField.is
    (read_field_at c.args.program.now c.args.x.now _ _
    (sym c.is_own_field.ensures ∙ c.if-not-is_own_field.true)
    (as_is c.args.program.now c.args.x.now _ _ (sym c.get-then-not-is_own_field.ensures)
    (c.leaves-then-not-is_own_field.ensures ok)))

pub leaves-returns-in-Group : goal.leaves-returns-in-Group
leaves-returns-in-Group t c ok =
    as_is c.args.program.now c.args.x.now _ _ c.in-Group.is
    (group_at c.args.program.now c.args.x.now _ (c.all_leave.ensures ok))

pub leaves-returns-in-Also : goal.leaves-returns-in-Also
leaves-returns-in-Also t c ok =
    as_is c.args.program.now c.args.x.now _ _ c.in-Also.is
    (also_at c.args.program.now c.args.x.now _ (c.all_leave-in-Also.ensures ok))

pub leaves-returns-then-not-is_own_set : goal.leaves-returns-then-not-is_own_set
leaves-returns-then-not-is_own_set t c ok =
    as_is c.args.program.now c.args.x.now _ _ c.in-Call.is
    (call_at c.args.program.now c.args.x.now _ _
    (sym c.is_own_set.ensures ∙ c.if-not-is_own_set.true)
    (c.all_leave-then-not-is_own_set.ensures ok))

pub leaves-returns-then-not-is_own_set-2 : goal.leaves-returns-then-not-is_own_set-2
leaves-returns-then-not-is_own_set-2 t c ok =
    as_is c.args.program.now c.args.x.now _ _ c.in-Operator.is
    (operator_at c.args.program.now c.args.x.now _ _
    (sym c.is_own_set-in-Operator.ensures ∙ c.if-not-is_own_set-2.true)
    (c.all_leave-then-not-is_own_set-2.ensures ok))

pub two_leave-returns-then-leaves : goal.two_leave-returns-then-leaves
two_leave-returns-then-leaves t c ok =
    as_is c.args.program.now c.args.x.now _ _ c.in-Apply.is
    (apply_at c.args.program.now c.args.x.now _ _ (
      (as_is c.args.program.now c.args.x.now _ _ (sym c.get.ensures) (c.leaves.ensures
          c.if-leaves.true)),
      (as_is c.args.program.now c.args.x.now _ _ (sym
          c.get-then-leaves.ensures) (c.leaves-then-leaves.ensures ok)),
    ))

pub two_leave-returns-then-leaves-2 : goal.two_leave-returns-then-leaves-2
two_leave-returns-then-leaves-2 t c ok =
    as_is c.args.program.now c.args.x.now _ _ c.in-Fill.is
    (fill_at c.args.program.now c.args.x.now _ _ _ (
      (as_is c.args.program.now c.args.x.now _ _ (sym c.get-in-Fill.ensures)
          (c.leaves-in-Fill.ensures c.if-leaves-2.true)),
      (as_is c.args.program.now c.args.x.now _ _
          (sym c.get-then-leaves-2.ensures) (c.leaves-then-leaves-2.ensures ok)),
    ))

pub two_leave-returns-then-leaves-3 : goal.two_leave-returns-then-leaves-3
two_leave-returns-then-leaves-3 t c ok =
    as_is c.args.program.now c.args.x.now _ _ c.in-Let.is
    (let_at c.args.program.now c.args.x.now _ _ _ (
      (as_is c.args.program.now c.args.x.now _ _ (sym c.get-in-Let.ensures)
          (c.leaves-in-Let.ensures c.if-leaves-3.true)),
      (as_is c.args.program.now c.args.x.now _ _
          (sym c.get-then-leaves-3.ensures) (c.leaves-then-leaves-3.ensures ok)),
    ))

pub two_leave-returns-then-leaves-4 : goal.two_leave-returns-then-leaves-4
two_leave-returns-then-leaves-4 t c ok =
    as_is c.args.program.now c.args.x.now _ _ c.in-Mutable.is
    (mutable_at c.args.program.now c.args.x.now _ _ _ _ (
      (as_is c.args.program.now c.args.x.now _ _ (sym c.get-in-Mutable.ensures)
          (c.leaves-in-Mutable.ensures c.if-leaves-4.true)),
      (as_is c.args.program.now c.args.x.now _
          _ (sym c.get-then-leaves-4.ensures) (c.leaves-then-leaves-4.ensures ok)),
    ))

pub two_leave-returns-then-leaves-5 : goal.two_leave-returns-then-leaves-5
two_leave-returns-then-leaves-5 t c ok =
    as_is c.args.program.now c.args.x.now _ _ c.in-ReadElement.is
    (read_element_at c.args.program.now c.args.x.now _ _ (
      (as_is c.args.program.now c.args.x.now _ _ (sym c.get-in-ReadElement.ensures)
          (c.leaves-in-ReadElement.ensures c.if-leaves-5.true)),
      (as_is c.args.program.now
          c.args.x.now _ _ (sym c.get-then-leaves-5.ensures) (c.leaves-then-leaves-5.ensures ok)),
    ))

pub two_leave-returns-then-leaves-6 : goal.two_leave-returns-then-leaves-6
two_leave-returns-then-leaves-6 t c ok =
    as_is c.args.program.now c.args.x.now _ _ c.in-Then.is
    (then_at c.args.program.now c.args.x.now _ _ (
      (as_is c.args.program.now c.args.x.now _ _ (sym c.get-in-Then.ensures)
          (c.leaves-in-Then.ensures c.if-leaves-6.true)),
      (as_is c.args.program.now c.args.x.now _ _
          (sym c.get-then-leaves-6.ensures) (c.leaves-then-leaves-6.ensures ok)),
    ))

pub two_leave-returns-then-leaves-7 : goal.two_leave-returns-then-leaves-7
two_leave-returns-then-leaves-7 t c ok =
    as_is c.args.program.now c.args.x.now _ _ c.in-While.is
    (while_at c.args.program.now c.args.x.now _ _ (
      (as_is c.args.program.now c.args.x.now _ _ (sym c.get-in-While.ensures)
          (c.leaves-in-While.ensures c.if-leaves-7.true)),
      (as_is c.args.program.now c.args.x.now _ _
          (sym c.get-then-leaves-7.ensures) (c.leaves-then-leaves-7.ensures ok)),
    ))

pub two_leave-returns-then-leaves-8 : goal.two_leave-returns-then-leaves-8
two_leave-returns-then-leaves-8 t c ok =
    as_is c.args.program.now c.args.x.now _ _ c.in-ForHalves.is
    (for_halves_at c.args.program.now c.args.x.now _ _ (
      (as_is c.args.program.now c.args.x.now _ _ (sym c.get-in-ForHalves.ensures)
          (c.leaves-in-ForHalves.ensures c.if-leaves-8.true)),
      (as_is c.args.program.now c.args.x.now
          _ _ (sym c.get-then-leaves-8.ensures) (c.leaves-then-leaves-8.ensures ok)),
    ))

pub two_leave-returns-then-leaves-9 : goal.two_leave-returns-then-leaves-9
two_leave-returns-then-leaves-9 t c ok =
    as_is c.args.program.now c.args.x.now _ _ c.in-WriteField.is
    (write_field_at c.args.program.now c.args.x.now _ _ _ (sym c.is_own_field.ensures ∙
    c.if-is_own_field.false) (
      (as_is c.args.program.now c.args.x.now _ _ (sym c.get-in-WriteField.ensures)
          (c.leaves-in-WriteField.ensures c.if-leaves-9.true)),
      (as_is c.args.program.now c.args.x.now
          _ _ (sym c.get-then-leaves-9.ensures) (c.leaves-then-leaves-9.ensures ok)),
    ))

pub two_leave-returns-then-leaves-10 : goal.two_leave-returns-then-leaves-10
two_leave-returns-then-leaves-10 t c ok =
    as_is c.args.program.now c.args.x.now _ _ c.in-For.is
    (for_at c.args.program.now c.args.x.now _ _ _ _ _ (c.is_whole.ensures c.if-not-is_whole.false) (
      (as_is c.args.program.now c.args.x.now _ _ (sym c.get-in-For.ensures)
          (c.leaves-in-For.ensures c.if-leaves-10.true)),
      (as_is c.args.program.now c.args.x.now _ _
          (sym c.get-then-leaves-10.ensures) (c.leaves-then-leaves-10.ensures ok)),
    ))

pub two_leave-returns-then-leaves-11 : goal.two_leave-returns-then-leaves-11
two_leave-returns-then-leaves-11 t c ok =
    as_is c.args.program.now c.args.x.now _ _ c.in-ReduceHalves.is
    (reduce_halves_at c.args.program.now c.args.x.now _ _ _ (sym c.is_own_set.ensures ∙
    c.if-is_own_set.false) (
      (as_is c.args.program.now c.args.x.now _ _ (sym c.get-in-ReduceHalves.ensures)
          (c.leaves-in-ReduceHalves.ensures c.if-leaves-11.true)),
      (as_is c.args.program.now
          c.args.x.now _ _ (sym c.get-then-leaves-11.ensures) (c.leaves-then-leaves-11.ensures ok)),
    ))

pub more_leave-returns-then-leaves : goal.more_leave-returns-then-leaves
more_leave-returns-then-leaves t c ok =
    as_is c.args.program.now c.args.x.now _ _ c.in-Typecase.is
    (typecase_at c.args.program.now c.args.x.now _ _ _ _ (
      (as_is c.args.program.now c.args.x.now
          _ _ (sym c.get.ensures) (c.leaves.ensures c.if-leaves.true)),
      (as_is c.args.program.now
          c.args.x.now _ _ (sym c.get-then-leaves.ensures) (c.leaves-then-leaves.ensures ok)),
    )
    (c.clauses_leave.ensures c.if-not-clauses_leave.false))

pub more_leave-returns-then-leaves-2 : goal.more_leave-returns-then-leaves-2
more_leave-returns-then-leaves-2 t c ok =
    as_is c.args.program.now c.args.x.now _ _ c.in-Try.is
    (try_of c.args.program.now c.args.x.now _ _ _ _ (as_is c.args.program.now c.args.x.now _ _
    (sym c.get-in-Try.ensures) (c.leaves-in-Try.ensures c.if-leaves-2.true))
    (c.last_leaves.ensures ok) (c.clauses_leave-in-Try.ensures c.if-not-clauses_leave-2.false))

pub write_element_leaves-returns-then-leaves : goal.write_element_leaves-returns-then-leaves
write_element_leaves-returns-then-leaves t c ok =
    as_is c.args.program.now c.args.x.now _ _ c.in-WriteElement.is
    (write_element_at c.args.program.now c.args.x.now _ _ _ (
      (as_is c.args.program.now c.args.x.now _ _ (sym c.get.ensures) (c.leaves.ensures
          c.if-not-leaves.false)),
      (as_is c.args.program.now c.args.x.now _ _ (sym c.get-2.ensures)
          (c.leaves-2.ensures c.if-leaves.true)),
    ) (as_is c.args.program.now c.args.x.now _ _ (sym
    c.get-then-leaves.ensures) (c.leaves-then-leaves.ensures ok)))

pub if_leaves-returns-then-leaves : goal.if_leaves-returns-then-leaves
if_leaves-returns-then-leaves t c ok =
    as_is c.args.program.now c.args.x.now _ _ c.in-If.is
    (if_at c.args.program.now c.args.x.now _ _ _ (
      (as_is c.args.program.now c.args.x.now _ _ (sym c.get.ensures) (c.leaves.ensures
          c.if-not-leaves.false)),
      (as_is c.args.program.now c.args.x.now _ _ (sym c.get-2.ensures)
          (c.leaves-2.ensures c.if-leaves.true)),
    ) (as_is c.args.program.now c.args.x.now _ _ (sym
    c.get-then-leaves.ensures) (c.leaves-then-leaves.ensures ok)))

pub reduce_leaves-returns-then-leaves : goal.reduce_leaves-returns-then-leaves
reduce_leaves-returns-then-leaves t c ok =
    as_is c.args.program.now c.args.x.now _ _ c.in-Reduce.is
    (reduce_at c.args.program.now c.args.x.now _ _ _ _ _ _ _ (c.is_free.ensures.whole
    c.if-not-is_free.false)
    (c.is_free.ensures.other c.if-not-is_free.false) (
      (as_is c.args.program.now c.args.x.now _ _ (sym c.get.ensures) (c.leaves.ensures
          c.if-not-leaves.false)),
      (as_is c.args.program.now c.args.x.now _ _ (sym c.get-2.ensures)
          (c.leaves-2.ensures c.if-leaves.true)),
    ) (as_is c.args.program.now c.args.x.now _ _ (sym
    c.get-then-leaves.ensures) (c.leaves-then-leaves.ensures ok)))

pub last_leaves-returns-in-None : goal.last_leaves-returns-in-None
last_leaves-returns-in-None t c ok =
    last_none c.args.program.now c.args.x.now _ c.in-None.is

pub last_leaves-returns-in-Some : goal.last_leaves-returns-in-Some
last_leaves-returns-in-Some t c ok =
    last_some c.args.program.now c.args.x.now _ _ c.in-Some.is
    (as_is c.args.program.now c.args.x.now _ _ (sym c.get.ensures) (c.leaves.ensures ok))

pub value_leaves-returns-in-Small : goal.value_leaves-returns-in-Small
value_leaves-returns-in-Small t c ok =
    as_value c.args.program.now c.args.x.now _ _ c.in-Small.is
    (small_at c.args.program.now c.args.x.now _)

pub value_leaves-returns-in-Large : goal.value_leaves-returns-in-Large
value_leaves-returns-in-Large t c ok =
    as_value c.args.program.now c.args.x.now _ _ c.in-Large.is
    (large_at c.args.program.now c.args.x.now _)

pub value_leaves-returns-in-Truth : goal.value_leaves-returns-in-Truth
value_leaves-returns-in-Truth t c ok =
    as_value c.args.program.now c.args.x.now _ _ c.in-Truth.is
    (truth_at c.args.program.now c.args.x.now _)

pub value_leaves-returns-in-Text : goal.value_leaves-returns-in-Text
value_leaves-returns-in-Text t c ok =
    as_value c.args.program.now c.args.x.now _ _ c.in-Text.is
    (text_at c.args.program.now c.args.x.now _)

pub value_leaves-returns-in-Range : goal.value_leaves-returns-in-Range
value_leaves-returns-in-Range t c ok =
    as_value c.args.program.now c.args.x.now _ _ c.in-Range.is
    (range_at c.args.program.now c.args.x.now _ _)

pub value_leaves-returns-in-Tuple : goal.value_leaves-returns-in-Tuple
value_leaves-returns-in-Tuple t c ok =
    as_value c.args.program.now c.args.x.now _ _ c.in-Tuple.is
    (tuple_at c.args.program.now c.args.x.now _
    (subst (λ z. AllLeaveValues c.args.program.now c.args.x.now z) c.get.ensures
    (c.values_leave.ensures ok)))

pub value_leaves-returns-in-Object : goal.value_leaves-returns-in-Object
value_leaves-returns-in-Object t c ok =
    as_value c.args.program.now c.args.x.now _ _ c.in-Object.is
    (object_at c.args.program.now c.args.x.now _ _ (c.object_leaves.ensures ok))

pub value_leaves-returns-in-Function : goal.value_leaves-returns-in-Function
value_leaves-returns-in-Function t c ok =
    as_value c.args.program.now c.args.x.now _ _ c.in-Function.is
    (function_value_at c.args.program.now c.args.x.now _
    (subst (λ (z : Closure). z.held ≡ []) c.get-in-Function.ensures (c.body_leaves.ensures.held ok))
    (subst (λ (z : Closure). Leaves c.args.program.now c.args.x.now z.body)
    c.get-in-Function.ensures
    (c.body_leaves.ensures.body ok)))

pub all_leave-loop-term-preserved : goal.all_leave-loop-term-preserved
all_leave-loop-term-preserved t c rest =
    c.loop-term.invariant
    (terms_more c.args.program.now c.args.x.now _ c.loop-term.term-index _ c.loop-term-test.true
    c.term-item.is
    (as_is c.args.program.now c.args.x.now _ _ (sym c.get.ensures)
    (c.leaves.ensures c.if-not-leaves.false))
    (subst (λ n. AllLeave c.args.program.now c.args.x.now
    (drop n c.as_slice-term-items.result.now)) (add-one c.loop-term.term-index) rest))

pub clauses_leave-loop-clause-preserved : goal.clauses_leave-loop-clause-preserved
clauses_leave-loop-clause-preserved t c rest =
    c.loop-clause.invariant
    (clauses_more c.args.program.now c.args.x.now _ c.loop-clause.clause-index _
    c.loop-clause-test.true c.clause-item.is
    (as_is c.args.program.now c.args.x.now _ _ (sym c.get.ensures)
    (c.leaves.ensures c.if-not-leaves.false))
    (subst (λ n. AllLeave c.args.program.now c.args.x.now
    (in_clauses (drop n c.as_slice-clause-items.result.now)))
    (add-one c.loop-clause.clause-index) rest))

pub values_leave-loop-value-preserved : goal.values_leave-loop-value-preserved
values_leave-loop-value-preserved t c rest =
    c.loop-value.invariant
    (values_more c.args.program.now c.args.x.now _ c.loop-value.value-index _
    c.loop-value-test.true c.value-item.is (c.value_leaves.ensures c.if-not-value_leaves.false)
    (subst (λ n. AllLeaveValues c.args.program.now c.args.x.now
    (drop n c.as_slice-value-items.result.now)) (add-one c.loop-value.value-index) rest))

pub all_leave-returns : goal.all_leave-returns
all_leave-returns t c ok =
    subst (λ z. AllLeave c.args.program.now c.args.x.now z) c.as_slice-term-items.ensures
    (c.loop-term.invariant
    (terms_done c.args.program.now c.args.x.now _ c.loop-term.term-index c.loop-term-test.false))

pub clauses_leave-returns : goal.clauses_leave-returns
clauses_leave-returns t c ok =
    subst (λ z. AllLeave c.args.program.now c.args.x.now (in_clauses z))
    c.as_slice-clause-items.ensures
    (c.loop-clause.invariant
    (clauses_done c.args.program.now c.args.x.now _ c.loop-clause.clause-index
    c.loop-clause-test.false))

pub values_leave-returns : goal.values_leave-returns
values_leave-returns t c ok =
    subst (λ z. AllLeaveValues c.args.program.now c.args.x.now z) c.as_slice-value-items.ensures
    (c.loop-value.invariant
    (values_done c.args.program.now c.args.x.now _ c.loop-value.value-index
    c.loop-value-test.false))
