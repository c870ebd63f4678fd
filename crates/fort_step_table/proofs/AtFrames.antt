-- What a form does by the code's frame round its part.
use Rattle.std.proofs.Common.{◌≡◌, ℕ, ◌+◌, List, [], ◌∷◌, ◌++◌, drop, length, map, Option, refl, ap, ◌∙◌}
use Rattle.fort_base.specs.declared.ids.NameId.{NameId}
use Rattle.fort_base.specs.declared.ids.SetId.{SetId}
use Rattle.fort_base.specs.declared.ty.Ty.{Ty}
use Rattle.fort_core.specs.declared.form.Order.{Order}
use Rattle.fort_core.specs.declared.form.Slot.{Slot}
use Rattle.fort_core.specs.declared.form.Span.{Span}
use Rattle.fort_core.specs.declared.program.Program.{Program}
use Rattle.fort_core.specs.declared.term.Term.{Term}
use Rattle.fort_core.specs.declared.term.Term as term
use Rattle.fort_core.specs.declared.value.Value.{Value, out-Value}
use Rattle.fort_frames.specs.Frames.{frame_of}
use Rattle.fort_frames.specs.declared.frame.Frame.{Frame}
use Rattle.fort_frames.specs.declared.frame.Frame.TheVariants as frame
use Rattle.fort_frames.specs.declared.node.Node.{Node}
use Rattle.fort_machine.specs.Acts.{Act, stuck, makes, becomes, calls, after, after_all}
use Rattle.fort_machine.specs.Ends.{at_value, at_throw, throw_of}
use Rattle.fort_machine.specs.Forms.{act, filling, binding, reading_at, writing_at, location_of, field_of, by_element, sizing, choosing, clause_for, trying}
use Rattle.fort_machine.specs.Frames.{on}
use Rattle.fort_machine.specs.Generators.{generating, reducing}
use Rattle.fort_machine.specs.Substitution.{substituted, located, bound_to}
use Rattle.fort_machine.proofs.Standing.{standing-Value, standing-throw}
use Rattle.fort_step_table.proofs.AtParts.{by_value, by_throw, throw_acts, operator_acts, fill_acts, let_acts, mutable_acts, write_acts, read_field_acts, write_field_acts, read_element_acts, write_element_acts, size_acts, then_acts, if_acts, typecase_acts, for_acts, reduce_acts, try_acts}
use Rattle.fort_step_table.proofs.InOrder.{throw_behind}

module _ (p : Program) (v : Value) where
  -- a form's part at a value
  abbrev pub at_v : Frame → Act
  at_v f = act p (on (frame_of f) (term.Value v))

  pub throw_value : at_v frame.Throw ≡ stuck
  throw_value = throw_acts p (term.Value v) ∙ by_value v (λ u. stuck)

  pub operand_value : (set : SetId) (vs : List Value) (ts : List Term)
      → at_v (frame.Operand set vs ts)
      ≡ after_all (map term.Value vs ++ term.Value v ∷ drop (length vs + 1) ts) (calls set)
  operand_value set vs ts =
      operator_acts p set (map term.Value vs ++ term.Value v ∷ drop (length vs + 1) ts)

  pub fill_size_value : (ty : Ty) (a : Term)
      → at_v (frame.FillSize ty a) ≡ after a (λ u. filling p ty u (out-Value v))
  fill_size_value ty a =
      fill_acts p ty (term.Value v) a
      ∙ by_value v (λ size. after a (λ u. filling p ty u (out-Value size)))

  pub fill_value_value : (ty : Ty) (size : Value)
      → at_v (frame.FillValue ty size) ≡ filling p ty v (out-Value size)
  fill_value_value ty size =
      fill_acts p ty (term.Value size) (term.Value v)
      ∙ by_value size (λ n. after (term.Value v) (λ u. filling p ty u (out-Value n)))
      ∙ by_value v (λ u. filling p ty u (out-Value size))

  pub let_value : (xs : List (ℕ × Ty)) (b : Term)
      → at_v (frame.Let xs b) ≡ binding (bound_to xs v) b
  let_value xs b = let_acts p xs (term.Value v) b ∙ by_value v (λ u. binding (bound_to xs u) b)

  pub mutable_value : (x : ℕ) (ty : Ty) (b : Term)
      → at_v (frame.Mutable x ty b) ≡ makes (v ∷ []) (λ l. located x l b) 1
  mutable_value x ty b =
      mutable_acts p x ty (term.Value v) b ∙ by_value v (λ u. makes (u ∷ []) (λ l. located x l b) 1)

  pub write_value : (x : Slot) → at_v (frame.Write x) ≡ writing_at (location_of x) v
  write_value x = write_acts p x (term.Value v) ∙ by_value v (writing_at (location_of x))

  pub field_value : (f : NameId) → at_v (frame.Field f) ≡ reading_at (field_of p f (out-Value v))
  field_value f =
      read_field_acts p (term.Value v) f ∙ by_value v (λ u. reading_at (field_of p f (out-Value u)))

  pub field_target_value : (f : NameId) (a : Term)
      → at_v (frame.FieldTarget f a) ≡ after a (writing_at (field_of p f (out-Value v)))
  field_target_value f a =
      write_field_acts p (term.Value v) f a
      ∙ by_value v (λ u. after a (writing_at (field_of p f (out-Value u))))

  pub field_value_value : (o : Value) (f : NameId)
      → at_v (frame.FieldValue o f) ≡ writing_at (field_of p f (out-Value o)) v
  field_value_value o f =
      write_field_acts p (term.Value o) f (term.Value v)
      ∙ by_value o (λ u. after (term.Value v) (writing_at (field_of p f (out-Value u))))
      ∙ by_value v (writing_at (field_of p f (out-Value o)))

  pub element_value : (i : Term)
      → at_v (frame.Element i) ≡ after i (λ w. by_element p (out-Value v) (out-Value w) reading_at)
  element_value i =
      read_element_acts p (term.Value v) i
      ∙ by_value v (λ u. after i (λ w. by_element p (out-Value u) (out-Value w) reading_at))

  pub index_value : (a : Value)
      → at_v (frame.Index a) ≡ by_element p (out-Value a) (out-Value v) reading_at
  index_value a =
      read_element_acts p (term.Value a) (term.Value v)
      ∙ by_value a
      (λ u. after (term.Value v) (λ w. by_element p (out-Value u) (out-Value w) reading_at))
      ∙ by_value v (λ w. by_element p (out-Value a) (out-Value w) reading_at)

  pub element_target_value : (i b : Term)
      → at_v (frame.ElementTarget i b)
      ≡ after i (λ w. after b (λ u. by_element p (out-Value v) (out-Value w) (λ l. writing_at l u)))
  element_target_value i b =
      write_element_acts p (term.Value v) i b
      ∙ by_value v
      (λ z. after i
      (λ w. after b (λ u. by_element p (out-Value z) (out-Value w) (λ l. writing_at l u))))

  pub element_index_value : (a : Value) (b : Term)
      → at_v (frame.ElementIndex a b)
      ≡ after b (λ u. by_element p (out-Value a) (out-Value v) (λ l. writing_at l u))
  element_index_value a b =
      write_element_acts p (term.Value a) (term.Value v) b
      ∙ by_value a
      (λ z. after (term.Value v)
      (λ w. after b (λ u. by_element p (out-Value z) (out-Value w) (λ l. writing_at l u))))
      ∙ by_value v
      (λ w. after b (λ u. by_element p (out-Value a) (out-Value w) (λ l. writing_at l u)))

  pub element_value_value : (a i : Value)
      → at_v (frame.ElementValue a i)
      ≡ by_element p (out-Value a) (out-Value i) (λ l. writing_at l v)
  element_value_value a i =
      write_element_acts p (term.Value a) (term.Value i) (term.Value v)
      ∙ by_value a
      (λ z. after (term.Value i)
      (λ w. after (term.Value v)
      (λ u. by_element p (out-Value z) (out-Value w) (λ l. writing_at l u))))
      ∙ by_value i
      (λ w. after (term.Value v)
      (λ u. by_element p (out-Value a) (out-Value w) (λ l. writing_at l u)))
      ∙ by_value v (λ u. by_element p (out-Value a) (out-Value i) (λ l. writing_at l u))

  pub size_value : at_v frame.Size ≡ sizing (out-Value v)
  size_value = size_acts p (term.Value v) ∙ by_value v (λ u. sizing (out-Value u))

  pub then_value : (b : Term) → at_v (frame.Then b) ≡ becomes b
  then_value b = then_acts p (term.Value v) b ∙ by_value v (λ u. becomes b)

  pub test_value : (a b : Term) → at_v (frame.Test a b) ≡ choosing (out-Value v) a b
  test_value a b = if_acts p (term.Value v) a b ∙ by_value v (λ u. choosing (out-Value u) a b)

  pub subject_value : (x : ℕ) (cs : List (Term × Ty)) (b : Term)
      → at_v (frame.Subject x cs b)
      ≡ becomes (clause_for p v cs (substituted x v b) (substituted x v))
  subject_value x cs b =
      typecase_acts p x (term.Value v) cs b
      ∙ by_value v (λ u. becomes (clause_for p u cs (substituted x u b) (substituted x u)))

  pub source_value : (o : Order) (s : Span) (x : ℕ) (b : Term)
      → at_v (frame.Source o s x b) ≡ generating o s x v b
  source_value o s x b = for_acts p o s x (term.Value v) b ∙ by_value v (λ u. generating o s x u b)

  pub reduced_value : (o : Order) (s : Span) (set : SetId) (empty : Term) (x : ℕ) (b : Term)
      → at_v (frame.ReducedSource o s set empty x b) ≡ reducing o s set empty x v b
  reduced_value o s set empty x b =
      reduce_acts p o s set empty x (term.Value v) b
      ∙ by_value v (λ u. reducing o s set empty x u b)

  pub try_value : (x : ℕ) (cs : List (Term × Ty)) (last : Option Term)
      → at_v (frame.Try x cs last) ≡ trying p x cs last (at_value v)
  try_value x cs last =
      try_acts p (term.Value v) x cs last ∙ ap (trying p x cs last) (standing-Value v)

  -- a form's part at a throw
  abbrev pub at_t : Frame → Act
  at_t f = act p (on (frame_of f) (throw_of v))

  pub try_throw : (x : ℕ) (cs : List (Term × Ty)) (last : Option Term)
      → at_t (frame.Try x cs last) ≡ trying p x cs last (at_throw v)
  try_throw x cs last =
      try_acts p (throw_of v) x cs last ∙ ap (trying p x cs last) (standing-throw v)

  pub passes_throw : (f : Frame) → ((n : Node) → f ≡ frame.Node n → ⊥)
      → ((x : ℕ) (cs : List (Term × Ty)) (last : Option Term) → f ≡ frame.Try x cs last → ⊥)
      → at_t f ≡ becomes (throw_of v)
  passes_throw (frame.Node n) h k = absurd (h n refl)
  passes_throw frame.Throw h k = throw_acts p (throw_of v) ∙ by_throw v (λ u. stuck)
  passes_throw (frame.Operand set vs ts) h k =
      operator_acts p set (map term.Value vs ++ throw_of v ∷ drop (length vs + 1) ts)
      ∙ throw_behind vs v (drop (length vs + 1) ts) (calls set)
  passes_throw (frame.FillSize ty a) h k =
      fill_acts p ty (throw_of v) a
      ∙ by_throw v (λ size. after a (λ u. filling p ty u (out-Value size)))
  passes_throw (frame.FillValue ty size) h k =
      fill_acts p ty (term.Value size) (throw_of v)
      ∙ by_value size (λ n. after (throw_of v) (λ u. filling p ty u (out-Value n)))
      ∙ by_throw v (λ u. filling p ty u (out-Value size))
  passes_throw (frame.Let xs b) h k =
      let_acts p xs (throw_of v) b ∙ by_throw v (λ u. binding (bound_to xs u) b)
  passes_throw (frame.Mutable x ty b) h k =
      mutable_acts p x ty (throw_of v) b ∙ by_throw v (λ u. makes (u ∷ []) (λ l. located x l b) 1)
  passes_throw (frame.Write x) h k =
      write_acts p x (throw_of v) ∙ by_throw v (writing_at (location_of x))
  passes_throw (frame.Field f) h k =
      read_field_acts p (throw_of v) f ∙ by_throw v (λ u. reading_at (field_of p f (out-Value u)))
  passes_throw (frame.FieldTarget f a) h k =
      write_field_acts p (throw_of v) f a
      ∙ by_throw v (λ u. after a (writing_at (field_of p f (out-Value u))))
  passes_throw (frame.FieldValue o f) h k =
      write_field_acts p (term.Value o) f (throw_of v)
      ∙ by_value o (λ u. after (throw_of v) (writing_at (field_of p f (out-Value u))))
      ∙ by_throw v (writing_at (field_of p f (out-Value o)))
  passes_throw (frame.Element i) h k =
      read_element_acts p (throw_of v) i
      ∙ by_throw v (λ u. after i (λ w. by_element p (out-Value u) (out-Value w) reading_at))
  passes_throw (frame.Index a) h k =
      read_element_acts p (term.Value a) (throw_of v)
      ∙ by_value a
      (λ u. after (throw_of v) (λ w. by_element p (out-Value u) (out-Value w) reading_at))
      ∙ by_throw v (λ w. by_element p (out-Value a) (out-Value w) reading_at)
  passes_throw (frame.ElementTarget i b) h k =
      write_element_acts p (throw_of v) i b
      ∙ by_throw v
      (λ z. after i
      (λ w. after b (λ u. by_element p (out-Value z) (out-Value w) (λ l. writing_at l u))))
  passes_throw (frame.ElementIndex a b) h k =
      write_element_acts p (term.Value a) (throw_of v) b
      ∙ by_value a
      (λ z. after (throw_of v)
      (λ w. after b (λ u. by_element p (out-Value z) (out-Value w) (λ l. writing_at l u))))
      ∙ by_throw v
      (λ w. after b (λ u. by_element p (out-Value a) (out-Value w) (λ l. writing_at l u)))
  passes_throw (frame.ElementValue a i) h k =
      write_element_acts p (term.Value a) (term.Value i) (throw_of v)
      ∙ by_value a
      (λ z. after (term.Value i)
      (λ w. after (throw_of v)
      (λ u. by_element p (out-Value z) (out-Value w) (λ l. writing_at l u))))
      ∙ by_value i
      (λ w. after (throw_of v)
      (λ u. by_element p (out-Value a) (out-Value w) (λ l. writing_at l u)))
      ∙ by_throw v (λ u. by_element p (out-Value a) (out-Value i) (λ l. writing_at l u))
  passes_throw frame.Size h k = size_acts p (throw_of v) ∙ by_throw v (λ u. sizing (out-Value u))
  passes_throw (frame.Then b) h k = then_acts p (throw_of v) b ∙ by_throw v (λ u. becomes b)
  passes_throw (frame.Test a b) h k =
      if_acts p (throw_of v) a b ∙ by_throw v (λ u. choosing (out-Value u) a b)
  passes_throw (frame.Subject x cs b) h k =
      typecase_acts p x (throw_of v) cs b
      ∙ by_throw v (λ u. becomes (clause_for p u cs (substituted x u b) (substituted x u)))
  passes_throw (frame.Source o s x b) h k =
      for_acts p o s x (throw_of v) b ∙ by_throw v (λ u. generating o s x u b)
  passes_throw (frame.ReducedSource o s set empty x b) h k =
      reduce_acts p o s set empty x (throw_of v) b ∙ by_throw v (λ u. reducing o s set empty x u b)
  passes_throw (frame.Try x cs last) h k = absurd (k x cs last refl)

pub ruleset at_values = (
  throw_value,
  operand_value,
  fill_size_value,
  fill_value_value,
  let_value,
  mutable_value,
  write_value,
  field_value,
  field_target_value,
  field_value_value,
  element_value,
  index_value,
  element_target_value,
  element_index_value,
  element_value_value,
  size_value,
  then_value,
  test_value,
  subject_value,
  source_value,
  reduced_value,
  try_value,
)

pub ruleset at_throws = (try_throw, passes_throw)
