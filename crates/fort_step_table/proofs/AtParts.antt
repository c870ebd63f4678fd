-- What a form does whose part has come to a value or to a throw, by the frame round that part.
use Rattle.std.proofs.Common.{◌≡◌, ℕ, List, [], ◌∷◌, Option, ap}
use Rattle.fort_base.specs.declared.ids.NameId.{NameId}
use Rattle.fort_base.specs.declared.ids.SetId.{SetId}
use Rattle.fort_base.specs.declared.ty.Ty.{Ty}
use Rattle.fort_core.specs.declared.form.Order.{Order}
use Rattle.fort_core.specs.declared.form.Slot.{Slot}
use Rattle.fort_core.specs.declared.form.Span.{Span}
use Rattle.fort_core.specs.declared.program.Program.{Program}
use Rattle.fort_core.specs.declared.term.Term.{Term, Throw, Group, Call, Apply, ForHalves, ReduceHalves, Also, Operator, Fill, Let, Mutable, Write, ReadField, WriteField, ReadElement, WriteElement, Size, Then, If, Typecase, For, Reduce, Try}
use Rattle.fort_core.specs.declared.term.Term as term
use Rattle.fort_core.specs.declared.term.Term.TheVariants.{outs-Throw, outs-Group, outs-Call, outs-Apply, outs-ForHalves, outs-ReduceHalves, outs-Also, outs-Operator, outs-Fill, outs-Let, outs-Mutable, outs-Write, outs-ReadField, outs-WriteField, outs-ReadElement, outs-WriteElement, outs-Size, outs-Then, outs-If, outs-Typecase, outs-For, outs-Reduce, outs-Try}
use Rattle.fort_core.specs.declared.value.Value.{Value, Tuple, out-Value}
use Rattle.fort_machine.specs.Acts.{Act, stuck, makes, becomes, calls, unit, by_standing, after, after_all, once_all}
use Rattle.fort_machine.specs.Ends.{standing, throw_of}
use Rattle.fort_machine.specs.Forms.{act, act_at, applying, too_deep, filling, binding, reading_at, writing_at, location_of, field_of, by_element, sizing, choosing, clause_for, trying}
use Rattle.fort_machine.specs.Texts.{depth}
use Rattle.fort_machine.specs.Generators.{generating, reducing}
use Rattle.fort_machine.specs.Substitution.{substituted, located, bound_to}
use Rattle.fort_machine.proofs.Standing.{standing-Value, standing-throw}

pub by_value : (v : Value) (f : Value → Act) → after (term.Value v) f ≡ f v
by_value v f = ap (λ s. by_standing s f) (standing-Value v)

pub by_throw : (v : Value) (f : Value → Act) → after (throw_of v) f ≡ becomes (throw_of v)
by_throw v f = ap (λ s. by_standing s f) (standing-throw v)

-- the forms that go from left to right, by their next part
module _ (p : Program) where
  pub throw_acts : (a : Term) → act p (Throw a) ≡ after a (λ v. stuck)
  throw_acts a = ap (act_at p) (outs-Throw a)

  pub operator_acts : (set : SetId) (ts : List Term)
      → act p (Operator set ts) ≡ after_all ts (calls set)
  operator_acts set ts = ap (act_at p) (outs-Operator set ts)

  pub fill_acts : (ty : Ty) (n a : Term)
      → act p (Fill ty n a) ≡ after n (λ size. after a (λ v. filling p ty v (out-Value size)))
  fill_acts ty n a = ap (act_at p) (outs-Fill ty n a)

  pub let_acts : (xs : List (ℕ × Ty)) (a b : Term)
      → act p (Let xs a b) ≡ after a (λ v. binding (bound_to xs v) b)
  let_acts xs a b = ap (act_at p) (outs-Let xs a b)

  pub mutable_acts : (x : ℕ) (ty : Ty) (a b : Term)
      → act p (Mutable x ty a b) ≡ after a (λ v. makes (v ∷ []) (λ l. located x l b) 1)
  mutable_acts x ty a b = ap (act_at p) (outs-Mutable x ty a b)

  pub write_acts : (x : Slot) (a : Term) → act p (Write x a) ≡ after a (writing_at (location_of x))
  write_acts x a = ap (act_at p) (outs-Write x a)

  pub read_field_acts : (o : Term) (f : NameId)
      → act p (ReadField o f) ≡ after o (λ v. reading_at (field_of p f (out-Value v)))
  read_field_acts o f = ap (act_at p) (outs-ReadField o f)

  pub write_field_acts : (o : Term) (f : NameId) (a : Term)
      → act p (WriteField o f a) ≡ after o (λ v. after a (writing_at (field_of p f (out-Value v))))
  write_field_acts o f a = ap (act_at p) (outs-WriteField o f a)

  pub read_element_acts : (a i : Term)
      → act p (ReadElement a i)
      ≡ after a (λ v. after i (λ w. by_element p (out-Value v) (out-Value w) reading_at))
  read_element_acts a i = ap (act_at p) (outs-ReadElement a i)

  pub write_element_acts : (a i b : Term)
      → act p (WriteElement a i b)
      ≡ after a
      (λ v. after i
      (λ w. after b (λ u. by_element p (out-Value v) (out-Value w) (λ l. writing_at l u))))
  write_element_acts a i b = ap (act_at p) (outs-WriteElement a i b)

  pub size_acts : (a : Term) → act p (Size a) ≡ after a (λ v. sizing (out-Value v))
  size_acts a = ap (act_at p) (outs-Size a)

  pub then_acts : (a b : Term) → act p (Then a b) ≡ after a (λ v. becomes b)
  then_acts a b = ap (act_at p) (outs-Then a b)

  pub if_acts : (c a b : Term) → act p (If c a b) ≡ after c (λ v. choosing (out-Value v) a b)
  if_acts c a b = ap (act_at p) (outs-If c a b)

  pub typecase_acts : (x : ℕ) (a : Term) (cs : List (Term × Ty)) (b : Term)
      → act p (Typecase x a cs b)
      ≡ after a (λ v. becomes (clause_for p v cs (substituted x v b) (substituted x v)))
  typecase_acts x a cs b = ap (act_at p) (outs-Typecase x a cs b)

  pub for_acts : (o : Order) (s : Span) (x : ℕ) (a b : Term)
      → act p (For o s x a b) ≡ after a (λ v. generating o s x v b)
  for_acts o s x a b = ap (act_at p) (outs-For o s x a b)

  pub reduce_acts : (o : Order) (s : Span) (set : SetId) (empty : Term) (x : ℕ) (a b : Term)
      → act p (Reduce o s set empty x a b) ≡ after a (λ v. reducing o s set empty x v b)
  reduce_acts o s set empty x a b = ap (act_at p) (outs-Reduce o s set empty x a b)

  pub try_acts : (a : Term) (x : ℕ) (cs : List (Term × Ty)) (last : Option Term)
      → act p (Try a x cs last) ≡ trying p x cs last (standing a)
  try_acts a x cs last = ap (act_at p) (outs-Try a x cs last)

-- the parallel forms
module _ (p : Program) where
  pub group_form : (ts : List Term)
      → act p (Group ts) ≡ once_all ts (λ vs. too_deep p (depth (Tuple vs)))
  group_form ts = ap (act_at p) (outs-Group ts)

  pub call_acts : (set : SetId) (ts : List Term) → act p (Call set ts) ≡ once_all ts (calls set)
  call_acts set ts = ap (act_at p) (outs-Call set ts)

  pub also_acts : (ts : List Term) → act p (Also ts) ≡ once_all ts (λ vs. becomes (term.Value unit))
  also_acts ts = ap (act_at p) (outs-Also ts)

  pub apply_acts : (f a : Term) → act p (Apply f a) ≡ once_all (f ∷ a ∷ []) applying
  apply_acts f a = ap (act_at p) (outs-Apply f a)

  pub for_halves_acts : (a b : Term)
      → act p (ForHalves a b) ≡ once_all (a ∷ b ∷ []) (λ vs. becomes (term.Value unit))
  for_halves_acts a b = ap (act_at p) (outs-ForHalves a b)

  pub reduce_halves_acts : (set : SetId) (a b : Term)
      → act p (ReduceHalves set a b) ≡ once_all (a ∷ b ∷ []) (calls set)
  reduce_halves_acts set a b = ap (act_at p) (outs-ReduceHalves set a b)
