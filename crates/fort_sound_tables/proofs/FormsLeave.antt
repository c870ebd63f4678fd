-- Terms and values that leave the prelude's own names alone, form by form.
use Rattle.std.proofs.Common.{◌++◌, ◌<◌, ◌≤◌, zero, suc, length, drop, get_or, arith, ◌≡◌, ℕ, List, [], ◌∷◌, Option, Some, None, false, sym, subst, ℤ, Bool}
use Rattle.std.specs.Option.{option_to_list}
use Rattle.std.proofs.lemmas.List.{drop_all}
use Rattle.fort_base.specs.declared.ids.Loc.{Loc}
use Rattle.fort_base.specs.declared.ids.NameId.{NameId}
use Rattle.fort_base.specs.declared.ids.SetId.{SetId}
use Rattle.fort_base.specs.declared.ids.TypeId.{TypeId}
use Rattle.fort_base.specs.declared.ty.Ty.{Ty}
use Rattle.fort_core.specs.declared.form.Mode.{Mode}
use Rattle.fort_core.specs.declared.form.Order.{Order}
use Rattle.fort_core.specs.declared.form.Slot.{Slot}
use Rattle.fort_core.specs.declared.form.Span.{Span}
use Rattle.fort_core.specs.declared.form.Span.TheVariants as span
use Rattle.fort_core.specs.declared.program.Program.{Program}
use Rattle.fort_core.specs.declared.term.Term.{Term, out-Term}
use Rattle.fort_core.specs.declared.term.Term.TheVariants as term
use Rattle.fort_core.specs.declared.term.Term.TheVariants.{outs-Value, outs-Group, outs-Call, outs-Operator, outs-Apply, outs-Fill, outs-Let, outs-Mutable, outs-Write, outs-ReadField, outs-WriteField, outs-ReadElement, outs-WriteElement, outs-Size, outs-Then, outs-If, outs-While, outs-Typecase, outs-For, outs-ForHalves, outs-Reduce, outs-ReduceHalves, outs-Also, outs-Try, outs-Throw, outs-Variable, outs-Fn, outs-Read, outs-Atomic, outs-Stepped}
use Rattle.fort_core.specs.declared.term.Term.TheOpen.{Term-F, Value-F}
use Rattle.fort_core.specs.declared.value.Closure.{Closure}
use Rattle.fort_core.specs.declared.value.Value.{Value, out-Value}
use Rattle.fort_core.specs.declared.value.Value.TheVariants as value
use Rattle.fort_core.specs.declared.value.Value.TheVariants.{outs-Small, outs-Large, outs-Truth, outs-Text, outs-Range, outs-Tuple, outs-Object, outs-Function}
use Rattle.fort_machine.specs.Scopes.{is_among}
use Rattle.fort_machine.specs.Parts.{in_clauses, terms_in, held_values, values_in, values_of, bodies_of}
use Rattle.fort_threads_law_private.specs.Private.{secret_sets, secret_fields, IsSecretSet, IsSecretField, IsWithin, SlotIsOpen, KeepsOff, LeadsToOpen, private, no_terms, one_more, private_value, no_values, one_more_value}
use Rattle.fort_sound_tables.specs.declared.numbers.Numbers.{Numbers}
use Rattle.fort_sound_tables.specs.Numbers.{names, start}
use Rattle.fort_sound_tables.proofs.Lists.{not_one_of}
use Rattle.fort_sound_tables.specs.Leaves.{ground_of, Leaves, AllLeave, LeavesValue, AllLeaveValues, own_fields, own_sets}

module _ (p : Program) (x : Numbers) where
  abbrev Spares : Term-F Term Value Closure → Type 0
  Spares y = KeepsOff (names x) (start x) (ground_of p x) y

  form_at : (t : Term) (y : Term-F Term Value Closure) → out-Term t ≡ y → Spares y
      → AllLeave p x (terms_in y) → AllLeaveValues p x (values_in y) → Leaves p x t
  form_at t y e o ts vs =
      private (subst Spares (sym e) o) (subst (λ z. AllLeave p x (terms_in z)) (sym e) ts)
      (subst (λ z. AllLeaveValues p x (values_in z)) (sym e) vs)

  no_set : (s : SetId) → is_among s.0 (own_sets x) ≡ false → IsSecretSet (names x) (start x) s → ⊥
  no_set s e =
      not_one_of (λ (z : SetId). z.0) s (secret_sets (names x) (start x)) e

  no_field : (f : NameId) → is_among f.0 (own_fields x) ≡ false → IsSecretField (names x) f → ⊥
  no_field f e = not_one_of (λ (z : NameId). z.0) f (secret_fields (names x)) e

  -- of an equal term
  pub as_is : (t u : Term) → t ≡ u → Leaves p x u → Leaves p x t
  as_is t u e h = subst (λ z. Leaves p x z) (sym e) h

  pub as_value : (v w : Value) → v ≡ w → LeavesValue p x w → LeavesValue p x v
  as_value v w e h = subst (λ z. LeavesValue p x z) (sym e) h

  one_leaves : {a : Term} → Leaves p x a → AllLeave p x (a ∷ [])
  one_leaves a = one_more a no_terms

  two_leave : {a b : Term} → Leaves p x a → Leaves p x b → AllLeave p x (a ∷ b ∷ [])
  two_leave a b = one_more a (one_more b no_terms)

  pub value_at : (v : Value) → LeavesValue p x v → Leaves p x (term.Value v)
  value_at v h = form_at (term.Value v) _ (outs-Value v) tt no_terms (one_more_value h no_values)

  pub variable_at : (n : ℕ) → Leaves p x (term.Variable n)
  variable_at n = form_at (term.Variable n) _ (outs-Variable n) tt no_terms no_values

  pub read_at : (s : Slot) → SlotIsOpen (ground_of p x) s → Leaves p x (term.Read s)
  read_at s h = form_at (term.Read s) _ (outs-Read s) h no_terms no_values

  none_held : (c : Closure) → c.held ≡ [] → AllLeaveValues p x (held_values c)
  none_held c e =
      subst (λ (h : List (ℕ × Value)). AllLeaveValues p x (held h)) (sym e) no_values
    where
      held : List (ℕ × Value) → List Value
      held [] = []
      held (h ∷ hs) = h.1 ∷ held hs

  pub function_at : (c : Closure) → c.held ≡ [] → Leaves p x c.body → Leaves p x (term.Fn c)
  function_at c e h =
      form_at (term.Fn c) _ (outs-Fn c) tt (one_leaves h) (none_held c e)

  pub throw_at : (a : Term) → Leaves p x a → Leaves p x (term.Throw a)
  throw_at a h = form_at (term.Throw a) _ (outs-Throw a) tt (one_leaves h) no_values

  pub size_at : (a : Term) → Leaves p x a → Leaves p x (term.Size a)
  size_at a h = form_at (term.Size a) _ (outs-Size a) tt (one_leaves h) no_values

  pub atomic_at : (m : Mode) (a : Term) → Leaves p x a → Leaves p x (term.Atomic m a)
  atomic_at m a h = form_at (term.Atomic m a) _ (outs-Atomic m a) tt (one_leaves h) no_values

  pub stepped_at : (a : Term) → Leaves p x a → Leaves p x (term.Stepped a)
  stepped_at a h = form_at (term.Stepped a) _ (outs-Stepped a) tt (one_leaves h) no_values

  pub write_at : (s : Slot) (a : Term) → SlotIsOpen (ground_of p x) s → Leaves p x a
      → Leaves p x (term.Write s a)
  write_at s a o h = form_at (term.Write s a) _ (outs-Write s a) o (one_leaves h) no_values

  pub read_field_at : (a : Term) (f : NameId) → is_among f.0 (own_fields x) ≡ false → Leaves p x a
      → Leaves p x (term.ReadField a f)
  read_field_at a f o h = form_at (term.ReadField a f) _ (outs-ReadField a f) (no_field f o)
      (one_leaves h) no_values

  pub group_at : (ts : List Term) → AllLeave p x ts → Leaves p x (term.Group ts)
  group_at ts h = form_at (term.Group ts) _ (outs-Group ts) tt h no_values

  pub also_at : (ts : List Term) → AllLeave p x ts → Leaves p x (term.Also ts)
  also_at ts h = form_at (term.Also ts) _ (outs-Also ts) tt h no_values

  pub call_at : (s : SetId) (ts : List Term) → is_among s.0 (own_sets x) ≡ false → AllLeave p x ts
      → Leaves p x (term.Call s ts)
  call_at s ts o h = form_at (term.Call s ts) _ (outs-Call s ts) (no_set s o) h no_values

  pub operator_at : (s : SetId) (ts : List Term) → is_among s.0 (own_sets x) ≡ false → AllLeave
      p x ts
      → Leaves p x (term.Operator s ts)
  operator_at s ts o h = form_at (term.Operator s ts) _ (outs-Operator s ts) (no_set s o) h
      no_values

  -- with two parts
  abbrev Both : Term → Term → Type 0
  Both a b = Leaves p x a × Leaves p x b

  pub apply_at : (a b : Term) → Both a b → Leaves p x (term.Apply a b)
  apply_at a b h =
      form_at (term.Apply a b) _ (outs-Apply a b) tt (two_leave h.0 h.1) no_values

  pub fill_at : (ty : Ty) (a b : Term) → Both a b → Leaves p x (term.Fill ty a b)
  fill_at ty a b h =
      form_at (term.Fill ty a b) _ (outs-Fill ty a b) tt (two_leave h.0 h.1) no_values

  pub let_at : (xs : List (ℕ × Ty)) (a b : Term) → Both a b → Leaves p x (term.Let xs a b)
  let_at xs a b h = form_at (term.Let xs a b) _ (outs-Let xs a b) tt (two_leave h.0 h.1) no_values

  pub mutable_at : (n : ℕ) (ty : Ty) (a b : Term) → Both a b
      → Leaves p x (term.Mutable n ty a b)
  mutable_at n ty a b h =
      form_at (term.Mutable n ty a b) _ (outs-Mutable n ty a b) tt (two_leave h.0 h.1) no_values

  pub write_field_at : (a : Term) (f : NameId) (b : Term) → is_among f.0 (own_fields x) ≡ false
      → Both a b
      → Leaves p x (term.WriteField a f b)
  write_field_at a f b o h =
      form_at (term.WriteField a f b) _ (outs-WriteField a f b) (no_field f o) (two_leave h.0
      h.1) no_values

  pub read_element_at : (a b : Term) → Both a b → Leaves p x (term.ReadElement a b)
  read_element_at a b h =
      form_at (term.ReadElement a b) _ (outs-ReadElement a b) tt (two_leave h.0 h.1) no_values

  pub then_at : (a b : Term) → Both a b → Leaves p x (term.Then a b)
  then_at a b h = form_at (term.Then a b) _ (outs-Then a b) tt (two_leave h.0 h.1) no_values

  pub while_at : (a b : Term) → Both a b → Leaves p x (term.While a b)
  while_at a b h = form_at (term.While a b) _ (outs-While a b) tt (two_leave h.0 h.1) no_values

  whole_within : (s : Span) (a : Term) → s ≡ span.Whole → IsWithin s a
  whole_within s a e = subst (λ (z : Span). IsWithin z a) (sym e) tt

  pub for_at : (o : Order) (s : Span) (n : ℕ) (a b : Term) → s ≡ span.Whole → Both a b
      → Leaves p x (term.For o s n a b)
  for_at o s n a b e h =
      form_at (term.For o s n a b) _ (outs-For o s n a b) (whole_within s a e) (two_leave h.0 h.1)
      no_values

  pub for_halves_at : (a b : Term) → Both a b → Leaves p x (term.ForHalves a b)
  for_halves_at a b h =
      form_at (term.ForHalves a b) _ (outs-ForHalves a b) tt (two_leave h.0 h.1) no_values

  pub reduce_halves_at : (s : SetId) (a b : Term) → is_among s.0 (own_sets x) ≡ false → Both a b
      → Leaves p x (term.ReduceHalves s a b)
  reduce_halves_at s a b o h =
      form_at (term.ReduceHalves s a b) _ (outs-ReduceHalves s a b) (no_set s o) (two_leave h.0
      h.1) no_values

  -- with three
  three_leave : {a b c : Term} → Both a b → Leaves p x c → AllLeave p x (a ∷ b ∷ c ∷ [])
  three_leave h k = one_more h.0 (one_more h.1 (one_more k no_terms))

  pub write_element_at : (a b c : Term) → Both a b → Leaves p x c
      → Leaves p x (term.WriteElement a b c)
  write_element_at a b c h k =
      form_at (term.WriteElement a b c) _ (outs-WriteElement a b c) tt (three_leave h k) no_values

  pub if_at : (a b c : Term) → Both a b → Leaves p x c → Leaves p x (term.If a b c)
  if_at a b c h k = form_at (term.If a b c) _ (outs-If a b c) tt (three_leave h k) no_values

  pub reduce_at : (o : Order) (s : Span) (set : SetId) (a : Term) (n : ℕ) (b c : Term)
      → s ≡ span.Whole → is_among set.0 (own_sets x) ≡ false → Both a b → Leaves p x c
      → Leaves p x (term.Reduce o s set a n b c)
  reduce_at o s set a n b c e f h k =
      form_at (term.Reduce o s set a n b c) _ (outs-Reduce o s set a n b c) (
        whole_within s b e,
        no_set set f,
      )
      (three_leave h k) no_values

  -- with clauses
  pub typecase_at : (n : ℕ) (a : Term) (cs : List (Term × Ty)) (b : Term) → Both a b
      → AllLeave p x (in_clauses cs) → Leaves p x (term.Typecase n a cs b)
  typecase_at n a cs b h k =
      form_at (term.Typecase n a cs b) _ (outs-Typecase n a cs b) tt (one_more h.0 (one_more h.1 k))
      no_values

  pub try_of : (a : Term) (n : ℕ) (cs : List (Term × Ty)) (last : Option Term) → Leaves p x a
      → AllLeave p x (option_to_list last) → AllLeave p x (in_clauses cs)
      → Leaves p x (term.Try a n cs last)
  try_of a n cs last h k more =
      form_at (term.Try a n cs last) _ (outs-Try a n cs last) tt
      (one_more h (joined (option_to_list last) k)) no_values
    where
      joined : (ts : List Term) → AllLeave p x ts → AllLeave p x (ts ++ in_clauses cs)
      joined [] no_terms = more
      joined (t ∷ ts) (one_more b rest) = one_more b (joined ts rest)

  pub last_none : (last : Option Term) → last ≡ None → AllLeave p x (option_to_list last)
  last_none last e =
      subst (λ (l : Option Term). AllLeave p x (option_to_list l)) (sym e) no_terms

  pub last_some : (last : Option Term) (b : Term) → last ≡ Some b → Leaves p x b
      → AllLeave p x (option_to_list last)
  last_some last b e h =
      subst (λ (l : Option Term). AllLeave p x (option_to_list l)) (sym e) (one_more h no_terms)

  -- values
  abbrev Leads : Value-F Term Value Closure → Type 0
  Leads y = LeadsToOpen p (names x) (ground_of p x) y

  kind : (v : Value) (y : Value-F Term Value Closure) → out-Value v ≡ y → Leads y
      → AllLeave p x (bodies_of y) → AllLeaveValues p x (values_of y) → LeavesValue p x v
  kind v y e o ts vs =
      private_value (subst Leads (sym e) o)
      (subst (λ z. AllLeave p x (bodies_of z)) (sym e) ts)
      (subst (λ z. AllLeaveValues p x (values_of z)) (sym e) vs)

  pub small_at : (n : ℤ) → LeavesValue p x (value.Small n)
  small_at n = kind (value.Small n) _ (outs-Small n) tt no_terms no_values

  pub large_at : (n : ℤ) → LeavesValue p x (value.Large n)
  large_at n = kind (value.Large n) _ (outs-Large n) tt no_terms no_values

  pub truth_at : (b : Bool) → LeavesValue p x (value.Truth b)
  truth_at b = kind (value.Truth b) _ (outs-Truth b) tt no_terms no_values

  pub text_at : (s : List ℕ) → LeavesValue p x (value.Text s)
  text_at s = kind (value.Text s) _ (outs-Text s) tt no_terms no_values

  pub range_at : (n : ℤ) (k : ℕ) → LeavesValue p x (value.Range n k)
  range_at n k = kind (value.Range n k) _ (outs-Range n k) tt no_terms no_values

  pub tuple_at : (vs : List Value) → AllLeaveValues p x vs → LeavesValue p x (value.Tuple vs)
  tuple_at vs h = kind (value.Tuple vs) _ (outs-Tuple vs) tt no_terms h

  pub object_at : (id : TypeId) (base : Loc) → Leads (Value-F.Object id base)
      → LeavesValue p x (value.Object id base)
  object_at id base h = kind (value.Object id base) _ (outs-Object id base) h no_terms no_values

  pub function_value_at : (c : Closure) → c.held ≡ [] → Leaves p x c.body
      → LeavesValue p x (value.Function c)
  function_value_at c e h =
      kind (value.Function c) _ (outs-Function c) tt (one_leaves h) (none_held c e)

  -- loops over lists have come one further
  pub terms_more : (ts : List Term) (i : ℕ) (t : Term) → i < length ts → t ≡ get_or ts i t
      → Leaves p x t → AllLeave p x (drop (suc i) ts) → AllLeave p x (drop i ts)
  terms_more [] i t l e h rest = absurd (omega arith)
  terms_more (u ∷ ts) zero t l e h rest = one_more (subst (λ z. Leaves p x z) e h) rest
  terms_more (u ∷ ts) (suc i) t l e h rest = terms_more ts i t (omega arith) e h rest

  pub clauses_more : (cs : List (Term × Ty)) (i : ℕ) (c : Term × Ty) → i < length cs
      → c ≡ get_or cs i c → Leaves p x c.0 → AllLeave p x (in_clauses (drop (suc i) cs))
      → AllLeave p x (in_clauses (drop i cs))
  clauses_more [] i c l e h rest = absurd (omega arith)
  clauses_more (u ∷ cs) zero c l e h rest =
      one_more (subst (λ (z : Term × Ty). Leaves p x z.0) e h) rest
  clauses_more (u ∷ cs) (suc i) c l e h rest = clauses_more cs i c (omega arith) e h rest

  pub values_more : (vs : List Value) (i : ℕ) (v : Value) → i < length vs → v ≡ get_or vs i v
      → LeavesValue p x v → AllLeaveValues p x (drop (suc i) vs) → AllLeaveValues p x (drop i vs)
  values_more [] i v l e h rest = absurd (omega arith)
  values_more (u ∷ vs) zero v l e h rest =
      one_more_value (subst (λ z. LeavesValue p x z) e h) rest
  values_more (u ∷ vs) (suc i) v l e h rest = values_more vs i v (omega arith) e h rest

  -- and to their ends
  pub terms_done : (ts : List Term) (i : ℕ) → length ts ≤ i → AllLeave p x (drop i ts)
  terms_done ts i l = subst (λ z. AllLeave p x z) (sym (drop_all i ts l)) no_terms

  pub clauses_done : (cs : List (Term × Ty)) (i : ℕ) → length cs ≤ i
      → AllLeave p x (in_clauses (drop i cs))
  clauses_done cs i l =
      subst (λ (z : List (Term × Ty)). AllLeave p x (in_clauses z)) (sym (drop_all i cs l)) no_terms

  pub values_done : (vs : List Value) (i : ℕ) → length vs ≤ i → AllLeaveValues p x (drop i vs)
  values_done vs i l = subst (λ z. AllLeaveValues p x z) (sym (drop_all i vs l)) no_values
