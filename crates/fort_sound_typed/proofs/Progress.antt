-- Nothing that is typed and proper is stuck.
use Rattle.std.proofs.Common.{◌≡◌, ℕ, zero, suc, ◌+◌, ◌<◌, ◌≤◌, ◌==◌, Bool, true, false, ◌&&◌, ◌||◌, if◌then◌else◌, List, [], ◌∷◌, ◌++◌, map, Option, Some, None, refl, ap, sym, ◌∙◌, subst, arith, inl, inr, ◌⊎◌, ℤ, pos, negsuc}
use Rattle.std.specs.List.{list_any}
use Rattle.std.specs.Prelude.{nat_lt, nat_le, option_map, option_and_then}
use Rattle.fort_base.specs.declared.ids.Loc.{Loc}
use Rattle.fort_base.specs.declared.ids.NameId.{NameId}
use Rattle.fort_base.specs.declared.ids.SetId.{SetId}
use Rattle.fort_base.specs.declared.ids.TypeId.{TypeId}
use Rattle.fort_base.specs.declared.ty.Ty.{Ty, Arrow, Array}
use Rattle.fort_base.specs.declared.ty.Ty.TheVariants.{Named}
use Rattle.fort_core.specs.declared.form.Order.{Order}
use Rattle.fort_core.specs.declared.form.Order.TheVariants as order
use Rattle.fort_core.specs.declared.form.Slot.{Slot}
use Rattle.fort_core.specs.declared.form.Slot.TheVariants as slot
use Rattle.fort_core.specs.declared.form.Span.{Span}
use Rattle.fort_core.specs.declared.form.Span.TheVariants as span
use Rattle.fort_core.specs.declared.form.Mode.TheVariants as mode
use Rattle.fort_core.specs.declared.term.Term.{Term, Throw, Group, Fn, Call, Operator, Apply, ForHalves, ReduceHalves, ReadElement, WriteElement, WriteField, Fill, Also, Atomic, Asleep, Stepped, out-Term}
use Rattle.fort_core.specs.declared.term.Term as term
use Rattle.fort_core.specs.declared.term.Term.TheVariants.{outs-Value, outs-Group, outs-Fn, rolls-Value, rolls-Throw, rolls-Group, rolls-Call, rolls-Operator, rolls-Apply, rolls-Fill, rolls-Let, rolls-Mutable, rolls-Write, rolls-ReadField, rolls-WriteField, rolls-ReadElement, rolls-WriteElement, rolls-Size, rolls-Then, rolls-If, rolls-Typecase, rolls-For, rolls-ForHalves, rolls-Reduce, rolls-ReduceHalves, rolls-Also, rolls-Try, rolls-Atomic, rolls-Asleep, rolls-Stepped}
use Rattle.fort_core.specs.declared.term.Term.TheOpen.{Term-F, Value-F}
use Rattle.fort_core.specs.declared.value.Closure.{Closure}
use Rattle.fort_core.specs.declared.value.Value.{Value, Function, out-Value, Tuple as Pack}
use Rattle.fort_core.specs.declared.program.Program.{Program}
use Rattle.fort_machine.specs.Attempts.{fresh, slept}
use Rattle.fort_machine.specs.Effects.{Store}
use Rattle.fort_machine.specs.Ends.{Standing, at_value, at_throw, open_yet, standing, throw_of, has_stepped, value_at, values_of, tuple_of, group, stepped, is_still, is_thrown, Finished}
use Rattle.fort_machine.specs.Ends as ends
use Rattle.fort_machine.specs.Frames.{Frame, in_group, in_call, in_function, in_argument, in_first_half, in_second_half, in_first_reduced, in_second_reduced, in_block, in_throw, in_operand, in_fill_size, in_fill_value, in_let, in_mutable, in_write, in_field, in_field_target, in_field_value, in_element, in_index, in_element_target, in_element_index, in_element_value, in_size, in_then, in_test, in_subject, in_source, in_reduced_source, in_try, in_stepped, on, passes}
use Rattle.fort_machine.specs.Marked.{Bare}
use Rattle.fort_machine.specs.Parts.{terms_in, in_clauses, values_in, held_values, bodies_of}
use Rattle.fort_machine.specs.Scopes.{variables, is_among, Scoped, all_scoped, clauses_scoped, scoped, holds_all}
use Rattle.fort_machine.specs.Texts.{depth, closure_depth, deepest}
use Rattle.fort_machine.specs.Types.{domain_of}
use Rattle.fort_machine.specs.Acts.{Act, stuck, calls, after_all, Together, at_values, leftmost, some_still, some_open, with_first, standing_together, throwing}
use Rattle.fort_machine.specs.Generators.{Items, numbers_from, elements_from, no_items, items_at, by_item, for_items, reduce_items, spanned}
use Rattle.fort_machine.specs.Forms.{entering, applying_to, applying, filling, binding, reading_at, writing_at, field_of, by_element, sizing, choosing, trying, too_deep, act_at, act}
use Rattle.fort_machine.specs.Written.{IsNoValue}
use Rattle.fort_machine.specs.Proper.{AllResting, no_rests, next_rest, RestingValue, going_in, resting_in, MarksOpen, Proper, proper, AllProper, no_propers, next_proper}
use Rattle.fort_machine.proofs.Resting.{rest_bare, one_rest, value_rests_of}
use Rattle.fort_machine.proofs.Properly.{value_proper, rest_proper}
use Rattle.fort_machine.proofs.Standing.{rolled, decide, stepped_open, standing-Value, standing-throw, values_open, group_open}
use Rattle.fort_sound_typed.specs.Envs.{Sort, fixed, cell, Sig, Env, none, binds, Part, plains}
use Rattle.fort_sound_typed.specs.Typing.{Below, small_type, truth_type, SlotHas, FieldOf, ItemsOf, count_of, vars_of, clauses, Fits, Has, has, HasParts, parts0, parts1, HasV, HasVs, vs0, vs1}
use Rattle.fort_sound_typed.specs.Sound.{Defined, StoreOk}
use Rattle.fort_sound_typed.proofs.Facts.{Facts}
use Rattle.fort_sound_typed.specs.Goes.{Complete, Finite, at_atomic, Goes, done, goes_at}
use Rattle.fort_sound_typed.proofs.Bind.{alike, apart, tells, bind_other, self_same}
use Rattle.fort_sound_typed.proofs.Rules.{value_has, parts_as, rule_v, sub_v}
use Rattle.fort_sound_typed.proofs.Near.{AllScoped, scoping, out_scoped, closure_scoped, body_names, fixed_names}
use Rattle.fort_sound_typed.proofs.Made.{is_value}
use Rattle.fort_sound_typed.proofs.Good.{AllGood, together_good}
use Rattle.fort_sound_typed.proofs.Items.{less_of, field_at, span_of, SpanOf}
use Rattle.fort_sound_typed.proofs.Canonical.{small_is, truth_is, range_is, array_is, function_is, object_is, bound_is}
use Rattle.fort_sound_typed.proofs.Live.{Live, live_failing, by_act, by_calls, lift, after_on, Split, once_on}

and_both : (a b : Bool) → a ≡ true → b ≡ true → (a && b) ≡ true
and_both a b e f = ap (λ c. c && b) e ∙ f

all_plain : (ts : List Term) (As : List Ty) (xs : List ℕ) (k : Program) (S : Sig) (G : Env)
    → HasParts k S G ts (plains As) → AllScoped ts (plains As) xs
    → all_scoped (map scoped ts) xs ≡ true
all_plain [] As xs k S G h e = refl
all_plain (t ∷ ts) [] xs k S G h e = elim h [ ]
all_plain (t ∷ ts) (A ∷ As) xs k S G (parts1 n h hs) e =
    and_both _ _ e.0 (all_plain ts As xs k S G hs e.1)

all_clauses : (x : ℕ) (cs : List (Term × Ty)) (R : Ty) (xs : List ℕ)
    → AllScoped (in_clauses cs) (clauses x cs R) xs
    → clauses_scoped (map (λ (c : Term × Ty). (scoped c.0, c.1)) cs) (x ∷ xs) ≡ true
all_clauses x [] R xs e = refl
all_clauses x (c ∷ cs) R xs e = and_both _ _ e.0 (all_clauses x cs R xs e.1)

-- what is bound is among some variables
abbrev Covers : Env → List ℕ → Type 0
Covers G xs = (z : ℕ) (B : Sort) → G z ≡ Some B → is_among z xs ≡ true

covers_binds : (vs : List (ℕ × Sort)) (G : Env) (xs : List ℕ) → Covers G xs
    → Covers (binds vs G) (variables vs ++ xs)
covers_binds [] G xs c z B e = c z B e
covers_binds (v ∷ vs) G xs c z B e = elim (tells v.0 z) [
  | alike q b ↦ ap (λ w. w || is_among z (variables vs ++ xs)) (ap (λ w. z == w) q ∙ self_same z)
  | apart b d ↦
      ap (λ w. w || is_among z (variables vs ++ xs)) d
      ∙ covers_binds vs G xs c z B (sym (bind_other v.0 v.1 (binds vs G) z b) ∙ e)
]

module _ (k : Program) (S : Sig) where
  slot_scopes : (G : Env) (xs : List ℕ) (x : Slot) (A : Ty) → Covers G xs → SlotHas S G x A
      → scoping k S (Term-F.Read x) xs ≡ true
  slot_scopes G xs (slot.Variable x) A c h = c x (cell A) h
  slot_scopes G xs (slot.Location l) A c h = refl

  scopes : (G : Env) (y : Term-F Term Value Closure) (qs : List Part) (ws : List Ty) (R : Ty)
      (xs : List ℕ) → Covers G xs → Fits k S G y qs ws R → HasParts k S G (terms_in y) qs
      → HasVs k S (values_in y) ws
      → AllScoped (terms_in y) qs xs → scoping k S y xs ≡ true
  scopes G (Term-F.Value v) qs ws R xs c f ps i e = refl
  scopes G (Term-F.Throw a) qs ws R xs c f ps i e = (subst (λ z. AllScoped (a ∷ []) z xs) f e).0
  scopes G (Term-F.Variable x) qs ws R xs c f ps i e = c x (fixed R) f
  scopes G (Term-F.Fn d) qs ws R xs c f ps i e =
      closure_scoped k S d xs ∙ ap (scoped d.body) (body_names k S d ws xs i)
      ∙ (subst (λ z. AllScoped (d.body ∷ []) z xs) f.0 e).0
  scopes G (Term-F.Let ys a b) qs ws R xs c f ps i e =
      let j = subst (λ z. AllScoped (a ∷ b ∷ []) z xs) f.0 e
      in and_both _ _ j.0 (sym (ap (λ r. scoped b (r ++ xs)) (fixed_names ys)) ∙ j.1.0)
  scopes G (Term-F.Read x) qs ws R xs c f ps i e = slot_scopes G xs x R c f
  scopes G (Term-F.Write x a) qs ws R xs c f ps i e =
      and_both _ _ (slot_scopes G xs x f.0 c f.1) (subst (λ z. AllScoped (a ∷ []) z xs) f.2 e).0
  scopes G (Term-F.Group ts) qs ws R xs c f ps i e =
      all_plain ts f.0 xs k S G (subst (λ z. HasParts k S G ts z) f.1 ps)
      (subst (λ z. AllScoped ts z xs) f.1 e)
  scopes G (Term-F.Call set ts) qs ws R xs c f ps i e =
      all_plain ts f.0 xs k S G (subst (λ z. HasParts k S G ts z) f.1 ps)
      (subst (λ z. AllScoped ts z xs) f.1 e)
  scopes G (Term-F.Operator set ts) qs ws R xs c f ps i e =
      all_plain ts f.0 xs k S G (subst (λ z. HasParts k S G ts z) f.1 ps)
      (subst (λ z. AllScoped ts z xs) f.1 e)
  scopes G (Term-F.Also ts) qs ws R xs c f ps i e =
      all_plain ts f.0 xs k S G (subst (λ z. HasParts k S G ts z) f.1 ps)
      (subst (λ z. AllScoped ts z xs) f.1 e)
  scopes G (Term-F.Apply a b) qs ws R xs c f ps i e =
      let j = subst (λ z. AllScoped (a ∷ b ∷ []) z xs) (f.1) e in and_both _ _ j.0 j.1.0
  scopes G (Term-F.Fill ty a b) qs ws R xs c f ps i e =
      let j = subst (λ z. AllScoped (a ∷ b ∷ []) z xs) (f.0) e in and_both _ _ j.0 j.1.0
  scopes G (Term-F.Mutable x ty a b) qs ws R xs c f ps i e =
      let j = subst (λ z. AllScoped (a ∷ b ∷ []) z xs) (f) e in and_both _ _ j.0 j.1.0
  scopes G (Term-F.WriteField a n b) qs ws R xs c f ps i e =
      let j = subst (λ z. AllScoped (a ∷ b ∷ []) z xs) (f.4) e in and_both _ _ j.0 j.1.0
  scopes G (Term-F.ReadElement a b) qs ws R xs c f ps i e =
      let j = subst (λ z. AllScoped (a ∷ b ∷ []) z xs) (f) e in and_both _ _ j.0 j.1.0
  scopes G (Term-F.Then a b) qs ws R xs c f ps i e =
      let j = subst (λ z. AllScoped (a ∷ b ∷ []) z xs) (f.1) e in and_both _ _ j.0 j.1.0
  scopes G (Term-F.While a b) qs ws R xs c f ps i e =
      let j = subst (λ z. AllScoped (a ∷ b ∷ []) z xs) (f.1) e in and_both _ _ j.0 j.1.0
  scopes G (Term-F.For o s x a b) qs ws R xs c f ps i e =
      let j = subst (λ z. AllScoped (a ∷ b ∷ []) z xs) (f.4) e in and_both _ _ j.0 j.1.0
  scopes G (Term-F.ForHalves a b) qs ws R xs c f ps i e =
      let j = subst (λ z. AllScoped (a ∷ b ∷ []) z xs) (f.2) e in and_both _ _ j.0 j.1.0
  scopes G (Term-F.ReduceHalves set a b) qs ws R xs c f ps i e =
      let j = subst (λ z. AllScoped (a ∷ b ∷ []) z xs) (f.2) e in and_both _ _ j.0 j.1.0
  scopes G (Term-F.ReadField a n) qs ws R xs c f ps i e =
      (subst (λ z. AllScoped (a ∷ []) z xs) (f.2) e).0
  scopes G (Term-F.Size a) qs ws R xs c f ps i e = (subst (λ z. AllScoped (a ∷ []) z xs) (f.1) e).0
  scopes G (Term-F.Atomic m a) qs ws R xs c f ps i e =
      (subst (λ z. AllScoped (a ∷ []) z xs) (f) e).0
  scopes G (Term-F.Asleep ms a) qs ws R xs c f ps i e =
      (subst (λ z. AllScoped (a ∷ []) z xs) (f.0) e).0
  scopes G (Term-F.Stepped a) qs ws R xs c f ps i e = (subst (λ z. AllScoped (a ∷ []) z xs) (f) e).0
  scopes G (Term-F.WriteElement a b d) qs ws R xs c f ps i e =
      let j = subst (λ z. AllScoped (a ∷ b ∷ d ∷ []) z xs) (f.1) e
      in and_both _ _ j.0 (and_both _ _ j.1.0 j.1.1.0)
  scopes G (Term-F.If a b d) qs ws R xs c f ps i e =
      let j = subst (λ z. AllScoped (a ∷ b ∷ d ∷ []) z xs) (f) e
      in and_both _ _ j.0 (and_both _ _ j.1.0 j.1.1.0)
  scopes G (Term-F.Reduce o s set d x a b) qs ws R xs c f ps i e =
      let j = subst (λ z. AllScoped (d ∷ a ∷ b ∷ []) z xs) f.5 e
      in and_both _ _ j.0 (and_both _ _ j.1.0 j.1.1.0)
  scopes G (Term-F.Typecase x a cs b) qs ws R xs c f ps i e =
      let j = subst (λ z. AllScoped (a ∷ b ∷ in_clauses cs) z xs) f.1 e
      in and_both _ _ j.0 (and_both _ _ (all_clauses x cs R xs j.1.1) j.1.0)
  scopes G (Term-F.Try a x cs None) qs ws R xs c f ps i e =
      let j = subst (λ z. AllScoped (a ∷ in_clauses cs) z xs) f.1 e
      in and_both _ _ j.0 (and_both _ _ (all_clauses x cs R xs j.1) refl)
  scopes G (Term-F.Try a x cs (Some b)) qs ws R xs c f ps i e =
      let j = subst (λ z. AllScoped (a ∷ b ∷ in_clauses cs) z xs) f.1 e
      in and_both _ _ j.0 (and_both _ _ (all_clauses x cs R xs j.1.1) j.1.0)

  mutual
    -- a typed term has no other variables than those that are bound
    pub scoped_has : {G : Env} {t : Term} {T : Ty} (xs : List ℕ) → Has k S G t T → Covers G xs
        → scoped t xs ≡ true
    scoped_has {G} {t} xs (has R qs ws f ps vs b) c =
        ap (λ (g : Scoped). g xs) (out_scoped k S t)
        ∙ scopes G (out-Term t) qs ws R xs c f ps vs (scoped_parts_have xs ps c)

    scoped_parts_have : {G : Env} {ts : List Term} {qs : List Part} (xs : List ℕ)
        → HasParts k S G ts qs → Covers G xs → AllScoped ts qs xs
    scoped_parts_have xs parts0 c = tt
    scoped_parts_have {G} xs (parts1 {q = q} n h hs) c = (
      scoped_has (variables q.vars ++ xs) h (covers_binds q.vars G xs c),
      scoped_parts_have xs hs c,
    )

  pub function_holds : (c : Closure) (ws : List Ty) → HasVs k S (held_values c) ws
      → Has k S (binds (vars_of c ws) none) c.body c.result → holds_all c ≡ true
  function_holds c ws i h =
      closure_scoped k S c [] ∙ ap (scoped c.body) (body_names k S c ws [] i)
      ∙ scoped_has (variables (vars_of c ws) ++ []) h
      (covers_binds (vars_of c ws) none [] (λ z B e. absurd cc))

-- values of parts that stand together
value_of : (ts : List Term) (vs : List Value) → standing_together ts ≡ at_values vs
    → values_of ts ≡ Some vs
value_of [] vs e = let z : [] ≡ vs = cc in ap Some z
value_of (t ∷ ts) vs e =
    go (standing t) refl (has_stepped t) refl (standing_together ts) refl (λ us q. value_of ts us q)
  where
    go : (st : Standing) → standing t ≡ st → (b : Bool) → has_stepped t ≡ b → (g : Together)
        → standing_together ts ≡ g
        → ((us : List Value) → standing_together ts ≡ at_values us → values_of ts ≡ Some us)
        → values_of (t ∷ ts) ≡ Some vs
    go st p b m g q r =
        at st b g p q r (sym (ap (λ x. with_first x b g) p)
        ∙ sym (ap (λ x. with_first (standing t) x g) m)
        ∙ sym (ap (λ x. with_first (standing t) (has_stepped t) x) q) ∙ e)
      where
        at : (st : Standing) (b : Bool) (g : Together) → standing t ≡ st → standing_together ts ≡ g
            → ((us : List Value) → standing_together ts ≡ at_values us → values_of ts ≡ Some us)
            → with_first st b g ≡ at_values vs → values_of (t ∷ ts) ≡ Some vs
        at (at_value v) b (at_values us) p q r z =
            let y : v ∷ us ≡ vs = cc
            in ap (λ st. option_and_then (λ
            (v : Value). option_map (λ (vs : List Value). v ∷ vs) (values_of ts)) (value_at st))
            p ∙ ap (option_map (λ (vs : List Value). v ∷ vs)) (r us q) ∙ ap Some y
        at (at_value v) b (leftmost w) p q r z = absurd cc
        at (at_value v) b some_still p q r z = absurd cc
        at (at_value v) b some_open p q r z = absurd cc
        at (at_throw v) b some_open p q r z = absurd cc
        at (at_throw v) b (at_values us) p q r z = absurd cc
        at (at_throw v) b (leftmost w) p q r z = absurd cc
        at (at_throw v) b some_still p q r z = absurd cc
        at open_yet true g p q r z = absurd cc
        at open_yet false (at_values us) p q r z = absurd cc
        at open_yet false (leftmost w) p q r z = absurd cc
        at open_yet false some_still p q r z = absurd cc
        at open_yet false some_open p q r z = absurd cc

-- parts that have these values
these : (ts : List Term) (vs : List Value) → values_of ts ≡ Some vs → ts ≡ map term.Value vs
these [] vs e = let z : [] ≡ vs = cc in ap (map term.Value) z
these (t ∷ ts) vs e = go (standing t) refl (values_of ts) refl (λ us q. these ts us q)
  where
    go : (st : Standing) → standing t ≡ st → (w : Option (List Value)) → values_of ts ≡ w
        → ((us : List Value) → values_of ts ≡ Some us → ts ≡ map term.Value us)
        → t ∷ ts ≡ map term.Value vs
    go (at_throw v) p w q r =
        let z : None ≡ Some vs =
        sym (ap (λ st. option_and_then (λ
        (v : Value). option_map (λ (vs : List Value). v ∷ vs) (values_of ts)) (value_at st)) p)
        ∙ e in absurd cc
    go open_yet p w q r =
        let z : None ≡ Some vs =
        sym (ap (λ st. option_and_then (λ
        (v : Value). option_map (λ (vs : List Value). v ∷ vs) (values_of ts)) (value_at st)) p)
        ∙ e in absurd cc
    go (at_value v) p None q r =
        let z : None ≡ Some vs =
        sym (ap (λ st. option_and_then (λ
        (v : Value). option_map (λ (vs : List Value). v ∷ vs) (values_of ts)) (value_at st)) p
        ∙ ap (option_map (λ (vs : List Value). v ∷ vs)) q) ∙ e in absurd cc
    go (at_value v) p (Some us) q r =
        let z : Some (v ∷ us) ≡ Some vs =
        sym (ap (λ st. option_and_then (λ
        (v : Value). option_map (λ (vs : List Value). v ∷ vs) (values_of ts)) (value_at st)) p
        ∙ ap (option_map (λ (vs : List Value). v ∷ vs)) q) ∙ e in
        let y : v ∷ us ≡ vs = cc
        in ap (λ x. x ∷ ts) (is_value t v p) ∙ ap (λ r. term.Value v ∷ r) (r us q)
        ∙ ap (map term.Value) y

-- what stands in a term of a run is itself one, at rest or not
all_rest_proper : {ts : List Term} → AllResting ts → AllProper ts
all_rest_proper no_rests = no_propers
all_rest_proper (next_rest h hs) = next_proper (rest_proper h) (all_rest_proper hs)

joined_proper : {ts us : List Term} → AllProper ts → AllProper us → AllProper (ts ++ us)
joined_proper no_propers i = i
joined_proper (next_proper h hs) i = next_proper h (joined_proper hs i)

both_proper : {t : Term} {ts : List Term} → AllProper (t ∷ []) → AllResting ts → AllProper (t ∷ ts)
both_proper (next_proper h hs) r = next_proper h (all_rest_proper r)

between_proper : {t u v : Term} → AllProper (u ∷ []) → AllResting (t ∷ v ∷ [])
    → AllProper (t ∷ u ∷ v ∷ [])
between_proper (next_proper h hs) (next_rest i (next_rest j r)) =
    next_proper (rest_proper i) (next_proper h (next_proper (rest_proper j) no_propers))

all_parts : (y : Term-F Term Value Closure) → AllProper (going_in y) → AllResting (resting_in y)
    → AllProper (terms_in y)
all_parts (Term-F.Fn c) g r = all_rest_proper r
all_parts (Term-F.Let xs a b) g r = both_proper g r
all_parts (Term-F.Mutable x ty a b) g r = both_proper g r
all_parts (Term-F.Then a b) g r = both_proper g r
all_parts (Term-F.If c a b) g r = both_proper g r
all_parts (Term-F.While c b) g r = all_rest_proper r
all_parts (Term-F.Typecase x a cs b) g r = both_proper g r
all_parts (Term-F.For order s x a b) g r = both_proper g r
all_parts (Term-F.Reduce order s set empty x a b) g r = between_proper g r
all_parts (Term-F.Try a x cs last) g r = both_proper g r
all_parts (Term-F.Atomic m a) g r = all_rest_proper r
all_parts (Term-F.Asleep marks a) g r = all_rest_proper r
all_parts form g r = g

-- a form of a run
abbrev Tidy : Term-F Term Value Closure → Type 0
Tidy y = MarksOpen y × IsNoValue y × AllResting (resting_in y)

map_more : (before : List Value) (v : Value) (ts : List Term)
    → map term.Value before ++ term.Value v ∷ ts ≡ map term.Value (before ++ v ∷ []) ++ ts
map_more [] v ts = refl
map_more (w ∷ before) v ts = ap (λ r. term.Value w ∷ r) (map_more before v ts)

module _ (k : Program) (o : Facts k) (def : Defined k) (all : Complete k) (inner : Bool) (S : Sig)
    (s : Store) (m : StoreOk k S s) (fin : Finite s) where
  abbrev O : Term → Type 0
  O t = Goes k inner s t

  abbrev Lives : Act → Type 0
  Lives x = Live k o def all inner S s m fin x

  abbrev GoAll : List Term → List Part → Type 0
  GoAll [] qs = Unit {0}
  GoAll (t ∷ ts) [] = Unit {0}
  GoAll (t ∷ ts) (q ∷ qs) = (q.vars ≡ [] → O t) × GoAll ts qs

  go_in : (before : List Term) (a : Term) (behind : List Term) (As : List Ty)
      → HasParts k S none (before ++ a ∷ behind) (plains As)
      → GoAll (before ++ a ∷ behind) (plains As) → O a
  go_in [] a behind [] h g = elim h [ ]
  go_in [] a behind (A ∷ As) h g = g.0 refl
  go_in (t ∷ before) a behind [] h g = elim h [ ]
  go_in (t ∷ before) a behind (A ∷ As) (parts1 n h hs) g = go_in before a behind As hs g.1

  split_in : (ts : List Term) (As : List Ty) → HasParts k S none ts (plains As)
      → GoAll ts (plains As) → (sp : Split k o def all inner S s m fin ts) → O sp.part
  split_in ts As h g sp =
      go_in sp.before sp.part sp.behind As
      (subst (λ z. HasParts k S none z (plains As)) sp.is_list h)
      (subst (λ z. GoAll z (plains As)) sp.is_list g)

  typed_values : (ts : List Term) (As : List Ty) (vs : List Value)
      → HasParts k S none ts (plains As) → standing_together ts ≡ at_values vs → HasVs k S vs As
  typed_values ts As vs h e =
      subst (λ x. AllGood k o S m.opened x As) e (together_good k o S m.opened ts As h)

  deep_on : (t : Term) (n : ℕ) → act k t ≡ too_deep k n → (nat_le n deepest ≡ true → ⊥) → O t
  deep_on t n r d = go (nat_le n deepest) refl
    where
      go : (b : Bool) → nat_le n deepest ≡ b → O t
      go true e = absurd (d e)
      go false e =
          by_act k o def all inner S s m fin t (throwing k k.built_in.depth_exceeded) (r
          ∙ ap (λ b. if b then stuck else throwing k k.built_in.depth_exceeded) e)
          (live_failing k o def all inner S s m fin k.built_in.depth_exceeded
          (inr (inr (inr (inr (inr (inl refl)))))))

  -- two parts beside each other
  pair_on : (t a b : Term) (f g : Frame) → t ≡ on f a → t ≡ on g b
      → ((list_any is_thrown (b ∷ []) && is_still a) ≡ false → passes f a ≡ false)
      → ((list_any is_thrown (a ∷ []) && is_still b) ≡ false → passes g b ≡ false)
      → O a → O b → Split k o def all inner S s m fin (a ∷ b ∷ []) → O t
  pair_on t a b f g ea eb pa pb ha hb sp =
      go sp.before sp.part sp.behind sp.is_list sp.is_open sp.reached
    where
      go : (before : List Term) (x : Term) (behind : List Term) → a ∷ b ∷ [] ≡ before ++ x ∷ behind
          → standing x ≡ open_yet → (list_any is_thrown (before ++ behind) && is_still x) ≡ false
          → O t
      go [] x behind e op r = let p : x ≡ a = cc in let w : behind ≡ b ∷ [] = cc in
          lift k o def all inner S s m fin t f a ea
          (pa (ap (λ z. list_any is_thrown z && is_still a) (sym w)
          ∙ ap (λ z. list_any is_thrown behind && is_still z) (sym p) ∙ r))
          (ap standing (sym p) ∙ op) ha
      go (y ∷ []) x behind e op r =
          let p : x ≡ b = cc in let w : behind ≡ [] = cc in let u : y ≡ a = cc in
          lift k o def all inner S s m fin t g b eb
          (pb (ap (λ z. list_any is_thrown (z ∷ []) && is_still b) (sym u)
          ∙ ap (λ z. list_any is_thrown (y ∷ z) && is_still b) (sym w)
          ∙ ap (λ z. list_any is_thrown (y ∷ behind) && is_still z) (sym p) ∙ r))
          (ap standing (sym p) ∙ op) hb
      go (y ∷ z ∷ []) x behind e op r = let w : [] ≡ x ∷ behind = cc in absurd cc
      go (y ∷ z ∷ u ∷ before) x behind e op r =
          let w : [] ≡ u ∷ (before ++ x ∷ behind) = cc in absurd cc

  operands_on : (t : Term) (set : SetId) (before : List Value) (ts : List Term) (As : List Ty)
      (g : List Value → Act) → t ≡ Operator set (map term.Value before ++ ts)
      → act k t ≡ after_all ts g → GoAll ts (plains As)
      → HasParts k S none ts (plains As)
      → ((vs : List Value) → HasVs k S vs As → act k t ≡ g vs → O t) → O t
  operands_on t set before [] [] g e q i h c = c [] vs0 q
  operands_on t set before [] (A ∷ As) g e q i h c = elim h [ ]
  operands_on t set before (a ∷ ts) [] g e q i h c = elim h [ ]
  operands_on t set before (a ∷ ts) (A ∷ As) g e q i (parts1 n h hs) c =
      after_on k o def all inner S s m fin t (in_operand set before ts) a
      (λ v. after_all ts (λ vs. g (v ∷ vs))) e refl q (i.0 refl)
      (λ v x r. operands_on t set (before ++ v ∷ []) ts As (λ vs. g (v ∷ vs)) (e
      ∙ ap (λ z. Operator set (map term.Value before ++ z ∷ ts)) x
      ∙ ap (Operator set) (map_more before v ts)) r i.1 hs
      (λ vs j w. c (v ∷ vs) (vs1 (value_has k S o.transitive (subst (λ u. Has k S none u A) x h)) j)
      w))

  apply_on : (t a b : Term) (A R : Ty) (vs : List Value) → HasVs k S vs (Arrow A R ∷ A ∷ [])
      → a ∷ b ∷ [] ≡ map term.Value vs → Proper a → act k t ≡ applying vs → O t
  apply_on t a b A R [] h e p q = absurd cc
  apply_on t a b A R (f ∷ []) h e p q = let w : b ∷ [] ≡ [] = cc in absurd cc
  apply_on t a b A R (f ∷ v ∷ []) (vs1 hf (vs1 hv i)) e p q =
      let w : a ≡ term.Value f = cc in
      let c = function_is k o all S m.opened f A R hf in
      let j = bound_is k o all S m.opened c.0.parameters v (sub_v k S o.transitive hv c.2) in
      by_act k o def all inner S s m fin t (entering c.0 (Some j.0)) (q
      ∙ ap (λ y. applying_to y v) c.1
      ∙ ap (entering c.0) j.1) (bare (value_proper (subst Proper w p)) c.0 c.1)
    where
      bare : RestingValue f → (c : Closure) → out-Value f ≡ Value-F.Function c → Bare c.body
      bare h c e =
          rest_bare (one_rest (subst (λ y. AllResting (bodies_of y)) e (value_rests_of h).terms))
  apply_on t a b A R (f ∷ v ∷ u ∷ vs) h e p q =
      let w : [] ≡ term.Value u ∷ map term.Value vs = cc in absurd cc

  there : (l : ℕ) (F : Ty) → S l ≡ Some F → (v : Value) × (s l ≡ Some v)
  there l F e = let i = m.holds l F e in (i.0, i.1)

  filling_live : (A : Ty) (w : Value) (n : ℤ) → Lives (filling k A w (Value-F.Small n))
  filling_live A w (pos n) = tt
  filling_live A w (negsuc n) =
      live_failing k o def all inner S s m fin k.built_in.negative_size
      (inr (inr (inr (inr (inl refl)))))

  choosing_live : (b : Bool) (a c : Term) → Lives (choosing (Value-F.Truth b) a c)
  choosing_live true a c = tt
  choosing_live false a c = tt

  element_live : (E : Ty) (base : Loc) (size : ℕ) (i : ℤ) (f : Option ℕ → Act)
      → ((n : ℕ) → n < size → Lives (f (Some (base.0 + n))))
      → Lives (by_element k (Value-F.Array E base size) (Value-F.Small i) f)
  element_live E base size (negsuc i) f g =
      live_failing k o def all inner S s m fin k.built_in.index_out_of_range
      (inr (inr (inr (inl refl))))
  element_live E base size (pos i) f g = go (nat_lt i size) refl
    where
      go : (b : Bool) → nat_lt i size ≡ b
          → Lives (if b then f (Some (base.0 + i)) else throwing k k.built_in.index_out_of_range)
      go true e = g i (less_of i size e)
      go false e =
          live_failing k o def all inner S s m fin k.built_in.index_out_of_range
          (inr (inr (inr (inl refl))))

  field_there : (v : Value) (id : TypeId) (n : NameId) (A : Ty) → HasV k S v (Named id)
      → FieldOf k id n A
      → (l : ℕ) × (w : Value) × (field_of k n (out-Value v) ≡ Some l) × (s l ≡ Some w)
  field_there v id n A h i =
      let x = object_is k o all S m.opened v id n A h i in
      let r = rule_v k S x.2 h in
      let g = o.fields x.0 id n A r.fits.0.shape i r.fits.0.is_shape r.fits.0.is_made
      (subst (λ X. Below k X (Named id)) r.fits.1 r.below) in
      let l = field_at k o S m.opened x.0 x.1 n g.0 r.fits.0 g.1 in
      let w = there l.location g.0 l.is_type in
      (l.location, w.0, ap (field_of k n) x.2 ∙ l.is_location, w.1)

  -- items
  abbrev ItemsHere : Items → Type 0
  ItemsHere (numbers_from first count) = Unit {0}
  ItemsHere (elements_from base count) = (n : ℕ) → n < count → (v : Value) × (s (base + n) ≡ Some v)
  ItemsHere no_items = ⊥

  items_here : (v : Value) (A I : Ty) → HasV k S v A → ItemsOf k A I
      → ItemsHere (items_at (out-Value v))
  items_here v A I h (inl i) =
      let r = range_is k o all S m.opened v (subst (λ X. HasV k S v X) i.0 h)
      in subst (λ y. ItemsHere (items_at y)) (sym r.2) tt
  items_here v A I h (inr i) =
      let hv = subst (λ X. HasV k S v X) i h in let r = array_is k o all S m.opened v I hv in
      let u = rule_v k S r.3 hv in
      subst (λ y. ItemsHere (items_at y)) (sym r.3) (λ n l. there (r.1.0 + n) r.0 (u.fits.0.0 n l))

  item_live : (items : Items) (n : ℕ) (next : Value → Term) → ItemsHere items → n < count_of items
      → Lives (by_item items n next)
  item_live (numbers_from first count) n next h l = tt
  item_live (elements_from base count) n next h l = h n l
  item_live no_items n next h l = absurd h

  for_live : (w : Order) (items : Items) (n c x : ℕ) (v : Value) (b : Term) → ItemsHere items
      → n + c ≤ count_of items → Lives (for_items w items n c x v b)
  for_live w items n zero x v b h l = tt
  for_live order.Seq items n (suc c) x v b h l = item_live items n _ h (omega arith)
  for_live order.Parallel items n (suc zero) x v b h l = item_live items n _ h (omega arith)
  for_live order.Parallel items n (suc (suc c)) x v b h l = tt

  reduce_live : (w : Order) (items : Items) (n c : ℕ) (set : SetId) (e : Term) (x : ℕ) (v : Value)
      (b : Term) → ItemsHere items → n + c ≤ count_of items
      → Lives (reduce_items w items n c set e x v b)
  reduce_live w items n zero set e x v b h l = tt
  reduce_live w items n (suc zero) set e x v b h l = item_live items n _ h (omega arith)
  reduce_live w items n (suc (suc c)) set e x v b h l = tt

  spanned_live : (p : Span) (v : Value) (f : ℕ → ℕ → Act) → SpanOf k o S m.opened p v
      → ItemsHere (items_at (out-Value v))
      → ((n c : ℕ) → n + c ≤ count_of (items_at (out-Value v)) → Lives (f n c))
      → Lives (spanned p (items_at (out-Value v)) f)
  spanned_live (span.Part n c) v f i h g = g n c i
  spanned_live span.Whole v f i h g = go (items_at (out-Value v)) h g
    where
      go : (items : Items) → ItemsHere items → ((n c : ℕ) → n + c ≤ count_of items → Lives (f n c))
          → Lives (spanned span.Whole items f)
      go (numbers_from first count) h g = g 0 count (omega arith)
      go (elements_from base count) h g = g 0 count (omega arith)
      go no_items h g = absurd h

  first_proper : {a : Term} {ts : List Term} → AllProper (a ∷ ts) → Proper a
  first_proper (next_proper p ps) = p

  of_value : (v : Value) (a : Term) (A : Ty) → a ≡ term.Value v → Has k S none a A → HasV k S v A
  of_value v a A x h = value_has k S o.transitive (subst (λ u. Has k S none u A) x h)

  try_on : (t a : Term) (y : ℕ) (cs : List (Term × Ty)) (last : Option Term)
      → t ≡ term.Try a y cs last → act k t ≡ trying k y cs last (standing a) → O a → O t
  try_on t a y cs last is q h = go (decide a)
    where
      go : (standing a ≡ open_yet) ⊎ Finished a → O t
      go (inl op) = lift k o def all inner S s m fin t (in_try y cs last) a is refl op h
      go (inr (ends.Finished.value v x)) =
          by_act k o def all inner S s m fin t (trying k y cs last (at_value v)) (q
          ∙ ap (trying k y cs last) (ap standing x ∙ standing-Value v)) tt
      go (inr (ends.Finished.throw v x)) =
          by_act k o def all inner S s m fin t (trying k y cs last (at_throw v)) (q
          ∙ ap (trying k y cs last) (ap standing x ∙ standing-throw v)) tt

  form_on : (t : Term) (y : Term-F Term Value Closure) → out-Term t ≡ y
      → (R : Ty) (qs : List Part) (ws : List Ty) → Fits k S none y qs ws R
      → HasParts k S none (terms_in y) qs → HasVs k S (values_in y) ws
      → GoAll (terms_in y) qs → Tidy y → AllProper (terms_in y) → O t
  form_on t (Term-F.Value v) e R qs ws f ps vs g td pp =
      done (ends.Finished.value v (rolled t _ e ∙ rolls-Value v))
  form_on t (Term-F.Variable x) e R qs ws f ps vs g td pp = absurd cc
  form_on t (Term-F.Throw a) e R qs ws f ps vs g td pp =
      let is = rolled t _ e ∙ rolls-Throw a in let q = ap (act_at k) e in
      let j = subst (λ z. GoAll (a ∷ []) z) (f) g in let i = parts_as k S ps (f) in
      after_on k o def all inner S s m fin t (in_throw) a _ (is) refl q (j.0 refl)
      (λ v x r. done (ends.Finished.throw v (is ∙ ap Throw x)))
  form_on t (Term-F.Group ts) e R qs ws f ps vs g td pp =
      let is = rolled t _ e ∙ rolls-Group ts in let q = ap (act_at k) e in
      let h = subst (λ z. HasParts k S none ts z) f.1 ps in
      once_on k o def all inner S s m fin t ts _ q
      (λ sp. lift k o def all inner S s m fin t (in_group sp.before sp.behind) sp.part (is
      ∙ ap Group sp.is_list
      ∙ sym (group_open (sp.before ++ sp.part ∷ sp.behind)
      (values_open sp.before sp.behind sp.part sp.is_open))) sp.reached sp.is_open
      (split_in ts f.0 h (subst (λ z. GoAll ts z) f.1 g) sp))
      (λ us z r. deep_on t (depth (Pack us)) r (λ d.
      let x : term.Value (Pack us) ≡ Group ts =
      sym (ap (tuple_of ts) (value_of ts us z)
      ∙ ap (λ b. if b then term.Value (Pack us) else Group ts) d) ∙ td.1 in
      let w : Term-F.Value (Pack us) ≡ Term-F.Group ts =
      sym (outs-Value (Pack us)) ∙ ap out-Term x ∙ outs-Group ts in absurd cc))
  form_on t (Term-F.Fn c) e R qs ws f ps vs g td pp =
      let q = ap (act_at k) e in
      let i = parts_as k S ps f.0 in
      let h = function_holds k S c ws vs i.0.1 in
      deep_on t (closure_depth c) (q
      ∙ ap (λ b. if b then too_deep k (closure_depth c) else stuck) h) (λ d.
      let x : term.Value (Function c) ≡ Fn c =
      sym (ap (λ b. if b && nat_le (closure_depth c) deepest then term.Value (Function c)
      else Fn c) h ∙ ap (λ b. if b then term.Value (Function c) else Fn c) d) ∙ td.1 in
      let w : Term-F.Value (Function c) ≡ Term-F.Fn c =
      sym (outs-Value (Function c)) ∙ ap out-Term x ∙ outs-Fn c in absurd cc)
  form_on t (Term-F.Call set ts) e R qs ws f ps vs g td pp =
      let is = rolled t _ e ∙ rolls-Call set ts in let q = ap (act_at k) e in
      let h = subst (λ z. HasParts k S none ts z) f.1 ps in
      once_on k o def all inner S s m fin t ts _ q
      (λ sp. lift k o def all inner S s m fin t (in_call set sp.before sp.behind) sp.part (is
      ∙ ap (Call set) sp.is_list) sp.reached sp.is_open
      (split_in ts f.0 h (subst (λ z. GoAll ts z) f.1 g) sp))
      (λ us z r. by_calls k o def all inner S s m fin t set us f.0 R r f.2
      (typed_values ts f.0 us h z))
  form_on t (Term-F.Also ts) e R qs ws f ps vs g td pp =
      let is = rolled t _ e ∙ rolls-Also ts in let q = ap (act_at k) e in
      let h = subst (λ z. HasParts k S none ts z) f.1 ps in
      once_on k o def all inner S s m fin t ts _ q
      (λ sp. lift k o def all inner S s m fin t (in_block sp.before sp.behind) sp.part (is
      ∙ ap Also sp.is_list) sp.reached sp.is_open
      (split_in ts f.0 h (subst (λ z. GoAll ts z) f.1 g) sp))
      (λ us z r. by_act k o def all inner S s m fin t _ r tt)
  form_on t (Term-F.Operator set ts) e R qs ws f ps vs g td pp =
      operands_on t set [] ts f.0 (calls set) (rolled t _ e
      ∙ rolls-Operator set ts) (ap (act_at k) e) (subst (λ z. GoAll ts z) f.1 g)
      (subst (λ z. HasParts k S none ts z) f.1 ps)
      (λ us h r. by_calls k o def all inner S s m fin t set us f.0 R r f.2 h)
  form_on t (Term-F.Apply a b) e R qs ws f ps vs g td pp =
      let is = rolled t _ e ∙ rolls-Apply a b in let q = ap (act_at k) e in
      let j = subst (λ z. GoAll (a ∷ b ∷ []) z) (f.1) g in let i = parts_as k S ps (f.1) in
      let h = subst (λ z. HasParts k S none (a ∷ b ∷ []) z) (f.1) ps in
      once_on k o def all inner S s m fin t (a ∷ b ∷ []) _ q
      (pair_on t a b (in_function b) (in_argument a) is is (λ x. x) (λ x. x) (j.0 refl)
      (j.1.0 refl))
      (λ us z r. apply_on t a b f.0 R us
      (typed_values (a ∷ b ∷ []) (Arrow f.0 R ∷ f.0 ∷ []) us h z)
      (these (a ∷ b ∷ []) us (value_of (a ∷ b ∷ []) us z)) (first_proper pp) r)
  form_on t (Term-F.ForHalves a b) e R qs ws f ps vs g td pp =
      let is = rolled t _ e ∙ rolls-ForHalves a b in let q = ap (act_at k) e in
      let j = subst (λ z. GoAll (a ∷ b ∷ []) z) (f.2) g in let i = parts_as k S ps (f.2) in
      let h = subst (λ z. HasParts k S none (a ∷ b ∷ []) z) (f.2) ps in
      once_on k o def all inner S s m fin t (a ∷ b ∷ []) _ q
      (pair_on t a b (in_first_half b) (in_second_half a) is is (λ x. x) (λ x. x) (j.0 refl)
      (j.1.0 refl)) (λ us z r. by_act k o def all inner S s m fin t _ r tt)
  form_on t (Term-F.ReduceHalves set a b) e R qs ws f ps vs g td pp =
      let is = rolled t _ e ∙ rolls-ReduceHalves set a b in let q = ap (act_at k) e in
      let j = subst (λ z. GoAll (a ∷ b ∷ []) z) (f.2) g in let i = parts_as k S ps (f.2) in
      let h = subst (λ z. HasParts k S none (a ∷ b ∷ []) z) (f.2) ps in
      once_on k o def all inner S s m fin t (a ∷ b ∷ []) _ q
      (pair_on t a b (in_first_reduced set b) (in_second_reduced set a) is is (λ x. x) (λ x. x)
      (j.0 refl) (j.1.0 refl))
      (λ us z r. by_calls k o def all inner S s m fin t set us (f.0 ∷ f.1 ∷ []) R r f.3
      (typed_values (a ∷ b ∷ []) (f.0 ∷ f.1 ∷ []) us h z))
  form_on t (Term-F.Fill A n a) e R qs ws f ps vs g td pp =
      let is = rolled t _ e ∙ rolls-Fill A n a in let q = ap (act_at k) e in
      let j = subst (λ z. GoAll (n ∷ a ∷ []) z) (f.0) g in let i = parts_as k S ps (f.0) in
      after_on k o def all inner S s m fin t (in_fill_size A a) n _ (is) refl q (j.0 refl)
      (λ v x r. after_on k o def all inner S s m fin t (in_fill_value A v) a _ (is
      ∙ ap (λ u. Fill A u a) x) refl r (j.1.0 refl) (λ w u z. let c =
      small_is k o all S m.opened v (of_value v n (small_type k) x i.0.1)
      in by_act k o def all inner S s m fin t _ (z
      ∙ ap (filling k A w) c.1) (filling_live A w c.0)))
  form_on t (Term-F.Let xs a b) e R qs ws f ps vs g td pp =
      let is = rolled t _ e ∙ rolls-Let xs a b in let q = ap (act_at k) e in
      let j = subst (λ z. GoAll (a ∷ b ∷ []) z) (f.0) g in let i = parts_as k S ps (f.0) in
      after_on k o def all inner S s m fin t (in_let xs b) a _ (is) refl q (j.0 refl)
      (λ v x r. let c = bound_is k o all S m.opened xs v (of_value v a (domain_of xs) x i.0.1)
      in by_act k o def all inner S s m fin t _ (r ∙ ap (λ z. binding z b) c.1) tt)
  form_on t (Term-F.Mutable y A a b) e R qs ws f ps vs g td pp =
      let is = rolled t _ e ∙ rolls-Mutable y A a b in let q = ap (act_at k) e in
      let j = subst (λ z. GoAll (a ∷ b ∷ []) z) (f) g in let i = parts_as k S ps (f) in
      after_on k o def all inner S s m fin t (in_mutable y A b) a _ (is) refl q (j.0 refl)
      (λ v x r. by_act k o def all inner S s m fin t _ r tt)
  form_on t (Term-F.Read (slot.Location l)) e R qs ws f ps vs g td pp =
      by_act k o def all inner S s m fin t _ (ap (act_at k) e) (there l.0 R f)
  form_on t (Term-F.Read (slot.Variable x)) e R qs ws f ps vs g td pp = absurd cc
  form_on t (Term-F.Write (slot.Location l) a) e R qs ws f ps vs g td pp =
      let is = rolled t _ e ∙ rolls-Write (slot.Location l) a in let q = ap (act_at k) e in
      let j = subst (λ z. GoAll (a ∷ []) z) (f.2) g in let i = parts_as k S ps (f.2) in
      after_on k o def all inner S s m fin t (in_write (slot.Location l)) a _ (is) refl q (j.0 refl)
      (λ v x r. by_act k o def all inner S s m fin t _ r (there l.0 f.0 f.1))
  form_on t (Term-F.Write (slot.Variable x) a) e R qs ws f ps vs g td pp = let z = f.1 in absurd cc
  form_on t (Term-F.ReadField a n) e R qs ws f ps vs g td pp =
      let is = rolled t _ e ∙ rolls-ReadField a n in let q = ap (act_at k) e in
      let j = subst (λ z. GoAll (a ∷ []) z) (f.2) g in let i = parts_as k S ps (f.2) in
      after_on k o def all inner S s m fin t (in_field n) a _ (is) refl q (j.0 refl)
      (λ v x r. let c = field_there v f.0 n R (of_value v a (Named f.0) x i.0.1) f.1
      in by_act k o def all inner S s m fin t _ (r ∙ ap reading_at c.2) (c.1, c.3))
  form_on t (Term-F.WriteField a n b) e R qs ws f ps vs g td pp =
      let is = rolled t _ e ∙ rolls-WriteField a n b in let q = ap (act_at k) e in
      let j = subst (λ z. GoAll (a ∷ b ∷ []) z) (f.4) g in let i = parts_as k S ps (f.4) in
      after_on k o def all inner S s m fin t (in_field_target n b) a _ (is) refl q (j.0 refl)
      (λ v x r. after_on k o def all inner S s m fin t (in_field_value v n) b _ (is
      ∙ ap (λ u. WriteField u n b) x) refl r (j.1.0 refl) (λ w u z. let c =
      field_there v f.0 n f.1 (of_value v a (Named f.0) x i.0.1) f.2
      in by_act k o def all inner S s m fin t _ (z
      ∙ ap (λ y. writing_at y w) c.2) (c.1, c.3)))
  form_on t (Term-F.ReadElement a b) e R qs ws f ps vs g td pp =
      let is = rolled t _ e ∙ rolls-ReadElement a b in let q = ap (act_at k) e in
      let j = subst (λ z. GoAll (a ∷ b ∷ []) z) (f) g in let i = parts_as k S ps (f) in
      after_on k o def all inner S s m fin t (in_element b) a _ (is) refl q (j.0 refl)
      (λ v x r. after_on k o def all inner S s m fin t (in_index v) b _ (is
      ∙ ap (λ u. ReadElement u b) x) refl r (j.1.0 refl) (λ w u z. let hv =
      of_value v a (Array R) x i.0.1 in let c = array_is k o all S m.opened v R hv
      in let d = small_is k o all S m.opened w (of_value w b (small_type k) u i.1.0.1)
      in let l = rule_v k S c.3 hv
      in by_act k o def all inner S s m fin t _ (z
      ∙ ap (λ y. by_element k y (out-Value w) reading_at) c.3
      ∙ ap (λ y. by_element k (Value-F.Array c.0 c.1 c.2) y reading_at) d.1)
      (element_live c.0 c.1 c.2 d.0 reading_at
      (λ n h. there (c.1.0 + n) c.0 (l.fits.0.0 n h)))))
  form_on t (Term-F.WriteElement a b c) e R qs ws f ps vs g td pp =
      let is = rolled t _ e ∙ rolls-WriteElement a b c in let q = ap (act_at k) e in
      let j = subst (λ z. GoAll (a ∷ b ∷ c ∷ []) z) (f.1) g in let i = parts_as k S ps (f.1) in
      after_on k o def all inner S s m fin t (in_element_target b c) a _ (is) refl q (j.0 refl)
      (λ v x r. after_on k o def all inner S s m fin t (in_element_index v c) b _ (is
      ∙ ap (λ u. WriteElement u b c) x) refl r (j.1.0 refl)
      (λ w u z. after_on k o def all inner S s m fin t (in_element_value v w) c _ (is
      ∙ ap (λ u. WriteElement u b c) x
      ∙ ap (λ z. WriteElement (term.Value v) z c) u) refl z (j.1.1.0 refl)
      (λ y p n. let hv = of_value v a (Array f.0) x i.0.1
      in let d = array_is k o all S m.opened v f.0 hv
      in let h = small_is k o all S m.opened w (of_value w b (small_type k) u i.1.0.1)
      in let l = rule_v k S d.3 hv
      in by_act k o def all inner S s m fin t _ (n
      ∙ ap (λ x. by_element k x (out-Value w) (λ l. writing_at l y)) d.3
      ∙ ap (λ x. by_element k (Value-F.Array d.0 d.1 d.2) x (λ l. writing_at l y)) h.1)
      (element_live d.0 d.1 d.2 h.0 (λ l. writing_at l y)
      (λ n q. there (d.1.0 + n) d.0 (l.fits.0.0 n q))))))
  form_on t (Term-F.Size a) e R qs ws f ps vs g td pp =
      let is = rolled t _ e ∙ rolls-Size a in let q = ap (act_at k) e in
      let j = subst (λ z. GoAll (a ∷ []) z) (f.1) g in let i = parts_as k S ps (f.1) in
      after_on k o def all inner S s m fin t (in_size) a _ (is) refl q (j.0 refl) (λ v x r. let c =
      array_is k o all S m.opened v f.0 (of_value v a (Array f.0) x i.0.1)
      in by_act k o def all inner S s m fin t _ (r ∙ ap sizing c.3) tt)
  form_on t (Term-F.Then a b) e R qs ws f ps vs g td pp =
      let is = rolled t _ e ∙ rolls-Then a b in let q = ap (act_at k) e in
      let j = subst (λ z. GoAll (a ∷ b ∷ []) z) (f.1) g in let i = parts_as k S ps (f.1) in
      after_on k o def all inner S s m fin t (in_then b) a _ (is) refl q (j.0 refl)
      (λ v x r. by_act k o def all inner S s m fin t _ r tt)
  form_on t (Term-F.If a b c) e R qs ws f ps vs g td pp =
      let is = rolled t _ e ∙ rolls-If a b c in let q = ap (act_at k) e in
      let j = subst (λ z. GoAll (a ∷ b ∷ c ∷ []) z) (f) g in let i = parts_as k S ps (f) in
      after_on k o def all inner S s m fin t (in_test b c) a _ (is) refl q (j.0 refl)
      (λ v x r. let d = truth_is k o all S m.opened v (of_value v a (truth_type k) x i.0.1)
      in by_act k o def all inner S s m fin t _ (r
      ∙ ap (λ y. choosing y b c) d.1) (choosing_live d.0 b c))
  form_on t (Term-F.While a b) e R qs ws f ps vs g td pp =
      by_act k o def all inner S s m fin t _ (ap (act_at k) e) tt
  form_on t (Term-F.Typecase y a cs b) e R qs ws f ps vs g td pp =
      let is = rolled t _ e ∙ rolls-Typecase y a cs b in let q = ap (act_at k) e in
      let j = subst (λ z. GoAll (a ∷ b ∷ in_clauses cs) z) (f.1) g in let i = parts_as k S ps (f.1)
      in
      after_on k o def all inner S s m fin t (in_subject y cs b) a _ (is) refl q (j.0 refl)
      (λ v x r. by_act k o def all inner S s m fin t _ r tt)
  form_on t (Term-F.For w p y a b) e R qs ws f ps vs g td pp =
      let is = rolled t _ e ∙ rolls-For w p y a b in let q = ap (act_at k) e in
      let j = subst (λ z. GoAll (a ∷ b ∷ []) z) (f.4) g in let i = parts_as k S ps (f.4) in
      after_on k o def all inner S s m fin t (in_source w p y b) a _ (is) refl q (j.0 refl)
      (λ v x r. let h = items_here v f.0 f.1 (of_value v a f.0 x i.0.1) f.2
      in by_act k o def all inner S s m fin t _ r
      (spanned_live p v _ (span_of k o S m.opened p a v f.3 x) h
      (λ n c l. for_live w (items_at (out-Value v)) n c y v b h l)))
  form_on t (Term-F.Reduce w p set d y a b) e R qs ws f ps vs g td pp =
      let is = rolled t _ e ∙ rolls-Reduce w p set d y a b in let q = ap (act_at k) e in
      let j = subst (λ z. GoAll (d ∷ a ∷ b ∷ []) z) (f.5) g in let i = parts_as k S ps (f.5) in
      after_on k o def all inner S s m fin t (in_reduced_source w p set d y b) a _ (is) refl q
      (j.1.0 refl) (λ v x r. let h = items_here v f.0 f.1 (of_value v a f.0 x i.1.0.1) f.3
      in by_act k o def all inner S s m fin t _ r
      (spanned_live p v _ (span_of k o S m.opened p a v f.4 x) h
      (λ n c l. reduce_live w (items_at (out-Value v)) n c set d y v b h l)))
  form_on t (Term-F.Try a y cs None) e R qs ws f ps vs g td pp =
      let is = rolled t _ e ∙ rolls-Try a y cs None in let q = ap (act_at k) e in
      let j = subst (λ z. GoAll (a ∷ in_clauses cs) z) (f.1) g in let i = parts_as k S ps (f.1) in
      try_on t a y cs None is q (j.0 refl)
  form_on t (Term-F.Try a y cs (Some c)) e R qs ws f ps vs g td pp =
      let is = rolled t _ e ∙ rolls-Try a y cs (Some c) in let q = ap (act_at k) e in
      let j = subst (λ z. GoAll (a ∷ c ∷ in_clauses cs) z) (f.1) g in let i = parts_as k S ps (f.1)
      in
      try_on t a y cs (Some c) is q (j.0 refl)
  form_on t (Term-F.Atomic mo a) e R qs ws f ps vs g td pp =
      goes_at [] t refl refl
      (at_atomic mo a (fresh (rolled t _ e ∙ rolls-Atomic mo a)) (rest_bare (one_rest td.2)))
  form_on t (Term-F.Asleep ms a) e R qs ws f ps vs g td pp =
      goes_at [] t refl refl
      (at_atomic mode.Atomic a (slept ms refl (rolled t _ e ∙ rolls-Asleep ms a))
      (rest_bare (one_rest td.2)))
  form_on t (Term-F.Stepped a) e R qs ws f ps vs g td pp =
      let j = subst (λ z. GoAll (a ∷ []) z) f g in
      lift k o def all inner S s m fin t in_stepped a (rolled t _ e ∙ rolls-Stepped a
      ∙ sym (stepped_open a td.0)) refl td.0 (j.0 refl)

  mutual
    pub progress : {G : Env} {t : Term} {T : Ty} → Has k S G t T → G ≡ none → Proper t → O t
    progress {t = t} (has R qs ws f ps vs b) e (proper mk n gs rs vv) =
        let pp = all_parts (out-Term t) gs rs in
        form_on t (out-Term t) refl R qs ws (subst (λ E. Fits k S E (out-Term t) qs ws R) e f)
        (subst (λ E. HasParts k S E (terms_in (out-Term t)) qs) e ps) vs
        (progress_parts ps e pp) (mk, n, rs) pp

    progress_parts : {G : Env} {ts : List Term} {qs : List Part} → HasParts k S G ts qs → G ≡ none
        → AllProper ts → GoAll ts qs
    progress_parts parts0 e pp = tt
    progress_parts {G} (parts1 {q = q} n h hs) e (next_proper p ps) =
        (λ v. progress h (ap (λ z. binds z G) v ∙ e) p, progress_parts hs e ps)
