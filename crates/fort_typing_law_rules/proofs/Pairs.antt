-- What comes of two elements: a typed form or a broken rule, or nothing where one of them has no
-- type.
use Rattle.std.proofs.Common.{◌≡◌, ◌⊎◌, inl, inr, suc, Bool, true, false, List, [], ◌∷◌, length, Option, Some, None, refl, ap, ◌∙◌, sym, subst}
use Rattle.fort_base.specs.declared.ids.NameId.{NameId}
use Rattle.fort_base.specs.declared.ids.SetId.{SetId}
use Rattle.fort_base.specs.declared.refusal.Place.{Place}
use Rattle.fort_base.specs.declared.refusal.Rule.{Rule}
use Rattle.fort_base.specs.declared.rules.TheConstants.{UNKNOWN_NAME, MISMATCH}
use Rattle.fort_base.specs.declared.ty.Ty.{Ty, out-Ty}
use Rattle.fort_base.specs.declared.ty.Ty.TheOpen.{Ty-F}
use Rattle.fort_ops.specs.declared.op.Op.TheVariants as an_op
use Rattle.fort_types_sets.specs.declared.field.Field.{Field}
use Rattle.fort_form_typed.specs.declared.typed_form.TypedForm.{TypedForm}
use Rattle.fort_form_typed.specs.declared.typed_form.TypedForm.TheVariants as a_typed
use Rattle.fort_typing_known.specs.Known.{Knows}
use Rattle.fort_typing_known.specs.Below.{is_below}
use Rattle.fort_typing_known.specs.Names.{field_at}
use Rattle.fort_typing_known.specs.Sets.{function_set, method_set, operator_set, is_method}
use Rattle.fort_typing_call.specs.Called.{called}
use Rattle.fort_typing_call.specs.declared.called.Called.{Called}
use Rattle.fort_typing_call.specs.declared.called.Called.TheVariants as a_call
use Rattle.fort_typing_rules.specs.declared.part.Part.{Part}
use Rattle.fort_typing_rules.specs.declared.part.Meaning.{Meaning}
use Rattle.fort_typing_rules.specs.declared.part.Meaning.TheVariants as a_meaning
use Rattle.fort_typing_rules.specs.Calls.{Calls, CallBreaks}
use Rattle.fort_typing_rules.specs.Types.{type_of, types_of, array_at, zz32}
use Rattle.fort_typing_rules.specs.Elements as rule
use Rattle.fort_typing_meaning.specs.declared.frame.Made.{Made}
use Rattle.fort_typing_meaning.specs.declared.frame.Made.TheVariants as a_made
use Rattle.fort_typing_meaning.specs.Joining.{applied_to, applied, joined_by, joined, followed_by, followed}
use Rattle.fort_typing_law_rules.specs.Deciding.{AreTypes, IsAccepted, Decides}
use Rattle.fort_typing_law_rules.proofs.Types.{sides_type}
use Rattle.fort_typing_law_rules.proofs.Deciding.{is_decided}
use Rattle.fort_typing_law_rules.proofs.Typed.{PartTyped, all-types, arguments-typed, value-typed}
use Rattle.fort_typing_law_rules.proofs.Running.{exponent-typed, method-typed}
use Rattle.fort_typing_law_rules.proofs.Scopes.{not-both}

-- What an element is goes with its kind: a postfix is no value and no name, and a name isn't in
-- parentheses.
abbrev pub FitAt : Bool → Bool → Meaning → Type 0
FitAt postfix parens a_meaning.Unknown = Unit {0}
FitAt postfix parens (a_meaning.Value t) = postfix ≡ false
FitAt postfix parens (a_meaning.Functions name) = (postfix ≡ false) × (parens ≡ false)
FitAt postfix parens (a_meaning.Index t) = postfix ≡ true
FitAt postfix parens (a_meaning.Exponent t) = postfix ≡ true
FitAt postfix parens (a_meaning.Field spot name) = postfix ≡ true
FitAt postfix parens (a_meaning.Method spot name ts) = postfix ≡ true

abbrev pub Fit : Part → Type 0
Fit p = FitAt p.postfix p.parens p.meaning

-- Two elements, of which this comes: what the rules say, or none where one has no type.
pub data Pair (Way : rule.Made → Type 0) (c : Made) (f a : Part) : Type 0 where
  does : (m : rule.Made) → Way m → Pair Way c f a
  stops : c ≡ a_made.Stops → (f.meaning ≡ a_meaning.Unknown) ⊎ (a.meaning ≡ a_meaning.Unknown)
      → Pair Way c f a

-- a value, or an element without a type
pub data Plain (p : Part) : Type 0 where
  a_value : (u : TypedForm) → p.meaning ≡ a_meaning.Value u → Plain p
  no_type : p.meaning ≡ a_meaning.Unknown → Plain p

pub plain : (p : Part) → Fit p → p.postfix ≡ false → rule.is_name_by p.meaning ≡ false → Plain p
plain p F z n = by p.meaning refl
  where
    by : (m : Meaning) → p.meaning ≡ m → Plain p
    by a_meaning.Unknown e = no_type e
    by (a_meaning.Value u) e = a_value u e
    by (a_meaning.Functions name) e = absurd (not-both (ap rule.is_name_by e) n)
    by (a_meaning.Index t) e = absurd (not-both (subst (FitAt p.postfix p.parens) e F) z)
    by (a_meaning.Exponent t) e = absurd (not-both (subst (FitAt p.postfix p.parens) e F) z)
    by (a_meaning.Field spot name) e = absurd (not-both (subst (FitAt p.postfix p.parens) e F) z)
    by (a_meaning.Method spot name ts) e =
        absurd (not-both (subst (FitAt p.postfix p.parens) e F) z)

-- an argument in parentheses
pub argument : (p : Part) → Fit p → p.postfix ≡ false → p.parens ≡ true → Plain p
argument p F z n = by p.meaning refl
  where
    by : (m : Meaning) → p.meaning ≡ m → Plain p
    by a_meaning.Unknown e = no_type e
    by (a_meaning.Value u) e = a_value u e
    by (a_meaning.Functions name) e = absurd (not-both n (subst (FitAt p.postfix p.parens) e F).1)
    by (a_meaning.Index t) e = absurd (not-both (subst (FitAt p.postfix p.parens) e F) z)
    by (a_meaning.Exponent t) e = absurd (not-both (subst (FitAt p.postfix p.parens) e F) z)
    by (a_meaning.Field spot name) e = absurd (not-both (subst (FitAt p.postfix p.parens) e F) z)
    by (a_meaning.Method spot name ts) e =
        absurd (not-both (subst (FitAt p.postfix p.parens) e F) z)

module _ (k : Knows) (A : IsAccepted k) where
  D : Decides k
  D = is_decided k A

  abbrev Call : SetId → List Ty → Type 0
  Call set types = ((result : Ty) × (widened : List Bool) × Calls k set types result widened)
      ⊎ ((r : Rule) × CallBreaks k set types r)

  called-told : (set : SetId) (types : List Ty) → AreTypes k types → Call set types
  called-told set types T = by (called k.facts set types) refl
    where
      by : (c : Called) → called k.facts set types ≡ c → Call set types
      by (a_call.Result result widened) q =
          inl (result, widened, D.has_call set types result widened T q)
      by (a_call.Refused r) q = inr (r, D.breaks_call set types r T q)

  -- ---- applications

  abbrev pub Applied : Part → Part → Type 0
  Applied f a = Pair (rule.Applies k (Calls k) f a) (applied k.facts f a) f a

  applied-stops : (f a : Part) (m n : Meaning) → f.meaning ≡ m → a.meaning ≡ n
      → applied_to k.facts f a m n ≡ a_made.Stops → applied k.facts f a ≡ a_made.Stops
  unfolding applied
  applied-stops f a m n p q e =
      ap (λ u. applied_to k.facts f a u a.meaning) p ∙ ap (applied_to k.facts f a m) q ∙ e

  call-told : (f a : Part) (name : NameId) (u : TypedForm) → f.meaning ≡ a_meaning.Functions name
      → a.meaning ≡ a_meaning.Value u → PartTyped k A a → Applied f a
  call-told f a name u fm am G =
      by (called-told (function_set k.facts name (length (rule.arguments a u)))
      (types_of (rule.arguments a u)) (arguments-typed k A a u (value-typed k A a u G am)))
    where
      by : Call (function_set k.facts name (length (rule.arguments a u)))
          (types_of (rule.arguments a u)) → Applied f a
      by (inl (result, widened, c)) =
          does (rule.gives
          (a_typed.Call result
          (rule.chosen (function_set k.facts name (length (rule.arguments a u))) widened)
          (rule.arguments a u))) (rule.call name u result widened fm am c refl)
      by (inr (r, c)) = does (rule.breaks r f.place) (rule.no_call name u r fm am c refl)

  value-told : (f a : Part) (g u : TypedForm) → f.meaning ≡ a_meaning.Value g
      → a.meaning ≡ a_meaning.Value u → rule.is_arrow_at (out-Ty (type_of g)) ≡ true
      → PartTyped k A f → PartTyped k A a → Applied f a
  value-told f a g u fm am w F G = by (out-Ty (type_of g)) refl
    where
      at : (domain result : Ty) → out-Ty (type_of g) ≡ Ty-F.Arrow domain result → (c : Bool)
          → is_below k.facts (type_of u) domain ≡ c → Applied f a
      at domain result e true q =
          does (rule.gives (a_typed.Apply result g u)) (rule.value g u domain result fm e am
          (D.told (type_of u) domain (value-typed k A a u G am).0
          (sides_type (length k.declared) (type_of g) domain result
          (value-typed k A f g F fm).0 e).0 q) refl)
      at domain result e false q =
          does (rule.breaks MISMATCH a.place) (rule.no_argument g u domain result fm e am
          (λ b. not-both
          (D.below (type_of u) domain (value-typed k A a u G am).0
          (sides_type (length k.declared) (type_of g) domain result
          (value-typed k A f g F fm).0 e).0 b) q) refl)

      by : (s : Ty-F Ty) → out-Ty (type_of g) ≡ s → Applied f a
      by (Ty-F.Arrow domain result) e =
          at domain result e (is_below k.facts (type_of u) domain) refl
      by Ty-F.Nothing e = absurd (not-both w (ap rule.is_arrow_at e))
      by Ty-F.Any e = absurd (not-both w (ap rule.is_arrow_at e))
      by (Ty-F.Named t) e = absurd (not-both w (ap rule.is_arrow_at e))
      by (Ty-F.Tuple ts) e = absurd (not-both w (ap rule.is_arrow_at e))
      by (Ty-F.Array t) e = absurd (not-both w (ap rule.is_arrow_at e))

  pub applied-told : (f a : Part) → rule.is_function_by f.meaning ≡ true → Plain a → PartTyped k A f
      → PartTyped k A a → Applied f a
  applied-told f a w P F G = by f.meaning refl P
    where
      by : (m : Meaning) → f.meaning ≡ m → Plain a → Applied f a
      by (a_meaning.Functions name) e (a_value u q) = call-told f a name u e q G
      by (a_meaning.Functions name) e (no_type q) =
          stops (applied-stops f a (a_meaning.Functions name) a_meaning.Unknown e q refl) (inr q)
      by (a_meaning.Value g) e (a_value u q) =
          value-told f a g u e q (ap rule.is_function_by (sym e) ∙ w) F G
      by (a_meaning.Value g) e (no_type q) =
          stops (applied-stops f a (a_meaning.Value g) a_meaning.Unknown e q refl) (inr q)
      by a_meaning.Unknown e p = absurd (not-both w (ap rule.is_function_by e))
      by (a_meaning.Index t) e p = absurd (not-both w (ap rule.is_function_by e))
      by (a_meaning.Exponent t) e p = absurd (not-both w (ap rule.is_function_by e))
      by (a_meaning.Field spot name) e p = absurd (not-both w (ap rule.is_function_by e))
      by (a_meaning.Method spot name ts) e p = absurd (not-both w (ap rule.is_function_by e))

  -- ---- joining

  abbrev pub Joined : Part → Part → Type 0
  Joined a b = Pair (rule.Joins k (Calls k) a b) (joined k.facts a b) a b

  joined-stops : (a b : Part) (m n : Meaning) → a.meaning ≡ m → b.meaning ≡ n
      → joined_by k.facts a.place m n ≡ a_made.Stops → joined k.facts a b ≡ a_made.Stops
  unfolding joined
  joined-stops a b m n p q e =
      ap (λ u. joined_by k.facts a.place u b.meaning) p ∙ ap (joined_by k.facts a.place m) q ∙ e

  pub joined-told : (a b : Part) → Plain a → Plain b → PartTyped k A a → PartTyped k A b
      → Joined a b
  joined-told a b (no_type p) q F G =
      stops (joined-stops a b a_meaning.Unknown b.meaning p refl refl) (inl p)
  joined-told a b (a_value u p) (no_type q) F G =
      stops (joined-stops a b (a_meaning.Value u) a_meaning.Unknown p q refl) (inr q)
  joined-told a b (a_value u p) (a_value v q) F G =
      by (called-told (operator_set k.facts an_op.Juxt 2) (type_of u ∷ type_of v ∷ [])
      ((value-typed k A a u F p).0, ((value-typed k A b v G q).0, tt)))
    where
      by : Call (operator_set k.facts an_op.Juxt 2) (type_of u ∷ type_of v ∷ []) → Joined a b
      by (inl (result, widened, c)) =
          does (rule.gives
          (a_typed.Operation result (rule.chosen (operator_set k.facts an_op.Juxt 2) widened)
          (u ∷ v ∷ []))) (rule.joining u v result widened p q c refl)
      by (inr (r, c)) = does (rule.breaks r a.place) (rule.no_joining u v r p q c refl)

  -- ---- postfixes

  abbrev pub Followed : Part → Part → Type 0
  Followed a p = Pair (rule.Follows k (Calls k) a p) (followed k.facts a p) a p

  followed-stops : (a b : Part) (m n : Meaning) → a.meaning ≡ m → b.meaning ≡ n
      → followed_by k.facts a.place m n ≡ a_made.Stops → followed k.facts a b ≡ a_made.Stops
  unfolding followed
  followed-stops a b m n p q e =
      ap (λ u. followed_by k.facts a.place u b.meaning) p ∙ ap (followed_by k.facts a.place m) q ∙ e

  module _ (a p : Part) (u : TypedForm) (am : a.meaning ≡ a_meaning.Value u) (F : PartTyped k A a)
      (G : PartTyped k A p) where
    index-told : (i : TypedForm) → p.meaning ≡ a_meaning.Index i → Followed a p
    index-told i q = by (out-Ty (type_of u)) refl
      where
        none : (s : Ty-F Ty) → out-Ty (type_of u) ≡ s → array_at s ≡ false → Followed a p
        none s e z =
            does (rule.breaks MISMATCH a.place) (rule.no_array u i am q (ap array_at e ∙ z) refl)

        by : (s : Ty-F Ty) → out-Ty (type_of u) ≡ s → Followed a p
        by (Ty-F.Array t) e =
            does (rule.gives (a_typed.ReadElement t u i)) (rule.index u i t am q e refl)
        by Ty-F.Nothing e = none Ty-F.Nothing e refl
        by Ty-F.Any e = none Ty-F.Any e refl
        by (Ty-F.Named t) e = none (Ty-F.Named t) e refl
        by (Ty-F.Tuple ts) e = none (Ty-F.Tuple ts) e refl
        by (Ty-F.Arrow s t) e = none (Ty-F.Arrow s t) e refl

    power-told : (e : TypedForm) → p.meaning ≡ a_meaning.Exponent e → Followed a p
    power-told e q =
        by (called-told (operator_set k.facts an_op.Power 2) (type_of u ∷ type_of e ∷ [])
        ((value-typed k A a u F am).0, ((exponent-typed k A p e G q).0, tt)))
      where
        by : Call (operator_set k.facts an_op.Power 2) (type_of u ∷ type_of e ∷ []) → Followed a p
        by (inl (result, widened, c)) =
            does (rule.gives
            (a_typed.Operation result (rule.chosen (operator_set k.facts an_op.Power 2) widened)
            (u ∷ e ∷ []))) (rule.power u e result widened am q c refl)
        by (inr (r, c)) = does (rule.breaks r a.place) (rule.no_power u e r am q c refl)

    field-told : (spot : Place) (name : NameId) → p.meaning ≡ a_meaning.Field spot name
        → Followed a p
    field-told spot name q = by (field_at k.facts (out-Ty (type_of u)) name) refl
      where
        by : (o : Option Field) → field_at k.facts (out-Ty (type_of u)) name ≡ o → Followed a p
        by (Some f) e =
            does (rule.gives (a_typed.ReadField f.ty u name)) (rule.field u spot name f am q e refl)
        by None e = does (rule.breaks UNKNOWN_NAME spot) (rule.no_field u spot name am q e refl)

    method-told : (spot : Place) (name : NameId) (ts : List TypedForm)
        → p.meaning ≡ a_meaning.Method spot name ts → Followed a p
    method-told spot name ts q = sized (rule.is_size k.facts u name ts) refl
      where
        called_so : rule.is_size k.facts u name ts ≡ false → is_method k.facts name ≡ true
            → Call (method_set k.facts name (suc (length ts))) (type_of u ∷ types_of ts)
            → Followed a p
        called_so z h (inl (result, widened, c)) =
            does (rule.gives
            (a_typed.Call result
            (rule.chosen (method_set k.facts name (suc (length ts))) widened) (u ∷ ts)))
            (rule.method u spot name ts result widened am q z h c refl)
        called_so z h (inr (r, c)) =
            does (rule.breaks r a.place) (rule.no_method_call u spot name ts r am q z h c refl)

        has : rule.is_size k.facts u name ts ≡ false → (c : Bool) → is_method k.facts name ≡ c
            → Followed a p
        has z true h =
            called_so z h
            (called-told (method_set k.facts name (suc (length ts))) (type_of u ∷ types_of ts) (
              (value-typed k A a u F am).0,
              all-types k A ts (method-typed k A p spot name ts G q),
            ))
        has z false h =
            does (rule.breaks UNKNOWN_NAME spot) (rule.no_method u spot name ts am q z h refl)

        sized : (c : Bool) → rule.is_size k.facts u name ts ≡ c → Followed a p
        sized true z =
            does (rule.gives (a_typed.Size zz32 u)) (rule.size u spot name ts am q z refl)
        sized false z = has z (is_method k.facts name) refl

  pub followed-told : (a p : Part) → Plain a → Fit p → p.postfix ≡ true → PartTyped k A a
      → PartTyped k A p → Followed a p
  followed-told a p (no_type q) P z F G =
      stops (followed-stops a p a_meaning.Unknown p.meaning q refl refl) (inl q)
  followed-told a p (a_value u q) P z F G = by p.meaning refl
    where
      by : (m : Meaning) → p.meaning ≡ m → Followed a p
      by a_meaning.Unknown e =
          stops (followed-stops a p (a_meaning.Value u) a_meaning.Unknown q e refl) (inr e)
      by (a_meaning.Value t) e = absurd (not-both z (subst (FitAt p.postfix p.parens) e P))
      by (a_meaning.Functions name) e = absurd (not-both z (subst (FitAt p.postfix p.parens) e P).0)
      by (a_meaning.Index t) e = index-told a p u q F G t e
      by (a_meaning.Exponent t) e = power-told a p u q F G t e
      by (a_meaning.Field spot name) e = field-told a p u q F G spot name e
      by (a_meaning.Method spot name ts) e = method-told a p u q F G spot name ts e
