-- Each element of a juxtaposition is in its grouping: so where one has no type, the juxtaposition
-- becomes no typed form.
use Rattle.std.proofs.Common.{◌≡◌, ◌⊎◌, inl, inr, ◌<◌, ℕ, zero, suc, ◌+◌, false, List, [], ◌∷◌, ◌++◌, length, slice_get, Some, Ok, refl, arith, ap, ◌∙◌, sym, subst}
use Rattle.fort_base.specs.declared.refusal.Place.{Place}
use Rattle.fort_juxt.specs.declared.elements.Element.{Element}
use Rattle.fort_juxt.specs.declared.elements.Grouping.{Grouping, out-Grouping}
use Rattle.fort_juxt.specs.declared.elements.Grouping.TheOpen.{Grouping-F}
use Rattle.fort_juxt.specs.declared.elements.Grouping.TheVariants as a_grouping
use Rattle.fort_juxt.specs.Loose.{Chunk, elements as chunk_elements, all_elements, units, joined_to, joined, applied_to, applied, chunk_group, chunk_groups, Groups, name_alone, grouped}
use Rattle.fort_form_typed.specs.declared.typed_form.TypedForm.{TypedForm}
use Rattle.fort_typing_known.specs.Known.{Knows}
use Rattle.fort_typing_rules.specs.declared.part.Part.{Part}
use Rattle.fort_typing_rules.specs.declared.part.Meaning.TheVariants as a_meaning
use Rattle.fort_typing_rules.specs.Calls.{Calls}
use Rattle.fort_typing_rules.specs.Elements as rule
use Rattle.fort_typing_law_rules.specs.Deciding.{IsAccepted}
use Rattle.fort_typing_law_rules.proofs.Beside.{not_both, known_first, applied_known, joined_known}
use Rattle.fort_typing_law_rules.proofs.Stepping.{HasUnknown}
use Rattle.fort_typing_law_rules.proofs.Chunks.{out_one, out_apply, out_pair}

-- ---- where elements stand in a grouping

data Occurs (i : ℕ) : Grouping → Type 0 where
  here : {g : Grouping} → out-Grouping g ≡ Grouping-F.One i → Occurs i g
  in_function : {g : Grouping} (a b : Grouping) → out-Grouping g ≡ Grouping-F.Apply a b → Occurs i a
      → Occurs i g
  in_argument : {g : Grouping} (a b : Grouping) → out-Grouping g ≡ Grouping-F.Apply a b → Occurs i b
      → Occurs i g
  in_left : {g : Grouping} (a b : Grouping) → out-Grouping g ≡ Grouping-F.Pair a b → Occurs i a
      → Occurs i g
  in_right : {g : Grouping} (a b : Grouping) → out-Grouping g ≡ Grouping-F.Pair a b → Occurs i b
      → Occurs i g

module _ (i : ℕ) where
  abbrev OccursIn : List Grouping → Type 0
  OccursIn [] = ⊥
  OccursIn (g ∷ gs) = Occurs i g ⊎ OccursIn gs

  in-units : (j n m : ℕ) → i ≡ j + m → m < n → OccursIn (units j n)
  in-units j zero m e l = absurd (omega arith)
  in-units j (suc n) zero e l =
      inl (here (out_one j ∙ ap (λ (x : ℕ). Grouping-F.One x) (let z : j ≡ i = omega arith in z)))
  in-units j (suc n) (suc m) e l =
      inr (in-units (j + 1) n m (let z : i ≡ (j + 1) + m = omega arith in z) (omega arith))

  before-of : (gs hs : List Grouping) → OccursIn gs → OccursIn (gs ++ hs)
  before-of [] hs o = absurd o
  before-of (g ∷ gs) hs (inl o) = inl o
  before-of (g ∷ gs) hs (inr o) = inr (before-of gs hs o)

  behind-of : (gs hs : List Grouping) → OccursIn hs → OccursIn (gs ++ hs)
  behind-of [] hs o = o
  behind-of (g ∷ gs) hs o = inr (behind-of gs hs o)

  in-joined-to : (g : Grouping) (hs : List Grouping) → OccursIn (g ∷ hs) → Occurs i (joined_to g hs)
  in-joined-to g [] (inl o) = o
  in-joined-to g [] (inr o) = absurd o
  in-joined-to g (h ∷ hs) (inl o) =
      in-joined-to (a_grouping.Pair g h) hs (inl (in_left g h (out_pair g h) o))
  in-joined-to g (h ∷ hs) (inr (inl o)) =
      in-joined-to (a_grouping.Pair g h) hs (inl (in_right g h (out_pair g h) o))
  in-joined-to g (h ∷ hs) (inr (inr o)) = in-joined-to (a_grouping.Pair g h) hs (inr o)

  in-joined : (gs : List Grouping) → OccursIn gs → OccursIn (joined gs)
  in-joined [] o = o
  in-joined (g ∷ gs) o = inl (in-joined-to g gs o)

  in-applied-to : (g : Grouping) (hs : List Grouping) → OccursIn (g ∷ hs)
      → Occurs i (applied_to g hs)
  in-applied-to g [] (inl o) = o
  in-applied-to g [] (inr o) = absurd o
  in-applied-to g (h ∷ hs) (inl o) =
      in_function g (applied_to h hs) (out_apply g (applied_to h hs)) o
  in-applied-to g (h ∷ hs) (inr o) =
      in_argument g (applied_to h hs) (out_apply g (applied_to h hs)) (in-applied-to h hs o)

  in-applied : (gs : List Grouping) → OccursIn gs → OccursIn (applied gs)
  in-applied [] o = o
  in-applied (g ∷ gs) o = inl (in-applied-to g gs o)

  -- a number is below another one, or goes past it by some
  abbrev Past : ℕ → ℕ → Type 0
  Past m n = (m < n) ⊎ ((r : ℕ) × (m ≡ n + r))

  past : (m n : ℕ) → Past m n
  past m zero = inr (m, let z : m ≡ zero + m = omega arith in z)
  past zero (suc n) = inl (omega arith)
  past (suc m) (suc n) = by (past m n)
    where
      by : Past m n → Past (suc m) (suc n)
      by (inl l) = inl (omega arith)
      by (inr (r, e)) = inr (r, let z : suc m ≡ suc n + r = omega arith in z)

  both-lengths : {X : Type 0} (xs ys : List X) → length (xs ++ ys) ≡ length xs + length ys
  both-lengths [] ys = let z : length ys ≡ 0 + length ys = omega arith in z
  both-lengths (x ∷ xs) ys =
      let r = both-lengths xs ys
      in let z : suc (length (xs ++ ys)) ≡ suc (length xs) + length ys = omega arith in z

  in-chunk : (c : Chunk) (j m : ℕ) → i ≡ j + m → m < length (chunk_elements c)
      → OccursIn (chunk_group j c)
  in-chunk c j m e l =
      in-applied
      (units j (length c.functions) ++ joined (units (j + length c.functions) (length c.others)))
      (by (past m (length c.functions)))
    where
      by : Past m (length c.functions)
          → OccursIn
          (units j (length c.functions)
          ++ joined (units (j + length c.functions) (length c.others)))
      by (inl p) =
          before-of (units j (length c.functions)) _ (in-units j (length c.functions) m e p)
      by (inr (r, p)) =
          behind-of (units j (length c.functions)) _
          (in-joined (units (j + length c.functions) (length c.others))
          (in-units (j + length c.functions) (length c.others) r
          (let z : i ≡ (j + length c.functions) + r = omega arith
          in z) (let q = both-lengths c.functions c.others in omega arith)))

  in-chunks : (cs : List Chunk) (j m : ℕ) → i ≡ j + m → m < length (all_elements cs)
      → OccursIn (chunk_groups j cs)
  in-chunks [] j m e l = absurd (omega arith)
  in-chunks (c ∷ cs) j m e l =
      by (λ r a b. in-chunks cs (j + length (chunk_elements c)) r a b)
      (past m (length (chunk_elements c)))
    where
      by : ((r : ℕ) → i ≡ (j + length (chunk_elements c)) + r → r < length (all_elements cs)
          → OccursIn (chunk_groups (j + length (chunk_elements c)) cs))
          → Past m (length (chunk_elements c))
          → OccursIn (chunk_group j c ++ chunk_groups (j + length (chunk_elements c)) cs)
      by more (inl p) = before-of (chunk_group j c) _ (in-chunk c j m e p)
      by more (inr (r, p)) = behind-of (chunk_group j c) _
          (more r (let z : i ≡ (j + length (chunk_elements c)) + r = omega arith
          in z) (let q = both-lengths (chunk_elements c) (all_elements cs) in omega arith))

  only-one : (g : Grouping) → OccursIn (g ∷ []) → Occurs i g
  only-one g (inl o) = o
  only-one g (inr o) = absurd o

  -- each element is in the grouping
  in-grouping : (es : List Element) (g : Grouping) → Groups es (Ok g) → i < length es → Occurs i g
  in-grouping es g (name_alone before after x first is) l = absurd cc
  in-grouping es g (grouped never chunks division h joins is) l =
      let same : g ≡ h = cc in
      subst (Occurs i) (sym same)
      (only-one h
      (subst OccursIn joins (in-joined (chunk_groups 0 chunks) (in-chunks chunks 0 i
      (let z : i ≡ 0 + i = omega arith in z) (let q = ap length division.whole
      in omega arith)))))

-- ---- an element without a type

unknown-at : (qs : List Part) → HasUnknown qs
    → (i : ℕ) × (p : Part) × (slice_get qs i ≡ Some p) × (p.meaning ≡ a_meaning.Unknown)
    × (i < length (rule.elements qs))
unknown-at [] u = absurd u
unknown-at (q ∷ qs) (inl e) = (0, q, refl, e, omega arith)
unknown-at (q ∷ qs) (inr u) =
    let r = unknown-at qs u in (suc r.0, r.1, r.2, r.3, let l = r.4 in omega arith)

same-part : {p q : Part} → Some p ≡ Some q → p ≡ q
same-part e = cc

module _ (k : Knows) (A : IsAccepted k) (ps : List Part) where
  other-shape : {C : Type 0} (g : Grouping) {x y : Grouping-F Grouping} → out-Grouping g ≡ x
      → out-Grouping g ≡ y → (x ≡ y → ⊥) → C
  other-shape g p q n = absurd (n (sym p ∙ q))

  not-unknown : {C : Type 0} (q : Part) (place : Place) → q ≡ rule.made place a_meaning.Unknown
      → rule.is_unknown q ≡ false → C
  not-unknown q place e n = absurd (not_both (ap rule.is_unknown e) n)

  apply-sides : (g a b c d : Grouping) → out-Grouping g ≡ Grouping-F.Apply a b
      → out-Grouping g ≡ Grouping-F.Apply c d → (a ≡ c) × (b ≡ d)
  apply-sides g a b c d p q =
      let z : Grouping-F.Apply a b ≡ Grouping-F.Apply c d = sym p ∙ q in (cc, cc)

  pair-sides : (g a b c d : Grouping) → out-Grouping g ≡ Grouping-F.Pair a b
      → out-Grouping g ≡ Grouping-F.Pair c d → (a ≡ c) × (b ≡ d)
  pair-sides g a b c d p q =
      let z : Grouping-F.Pair a b ≡ Grouping-F.Pair c d = sym p ∙ q in (cc, cc)

  module _ (i : ℕ) (x : Part) (at : slice_get ps i ≡ Some x) where
    known-in : {g : Grouping} {q : Part} → rule.Grouped k (Calls k) ps g q → Occurs i g
        → rule.is_unknown q ≡ false → rule.is_unknown x ≡ false
    known-in {q = q} (rule.of_one j is there) (here e) n =
        let z : Grouping-F.One j ≡ Grouping-F.One i = sym is ∙ e in let s : j ≡ i = cc in
        ap rule.is_unknown (same-part (sym at ∙ ap (slice_get ps) (sym s) ∙ there)) ∙ n
    known-in (rule.of_one j is there) (in_function a b e o) n = other-shape _ is e (λ z. absurd cc)
    known-in (rule.of_one j is there) (in_argument a b e o) n = other-shape _ is e (λ z. absurd cc)
    known-in (rule.of_one j is there) (in_left a b e o) n = other-shape _ is e (λ z. absurd cc)
    known-in (rule.of_one j is there) (in_right a b e o) n = other-shape _ is e (λ z. absurd cc)
    known-in (rule.of_applied a b p r m is ga gb h qe) (here e) n =
        other-shape _ is e (λ z. absurd cc)
    known-in {g = g} (rule.of_applied a b p r m is ga gb h qe) (in_function c d e o) n =
        known-in ga (subst (Occurs i) (sym (apply-sides g a b c d is e).0) o)
        (known_first p.meaning (applied_known k A (rule.as_part p) (rule.as_part r) m h).0)
    known-in {g = g} (rule.of_applied a b p r m is ga gb h qe) (in_argument c d e o) n =
        known-in gb (subst (Occurs i) (sym (apply-sides g a b c d is e).1) o)
        (known_first r.meaning (applied_known k A (rule.as_part p) (rule.as_part r) m h).1)
    known-in (rule.of_applied a b p r m is ga gb h qe) (in_left c d e o) n =
        other-shape _ is e (λ z. absurd cc)
    known-in (rule.of_applied a b p r m is ga gb h qe) (in_right c d e o) n =
        other-shape _ is e (λ z. absurd cc)
    known-in (rule.of_joined a b p r m is ga gb h qe) (here e) n =
        other-shape _ is e (λ z. absurd cc)
    known-in (rule.of_joined a b p r m is ga gb h qe) (in_function c d e o) n =
        other-shape _ is e (λ z. absurd cc)
    known-in (rule.of_joined a b p r m is ga gb h qe) (in_argument c d e o) n =
        other-shape _ is e (λ z. absurd cc)
    known-in {g = g} (rule.of_joined a b p r m is ga gb h qe) (in_left c d e o) n =
        known-in ga (subst (Occurs i) (sym (pair-sides g a b c d is e).0) o)
        (known_first p.meaning (joined_known k A (rule.as_part p) (rule.as_part r) m h).0)
    known-in {g = g} (rule.of_joined a b p r m is ga gb h qe) (in_right c d e o) n =
        known-in gb (subst (Occurs i) (sym (pair-sides g a b c d is e).1) o)
        (known_first r.meaning (joined_known k A (rule.as_part p) (rule.as_part r) m h).1)
    known-in {q = q} (rule.of_unapplied a b p r is ga gb u qe) o n = not-unknown q p.place qe n
    known-in {q = q} (rule.of_unjoined a b p r is ga gb u qe) o n = not-unknown q p.place qe n

  -- A juxtaposition with an element without a type becomes no typed form.
  pub unknown-stands : (t : TypedForm) → rule.Stands k (Calls k) ps t → HasUnknown ps → ⊥
  unknown-stands t (rule.grouped g q h G m) u =
      let r = unknown-at ps u in
      not_both (ap rule.is_unknown_by r.3)
      (known-in r.0 r.1 r.2 G (in-grouping r.0 (rule.elements ps) g h r.4)
      (ap rule.is_unknown_by m))
