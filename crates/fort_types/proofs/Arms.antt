-- The arms of below and apart.
use Rattle.std.proofs.Common.{◌≡◌, ◌≢◌, ◌<◌, ◌≤◌, ◌+◌, ◌⊎◌, inl, inr, ℕ, Bool, true, false, not, List, length, Some, IsTrue, ◌↔◌, refl, sym, ap, ◌∙◌, subst, arith}
use Rattle.std.specs.List.{slice_get}
use Rattle.std.proofs.lemmas.Option.{slice_get_within}
use Rattle.fort_base.specs.declared.table.TypeTable.{TypeTable}
use Rattle.fort_base.specs.declared.ids.TypeId.{TypeId}
use Rattle.fort_base.specs.declared.ty.Ty.{Ty, Arrow, out-Ty, out-roll-Ty}
use Rattle.fort_base.specs.declared.ty.Ty.TheVariants.{rolls-Arrow}
use Rattle.fort_base.specs.declared.ty.Ty.TheOpen.{Ty-F}
use Rattle.fort_types.specs.Hierarchy.{DeclaredTypes, Path, stop, along, DeclaredApart}
use Rattle.fort_types.specs.Types.{Below, Apart}
use Rattle.fort_types.specs.Layers.{BelowLayer, Differ, ApartLayer, Sided}
use Rattle.fort_types.specs.Table.{is_set, IsExact, HasRows}
use Rattle.fort_types.proofs.ByLayers.{layers_of_below, below_of_layers, layers_of_apart, apart_of_layers}
use Rattle.fort_types.proofs.Bits.{set_inside}
use Rattle.fort_types.proofs.Paths.{both_inside, end_inside}

pub whole_below : (h : DeclaredTypes) (a b : Ty) (r : Bool)
    → (IsTrue r ↔ BelowLayer h (out-Ty a) (out-Ty b)) → IsTrue r ↔ Below h a b
whole_below h a b r w = (λ t. below_of_layers h a b (w.0 t), λ t. w.1 (layers_of_below h t))

pub whole_apart : (h : DeclaredTypes) (a b : Ty) (r : Bool)
    → (IsTrue r ↔ ApartLayer h (out-Ty a) (out-Ty b)) → IsTrue r ↔ Apart h a b
whole_apart h a b r w = (λ t. apart_of_layers h a b (w.0 t), λ t. w.1 (layers_of_apart h t))

-- a row says what the relation says, past the table too
pub set_apart : (h : DeclaredTypes) (rows : List (List Bool)) (i j : ℕ)
    → IsExact (DeclaredApart h) (length h) rows → IsTrue (is_set rows i j) ↔ DeclaredApart h i j
set_apart h rows i j e = (
  λ t. let k = set_inside rows i j (length h) e.wide t in let m = e.high
      in (e.sets i j (let l = k.0 in omega arith) k.1).0 t,
  λ a. let k = both_inside h i j a in (e.sets i j k.0 k.1).1 a,
)

set_below : (h : DeclaredTypes) (rows : List (List Bool)) (i j : ℕ)
    → IsExact (Path h) (length h) rows → IsTrue (is_set rows i j) → Path h i j
set_below h rows i j e t =
    let k = set_inside rows i j (length h) e.wide t in let m = e.high
    in (e.sets i j (let l = k.0 in omega arith) k.1).0 t

below_set : (h : DeclaredTypes) (rows : List (List Bool)) (i j : ℕ)
    → IsExact (Path h) (length h) rows → (i ≡ j → ⊥) → Path h i j → IsTrue (is_set rows i j)
below_set h rows i j e n stop = absurd (n refl)
below_set h rows i j e n (along {b = c} x p) =
    let l = slice_get_within h i x.0 x.1 in (e.sets i j l (end_inside h c j p x.3)).1 (along x p)

-- what a row says of two numbers, for each hierarchy whose rows these are
pub told_apart : (table : TypeTable) (i j : ℕ) (r : Bool) → r ≡ is_set table.apart i j
    → (h : DeclaredTypes) → HasRows h table → IsTrue r ↔ DeclaredApart h i j
told_apart table i j r e h t = subst (λ (z : Bool). IsTrue z
    ↔ DeclaredApart h i j) (sym e) (set_apart h table.apart i j t.apart)

-- a declared type is below itself, and below another by its row
pub told_same : (table : TypeTable) (up : Bool) (a b : TypeId) → a ≡ b → (h : DeclaredTypes)
    → HasRows h table → IsTrue true ↔ Sided h up (Ty-F.Named a) (Ty-F.Named b)
told_same table up a b p h t = (λ _. itself up, λ _. refl)
  where
    itself : (up : Bool) → Sided h up (Ty-F.Named a) (Ty-F.Named b)
    itself true = subst (λ (z : TypeId). Path h a.0 z.0) p stop
    itself false = subst (λ (z : TypeId). Path h z.0 a.0) p stop

same_id : (a b : TypeId) → a.0 ≡ b.0 → a ≡ b
same_id a b p = ap (λ (n : ℕ). let z : TypeId = record { 0 = n } in z) p

told_path : (table : TypeTable) (a b : TypeId) (r : Bool) → r ≡ is_set table.below a.0 b.0 → a ≢ b
    → (h : DeclaredTypes) → HasRows h table → IsTrue r ↔ Path h a.0 b.0
told_path table a b r e n h t = subst (λ (z : Bool). IsTrue z ↔ Path h a.0 b.0) (sym e) (
  set_below h table.below a.0 b.0 t.below,
  below_set h table.below a.0 b.0 t.below (λ p. n (same_id a b p)),
)

pub told_below : (table : TypeTable) (up : Bool) (a b : TypeId) (r : Bool) → up ≡ true
    → r ≡ is_set table.below a.0 b.0 → a ≢ b → (h : DeclaredTypes) → HasRows h table
    → IsTrue r ↔ Sided h up (Ty-F.Named a) (Ty-F.Named b)
told_below table up a b r u e n h t = subst (λ (z : Bool). IsTrue r
    ↔ Sided h z (Ty-F.Named a) (Ty-F.Named b)) (sym u) (told_path table a b r e n h t)

pub told_above : (table : TypeTable) (up : Bool) (a b : TypeId) (r : Bool) → up ≡ false
    → r ≡ is_set table.below b.0 a.0 → a ≢ b → (h : DeclaredTypes) → HasRows h table
    → IsTrue r ↔ Sided h up (Ty-F.Named a) (Ty-F.Named b)
told_above table up a b r u e n h t = subst (λ (z : Bool). IsTrue r
    ↔ Sided h z (Ty-F.Named a) (Ty-F.Named b)) (sym u)
    (told_path table b a r e (λ q. n (sym q)) h t)

-- an arrow by its sides, the domain the other way round
sided_arrow : (h : DeclaredTypes) (up : Bool) (p q r s : Ty)
    → (Sided h (not up) (out-Ty p) (out-Ty r) × Sided h up (out-Ty q) (out-Ty s))
    ↔ Sided h up (Ty-F.Arrow p q) (Ty-F.Arrow r s)
sided_arrow h true p q r s = (
  λ w. (below_of_layers h r p w.0, below_of_layers h q s w.1),
  λ w. (layers_of_below h w.0, layers_of_below h w.1),
)
sided_arrow h false p q r s = (
  λ w. (below_of_layers h p r w.0, below_of_layers h s q w.1),
  λ w. (layers_of_below h w.0, layers_of_below h w.1),
)

out_arrow : (t p q u v : Ty) → t ≡ Arrow p q → u ≡ p → v ≡ q → out-Ty t ≡ Ty-F.Arrow u v
out_arrow t p q u v e f g =
    ap out-Ty (e ∙ sym (rolls-Arrow p q)) ∙ out-roll-Ty (Ty-F.Arrow p q) ∙ ap (λ
    (z : Ty). let y : Ty-F Ty = Ty-F.Arrow z q in y) (sym f)
    ∙ ap (λ (z : Ty). let y : Ty-F Ty = Ty-F.Arrow u z in y) (sym g)

two_sided : (h : DeclaredTypes) (up : Bool) (a b : Ty) (x y : Ty-F Ty) → out-Ty a ≡ x → out-Ty b ≡ y
    → (Sided h up x y → Sided h up (out-Ty a) (out-Ty b))
    × (Sided h up (out-Ty a) (out-Ty b) → Sided h up x y)
two_sided h up a b x y e f = (
  λ w. subst (λ z. Sided h up z (out-Ty b)) (sym e) (subst (λ z. Sided h up x z) (sym f) w),
  λ w. subst (λ z. Sided h up z y) e (subst (λ z. Sided h up (out-Ty a) z) f w),
)

pub arrow_by_result : (h : DeclaredTypes) (up : Bool) (a b p q r s u v w x : Ty) (t : Bool)
    → a ≡ Arrow p q → b ≡ Arrow r s → u ≡ p → v ≡ q → w ≡ r → x ≡ s
    → Sided h (not up) (out-Ty u) (out-Ty w) → (IsTrue t ↔ Sided h up (out-Ty v) (out-Ty x))
    → IsTrue t ↔ Sided h up (out-Ty a) (out-Ty b)
arrow_by_result h up a b p q r s u v w x t e f g i j k m n =
    let o = two_sided h up a b (Ty-F.Arrow u v) (Ty-F.Arrow w x) (out_arrow a p q u v e g i)
    (out_arrow b r s w x f j k) in let y = sided_arrow h up u v w x in
    (λ l. o.0 (y.0 (m, n.0 l)), λ l. n.1 (y.1 (o.1 l)).1)

pub arrow_by_domain : (h : DeclaredTypes) (up : Bool) (a b p q r s u w : Ty) (t : Bool) → t ≡ false
    → a ≡ Arrow p q → b ≡ Arrow r s → u ≡ p → w ≡ r
    → (Sided h (not up) (out-Ty u) (out-Ty w) → ⊥) → IsTrue t ↔ Sided h up (out-Ty a) (out-Ty b)
arrow_by_domain h up a b p q r s u w t d e f g j n =
    let o = two_sided h up a b (Ty-F.Arrow u q) (Ty-F.Arrow w s) (out_arrow a p q u q e g refl)
    (out_arrow b r s w s f j refl) in let y = sided_arrow h up u q w s in
    (λ l. absurd (let z : false ≡ true = sym d ∙ l in cc), λ l. absurd (n (y.1 (o.1 l)).0))

near : (j n : ℕ) → j < n + 1 → (j < n) ⊎ (j ≡ n)
near j n b = grind arith

-- no part so far is apart from the other's, for each hierarchy whose rows these are
pub record NoneApart (table : TypeTable) (xs ys : List Ty) (to : ℕ) : Type 0 where
  pub none : (h : DeclaredTypes) → HasRows h table → (k : ℕ) (x y : Ty) → k < to
      → slice_get xs k ≡ Some x → slice_get ys k ≡ Some y → ApartLayer h (out-Ty x) (out-Ty y) → ⊥

pub none_apart : (table : TypeTable) (xs ys : List Ty) → NoneApart table xs ys 0
none_apart table xs ys = record { none = λ h t k x y l. absurd (omega arith) }

pub none_more : (table : TypeTable) (xs ys : List Ty) (x y : Ty) (i : ℕ) → slice_get xs i ≡ Some x
    → slice_get ys i ≡ Some y
    → ((h : DeclaredTypes) → HasRows h table → ApartLayer h (out-Ty x) (out-Ty y) → ⊥)
    → NoneApart table xs ys i → NoneApart table xs ys (i + 1)
none_more table xs ys x y i e f n a = record {
  none = λ h t k u v l g m w. elim (near k i l) as (λ _. ⊥) [
    | inl b ↦ a.none h t k u v b g m w
    | inr q ↦
        (let c : slice_get xs k ≡ slice_get xs i = ap (slice_get xs) q
        in let d : slice_get ys k ≡ slice_get ys i = ap (slice_get ys) q in let p : u ≡ x = cc
        in let o : v ≡ y = cc in
        n h t (subst (λ
        (z : Ty). ApartLayer h (out-Ty z) (out-Ty y)) p (subst (λ
        (z : Ty). ApartLayer h (out-Ty u) (out-Ty z)) o w)))
  ];
}

pub none_differ : (h : DeclaredTypes) (table : TypeTable) (xs ys l r : List Ty) (to : ℕ)
    → HasRows h table → l ≡ xs → r ≡ ys → length l ≡ length r → length l ≤ to
    → NoneApart table l r to → Differ h xs ys → ⊥
none_differ h table xs ys l r to s e f n k a (inl d) = d (sym (ap length e) ∙ n ∙ ap length f)
none_differ h table xs ys l r to s e f n k a (inr w) =
    let g : slice_get l w.1.0 ≡ Some w.1.1 = ap (λ (z : List Ty). slice_get z w.1.0) e ∙ w.1.3 in
    let m : slice_get r w.1.0 ≡ Some w.1.2 = ap (λ (z : List Ty). slice_get z w.1.0) f ∙ w.1.4 in
    a.none h s w.1.0 w.1.1 w.1.2 (let i = slice_get_within l w.1.0 w.1.1 g
    in omega arith) g m (layers_of_apart h w.1.5)

pub some_differ : (h : DeclaredTypes) (xs ys l r : List Ty) (k : ℕ) (x y : Ty) → l ≡ xs → r ≡ ys
    → length l ≡ length r → slice_get l k ≡ Some x → slice_get r k ≡ Some y
    → ApartLayer h (out-Ty x) (out-Ty y) → Differ h xs ys
some_differ h xs ys l r k x y e f n g m w = inr (
  sym (ap length e) ∙ n ∙ ap length f,
  (
    k,
    x,
    y,
    ap (λ (z : List Ty). slice_get z k) (sym e) ∙ g,
    ap (λ
        (z : List Ty). slice_get z k) (sym f) ∙ m,
    apart_of_layers h x y w,
  ),
)

-- each part so far is below the other's, one way round or the other, for each hierarchy whose rows
-- these are
pub record AreBelow (table : TypeTable) (up : Bool) (xs ys : List Ty) (to : ℕ) : Type 0 where
  pub each : (h : DeclaredTypes) → HasRows h table → (k : ℕ) (x y : Ty) → k < to
      → slice_get xs k ≡ Some x → slice_get ys k ≡ Some y → Sided h up (out-Ty x) (out-Ty y)

pub none_below : (table : TypeTable) (up : Bool) (xs ys : List Ty) → AreBelow table up xs ys 0
none_below table up xs ys = record { each = λ h t k x y l. absurd (omega arith) }

pub below_more : (table : TypeTable) (up : Bool) (xs ys : List Ty) (x y : Ty) (i : ℕ)
    → slice_get xs i ≡ Some x → slice_get ys i ≡ Some y
    → ((h : DeclaredTypes) → HasRows h table → Sided h up (out-Ty x) (out-Ty y))
    → AreBelow table up xs ys i → AreBelow table up xs ys (i + 1)
below_more table up xs ys x y i e f n a = record {
  each = λ h t k u v l g m. elim (near k i l) as (λ _. Sided h up (out-Ty u) (out-Ty v)) [
    | inl b ↦ a.each h t k u v b g m
    | inr q ↦
        (let c : slice_get xs k ≡ slice_get xs i = ap (slice_get xs) q
        in let d : slice_get ys k ≡ slice_get ys i = ap (slice_get ys) q in let p : x ≡ u = cc
        in let o : y ≡ v = cc in
        subst (λ (z : Ty). Sided h up (out-Ty z) (out-Ty v)) p (subst (λ
        (z : Ty). Sided h up (out-Ty x) (out-Ty z)) o (n h t)))
  ];
}

-- lists of one length whose places are sided
abbrev EachSided : DeclaredTypes → Bool → List Ty → List Ty → Type 0
EachSided h up xs ys = (length xs ≡ length ys)
    × ((k : ℕ) (x y : Ty) → slice_get xs k ≡ Some x → slice_get ys k ≡ Some y
    → Sided h up (out-Ty x) (out-Ty y))

sided_of : (h : DeclaredTypes) (up : Bool) (xs ys : List Ty) → EachSided h up xs ys
    → Sided h up (Ty-F.Tuple xs) (Ty-F.Tuple ys)
sided_of h true xs ys w = (w.0, λ k x y e f. below_of_layers h x y (w.1 k x y e f))
sided_of h false xs ys w = (sym w.0, λ k y x f e. below_of_layers h y x (w.1 k x y e f))

of_sided : (h : DeclaredTypes) (up : Bool) (xs ys : List Ty)
    → Sided h up (Ty-F.Tuple xs) (Ty-F.Tuple ys) → EachSided h up xs ys
of_sided h true xs ys w = (w.0, λ k x y e f. layers_of_below h (w.1 k x y e f))
of_sided h false xs ys w = (sym w.0, λ k x y e f. layers_of_below h (w.1 k y x f e))

pub all_below : (h : DeclaredTypes) (table : TypeTable) (up : Bool) (xs ys l r : List Ty) (to : ℕ)
    → HasRows h table → l ≡ xs → r ≡ ys → length l ≡ length r → length l ≤ to
    → AreBelow table up l r to → Sided h up (Ty-F.Tuple xs) (Ty-F.Tuple ys)
all_below h table up xs ys l r to s e f n k a = sided_of h up xs ys (
  sym (ap length e) ∙ n ∙ ap length f,
  λ i x y g m.
      let u : slice_get l i ≡ Some x = ap (λ (z : List Ty). slice_get z i) e ∙ g in
      let v : slice_get r i ≡ Some y = ap (λ (z : List Ty). slice_get z i) f ∙ m in
      a.each h s i x y (let w = slice_get_within l i x u in omega arith) u v,
)

pub one_not_below : (h : DeclaredTypes) (up : Bool) (xs ys l r : List Ty) (k : ℕ) (x y : Ty)
    → l ≡ xs → r ≡ ys → slice_get l k ≡ Some x → slice_get r k ≡ Some y
    → (Sided h up (out-Ty x) (out-Ty y) → ⊥) → Sided h up (Ty-F.Tuple xs) (Ty-F.Tuple ys) → ⊥
one_not_below h up xs ys l r k x y e f g m n w =
    n ((of_sided h up xs ys w).1 k x y (ap (λ (z : List Ty). slice_get z k) (sym e) ∙ g) (ap (λ
    (z : List Ty). slice_get z k) (sym f) ∙ m))

pub lengths_not_below : (h : DeclaredTypes) (up : Bool) (xs ys l r : List Ty) → l ≡ xs → r ≡ ys
    → (length l ≡ length r → ⊥) → Sided h up (Ty-F.Tuple xs) (Ty-F.Tuple ys) → ⊥
lengths_not_below h up xs ys l r e f n w =
    n (ap length e ∙ (of_sided h up xs ys w).0 ∙ sym (ap length f))
