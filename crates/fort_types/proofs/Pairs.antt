-- One pair: what the code finds is one use of the rules.
use Rattle.std.proofs.Common.{◌≡◌, ◌<◌, ◌⊎◌, inl, inr, ◌↔◌, ℕ, zero, suc, Bool, IsTrue, List, [], ◌∷◌, length, get_or, slice_index, refl, sym, ap, ◌∙◌, subst, arith, Some}
use Rattle.std.specs.List.{slice_get, Contains}
use Rattle.std.proofs.lemmas.Option.{slice_get-get_or}
use Rattle.fort_types.specs.declared.hierarchy.DeclaredType.{DeclaredType}
use Rattle.fort_types.specs.declared.hierarchy.TypeKind.TheVariants as a_kind
use Rattle.fort_types.specs.Hierarchy.{DeclaredTypes}
use Rattle.fort_types.specs.Square.{Bits, Bit, Sized, AnyBit}
use Rattle.fort_types.specs.Rounds.{Excluding, LeafApart, ListApart, Parts, by_turn, by_exclusion, by_leaf, by_above, by_list}
use Rattle.fort_types.proofs.Bits.{bit_inside}

contains_index : (xs : List ℕ) (k : ℕ) → k < length xs → Contains xs (slice_index xs k)
contains_index xs k l = (k, l, get_or_any xs k (slice_index xs k) l)
  where
    get_or_any : (xs : List ℕ) (k d : ℕ) → k < length xs → get_or xs k d ≡ get_or xs k 0
    get_or_any [] k d l = absurd (omega arith)
    get_or_any (x ∷ xs) zero d l = refl
    get_or_any (x ∷ xs) (suc k) d l = get_or_any xs k d (omega arith)

index_of : (xs : List ℕ) (x : ℕ) (w : Contains xs x) → slice_index xs w.0 ≡ x
index_of xs x w = get_or_any xs w.0 x w.1 ∙ w.2
  where
    get_or_any : (xs : List ℕ) (k d : ℕ) → k < length xs → get_or xs k 0 ≡ get_or xs k d
    get_or_any [] k d l = absurd (omega arith)
    get_or_any (x ∷ xs) zero d l = refl
    get_or_any (x ∷ xs) (suc k) d l = get_or_any xs k d (omega arith)

-- the five tests of a pair
abbrev Tests : DeclaredTypes → Bits → ℕ → ℕ → DeclaredType → Type 0
Tests h rows a b d = Bit rows b a
    ⊎ (Excluding h d b ⊎ (LeafApart h d a b ⊎ (AnyBit rows d.extends b ⊎ ListApart d rows b)))

parts_by : (h : DeclaredTypes) (rows : Bits) (a b : ℕ) (d : DeclaredType) → Sized (length h) rows
    → slice_get h a ≡ Some d → Tests h rows a b d ↔ Parts h rows a b
parts_by h rows a b d sized e = (there, back)
  where
    there : Tests h rows a b d → Parts h rows a b
    there (inl f) = by_turn f
    there (inr (inl f)) = by_exclusion (d, e, f.0) f.1 (d, e, f.2)
    there (inr (inr (inl f))) = by_leaf (d, e, f.0) f.1 f.2
    there (inr (inr (inr (inl f)))) = by_above (slice_index d.extends f.0) (
      d,
      e,
      contains_index d.extends f.0 f.1,
      let l =
          bit_inside rows (slice_index d.extends f.0) b f.2 in let m = sized.high
          in omega arith,
    ) f.2
    there (inr (inr (inr (inr f)))) =
        by_list (slice_index d.comprises 0) (d, e, f.0) (d, e, contains_index d.comprises 0 f.1)
        (λ v w. listed v w)
      where
        listed : (v : ℕ) → (n : DeclaredType) × (slice_get h a ≡ Some n) × Contains n.comprises v
            → Bit rows v b
        listed v w =
            let g : w.0 ≡ d = cc
            in let c : Contains d.comprises v =
            subst (λ (z : DeclaredType). Contains z.comprises v) g w.2 in
            subst (λ z. Bit rows z b) (index_of d.comprises v c) (f.2 c.0 c.1)

    back : Parts h rows a b → Tests h rows a b d
    back (by_turn f) = inl f
    back (by_exclusion s t f) = let g : s.0 ≡ d = cc in let k : f.0 ≡ d = cc in
        inr (inl (
          subst (λ (z : DeclaredType). z.kind ≡ a_kind.Trait) g s.2,
          t,
          subst (λ
              (z : DeclaredType). Contains z.excludes b) k f.2,
        ))
    back (by_leaf s m n) =
        let g : s.0 ≡ d = cc
        in inr (inr (inl (subst (λ (z : DeclaredType). z.kind ≡ a_kind.Trait → ⊥) g s.2, m, n)))
    back (by_above c f g) =
        let k : f.0 ≡ d = cc
        in let w : Contains d.extends c = subst (λ (z : DeclaredType). Contains z.extends c) k f.2
        in
        inr (inr (inr (inl (w.0, w.1, subst (λ z. Bit rows z b) (sym (index_of d.extends c w)) g))))
    back (by_list u t f g) = let k : t.0 ≡ d = cc in let m : f.0 ≡ d = cc in
        let w : Contains d.comprises u = subst (λ (z : DeclaredType). Contains z.comprises u) m f.2
        in
        inr (inr (inr (inr (
          subst (λ (z : DeclaredType). z.kind ≡ a_kind.Trait) k t.2,
          let l = w.1 in omega arith,
          λ i l. g (slice_index d.comprises i) (d, e, contains_index d.comprises i l),
        ))))

pub stands : (h : DeclaredTypes) (a : ℕ) (d : DeclaredType) → a < length h → d ≡ get_or h a d
    → slice_get h a ≡ Some d
stands h a d l e = slice_get-get_or h a d l ∙ ap Some (sym e)

pub turn_found : (h : DeclaredTypes) (rows : Bits) (a b : ℕ) → Bit rows b a → Parts h rows a b
turn_found h rows a b e = by_turn e

pub exclusion_found : (h : DeclaredTypes) (rows : Bits) (a b : ℕ) (d : DeclaredType)
    → Sized (length h) rows → slice_get h a ≡ Some d → Excluding h d b → Parts h rows a b
exclusion_found h rows a b d s e w = (parts_by h rows a b d s e).0 (inr (inl w))

pub leaf_found : (h : DeclaredTypes) (rows : Bits) (a b : ℕ) (d : DeclaredType)
    → Sized (length h) rows → slice_get h a ≡ Some d → LeafApart h d a b → Parts h rows a b
leaf_found h rows a b d s e w = (parts_by h rows a b d s e).0 (inr (inr (inl w)))

pub any_found : (h : DeclaredTypes) (rows : Bits) (a b : ℕ) (d : DeclaredType) (xs : List ℕ)
    → Sized (length h) rows → slice_get h a ≡ Some d → xs ≡ d.extends → AnyBit rows xs b
    → Parts h rows a b
any_found h rows a b d xs s e f w =
    (parts_by h rows a b d s e).0 (inr (inr (inr (inl (subst (λ l. AnyBit rows l b) f w)))))

pub list_found : (h : DeclaredTypes) (rows : Bits) (a b : ℕ) (d : DeclaredType) (xs : List ℕ)
    (r : Bool) → Sized (length h) rows → slice_get h a ≡ Some d → xs ≡ d.extends
    → (Bit rows b a → ⊥) → (Excluding h d b → ⊥) → (LeafApart h d a b → ⊥) → (AnyBit rows xs b → ⊥)
    → (IsTrue r ↔ ListApart d rows b) → IsTrue r ↔ Parts h rows a b
list_found h rows a b d xs r s e f n m o p w = (
  λ t. (parts_by h rows a b d s e).0 (inr (inr (inr (inr (w.0 t))))),
  λ t. elim ((parts_by h rows a b d s e).1 t) as (λ _. IsTrue r) [
    | inl u ↦ absurd (n u)
    | inr (inl u) ↦ absurd (m u)
    | inr (inr (inl u)) ↦ absurd (o u)
    | inr (inr (inr (inl u))) ↦ absurd (p (subst (λ l. AnyBit rows l b) (sym f) u))
    | inr (inr (inr (inr u))) ↦ w.1 u
  ],
)
