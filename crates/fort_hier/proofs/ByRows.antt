-- From the rows to the sentences.
use Rattle.std.proofs.Common.{◌≡◌, ◌≢◌, ◌<◌, ◌⊎◌, inl, inr, ◌↔◌, ℕ, zero, suc, Bool, IsTrue, List, [], ◌∷◌, length, get_or, Some, refl, sym, ap, ◌∙◌, subst, arith}
use Rattle.std.specs.List.{slice_get, Contains}
use Rattle.std.proofs.lemmas.Option.{slice_get_within, slice_get-get_or, get_or_from_slice_get}
use Rattle.fort_base.specs.declared.table.TypeTable.{TypeTable}
use Rattle.fort_types.specs.declared.hierarchy.DeclaredType.{DeclaredType}
use Rattle.fort_types.specs.Hierarchy.{DeclaredTypes, Path, Leaf}
use Rattle.fort_types.specs.Table.{is_set, IsExact, HasRows}
use Rattle.fort_types.proofs.Bits.{set_inside}
use Rattle.fort_types.proofs.Paths.{end_inside, start_inside}
use Rattle.fort_hier.specs.Sentences.{IsOnCycle, ExtendsLeaf, IsBelowBoth, IsNotListed, ListsOther}
use Rattle.fort_hier.specs.Walks.{SomeOf, SomeSet, SomeUnset, SomeLeaf, SomeUnlisted, SomeExcluding}

pub path_of : (h : DeclaredTypes) (rows : List (List Bool)) (i j : ℕ)
    → IsExact (Path h) (length h) rows → IsTrue (is_set rows i j) → Path h i j
path_of h rows i j e t =
    let k = set_inside rows i j (length h) e.wide t in let m = e.high
    in (e.sets i j (let l = k.0 in omega arith) k.1).0 t

pub set_of : (h : DeclaredTypes) (rows : List (List Bool)) (i j : ℕ)
    → IsExact (Path h) (length h) rows → i < length h → Path h i j → IsTrue (is_set rows i j)
set_of h rows i j e l p = (e.sets i j l (end_inside h i j p l)).1 p

pub set_to : (h : DeclaredTypes) (rows : List (List Bool)) (i j : ℕ)
    → IsExact (Path h) (length h) rows → j < length h → Path h i j → IsTrue (is_set rows i j)
set_to h rows i j e l p = (e.sets i j (start_inside h i j p l) l).1 p

-- the number at a place of a list stands in the list, and the other way round
stands : (list : List ℕ) (k : ℕ) → k < length list → Contains list (get_or list k 0)
stands list k l = (k, l, same list k l (get_or list k 0))
  where
    same : (list : List ℕ) (k : ℕ) → k < length list → (d : ℕ) → get_or list k d ≡ get_or list k 0
    same [] k l d = absurd (omega arith)
    same (x ∷ list) zero l d = refl
    same (x ∷ list) (suc k) l d = same list k (omega arith) d

pub some_of : (P : ℕ → Type 0) (list : List ℕ) (x : ℕ) → Contains list x → P x → SomeOf P list
some_of P list x w p = (
  w.0,
  w.1,
  subst P (sym
      (get_or_from_slice_get list w.0 x 0 (slice_get-get_or list w.0 x w.1 ∙ ap (λ
      (z : ℕ). Some z) w.2))) p,
)

pub of_some : (P : ℕ → Type 0) (list : List ℕ) → SomeOf P list → (x : ℕ) × Contains list x × P x
of_some P list w = (get_or list w.0 0, stands list w.0 w.1, w.2)

one : (h : DeclaredTypes) (a : ℕ) (d e : DeclaredType) → slice_get h a ≡ Some d
    → slice_get h a ≡ Some e → d ≡ e
one h a d e p q = cc

pub cycle_told : (h : DeclaredTypes) (table : TypeTable) (a : ℕ) (d : DeclaredType) (r : Bool)
    → HasRows h table → a < length h → slice_get h a ≡ Some d → IsTrue r
    ↔ SomeSet table.below d.extends a → IsTrue r ↔ IsOnCycle h a
cycle_told h table a d r t l e w = (
  λ v. let s = of_some (λ b. IsTrue (is_set table.below b a)) d.extends (w.0 v) in
      let k = set_inside table.below s.0 a (length h) t.below.wide s.2 in let m = t.below.high in
      (s.0, (d, e, s.1, let n = k.0 in omega arith), path_of h table.below s.0 a t.below s.2),
  λ v. w.1 (some_of (λ b. IsTrue (is_set table.below b a)) d.extends v.0 (subst (λ
      (z : DeclaredType). Contains z.extends v.0) (one h a v.1.0 d v.1.1 e) v.1.2)
      (set_of h table.below v.0 a t.below v.1.3 v.2)),
)

pub leaf_told : (h : DeclaredTypes) (a : ℕ) (d : DeclaredType) (r : Bool) → slice_get h a ≡ Some d
    → IsTrue r ↔ SomeLeaf h d.extends → IsTrue r ↔ ExtendsLeaf h a
leaf_told h a d r e w = (
  λ v. let s = of_some (Leaf h) d.extends (w.0 v)
      in (s.0, (d, e, s.1, slice_get_within h s.0 s.2.0 s.2.1), s.2),
  λ v. w.1 (some_of (Leaf h) d.extends v.0 (subst (λ
      (z : DeclaredType). Contains z.extends v.0) (one h a v.1.0 d v.1.1 e) v.1.2) v.2),
)

pub both_told : (h : DeclaredTypes) (table : TypeTable) (a : ℕ) (r : Bool) → HasRows h table
    → a < length h → IsTrue r ↔ SomeExcluding h table.below a → IsTrue r ↔ IsBelowBoth h a
both_told h table a r t l w = (there, back)
  where
    P : ℕ → Type 0
    P n = (n ≡ length h) ⊎ IsTrue (is_set table.below a n)

    there : IsTrue r → IsBelowBoth h a
    there v =
        let s = w.0 v
        in let n = of_some (λ n. (n ≡ length h) ⊎ IsTrue (is_set table.below a n)) s.1.excludes s.4
        in (
          s.0,
          n.0,
          (s.1, s.2, n.1),
          path_of h table.below a s.0 t.below s.3,
          elim n.2 as (λ _. (n.0 ≡ length h)
              ⊎ Path h a n.0) [
                | inl e ↦ inl e
                | inr q ↦ inr (path_of h table.below a n.0 t.below q)
              ],
        )

    back : IsBelowBoth h a → IsTrue r
    back v = w.1 (
      v.0,
      v.2.0,
      v.2.1,
      set_of h table.below a v.0 t.below l v.3,
      some_of (λ n. (n ≡ length h) ⊎ IsTrue (is_set table.below a n)) v.2.0.excludes v.1 v.2.2
          (elim v.4 as (λ _. (v.1 ≡ length h)
          ⊎ IsTrue (is_set table.below a v.1)) [
            | inl e ↦ inl e
            | inr p ↦ inr (set_of h table.below a v.1 t.below l p)
          ]),
    )

pub unlisted_told : (h : DeclaredTypes) (a : ℕ) (d : DeclaredType) (r : Bool)
    → slice_get h a ≡ Some d → IsTrue r ↔ SomeUnlisted h d.extends a → IsTrue r ↔ IsNotListed h a
unlisted_told h a d r e w = (there, back)
  where
    held : (list : List ℕ) → list ≢ [] → (u : ℕ) × Contains list u
    held [] n = absurd (n refl)
    held (x ∷ list) n = (x, (0, omega arith, refl))

    empty : (list : List ℕ) (u : ℕ) → Contains list u → list ≢ []
    empty list u v e = let l = v.1 in let m : length list ≡ 0 = ap length e in omega arith

    Un : ℕ → Type 0
    Un b = (d : DeclaredType) × (slice_get h b ≡ Some d) × (d.comprises ≢ [])
        × (Contains d.comprises a → ⊥)

    there : IsTrue r → IsNotListed h a
    there v =
        let s = of_some (λ b.
        (d : DeclaredType) × (slice_get h b ≡ Some d) × (d.comprises ≢ [])
        × (Contains d.comprises a → ⊥)) d.extends (w.0 v) in
        let u = held s.2.0.comprises s.2.2 in (
          s.0,
          u.0,
          (d, e, s.1, slice_get_within h s.0 s.2.0 s.2.1),
          (s.2.0, s.2.1, u.1),
          λ m. s.2.3 (subst (λ
              (z : DeclaredType). Contains z.comprises a) (one h s.0 m.0 s.2.0 m.1 s.2.1) m.2),
        )

    back : IsNotListed h a → IsTrue r
    back v = w.1 (some_of (λ b.
        (d : DeclaredType) × (slice_get h b ≡ Some d) × (d.comprises ≢ [])
        × (Contains d.comprises a → ⊥)) d.extends v.0
        (subst (λ (z : DeclaredType). Contains z.extends v.0) (one h a v.2.0 d v.2.1 e) v.2.2)
        (v.3.0, v.3.1, empty v.3.0.comprises v.1 v.3.2, λ m. v.4 (v.3.0, v.3.1, m)))

pub other_told : (h : DeclaredTypes) (table : TypeTable) (a : ℕ) (d : DeclaredType) (r : Bool)
    → HasRows h table → a < length h → slice_get h a ≡ Some d → IsTrue r
    ↔ SomeUnset table.below d.comprises a → IsTrue r ↔ ListsOther h a
other_told h table a d r t l e w = (
  λ v. let s = of_some (λ b. IsTrue (is_set table.below b a) → ⊥) d.comprises (w.0 v)
      in (s.0, (d, e, s.1), λ p. s.2 (set_to h table.below s.0 a t.below l p)),
  λ v. w.1 (some_of (λ b. IsTrue (is_set table.below b a)
      → ⊥) d.comprises v.0 (subst (λ
      (z : DeclaredType). Contains z.comprises v.0) (one h a v.1.0 d v.1.1 e) v.1.2)
      (λ q. v.2 (path_of h table.below v.0 a t.below q))),
)
