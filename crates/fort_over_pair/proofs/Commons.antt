-- The rows of below and what is below two receivers.
use Rattle.std.proofs.Common.{◌≡◌, ◌<◌, ◌↔◌, ℕ, Bool, true, false, not, IsTrue, List, length, Some, refl, sym, ap, ◌∙◌, subst, arith}
use Rattle.std.specs.List.{slice_get}
use Rattle.fort_base.specs.declared.table.TypeTable.{TypeTable}
use Rattle.fort_base.specs.declared.ty.Ty.{Ty, out-Ty}
use Rattle.fort_base.specs.declared.ty.Ty.TheOpen.{Ty-F}
use Rattle.fort_types.specs.Hierarchy.{DeclaredTypes, Path}
use Rattle.fort_types.specs.Table.{is_set, IsExact, HasRows}
use Rattle.fort_types.proofs.Bits.{set_inside}
use Rattle.fort_types.proofs.Paths.{end_inside}
use Rattle.fort_types_sets.specs.Pairs.{AreStrangers}
use Rattle.fort_over_pair.specs.Commons.{CommonLayer, HasCommon, HasBoth}

module _ (h : DeclaredTypes) (rows : List (List Bool)) (e : IsExact (Path h) (length h) rows) where
  path_of : (i j : ℕ) → IsTrue (is_set rows i j) → Path h i j
  path_of i j t =
      let k = set_inside rows i j (length h) e.wide t in let m = e.high
      in (e.sets i j (let l = k.0 in omega arith) k.1).0 t

  set_of : (i j : ℕ) → i < length h → Path h i j → IsTrue (is_set rows i j)
  set_of i j l p = (e.sets i j l (end_inside h i j p l)).1 p

  common_of : (a b : ℕ) → HasBoth rows a b ↔ HasCommon h a b
  common_of a b = (
    λ w. (
      w.0,
      (let l = w.1 in let n = e.high in omega arith, path_of w.0 a w.2, path_of w.0 b w.3),
    ),
    λ w. (
      w.0,
      let l = w.1.0 in let n = e.high
          in omega arith,
      set_of w.0 a w.1.0 w.1.1,
      set_of w.0 b w.1.0 w.1.2,
    ),
  )

pub common_rows : (table : TypeTable) (rows : List (List Bool)) (a b : ℕ) (r : Bool)
    → rows ≡ table.below → (IsTrue r ↔ HasBoth rows a b)
    → (h : DeclaredTypes) → HasRows h table → IsTrue r ↔ HasCommon h a b
common_rows table rows a b r e w h t =
    let c = common_of h rows (subst (IsExact (Path h) (length h)) (sym e) t.below) a b in
    (λ u. c.0 (w.0 u), λ u. w.1 (c.1 u))

pub turned_round : (b : Bool) (P : Type 0) → (IsTrue b ↔ P) → IsTrue (not b) ↔ (P → ⊥)
turned_round true P w = (λ t. let f : false ≡ true = t in absurd cc, λ n. absurd (n (w.0 refl)))
turned_round false P w = (λ t p. let f : false ≡ true = w.1 p in cc, λ n. refl)

common_at : (h : DeclaredTypes) (xs ys : List Ty) (x y : Ty) (u v : Ty-F Ty)
    → slice_get xs 0 ≡ Some x → slice_get ys 0 ≡ Some y → out-Ty x ≡ u → out-Ty y ≡ v
    → AreStrangers h xs ys → CommonLayer h u v → ⊥
common_at h xs ys x y (Ty-F.Named i) (Ty-F.Named j) e f g m s w = s x y i j e f g m w.0 w.1
common_at h xs ys x y u v e f g m s w = absurd w

pub strangers_by : (h : DeclaredTypes) (xs ys : List Ty) (x y : Ty) (r : Bool)
    → slice_get xs 0 ≡ Some x → slice_get ys 0 ≡ Some y
    → (IsTrue r ↔ CommonLayer h (out-Ty x) (out-Ty y)) → IsTrue (not r) ↔ AreStrangers h xs ys
strangers_by h xs ys x y r e f b =
    let t = turned_round r (CommonLayer h (out-Ty x) (out-Ty y)) b in (
      λ n u v k l p q g m a c. let d : x ≡ u = cc in let o : y ≡ v = cc
          in let i : out-Ty x ≡ Ty-F.Named k = ap out-Ty d ∙ g
          in let j : out-Ty y ≡ Ty-F.Named l = ap out-Ty o ∙ m in
          t.0 n (subst (λ z. CommonLayer h z (out-Ty y)) (sym i)
          (subst (λ z. CommonLayer h (Ty-F.Named k) z) (sym j) (a, c))),
      λ s. t.1 (common_at h xs ys x y (out-Ty x) (out-Ty y) e f refl refl s),
    )
