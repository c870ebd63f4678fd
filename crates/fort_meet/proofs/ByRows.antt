-- From the rows of below to the paths.
use Rattle.std.proofs.Common.{◌≡◌, ◌≢◌, ◌<◌, ◌⊎◌, inl, inr, ℕ, Bool, IsTrue, List, length, Some, Result, Ok, Err, IfOk, sym, ap, subst, arith}
use Rattle.std.specs.List.{slice_get, Contains}
use Rattle.std.proofs.lemmas.Option.{slice_get_within}
use Rattle.fort_base.specs.declared.ids.TypeId.{TypeId}
use Rattle.fort_types.specs.Hierarchy.{DeclaredTypes, Path}
use Rattle.fort_base.specs.declared.table.TypeTable.{TypeTable}
use Rattle.fort_base.specs.declared.refusal.Memory.{Memory}
use Rattle.fort_types.specs.Table.{is_set, IsExact, HasRows}
use Rattle.fort_types.proofs.Bits.{set_inside}
use Rattle.fort_types.proofs.Paths.{end_inside}
use Rattle.fort_meet.specs.Meets.{IsCommon, IsMeet, AreMeets}
use Rattle.fort_meet.specs.Rows.{IsInBoth, Lists, IsHighest}
use Rattle.fort_meet.proofs.Numbers.{contains_at, at_contained, same_number}

module _ (h : DeclaredTypes) (rows : List (List Bool)) (e : IsExact (Path h) (length h) rows) where
  path_of : (i j : ℕ) → IsTrue (is_set rows i j) → Path h i j
  path_of i j t =
      let k = set_inside rows i j (length h) e.wide t in let m = e.high
      in (e.sets i j (let l = k.0 in omega arith) k.1).0 t

  set_of : (i j : ℕ) → i < length h → Path h i j → IsTrue (is_set rows i j)
  set_of i j l p = (e.sets i j l (end_inside h i j p l)).1 p

  common_of : (a b m : ℕ) → m < length h → IsInBoth rows a b m → IsCommon h a b m
  common_of a b m l w = (l, path_of m a w.0, path_of m b w.1)

  both_of : (a b m : ℕ) → IsCommon h a b m → IsInBoth rows a b m
  both_of a b m w = (set_of m a w.0 w.1, set_of m b w.0 w.2)

  pub meets_of : (a b : ℕ) (common list : List TypeId)
      → Lists (IsInBoth rows a b) (length rows) common → IsHighest rows common (length common) list
      → AreMeets h a b list
  meets_of a b common list c s = record {
    exactly = λ m. (λ w. record { common = shared m w; highest = top m w }, listed m);
    rising = s.rising c.rising;
  }
    where
      inside : (m : TypeId) → Contains common m → m.0 < length h
      inside m w = let l = c.inside m w in let n = e.high in omega arith

      among : (m : TypeId) → Contains list m → Contains common m
      among m w = let k = s.among m w in contains_at common k.0 m k.2

      shared : (m : TypeId) → Contains list m → IsCommon h a b m.0
      shared m w = common_of a b m.0 (inside m (among m w)) (c.only m (among m w))

      top : (m : TypeId) → Contains list m → (k : ℕ) → IsCommon h a b k → Path h m.0 k → k ≡ m.0
      top m w k q p = let id : TypeId = record { 0 = k } in
          let n = e.high in let l = q.0
          in let d : Contains common id = c.each id (omega arith) (both_of a b k q) in
          elim (same k m.0) as (λ _. k ≡ m.0) [
            | inl f ↦ f
            | inr f ↦
                absurd (s.only m w (
                  id,
                  d,
                  (λ g. f (ap (λ (z : TypeId). z.0) g)),
                  set_of m.0 k (inside m (among m w)) p,
                ))
          ]
        where
          same : (x y : ℕ) → (x ≡ y) ⊎ (x ≢ y)
          same x y = grind arith

      listed : (m : TypeId) → IsMeet h a b m.0 → Contains list m
      listed m w = let n = e.high in let l = w.common.0 in
          let d = at_contained common m (c.each m (omega arith) (both_of a b m.0 w.common)) in
          s.each d.0 m (place_inside d.0 d.1) d.1
          (λ p. p.2
          (same_number p.0 m
          (w.highest p.0.0 (common_of a b p.0.0 (inside p.0 p.1) (c.only p.0 p.1))
          (path_of m.0 p.0.0 p.3))))
        where
          place_inside : (k : ℕ) → slice_get common k ≡ Some m → k < length common
          place_inside k f = slice_get_within common k m f

-- what is found in the rows of a table
pub found : (table : TypeTable) (rows : List (List Bool)) (a b : ℕ) (common shown : List TypeId)
    (result : Result (List TypeId) Memory) → rows ≡ table.below → shown ≡ common
    → Lists (IsInBoth rows a b) (length rows) common
    → IfOk result (λ list. IsHighest rows shown (length shown) list)
    → IfOk result (λ list. (h : DeclaredTypes) → HasRows h table → AreMeets h a b list)
found table rows a b common shown (Ok list) e f c s =
    λ h t. meets_of h rows (subst (IsExact (Path h) (length h)) (sym e) t.below) a b common list c
    (subst (λ z. IsHighest rows z (length z) list) f s)
found table rows a b common shown (Err m) e f c s = tt
