-- How many types a type is below falls along each `extends`.
use Rattle.std.proofs.Common.{◌≡◌, Result, Ok, Err, IfOk, ◌<◌, ◌≤◌, ℕ, zero, suc, Bool, true, false, IsTrue, List, [], ◌∷◌, length, get_or, map, Some, refl, sym, ap, ◌∙◌, subst, arith}
use Rattle.std.specs.List.{slice_get}
use Rattle.std.proofs.lemmas.Option.{slice_get_within, slice_get-get_or}
use Rattle.fort_base.specs.declared.table.TypeTable.{TypeTable}
use Rattle.fort_types.specs.Hierarchy.{DeclaredTypes, Extends, Path, stop, along, Sound}
use Rattle.fort_types.specs.Table.{is_set, HasRows}
use Rattle.fort_hier.proofs.ByRows.{path_of, set_of}
use Rattle.fort_member_fields.specs.Walks.{count_of, AreHeights}

-- ---- rows of bits

at_most : (bs : List Bool) → count_of bs ≤ length bs
at_most [] = omega arith
at_most (true ∷ bs) = let l = at_most bs in omega arith
at_most (false ∷ bs) = let l = at_most bs in omega arith

-- as many bits at least, where each set one is set
as_many : (xs ys : List Bool) → length xs ≡ length ys
    → ((k : ℕ) → slice_get xs k ≡ Some true → slice_get ys k ≡ Some true)
    → count_of xs ≤ count_of ys
as_many [] ys e h = omega arith
as_many (x ∷ xs) [] e h = absurd (omega arith)
as_many (true ∷ xs) (true ∷ ys) e h =
    let l = as_many xs ys (omega arith) (λ k. h (suc k)) in omega arith
as_many (true ∷ xs) (false ∷ ys) e h = let f : Some false ≡ Some true = h 0 refl in absurd cc
as_many (false ∷ xs) (true ∷ ys) e h =
    let l = as_many xs ys (omega arith) (λ k. h (suc k)) in omega arith
as_many (false ∷ xs) (false ∷ ys) e h =
    let l = as_many xs ys (omega arith) (λ k. h (suc k)) in omega arith

-- more, where one is set beside
more_bits : (xs ys : List Bool) → length xs ≡ length ys
    → ((k : ℕ) → slice_get xs k ≡ Some true → slice_get ys k ≡ Some true)
    → (k : ℕ) → slice_get xs k ≡ Some false → slice_get ys k ≡ Some true → count_of xs < count_of ys
more_bits [] ys e h k p q = absurd cc
more_bits (x ∷ xs) [] e h k p q = absurd (omega arith)
more_bits (true ∷ xs) (y ∷ ys) e h zero p q = absurd cc
more_bits (false ∷ xs) (false ∷ ys) e h zero p q = absurd cc
more_bits (false ∷ xs) (true ∷ ys) e h zero p q =
    let l = as_many xs ys (omega arith) (λ k. h (suc k)) in omega arith
more_bits (true ∷ xs) (true ∷ ys) e h (suc k) p q =
    let l = more_bits xs ys (omega arith) (λ k. h (suc k)) k p q in omega arith
more_bits (true ∷ xs) (false ∷ ys) e h (suc k) p q =
    let f : Some false ≡ Some true = h 0 refl in absurd cc
more_bits (false ∷ xs) (true ∷ ys) e h (suc k) p q =
    let l = more_bits xs ys (omega arith) (λ k. h (suc k)) k p q in omega arith
more_bits (false ∷ xs) (false ∷ ys) e h (suc k) p q =
    let l = more_bits xs ys (omega arith) (λ k. h (suc k)) k p q in omega arith

-- ---- heights

-- an item of a mapped list comes of an item
of_map : {X Y : Type 0} (f : X → Y) (xs : List X) (k : ℕ) (y : Y) → slice_get (map f xs) k ≡ Some y
    → (x : X) × (slice_get xs k ≡ Some x) × (y ≡ f x)
of_map f [] k y e = absurd cc
of_map f (x ∷ xs) zero y e = let s : f x ≡ y = cc in (x, refl, sym s)
of_map f (x ∷ xs) (suc k) y e = of_map f xs k y e

map_long : {X Y : Type 0} (f : X → Y) (xs : List X) → length (map f xs) ≡ length xs
map_long f [] = refl
map_long f (x ∷ xs) = ap suc (map_long f xs)

set_in : (rows : List (List Bool)) (i j : ℕ) (row : List Bool) → slice_get rows i ≡ Some row
    → slice_get row j ≡ Some true → IsTrue (is_set rows i j)
set_in rows i j row e f = cc

in_set : (rows : List (List Bool)) (i j : ℕ) (row : List Bool) (b : Bool)
    → slice_get rows i ≡ Some row → slice_get row j ≡ Some b → IsTrue (is_set rows i j)
    → slice_get row j ≡ Some true
in_set rows i j row b e f t = cc

pub heights_fall : (h : DeclaredTypes) (table : TypeTable) → HasRows h table → Sound h
    → AreHeights h (map count_of table.below)
heights_fall h table t s = record {
  number = map_long count_of table.below ∙ t.below.high;
  bounded = λ a n e. let r = of_map count_of table.below a n e in let l = at_most r.0
      in let w = t.below.wide a r.0 r.1 in let q = r.2 in omega arith;
  falls = falls;
}
  where
    falls : (a b m n : ℕ) → Extends h a b → slice_get (map count_of table.below) a ≡ Some m
        → slice_get (map count_of table.below) b ≡ Some n → n < m
    falls a b m n e p q =
        let ra = of_map count_of table.below a m p in let rb = of_map count_of table.below b n q in
        let wa = t.below.wide a ra.0 ra.1 in let wb = t.below.wide b rb.0 rb.1
        in let la = slice_get_within h a e.0 e.1 in
        let c = more_bits rb.0 ra.0 (wb
        ∙ sym wa)
        (λ k f. held a ra.0 ra.1 k la (let l = slice_get_within rb.0 k true f
        in omega arith)
        (along e (path_of h table.below b k t.below (set_in table.below b k rb.0 rb.1 f))))
        a
        (unset a b rb.0 rb.1 e (omega arith)) (held a ra.0 ra.1 a la la stop) in
        let x = ra.2 in let y = rb.2 in omega arith
      where
        held : (a : ℕ) (row : List Bool) → slice_get table.below a ≡ Some row → (k : ℕ)
            → a < length h → k < length h → Path h a k → slice_get row k ≡ Some true
        held a row r k l m p = let w = t.below.wide a row r in
            in_set table.below a k row (get_or row k false) r
            (slice_get-get_or row k false (omega arith)) (set_of h table.below a k t.below l p)

        unset : (a b : ℕ) (row : List Bool) → slice_get table.below b ≡ Some row → Extends h a b
            → a < length row → slice_get row a ≡ Some false
        unset a b row r e l = at (get_or row a false) (slice_get-get_or row a false l)
          where
            at : (v : Bool) → slice_get row a ≡ Some v → slice_get row a ≡ Some false
            at true f =
                absurd (s.acyclic a b e
                (path_of h table.below b a t.below (set_in table.below b a row r f)))
            at false f = f

-- what is counted in the rows is a number for each type
pub heights_told : (h : DeclaredTypes) (table : TypeTable) (rows : List (List Bool)) {E : Type 0}
    (r : Result (List ℕ) E) → HasRows h table → Sound h → rows ≡ table.below
    → IfOk r (λ counts. counts ≡ map count_of rows) → IfOk r (AreHeights h)
heights_told h table rows (Ok counts) t s q e =
    subst (AreHeights h) (sym (e ∙ ap (map count_of) q)) (heights_fall h table t s)
heights_told h table rows (Err fault) t s q e = e
