-- Below is decided, since the rows decide the paths.
use Rattle.std.proofs.Common.{◌≡◌, ◌<◌, ◌≤◌, ◌⊎◌, inl, inr, ℕ, zero, suc, Bool, true, false, List, [], ◌∷◌, length, Some, refl, sym, ◌∙◌, subst, arith}
use Rattle.std.specs.List.{slice_get}
use Rattle.std.proofs.lemmas.Option.{slice_get_within}
use Rattle.fort_base.specs.declared.table.TypeTable.{TypeTable}
use Rattle.fort_base.specs.declared.ty.Ty.{Ty, out-Ty}
use Rattle.fort_base.specs.declared.ty.Ty.TheOpen.{Ty-F}
use Rattle.fort_types.specs.Hierarchy.{DeclaredTypes, Path, stop, along, Sound}
use Rattle.fort_types.specs.Types.{Below}
use Rattle.fort_types.specs.Layers.{AllBelow, BelowLayer}
use Rattle.fort_types.specs.Table.{is_set, HasRows}
use Rattle.fort_types.proofs.ByParts.{Each, Parts, by_parts}
use Rattle.fort_types.proofs.ByLayers.{layers_of_below, below_of_layers}
use Rattle.fort_types.proofs.Orders.{itself}
use Rattle.fort_types.proofs.Antisymmetry.{same}
use Rattle.fort_types.proofs.Paths.{end_inside}

-- it holds, or it doesn't
abbrev pub Or : Type 0 → Type 0
Or A = A ⊎ (A → ⊥)

pub both_or : {A B : Type 0} → Or A → Or B → Or (A × B)
both_or (inl a) (inl b) = inl (a, b)
both_or (inl a) (inr n) = inr (λ w. n w.1)
both_or (inr n) b = inr (λ w. n w.0)

-- a path that begins outside the hierarchy goes nowhere
alone : (h : DeclaredTypes) (i j : ℕ) → length h ≤ i → Path h i j → i ≡ j
alone h i j l stop = refl
alone h i j l (along e p) = absurd (let m = slice_get_within h i e.0 e.1 in omega arith)

same_or : (i j : ℕ) → Or (i ≡ j)
same_or i j = grind arith

cases_lt : (i n : ℕ) → (i < n) ⊎ (n ≤ i)
cases_lt i n = grind arith

pub paths : (h : DeclaredTypes) (table : TypeTable) → HasRows h table → (i j : ℕ) → Or (Path h i j)
paths h table rows i j = elim (cases_lt i (length h)) as (λ _. Or (Path h i j)) [
  | inl l ↦ elim (cases_lt j (length h)) as (λ _. Or (Path h i j)) [
    | inl m ↦ by_bit l m (is_set table.below i j) refl
    | inr m ↦ inr (λ p. let k = end_inside h i j p l in omega arith)
  ]
  | inr l ↦ elim (same_or i j) as (λ _. Or (Path h i j)) [
    | inl e ↦ inl (subst (Path h i) e stop)
    | inr n ↦ inr (λ p. n (alone h i j l p))
  ]
]
  where
    by_bit : i < length h → j < length h → (b : Bool) → is_set table.below i j ≡ b → Or (Path h i j)
    by_bit l m true e = inl ((rows.below.sets i j l m).0 e)
    by_bit l m false e =
        inr (λ p. let f : false ≡ true = sym e ∙ (rows.below.sets i j l m).1 p in absurd cc)

module _ (h : DeclaredTypes) (table : TypeTable) (sound : Sound h) (rows : HasRows h table) where
  -- both ways round at once, since arrows turn
  abbrev Decided : Ty → Type 0
  Decided a = (b : Ty) → Or (Below h a b) × Or (Below h b a)

  more : (x y : Ty) (xs ys : List Ty) → Below h x y → AllBelow h xs ys
      → AllBelow h (x ∷ xs) (y ∷ ys)
  more x y xs ys b r = (let l = r.0 in omega arith, places)
    where
      places : (k : ℕ) (u v : Ty) → slice_get (x ∷ xs) k ≡ Some u → slice_get (y ∷ ys) k ≡ Some v
          → Below h u v
      places zero u v p q =
          let e : x ≡ u = cc in let f : y ≡ v = cc
          in subst (λ z. Below h z v) e (subst (λ z. Below h x z) f b)
      places (suc k) u v p q = r.1 k u v p q

  none_below : (xs ys : List Ty) → length xs ≡ 0 → length ys ≡ 0 → AllBelow h xs ys
  none_below xs ys l m = (
    let n = l in omega arith,
    λ k x y e f. let n = slice_get_within xs k x e
        in absurd (omega arith),
  )

  -- lists, from their places
  lists_or : (xs ys : List Ty)
      → ((k : ℕ) (x : Ty) → slice_get xs k ≡ Some x → (y : Ty) → Or (Below h x y))
      → Or (AllBelow h xs ys)
  lists_or [] [] d = inl (none_below [] [] refl refl)
  lists_or [] (y ∷ ys) d = inr (λ p. let n = p.0 in omega arith)
  lists_or (x ∷ xs) [] d = inr (λ p. let n = p.0 in omega arith)
  lists_or (x ∷ xs) (y ∷ ys) d = elim (d 0 x refl y) as (λ _. Or (AllBelow h (x ∷ xs) (y ∷ ys))) [
    | inl b ↦
        elim (lists_or xs ys (λ k t e. d (suc k) t e)) as (λ _. Or (AllBelow h (x ∷ xs) (y ∷ ys))) [
          | inl r ↦ inl (more x y xs ys b r)
          | inr n ↦ inr (λ p. n (let l = p.0 in omega arith, λ k u v. p.1 (suc k) u v))
        ]
    | inr n ↦ inr (λ p. n (p.1 0 x y refl refl))
  ]

  parts_down : (xs ys : List Ty) → Each Decided xs → Or (AllBelow h ys xs)
  parts_down [] [] d = inl (none_below [] [] refl refl)
  parts_down [] (y ∷ ys) d = inr (λ p. let n = p.0 in omega arith)
  parts_down (x ∷ xs) [] d = inr (λ p. let n = p.0 in omega arith)
  parts_down (x ∷ xs) (y ∷ ys) d =
      elim ((d 0 x refl y).1) as (λ _. Or (AllBelow h (y ∷ ys) (x ∷ xs))) [
        | inl b ↦
            elim (parts_down xs ys (λ k t e. d (suc k) t e)) as (λ _. Or (AllBelow h (y ∷ ys) (x ∷ xs))) [
              | inl r ↦ inl (more y x ys xs b r)
              | inr n ↦ inr (λ p. n (let l = p.0 in omega arith, λ k u v. p.1 (suc k) u v))
            ]
        | inr n ↦ inr (λ p. n (p.1 0 y x refl refl))
      ]

  equal_or : (x y : Ty) → Decided x → Or (x ≡ y)
  equal_or x y d = elim (both_or (d y).0 (d y).1) as (λ _. Or (x ≡ y)) [
    | inl w ↦ inl (same h sound x y w.0 w.1)
    | inr n ↦
        inr (λ e. n (subst (λ z. Below h x z) e (itself h x), subst (λ z. Below h z x) e (itself h x)))
  ]

  turn_or : (x y : Ty) → Or (x ≡ y) → Or (y ≡ x)
  turn_or x y (inl e) = inl (sym e)
  turn_or x y (inr n) = inr (λ e. n (sym e))

  up : (x y : Ty-F Ty) → Parts Decided x → Or (BelowLayer h x y)
  up Ty-F.Nothing y d = inl tt
  up Ty-F.Any Ty-F.Any d = inl tt
  up (Ty-F.Named i) Ty-F.Any d = inl tt
  up (Ty-F.Named i) (Ty-F.Named j) d = paths h table rows i.0 j.0
  up (Ty-F.Tuple xs) Ty-F.Any d = inl tt
  up (Ty-F.Tuple xs) (Ty-F.Tuple ys) d = lists_or xs ys (λ k x e y. (d k x e y).0)
  up (Ty-F.Arrow p q) Ty-F.Any d = inl tt
  up (Ty-F.Arrow p q) (Ty-F.Arrow r s) d = both_or (d.0 r).1 (d.1 s).0
  up (Ty-F.Array u) Ty-F.Any d = inl tt
  up (Ty-F.Array u) (Ty-F.Array v) d = equal_or u v d
  up x y d = inr (λ w. w)

  down : (x y : Ty-F Ty) → Parts Decided x → Or (BelowLayer h y x)
  down x Ty-F.Nothing d = inl tt
  down Ty-F.Any Ty-F.Any d = inl tt
  down Ty-F.Any (Ty-F.Named j) d = inl tt
  down Ty-F.Any (Ty-F.Tuple ys) d = inl tt
  down Ty-F.Any (Ty-F.Arrow r s) d = inl tt
  down Ty-F.Any (Ty-F.Array v) d = inl tt
  down (Ty-F.Named i) (Ty-F.Named j) d = paths h table rows j.0 i.0
  down (Ty-F.Tuple xs) (Ty-F.Tuple ys) d = parts_down xs ys d
  down (Ty-F.Arrow p q) (Ty-F.Arrow r s) d = both_or (d.0 r).0 (d.1 s).1
  down (Ty-F.Array u) (Ty-F.Array v) d = turn_or u v (equal_or u v d)
  down x y d = inr (λ w. w)

  lift : (a b : Ty) → Or (BelowLayer h (out-Ty a) (out-Ty b)) → Or (Below h a b)
  lift a b (inl w) = inl (below_of_layers h a b w)
  lift a b (inr n) = inr (λ r. n (layers_of_below h r))

  pub decide : (a b : Ty) → Or (Below h a b)
  decide a b =
      (by_parts Decided
      (λ a d b. (
        lift a b (up (out-Ty a) (out-Ty b) d),
        lift b a (down (out-Ty a) (out-Ty b) d),
      )) a b).0

  pub decide_all : (xs ys : List Ty) → Or (AllBelow h xs ys)
  decide_all xs ys = lists_or xs ys (λ k x e y. decide x y)
