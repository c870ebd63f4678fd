-- Sums over lists of which one place changes.
use Rattle.std.proofs.Common.{◌≡◌, ◌≢◌, ◌⊎◌, ℕ, zero, suc, ◌+◌, ◌<◌, Bool, true, false, if◌then◌else◌, List, [], ◌∷◌, ◌++◌, length, set, map, refl, sym, ap, subst, inl, inr, ⊎_elim, arith}
use Rattle.std.specs.Prelude.{sum_by}
use Rattle.std.proofs.lemmas.List.Sums.{sum_by-cons}
use mathlib.Core.Option.{some, some-ne-none, some-injective}
use lib.ListN.{get_elem?}
use Rattle.crossbeam_deque.proofs.Lists.{at_set}
use Rattle.fort_deck.specs.declared.job.Job.{Job}
use Rattle.fort_deck.specs.declared.view.View.{View}
use Rattle.fort_deck.specs.Dealt.{is_out}

module _ {V : Type 0} where
  pub inside : (views : List V) (j : ℕ) (v : V) → get_elem? views j ≡ some v → j < length views
  inside [] j v e = absurd (some-ne-none v (sym e))
  inside (x ∷ xs) zero v e = omega arith
  inside (x ∷ xs) (suc j) v e = let l = inside xs j v e in omega arith

  pub seats_set : (P : ℕ → V → Type 0) (views : List V) (id : ℕ) (w : V) → P id w
      → ((j : ℕ) (u : V) → j ≢ id → get_elem? views j ≡ some u → P j u)
      → (j : ℕ) (u : V) → get_elem? (set views id w) j ≡ some u → P j u
  seats_set P views id w mine others j u e =
      ⊎_elim
      (λ (t : (j ≡ id) × (w ≡ u)). subst (λ (y : ℕ × V). P y.0 y.1) (λ i. (sym t.0 i, t.1 i)) mine)
      (λ (t : (j ≢ id) × (get_elem? views j ≡ some u)). others j u t.0 t.1)
      (at_set views id j w u e)

  at_push : (l : List V) (a b : V) (j : ℕ) → get_elem? (l ++ a ∷ []) j ≡ some b
      → (get_elem? l j ≡ some b) ⊎ ((j ≡ length l) × (a ≡ b))
  at_push [] a b zero e = inr (refl, some-injective a b e)
  at_push [] a b (suc j) e = absurd (some-ne-none b (sym e))
  at_push (x ∷ xs) a b zero e = inl e
  at_push (x ∷ xs) a b (suc j) e =
      ⊎_elim inl (λ (t : (j ≡ length xs) × (a ≡ b)). inr (ap suc t.0, t.1)) (at_push xs a b j e)

  pub seats_push : (P : ℕ → V → Type 0) (views : List V) (w : V) → P (length views) w
      → ((j : ℕ) (u : V) → get_elem? views j ≡ some u → P j u)
      → (j : ℕ) (u : V) → get_elem? (views ++ w ∷ []) j ≡ some u → P j u
  seats_push P views w mine others j u e =
      ⊎_elim (others j u) (λ
      (t : (j ≡ length views) × (w ≡ u)). subst (λ
      (y : ℕ × V). P y.0 y.1) (λ i. (sym t.0 i, t.1 i)) mine) (at_push views w u j e)

  pub front_of_push : (views : List V) (j : ℕ) (v w : V) → get_elem? views j ≡ some v
      → get_elem? (views ++ w ∷ []) j ≡ some v
  front_of_push [] j v w e = absurd (some-ne-none v (sym e))
  front_of_push (x ∷ xs) zero v w e = e
  front_of_push (x ∷ xs) (suc j) v w e = front_of_push xs j v w e

  pub sum_set : (f : V → ℕ) (views : List V) (j : ℕ) (v w : V) → get_elem? views j ≡ some v
      → sum_by f (set views j w) + f v ≡ sum_by f views + f w
  sum_set f [] j v w e = absurd (some-ne-none v (sym e))
  sum_set f (x ∷ xs) zero v w e =
      let is : f x ≡ f v = ap f (some-injective x v e)
      in omega (arith, sum_by-cons f w xs, sum_by-cons f x xs)
  sum_set f (x ∷ xs) (suc j) v w e =
      let rest = sum_set f xs j v w e
      in omega (arith, sum_by-cons f x xs, sum_by-cons f x (set xs j w))

-- a sum over the images is a sum over the items
pub sum_map : {X Y : Type 0} (f : Y → ℕ) (g : X → Y) (xs : List X)
    → sum_by f (map g xs) ≡ sum_by (λ x. f (g x)) xs
sum_map f g [] = refl
sum_map f g (x ∷ xs) =
    let rest = sum_map f g xs
    in omega (arith, sum_by-cons f (g x) (map g xs), sum_by-cons (λ y. f (g y)) x xs)

pub same_sum : {X : Type 0} (f g : X → ℕ) → ((x : X) → f x ≡ g x) → (xs : List X)
    → sum_by f xs ≡ sum_by g xs
same_sum f g same [] = refl
same_sum f g same (x ∷ xs) =
    let rest = same_sum f g same xs in let here = same x
    in omega (arith, sum_by-cons f x xs, sum_by-cons g x xs)

-- each job counted as 1
pub ones : {X : Type 0} (xs : List X) → sum_by (λ _. 1) xs ≡ length xs
ones {X} [] = refl
ones {X} (x ∷ xs) = let rest = ones xs in omega (arith, sum_by-cons (λ (_ : X). 1) x xs)

not_out : (b : Bool) (n : ℕ) → n ≡ (if b then 1 else 0) → n ≡ 0 → b ≡ false
not_out true n is e = absurd (omega arith)
not_out false n is e = refl

-- where no thief is out, no party holds stolen jobs
pub silent : (weight : Job → ℕ) (views : List View) → sum_by is_out views ≡ 0
    → ((j : ℕ) (v : View) → get_elem? views j ≡ some v → v.steals ≡ false → v.stolen ≡ [])
    → sum_by (λ v. sum_by weight v.stolen) views ≡ 0
silent weight [] none idle = refl
silent weight (x ∷ xs) none idle =
    let weigh : View → ℕ = λ v. sum_by weight v.stolen in
    let here : x.steals ≡ false =
    not_out x.steals (is_out x) refl (omega (arith, sum_by-cons is_out x xs)) in
    let nothing : weigh x ≡ 0 = ap (sum_by weight) (idle 0 x refl here) in
    let rest : sum_by weigh xs ≡ 0 =
    silent weight xs (omega (arith, sum_by-cons is_out x xs)) (λ j v e. idle (suc j) v e) in
    omega (arith, sum_by-cons weigh x xs)
