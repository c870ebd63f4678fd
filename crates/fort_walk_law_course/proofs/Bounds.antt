-- What the ways in which an attempt ends do to one location, and what stretches cost.
use Rattle.std.proofs.Common.{◌≡◌, ℕ, ◌+◌, List, [], ◌∷◌, Option, Some, None, refl, arith, ◌⊎◌, inl, inr}
use Rattle.fort_core.specs.declared.value.Value.{Value}
use Rattle.fort_machine.specs.Cells.{Cell, untouched, found, made, joined, Fits, left_at, given_back, taken_away}
use Rattle.fort_machine.specs.Effects.{Effect, both}
use Rattle.fort_machine.specs.Journals.{MakesWithinBounds}
use Rattle.fort_store_effects.specs.Levels.{Levels, closing, added_to, attempts_cost, spent}
use Rattle.fort_store_effects.specs.declared.cell.Closing.{Closing}
use Rattle.fort_store_effects.specs.declared.cell.Closing.TheVariants.{Completed, Failed, Aborted}

-- a cell says that its location was made
abbrev pub IsMade : Cell → Type 0
IsMade untouched = ⊥
IsMade (found r w) = ⊥
IsMade (made w) = Unit {0}

made_is : (c : Cell) (w : Option Value) → c ≡ made w → IsMade c
made_is untouched w e = let q = e in cc
made_is (found r x) w e = let q = e in cc
made_is (made x) w e = tt

value_of : (c : Cell) → IsMade c → (w : Option Value) × (c ≡ made w)
value_of untouched k = absurd k
value_of (found r x) k = absurd k
value_of (made x) k = (x, refl)

joined_made : (c d : Cell) → IsMade (joined c d) → IsMade c ⊎ IsMade d
joined_made untouched d k = inr k
joined_made (found r w) untouched k = absurd k
joined_made (found r w) (found s x) k = absurd k
joined_made (found r w) (made x) k = inr tt
joined_made (made w) d k = inl tt

pub both_bounded : (d e : Effect) → MakesWithinBounds d → MakesWithinBounds e
    → MakesWithinBounds (both d e)
both_bounded d e k n l v h =
    elim (joined_made (d.cells l) (e.cells l) (made_is (joined (d.cells l) (e.cells l)) v h)) [
      | inl m ↦ (let w = value_of (d.cells l) m in k l w.0 w.1)
      | inr m ↦ (let w = value_of (e.cells l) m in n l w.0 w.1)
    ]

back_made : (c : Cell) → IsMade (given_back c) → IsMade c
back_made untouched k = k
back_made (found r w) k = k
back_made (made w) k = k

away_made : (c : Cell) → IsMade (taken_away c) → IsMade c
away_made untouched k = k
away_made (found r w) k = k
away_made (made w) k = tt

closed_made : (c : Closing) (e : Effect) (l : ℕ) → IsMade ((closing c e).cells l)
    → IsMade (e.cells l)
closed_made Completed e l k = k
closed_made Failed e l k = back_made (e.cells l) k
closed_made Aborted e l k = away_made (e.cells l) k

pub closing_bounded : (c : Closing) (e : Effect) → MakesWithinBounds e
    → MakesWithinBounds (closing c e)
closing_bounded c e k l v h =
    let w = value_of (e.cells l) (closed_made c e l (made_is ((closing c e).cells l) v h))
    in k l w.0 w.1

-- where nothing is left, nothing is left once an attempt ended
none_back : (c : Cell) (o : Option Value) → Fits c o → left_at c o ≡ None
    → left_at (given_back c) o ≡ None
none_back untouched o f h = h
none_back (found r w) None f h = absurd f
none_back (found r None) (Some v) f h = h
none_back (found r (Some w)) (Some v) f h = let q = h in cc
none_back (made w) o f h = h

none_away : (c : Cell) (o : Option Value) → Fits c o → left_at c o ≡ None
    → left_at (taken_away c) o ≡ None
none_away untouched o f h = h
none_away (found r w) None f h = absurd f
none_away (found r None) (Some v) f h = h
none_away (found r (Some w)) (Some v) f h = let q = h in cc
none_away (made w) o f h = refl

pub none_closed : (c : Closing) (e : Effect) (l : ℕ) (o : Option Value) → Fits (e.cells l) o
    → left_at (e.cells l) o ≡ None → left_at ((closing c e).cells l) o ≡ None
none_closed Completed e l o f h = h
none_closed Failed e l o f h = none_back (e.cells l) o f h
none_closed Aborted e l o f h = none_away (e.cells l) o f h

-- ---- costs

pub spent_added : (e : Effect) (v : Levels) (es : List Effect)
    → spent (added_to e v es) ≡ v.cost + attempts_cost es + e.cost
spent_added e v [] = omega arith
spent_added e v (d ∷ ds) = omega arith

pub closing_cost : (c : Closing) (e : Effect) → (closing c e).cost ≡ 1 + e.cost
closing_cost Completed e = refl
closing_cost Failed e = refl
closing_cost Aborted e = refl
