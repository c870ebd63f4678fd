-- What stretches make, one after the other and in attempts, is made within the bounds of
-- locations.
use Rattle.std.proofs.Common.{◌≡◌, ℕ, ◌<◌, ◌^◌, Option, Some, None, refl, ap, sym, ◌∙◌, subst}
use Rattle.fort_core.specs.declared.form.Mode.{Mode}
use Rattle.fort_core.specs.declared.program.Program.{Program}
use Rattle.fort_core.specs.declared.term.Term.{Term}
use Rattle.fort_core.specs.declared.value.Value.{Value}
use Rattle.fort_machine.specs.Attempts.{Ended, Closes, completed, failed, gave_up, fell_asleep}
use Rattle.fort_machine.specs.Cells.{Cell, untouched, found, made, joined, later, given_back, taken_away}
use Rattle.fort_machine.specs.Effects.{Effect, idle, paid, both, completing, failing, aborting}
use Rattle.fort_machine.specs.Journals.{MakesWithinBounds}

-- a cell that is made
abbrev IsMade : Cell → Type 0
IsMade c = (v : Option Value) × (c ≡ made v)

made_first : (c d : Cell) → IsMade c → IsMade (joined c d)
made_first c d h = go d
  where
    made_on : (v : Option Value) (d : Cell) → IsMade (joined (made v) d)
    made_on v untouched = (v, refl)
    made_on v (found r w) = (later v w, refl)
    made_on v (made w) = (w, refl)

    go : (d : Cell) → IsMade (joined c d)
    go d = subst (λ x. IsMade (joined x d)) (sym h.1) (made_on h.0 d)

made_second : (c d : Cell) → IsMade d → IsMade (joined c d)
made_second c d h = subst (λ x. IsMade (joined c x)) (sym h.1) (onto c)
  where
    onto : (c : Cell) → IsMade (joined c (made h.0))
    onto untouched = (h.0, refl)
    onto (found r w) = (h.0, refl)
    onto (made w) = (h.0, refl)

-- what two stretches made together one of them made
pub data Maker (c d : Cell) : Type 0 where
  first_made : (v : Option Value) → c ≡ made v → Maker c d
  second_made : (v : Option Value) → d ≡ made v → Maker c d

maker : (c d : Cell) (v : Option Value) → joined c d ≡ made v → Maker c d
maker untouched d v e = second_made v e
maker (found r w) untouched v e = absurd cc
maker (found r w) (found q x) v e = absurd cc
maker (found r w) (made x) v e = second_made x refl
maker (made w) d v e = first_made w refl

module _ (d e : Effect) where
  pub bounded_first : MakesWithinBounds (both d e) → MakesWithinBounds d
  bounded_first h l v q =
      let z = made_first (d.cells l) (e.cells l) (v, q) in h l z.0 z.1

  pub bounded_second : MakesWithinBounds (both d e) → MakesWithinBounds e
  bounded_second h l v q =
      let z = made_second (d.cells l) (e.cells l) (v, q) in h l z.0 z.1

  pub bounded_both : MakesWithinBounds d → MakesWithinBounds e → MakesWithinBounds (both d e)
  bounded_both h k l v q = go (maker (d.cells l) (e.cells l) v q)
    where
      go : Maker (d.cells l) (e.cells l) → l < 2 ^ 64
      go (first_made w z) = h l w z
      go (second_made w z) = k l w z

pub bounded_paid : (cost : ℕ) → MakesWithinBounds (paid cost)
bounded_paid cost l v q = let z : untouched ≡ made v = q in absurd cc

pub bounded_idle : MakesWithinBounds idle
bounded_idle l v q = let z : untouched ≡ made v = q in absurd cc

-- attempts
back_made : (c : Cell) (v : Option Value) → given_back c ≡ made v → IsMade c
back_made untouched v e = absurd cc
back_made (found r w) v e = absurd cc
back_made (made w) v e = (w, refl)

away_made : (c : Cell) (v : Option Value) → taken_away c ≡ made v → IsMade c
away_made untouched v e = absurd cc
away_made (found r w) v e = absurd cc
away_made (made w) v e = (w, refl)

pub bounded_completing : (d : Effect) → MakesWithinBounds d → MakesWithinBounds (completing d)
bounded_completing d h = h

pub bounded_failing : (d : Effect) → MakesWithinBounds d → MakesWithinBounds (failing d)
bounded_failing d h l v q = let z = back_made (d.cells l) v q in h l z.0 z.1

pub bounded_aborting : (d : Effect) → MakesWithinBounds d → MakesWithinBounds (aborting d)
bounded_aborting d h l v q = let z = away_made (d.cells l) v q in h l z.0 z.1

-- what an attempt made its inner run made, and the other way round
pub bounded_inside : {p : Program} {m : Mode} {body b : Term} {r : Ended} (d e : Effect)
    → Closes p m body r d b e → MakesWithinBounds e → MakesWithinBounds d
bounded_inside d e (completed v x y z) h = subst MakesWithinBounds z h
bounded_inside d e (failed v x y z) h =
    let k : MakesWithinBounds (failing d) = subst MakesWithinBounds z h in
    λ l v q. k l v (ap given_back q)
bounded_inside d e (gave_up v x y z u q) h =
    let k : MakesWithinBounds (aborting d) = subst MakesWithinBounds q h in
    λ l v w. k l None (ap taken_away w)
bounded_inside d e (fell_asleep marks x y z u o q) h =
    let k : MakesWithinBounds (aborting d) = subst MakesWithinBounds q h in
    λ l v w. k l None (ap taken_away w)
