-- What the parts of a stretch made and cost.
use Rattle.std.proofs.Common.{◌≡◌, ◌+◌, ◌≤◌, Option, None, refl, arith, subst, ap}
use Rattle.fort_core.specs.declared.form.Mode.{Mode}
use Rattle.fort_core.specs.declared.program.Program.{Program}
use Rattle.fort_core.specs.declared.term.Term.{Term}
use Rattle.fort_core.specs.declared.value.Value.{Value}
use Rattle.fort_machine.specs.Cells.{Cell, untouched, found, made, joined, later, given_back, taken_away}
use Rattle.fort_machine.specs.Effects.{Effect, both, completing, failing, aborting}
use Rattle.fort_machine.specs.Attempts.{Ended, Closes, completed, failed, gave_up, fell_asleep}
use Rattle.fort_machine.specs.Journals.{MakesWithinBounds}

made_left : (c d : Cell) (w : Option Value) → c ≡ made w
    → (x : Option Value) × (joined c d ≡ made x)
made_left untouched d w e = absurd cc
made_left (found r x) d w e = absurd cc
made_left (made x) untouched w e = (x, refl)
made_left (made x) (found r y) w e = (later x y, refl)
made_left (made x) (made y) w e = (y, refl)

made_right : (c d : Cell) (w : Option Value) → d ≡ made w
    → (x : Option Value) × (joined c d ≡ made x)
made_right c untouched w e = absurd cc
made_right c (found r x) w e = absurd cc
made_right untouched (made y) w e = (y, refl)
made_right (found r x) (made y) w e = (y, refl)
made_right (made x) (made y) w e = (y, refl)

pub first_bounded : (d e : Effect) → MakesWithinBounds (both d e) → MakesWithinBounds d
first_bounded d e b l v q = let x = made_left (d.cells l) (e.cells l) v q in b l x.0 x.1

pub second_bounded : (d e : Effect) → MakesWithinBounds (both d e) → MakesWithinBounds e
second_bounded d e b l v q = let x = made_right (d.cells l) (e.cells l) v q in b l x.0 x.1

back_bounded : (d : Effect) → MakesWithinBounds (failing d) → MakesWithinBounds d
back_bounded d b l v q = b l v (ap given_back q)

away_bounded : (d : Effect) → MakesWithinBounds (aborting d) → MakesWithinBounds d
away_bounded d b l v q = b l None (ap taken_away q)

done_bounded : (d : Effect) → MakesWithinBounds (completing d) → MakesWithinBounds d
done_bounded d b l v q = b l v q

pub begun_bounded : (d e : Effect) → e ≡ aborting d → MakesWithinBounds e → MakesWithinBounds d
begun_bounded d e q b = away_bounded d (subst MakesWithinBounds q b)

pub begun_costs : (d e : Effect) → e ≡ aborting d → 1 + d.cost ≤ e.cost
begun_costs d e q = let c : e.cost ≡ 1 + d.cost = ap (λ (x : Effect). x.cost) q in omega (arith, c)

pub closes_bounded : (p : Program) (m : Mode) (body : Term) (r : Ended) (d : Effect) (b : Term)
    (e : Effect) → Closes p m body r d b e → MakesWithinBounds e → MakesWithinBounds d
closes_bounded p m body r d b e (completed v x y q) k = done_bounded d (subst MakesWithinBounds q k)
closes_bounded p m body r d b e (failed v x y q) k = back_bounded d (subst MakesWithinBounds q k)
closes_bounded p m body r d b e (gave_up v x z o y q) k =
    away_bounded d (subst MakesWithinBounds q k)
closes_bounded p m body r d b e (fell_asleep ms x z o ri y q) k =
    away_bounded d (subst MakesWithinBounds q k)

pub closes_costs : (p : Program) (m : Mode) (body : Term) (r : Ended) (d : Effect) (b : Term)
    (e : Effect) → Closes p m body r d b e → 1 + d.cost ≤ e.cost
closes_costs p m body r d b e (completed v x y q) =
    let c : e.cost ≡ 1 + d.cost = ap (λ (x : Effect). x.cost) q in omega (arith, c)
closes_costs p m body r d b e (failed v x y q) =
    let c : e.cost ≡ 1 + d.cost = ap (λ (x : Effect). x.cost) q in omega (arith, c)
closes_costs p m body r d b e (gave_up v x z o y q) =
    let c : e.cost ≡ 1 + d.cost = ap (λ (x : Effect). x.cost) q in omega (arith, c)
closes_costs p m body r d b e (fell_asleep ms x z o ri y q) =
    let c : e.cost ≡ 1 + d.cost = ap (λ (x : Effect). x.cost) q in omega (arith, c)
