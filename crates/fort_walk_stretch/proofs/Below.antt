-- What a leg leaves alone.
use Rattle.std.proofs.Common.{◌≡◌, Option, None, refl, subst, arith}
use Rattle.fort_core.specs.declared.value.Value.{Value}
use Rattle.fort_machine.specs.Cells.{Cell, untouched, found, made, Fits}
use Rattle.fort_machine.proofs.Runs.{runs_fit}
use Rattle.fort_store_effects.specs.Levels.{effect_of}
use Rattle.fort_walk_stretch.specs.Goes.{LegStaysBelow}

-- a location that isn't there, and isn't made, is left alone
left_alone : (c : Cell) → Fits c None → ((v : Option Value) → c ≡ made v → ⊥) → c ≡ untouched
left_alone untouched f n = refl
left_alone (found r w) f n = absurd f
left_alone (made w) f n = absurd (n w refl)

pub leg_stays_below : LegStaysBelow
leg_stays_below p inner s t room x g none l high =
    let from = g.from in
    let cell = (effect_of x.done).cells l in
    let fits : Fits cell (s l) = runs_fit _ _ _ _ _ g.leg.runs l in
    let gone : s l ≡ None = none l (omega (arith, from, high)) in
    left_alone cell (subst (Fits cell) gone fits) (λ v made_there. let low = g.below l v made_there
    in omega (arith, low, high))
