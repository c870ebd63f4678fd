-- A step more of a leg.
use Rattle.std.proofs.Common.{◌≡◌, ℕ, ◌+◌, ◌<◌, ◌≤◌, ◌^◌, Bool, true, false, List, [], ◌∷◌, ◌++◌, length, Option, Some, None, refl, ap, sym, ◌∙◌, subst, arith}
use Rattle.std.specs.Prelude.{IsSome}
use Rattle.fort_core.specs.declared.pick.Pick.{Pick, Step}
use Rattle.fort_core.specs.declared.pick.Pick.TheVariants.{outs-Step}
use Rattle.fort_core.specs.declared.program.Program.{Program}
use Rattle.fort_core.specs.declared.term.Term.{Term}
use Rattle.fort_core.specs.declared.term.Term as term
use Rattle.fort_core.specs.declared.value.Value.{Value}
use Rattle.fort_machine.specs.Acts as acts
use Rattle.fort_machine.specs.Cells.{found, Fits}
use Rattle.fort_machine.specs.Effects.{Store, Effect, FitsAll, afterwards, both, printed, reading, writing, making}
use Rattle.fort_machine.specs.Journals.{MakesWithinBounds}
use Rattle.fort_machine.specs.Marked.{Bare}
use Rattle.fort_machine.specs.Runs.{location}
use Rattle.fort_machine.specs.Steps.{Acts, Local, steps, or_unit}
use Rattle.fort_machine.specs.Written.{WrittenProgram}
use Rattle.fort_machine.proofs.Effects.{made_in_row}
use Rattle.fort_machine.proofs.Plain.{makes_plainly}
use Rattle.fort_frames.specs.declared.place.Place.{Place}
use Rattle.fort_store_effects.specs.Calls.{AreFree}
use Rattle.fort_store_effects.specs.Levels.{effect_of}
use Rattle.fort_walk_law_course.specs.Picks.{Stage}
use Rattle.fort_walk_law_course.proofs.Picks.{step_is_pick}
use Rattle.fort_walk_law_course.proofs.Bounds.{both_bounded}
use Rattle.fort_walk_legs.specs.Legs.{AreSteps, IsInReach, IsStepOf}
use Rattle.fort_walk_legs.proofs.Legs.{steps_append}
use Rattle.fort_walk_stretch.specs.Goes.{MakesBelow}
use Rattle.fort_walk_stretch.specs.Stretches.{IsOn, IsPicked, MayTake}
use Rattle.fort_walk_stretch.specs.declared.leg.Room.{Room}
use Rattle.fort_walk_stretch.specs.declared.stretch.Stretch.{Stretch}
use Rattle.fort_walk_stretch.proofs.Within.{body_is_bare, both_below, none_made, one_fits}

-- what a step does beside: with which locations, in what room
pub record Adds (room : Room) (x : Stretch) (s : Store) (fresh : ℕ) (e : Effect) : Type 0 where
  pub fits : FitsAll e (afterwards (effect_of x.done) s)
  pub up : x.fresh ≤ fresh
  pub below : MakesBelow fresh e
  pub bounded : MakesWithinBounds e
  pub affords : (effect_of x.done).cost + e.cost ≤ room.cost

one_step : (place : Place) (loc : ℕ) → AreSteps (Step place.path (location loc) ∷ [])
one_step place loc = (subst IsStepOf (sym (outs-Step place.path (location loc))) tt, tt)

-- one step more
pub takes : (p : Program) (inner : Bool) (s : Store) (room : Room) (x mid y : Stretch)
    (place : Place) (loc : ℕ) (b : Term) (e : Effect)
    → MayTake p inner s room x place loc b e → Adds room x s mid.fresh e
    → effect_of mid.done ≡ both (effect_of x.done) e → mid.picks ≡ x.picks → mid.first ≡ x.first
    → mid.clock ≡ x.clock → IsPicked mid place loc y
    → IsOn p inner s room y place b × (y.first ≡ x.first)
takes p inner s room x mid y place loc b e m adds done picks first clock h =
    let on = m.on in
    let d = effect_of x.done in
    let rises : x.clock < y.clock = subst (λ n. n < y.clock) clock h.clock in
    let next : Stage p inner s (x.picks ++ Step place.path (location loc) ∷ []) x.first (both d e)
    y.clock place b =
    step_is_pick p inner s x.picks x.first d e x.clock y.clock loc place m.form b on.stage rises
    m.local adds.fits in
    let all_picks : x.picks ++ Step place.path (location loc) ∷ [] ≡ y.picks =
    sym (h.picks ∙ ap (λ ps. ps ++ Step place.path (location loc) ∷ []) picks) in
    let same_first : x.first ≡ y.first = sym (h.first ∙ first) in
    let effect : both d e ≡ effect_of y.done = sym (ap effect_of h.done ∙ done) in
    let below : MakesBelow y.fresh (both d e) =
    subst (λ n. MakesBelow n (both d e)) (sym h.fresh)
    (both_below x.fresh mid.fresh d e adds.up on.below adds.below) in (
      record {
        stage =
            subst (λ ps. Stage p inner s ps y.first (effect_of y.done) y.clock place b) all_picks
            (subst (λ t. Stage p inner s (x.picks ++ Step place.path (location loc) ∷ []) t
            (effect_of y.done) y.clock place b) same_first
            (subst (λ c. Stage p inner s (x.picks ++ Step place.path (location loc) ∷ []) x.first c
            y.clock place b) effect next));
        steps = subst AreSteps all_picks
            (steps_append x.picks (Step place.path (location loc) ∷ []) on.steps
            (one_step place loc));
        affords = subst (λ c. c.cost ≤ room.cost) effect adds.affords;
        bounded = subst MakesWithinBounds effect (both_bounded d e on.bounded adds.bounded);
        below = subst (MakesBelow y.fresh) effect below;
        from = let up = adds.up in let old = on.from in let same = h.fresh in
            omega (arith, up, old, same);
        reach = subst (IsInReach p inner s) same_first on.reach;
      },
      sym same_first,
    )

-- ---- which step it is

pub turns_on : (p : Program) (inner : Bool) (s : Store) (room : Room) (x : Stretch) (place : Place)
    (a next : Term) (output : List ℕ) (cost : ℕ) → IsOn p inner s room x place a
    → Acts p a (acts.turns next output cost)
    → MayTake p inner s room x place 0 next (printed output cost)
turns_on p inner s room x place a next output cost on h =
    record { form = a; on = on; local = steps (acts.turns next output cost) h (refl, refl, refl) }

pub enters_on : (p : Program) (inner : Bool) (s : Store) (room : Room) (x : Stretch)
    (place : Place) (a body next : Term) (text : List ℕ) → WrittenProgram p
    → IsOn p inner s room x place a → Acts p a (acts.enters body next) → text ≡ []
    → MayTake p inner s room x place 0 next (printed text 1)
enters_on p inner s room x place a body next text w on h none =
    let bare : Bare body = body_is_bare p inner s room x place a body next w on h in
    subst (λ o. MayTake p inner s room x place 0 next (printed o 1)) (sym none)
    (record { form = a; on = on; local = steps (acts.enters body next) h (bare, refl, refl, refl) })

pub asks_on : (p : Program) (inner : Bool) (s : Store) (room : Room) (x : Stretch) (place : Place)
    (a : Term) (l : ℕ) (next : Value → Term) (v : Value) (b : Term)
    → IsOn p inner s room x place a → Acts p a (acts.asks l next) → b ≡ next v
    → MayTake p inner s room x place 0 b (reading l v)
asks_on p inner s room x place a l next v b on h e =
    record { form = a; on = on; local = steps (acts.asks l next) h (v, refl, e, refl) }

pub sets_on : (p : Program) (inner : Bool) (s : Store) (room : Room) (x : Stretch) (place : Place)
    (a : Term) (l : ℕ) (v : Value) (b : Term) → IsOn p inner s room x place a
    → Acts p a (acts.sets l v) → b ≡ term.Value acts.unit
    → MayTake p inner s room x place 0 b (writing l v)
sets_on p inner s room x place a l v b on h e =
    record { form = a; on = on; local = steps (acts.sets l v) h (refl, e, refl) }

pub makes_on : (p : Program) (inner : Bool) (s : Store) (room : Room) (x : Stretch) (place : Place)
    (a : Term) (vs : List Value) (next : ℕ → Term) (cost : ℕ) → IsOn p inner s room x place a
    → Acts p a (acts.makes vs next cost)
    → MayTake p inner s room x place x.fresh (next x.fresh) (making x.fresh (or_unit vs) cost)
makes_on p inner s room x place a vs next cost on h =
    record { form = a; on = on; local = steps (acts.makes vs next cost) h (refl, refl) }

-- ---- what it does beside

pub prints_adds : (room : Room) (x : Stretch) (s : Store) (text : List ℕ) (cost : ℕ)
    → (effect_of x.done).cost + cost ≤ room.cost → Adds room x s x.fresh (printed text cost)
prints_adds room x s text cost k = record {
  fits = λ l. tt;
  up = omega arith;
  below = λ l v e. let q = e in cc;
  bounded = λ l v e. let q = e in cc;
  affords = k;
}

pub reads_adds : (room : Room) (x : Stretch) (s : Store) (l : ℕ) (v : Value)
    → afterwards (effect_of x.done) s l ≡ Some v → (effect_of x.done).cost + 1 ≤ room.cost
    → Adds room x s x.fresh (reading l v)
reads_adds room x s l v there k = record {
  fits = one_fits l (Some v) None (afterwards (effect_of x.done) s)
      (subst (Fits (found (Some v) None)) (sym there) refl);
  up = omega arith;
  below = λ i w e. absurd (none_made l (Some v) None w i e);
  bounded = λ i w e. absurd (none_made l (Some v) None w i e);
  affords = k;
}

found_there : (v : Value) (o : Option Value) → IsSome o → Fits (found None (Some v)) o
found_there v None h = let z : false ≡ true = h in cc
found_there v (Some w) h = tt

pub writes_adds : (room : Room) (x : Stretch) (s : Store) (l : ℕ) (v : Value)
    → IsSome (afterwards (effect_of x.done) s l) → (effect_of x.done).cost + 1 ≤ room.cost
    → Adds room x s x.fresh (writing l v)
writes_adds room x s l v there k = record {
  fits = one_fits l None (Some v) (afterwards (effect_of x.done) s)
      (found_there v (afterwards (effect_of x.done) s l) there);
  up = omega arith;
  below = λ i w e. absurd (none_made l None (Some v) w i e);
  bounded = λ i w e. absurd (none_made l None (Some v) w i e);
  affords = k;
}

pub makes_adds : (room : Room) (x : Stretch) (s : Store) (vs : List Value) (cost : ℕ)
    → AreFree x.fresh (length vs) (afterwards (effect_of x.done) s)
    → x.fresh + length vs ≤ 2 ^ 64 → (effect_of x.done).cost + cost ≤ room.cost
    → Adds room x s (x.fresh + length vs) (making x.fresh vs cost)
makes_adds room x s vs cost free bound k = record {
  fits = (makes_plainly x.fresh vs cost (afterwards (effect_of x.done) s)).0.1 free;
  up = omega arith;
  below = λ i w e. (made_in_row x.fresh vs i w e).1;
  bounded = λ i w e. let r = made_in_row x.fresh vs i w e in let high = r.1
      in omega (arith, bound, high);
  affords = k;
}
