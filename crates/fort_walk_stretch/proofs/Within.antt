-- Where a leg stands in a run, and what is there.
use Rattle.std.proofs.Common.{◌≡◌, ℕ, ◌≤◌, ◌==◌, if◌then◌else◌, Bool, true, false, ◌++◌, Option, refl, ap, sym, ◌∙◌, subst, arith, rules, ◌⊎◌, inl, inr}
use Rattle.fort_core.specs.declared.program.Program.{Program}
use Rattle.fort_core.specs.declared.term.Term.{Term}
use Rattle.fort_core.specs.declared.value.Value.{Value}
use Rattle.fort_machine.specs.Acts.{enters}
use Rattle.fort_machine.specs.Attempts.{Ready}
use Rattle.fort_machine.specs.Cells.{Cell, untouched, found, made, joined, Fits}
use Rattle.fort_machine.specs.Effects.{Store, Effect, afterwards, both, only_at}
use Rattle.fort_machine.specs.Frames.{plug}
use Rattle.fort_machine.specs.Marked.{Bare}
use Rattle.fort_machine.specs.Steps.{Acts}
use Rattle.fort_machine.specs.Written.{WrittenProgram}
use Rattle.fort_machine.proofs.Places.{ready_open}
use Rattle.fort_machine.proofs.ProperRuns.{enters_bare}
use Rattle.fort_machine.proofs.Runs.{plug_append}
use Rattle.fort_frames.specs.Frames.{frames, outward, rebuilt}
use Rattle.fort_frames.specs.declared.place.Place.{Place}
use Rattle.fort_frames.proofs.Same.{same_term}
use Rattle.fort_store_effects.specs.Levels.{effect_of}
use Rattle.fort_step_acting.specs.Only.{CallsRun}
use Rattle.fort_step_acting.proofs.Calling.{one_runs}
use Rattle.fort_walk_legs.specs.Legs.{IsLeg, StandsInRun}
use Rattle.fort_walk_stretch.specs.Goes.{MakesBelow}
use Rattle.fort_walk_stretch.specs.Stretches.{IsOn}
use Rattle.fort_walk_stretch.specs.declared.leg.Room.{Room}
use Rattle.fort_walk_stretch.specs.declared.stretch.Stretch.{Stretch}

-- the steps so far are a leg
pub leg_so_far : (p : Program) (inner : Bool) (s : Store) (room : Room) (x : Stretch)
    (place : Place) (a : Term) → IsOn p inner s room x place a
    → IsLeg p inner s x.first x.picks (rebuilt x.clock (frames place.stack) a) (effect_of x.done)
leg_so_far p inner s room x place a h = record { runs = h.stage.runs; steps = h.steps }

abbrev pub stands : (p : Program) (inner : Bool) (s : Store) (room : Room) (x : Stretch)
    (place : Place) (a : Term) → IsOn p inner s room x place a
    → StandsInRun p inner (afterwards (effect_of x.done) s)
    (rebuilt x.clock (frames place.stack) a)
stands p inner s room x place a h =
    h.reach x.picks (rebuilt x.clock (frames place.stack) a) (effect_of x.done)
    (leg_so_far p inner s room x place a h)

-- the whole term round a form at a place
whole_is : (p : Program) (inner : Bool) (s : Store) (room : Room) (x : Stretch) (place : Place)
    (a : Term) (h : IsOn p inner s room x place a)
    → plug (stands p inner s room x place a h).frames (rebuilt x.clock (frames place.stack) a)
    ≡ plug ((stands p inner s room x place a h).frames ++ outward x.clock (frames place.stack)) a
whole_is p inner s room x place a h =
    let fs = (stands p inner s room x place a h).frames in
    ap (plug fs) (same_term x.clock (frames place.stack) a)
    ∙ sym (plug_append fs (outward x.clock (frames place.stack)) a)

-- a call of a thread's form runs a declaration
pub calls_run : (p : Program) (inner : Bool) (s : Store) (room : Room) (x : Stretch) (place : Place)
    (a : Term) → IsOn p inner s room x place a → Ready a → CallsRun p a
calls_run p inner s room x place a h ready =
    let w = stands p inner s room x place a h in
    one_runs p (w.frames ++ outward x.clock (frames place.stack)) a
    (plug w.frames (rebuilt x.clock (frames place.stack) a)) w.one
    (whole_is p inner s room x place a h) (ready_open a ready)

-- no form sleeps in a body that is run next
pub body_is_bare : (p : Program) (inner : Bool) (s : Store) (room : Room) (x : Stretch)
    (place : Place) (a body next : Term) → WrittenProgram p → IsOn p inner s room x place a
    → Acts p a (enters body next) → Bare body
body_is_bare p inner s room x place a body next written h acts =
    let w = stands p inner s room x place a h in
    (enters_bare p written inner (afterwards (effect_of x.done) s)
    (plug w.frames (rebuilt x.clock (frames place.stack) a)) w.reached
    (w.frames ++ outward x.clock (frames place.stack)) a (whole_is p inner s room x place a h)).0
    body next acts

-- ---- locations

-- what two cells make together, one of them makes
joined_made : (c e : Cell) (v : Option Value) → joined c e ≡ made v
    → ((w : Option Value) × (c ≡ made w)) ⊎ ((w : Option Value) × (e ≡ made w))
joined_made untouched e v q = inr (v, q)
joined_made (found r w) untouched v q = absurd cc
joined_made (found r w) (found s x) v q = absurd cc
joined_made (found r w) (made x) v q = inr (x, refl)
joined_made (made w) e v q = inl (w, refl)

pub both_below : (n m : ℕ) (d e : Effect) → n ≤ m → MakesBelow n d → MakesBelow m e
    → MakesBelow m (both d e)
both_below n m d e up f g l v h =
    elim (joined_made (d.cells l) (e.cells l) v h) [
      | inl k ↦ (let low = f l k.0 k.1 in omega (arith, up, low))
      | inr k ↦ g l k.0 k.1
    ]

-- what is read or written isn't made
pub none_made : (l : ℕ) (r w v : Option Value) (k : ℕ) → only_at l (found r w) k ≡ made v → ⊥
none_made l r w v k e = go (l == k) e
  where
    go : (b : Bool) → (if b then found r w else untouched) ≡ made v → ⊥
    go true q = cc
    go false q = cc

-- ---- what steps ask of a store

pub one_fits : (l : ℕ) (r w : Option Value) (s : Store) → Fits (found r w) (s l) → (k : ℕ)
    → Fits (only_at l (found r w) k) (s k)
one_fits l r w s f k = go (l == k) refl
  where
    go : (b : Bool) → (l == k) ≡ b → Fits (if b then found r w else untouched) (s k)
    go true q = let same : l ≡ k = search (rules, q) in subst (λ i. Fits (found r w) (s i)) same f
    go false q = tt
