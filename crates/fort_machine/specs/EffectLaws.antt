-- Chapter "Store and effects": what holds of effects, and of single steps and attempts.
use Rattle.std.specs.Prelude.{◌≡◌, ℕ, ◌+◌, ◌<◌, ◌≤◌, Bool, true, List, [], length, slice_get, Option, Some, None}
use Rattle.fort_core.specs.declared.form.Mode.{Mode}
use Rattle.fort_core.specs.declared.pick.Pick.{Pick}
use Rattle.fort_core.specs.declared.program.Program.{Program}
use Rattle.fort_core.specs.declared.term.Term.{Term}
use Rattle.fort_core.specs.declared.term.Term as term
use Rattle.fort_core.specs.declared.value.Value.{Value}
use Rattle.fort_machine.specs.Cells.{made}
use Rattle.fort_machine.specs.Effects.{Store, Effect, idle, both, FitsAll, MeetsAll, afterwards}
use Rattle.fort_machine.specs.Steps.{Local}
use Rattle.fort_machine.specs.Attempts.{Ended, aborts, Closes}
use Rattle.fort_machine.specs.Runs.{Runs}

-- Stretches join in any grouping, and what does nothing adds nothing.
abbrev pub EffectsJoin : Type 0
EffectsJoin = ((c d e : Effect) → both (both c d) e ≡ both c (both d e))
    × ((d : Effect) → both idle d ≡ d) × ((d : Effect) → both d idle ≡ d)

-- Where one stretch suits a store, and a second one what it leaves, both together suit the store,
-- and leave what the second leaves.
abbrev pub EffectsFollow : Type 0
EffectsFollow = (d e : Effect) (s : Store) → FitsAll d s → FitsAll e (afterwards d s)
    → FitsAll (both d e) s × (afterwards (both d e) s ≡ afterwards e (afterwards d s))

-- Two stretches that meet may be taken apart again.
abbrev pub EffectsPart : Type 0
EffectsPart = (d e : Effect) (s : Store) → MeetsAll d e → FitsAll (both d e) s
    → FitsAll d s × FitsAll e (afterwards d s)

-- What a step makes: consecutive locations from its pick's on, with these values, none of them in a
-- store that it suits; a step that makes none has 0.
pub record MakesInARow (loc : ℕ) (d : Effect) : Type 0 where
  pub values : List Value
  pub in_a_row : (l : ℕ) (w : Option Value) → d.cells l ≡ made w
      → (loc ≤ l) × (l < loc + length values)
  pub all_made : (n : ℕ) (v : Value) → slice_get values n ≡ Some v
      → d.cells (loc + n) ≡ made (Some v)
  pub none_there : (s : Store) → FitsAll d s → (n : ℕ) (v : Value) → slice_get values n ≡ Some v
      → s (loc + n) ≡ None
  pub zero_for_none : values ≡ [] → loc ≡ 0

-- A step that makes locations makes consecutive ones from its pick's on, that the store lacked.
abbrev pub StepsMakeInARow : Type 0
StepsMakeInARow = (p : Program) (inner : Bool) (loc : ℕ) (a b : Term) (d : Effect)
    → Local p inner loc a b d → MakesInARow loc d

-- An attempt that doesn't complete leaves every older location as it was.
abbrev pub GivesBack : Type 0
GivesBack = (p : Program) (m : Mode) (s : Store) (within : List Pick) (body : Term) (r : Ended)
    (d : Effect) (b : Term) (e : Effect)
    → Runs p true true s within body r d → Closes p m body r d b e
    → ((v : Value) → b ≡ term.Value v → ⊥)
    → (l : ℕ) (w : Value) → s l ≡ Some w → afterwards e s l ≡ Some w

-- An aborted attempt leaves the store as it was, and prints nothing.
abbrev pub AbortUndoes : Type 0
AbortUndoes = (p : Program) (m : Mode) (s : Store) (within : List Pick) (body : Term) (d : Effect)
    (b : Term) (e : Effect)
    → Runs p true true s within body aborts d → Closes p m body aborts d b e
    → (afterwards e s ≡ s) × (e.output ≡ [])
