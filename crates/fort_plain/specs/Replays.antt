-- Chapter "Journals": what a replay of a journal says. The code has the machine's own rows and
-- states, pick by pick; the definition takes the picks as they stand.
use Rattle.std.specs.Prelude.{◌≡◌, ℕ, ◌+◌, ◌<◌, ◌≤◌, List, length, take, ◌⊎◌}
use Rattle.fort_core.specs.declared.journal.Ending.{Ending}
use Rattle.fort_core.specs.declared.journal.Ending.TheVariants as ending
use Rattle.fort_core.specs.declared.journal.Journal.{Journal}
use Rattle.fort_core.specs.declared.pick.Pick.{Pick}
use Rattle.fort_core.specs.declared.program.Program.{Program}
use Rattle.fort_core.specs.declared.term.Term.{Term}
use Rattle.fort_machine.specs.Effects.{Effect}
use Rattle.fort_machine.specs.Acts.{unit}
use Rattle.fort_machine.specs.Journals.{IsRun, IsJournal}
use Rattle.fort_walk_law_course.specs.Ends.{HasRun}
use Rattle.fort_plain.specs.declared.journal.Replayed.{Replayed}
use Rattle.fort_plain.specs.declared.journal.Replayed.TheVariants as replayed
use Rattle.fort_plain.specs.declared.settled.Settled.{Settled}
use Rattle.fort_plain.specs.declared.settled.Settled.TheVariants as settled

-- Picks are a run of a program within a fuel; each location that it makes is below 2 to the 64.
pub record RunsWithin (p : Program) (fuel : ℕ) (picks : List Pick) : Type 0 where
  pub term : Term
  pub effect : Effect
  pub is_run : IsRun p picks term effect
  pub within_fuel : effect.cost ≤ fuel

-- A journal breaks at a number: so many of its picks are a run within its fuel, and with the next
-- one they are none; or they are all its picks, and its ending is wrong.
pub record BreaksAt (p : Program) (j : Journal) (n : ℕ) : Type 0 where
  pub before : RunsWithin p j.fuel (take n j.picks)
  pub cause : ((n < length j.picks) × (RunsWithin p j.fuel (take (n + 1) j.picks) → ⊥))
      ⊎ ((n ≡ length j.picks) × (IsJournal p j → ⊥))

-- A replay answers the run's output and cost, or where the journal breaks.
abbrev pub Replays : Program → Journal → Replayed → Type 0
Replays p j (replayed.Run output cost) = HasRun p j.fuel j.picks j.ending output cost
Replays p j (replayed.Broken n) = BreaksAt p j n

-- A journal that breaks is none of a run, so a replay that says `Broken` says it exactly where
-- there is no run.
abbrev pub BrokenIsNone : Type 0
BrokenIsNone = (p : Program) (j : Journal) (n : ℕ) → BreaksAt p j n → IsJournal p j → ⊥

-- How a term stands with which a run ends so: `()` where it is completed, the throw where that is
-- uncaught.
abbrev pub EndsSo : Settled → Ending → Type 0
EndsSo (settled.Value v) ending.Completed = v ≡ unit
EndsSo (settled.Throw v) (ending.Uncaught w) = v ≡ w
EndsSo s e = ⊥

-- An ending without a pick.
abbrev pub IsNoPick : Ending → Type 0
IsNoPick (ending.OutOfFuel pick) = ⊥
IsNoPick e = Unit {0}

-- A replay's answer behind all picks of a run within its fuel.
abbrev pub EndsAt : Program → ℕ → List Pick → Ending → ℕ → Replayed → Type 0
EndsAt p fuel picks e count (replayed.Run output cost) = HasRun p fuel picks e output cost
EndsAt p fuel picks e count (replayed.Broken n) = (n ≡ count)
    × (IsJournal p (record { fuel = fuel; picks = picks; ending = e }) → ⊥)
