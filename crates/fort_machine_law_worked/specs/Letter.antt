-- Chapter "Worked runs": run 1, of `run(): () = println("a")`, with a changed pick. Nothing in the
-- code is like it.
use Rattle.std.specs.Prelude.{ℕ, List, [], ◌∷◌}
use Rattle.fort_core.specs.declared.journal.Ending.{Ending}
use Rattle.fort_core.specs.declared.pick.Pick.{Pick}
use Rattle.fort_machine.specs.Journals.{IsJournal}
use Rattle.fort_machine.specs.Worked.{hello}
use Rattle.fort_machine_law_worked.specs.Picks.{step_at}

-- The picks of the run but for the second one, which is part 0.
abbrev pub second_in_part : List Pick
second_in_part = step_at [] ∷ step_at (0 ∷ []) ∷ []

-- Those picks are those of no run of that program, whatever the fuel and the ending: the text is
-- part 0 of the call, and a value is no thread.
abbrev pub ValueIsNoThread : Type 0
ValueIsNoThread = (fuel : ℕ) (ending : Ending)
    → IsJournal hello (record { fuel = fuel; picks = second_in_part; ending = ending }) → ⊥
