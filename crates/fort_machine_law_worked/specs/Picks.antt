-- Chapter "Worked runs": a pick as the runs there write it, by its path alone.
use Rattle.std.specs.Prelude.{ℕ, List}
use Rattle.fort_core.specs.declared.pick.Pick.{Pick, Step}
use Rattle.fort_machine.specs.Runs.{location}

-- A step of the thread at a path, which makes no location.
abbrev pub step_at : List ℕ → Pick
step_at path = Step (record { 0 = path }) (location 0)
