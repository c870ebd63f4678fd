-- Files and outputs in memory. It restates the chapter "The outside" of docs/LANGUAGE.md.
-- The code looks names up one by one, and keeps what is written in memory taken beforehand.
use Rattle.std.specs.Prelude.{ℕ, List, [], ◌∷◌, if◌then◌else◌}
use Rattle.std.specs.Str.{bytes_eq}
use Rattle.fort_port.specs.Outside.{Holding, Absent, Held}

-- The bytes under a name: those of the first file that has it.
abbrev pub found : List (List ℕ × List ℕ) → List ℕ → Holding
found [] name = Absent
found (file ∷ files) name = if bytes_eq file.0 name then Held file.1 else found files name

-- An output in memory: what was written, the room in all, the most that one call takes, the numbers
-- of the calls that are to fail, the number of calls and of faults so far.
pub record Output : Type 0 where
  pub bytes : List ℕ
  pub room : ℕ
  pub most : ℕ
  pub fails : List ℕ
  pub calls : ℕ
  pub faults : ℕ

-- An output in memory of which no call is to fail.
pub record CalmOutput : Type 0 where
  pub bytes : List ℕ
  pub room : ℕ
  pub most : ℕ
  pub faults : ℕ
