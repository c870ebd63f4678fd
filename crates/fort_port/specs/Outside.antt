-- What shelves and sinks mean. It restates the chapter "The outside" of docs/LANGUAGE.md. The code
-- reads and writes in pieces; the words below speak of whole files and of all that was written.
use Rattle.std.specs.Prelude.{◌≡◌, ℕ, ◌<◌, ◌≤◌, List, [], ◌++◌, length, drop, Option, option_map, ◌⊎◌}

-- What a shelf tells of a name: nothing, that it hasn't the name, or the file's bytes.
pub data Holding : Type 0 where
  Untold : Holding
  Absent : Holding
  Held : List ℕ → Holding

-- A piece read from byte `at` on, into so much room: the file goes on with just these bytes there,
-- and no bytes for some room say that it ends there or before. A name that isn't there gives none.
abbrev pub Gives : Holding → ℕ → List ℕ → ℕ → Type 0
Gives Untold at piece room = Unit {0}
Gives Absent at piece room = ⊥
Gives (Held file) at piece room = ((rest : List ℕ) × (drop at file ≡ piece ++ rest))
    × (0 < room → piece ≡ [] → length file ≤ at)

-- A count of faults rose in a call: it is greater after it than before, or stands at its type's
-- end.
abbrev pub Rose : ℕ → ℕ → Type 0
Rose before after = (before < after) ⊎ (after ≡ 18446744073709551615)

-- What is written once these bytes came, where it is told.
abbrev pub adds : List ℕ → Option (List ℕ) → Option (List ℕ)
adds bytes before = option_map (λ held. held ++ bytes) before
