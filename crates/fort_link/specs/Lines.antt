-- The chapter "Components and APIs": the lines of files. The code counts line feeds.
use Rattle.std.specs.Prelude.{ℕ, ◌+◌, ◌-◌, ◌==◌, List, map, count_by, sum}
use Rattle.fort_base.specs.declared.refusal.Place.{Place}

-- the lines of a file, one more than its line feeds
abbrev pub lines : List ℕ → ℕ
lines file = 1 + count_by (λ b. b == 10) file

-- the lines of files together
abbrev pub all_lines : List (List ℕ) → ℕ
all_lines files = sum (map lines files)

-- a place behind so many lines, these taken off
abbrev pub taken_off : ℕ → Place → Place
taken_off before place = record { line = place.line - before; column = place.column }
