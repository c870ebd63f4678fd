-- Lines of a book.
use Rattle.std.specs.Prelude.{ℕ, zero, suc, List, [], ◌∷◌, ◌++◌}
use Rattle.fort_hall_test.specs.declared.book.Line.{Line}

-- the line of this pass with this value
abbrev pub line : ℕ → ℕ → Line
line pass value = record { pass = pass; value = value }

-- the first lines of this pass, which count from 0
abbrev pub lines : ℕ → ℕ → List Line
lines pass zero = []
lines pass (suc k) = lines pass k ++ line pass k ∷ []
