-- What a pass wrote into a book of lines.
use Rattle.std.specs.Prelude.{◌≡◌, ℕ, List, [], ◌∷◌, Option, false}
use Rattle.fort_turn.specs.declared.held.Pass.{Pass}
use Rattle.fort_turn.specs.Book.{entries_by, log_of}
use Rattle.fort_turn.specs.Passes.{seen_by, number_of, numbers_of, is_first}
use Rattle.fort_hall_test.specs.declared.book.Line.{Line}
use Rattle.fort_hall_test.specs.declared.book.Book.{Book}

abbrev pub history_of : Book → List Line
history_of b = b.lines.items

-- the lines of the pass n in what was seen
abbrev pub lines_in : ℕ → Option Book → List Line
lines_in n seen = entries_by (λ l. l.pass) n (log_of history_of seen)

-- the lines of a pass in what it has seen
abbrev pub lines_of : Pass Book → List Line
lines_of p = lines_in (number_of p) (seen_by p)

-- a pass with this number and no other, which has written these lines
abbrev pub HasWritten : Pass Book → ℕ → List Line → Type 0
HasWritten p n lines = (number_of p ≡ n) × (numbers_of p ≡ n ∷ []) × (is_first p ≡ false)
    × (lines_of p ≡ lines)
