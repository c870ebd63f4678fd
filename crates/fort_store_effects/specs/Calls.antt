-- Chapter "Store and effects": what calls on layers do.
use Rattle.std.specs.Prelude.{◌≡◌, ℕ, ◌+◌, ◌<◌, Bool, true, false, List, [], ◌∷◌, ◌++◌, Option, Some, None}
use Rattle.fort_core.specs.declared.value.Value.{Value}
use Rattle.fort_machine.specs.Cells as machine
use Rattle.fort_machine.specs.Cells.{found, made, joined, Fits}
use Rattle.fort_machine.specs.Effects.{Store, Effect, FitsAll, only_at, reading, writing}
use Rattle.fort_machine.specs.Marked.{Marks}
use Rattle.fort_machine.specs.Plain.{put}
use Rattle.fort_machine.specs.Attempts.{AreRead, Rising}
use Rattle.fort_store_effects.specs.Cells.{cell}
use Rattle.fort_store_effects.specs.Levels.{Levels, seen, added}
use Rattle.fort_store_effects.specs.declared.cell.Cell.{Cell}

-- The innermost machine does something on the store that it sees: the store suits it, and nothing
-- else is done.
pub record Adds (d : Effect) (old new : Levels) : Type 0 where
  pub fits : FitsAll d (seen old)
  pub is_new : new ≡ added d old

-- A location is read: its value, or none where it isn't there, and then nothing is done.
abbrev pub Reads : ℕ → Levels → Levels → Option Value → Type 0
Reads l old new None = (seen old l ≡ None) × (new ≡ old)
Reads l old new (Some v) = (seen old l ≡ Some v) × Adds (reading l v) old new

-- A location is written, or it isn't there, and then nothing is done.
abbrev pub Writes : ℕ → Value → Levels → Levels → Bool → Type 0
Writes l v old new true = Adds (writing l v) old new
Writes l v old new false = (seen old l ≡ None) × (new ≡ old)

-- A store has none of so many consecutive locations, the first of a number.
abbrev pub AreFree : ℕ → ℕ → Store → Type 0
AreFree l count s = (n : ℕ) → n < count → s (l + n) ≡ None

-- A value is put at a location of a store, where there is one to put.
abbrev pub PutAt : ℕ → Option Value → Store → Store → Type 0
PutAt l None old new = new ≡ old
PutAt l (Some v) old new = new ≡ put l v old

-- A location of an attempt is made with a value, where there is one.
abbrev pub MadeAt : ℕ → Option Value → (ℕ → machine.Cell) → (ℕ → machine.Cell) → Type 0
MadeAt l None old new = new ≡ old
MadeAt l (Some v) old new = new ≡ (λ k. joined (old k) (only_at l (made (Some v)) k))

-- The mark of a location by its cell: with the value that was read, if one was.
abbrev pub mark_of : ℕ → machine.Cell → Marks
mark_of l (found (Some v) now) = (record { 0 = l }, v) ∷ []
mark_of l _ = []

-- The marks of cells, in their order.
abbrev pub reads_of : List (ℕ × Cell) → Marks
reads_of [] = []
reads_of (e ∷ es) = mark_of e.0 (cell e.1) ++ reads_of es

-- Marks with that of one location more.
abbrev pub MarksAdded : Marks → ℕ → Cell → Marks → Type 0
MarksAdded old l c new = new ≡ old ++ mark_of l (cell c)

-- Marks with that of one of several cells more, where there is one.
abbrev pub MarksNoted : Marks → Option (ℕ × Cell) → Marks → Type 0
MarksNoted old None new = new ≡ old
MarksNoted old (Some e) new = MarksAdded old e.0 e.1 new

-- Marks are what the innermost of attempts read, in rising order.
abbrev pub AreMarks : Marks → List Effect → Type 0
AreMarks marks [] = ⊥
AreMarks marks (e ∷ es) = AreRead marks e × Rising marks

-- A store suits one of several cells, where there is one.
abbrev pub SuitsAt : Option (ℕ × Cell) → Store → Type 0
SuitsAt None s = Unit {0}
SuitsAt (Some e) s = Fits (cell e.1) (s e.0)
