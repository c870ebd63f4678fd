-- Why a file isn't read whole, and what of it is. It restates the chapter "Statuses and notes" of
-- docs/LANGUAGE.md.
use Rattle.std.specs.Prelude.{◌≡◌, ℕ, ◌<◌, List, [], ◌++◌, length}
use Rattle.fort_port.specs.Outside.{Holding, Untold, Absent, Held, Rose}
use Rattle.fort_cmd.specs.declared.command.Command.{Command}
use Rattle.fort_run.specs.Reply.{AreTooLarge, IsFile, IsText, file_limit}
use Rattle.fort_run.specs.declared.file.Unread.{Unread}
use Rattle.fort_run.specs.declared.file.Unread.TheVariants as an_unread

-- The shelf failed and its count rose; or the file goes on behind a limit; or memory was wanting.
abbrev pub Stops : ℕ → Holding → ℕ → ℕ → Unread → Type 0
Stops limit holding before after an_unread.Failed = Rose before after
Stops limit holding before after an_unread.TooLarge = (after ≡ before)
    × ((file : List ℕ) × IsFile holding file × (limit < length file))
Stops limit holding before after an_unread.Memory = Unit {0}

-- These bytes are a front of the file, where the shelf tells it; of a name that it hasn't nothing
-- is read.
abbrev pub IsFrontOf : Holding → List ℕ → Type 0
IsFrontOf Untold bytes = Unit {0}
IsFrontOf Absent bytes = bytes ≡ []
IsFrontOf (Held file) bytes = (rest : List ℕ) × (file ≡ bytes ++ rest)

-- Why there is no text that a command is about: the same, of its text.
abbrev pub StopsAt : (List ℕ → Holding) → Command → ℕ → ℕ → Unread → Type 0
StopsAt holding command before after an_unread.Failed = Rose before after
StopsAt holding command before after an_unread.TooLarge = (after ≡ before)
    × ((text : List ℕ) × IsText holding command text × (file_limit < length text))
StopsAt holding command before after an_unread.Memory = Unit {0}

-- Why files aren't all read: the same, of the first of them together.
abbrev pub StopsAmong : (List ℕ → Holding) → List (List ℕ) → ℕ → ℕ → Unread → Type 0
StopsAmong holding names before after an_unread.Failed = Rose before after
StopsAmong holding names before after an_unread.TooLarge =
    (after ≡ before) × AreTooLarge holding names
StopsAmong holding names before after an_unread.Memory = Unit {0}

-- A text is larger than a file may be; or memory was wanting.
abbrev pub IsTooLarge : List ℕ → Unread → Type 0
IsTooLarge text an_unread.Failed = ⊥
IsTooLarge text an_unread.TooLarge = file_limit < length text
IsTooLarge text an_unread.Memory = Unit {0}
