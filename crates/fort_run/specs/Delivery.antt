-- What came out of both outputs. It restates the chapter "Statuses and notes" of docs/LANGUAGE.md.
use Rattle.std.specs.Prelude.{◌≡◌, ℕ, List}
use Rattle.fort_port_output.specs.Written.{Change, Takes, Fails, TakesOrFails}
use Rattle.fort_diag.specs.Notes.{write_fault}

-- A text and a note are delivered with this status: whole, with the status that was meant; or an
-- output failed, with 4. Where standard output failed, the note says so as far as it came.
pub data Delivers (meant : ℕ) (text note : List ℕ) (out notes : Change) (status : ℕ) : Type 0 where
  Whole : Takes out text → Takes notes note → status ≡ meant
      → Delivers meant text note out notes status
  OutFailed : Fails out text → TakesOrFails notes write_fault → status ≡ 4
      → Delivers meant text note out notes status
  NotesFailed : Takes out text → Fails notes note → status ≡ 4
      → Delivers meant text note out notes status
