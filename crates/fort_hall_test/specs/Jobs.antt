-- Numbered jobs, and the row that the deck must give.
use Rattle.std.specs.Prelude.{ℕ, Some, None}
use Rattle.fort_base.specs.declared.ids.BookId.{BookId}
use Rattle.fort_base.specs.declared.ids.TaskId.{TaskId}
use Rattle.fort_deck.specs.declared.job.Job.{Job}
use Rattle.fort_hall_test.specs.declared.decked.Row.{Row}

-- the job with this number
abbrev pub job : ℕ → Job
job n = record { book = record { 0 = 0 }; task = record { 0 = n } }

-- the owner took one, the thief another, the third was left, and then none
abbrev pub row : ℕ → ℕ → ℕ → Row
row owned stolen left =
    record { owned = job owned; stolen = job stolen; left = Some (job left); end = None }
