-- Thefts: the jobs that thieves took from a deck, in the order in which they took them. The chapter
-- "The deck" of docs/THREADS.md.
use Rattle.std.specs.Prelude.{ℕ, ◌==◌, List, map}
use Rattle.std.specs.List.{filter}
use Rattle.fort_deck.specs.declared.job.Job.{Job}

-- A theft: the number of the thief, and the job that it took.
pub record Theft : Type 0 where
  pub by : ℕ
  pub job : Job

abbrev pub theft : ℕ → Job → Theft
theft n job = record { by = n; job = job }

-- the jobs that were stolen
abbrev pub jobs_of : List Theft → List Job
jobs_of thefts = map (λ t. t.job) thefts

-- the jobs that the thief n stole
abbrev pub jobs_by : ℕ → List Theft → List Job
jobs_by n thefts = jobs_of (filter (λ t. t.by == n) thefts)
