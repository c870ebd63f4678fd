-- The rule of the deque under a deck: which jobs it holds, and what each party knows. The chapter
-- "The deck" of docs/THREADS.md.
use Rattle.std.specs.Prelude.{◌≡◌, ℕ, ◌+◌, ◌<◌, true, false, List, [], ◌++◌, sum_by, All, if◌then◌else◌}
use mathlib.Core.Option.{some}
use lib.ListN.{get_elem?}
use Rattle.fort_deck.specs.declared.job.Job.{Job}
use Rattle.fort_deck.specs.declared.view.Hand.{Hand}
use Rattle.fort_deck.specs.declared.view.View.{View}
use Rattle.fort_deck.specs.Thefts.{Theft, jobs_of, jobs_by}

-- 1 for a thief that is still out, and 0 for any other party
abbrev pub is_out : View → ℕ
is_out v = if v.steals then 1 else 0

-- What is known of the party j: a thief's number is its own and was given out, and it knows its
-- thefts; no other party has stolen.
pub record Fits (thefts : List Theft) (seat : ℕ → ℕ) (thieves : ℕ) (j : ℕ) (v : View) : Type 0 where
  pub thief : v.steals ≡ true
      → (seat v.number ≡ j) × (v.number < thieves) × (v.stolen ≡ jobs_by v.number thefts)
  pub idle : v.steals ≡ false → v.stolen ≡ []

-- What is known of a thief that was taken in: its number is the owner's now, and its thefts are
-- known.
pub record IsHand (thefts : List Theft) (seat : ℕ → ℕ) (thieves : ℕ) (hand : Hand) : Type 0 where
  pub seat_is : seat hand.number ≡ 0
  pub given : hand.number < thieves
  pub stolen : hand.stolen ≡ jobs_by hand.number thefts

-- The deck holds these jobs, and this is what its owner knows: the owner's stack is what was stolen
-- and then what the deck holds.
pub record Holds (owner : View) (jobs : List Job) (views : List View) : Type 0 where
  pub thefts : List Theft
  pub seat : ℕ → ℕ
  pub first : get_elem? views 0 ≡ some owner
  pub plain : owner.steals ≡ false
  pub stack_is : owner.stack ≡ jobs_of thefts ++ jobs
  pub balance : (weight : Job → ℕ)
      → sum_by weight owner.put ≡ sum_by weight owner.owned + sum_by weight owner.stack
  pub stolen : (weight : Job → ℕ)
      → sum_by weight (jobs_of thefts)
      ≡ sum_by (λ hand. sum_by weight hand.stolen) owner.hands
      + sum_by (λ v. sum_by weight v.stolen) views
  pub out_is : sum_by is_out views ≡ owner.out
  pub given : All (λ t. t.by < owner.thieves) thefts
  pub each : (j : ℕ) (v : View) → get_elem? views j ≡ some v → Fits thefts seat owner.thieves j v
  pub hands : All (IsHand thefts seat owner.thieves) owner.hands

-- The rule: the deck holds these jobs, whatever its owner knows.
abbrev pub Dealt : List Job → List View → Type 0
Dealt jobs views = (owner : View) × Holds owner jobs views
