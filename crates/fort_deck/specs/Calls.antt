-- What each call of a deck tells the party that makes it. The chapter "The deck" of
-- docs/THREADS.md.
use Rattle.std.specs.Prelude.{◌≡◌, ℕ, ◌+◌, ◌<◌, ◌≤◌, List, ◌++◌, length, sum_by, All}
use mathlib.Core.Option.{some}
use lib.ListN.{get_elem?}
use Rattle.fort_deck.specs.declared.job.Job.{Job}
use Rattle.fort_deck.specs.declared.view.View.{View}
use Rattle.fort_deck.specs.Thefts.{Theft, jobs_of, jobs_by}
use Rattle.fort_deck.specs.Views.{owning, robbing, left}
use Rattle.fort_deck.specs.Dealt.{Dealt}

-- The owner put jobs: they are the last of its stack.
abbrev pub Puts : View → List Job → View → Type 0
Puts v jobs w = w ≡ owning v (v.put ++ jobs) v.owned (v.stack ++ jobs)

-- The owner took jobs: they were the last of its stack.
abbrev pub Owns : View → List Job → View → Type 0
Owns v jobs w = (front : List Job) × (v.stack ≡ front ++ jobs)
    × (w ≡ owning v v.put (v.owned ++ jobs) front)

-- The deck was empty: all of the owner's stack was stolen, by thieves that it made.
abbrev pub AllStolen : View → Type 0
AllStolen v = (thefts : List Theft) × (v.stack ≡ jobs_of thefts)
    × All (λ t. t.by < v.thieves) thefts

-- A thief took jobs.
abbrev pub Steals : View → List Job → View → Type 0
Steals v jobs w = w ≡ robbing v jobs

-- The deck held one job or none: such a state of it agrees with what the thief knows.
pub record HadFew (v : View) : Type 0 where
  pub jobs : List Job
  pub few : length jobs ≤ 1
  pub views : List View
  pub dealt : Dealt jobs views
  pub id : ℕ
  pub at : get_elem? views id ≡ some v

-- All thieves are taken in: the stack is what they took and then what is left, each took the thefts
-- of its number, and what was put weighs what came out and what is left.
pub record Settles (v : View) : Type 0 where
  pub thefts : List Theft
  pub order : v.stack ≡ jobs_of thefts ++ left v
  pub hands : All (λ hand. hand.stolen ≡ jobs_by hand.number thefts) v.hands
  pub all : (weight : Job → ℕ)
      → sum_by weight v.put
      ≡ sum_by weight v.owned + sum_by (λ hand. sum_by weight hand.stolen) v.hands
      + sum_by weight (left v)

-- The owner took a job of those that are left, the last one.
abbrev pub Nexts : View → List Job → View → Type 0
Nexts v jobs w = (left v ≡ left w ++ jobs) × (w.out ≡ v.out)
