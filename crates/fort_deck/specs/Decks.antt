-- Decks, owners, thieves and rests, as clauses speak of them. The chapter "The deck" of
-- docs/THREADS.md.
use Rattle.std.specs.Prelude.{◌≡◌, ℕ, List, map}
use Rattle.crossbeam_deque.specs.Handles.{view, taken, IsPassOf, worker_deque, stealer_deque, worker_view}
use Rattle.fort_deck.specs.declared.job.Job.{Job}
use Rattle.fort_deck.specs.declared.view.Hand.{Hand}
use Rattle.fort_deck.specs.declared.held.Deck.{Deck}
use Rattle.fort_deck.specs.declared.held.Owner.{Owner}
use Rattle.fort_deck.specs.declared.held.Thief.{Thief}
use Rattle.fort_deck.specs.declared.held.Rest.{Rest}
use Rattle.fort_deck.specs.Views.{hand_of_view, left}
use Rattle.fort_deck.specs.Calls.{AllStolen, HadFew}

-- the owner, or a thief, of this deck
abbrev pub IsOwnerOf : Deck → Owner → Type 0
IsOwnerOf deck owner = worker_deque owner.worker ≡ stealer_deque deck.handle

abbrev pub IsThiefOf : Deck → Thief → Type 0
IsThiefOf deck thief = IsPassOf (stealer_deque deck.handle) thief.pass

-- the jobs that the owner put, in order
abbrev pub put_by : Owner → List Job
put_by owner = (worker_view owner.worker).put

-- the jobs that the owner took, in order
abbrev pub owned_by : Owner → List Job
owned_by owner = (worker_view owner.worker).owned

-- the jobs that the owner put and didn't take, in the order in which it put them
abbrev pub stack_of : Owner → List Job
stack_of owner = (worker_view owner.worker).stack

-- how many thieves the owner made; they are numbered from 0
abbrev pub thieves_of : Owner → ℕ
thieves_of owner = (worker_view owner.worker).thieves

-- the owner has put, taken and left the same jobs
abbrev pub SameJobs : Owner → Owner → Type 0
SameJobs old new = (put_by new ≡ put_by old) × (owned_by new ≡ owned_by old)
    × (stack_of new ≡ stack_of old)

-- The deck may be empty: all of the owner's stack may have been stolen, by thieves that it made.
-- Without thieves its stack is empty.
abbrev pub MayBeEmpty : Owner → Type 0
MayBeEmpty owner = AllStolen (worker_view owner.worker)

-- the number of a thief
abbrev pub number_of : Thief → ℕ
number_of thief = (view thief.pass).number

-- the jobs that the thief took, in order
abbrev pub stolen_by : Thief → List Job
stolen_by thief = (view thief.pass).stolen

-- how many jobs the thief knows to be gone at its end, whoever took them
abbrev pub known_gone : Thief → ℕ
known_gone thief = taken thief.pass

-- The deck may hold one job or none: such a state of it agrees with what the thief knows.
abbrev pub MayHoldOne : Thief → Type 0
MayHoldOne thief = HadFew (view thief.pass)

-- what each thief took
abbrev pub hands_of : List Thief → List Hand
hands_of thieves = map (λ thief. hand_of_view (view thief.pass)) thieves

-- the jobs that are left
abbrev pub left_of : Rest → List Job
left_of rest = left (worker_view rest.worker)
