-- What the handles of a deck keep between two calls.
use Rattle.std.specs.Prelude.{◌≡◌, ℕ, ◌≤◌, true, List, [], length}
use Rattle.crossbeam_deque.specs.declared.handles.Worker.{Worker}
use Rattle.crossbeam_deque.specs.Handles.{Pass, view, worker_port, worker_flavor, worker_view, worker_capacity, worker_index}
use Rattle.fort_deck.specs.declared.job.Job.{Job}
use Rattle.fort_deck.specs.declared.view.Hand.{Hand}
use Rattle.fort_deck.specs.declared.view.View.{View}

module _ {A P : Type 0} where
  -- the deque's one owner, which takes at the end where it puts
  abbrev pub Rests : Worker Job A View P → Type 0
  Rests w = (worker_port w ≡ 0) × (worker_flavor w ≡ 1)

  -- an owner that has taken no thief in, and can put at least 64 jobs in all
  abbrev pub RestsOwner : Worker Job A View P → Type 0
  RestsOwner w = Rests w × (64 ≤ worker_capacity w) × (worker_index w ≤ length (worker_view w).put)
      × ((worker_view w).hands ≡ []) × ((worker_view w).out ≡ (worker_view w).thieves)

  -- an owner that has taken all its thieves in
  abbrev pub RestsAlone : Worker Job A View P → Type 0
  RestsAlone w = Rests w × ((worker_view w).out ≡ 0)

-- a thief's pass
abbrev pub IsThief : {A : Type 0} → Pass Job View A → Type 0
IsThief p = (view p).steals ≡ true

-- The same owner, with so many thieves out and with these taken in.
pub record TakesIn (v : View) (out : ℕ) (hands : List Hand) (w : View) : Type 0 where
  pub put_is : w.put ≡ v.put
  pub owned_is : w.owned ≡ v.owned
  pub stack_is : w.stack ≡ v.stack
  pub thieves_is : w.thieves ≡ v.thieves
  pub out_is : w.out ≡ out
  pub hands_is : w.hands ≡ hands
