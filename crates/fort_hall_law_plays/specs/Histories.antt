-- The chapter "Plays" of docs/THREADS.md: what a list of events gave to a book.
use Rattle.std.specs.Prelude.{ℕ, ◌==◌, Bool, false, ◌&&◌, if◌then◌else◌, List, [], ◌∷◌, ◌++◌, map}
use Rattle.fort_machine.specs.Effects.{Effect, both}
use Rattle.fort_machine.specs.Threads.{under}
use Rattle.fort_store_effects.specs.Levels.{effect_of}
use Rattle.fort_hall_books.specs.declared.book.Entry.{Entry}
use Rattle.fort_hall_books.specs.declared.leg.Leg.{Leg}
use Rattle.fort_hall_law_plays.specs.Offers.{is_taken}
use Rattle.fort_hall_law_plays.specs.Plays.{Event, submit, begin, finish, leave}

-- A leg that a book took in, and the pass that offered it.
pub record Given : Type 0 where
  pub leg : Leg
  pub pass : ℕ

-- It is one entry.
abbrev pub entry_of : Given → Entry
entry_of g = record { pass = g.pass; picks = map (under g.leg.path.0) g.leg.picks }

-- What was done by legs, one after the other, behind what was done before.
abbrev pub done_by : Effect → List Given → Effect
done_by d [] = d
done_by d (g ∷ gs) = done_by (both d (effect_of g.leg.done)) gs

-- The leg of an event, if the book of a number took it in.
abbrev pub given_by : ℕ → Event → List Given
given_by n (submit m leg pass outcome) =
    if is_taken outcome && (m == n) then record { leg = leg; pass = pass } ∷ [] else []
given_by n (begin opening fuel) = []
given_by n (finish k m leg pass outcome) =
    if is_taken outcome && (m == n) then record { leg = leg; pass = pass } ∷ [] else []
given_by n (leave k) = []

-- The legs that it took in, in the order of the events.
abbrev pub given : ℕ → List Event → List Given
given n [] = []
given n (event ∷ events) = given_by n event ++ given n events

-- Whether an event is an offer of a pass.
abbrev pub is_of : ℕ → Event → Bool
is_of pass (submit n leg by outcome) = by == pass
is_of pass (begin opening fuel) = false
is_of pass (finish k n leg by outcome) = by == pass
is_of pass (leave k) = false

-- The offers of a pass.
abbrev pub offers_of : ℕ → List Event → List Event
offers_of pass [] = []
offers_of pass (event ∷ events) =
    if is_of pass event then event ∷ offers_of pass events else offers_of pass events

-- The entries that name a pass.
abbrev pub entries_of : ℕ → List Entry → List Entry
entries_of pass [] = []
entries_of pass (e ∷ es) = if e.pass == pass then e ∷ entries_of pass es else entries_of pass es
