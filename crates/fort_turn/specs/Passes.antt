-- Passes, as clauses speak of them. Who calls the turn hands these words on and doesn't look
-- inside.
use Rattle.std.specs.Prelude.{◌≡◌, ℕ, ◌<◌, Bool, true, List, [], ◌∷◌, Option, Some, None}
use Rattle.fort_turn.specs.declared.view.Stage.TheVariants.{Idle, Waiting, Holding}
use Rattle.fort_turn.specs.declared.held.Pass.{Pass}
use Rattle.fort_turn.specs.declared.held.Turn.{Turn}
use Rattle.fort_turn.specs.Book.{has}

module _ {B : Type 0} where
  -- the number of the pass
  abbrev pub number_of : Pass B → ℕ
  number_of p = p.number

  -- its own number, and those of the passes that it took in
  abbrev pub numbers_of : Pass B → List ℕ
  numbers_of p = p.seat.me.0.numbers

  -- the last book that it saw
  abbrev pub seen_by : Pass B → Option B
  seen_by p = p.seat.me.0.seen

  -- whether it is the pass that `new` gave
  abbrev pub is_first : Pass B → Bool
  is_first p = p.seat.me.0.root

  -- of the first pass: how many passes there have been, itself counted
  abbrev pub made_by : Pass B → ℕ
  made_by p = p.made

  -- a pass of this turn
  pub record IsOf (t : Turn B) (p : Pass B) : Type 0 where
    pub table : p.seat.table_id ≡ t.table.shared.table_id
    pub number : p.seat.me.0.number ≡ p.number
    pub made : p.seat.me.0.made ≡ p.made
    pub named : has p.number (numbers_of p) ≡ true

  -- a pass of this turn that holds nothing
  abbrev pub IsIdle : Turn B → Pass B → Type 0
  IsIdle t p = IsOf t p × (p.seat.me.0.stage ≡ Idle) × (p.seat.me.1 ≡ [])

  -- a pass of this turn that has drawn a place
  abbrev pub IsWaiting : Turn B → Pass B → Type 0
  IsWaiting t p = IsOf t p × (p.seat.me.0.stage ≡ Waiting p.place) × (p.seat.me.1 ≡ [])
      × (p.place < 9223372036854775808)

  -- a pass of this turn to which the slot has come, with this in it
  abbrev pub HasSlot : Turn B → Pass B → Option B → Type 0
  HasSlot t p content = IsOf t p × (p.seat.me.0.stage ≡ Holding p.place)
      × (p.seat.me.1 ≡ (0, content) ∷ []) × (p.place < 9223372036854775808)

  -- a pass of this turn that holds the book b as `take` handed it out
  abbrev pub Holds : Turn B → Pass B → B → Type 0
  Holds t p b = HasSlot t p None × (seen_by p ≡ Some b)

  -- its numbers are as they were, and so is how many passes it made
  abbrev pub IsSame : Pass B → Pass B → Type 0
  IsSame old new = (number_of new ≡ number_of old) × (made_by new ≡ made_by old)
      × (numbers_of new ≡ numbers_of old) × (is_first new ≡ is_first old)
