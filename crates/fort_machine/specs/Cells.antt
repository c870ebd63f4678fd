-- Chapter "Store and effects": what a stretch of a run does at one location. The code keeps lists
-- of what was read, written and made; here each location has one cell.
use Rattle.std.specs.Prelude.{◌≡◌, Option, Some, None}
use Rattle.fort_core.specs.declared.value.Value.{Value}

-- A location is left alone; or it was there before, with the value that was read while no write of
-- the stretch stood, and the value last written; or it was made, with its value, or with none where
-- an abort took it away.
pub data Cell : Type 0 where
  untouched : Cell
  found : (read now : Option Value) → Cell
  made : (now : Option Value) → Cell

-- Of two writes the later one counts.
abbrev pub later : Option Value → Option Value → Option Value
later a None = a
later a (Some v) = Some v

-- Of two reads the first one counts, and a read counts only while no write stands.
abbrev pub first_read : Option Value → Option Value → Option Value → Option Value
first_read (Some v) now next = Some v
first_read None (Some w) next = None
first_read None None next = next

-- What two stretches do, one after the other.
abbrev pub joined : Cell → Cell → Cell
joined untouched d = d
joined c untouched = c
joined (found r w) (found r' w') = found (first_read r w r') (later w w')
joined (made w) (found r' w') = made (later w w')
joined c (made w) = made w

-- Two values agree where both are there and equal, or one isn't there.
abbrev pub Agrees : Option Value → Option Value → Type 0
Agrees (Some v) (Some w) = v ≡ w
Agrees a b = Unit {0}

-- What a store has at the location suits the stretch: what it found is there, with the value that
-- it read, and what it made isn't.
abbrev pub Fits : Cell → Option Value → Type 0
Fits untouched o = Unit {0}
Fits (found r w) None = ⊥
Fits (found r w) (Some v) = Agrees (Some v) r
Fits (made w) None = Unit {0}
Fits (made w) (Some v) = ⊥

-- What the store has there afterwards.
abbrev pub left_at : Cell → Option Value → Option Value
left_at untouched o = o
left_at (found r w) o = later o w
left_at (made w) o = w

-- The second stretch may follow the first.
abbrev pub Meets : Cell → Cell → Type 0
Meets untouched d = Unit {0}
Meets c untouched = Unit {0}
Meets (found r w) (found r' w') = Agrees (later r w) r'
Meets (found r w) (made w') = ⊥
Meets (made (Some v)) (found r' w') = Agrees (Some v) r'
Meets (made None) (found r' w') = ⊥
Meets (made (Some v)) (made w') = ⊥
Meets (made None) (made w') = Unit {0}

-- What a failed attempt does: it has read what it read, its writes to older locations are void, and
-- what it made stands.
abbrev pub given_back : Cell → Cell
given_back untouched = untouched
given_back (found r w) = found r None
given_back (made w) = made w

-- What an aborted attempt does: as a failed one, and what it made is gone too.
abbrev pub taken_away : Cell → Cell
taken_away untouched = untouched
taken_away (found r w) = found r None
taken_away (made w) = made None
