-- The chapter "Books" of docs/THREADS.md: a task is a part of its book's term, told by the path of
-- its thread. What the part becomes takes its place there.
use Rattle.std.specs.Prelude.{◌≡◌, ℕ, false, List}
use Rattle.fort_core.specs.declared.term.Term.{Term}
use Rattle.fort_machine.specs.Frames.{Frame, plug, road, passed, trodden}

-- The part at a path of a term is this one and isn't passed over; with another one in its place,
-- and a mark on each part on the way, the term is that.
pub record IsPut (t : Term) (path : List ℕ) (part next u : Term) : Type 0 where
  pub frames : List Frame
  pub is_term : t ≡ plug frames part
  pub is_path : road frames ≡ path
  pub reached : passed frames part ≡ false
  pub is_new : u ≡ plug (trodden frames) next
