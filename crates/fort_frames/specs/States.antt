-- Chapter "Terms and threads": the term that a state stands for, by the machine's clock.
use Rattle.std.specs.Prelude.{◌≡◌, ℕ}
use Rattle.fort_core.specs.declared.term.Term.{Term}
use Rattle.fort_core.specs.declared.term.Term as term
use Rattle.fort_machine.specs.Ends.{throw_of}
use Rattle.fort_frames.specs.Frames.{frames, rebuilt, Reaches}
use Rattle.fort_frames.specs.declared.state.At.{At}
use Rattle.fort_frames.specs.declared.state.At.TheVariants as at
use Rattle.fort_frames.specs.declared.state.State.{State}

-- The term inside all frames.
abbrev pub term_at : At → Term
term_at (at.Value v) = term.Value v
term_at (at.Throw v) = throw_of v
term_at (at.Form t) = t
term_at (at.Left t) = t

-- A state stands for a term: with the frames round what stands inside them it is the term, and that
-- may go on.
pub record Stands (clock : ℕ) (t : Term) (s : State) : Type 0 where
  pub is_term : rebuilt clock (frames s.place.stack) (term_at s.«at») ≡ t
  pub reached : Reaches clock (frames s.place.stack) (term_at s.«at»)
