-- Chapter "Terms and threads": the code's frames are the machine's.
use Rattle.std.specs.Prelude.{◌≡◌, ℕ, ◌<◌, ◌+◌, false, List, ◌∷◌, ◌++◌, take, drop}
use Rattle.fort_core.specs.declared.term.Term.{Term}
use Rattle.fort_machine.specs.Frames.{on, plug, road, passed, trodden}
use Rattle.fort_frames.specs.declared.frame.Frame.{Frame}
use Rattle.fort_frames.specs.declared.node.Node.{Node}
use Rattle.fort_frames.specs.Heads.{form_of}
use Rattle.fort_frames.specs.Frames.{frame_of_node, outward, rebuilt, numbers, Reaches}

-- The term that frames make of a part is the machine's.
abbrev pub SameTerm : Type 0
SameTerm = (clock : ℕ) (fs : List Frame) (t : Term) → rebuilt clock fs t ≡ plug (outward clock fs) t

-- A part to which frames lead isn't passed over.
abbrev pub NotPassed : Type 0
NotPassed = (clock : ℕ) (fs : List Frame) (t : Term) → Reaches clock fs t
    → passed (outward clock fs) t ≡ false

-- So is the thread.
abbrev pub SameThread : Type 0
SameThread = (clock : ℕ) (fs : List Frame) → numbers fs ≡ road (outward clock fs)

-- A clock that rises puts on the marks of a step: on each part on the way, once; and what the part
-- became may go on.
abbrev pub ClockMarks : Type 0
ClockMarks = (clock later : ℕ) (fs : List Frame) (t u : Term) → Reaches clock fs t → clock < later
    → (outward later fs ≡ trodden (outward clock fs)) × Reaches later fs u

-- A node with a part in its place is its form.
abbrev pub NodeIsForm : Type 0
NodeIsForm = (n : Node) (t : Term)
    → on (frame_of_node n) t ≡ form_of n.head (take n.«at» n.parts ++ t ∷ drop (n.«at» + 1) n.parts)
