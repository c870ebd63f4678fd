-- Chapter "Terms and threads": what the code's stack of frames stands for: frames of the machine.
-- The innermost frame is first in the code, the outermost one in the machine.
use Rattle.std.specs.Prelude.{◌≡◌, ℕ, ◌+◌, ◌≤◌, Bool, true, false, ◌||◌, nat_lt, List, [], ◌∷◌, ◌++◌, take, drop, length}
use Rattle.fort_core.specs.declared.term.Term.{Term}
use Rattle.fort_machine.specs.Frames.{in_throw, in_operand, in_fill_size, in_fill_value, in_let, in_mutable, in_write, in_field, in_field_target, in_field_value, in_element, in_index, in_element_target, in_element_index, in_element_value, in_size, in_then, in_test, in_subject, in_source, in_reduced_source, in_try, in_stepped, plug, part_number, passed}
use Rattle.fort_machine.specs.Frames as machine
use Rattle.fort_frames.specs.declared.node.Node.{Node}
use Rattle.fort_frames.specs.declared.frame.Frame.{Frame}
use Rattle.fort_frames.specs.declared.frame.Frame.TheVariants as frame
use Rattle.fort_frames.specs.declared.stack.Stack.{Stack, fold-Stack}
use Rattle.fort_frames.specs.declared.stack.Stack.TheOpen.{Stack-F}
use Rattle.fort_frames.specs.Heads.{frame_at}

-- The frame of a node round its part.
abbrev pub frame_of_node : Node → machine.Frame
frame_of_node n = frame_at n.head (take n.«at» n.parts) (drop (n.«at» + 1) n.parts)

-- A frame of the code as one of the machine.
abbrev pub frame_of : Frame → machine.Frame
frame_of (frame.Node n) = frame_of_node n
frame_of frame.Throw = in_throw
frame_of (frame.Operand set values operands) =
    in_operand set values (drop (length values + 1) operands)
frame_of (frame.FillSize ty value) = in_fill_size ty value
frame_of (frame.FillValue ty size) = in_fill_value ty size
frame_of (frame.Let variables rest) = in_let variables rest
frame_of (frame.Mutable variable ty rest) = in_mutable variable ty rest
frame_of (frame.Write slot) = in_write slot
frame_of (frame.Field field) = in_field field
frame_of (frame.FieldTarget field value) = in_field_target field value
frame_of (frame.FieldValue object field) = in_field_value object field
frame_of (frame.Element index) = in_element index
frame_of (frame.Index array) = in_index array
frame_of (frame.ElementTarget index value) = in_element_target index value
frame_of (frame.ElementIndex array value) = in_element_index array value
frame_of (frame.ElementValue array index) = in_element_value array index
frame_of frame.Size = in_size
frame_of (frame.Then rest) = in_then rest
frame_of (frame.Test first second) = in_test first second
frame_of (frame.Subject variable clauses other) = in_subject variable clauses other
frame_of (frame.Source order span variable body) = in_source order span variable body
frame_of (frame.ReducedSource order span set empty variable body) =
    in_reduced_source order span set empty variable body
frame_of (frame.Try variable clauses last) = in_try variable clauses last

-- Whether a node's part has its mark, by the machine's clock.
abbrev pub is_trodden : ℕ → Node → Bool
is_trodden clock n = n.stepped || nat_lt n.since clock

-- The frame of a mark, where there is one.
abbrev pub mark_if : Bool → List machine.Frame
mark_if true = in_stepped ∷ []
mark_if false = []

-- A frame of the code, with the mark of its part.
abbrev pub frames_of : ℕ → Frame → List machine.Frame
frames_of clock (frame.Node n) = frame_of_node n ∷ mark_if (is_trodden clock n)
frames_of clock f = frame_of f ∷ []

-- The frames of a stack, innermost first.
abbrev pub layer : Stack-F (List Frame) → List Frame
layer Stack-F.Empty = []
layer (Stack-F.Over both) = both.0 ∷ both.1

abbrev pub frames : Stack → List Frame
frames = fold-Stack (List Frame) layer

-- The same frames as the machine has them, outermost first.
abbrev pub outward : ℕ → List Frame → List machine.Frame
outward clock [] = []
outward clock (f ∷ fs) = outward clock fs ++ frames_of clock f

-- The term with a part in the place that frames leave out, innermost first.
abbrev pub rebuilt : ℕ → List Frame → Term → Term
rebuilt clock [] t = t
rebuilt clock (f ∷ fs) t = rebuilt clock fs (plug (frames_of clock f) t)

-- The numbers of the parts that frames leave out, the outermost one's first.
abbrev pub numbers : List Frame → List ℕ
numbers [] = []
numbers (f ∷ fs) = numbers fs ++ part_number (frame_of f)

-- A node was gone into when the clock showed this or less.
abbrev pub IsSince : ℕ → Frame → Type 0
IsSince clock (frame.Node n) = n.since ≤ clock
IsSince clock f = Unit {0}

-- Frames lead to a part that may go on: none of the parts on the way is passed over, and the clock
-- never went back.
abbrev pub Reaches : ℕ → List Frame → Term → Type 0
Reaches clock [] t = Unit {0}
Reaches clock (f ∷ fs) t = (passed (frames_of clock f) t ≡ false) × IsSince clock f
    × Reaches clock fs (plug (frames_of clock f) t)

-- A frame of a form that goes from left to right.
abbrev pub IsInOrder : Frame → Type 0
IsInOrder (frame.Node n) = ⊥
IsInOrder f = Unit {0}
