-- Chapter "Terms and threads": where a move of a state leads, from a term. The code has the next
-- part by its number.
use Rattle.std.specs.Prelude.{◌≡◌, ◌≢◌, IsTrue, ℕ, ◌+◌, ◌<◌, ◌≤◌, ◌++◌, ◌∷◌, ◌&&◌, Bool, true, false, List, [], length, take, drop, map, slice_get, Option, Some, None, ◌⊎◌}
use Rattle.std.specs.List.{list_any}
use Rattle.fort_core.specs.declared.form.Mode.{Mode}
use Rattle.fort_core.specs.declared.term.Term.{Term, Stepped, out-Term}
use Rattle.fort_core.specs.declared.term.Term as term
use Rattle.fort_core.specs.declared.term.Term.TheOpen.{Term-F}
use Rattle.fort_core.specs.declared.value.Value.{Value}
use Rattle.fort_core.specs.declared.value.Closure.{Closure}
use Rattle.fort_machine.specs.Ends.{Finished, open_yet, standing, throw_of, group, is_still, is_thrown}
use Rattle.fort_machine.specs.Frames.{on}
use Rattle.fort_machine.specs.Attempts as machine
use Rattle.fort_machine.specs.Attempts.{Form}
use Rattle.fort_frames.specs.Heads.{suits, form_of}
use Rattle.fort_frames.specs.declared.head.Head.{Head}
use Rattle.fort_frames.specs.declared.head.Head.TheVariants as head
use Rattle.fort_frames.specs.Frames.{IsInOrder, frame_of, frames, is_trodden, rebuilt, Reaches}
use Rattle.fort_frames.specs.States.{term_at, Stands}
use Rattle.fort_frames.specs.declared.frame.Frame.{Frame}
use Rattle.fort_frames.specs.declared.frame.Frame.TheVariants as frame
use Rattle.fort_frames.specs.declared.place.Place.{Place}
use Rattle.fort_frames_moves.specs.declared.turn.Ready.{Ready}
use Rattle.fort_frames_moves.specs.declared.turn.Ready.TheVariants as ready
use Rattle.fort_frames_moves.specs.declared.turn.Stop.{Stop}
use Rattle.fort_frames_moves.specs.declared.turn.Stop.TheVariants as stop
use Rattle.fort_frames_moves.specs.declared.turn.Turn.{Turn}
use Rattle.fort_frames_moves.specs.declared.turn.Turn.TheVariants as turn
use Rattle.fort_frames_moves.specs.declared.across.Next.{Next}

-- The form that has its step.
abbrev pub ready_term : Ready → Term
ready_term (ready.Form t) = t
ready_term (ready.Node h parts) = form_of h parts
ready_term (ready.Operands set vs) = term.Operator set (map term.Value vs)
ready_term (ready.Value f v) = on (frame_of f) (term.Value v)
ready_term (ready.Throw f v) = on (frame_of f) (throw_of v)

-- A form stands at a place of a term, and may go on.
pub record IsAt (clock : ℕ) (t : Term) (place : Place) (part : Term) : Type 0 where
  pub is_term : rebuilt clock (frames place.stack) part ≡ t
  pub reached : Reaches clock (frames place.stack) part

-- A thread of a term: a form at a place that waits for none of its parts, each of which is finished
-- or passed over.
pub record IsThread (clock : ℕ) (t : Term) (place : Place) (part : Term) : Type 0 where
  pub is_at : IsAt clock t place part
  pub ready : machine.Ready part

-- A form takes its step by itself, without parts that go before it, or is a tuple; it is no atomic
-- form.
abbrev pub StepsByItself : Term-F Term Value Closure → Type 0
StepsByItself (Term-F.Variable variable) = Unit {0}
StepsByItself (Term-F.Group parts) = Unit {0}
StepsByItself (Term-F.Fn closure) = Unit {0}
StepsByItself (Term-F.Read slot) = Unit {0}
StepsByItself (Term-F.While test body) = Unit {0}
StepsByItself form = ⊥

-- What a thread's form is made of suits it: a form that takes its step by itself, as many parts as
-- the form has, or a frame of a form that goes from left to right.
abbrev pub IsMade : Ready → Type 0
IsMade (ready.Form t) = StepsByItself (out-Term t)
IsMade (ready.Node h parts) = IsTrue (suits h parts) × (h ≢ head.Group)
IsMade (ready.Value f v) = IsInOrder f
IsMade (ready.Throw f v) = IsInOrder f
IsMade r = Unit {0}

-- A thread, by what its form is made of.
pub record IsStep (clock : ℕ) (t : Term) (place : Place) (r : Ready) : Type 0 where
  pub thread : IsThread clock t place (ready_term r)
  pub made : IsMade r

-- An atomic form, before an attempt or asleep after one, is a thread.
pub record IsTry (clock : ℕ) (t : Term) (place : Place) (part : Term) : Type 0 where
  pub mode : Mode
  pub body : Term
  pub is_form : Form part mode body
  pub is_at : IsAt clock t place part

-- One of some parts is finished, or passed over: it isn't finished and not marked, and one beside
-- it is a throw.
abbrev pub IsOver : List Term → ℕ → Type 0
IsOver ts i = (t : Term) → slice_get ts i ≡ Some t
    → Finished t ⊎ ((list_any is_thrown (take i ts ++ drop (i + 1) ts) && is_still t) ≡ true)

-- The parts from one number on, up to another, are.
abbrev pub AreOver : List Term → ℕ → ℕ → Type 0
AreOver ts from to = (i : ℕ) → from ≤ i → i < to → IsOver ts i

-- All parts are.
abbrev pub AllOver : List Term → Type 0
AllOver ts = AreOver ts 0 (length ts)

-- A tuple whose parts are all finished or passed over.
pub record IsGathered (clock : ℕ) (t : Term) (place : Place) (ts : List Term) : Type 0 where
  pub is_at : IsAt clock t place (group ts)
  pub over : AllOver ts

-- A mark stands somewhere else than round an open part of a parallel form: inside another frame, in
-- a part that has its mark already, or round what is finished.
abbrev pub IsOddUnder : ℕ → Frame → Term → Type 0
IsOddUnder clock (frame.Node n) inner = (is_trodden clock n ≡ true) ⊎ Finished inner
IsOddUnder clock f inner = Unit {0}

abbrev pub IsOddIn : ℕ → List Frame → Term → Type 0
IsOddIn clock [] inner = Unit {0}
IsOddIn clock (f ∷ fs) inner = IsOddUnder clock f inner

-- Such a mark stands at a place.
pub record IsOdd (clock : ℕ) (t : Term) (place : Place) (part : Term) : Type 0 where
  pub inner : Term
  pub is_mark : part ≡ Stepped inner
  pub is_odd : IsOddIn clock (frames place.stack) inner
  pub is_at : IsAt clock t place part

-- Where moves come to from a term: a thread; a tuple; an atomic form; a mark at an odd place; or
-- the whole term.
abbrev pub IsStop : ℕ → Term → Stop → Type 0
IsStop clock t (stop.Steps place r) = IsStep clock t place r
IsStop clock t (stop.Groups place parts) = IsGathered clock t place parts
IsStop clock t (stop.Tries place part) = IsTry clock t place part
IsStop clock t (stop.Odd place part) = IsOdd clock t place part
IsStop clock t (stop.Ends a) = term_at a ≡ t

-- Where one move leads: to the same term at another place, or there.
abbrev pub IsTurn : ℕ → Term → Turn → Type 0
IsTurn clock t (turn.Moves s) = Stands clock t s
IsTurn clock t (turn.Stops s) = IsStop clock t s

-- A part that may go on, with the parts beside it: it isn't passed over; one with a mark is open,
-- and stands in its mark.
abbrev pub IsPart : List Term → List Term → Term → Bool → List Term → Type 0
IsPart before behind t true ts = (before ++ Stepped t ∷ behind ≡ ts) × (standing t ≡ open_yet)
IsPart before behind t false ts = (before ++ t ∷ behind ≡ ts)
    × ((list_any is_thrown (before ++ behind) && is_still t) ≡ false)

-- The next part that may go on; it is open.
pub record IsNext (ts : List Term) (n : Next) : Type 0 where
  pub within : n.«at» < length ts
  pub is_part : IsPart (take n.«at» ts) (drop (n.«at» + 1) ts) n.part n.stepped ts
  pub is_open : standing n.part ≡ open_yet

-- What is found from a number on: the next part that may go on, those before it being over; or
-- none, all being over.
abbrev pub IsFound : List Term → ℕ → Option Next → Type 0
IsFound ts from None = AreOver ts from (length ts)
IsFound ts from (Some n) = IsNext ts n × AreOver ts from n.«at»

-- What is found at one number.
abbrev pub IsFoundAt : List Term → ℕ → Option Next → Type 0
IsFoundAt ts i None = IsOver ts i
IsFoundAt ts i (Some n) = IsNext ts n × (n.«at» ≡ i)

-- A form goes from left to right, and has a part that is no throw's.
abbrev pub GoesInOrder : Term-F Term Value Closure → Type 0
GoesInOrder (Term-F.Operator set operands) = Unit {0}
GoesInOrder (Term-F.Fill ty size value) = Unit {0}
GoesInOrder (Term-F.Let variables first rest) = Unit {0}
GoesInOrder (Term-F.Mutable variable ty first rest) = Unit {0}
GoesInOrder (Term-F.Write slot value) = Unit {0}
GoesInOrder (Term-F.ReadField object field) = Unit {0}
GoesInOrder (Term-F.WriteField object field value) = Unit {0}
GoesInOrder (Term-F.ReadElement array index) = Unit {0}
GoesInOrder (Term-F.WriteElement array index value) = Unit {0}
GoesInOrder (Term-F.Size array) = Unit {0}
GoesInOrder (Term-F.Then first rest) = Unit {0}
GoesInOrder (Term-F.If test first second) = Unit {0}
GoesInOrder (Term-F.Typecase variable subject clauses other) = Unit {0}
GoesInOrder (Term-F.For order span variable source body) = Unit {0}
GoesInOrder (Term-F.Reduce order span set empty variable source body) = Unit {0}
GoesInOrder (Term-F.Try body variable clauses last) = Unit {0}
GoesInOrder form = ⊥

-- A frame leaves out the last part of a form that goes from left to right; a throw has its value in
-- its place then.
abbrev pub IsLast : Frame → Type 0
IsLast (frame.Node n) = ⊥
IsLast frame.Throw = ⊥
IsLast (frame.Operand set values operands) = ⊥
IsLast (frame.FillSize ty value) = ⊥
IsLast (frame.FieldTarget field value) = ⊥
IsLast (frame.Element index) = ⊥
IsLast (frame.ElementTarget index value) = ⊥
IsLast (frame.ElementIndex array value) = ⊥
IsLast f = Unit {0}

-- A parallel form with its parts; a tuple stays a form, whatever they are.
abbrev pub raw_form : Head → List Term → Term
raw_form head.Group ts = term.Group ts
raw_form h ts = form_of h ts
