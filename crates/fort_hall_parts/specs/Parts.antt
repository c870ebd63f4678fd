-- The chapter "Books" of docs/THREADS.md: the parts of a term that tasks are told by, and the forms
-- on the way to one.
use Rattle.std.specs.Prelude.{◌≡◌, ◌≢◌, ℕ, ◌<◌, ◌≤◌, Bool, false, List, [], ◌∷◌, ◌++◌, length, IsTrue}
use Rattle.std.specs.List.{Contains}
use Rattle.std.specs.List.Sorted.{IsStrictlyIncreasing}
use Rattle.fort_core.specs.declared.term.Term.{Term}
use Rattle.fort_machine.specs.Ends.{has_stepped, open_yet, standing}
use Rattle.fort_machine.specs.Frames.{Frame, in_stepped, on, part_number, passed, plug, road}
use Rattle.fort_frames.specs.Frames.{IsInOrder, frame_of, mark_if}
use Rattle.fort_frames.specs.Heads.{suits}
use Rattle.fort_frames_moves.specs.Turns.{IsNext, raw_form}
use Rattle.fort_frames_moves.specs.declared.across.Next.{Next}
use Rattle.fort_hall_parts.specs.declared.divide.Division.{Division}
use Rattle.fort_hall_parts.specs.declared.node.InOrder.{InOrder}
use Rattle.fort_hall_parts.specs.declared.node.Onward.{Onward}
use Rattle.fort_hall_parts.specs.declared.node.Onward.TheVariants as onward
use Rattle.fort_hall_parts.specs.declared.node.ParallelForm.{ParallelForm}

-- A way from a form to a part in it: to the form itself; through a form that goes from left to
-- right, and on; or into a part of a parallel form, which may have its mark, and on. So a way that
-- goes anywhere ends in a part of a parallel form, and marks stand nowhere else on it.
pub data IsWay : List Frame → Type 0 where
  here : {fs : List Frame} → fs ≡ [] → IsWay fs
  through : {fs : List Frame} (f : Frame) (gs : List Frame) → fs ≡ f ∷ gs → part_number f ≡ []
      → f ≢ in_stepped → gs ≢ [] → IsWay gs → IsWay fs
  into : {fs : List Frame} (f : Frame) (number : ℕ) (stepped : Bool) (gs : List Frame)
      → fs ≡ f ∷ (mark_if stepped ++ gs) → part_number f ≡ number ∷ [] → IsWay gs → IsWay fs

-- A part that may go on stands at a path of a term: a way with these numbers leads to it, nothing
-- on the way is passed over, and it is open and no mark itself.
pub record IsPartAt (t : Term) (path : List ℕ) (part : Term) : Type 0 where
  pub frames : List Frame
  pub way : IsWay frames
  pub is_term : t ≡ plug frames part
  pub is_path : road frames ≡ path
  pub reached : passed frames part ≡ false
  pub is_open : standing part ≡ open_yet
  pub unmarked : has_stepped part ≡ false

-- No way of at most so many frames leads to this part.
pub record IsNotAt (t : Term) (path : List ℕ) (part : Term) (depth : ℕ) : Type 0 where
  pub none : (k : IsPartAt t path part) → length k.frames ≤ depth → ⊥

-- Nor to any.
pub record HasNoneAt (t : Term) (path : List ℕ) (depth : ℕ) : Type 0 where
  pub none : (part : Term) → IsNotAt t path part depth

-- A part stands at a path.
abbrev pub HasPartAt : Term → List ℕ → Type 0
HasPartAt t path = (part : Term) × IsPartAt t path part

-- A form in a term is divided into its parts that may go on: all of them, and there are two or
-- more. The form is told by its path, the parts by their numbers, which rise.
pub record IsDivided (t : Term) (d : Division) : Type 0 where
  pub each : (n : ℕ) → Contains d.numbers n → HasPartAt t (d.path.0 ++ n ∷ [])
  pub all : (n : ℕ) (part : Term) → IsPartAt t (d.path.0 ++ n ∷ []) part → Contains d.numbers n
  pub many : 2 ≤ length d.numbers
  pub rises : IsStrictlyIncreasing d.numbers

-- No form in a term has two parts that may go on, as far as ways of so many frames lead.
pub record IsNarrow (t : Term) (depth : ℕ) : Type 0 where
  pub one : (path : List ℕ) (n m : ℕ) (a b : Term) → (k : IsPartAt t (path ++ n ∷ []) a)
      → (l : IsPartAt t (path ++ m ∷ []) b) → length k.frames ≤ depth → length l.frames ≤ depth
      → n ≡ m

-- A term is this parallel form.
pub record IsNode (t : Term) (n : ParallelForm) : Type 0 where
  pub suits : IsTrue (suits n.head n.parts)
  pub is_form : raw_form n.head n.parts ≡ t

-- A part that may go on, and is no mark itself.
pub record IsPlain (ts : List Term) (n : Next) : Type 0 where
  pub next : IsNext ts n
  pub unmarked : has_stepped n.part ≡ false

-- A term is this form that goes from left to right, with an open part next.
pub record IsGoing (t : Term) (f : InOrder) : Type 0 where
  pub in_order : IsInOrder f.frame
  pub is_form : on (frame_of f.frame) f.part ≡ t
  pub is_open : standing f.part ≡ open_yet
  pub unmarked : has_stepped f.part ≡ false

-- No part that is open and no mark stands in a frame of a term that goes from left to right.
pub record GoesNowhere (t : Term) : Type 0 where
  pub none : (f : Frame) (a : Term) → part_number f ≡ [] → f ≢ in_stepped → standing a ≡ open_yet
      → has_stepped a ≡ false → t ≡ on f a → ⊥

-- No open part stands in a frame of a term that is parallel.
pub record IsNoNode (t : Term) : Type 0 where
  pub none : (f : Frame) (n : ℕ) (a : Term) → part_number f ≡ n ∷ [] → standing a ≡ open_yet
      → t ≡ on f a → ⊥

-- The part of a number may not go on.
pub record HasNoPlain (ts : List Term) (i : ℕ) : Type 0 where
  pub none : (n : Next) → IsPlain ts n → n.«at» ≡ i → ⊥

-- Where a way begins whose first number is this: at a form that goes from left to right, or in the
-- part of the number.
abbrev pub IsOnward : Term → ℕ → Onward → Type 0
IsOnward t i (onward.Through form) = IsGoing t form
IsOnward t i (onward.Into node next) = IsNode t node × IsPlain node.parts next × (next.«at» ≡ i)

-- None does.
pub record LeadsNowhere (t : Term) (i : ℕ) : Type 0 where
  pub none : (path : List ℕ) (part : Term) → IsPartAt t (i ∷ path) part → ⊥

-- The numbers of the parts that may go on, from one number up to another.
pub record AreOpen (ts : List Term) (to : ℕ) (numbers : List ℕ) : Type 0 where
  pub each : (i : ℕ) → Contains numbers i → (n : Next) × IsPlain ts n × (n.«at» ≡ i)
  pub all : (n : Next) → IsPlain ts n → n.«at» < to → Contains numbers n.«at»
  pub rises : IsStrictlyIncreasing numbers
  pub below : (i : ℕ) → Contains numbers i → i < to
