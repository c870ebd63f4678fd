-- The code's frames are the machine's.
use Rattle.std.proofs.Common.{◌≡◌, ℕ, zero, suc, ◌+◌, ◌<◌, ◌≤◌, Bool, true, false, ◌||◌, ◌&&◌, List, [], ◌∷◌, ◌++◌, length, take, drop, refl, ap, sym, ◌∙◌, append_assoc, subst, arith, rules}
use Rattle.std.specs.Prelude.{nat_lt, slice_set}
use Rattle.std.proofs.lemmas.List.{append-nil, length-take}
use Rattle.fort_core.specs.declared.term.Term.{Term}
use Rattle.std.specs.List.{list_any}
use Rattle.fort_machine.specs.Ends.{is_thrown}
use Rattle.fort_machine.proofs.Standing.{or_false, still_stepped}
use Rattle.fort_machine.specs.Frames.{in_stepped, on, plug, road, part_number, beside, passes, passed, with_mark, trodden}
use Rattle.fort_machine.specs.Frames as machine
use Rattle.fort_machine.proofs.Runs.{plug_append, road_append}
use Rattle.fort_frames.specs.declared.node.Node.{Node}
use Rattle.fort_frames.specs.declared.frame.Frame.{Frame}
use Rattle.fort_frames.specs.declared.frame.Frame.TheVariants as frame
use Rattle.fort_frames.specs.Heads.{suits, form_of, frame_at}
use Rattle.fort_frames.specs.Frames.{frame_of_node, frame_of, is_trodden, mark_if, frames_of, outward, rebuilt, numbers, IsSince, Reaches}
use Rattle.fort_frames.specs.Laws.{SameTerm, NotPassed, SameThread, ClockMarks, NodeIsForm}
use Rattle.fort_frames.proofs.Heads.{put_back, suits_set, on_frame_at, number_at}

pub same_term : SameTerm
same_term clock [] t = refl
same_term clock (f ∷ fs) t =
    same_term clock fs (plug (frames_of clock f) t)
    ∙ sym (plug_append (outward clock fs) (frames_of clock f) t)

pub passed_append : (fs gs : List machine.Frame) (t : Term) → passed fs (plug gs t) ≡ false
    → passed gs t ≡ false → passed (fs ++ gs) t ≡ false
passed_append [] gs t e q = q
passed_append (f ∷ fs) gs t e q =
    let h = or_false (passes f (plug fs (plug gs t))) (passed fs (plug gs t)) e in
    λ i. (ap (passes f) (plug_append fs gs t) ∙ h.0) i || passed_append fs gs t h.1 q i

pub not_passed : NotPassed
not_passed clock [] t h = refl
not_passed clock (f ∷ fs) t h =
    passed_append (outward clock fs) (frames_of clock f) t
    (not_passed clock fs (plug (frames_of clock f) t) h.2) h.0

road_mark_if : (f : machine.Frame) (b : Bool) → road (f ∷ mark_if b) ≡ part_number f
road_mark_if f true = append-nil (part_number f)
road_mark_if f false = append-nil (part_number f)

road_one : (clock : ℕ) (f : Frame) → road (frames_of clock f) ≡ part_number (frame_of f)
road_one clock (frame.Node n) = road_mark_if (frame_of_node n) (is_trodden clock n)
road_one clock _ = refl

pub same_thread : SameThread
same_thread clock [] = refl
same_thread clock (f ∷ fs) =
    ap (λ ns. ns ++ part_number (frame_of f)) (same_thread clock fs)
    ∙ ap (λ ns. road (outward clock fs) ++ ns) (sym (road_one clock f))
    ∙ sym (road_append (outward clock fs) (frames_of clock f))

-- a node's parts with one in its place suit its head
pub node_suits : (n : Node) (t : Term)
    → suits n.head (take n.«at» n.parts ++ t ∷ drop (n.«at» + 1) n.parts) ≡ true
node_suits n t =
    ap (suits n.head) (put_back n.parts n.«at» t n.within) ∙ suits_set n.head n.parts n.«at» t
    ∙ n.whole

pub node_is_form : NodeIsForm
node_is_form n t =
    on_frame_at n.head (take n.«at» n.parts) (drop (n.«at» + 1) n.parts) t (node_suits n t)

some_term : Term
some_term = Rattle.fort_core.specs.declared.term.Term.Group []

pub node_number : (n : Node) → (k : ℕ) × (part_number (frame_of_node n) ≡ k ∷ [])
node_number n = (
  length (take n.«at» n.parts),
  number_at n.head (take n.«at» n.parts) (drop (n.«at» + 1) n.parts) some_term
      (node_suits n some_term),
)

take_length : (ts : List Term) (i : ℕ) → i < length ts → length (take i ts) ≡ i
take_length [] i h = let f : ⊥ = omega (arith, h) in absurd f
take_length (t ∷ ts) zero h = refl
take_length (t ∷ ts) (suc i) h = ap suc (take_length ts i (omega (arith, h)))

-- the number of a node's part
pub node_part : (f : Frame) (n : Node) (k : ℕ) → f ≡ frame.Node n → k ≡ n.«at»
    → part_number (frame_of f) ≡ k ∷ []
node_part f n k e q =
    ap (λ g. part_number (frame_of g)) e
    ∙ number_at n.head (take n.«at» n.parts) (drop (n.«at» + 1) n.parts) some_term
    (node_suits n some_term) ∙ ap (λ i. i ∷ []) (take_length n.parts n.«at» n.within ∙ sym q)

-- frames that don't begin with a mark
abbrev Bare : List machine.Frame → Type 0
Bare (in_stepped ∷ fs) = ⊥
Bare _ = Unit {0}

mark_append : (ns : List ℕ) (fs gs : List machine.Frame) → Bare gs
    → with_mark ns (fs ++ gs) ≡ with_mark ns fs ++ gs
mark_append [] fs gs u = refl
mark_append (n ∷ ns) [] [] u = refl
mark_append (n ∷ ns) [] (in_stepped ∷ gs) u = absurd u
mark_append (n ∷ ns) [] (g ∷ gs) u = refl
mark_append (n ∷ ns) (in_stepped ∷ fs) gs u = refl
mark_append (n ∷ ns) (f ∷ fs) gs u = refl

trodden_append : (fs gs : List machine.Frame) → Bare (trodden gs)
    → trodden (fs ++ gs) ≡ trodden fs ++ trodden gs
trodden_append [] gs u = refl
trodden_append (f ∷ fs) gs u =
    ap (λ x. f ∷ x) (ap (with_mark (part_number f)) (trodden_append fs gs u)
    ∙ mark_append (part_number f) (trodden fs) (trodden gs) u)

-- what has a number is no mark
numbered_bare : (f : machine.Frame) (k : ℕ) (gs : List machine.Frame) → part_number f ≡ k ∷ []
    → Bare (f ∷ gs)
numbered_bare in_stepped k gs e = absurd cc
numbered_bare _ k gs e = tt

trodden_mark_if : (k : ℕ) (b : Bool) → with_mark (k ∷ []) (trodden (mark_if b)) ≡ in_stepped ∷ []
trodden_mark_if k true = refl
trodden_mark_if k false = refl

trodden_node : (clock : ℕ) (n : Node)
    → trodden (frames_of clock (frame.Node n)) ≡ frame_of_node n ∷ in_stepped ∷ []
trodden_node clock n =
    ap (λ ns. frame_of_node n ∷ with_mark ns (trodden (mark_if (is_trodden clock n))))
    (node_number n).1
    ∙ ap (λ gs. frame_of_node n ∷ gs) (trodden_mark_if (node_number n).0 (is_trodden clock n))

or_true : (b : Bool) → (b || true) ≡ true
or_true true = refl
or_true false = refl

later_lt : (s clock later : ℕ) → s ≤ clock → clock < later → nat_lt s later ≡ true
later_lt s clock later h k = let lt : s < later = omega arith in search (rules, lt)

trodden_later : (clock later : ℕ) (n : Node) → n.since ≤ clock → clock < later
    → frames_of later (frame.Node n) ≡ frame_of_node n ∷ in_stepped ∷ []
trodden_later clock later n h k =
    ap (λ b. frame_of_node n ∷ mark_if (n.stepped || b)) (later_lt n.since clock later h k)
    ∙ ap (λ b. frame_of_node n ∷ mark_if b) (or_true n.stepped)

and_false : (b : Bool) → (b && false) ≡ false
and_false true = refl
and_false false = refl

-- a part behind its mark isn't passed over
marked_not_passed : (f : machine.Frame) (t : Term) → passed (f ∷ in_stepped ∷ []) t ≡ false
marked_not_passed f t =
    λ i. (ap (λ b. list_any is_thrown (beside f) && b) (still_stepped t)
    ∙ and_false (list_any is_thrown (beside f))) i || false

record Later (clock later : ℕ) (f : Frame) (t : Term) : Type 0 where
  marked : frames_of later f ≡ trodden (frames_of clock f)
  bare : Bare (trodden (frames_of clock f))
  reached : passed (frames_of later f) t ≡ false
  since : IsSince later f

later_node : (clock later : ℕ) (n : Node) (t : Term) → n.since ≤ clock → clock < later
    → Later clock later (frame.Node n) t
later_node clock later n t h k = record {
  marked = trodden_later clock later n h k ∙ sym (trodden_node clock n);
  bare = subst Bare (sym (trodden_node clock n))
      (numbered_bare (frame_of_node n) (node_number n).0 (in_stepped ∷ []) (node_number n).1);
  reached =
      ap (λ gs. passed gs t) (trodden_later clock later n h k)
      ∙ marked_not_passed (frame_of_node n) t;
  since = omega (arith, h, k);
}

later_one : (clock later : ℕ) (f : Frame) (t : Term) → IsSince clock f → clock < later
    → Later clock later f t
later_one clock later (frame.Node n) t h k = later_node clock later n t h k
later_one clock later _ t h k = record { marked = refl; bare = tt; reached = refl; since = tt }

pub clock_marks : ClockMarks
clock_marks clock later [] t u h k = (refl, tt)
clock_marks clock later (f ∷ fs) t u h k =
    let one = later_one clock later f u h.1 k in
    let rest =
    clock_marks clock later fs (plug (frames_of clock f) t) (plug (frames_of later f) u) h.2 k
    in (
      ap (λ gs. outward later fs ++ gs) one.marked
          ∙ ap (λ gs. gs ++ trodden (frames_of clock f)) rest.0
          ∙ sym (trodden_append (outward clock fs) (frames_of clock f) one.bare),
      (one.reached, one.since, rest.1),
    )
