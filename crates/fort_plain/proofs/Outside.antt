-- Out of a part, and beside it.
use Rattle.std.proofs.Common.{◌≡◌, ◌≢◌, ℕ, ◌+◌, ◌<◌, ◌≤◌, true, false, List, [], ◌∷◌, ◌++◌, length, take, refl, ap, sym, ◌∙◌, subst, arith, Result, IfOk}
use Rattle.fort_base.specs.declared.refusal.Memory.{Memory}
use Rattle.std.specs.Prelude.{slice_set}
use Rattle.std.proofs.lemmas.List.{take-append-le}
use Rattle.fort_core.specs.declared.path.Path.{Path}
use Rattle.fort_core.specs.declared.term.Term.{Term, Stepped}
use Rattle.fort_machine.specs.Ends.{open_yet, standing}
use Rattle.fort_machine.specs.Frames.{in_group, in_call, in_function, in_argument, in_first_half, in_second_half, in_first_reduced, in_second_reduced, in_block, on, plug, part_number}
use Rattle.fort_machine.specs.Frames as machine
use Rattle.fort_machine.proofs.Standing.{stepped_open}
use Rattle.fort_machine.proofs.Places.{on_open, plug_open}
use Rattle.fort_frames.specs.Frames.{IsInOrder, frame_of, frame_of_node, frames, frames_of, is_trodden, mark_if, numbers, rebuilt, Reaches}
use Rattle.fort_frames.specs.Heads.{suits, form_of}
use Rattle.fort_frames.specs.declared.frame.Frame.{Frame}
use Rattle.fort_frames.specs.declared.frame.Frame.TheVariants as frame
use Rattle.fort_frames.specs.declared.head.Head.{Head}
use Rattle.fort_frames.specs.declared.node.Node.{Node}
use Rattle.fort_frames.specs.declared.place.Place.{Place}
use Rattle.fort_frames_moves.proofs.Enters.{plain_frames}
use Rattle.fort_frames_moves.proofs.Parts.{put_part, suits_back}
use Rattle.fort_plain.specs.Paths.{IsInside, IsBeside, IsOpenAt, IsSought}
use Rattle.fort_plain.specs.declared.find.Seek.{Seek}

order_number : (f : Frame) → IsInOrder f → part_number (frame_of f) ≡ []
order_number (frame.Node n) i = absurd i
order_number frame.Throw i = refl
order_number (frame.Operand a b c) i = refl
order_number (frame.FillSize a b) i = refl
order_number (frame.FillValue a b) i = refl
order_number (frame.Let a b) i = refl
order_number (frame.Mutable a b c) i = refl
order_number (frame.Write a) i = refl
order_number (frame.Field a) i = refl
order_number (frame.FieldTarget a b) i = refl
order_number (frame.FieldValue a b) i = refl
order_number (frame.Element a) i = refl
order_number (frame.Index a) i = refl
order_number (frame.ElementTarget a b) i = refl
order_number (frame.ElementIndex a b) i = refl
order_number (frame.ElementValue a b) i = refl
order_number frame.Size i = refl
order_number (frame.Then a) i = refl
order_number (frame.Test a b) i = refl
order_number (frame.Subject a b c) i = refl
order_number (frame.Source a b c d) i = refl
order_number (frame.ReducedSource a b c d e f) i = refl
order_number (frame.Try a b c) i = refl

append_nil : (xs : List ℕ) → xs ++ [] ≡ xs
append_nil [] = refl
append_nil (x ∷ xs) = ap (λ ys. x ∷ ys) (append_nil xs)

number_short : (f : machine.Frame) → length (part_number f) ≤ 1
number_short (in_group before behind) = omega arith
number_short (in_call set before behind) = omega arith
number_short (in_function argument) = omega arith
number_short (in_argument function) = omega arith
number_short (in_first_half second) = omega arith
number_short (in_second_half first) = omega arith
number_short (in_first_reduced set second) = omega arith
number_short (in_second_reduced set first) = omega arith
number_short (in_block before behind) = omega arith
number_short _ = omega arith

length_append : (xs ys : List ℕ) → length (xs ++ ys) ≡ length xs + length ys
length_append [] ys = omega arith
length_append (x ∷ xs) ys = let h = length_append xs ys in omega (arith, h)

-- the path of the place below
below_path : (place below : Place) (f : Frame) → frames place.stack ≡ f ∷ frames below.stack
    → place.path.0 ≡ below.path.0 ++ part_number (frame_of f)
below_path place below f e =
    place.is_path ∙ ap numbers e ∙ ap (λ ns. ns ++ part_number (frame_of f)) (sym below.is_path)

pub out_form : (clock : ℕ) (t : Term) (keep : ℕ) (path : Path) (place below : Place) (f : Frame)
    (part form : Term) → frames place.stack ≡ f ∷ frames below.stack → IsInOrder f
    → form ≡ on (frame_of f) part → IsInside clock t keep path place part
    → IsInside clock t keep path below form
out_form clock t keep path place below f part form e i q h =
    let same : plug (frames_of clock f) part ≡ form =
    ap (λ fs. plug fs part) (plain_frames clock f i) ∙ sym q in
    let paths : place.path.0 ≡ below.path.0 =
    below_path place below f e ∙ ap (λ ns. below.path.0 ++ ns) (order_number f i)
    ∙ append_nil below.path.0 in
    let reached = subst (λ fs. Reaches clock fs part) e h.reached in
    record {
      is_term =
          ap (rebuilt clock (frames below.stack)) (sym same)
          ∙ sym (ap (λ fs. rebuilt clock fs part) e) ∙ h.is_term;
      reached = subst (Reaches clock (frames below.stack)) same reached.2;
      is_open = ap standing q ∙ on_open (frame_of f) part h.is_open;
      deeper = subst (λ ns. keep < length ns) paths h.deeper;
      same_first = sym (ap (take keep) paths) ∙ h.same_first;
    }

pub out_node : (clock : ℕ) (t : Term) (keep : ℕ) (path : Path) (place below : Place) (n : Node)
    (part : Term) (head : Head) (parts : List Term)
    → frames place.stack ≡ frame.Node n ∷ frames below.stack → head ≡ n.head
    → parts ≡ slice_set n.parts n.«at» (plug (mark_if (is_trodden clock n)) part)
    → IsInside clock t keep path place part
    → (suits head parts ≡ true) × IsBeside clock t keep path below (form_of head parts)
out_node clock t keep path place below n part head parts e hq pq h =
    let x = plug (mark_if (is_trodden clock n)) part in
    let same : plug (frames_of clock (frame.Node n)) part ≡ form_of head parts =
    sym (put_part clock n part x refl) ∙ (λ i. form_of (sym hq i) (sym pq i)) in
    let reached = subst (λ fs. Reaches clock fs part) e h.reached in
    let long = below_path place below (frame.Node n) e in
    let short = number_short (frame_of_node n) in
    let size : length place.path.0 ≡ length below.path.0 + length (part_number (frame_of_node n)) =
    ap length long ∙ length_append below.path.0 (part_number (frame_of_node n)) in
    let deep = h.deeper in
    let fits : keep ≤ length below.path.0 = omega (arith, size, short, deep) in (
      (λ i. suits (hq i) (pq i)) ∙ suits_back n.head n.parts n.«at» x n.whole,
      record {
        is_term =
            ap (rebuilt clock (frames below.stack)) (sym same)
            ∙ sym (ap (λ fs. rebuilt clock fs part) e) ∙ h.is_term;
        reached = subst (Reaches clock (frames below.stack)) same reached.2;
        is_open =
            ap standing (sym same) ∙ plug_open (frames_of clock (frame.Node n)) part h.is_open;
        not_above = fits;
        same_first =
            sym (ap (take keep) long
            ∙ take-append-le keep below.path.0 (part_number (frame_of_node n)) fits)
            ∙ h.same_first;
      },
    )

pub out_form_whole : (clock : ℕ) (t : Term) (place below : Place) (f : Frame) (part form : Term)
    → frames place.stack ≡ f ∷ frames below.stack → IsInOrder f → form ≡ on (frame_of f) part
    → IsOpenAt clock t place part → IsOpenAt clock t below form
out_form_whole clock t place below f part form e i q h =
    let same : plug (frames_of clock f) part ≡ form =
    ap (λ fs. plug fs part) (plain_frames clock f i) ∙ sym q in
    let reached = subst (λ fs. Reaches clock fs part) e h.reached in
    record {
      is_term =
          ap (rebuilt clock (frames below.stack)) (sym same)
          ∙ sym (ap (λ fs. rebuilt clock fs part) e) ∙ h.is_term;
      reached = subst (Reaches clock (frames below.stack)) same reached.2;
      is_open = ap standing q ∙ on_open (frame_of f) part h.is_open;
    }

pub out_node_whole : (clock : ℕ) (t : Term) (place below : Place) (n : Node) (part : Term)
    (head : Head) (parts : List Term) → frames place.stack ≡ frame.Node n ∷ frames below.stack
    → head ≡ n.head
    → parts ≡ slice_set n.parts n.«at» (plug (mark_if (is_trodden clock n)) part)
    → IsOpenAt clock t place part
    → (suits head parts ≡ true) × IsOpenAt clock t below (form_of head parts)
out_node_whole clock t place below n part head parts e hq pq h =
    let x = plug (mark_if (is_trodden clock n)) part in
    let same : plug (frames_of clock (frame.Node n)) part ≡ form_of head parts =
    sym (put_part clock n part x refl) ∙ (λ i. form_of (sym hq i) (sym pq i)) in
    let reached = subst (λ fs. Reaches clock fs part) e h.reached in (
      (λ i. suits (hq i) (pq i)) ∙ suits_back n.head n.parts n.«at» x n.whole,
      record {
        is_term =
            ap (rebuilt clock (frames below.stack)) (sym same)
            ∙ sym (ap (λ fs. rebuilt clock fs part) e) ∙ h.is_term;
        reached = subst (Reaches clock (frames below.stack)) same reached.2;
        is_open =
            ap standing (sym same) ∙ plug_open (frames_of clock (frame.Node n)) part h.is_open;
      },
    )

-- the part into which the code goes on, out of a parallel form
pub node_whole : (clock : ℕ) (t : Term) (below : Place) (form part : Term)
    → IsOpenAt clock t below form → part ≡ form → IsOpenAt clock t below part
node_whole clock t below form part h e = record {
  is_term = ap (rebuilt clock (frames below.stack)) e ∙ h.is_term;
  reached = subst (Reaches clock (frames below.stack)) (sym e) h.reached;
  is_open = ap standing e ∙ h.is_open;
}

-- out of all frames it is the term
pub at_root : (clock : ℕ) (t : Term) (place : Place) (part : Term) → IsOpenAt clock t place part
    → frames place.stack ≡ [] → part ≡ t
at_root clock t place part h e = sym (ap (λ fs. rebuilt clock fs part) e) ∙ h.is_term

pub marked_part : (clock : ℕ) (n : Node) (part : Term) → is_trodden clock n ≡ true
    → standing part ≡ open_yet → Stepped part ≡ plug (mark_if (is_trodden clock n)) part
marked_part clock n part e o = sym (stepped_open part o) ∙ ap (λ b. plug (mark_if b) part) (sym e)

pub bare_part : (clock : ℕ) (n : Node) (part : Term) → is_trodden clock n ≡ false
    → part ≡ plug (mark_if (is_trodden clock n)) part
bare_part clock n part e = ap (λ b. plug (mark_if b) part) (sym e)

-- inside one frame at least
pub inside_some : (clock : ℕ) (t : Term) (keep : ℕ) (path : Path) (place : Place) (part : Term)
    → IsInside clock t keep path place part → frames place.stack ≢ []
inside_some clock t keep path place part h e =
    let none : place.path.0 ≡ [] = place.is_path ∙ ap numbers e in
    let size : length place.path.0 ≡ 0 = ap length none in
    let deep = h.deeper in omega (arith, size, deep)

-- on from a parallel form
pub node_inside : (clock : ℕ) (t : Term) (keep : ℕ) (path : Path) (below : Place) (form part : Term)
    → IsBeside clock t keep path below form → part ≡ form → length below.path.0 ≢ keep
    → IsInside clock t keep path below part
node_inside clock t keep path below form part h e n =
    let high = h.not_above in
    record {
      is_term = ap (rebuilt clock (frames below.stack)) e ∙ h.is_term;
      reached = subst (Reaches clock (frames below.stack)) (sym e) h.reached;
      is_open = ap standing e ∙ h.is_open;
      deeper = omega (arith, high, n);
      same_first = h.same_first;
    }

pub own_beside : (clock : ℕ) (t : Term) (keep : ℕ) (path : Path) (below : Place) (form : Term)
    → IsBeside clock t keep path below form
    → IsBeside clock (rebuilt clock (frames below.stack) form) keep path below form
own_beside clock t keep path below form h =
    record {
      is_term = refl;
      reached = h.reached;
      is_open = h.is_open;
      not_above = h.not_above;
      same_first = h.same_first;
    }

pub beside_sought : (clock : ℕ) (t : Term) (keep : ℕ) (path : Path) (below : Place) (form : Term)
    (s : Seek) → IsBeside clock t keep path below form
    → IsSought clock (rebuilt clock (frames below.stack) form) path s → IsSought clock t path s
beside_sought clock t keep path below form s h k = subst (λ x. IsSought clock x path s) h.is_term k

pub beside_found : (clock : ℕ) (t : Term) (keep : ℕ) (path : Path) (below : Place) (form : Term)
    (x : Result Seek Memory) → IsBeside clock t keep path below form
    → IfOk x (IsSought clock (rebuilt clock (frames below.stack) form) path)
    → IfOk x (IsSought clock t path)
beside_found clock t keep path below form x h k =
    subst (λ u. IfOk x (IsSought clock u path)) h.is_term k

pub order_of : (f : Frame) → ((n : Node) → f ≡ frame.Node n → ⊥) → IsInOrder f
order_of (frame.Node n) k = absurd (k n refl)
order_of _ k = tt
