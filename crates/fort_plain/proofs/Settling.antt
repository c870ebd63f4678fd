-- How a form stands, by how its part stands that a frame leaves out.
use Rattle.std.proofs.Common.{◌≡◌, ℕ, ◌<◌, Bool, true, false, List, [], ◌∷◌, ◌++◌, length, Option, None, Some, take, drop, refl, ap, sym, ◌∙◌, subst, arith, ◌+◌}
use Rattle.std.specs.Prelude.{option_map, option_and_then, slice_set}
use Rattle.fort_core.specs.declared.term.Term.{Term, Throw, out-Term}
use Rattle.fort_core.specs.declared.term.Term as term
use Rattle.fort_core.specs.declared.term.Term.TheVariants.{outs-Value, outs-Throw, outs-Call, outs-Apply, outs-Also, outs-ForHalves, outs-ReduceHalves, outs-Operator, outs-Fill, outs-Let, outs-Mutable, outs-Write, outs-ReadField, outs-WriteField, outs-ReadElement, outs-WriteElement, outs-Size, outs-Then, outs-If, outs-Typecase, outs-For, outs-Reduce, outs-Try, outs-Group}
use Rattle.fort_core.specs.declared.value.Value.{Value}
use Rattle.fort_machine.specs.Ends.{Finished, open_yet, standing, standing_at, throw_of, value_at, values_of, group}
use Rattle.fort_machine.specs.Ends as ends
use Rattle.fort_machine.specs.Frames.{on, plug}
use Rattle.fort_machine.proofs.Standing.{is_open, not_finished, group_open, stepped_finished, standing-throw}
use Rattle.fort_machine.proofs.Places.{plug_open}
use Rattle.fort_frames.specs.Heads.{suits, form_of}
use Rattle.fort_frames.specs.Frames.{IsInOrder, frame_of, frame_of_node, frames, frames_of, is_trodden, mark_if, rebuilt}
use Rattle.fort_frames.specs.States.{term_at}
use Rattle.fort_frames.specs.declared.frame.Frame.{Frame}
use Rattle.fort_frames.specs.declared.frame.Frame.TheVariants as frame
use Rattle.fort_frames.specs.declared.head.Head.{Head}
use Rattle.fort_frames.specs.declared.head.Head.TheVariants as head
use Rattle.fort_frames.specs.declared.node.Node.{Node}
use Rattle.fort_frames.specs.declared.place.Place.{Place}
use Rattle.fort_frames.specs.declared.state.State.{State}
use Rattle.fort_frames.proofs.Same.{node_suits, node_is_form}
use Rattle.fort_frames_moves.proofs.Parts.{put_part}
use Rattle.fort_plain.specs.Paths.{IsSettled, whole}
use Rattle.fort_plain.specs.declared.settled.Settled.{Settled}

-- ---- terms

pub neither : (t : Term) → ((v : Value) → t ≡ term.Value v → ⊥) → ((u : Term) → t ≡ Throw u → ⊥)
    → Finished t → ⊥
neither t nv nt (ends.Finished.value v e) = nv v e
neither t nv nt (ends.Finished.throw v e) = nt (term.Value v) e

pub no_throw_yet : (u : Term) → ((v : Value) → u ≡ term.Value v → ⊥) → Finished (Throw u) → ⊥
no_throw_yet u nv (ends.Finished.value v e) =
    let z = sym (outs-Throw u) ∙ ap out-Term e ∙ outs-Value v in absurd cc
no_throw_yet u nv (ends.Finished.throw v e) =
    let z = sym (outs-Throw u) ∙ ap out-Term e ∙ outs-Throw (term.Value v) in
    nv v (cc)

-- ---- frames

-- a form of a frame that goes from left to right is open, whatever its part, but a throw's
order_open : (f : Frame) (t : Term) → IsInOrder f → (f ≡ frame.Throw → ⊥)
    → standing (on (frame_of f) t) ≡ open_yet
order_open (frame.Node n) t i k = absurd i
order_open frame.Throw t i k = absurd (k refl)
order_open (frame.Operand a b c) t i k = ap standing_at (outs-Operator _ _)
order_open (frame.FillSize a b) t i k = ap standing_at (outs-Fill _ _ _)
order_open (frame.FillValue a b) t i k = ap standing_at (outs-Fill _ _ _)
order_open (frame.Let a b) t i k = ap standing_at (outs-Let _ _ _)
order_open (frame.Mutable a b c) t i k = ap standing_at (outs-Mutable _ _ _ _)
order_open (frame.Write a) t i k = ap standing_at (outs-Write _ _)
order_open (frame.Field a) t i k = ap standing_at (outs-ReadField _ _)
order_open (frame.FieldTarget a b) t i k = ap standing_at (outs-WriteField _ _ _)
order_open (frame.FieldValue a b) t i k = ap standing_at (outs-WriteField _ _ _)
order_open (frame.Element a) t i k = ap standing_at (outs-ReadElement _ _)
order_open (frame.Index a) t i k = ap standing_at (outs-ReadElement _ _)
order_open (frame.ElementTarget a b) t i k = ap standing_at (outs-WriteElement _ _ _)
order_open (frame.ElementIndex a b) t i k = ap standing_at (outs-WriteElement _ _ _)
order_open (frame.ElementValue a b) t i k = ap standing_at (outs-WriteElement _ _ _)
order_open frame.Size t i k = ap standing_at (outs-Size _)
order_open (frame.Then a) t i k = ap standing_at (outs-Then _ _)
order_open (frame.Test a b) t i k = ap standing_at (outs-If _ _ _)
order_open (frame.Subject a b c) t i k = ap standing_at (outs-Typecase _ _ _ _)
order_open (frame.Source a b c d) t i k = ap standing_at (outs-For _ _ _ _ _)
order_open (frame.ReducedSource a b c d e f) t i k = ap standing_at (outs-Reduce _ _ _ _ _ _ _)
order_open (frame.Try a b c) t i k = ap standing_at (outs-Try _ _ _ _)

-- so is a parallel form, but a tuple
node_open : (h : Head) (ts : List Term) → suits h ts ≡ true → (h ≡ head.Group → ⊥)
    → standing (form_of h ts) ≡ open_yet
node_open head.Group ts s k = absurd (k refl)
node_open (head.Call set) ts s k = ap standing_at (outs-Call _ _)
node_open head.Apply (a ∷ b ∷ []) s k = ap standing_at (outs-Apply _ _)
node_open head.Apply [] s k = let z : false ≡ true = s in absurd cc
node_open head.Apply (a ∷ []) s k = let z : false ≡ true = s in absurd cc
node_open head.Apply (a ∷ b ∷ c ∷ ts) s k = let z : false ≡ true = s in absurd cc
node_open head.Also ts s k = ap standing_at (outs-Also _)
node_open head.ForHalves (a ∷ b ∷ []) s k = ap standing_at (outs-ForHalves _ _)
node_open head.ForHalves [] s k = let z : false ≡ true = s in absurd cc
node_open head.ForHalves (a ∷ []) s k = let z : false ≡ true = s in absurd cc
node_open head.ForHalves (a ∷ b ∷ c ∷ ts) s k = let z : false ≡ true = s in absurd cc
node_open (head.ReduceHalves set) (a ∷ b ∷ []) s k = ap standing_at (outs-ReduceHalves _ _ _)
node_open (head.ReduceHalves set) [] s k = let z : false ≡ true = s in absurd cc
node_open (head.ReduceHalves set) (a ∷ []) s k = let z : false ≡ true = s in absurd cc
node_open (head.ReduceHalves set) (a ∷ b ∷ c ∷ ts) s k = let z : false ≡ true = s in absurd cc

-- a tuple with a throw as a part is open
none_then : (o : Option Value)
    → option_and_then (λ (v : Value). option_map (λ (vs : List Value). v ∷ vs) None) o ≡ None
none_then None = refl
none_then (Some v) = refl

values_thrown : (before behind : List Term) (v : Value)
    → values_of (before ++ throw_of v ∷ behind) ≡ None
values_thrown [] behind v =
    ap (λ st. option_and_then (λ
    (w : Value). option_map (λ (vs : List Value). w ∷ vs) (values_of behind)) (value_at st))
    (standing-throw v)
values_thrown (t ∷ before) behind v =
    ap (λ rest. option_and_then (λ
    (w : Value). option_map (λ (vs : List Value). w ∷ vs) rest) (value_at (standing t)))
    (values_thrown before behind v) ∙ none_then (value_at (standing t))

group_thrown : (before behind : List Term) (v : Value)
    → standing (group (before ++ throw_of v ∷ behind)) ≡ open_yet
group_thrown before behind v =
    ap standing (group_open (before ++ throw_of v ∷ behind) (values_thrown before behind v))
    ∙ ap standing_at (outs-Group _)

-- a finished part has no mark
unmarked : (b : Bool) (t : Term) → Finished t → plug (mark_if b) t ≡ t
unmarked true t f = stepped_finished t f
unmarked false t f = refl

-- a parallel form with a finished part in its place
node_is : (clock : ℕ) (n : Node) (t : Term) → Finished t
    → plug (frames_of clock (frame.Node n)) t
    ≡ form_of n.head (take n.«at» n.parts ++ t ∷ drop (n.«at» + 1) n.parts)
node_is clock n t f =
    ap (on (frame_of_node n)) (unmarked (is_trodden clock n) t f) ∙ node_is_form n t

node_with_throw : (clock : ℕ) (n : Node) (v : Value) (h : Head) → n.head ≡ h
    → standing (plug (frames_of clock (frame.Node n)) (throw_of v)) ≡ open_yet
node_with_throw clock n v head.Group e =
    ap standing (node_is clock n (throw_of v) (ends.Finished.throw v refl)
    ∙ ap (λ x. form_of x (take n.«at» n.parts ++ throw_of v ∷ drop (n.«at» + 1) n.parts)) e)
    ∙ group_thrown (take n.«at» n.parts) (drop (n.«at» + 1) n.parts) v
node_with_throw clock n v h e =
    ap standing (node_is clock n (throw_of v) (ends.Finished.throw v refl))
    ∙ node_open n.head _ (node_suits n (throw_of v)) (λ q. let z = sym e ∙ q in absurd cc)

node_with_value : (clock : ℕ) (n : Node) (v : Value) → (n.head ≡ head.Group → ⊥)
    → standing (plug (frames_of clock (frame.Node n)) (term.Value v)) ≡ open_yet
node_with_value clock n v k =
    ap standing (node_is clock n (term.Value v) (ends.Finished.value v refl))
    ∙ node_open n.head _ (node_suits n (term.Value v)) k

-- a throw of what is thrown is open
throw_thrown : (v : Value) → standing (Throw (throw_of v)) ≡ open_yet
throw_thrown v =
    ap standing_at (outs-Throw (throw_of v)) ∙ ap ends.of_thrown (outs-Throw (term.Value v))

frame_with_throw : (clock : ℕ) (f : Frame) (v : Value)
    → standing (plug (frames_of clock f) (throw_of v)) ≡ open_yet
frame_with_throw clock (frame.Node n) v = node_with_throw clock n v n.head refl
frame_with_throw clock frame.Throw v = throw_thrown v
frame_with_throw clock f v = order_open f (throw_of v) tt (λ e. absurd cc)

pub throw_inside : (clock : ℕ) (f : Frame) (t : Term) (v : Value) → t ≡ throw_of v
    → Finished (plug (frames_of clock f) t) → ⊥
throw_inside clock f t v e h =
    not_finished (plug (frames_of clock f) t)
    (ap (λ x. standing (plug (frames_of clock f) x)) e ∙ frame_with_throw clock f v) h

pub open_inside : (clock : ℕ) (f : Frame) (t : Term) → (Finished t → ⊥)
    → Finished (plug (frames_of clock f) t) → ⊥
open_inside clock f t n h =
    not_finished (plug (frames_of clock f) t) (plug_open (frames_of clock f) t (is_open t n)) h

-- a value in the place
pub value_inside : (clock : ℕ) (f : Frame) (v : Value) → ((n : Node) → f ≡ frame.Node n → ⊥)
    → (f ≡ frame.Throw → ⊥) → Finished (plug (frames_of clock f) (term.Value v)) → ⊥
value_inside clock (frame.Node n) v k t h = absurd (k n refl)
value_inside clock frame.Throw v k t h = absurd (t refl)
value_inside clock f v k t h =
    not_finished (plug (frames_of clock f) (term.Value v))
    (order_open f (term.Value v) tt (λ e. absurd cc)) h

pub value_in_other : (clock : ℕ) (n : Node) (v : Value) → (n.head ≡ head.Group → ⊥)
    → Finished (plug (frames_of clock (frame.Node n)) (term.Value v)) → ⊥
value_in_other clock n v k h =
    not_finished (plug (frames_of clock (frame.Node n)) (term.Value v))
    (node_with_value clock n v k) h

pub value_in_group : (clock : ℕ) (n : Node) (v : Value) (parts : List Term) (form : Term)
    (s : Settled) → n.head ≡ head.Group → parts ≡ slice_set n.parts n.«at» (term.Value v)
    → form ≡ group parts → IsSettled form s
    → IsSettled (plug (frames_of clock (frame.Node n)) (term.Value v)) s
value_in_group clock n v parts form s h p f k =
    subst (λ x. IsSettled x s)
    (f ∙ ap group p ∙ ap (λ x. form_of x (slice_set n.parts n.«at» (term.Value v))) (sym h)
    ∙ put_part clock n (term.Value v) (term.Value v)
    (sym (unmarked (is_trodden clock n) (term.Value v) (ends.Finished.value v refl)))) k

-- ---- out of all frames

pub record SettledSoFar (clock : ℕ) (t : Term) (place : Place) (s : Settled) : Type 0 where
  pub part : Term
  pub is_term : rebuilt clock (frames place.stack) part ≡ t
  pub is_settled : IsSettled part s

pub settled_first : (clock : ℕ) (state : State) (s : Settled) → IsSettled (term_at state.«at») s
    → SettledSoFar clock (whole clock state) state.place s
settled_first clock state s h =
    record { part = term_at state.«at»; is_term = refl; is_settled = h }

pub settled_out : (clock : ℕ) (t : Term) (place below : Place) (f : Frame) (s r : Settled)
    → SettledSoFar clock t place s → frames place.stack ≡ f ∷ frames below.stack
    → ((c : ℕ) (u : Term) → IsSettled u s → IsSettled (plug (frames_of c f) u) r)
    → SettledSoFar clock t below r
settled_out clock t place below f s r h e k = record {
  part = plug (frames_of clock f) h.part;
  is_term = sym (ap (λ fs. rebuilt clock fs h.part) e) ∙ h.is_term;
  is_settled = k clock h.part h.is_settled;
}

pub settled_all : (clock : ℕ) (t : Term) (place : Place) (s : Settled)
    → SettledSoFar clock t place s → frames place.stack ≡ [] → IsSettled t s
settled_all clock t place s h e =
    subst (λ x. IsSettled x s) (sym (ap (λ fs. rebuilt clock fs h.part) e) ∙ h.is_term)
    h.is_settled

-- one frame fewer
pub fewer : (place below : Place) (f : Frame) → frames place.stack ≡ f ∷ frames below.stack
    → length (frames below.stack) < length (frames place.stack)
fewer place below f e =
    let z : length (frames place.stack) ≡ length (f ∷ frames below.stack) = ap length e in
    omega (arith, z)
