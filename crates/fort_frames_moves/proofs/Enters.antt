-- Into forms and out of them: frames keep the term.
use Rattle.std.proofs.Common.{◌≡◌, ◌≢◌, ℕ, zero, suc, ◌+◌, ◌<◌, ◌≤◌, Bool, true, false, ◌||◌, ◌&&◌, List, [], ◌∷◌, ◌++◌, length, take, drop, Option, Some, None, refl, ap, sym, ◌∙◌, subst, arith, append_assoc, ◌⊎◌, inl, inr}
use Rattle.std.specs.Prelude.{map, slice_get}
use Rattle.fort_base.specs.declared.ids.SetId.{SetId}
use Rattle.fort_core.specs.declared.form.Mode.{Mode}
use Rattle.fort_core.specs.declared.form.Mode.TheVariants as mode
use Rattle.fort_core.specs.declared.term.Term.{Term, Operator, Atomic, Asleep}
use Rattle.fort_core.specs.declared.term.Term as term
use Rattle.fort_core.specs.declared.value.Value.{Value}
use Rattle.fort_machine.specs.Ends.{throw_of}
use Rattle.fort_machine.specs.Frames.{on, plug}
use Rattle.fort_machine.specs.Attempts.{fresh, slept}
use Rattle.fort_machine.specs.Marked.{Marks}
use Rattle.fort_frames.specs.Frames.{IsInOrder, frame_of, frames_of, frames, rebuilt, Reaches}
use Rattle.fort_frames.specs.States.{Stands}
use Rattle.fort_frames.specs.declared.frame.Frame.{Frame}
use Rattle.fort_frames.specs.declared.frame.Frame.TheVariants as frame
use Rattle.fort_frames.specs.declared.place.Place.{Place}
use Rattle.fort_frames.specs.declared.state.At.TheVariants as at
use Rattle.fort_machine.specs.Attempts as machine
use Rattle.fort_core.specs.declared.form.Slot.{Slot}
use Rattle.fort_core.specs.declared.value.Closure.{Closure}
use Rattle.fort_core.specs.declared.term.Term.{Variable, Fn, Read, While, Group, Stepped}
use Rattle.fort_core.specs.declared.term.Term.TheVariants.{outs-Variable, outs-Fn, outs-Read, outs-While, outs-Group}
use Rattle.fort_machine.specs.Ends.{group}
use Rattle.fort_frames.specs.Heads.{suits, form_of}
use Rattle.fort_frames.specs.declared.head.Head.{Head}
use Rattle.fort_frames.specs.declared.head.Head.TheVariants as head
use Rattle.fort_frames_moves.specs.declared.turn.Ready.{Ready}
use Rattle.fort_frames_moves.specs.declared.turn.Ready.TheVariants as ready
use Rattle.std.specs.Prelude.{nat_lt}
use Rattle.std.specs.List.{list_any}
use Rattle.fort_machine.specs.Ends.{Finished, open_yet, standing, is_still, is_thrown, stepped}
use Rattle.fort_machine.specs.Ends as ends
use Rattle.fort_machine.specs.Frames.{in_stepped, beside, passed}
use Rattle.fort_machine.specs.Frames as frames_machine
use Rattle.fort_machine.proofs.Standing.{stepped_open, still_stepped}
use Rattle.fort_frames.specs.Heads.{frame_at}
use Rattle.fort_frames.specs.Frames.{frame_of_node, is_trodden, mark_if}
use Rattle.fort_frames.specs.declared.node.Node.{Node}
use Rattle.fort_frames_moves.specs.Turns.{IsAt, IsTry, IsStep, IsMade, StepsByItself, ready_term, IsGathered, IsOdd, IsOddUnder, IsOddIn, IsLast, AllOver}
use Rattle.fort_frames_moves.proofs.Waits.{variable_ready, fn_ready, read_ready, while_ready, group_ready, node_ready, operands_ready}
use Rattle.fort_frames_moves.proofs.Waits as waits

and_right : (a b : Bool) → b ≡ false → (a && b) ≡ false
and_right true b e = e
and_right false b e = refl

marked_on : (f : frames_machine.Frame) (t : Term) → passed (f ∷ in_stepped ∷ []) t ≡ false
marked_on f t =
    λ i. and_right (list_any is_thrown (beside f)) (is_still (stepped t)) (still_stepped t) i
    || false

pub at_place : (clock : ℕ) (place : Place) (a : Term) → Reaches clock (frames place.stack) a
    → IsAt clock (rebuilt clock (frames place.stack) a) place a
at_place clock place a r = record { is_term = refl; reached = r }

step_at : (clock : ℕ) (place : Place) (a : Ready) → IsMade a
    → Reaches clock (frames place.stack) (ready_term a) → machine.Ready (ready_term a)
    → IsStep clock (rebuilt clock (frames place.stack) (ready_term a)) place a
step_at clock place a m r w =
    record {
      thread = record { is_at = at_place clock place (ready_term a) r; ready = w };
      made = m;
    }

-- forms that go by themselves
pub variable_thread : (clock : ℕ) (x : ℕ) (place : Place)
    → Reaches clock (frames place.stack) (Variable x)
    → IsStep clock (rebuilt clock (frames place.stack) (Variable x)) place (ready.Form (Variable x))
variable_thread clock x place r =
    step_at clock place (ready.Form (Variable x)) (subst StepsByItself (sym (outs-Variable x)) tt) r
    (variable_ready x)

pub fn_thread : (clock : ℕ) (c : Closure) (place : Place)
    → Reaches clock (frames place.stack) (Fn c)
    → IsStep clock (rebuilt clock (frames place.stack) (Fn c)) place (ready.Form (Fn c))
fn_thread clock c place r =
    step_at clock place (ready.Form (Fn c)) (subst StepsByItself (sym (outs-Fn c)) tt) r
    (fn_ready c)

pub read_thread : (clock : ℕ) (x : Slot) (place : Place)
    → Reaches clock (frames place.stack) (Read x)
    → IsStep clock (rebuilt clock (frames place.stack) (Read x)) place (ready.Form (Read x))
read_thread clock x place r =
    step_at clock place (ready.Form (Read x)) (subst StepsByItself (sym (outs-Read x)) tt) r
    (read_ready x)

pub while_thread : (clock : ℕ) (a b : Term) (place : Place)
    → Reaches clock (frames place.stack) (While a b)
    → IsStep clock (rebuilt clock (frames place.stack) (While a b)) place (ready.Form (While a b))
while_thread clock a b place r =
    step_at clock place (ready.Form (While a b)) (subst StepsByItself (sym (outs-While a b)) tt) r
    (while_ready a b)

-- a mark round what is finished
odd_by : (clock : ℕ) (place : Place) (t inner : Term) → t ≡ Stepped inner
    → Reaches clock (frames place.stack) t → IsOddIn clock (frames place.stack) inner
    → IsOdd clock (rebuilt clock (frames place.stack) t) place t
odd_by clock place t inner e r o =
    record { inner = inner; is_mark = e; is_odd = o; is_at = at_place clock place t r }

odd_round : (clock : ℕ) (fs : List Frame) (inner : Term) → Finished inner → IsOddIn clock fs inner
odd_round clock [] inner f = tt
odd_round clock (frame.Node n ∷ fs) inner f = inr f
odd_round clock (frame.Throw ∷ fs) inner f = tt
odd_round clock (frame.Operand a b c ∷ fs) inner f = tt
odd_round clock (frame.FillSize a b ∷ fs) inner f = tt
odd_round clock (frame.FillValue a b ∷ fs) inner f = tt
odd_round clock (frame.Let a b ∷ fs) inner f = tt
odd_round clock (frame.Mutable a b c ∷ fs) inner f = tt
odd_round clock (frame.Write a ∷ fs) inner f = tt
odd_round clock (frame.Field a ∷ fs) inner f = tt
odd_round clock (frame.FieldTarget a b ∷ fs) inner f = tt
odd_round clock (frame.FieldValue a b ∷ fs) inner f = tt
odd_round clock (frame.Element a ∷ fs) inner f = tt
odd_round clock (frame.Index a ∷ fs) inner f = tt
odd_round clock (frame.ElementTarget a b ∷ fs) inner f = tt
odd_round clock (frame.ElementIndex a b ∷ fs) inner f = tt
odd_round clock (frame.ElementValue a b ∷ fs) inner f = tt
odd_round clock (frame.Size ∷ fs) inner f = tt
odd_round clock (frame.Then a ∷ fs) inner f = tt
odd_round clock (frame.Test a b ∷ fs) inner f = tt
odd_round clock (frame.Subject a b c ∷ fs) inner f = tt
odd_round clock (frame.Source a b c d ∷ fs) inner f = tt
odd_round clock (frame.ReducedSource a b c d e g ∷ fs) inner f = tt
odd_round clock (frame.Try a b c ∷ fs) inner f = tt

pub odd_value : (clock : ℕ) (place : Place) (t inner : Term) → t ≡ Stepped inner
    → Reaches clock (frames place.stack) t → ((v : Value) × (inner ≡ term.Value v))
    → IsOdd clock (rebuilt clock (frames place.stack) t) place t
odd_value clock place t inner e r h =
    odd_by clock place t inner e r
    (odd_round clock (frames place.stack) inner (ends.Finished.value h.0 h.1))

pub odd_throw : (clock : ℕ) (place : Place) (t inner : Term) → t ≡ Stepped inner
    → Reaches clock (frames place.stack) t → ((v : Value) × (inner ≡ throw_of v))
    → IsOdd clock (rebuilt clock (frames place.stack) t) place t
odd_throw clock place t inner e r h =
    odd_by clock place t inner e r
    (odd_round clock (frames place.stack) inner (ends.Finished.throw h.0 h.1))

-- a mark round what is open
pub odd_at_root : (clock : ℕ) (fs : List Frame) (place : Place) (t inner : Term) → t ≡ Stepped inner
    → Reaches clock fs t → fs ≡ [] → frames place.stack ≡ []
    → IsOdd clock (rebuilt clock fs t) place t
odd_at_root clock fs place t inner e r none root =
    let q : fs ≡ frames place.stack = none ∙ sym root in
    subst (λ gs. IsOdd clock (rebuilt clock gs t) place t) (sym q)
    (odd_by clock place t inner e (subst (λ gs. Reaches clock gs t) q r)
    (subst (λ gs. IsOddIn clock gs inner) (sym root) tt))

odd_frame : (clock : ℕ) (f : Frame) (fs : List Frame) (place : Place) (t inner : Term)
    → t ≡ Stepped inner → Reaches clock (f ∷ fs) t → IsOddUnder clock f inner
    → frames place.stack ≡ f ∷ fs → IsOdd clock (rebuilt clock (f ∷ fs) t) place t
odd_frame clock f fs place t inner e r o q =
    subst (λ gs. IsOdd clock (rebuilt clock gs t) place t) q
    (odd_by clock place t inner e (subst (λ gs. Reaches clock gs t) (sym q) r)
    (subst (λ gs. IsOddIn clock gs inner) (sym q) o))

odd_order : (clock : ℕ) (f : Frame) (inner : Term) → IsInOrder f → IsOddUnder clock f inner
odd_order clock (frame.Node n) inner i = absurd i
odd_order clock _ inner i = tt

pub odd_under : (clock : ℕ) (f : Frame) (fs : List Frame) (place : Place) (t inner : Term)
    → IsInOrder f → t ≡ Stepped inner → Reaches clock (f ∷ fs) t → frames place.stack ≡ f ∷ fs
    → IsOdd clock (rebuilt clock (f ∷ fs) t) place t
odd_under clock f fs place t inner i e r q =
    odd_frame clock f fs place t inner e r (odd_order clock f inner i) q

pub odd_in_node : (clock : ℕ) (n : Node) (fs : List Frame) (place : Place) (t inner : Term)
    → (n.stepped || nat_lt n.since clock) ≡ true → t ≡ Stepped inner
    → Reaches clock (frame.Node n ∷ fs) t → frames place.stack ≡ frame.Node n ∷ fs
    → IsOdd clock (rebuilt clock (frame.Node n ∷ fs) t) place t
odd_in_node clock n fs place t inner m e r q =
    odd_frame clock (frame.Node n) fs place t inner e r (inl m) q

-- the mark of a part that has none yet
pub marked_again : (clock : ℕ) (n m : Node) (fs : List Frame) (place : Place) (t inner : Term)
    → (n.stepped || nat_lt n.since clock) ≡ false → t ≡ Stepped inner → standing inner ≡ open_yet
    → Reaches clock (frame.Node n ∷ fs) t
    → m.head ≡ n.head → m.parts ≡ n.parts → m.«at» ≡ n.«at» → m.stepped ≡ true → m.since ≡ n.since
    → frames place.stack ≡ frame.Node m ∷ fs
    → Stands clock (rebuilt clock (frame.Node n ∷ fs) t)
    (record { place = place; «at» = at.Form inner })
marked_again clock n m fs place t inner b e o r h p a s c q =
    let same : frame_of_node m ≡ frame_of_node n =
    (λ i. frame_at (h i) (take (a i) (p i)) (drop (a i + 1) (p i))) in
    let flag : is_trodden clock m ≡ true = ap (λ x. x || nat_lt m.since clock) s in
    let new : frames_of clock (frame.Node m) ≡ frame_of_node n ∷ in_stepped ∷ [] =
    (λ i. same i ∷ mark_if (flag i)) in
    let old : frames_of clock (frame.Node n) ≡ frame_of_node n ∷ [] =
    ap (λ x. frame_of_node n ∷ mark_if x) b in
    let inside : plug (frames_of clock (frame.Node m)) inner
    ≡ plug (frames_of clock (frame.Node n)) t =
    ap (λ gs. plug gs inner) new ∙ ap (on (frame_of_node n)) (stepped_open inner o ∙ sym e)
    ∙ ap (λ gs. plug gs t) (sym old) in
    let low = r.1 in
    record {
      is_term = ap (λ gs. rebuilt clock gs inner) q ∙ ap (rebuilt clock fs) inside;
      reached = subst (λ gs. Reaches clock gs inner) (sym q) (
        ap (λ gs. passed gs inner) new ∙ marked_on (frame_of_node n) inner,
        omega (arith, low, c),
        subst (Reaches clock fs) (sym inside) r.2,
      );
    }

-- parallel forms whose parts are over
pub group_thread : (clock : ℕ) (ts : List Term) (place : Place) → AllOver ts
    → Reaches clock (frames place.stack) (Group ts)
    → IsStep clock (rebuilt clock (frames place.stack) (Group ts)) place (ready.Form (Group ts))
group_thread clock ts place w r =
    step_at clock place (ready.Form (Group ts)) (subst StepsByItself (sym (outs-Group ts)) tt) r
    (group_ready ts w)

pub node_thread : (clock : ℕ) (h : Head) (ts : List Term) (place : Place) → suits h ts ≡ true
    → h ≢ head.Group → AllOver ts → Reaches clock (frames place.stack) (form_of h ts)
    → IsStep clock (rebuilt clock (frames place.stack) (form_of h ts)) place (ready.Node h ts)
node_thread clock h ts place e n w r =
    step_at clock place (ready.Node h ts) (e, n) r (node_ready h ts e n w)

pub gathered : (clock : ℕ) (ts : List Term) (place : Place) → AllOver ts
    → Reaches clock (frames place.stack) (group ts)
    → IsGathered clock (rebuilt clock (frames place.stack) (group ts)) place ts
gathered clock ts place w r = record { is_at = at_place clock place (group ts) r; over = w }

pub operands_thread : (clock : ℕ) (set : SetId) (vs : List Value) (place : Place)
    → Reaches clock (frames place.stack) (Operator set (map term.Value vs))
    → IsStep clock (rebuilt clock (frames place.stack) (Operator set (map term.Value vs))) place
    (ready.Operands set vs)
operands_thread clock set vs place r =
    step_at clock place (ready.Operands set vs) tt r (operands_ready set vs)

pub no_operands : (clock : ℕ) (set : SetId) (ts : List Term) (place : Place) → ts ≡ []
    → Reaches clock (frames place.stack) (Operator set ts)
    → IsStep clock (rebuilt clock (frames place.stack) (Operator set ts)) place
    (ready.Operands set [])
no_operands clock set ts place e r =
    subst (λ us. IsStep clock (rebuilt clock (frames place.stack) (Operator set us)) place
    (ready.Operands set [])) (sym e)
    (operands_thread clock set [] place
    (subst (λ us. Reaches clock (frames place.stack) (Operator set us)) e r))

pub tried_fresh : (clock : ℕ) (m : Mode) (body : Term) (place : Place)
    → Reaches clock (frames place.stack) (Atomic m body)
    → IsTry clock (rebuilt clock (frames place.stack) (Atomic m body)) place (Atomic m body)
tried_fresh clock m body place r =
    record {
      mode = m;
      body = body;
      is_form = fresh refl;
      is_at = at_place clock place (Atomic m body) r;
    }

pub tried_asleep : (clock : ℕ) (marks : Marks) (body : Term) (place : Place)
    → Reaches clock (frames place.stack) (Asleep marks body)
    → IsTry clock (rebuilt clock (frames place.stack) (Asleep marks body)) place (Asleep marks body)
tried_asleep clock marks body place r =
    record {
      mode = mode.Atomic;
      body = body;
      is_form = slept marks refl refl;
      is_at = at_place clock place (Asleep marks body) r;
    }

-- a frame of a form that goes from left to right has no mark
pub plain_frames : (clock : ℕ) (f : Frame) → IsInOrder f → frames_of clock f ≡ frame_of f ∷ []
plain_frames clock (frame.Node n) i = absurd i
plain_frames clock _ i = refl

reach_order : (clock : ℕ) (f : Frame) (fs : List Frame) (t : Term) → IsInOrder f
    → Reaches clock fs (on (frame_of f) t) → Reaches clock (f ∷ fs) t
reach_order clock (frame.Node n) fs t i r = absurd i
reach_order clock frame.Throw fs t i r = (refl, tt, r)
reach_order clock (frame.Operand a b c) fs t i r = (refl, tt, r)
reach_order clock (frame.FillSize a b) fs t i r = (refl, tt, r)
reach_order clock (frame.FillValue a b) fs t i r = (refl, tt, r)
reach_order clock (frame.Let a b) fs t i r = (refl, tt, r)
reach_order clock (frame.Mutable a b c) fs t i r = (refl, tt, r)
reach_order clock (frame.Write a) fs t i r = (refl, tt, r)
reach_order clock (frame.Field a) fs t i r = (refl, tt, r)
reach_order clock (frame.FieldTarget a b) fs t i r = (refl, tt, r)
reach_order clock (frame.FieldValue a b) fs t i r = (refl, tt, r)
reach_order clock (frame.Element a) fs t i r = (refl, tt, r)
reach_order clock (frame.Index a) fs t i r = (refl, tt, r)
reach_order clock (frame.ElementTarget a b) fs t i r = (refl, tt, r)
reach_order clock (frame.ElementIndex a b) fs t i r = (refl, tt, r)
reach_order clock (frame.ElementValue a b) fs t i r = (refl, tt, r)
reach_order clock frame.Size fs t i r = (refl, tt, r)
reach_order clock (frame.Then a) fs t i r = (refl, tt, r)
reach_order clock (frame.Test a b) fs t i r = (refl, tt, r)
reach_order clock (frame.Subject a b c) fs t i r = (refl, tt, r)
reach_order clock (frame.Source a b c d) fs t i r = (refl, tt, r)
reach_order clock (frame.ReducedSource a b c d e f) fs t i r = (refl, tt, r)
reach_order clock (frame.Try a b c) fs t i r = (refl, tt, r)

pub into_order : (clock : ℕ) (place inner : Place) (f : Frame) (t : Term) → IsInOrder f
    → Reaches clock (frames place.stack) (on (frame_of f) t)
    → frames inner.stack ≡ f ∷ frames place.stack
    → Stands clock (rebuilt clock (frames place.stack) (on (frame_of f) t))
    (record { place = inner; «at» = at.Form t })
into_order clock place inner f t i r e = record {
  is_term =
      ap (λ fs. rebuilt clock fs t) e
      ∙ ap (λ gs. rebuilt clock (frames place.stack) (plug gs t)) (plain_frames clock f i);
  reached =
      subst (λ fs. Reaches clock fs t) (sym e) (reach_order clock f (frames place.stack) t i r);
}

-- a form with its part at an end
ready_at : (clock : ℕ) (f : Frame) (t : Term) (place : Place) → IsInOrder f
    → Reaches clock (frames place.stack) (plug (frames_of clock f) t)
    → IsAt clock (rebuilt clock (frames place.stack) (plug (frames_of clock f) t)) place
    (on (frame_of f) t)
ready_at clock f t place i r =
    let e = plain_frames clock f i in record {
      is_term = ap (λ gs. rebuilt clock (frames place.stack) (plug gs t)) (sym e);
      reached = subst (λ gs. Reaches clock (frames place.stack) (plug gs t)) e r;
    }

pub value_ready : (clock : ℕ) (f : Frame) (v : Value) (place : Place) → IsInOrder f → IsLast f
    → Reaches clock (frames place.stack) (plug (frames_of clock f) (term.Value v))
    → IsStep clock (rebuilt clock (frames place.stack) (plug (frames_of clock f) (term.Value v)))
    place (ready.Value f v)
value_ready clock f v place i l r =
    record {
      thread =
          record {
            is_at = ready_at clock f (term.Value v) place i r;
            ready = waits.value_ready f v l;
          };
      made = i;
    }

pub throw_ready : (clock : ℕ) (f : Frame) (v : Value) (place : Place) → IsInOrder f
    → Reaches clock (frames place.stack) (plug (frames_of clock f) (throw_of v))
    → IsStep clock (rebuilt clock (frames place.stack) (plug (frames_of clock f) (throw_of v)))
    place (ready.Throw f v)
throw_ready clock f v place i r =
    record {
      thread =
          record { is_at = ready_at clock f (throw_of v) place i r; ready = waits.throw_ready f v i };
      made = i;
    }

pub left_ready : (clock : ℕ) (f : Frame) (t u : Term) (place : Place) → IsInOrder f
    → Reaches clock (frames place.stack) (plug (frames_of clock f) t) → u ≡ on (frame_of f) t
    → Stands clock (rebuilt clock (frames place.stack) (plug (frames_of clock f) t))
    (record { place = place; «at» = at.Left u })
left_ready clock f t u place i r e =
    let h = ready_at clock f t place i r in record {
      is_term = ap (rebuilt clock (frames place.stack)) e ∙ h.is_term;
      reached = subst (Reaches clock (frames place.stack)) (sym e) h.reached;
    }

pub ruleset enters_by_itself =
    (variable_thread, fn_thread, read_thread, while_thread, tried_fresh, tried_asleep)

-- operands, one after the other
pub no_first : (ts : List Term) → slice_get ts 0 ≡ None → ts ≡ []
no_first [] e = refl
no_first (t ∷ ts) e = absurd cc

pub first_operand : (ts : List Term) (t : Term) → slice_get ts 0 ≡ Some t → t ∷ drop 1 ts ≡ ts
first_operand [] t e = absurd cc
first_operand (x ∷ ts) t e = let q : x ≡ t = cc in ap (λ y. y ∷ ts) (sym q)

no_more : (ts : List Term) (i : ℕ) → slice_get ts i ≡ None → drop i ts ≡ []
no_more [] zero e = refl
no_more [] (suc i) e = refl
no_more (t ∷ ts) zero e = absurd cc
no_more (t ∷ ts) (suc i) e = no_more ts i e

one_more : (ts : List Term) (i : ℕ) (t : Term) → slice_get ts i ≡ Some t
    → drop i ts ≡ t ∷ drop (suc i) ts
one_more [] zero t e = absurd cc
one_more [] (suc i) t e = absurd cc
one_more (x ∷ ts) zero t e = let q : x ≡ t = cc in ap (λ y. y ∷ ts) q
one_more (x ∷ ts) (suc i) t e = one_more ts i t e

all_values : (vs : List Value) (v : Value)
    → map term.Value (vs ++ v ∷ []) ≡ map term.Value vs ++ term.Value v ∷ []
all_values [] v = refl
all_values (u ∷ vs) v = ap (λ xs. term.Value u ∷ xs) (all_values vs v)

one_longer : (vs : List Value) (v : Value) → length (vs ++ v ∷ []) ≡ length vs + 1
one_longer [] v = refl
one_longer (u ∷ vs) v = omega (arith, one_longer vs v)

-- all operands are values
pub operands_end : (set : SetId) (vs : List Value) (ts : List Term) (v : Value)
    → slice_get ts (length vs + 1) ≡ None
    → on (frame_of (frame.Operand set vs ts)) (term.Value v)
    ≡ Operator set (map term.Value (vs ++ v ∷ []))
operands_end set vs ts v e =
    ap (λ xs. Operator set (map term.Value vs ++ term.Value v ∷ xs)) (no_more ts (length vs + 1) e)
    ∙ ap (Operator set) (sym (all_values vs v))

-- the next operand
pub operand_next : (set : SetId) (vs : List Value) (ts : List Term) (v : Value) (u : Term)
    → slice_get ts (length vs + 1) ≡ Some u
    → on (frame_of (frame.Operand set vs ts)) (term.Value v)
    ≡ on (frame_of (frame.Operand set (vs ++ v ∷ []) ts)) u
operand_next set vs ts v u e =
    let q : suc (length vs + 1) ≡ length (vs ++ v ∷ []) + 1 = omega (arith, one_longer vs v) in
    ap (λ xs. Operator set (map term.Value vs ++ term.Value v ∷ xs))
    (one_more ts (length vs + 1) u e ∙ ap (λ n. u ∷ drop n ts) q)
    ∙ ap (Operator set)
    (sym (append_assoc (map term.Value vs) (term.Value v ∷ [])
    (u ∷ drop (length (vs ++ v ∷ []) + 1) ts))
    ∙ ap (λ xs. xs ++ u ∷ drop (length (vs ++ v ∷ []) + 1) ts) (sym (all_values vs v)))

-- the last operand: its operator is a thread
pub operands_end_thread : (clock : ℕ) (set : SetId) (vs : List Value) (ts : List Term) (v : Value)
    (place : Place) → slice_get ts (length vs + 1) ≡ None
    → Reaches clock (frames place.stack) (on (frame_of (frame.Operand set vs ts)) (term.Value v))
    → IsStep clock
    (rebuilt clock (frames place.stack) (on (frame_of (frame.Operand set vs ts)) (term.Value v)))
    place (ready.Operands set (vs ++ v ∷ []))
operands_end_thread clock set vs ts v place e r =
    let q = operands_end set vs ts v e in
    subst (λ u. IsStep clock (rebuilt clock (frames place.stack) u) place
    (ready.Operands set (vs ++ v ∷ []))) (sym q)
    (operands_thread clock set (vs ++ v ∷ []) place
    (subst (Reaches clock (frames place.stack)) q r))
