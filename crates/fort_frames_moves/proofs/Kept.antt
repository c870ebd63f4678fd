-- Moves keep what stands to the left.
use Rattle.std.proofs.Common.{◌≡◌, ℕ, ◌+◌, ◌<◌, Bool, true, false, List, [], ◌∷◌, ◌++◌, length, take, drop, Result, IfOk, Some, refl, ap, sym, ◌∙◌, subst, ◌⊎◌, inl, inr}
use Rattle.std.specs.Prelude.{slice_get, slice_set}
use Rattle.std.proofs.lemmas.Result.{IfOk-weaker}
use Rattle.fort_base.specs.declared.refusal.Memory.{Memory}
use Rattle.fort_core.specs.declared.term.Term.{Term}
use Rattle.fort_core.specs.declared.term.Term as term
use Rattle.fort_core.specs.declared.value.Value.{Value}
use Rattle.fort_machine.specs.Ends.{Finished, open_yet, standing, throw_of, is_thrown, throws_by}
use Rattle.fort_machine.specs.Ends as ends
use Rattle.fort_machine.specs.Frames.{on, plug}
use Rattle.fort_machine.proofs.Places.{plug_open}
use Rattle.fort_frames.specs.Heads.{suits}
use Rattle.fort_frames.specs.declared.head.Head.{Head}
use Rattle.fort_frames.specs.Frames.{IsInOrder, frame_of, frames, mark_if, rebuilt}
use Rattle.fort_frames.specs.States.{term_at, Stands}
use Rattle.fort_frames.specs.declared.frame.Frame.{Frame}
use Rattle.fort_frames.specs.declared.frame.Frame.TheVariants as frame
use Rattle.fort_frames.specs.declared.node.Node.{Node}
use Rattle.fort_frames.specs.declared.place.Place.{Place}
use Rattle.fort_frames.specs.declared.state.At.TheVariants as at
use Rattle.fort_frames.specs.declared.state.State.{State}
use Rattle.fort_frames.proofs.Heads.{put_back}
use Rattle.fort_frames_moves.specs.Turns.{AreOver, IsNext, IsStop, raw_form}
use Rattle.fort_frames_moves.specs.declared.across.Next.{Next}
use Rattle.fort_frames_moves.specs.declared.turn.Ready.{Ready}
use Rattle.fort_frames_moves.specs.declared.turn.Stop.{Stop}
use Rattle.fort_frames_moves.specs.declared.turn.Stop.TheVariants as stop
use Rattle.fort_frames_moves.specs.declared.turn.Turn.{Turn}
use Rattle.fort_frames_moves.specs.declared.turn.Turn.TheVariants as turn
use Rattle.fort_frames_moves.specs.Sweeps.{AreMet, SweptAt, Swept, SweptTo, IsLeft, Keeps, MissesNone}
use Rattle.fort_frames_moves.proofs.Parts.{part_in}
use Rattle.fort_frames_moves.proofs.Missed.{get_same, none_met, met_on, left_node, left_inner, back_met}

weaken : (A B : List Term → Type 0) (t : Turn) → ((met : List Term) → B met → A met) → Keeps A t
    → Keeps B t
weaken A B t f h = record { keeps = λ met b. h.keeps met (f met b) }

pub weaker : (r : Result Turn Memory) (A B : List Term → Type 0)
    → ((met : List Term) → B met → A met) → IfOk r (Keeps A) → IfOk r (Keeps B)
weaker r A B f h = IfOk-weaker r (Keeps A) (Keeps B) (λ t k. weaken A B t f k) h

-- what is found at a place
pub steps_below : (below : Place) (f : Frame) (r : Ready)
    → Keeps (λ met. SweptAt met f
    × Swept met (frames below.stack)) (turn.Stops (stop.Steps below r))
steps_below below f r = record { keeps = λ met h. h.1 }

pub throw_below : (below : Place) (v : Value)
    → Keeps (λ met. Unit {0}
    × Swept met (frames below.stack)) (turn.Moves (record { place = below; «at» = at.Throw v }))
throw_below below v = record { keeps = λ met h. record { swept = h.1; is_left = tt } }

pub steps_kept : (place : Place) (r : Ready)
    → Keeps (λ met. Swept met (frames place.stack)) (turn.Stops (stop.Steps place r))
steps_kept place r = record { keeps = λ met h. h }

pub groups_kept : (place : Place) (ts : List Term)
    → Keeps (λ met. Swept met (frames place.stack)) (turn.Stops (stop.Groups place ts))
groups_kept place ts = record { keeps = λ met h. h }

pub tries_kept : (place : Place) (t : Term)
    → Keeps (λ met. Swept met (frames place.stack)) (turn.Stops (stop.Tries place t))
tries_kept place t = record { keeps = λ met h. h }

pub odd_kept : (place : Place) (t : Term)
    → Keeps (λ met. Swept met (frames place.stack)) (turn.Stops (stop.Odd place t))
odd_kept place t = record { keeps = λ met h. h }

pub odd_root : (fs : List Frame) (place : Place) (t : Term) → fs ≡ [] → frames place.stack ≡ []
    → Keeps (λ met. Swept met fs) (turn.Stops (stop.Odd place t))
odd_root fs place t e q = record { keeps = λ met h. subst (Swept met) (sym q) tt }

pub odd_in : (f : Frame) (fs : List Frame) (place : Place) (t : Term) → frames place.stack ≡ f ∷ fs
    → Keeps (λ met. Swept met (f ∷ fs)) (turn.Stops (stop.Odd place t))
odd_in f fs place t q = record { keeps = λ met h. subst (Swept met) (sym q) h }

pub again_kept : (n m : Node) (fs : List Frame) (place : Place) (t : Term) → m.parts ≡ n.parts
    → m.«at» ≡ n.«at» → frames place.stack ≡ frame.Node m ∷ fs
    → Keeps (λ met. Swept met (frame.Node n ∷ fs))
    (turn.Moves (record { place = place; «at» = at.Form t }))
again_kept n m fs place t p a q = record {
  keeps = λ met h. record {
    swept = subst (Swept met) (sym q) (
      (
        (subst (λ ts. AreMet met ts m.«at») (sym p) (subst (AreMet met n.parts) (sym a) h.0.0)),
        (λ u e. h.0.1 u (sym (λ i. slice_get (p i) (a i)) ∙ e)),
      ),
      h.1,
    );
    is_left = tt;
  };
}

-- finished there, or at the end
pub value_kept : (place : Place) (v : Value)
    → Keeps (λ met. Swept met (frames place.stack))
    (turn.Moves (record { place = place; «at» = at.Value v }))
value_kept place v = record { keeps = λ met h. record { swept = h; is_left = tt } }

pub throw_kept : (place : Place) (v : Value)
    → Keeps (λ met. Swept met (frames place.stack))
    (turn.Moves (record { place = place; «at» = at.Throw v }))
throw_kept place v = record { keeps = λ met h. record { swept = h; is_left = tt } }

pub ends_value : (A : List Term → Type 0) (v : Value)
    → Keeps A (turn.Stops (stop.Ends (at.Value v)))
ends_value A v = record { keeps = λ met h. tt }

pub ends_throw : (A : List Term → Type 0) (v : Value)
    → Keeps A (turn.Stops (stop.Ends (at.Throw v)))
ends_throw A v = record { keeps = λ met h. tt }

pub ends_left : (place : Place) (t : Term)
    → Keeps (λ met. Swept met (frames place.stack)
    × IsLeft met t) (turn.Stops (stop.Ends (at.Left t)))
ends_left place t = record { keeps = λ met h. h.1 }

-- into a part
swept_order : (met : List Term) (f : Frame) → IsInOrder f → SweptAt met f
swept_order met (frame.Node n) i = absurd i
swept_order met _ i = tt

pub into_kept : (place inner : Place) (f : Frame) (t : Term) → IsInOrder f
    → frames inner.stack ≡ f ∷ frames place.stack
    → Keeps (λ met. Swept met (frames place.stack))
    (turn.Moves (record { place = inner; «at» = at.Form t }))
into_kept place inner f t i e =
    record {
      keeps =
          λ met h. record {
            swept = subst (Swept met) (sym e) (swept_order met f i, h);
            is_left = tt;
          };
    }

own_part : (ts : List Term) (i : ℕ) (x u : Term) → i < length ts
    → take i ts ++ x ∷ drop (i + 1) ts ≡ ts → slice_get ts i ≡ Some u → u ≡ x
own_part ts i x u low e q =
    get_same ts i x u (ap (λ ys. slice_get ys i) (sym (put_back ts i x low) ∙ e) ∙ q)

next_thrown : (ts : List Term) (n : Next) → IsNext ts n → (u : Term) → slice_get ts n.«at» ≡ Some u
    → is_thrown u ≡ false
next_thrown ts n k u q =
    let x = plug (mark_if n.stepped) n.part in
    let e : u ≡ x =
    own_part ts n.«at» x u k.within
    (part_in (take n.«at» ts) (drop (n.«at» + 1) ts) n.part n.stepped ts k.is_part) q in
    ap is_thrown e ∙ ap throws_by (plug_open (mark_if n.stepped) n.part k.is_open)

pub entered_kept : (place inner : Place) (n : Node) (t : Term)
    → IsNext n.parts (record { «at» = n.«at»; part = t; stepped = n.stepped })
    → frames inner.stack ≡ frame.Node n ∷ frames place.stack
    → Keeps (λ met. AreMet met n.parts n.«at»
    × Swept met (frames place.stack)) (turn.Moves (record { place = inner; «at» = at.Form t }))
entered_kept place inner n t k e = record {
  keeps = λ met h. record {
    swept = subst (Swept met) (sym e) (
      (h.0, next_thrown n.parts (record { «at» = n.«at»; part = t; stepped = n.stepped }) k),
      h.1,
    );
    is_left = tt;
  };
}

-- across the parts
pub across_kept : (r : Result Turn Memory) (place : Place) (ts : List Term) (from to : ℕ)
    → AreOver ts from to → IfOk r (Keeps (λ met. AreMet met ts to × Swept met (frames place.stack)))
    → IfOk r (Keeps (λ met. AreMet met ts from × Swept met (frames place.stack)))
across_kept r place ts from to k h = weaker r _ _ (λ met b. (met_on met ts from to b.0 k, b.1)) h

pub first_kept : (r : Result Turn Memory) (place : Place) (ts : List Term)
    → IfOk r (Keeps (λ met. AreMet met ts 0 × Swept met (frames place.stack)))
    → IfOk r (Keeps (λ met. Swept met (frames place.stack)))
first_kept r place ts h = weaker r _ _ (λ met b. (none_met met ts, b)) h

pub opened_kept : (r : Result Turn Memory) (place : Place) (ts : List Term) (to : ℕ)
    → AreOver ts 0 to → IfOk r (Keeps (λ met. AreMet met ts to × Swept met (frames place.stack)))
    → IfOk r (Keeps (λ met. Swept met (frames place.stack)))
opened_kept r place ts to k h =
    weaker r _ _ (λ met b. (met_on met ts 0 to (none_met met ts) k, b)) h

pub left_kept : (place : Place) (h : Head) (ts : List Term) (n : Next) (u : Term)
    → suits h ts ≡ true → IsNext ts n → u ≡ raw_form h ts
    → Keeps (λ met. AreMet met ts (length ts)
    × Swept met (frames place.stack)) (turn.Moves (record { place = place; «at» = at.Left u }))
left_kept place h ts n u s k e =
    record { keeps = λ met b. record { swept = b.1; is_left = left_node met h ts n u s k e b.0 } }

-- out of a part
pub below_kept : (r : Result Turn Memory) (f : Frame) (below : Place)
    → IfOk r (Keeps (λ met. Swept met (frames below.stack)))
    → IfOk r (Keeps (λ met. SweptAt met f × Swept met (frames below.stack)))
below_kept r f below h = weaker r _ _ (λ met b. b.1) h

pub out_kept : (r : Result Turn Memory) (place below : Place) (f : Frame)
    → frames place.stack ≡ f ∷ frames below.stack
    → IfOk r (Keeps (λ met. SweptAt met f × Swept met (frames below.stack)))
    → IfOk r (Keeps (λ met. Swept met (frames place.stack)))
out_kept r place below f e h = weaker r _ _ (λ met b. subst (Swept met) e b) h

pub left_out : (r : Result Turn Memory) (place below : Place) (f : Frame) (t : Term)
    → frames place.stack ≡ f ∷ frames below.stack
    → IfOk r (Keeps (λ met. (SweptAt met f × Swept met (frames below.stack)) × IsLeft met t))
    → IfOk r (Keeps (λ met. Swept met (frames place.stack) × IsLeft met t))
left_out r place below f t e h = weaker r _ _ (λ met b. (subst (Swept met) e b.0, b.1)) h

pub left_inside : (below : Place) (f : Frame) (t u : Term) → IsInOrder f → u ≡ on (frame_of f) t
    → Keeps (λ met. (SweptAt met f × Swept met (frames below.stack))
    × IsLeft met t) (turn.Moves (record { place = below; «at» = at.Left u }))
left_inside below f t u i e =
    record { keeps = λ met b. record { swept = b.0.1; is_left = left_inner met f t u i e b.1 } }

pub back_value : (r : Result Turn Memory) (f : Frame) (below : Place) (t : Term) (v : Value)
    → t ≡ term.Value v
    → IfOk r (Keeps (λ met. (SweptAt met f × Swept met (frames below.stack))
    × (Finished t ⊎ IsLeft met t)))
    → IfOk r (Keeps (λ met. SweptAt met f × Swept met (frames below.stack)))
back_value r f below t v e h = weaker r _ _ (λ met b. (b, inl (ends.Finished.value v e))) h

pub back_throw : (r : Result Turn Memory) (f : Frame) (below : Place) (t : Term) (v : Value)
    → t ≡ throw_of v
    → IfOk r (Keeps (λ met. (SweptAt met f × Swept met (frames below.stack))
    × (Finished t ⊎ IsLeft met t)))
    → IfOk r (Keeps (λ met. SweptAt met f × Swept met (frames below.stack)))
back_throw r f below t v e h = weaker r _ _ (λ met b. (b, inl (ends.Finished.throw v e))) h

pub back_left : (r : Result Turn Memory) (f : Frame) (below : Place) (t : Term)
    → IfOk r (Keeps (λ met. (SweptAt met f × Swept met (frames below.stack))
    × (Finished t ⊎ IsLeft met t)))
    → IfOk r (Keeps (λ met. (SweptAt met f × Swept met (frames below.stack)) × IsLeft met t))
back_left r f below t h = weaker r _ _ (λ met b. (b.0, inr b.1)) h

pub back_kept : (r : Result Turn Memory) (below : Place) (n : Node) (part x : Term) (b : Bool)
    → x ≡ plug (mark_if b) part
    → IfOk r (Keeps (λ met. AreMet met (slice_set n.parts n.«at» x) (n.«at» + 1)
    × Swept met (frames below.stack)))
    → IfOk r (Keeps (λ met. (SweptAt met (frame.Node n) × Swept met (frames below.stack))
    × (Finished part ⊎ IsLeft met part)))
back_kept r below n part x b e h =
    weaker r _ _ (λ met k. (back_met met n.parts n.«at» part x b e k.1 k.0.0.0 k.0.0.1, k.0.1)) h

-- several moves
pub on_turn : (clock : ℕ) (t : Term) (s n : State) → Stands clock t s
    → Stands clock (rebuilt clock (frames s.place.stack) (term_at s.«at»)) n → Stands clock t n
on_turn clock t s n h k = record { is_term = k.is_term ∙ h.is_term; reached = k.reached }

pub at_stop : (clock : ℕ) (t : Term) (s : State) (x : Stop) → Stands clock t s
    → IsStop clock (rebuilt clock (frames s.place.stack) (term_at s.«at»)) x → IsStop clock t x
at_stop clock t s x h k = subst (λ u. IsStop clock u x) h.is_term k

pub missed_on : (first s n : State) → ((met : List Term) → SweptTo met first → SweptTo met s)
    → Keeps (λ met. SweptTo met s) (turn.Moves n) → (met : List Term) → SweptTo met first
    → SweptTo met n
missed_on first s n h k met b = k.keeps met (h met b)

pub misses_none : (first s : State) (x : Stop)
    → ((met : List Term) → SweptTo met first → SweptTo met s)
    → Keeps (λ met. SweptTo met s) (turn.Stops x) → MissesNone first x
misses_none first s x h k = record { keeps = λ met b. k.keeps met (h met b) }

-- one move, by what stands at the place
pub form_kept : (r : Result Turn Memory) (place : Place) (t : Term)
    → IfOk r (Keeps (λ met. Swept met (frames place.stack)))
    → IfOk r (Keeps (λ met. SweptTo met (record { place = place; «at» = at.Form t })))
form_kept r place t h = weaker r _ _ (λ met b. b.swept) h

pub at_value_kept : (r : Result Turn Memory) (place : Place) (v : Value)
    → IfOk r (Keeps (λ met. Swept met (frames place.stack)))
    → IfOk r (Keeps (λ met. SweptTo met (record { place = place; «at» = at.Value v })))
at_value_kept r place v h = weaker r _ _ (λ met b. b.swept) h

pub at_throw_kept : (r : Result Turn Memory) (place : Place) (v : Value)
    → IfOk r (Keeps (λ met. Swept met (frames place.stack)))
    → IfOk r (Keeps (λ met. SweptTo met (record { place = place; «at» = at.Throw v })))
at_throw_kept r place v h = weaker r _ _ (λ met b. b.swept) h

pub at_left_kept : (r : Result Turn Memory) (place : Place) (t : Term)
    → IfOk r (Keeps (λ met. Swept met (frames place.stack) × IsLeft met t))
    → IfOk r (Keeps (λ met. SweptTo met (record { place = place; «at» = at.Left t })))
at_left_kept r place t h = weaker r _ _ (λ met b. (b.swept, b.is_left)) h

pub ruleset kept_here = (
  steps_kept,
  groups_kept,
  tries_kept,
  odd_kept,
  value_kept,
  throw_kept,
  ends_value,
  ends_throw,
  ends_left,
  first_kept,
)

pub ruleset kept_at = (form_kept, at_value_kept, at_throw_kept, at_left_kept)

pub ruleset kept_out = (
  below_kept,
  out_kept,
  left_out,
  back_value,
  back_throw,
  back_left,
  throw_below,
  ends_value,
  ends_throw,
  ends_left,
)

pub ruleset kept_turns = (on_turn, at_stop, missed_on, misses_none)
