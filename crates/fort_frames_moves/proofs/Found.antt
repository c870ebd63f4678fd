-- What is found among parts, and left behind.
use Rattle.std.proofs.Common.{◌≡◌, ℕ, ◌+◌, Bool, true, false, List, [], ◌∷◌, ◌++◌, length, Result, IfOk, Some, refl, ap, sym, ◌∙◌, subst, ◌⊎◌}
use Rattle.std.specs.Prelude.{slice_get, slice_set}
use Rattle.std.specs.List.{list_any}
use Rattle.fort_base.specs.declared.ids.SetId.{SetId}
use Rattle.fort_base.specs.declared.refusal.Memory.{Memory}
use Rattle.fort_core.specs.declared.term.Term.{Term, Stepped}
use Rattle.fort_core.specs.declared.term.Term as term
use Rattle.fort_core.specs.declared.value.Value.{Value}
use Rattle.fort_machine.specs.Ends.{Finished, open_yet, standing, has_stepped, is_thrown, throw_of}
use Rattle.fort_machine.specs.Frames.{on, plug}
use Rattle.fort_frames.specs.Frames.{frame_of, frames, mark_if, rebuilt, Reaches}
use Rattle.fort_frames.specs.declared.frame.Frame.{Frame}
use Rattle.fort_frames.specs.declared.frame.Frame.TheVariants as frame
use Rattle.fort_frames.specs.declared.node.Node.{Node}
use Rattle.fort_frames.specs.declared.place.Place.{Place}
use Rattle.fort_frames_moves.specs.Turns.{IsNext, IsTurn}
use Rattle.fort_frames_moves.specs.Sweeps.{AreMet, SweptAt, Swept, IsLeft, Keeps}
use Rattle.fort_frames_moves.specs.declared.turn.Turn.{Turn}
use Rattle.fort_frames_moves.proofs.Parts.{marked_next, mark_alone_next, unmarked_next}
use Rattle.fort_frames_moves.proofs.Enters.{operand_next}
use Rattle.fort_frames_moves.proofs.Kept.{back_value, back_throw, back_kept}

-- a part that is found
pub marked_found : (ts : List Term) (i : ℕ) (t u x : Term) → slice_get ts i ≡ Some t → t ≡ Stepped u
    → standing u ≡ open_yet → x ≡ u
    → IsNext ts (record { «at» = i; part = x; stepped = true }) × (i ≡ i)
marked_found ts i t u x e q o s = (
  subst (λ y. IsNext ts (record { «at» = i; part = y; stepped = true })) (sym s)
      (marked_next ts i t u e q o),
  refl,
)

pub mark_alone_found : (ts : List Term) (i : ℕ) (t u x : Term) → slice_get ts i ≡ Some t
    → t ≡ Stepped u → x ≡ t → IsNext ts (record { «at» = i; part = x; stepped = false }) × (i ≡ i)
mark_alone_found ts i t u x e q s = (
  subst (λ y. IsNext ts (record { «at» = i; part = y; stepped = false })) (sym s)
      (mark_alone_next ts i t u e q),
  refl,
)

pub unmarked_found : (ts : List Term) (i : ℕ) (t x : Term) → slice_get ts i ≡ Some t
    → standing t ≡ open_yet → list_any is_thrown ts ≡ false → x ≡ t
    → IsNext ts (record { «at» = i; part = x; stepped = false }) × (i ≡ i)
unmarked_found ts i t x e o n s = (
  subst (λ y. IsNext ts (record { «at» = i; part = y; stepped = false })) (sym s)
      (unmarked_next ts i t e o n),
  refl,
)

-- a form has its step, whatever stands to its left
pub node_kept : (t : Turn) (A : List Term → Type 0) (place : Place)
    → Keeps (λ met. Swept met (frames place.stack)) t
    → Keeps (λ met. A met × Swept met (frames place.stack)) t
node_kept t A place h = record { keeps = λ met b. h.keeps met b.1 }

-- back in its place
pub back_set : (r : Result Turn Memory) (below : Place) (n : Node) (part x : Term) (b : Bool)
    (ts : List Term) → x ≡ plug (mark_if b) part → ts ≡ slice_set n.parts n.«at» x
    → IfOk r (Keeps (λ met. AreMet met ts (n.«at» + 1) × Swept met (frames below.stack)))
    → IfOk r (Keeps (λ met. (SweptAt met (frame.Node n) × Swept met (frames below.stack))
    × (Finished part ⊎ IsLeft met part)))
back_set r below n part x b ts e q h =
    back_kept r below n part x b e
    (subst (λ ys. IfOk r (Keeps (λ met. AreMet met ys (n.«at» + 1)
    × Swept met (frames below.stack)))) q h)

pub node_value : (r : Result Turn Memory) (f : Frame) (n : Node) (below : Place) (t : Term)
    (v : Value) → f ≡ frame.Node n → t ≡ term.Value v
    → IfOk r (Keeps (λ met. (SweptAt met (frame.Node n) × Swept met (frames below.stack))
    × (Finished t ⊎ IsLeft met t)))
    → IfOk r (Keeps (λ met. SweptAt met f × Swept met (frames below.stack)))
node_value r f n below t v q e h =
    subst (λ g. IfOk r (Keeps (λ met. SweptAt met g × Swept met (frames below.stack)))) (sym q)
    (back_value r (frame.Node n) below t v e h)

pub node_throw : (r : Result Turn Memory) (f : Frame) (n : Node) (below : Place) (t : Term)
    (v : Value) → f ≡ frame.Node n → t ≡ throw_of v
    → IfOk r (Keeps (λ met. (SweptAt met (frame.Node n) × Swept met (frames below.stack))
    × (Finished t ⊎ IsLeft met t)))
    → IfOk r (Keeps (λ met. SweptAt met f × Swept met (frames below.stack)))
node_throw r f n below t v q e h =
    subst (λ g. IfOk r (Keeps (λ met. SweptAt met g × Swept met (frames below.stack)))) (sym q)
    (back_throw r (frame.Node n) below t v e h)

-- on to the next operand
same_operand : (set : SetId) (vs ws : List Value) (ts : List Term) (v : Value) (u : Term)
    → slice_get ts (length vs + 1) ≡ Some u → ws ≡ vs ++ v ∷ []
    → on (frame_of (frame.Operand set vs ts)) (term.Value v)
    ≡ on (frame_of (frame.Operand set ws ts)) u
same_operand set vs ws ts v u e q =
    operand_next set vs ts v u e ∙ ap (λ ys. on (frame_of (frame.Operand set ys ts)) u) (sym q)

pub operand_reach : (clock : ℕ) (set : SetId) (vs ws : List Value) (ts : List Term) (v : Value)
    (u : Term) (fs : List Frame) → slice_get ts (length vs + 1) ≡ Some u → ws ≡ vs ++ v ∷ []
    → Reaches clock fs (on (frame_of (frame.Operand set vs ts)) (term.Value v))
    → Reaches clock fs (on (frame_of (frame.Operand set ws ts)) u)
operand_reach clock set vs ws ts v u fs e q r =
    subst (Reaches clock fs) (same_operand set vs ws ts v u e q) r

pub operand_turn : (r : Result Turn Memory) (clock : ℕ) (set : SetId) (vs ws : List Value)
    (ts : List Term) (v : Value) (u : Term) (fs : List Frame)
    → slice_get ts (length vs + 1) ≡ Some u → ws ≡ vs ++ v ∷ []
    → IfOk r (IsTurn clock (rebuilt clock fs (on (frame_of (frame.Operand set ws ts)) u)))
    → IfOk r (IsTurn clock
    (rebuilt clock fs (on (frame_of (frame.Operand set vs ts)) (term.Value v))))
operand_turn r clock set vs ws ts v u fs e q h =
    subst (λ t. IfOk r (IsTurn clock (rebuilt clock fs t)))
    (sym (same_operand set vs ws ts v u e q)) h
