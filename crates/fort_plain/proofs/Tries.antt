-- A thread that has its step, or none, is no form to try.
use Rattle.std.proofs.Common.{◌≡◌, ◌≢◌, true, List, [], ◌∷◌, refl, ap, sym, ◌∙◌, subst}
use Rattle.std.specs.Prelude.{map}
use Rattle.fort_core.specs.declared.form.Mode.{Mode}
use Rattle.fort_core.specs.declared.term.Term.{Term, out-Term, Call, Apply, ForHalves, ReduceHalves, Also, Operator}
use Rattle.fort_core.specs.declared.term.Term as term
use Rattle.fort_core.specs.declared.term.Term.TheOpen.{Term-F}
use Rattle.fort_core.specs.declared.term.Term.TheVariants.{outs-Also, outs-Apply, outs-Asleep, outs-Atomic, outs-Call, outs-Fill, outs-For, outs-ForHalves, outs-If, outs-Let, outs-Mutable, outs-Operator, outs-ReadElement, outs-ReadField, outs-Reduce, outs-ReduceHalves, outs-Size, outs-Then, outs-Throw, outs-Try, outs-Typecase, outs-Write, outs-WriteElement, outs-WriteField}
use Rattle.fort_core.specs.declared.value.Value.{Value}
use Rattle.fort_core.specs.declared.value.Closure.{Closure}
use Rattle.fort_machine.specs.Ends.{throw_of}
use Rattle.fort_machine.specs.Frames.{on}
use Rattle.fort_machine.specs.Attempts.{Form, fresh, slept}
use Rattle.fort_frames.specs.Heads.{suits, form_of}
use Rattle.fort_frames.specs.Frames.{IsInOrder, frame_of}
use Rattle.fort_frames.specs.declared.head.Head.{Head}
use Rattle.fort_frames.specs.declared.head.Head.TheVariants as head
use Rattle.fort_frames.specs.declared.frame.Frame as code
use Rattle.fort_frames.specs.declared.frame.Frame.TheVariants as frame
use Rattle.fort_frames_moves.specs.Turns.{IsMade, StepsByItself, ready_term}
use Rattle.fort_frames_moves.specs.declared.turn.Ready.{Ready}
use Rattle.fort_frames_moves.specs.declared.turn.Ready.TheVariants as ready

abbrev NotTried : Term-F Term Value Closure → Type 0
NotTried (Term-F.Atomic mode body) = ⊥
NotTried (Term-F.Asleep marks body) = ⊥
NotTried form = Unit {0}

by_itself : (form : Term-F Term Value Closure) → StepsByItself form → NotTried form
by_itself (Term-F.Atomic mode body) h = h
by_itself (Term-F.Asleep marks body) h = h
by_itself _ h = tt

shown : (t : Term) (form : Term-F Term Value Closure) → out-Term t ≡ form → NotTried form
    → NotTried (out-Term t)
shown t form e h = subst NotTried (sym e) h

node_shown : (h : Head) (ts : List Term) → suits h ts ≡ true → h ≢ head.Group
    → NotTried (out-Term (form_of h ts))
node_shown head.Group ts e n = absurd (n refl)
node_shown (head.Call set) ts e n = shown _ _ (outs-Call set ts) tt
node_shown head.Also ts e n = shown _ _ (outs-Also ts) tt
node_shown head.Apply [] e n = absurd cc
node_shown head.Apply (a ∷ []) e n = absurd cc
node_shown head.Apply (a ∷ b ∷ []) e n = shown _ _ (outs-Apply a b) tt
node_shown head.Apply (a ∷ b ∷ c ∷ ts) e n = absurd cc
node_shown head.ForHalves [] e n = absurd cc
node_shown head.ForHalves (a ∷ []) e n = absurd cc
node_shown head.ForHalves (a ∷ b ∷ []) e n = shown _ _ (outs-ForHalves a b) tt
node_shown head.ForHalves (a ∷ b ∷ c ∷ ts) e n = absurd cc
node_shown (head.ReduceHalves set) [] e n = absurd cc
node_shown (head.ReduceHalves set) (a ∷ []) e n = absurd cc
node_shown (head.ReduceHalves set) (a ∷ b ∷ []) e n = shown _ _ (outs-ReduceHalves set a b) tt
node_shown (head.ReduceHalves set) (a ∷ b ∷ c ∷ ts) e n = absurd cc

order_shown : (f : code.Frame) (t : Term) → IsInOrder f → NotTried (out-Term (on (frame_of f) t))
order_shown (frame.Node n) t i = absurd i
order_shown frame.Throw t i = shown _ _ (outs-Throw _) tt
order_shown (frame.Operand a b c) t i = shown _ _ (outs-Operator _ _) tt
order_shown (frame.FillSize a b) t i = shown _ _ (outs-Fill _ _ _) tt
order_shown (frame.FillValue a b) t i = shown _ _ (outs-Fill _ _ _) tt
order_shown (frame.Let a b) t i = shown _ _ (outs-Let _ _ _) tt
order_shown (frame.Mutable a b c) t i = shown _ _ (outs-Mutable _ _ _ _) tt
order_shown (frame.Write a) t i = shown _ _ (outs-Write _ _) tt
order_shown (frame.Field a) t i = shown _ _ (outs-ReadField _ _) tt
order_shown (frame.FieldTarget a b) t i = shown _ _ (outs-WriteField _ _ _) tt
order_shown (frame.FieldValue a b) t i = shown _ _ (outs-WriteField _ _ _) tt
order_shown (frame.Element a) t i = shown _ _ (outs-ReadElement _ _) tt
order_shown (frame.Index a) t i = shown _ _ (outs-ReadElement _ _) tt
order_shown (frame.ElementTarget a b) t i = shown _ _ (outs-WriteElement _ _ _) tt
order_shown (frame.ElementIndex a b) t i = shown _ _ (outs-WriteElement _ _ _) tt
order_shown (frame.ElementValue a b) t i = shown _ _ (outs-WriteElement _ _ _) tt
order_shown frame.Size t i = shown _ _ (outs-Size _) tt
order_shown (frame.Then a) t i = shown _ _ (outs-Then _ _) tt
order_shown (frame.Test a b) t i = shown _ _ (outs-If _ _ _) tt
order_shown (frame.Subject a b c) t i = shown _ _ (outs-Typecase _ _ _ _) tt
order_shown (frame.Source a b c d) t i = shown _ _ (outs-For _ _ _ _ _) tt
order_shown (frame.ReducedSource a b c d e f) t i = shown _ _ (outs-Reduce _ _ _ _ _ _ _) tt
order_shown (frame.Try a b c) t i = shown _ _ (outs-Try _ _ _ _) tt

made_shown : (r : Ready) → IsMade r → NotTried (out-Term (ready_term r))
made_shown (ready.Form t) h = by_itself (out-Term t) h
made_shown (ready.Node h ts) m = node_shown h ts m.0 m.1
made_shown (ready.Operands set vs) m = shown _ _ (outs-Operator set (map term.Value vs)) tt
made_shown (ready.Value f v) m = order_shown f (term.Value v) m
made_shown (ready.Throw f v) m = order_shown f (throw_of v) m

form_shown : (t : Term) (m : Mode) (body : Term) → Form t m body → NotTried (out-Term t) → ⊥
form_shown t m body (fresh e) h = subst NotTried (ap out-Term e ∙ outs-Atomic m body) h
form_shown t m body (slept marks q e) h = subst NotTried (ap out-Term e ∙ outs-Asleep marks body) h

pub made_is_not_tried : (r : Ready) (m : Mode) (body : Term) → IsMade r → Form (ready_term r) m body
    → ⊥
made_is_not_tried r m body k h = form_shown (ready_term r) m body h (made_shown r k)
