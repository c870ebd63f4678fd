-- Chapter "Terms and threads": the parallel forms by their heads, and the frame that each leaves
-- round a part.
use Rattle.std.specs.Prelude.{Bool, true, false, List, [], ◌∷◌}
use Rattle.fort_core.specs.declared.term.Term.{Term, Call, Apply, ForHalves, ReduceHalves, Also}
use Rattle.fort_core.specs.declared.term.Term as term
use Rattle.fort_machine.specs.Ends.{group}
use Rattle.fort_machine.specs.Frames.{in_group, in_call, in_function, in_argument, in_first_half, in_second_half, in_first_reduced, in_second_reduced, in_block, in_throw}
use Rattle.fort_machine.specs.Frames as machine
use Rattle.fort_frames.specs.declared.head.Head.{Head}
use Rattle.fort_frames.specs.declared.head.Head.TheVariants as head

-- Whether there are two.
abbrev pub are_two : List Term → Bool
are_two (a ∷ b ∷ []) = true
are_two _ = false

-- Whether a form may have these parts: applications and halves have two.
abbrev pub suits : Head → List Term → Bool
suits head.Apply ts = are_two ts
suits head.ForHalves ts = are_two ts
suits (head.ReduceHalves set) ts = are_two ts
suits _ ts = true

-- The term of two parts.
abbrev pub of_two : (Term → Term → Term) → List Term → Term
of_two f (a ∷ b ∷ []) = f a b
of_two f ts = term.Group ts

-- A parallel form with its parts.
abbrev pub form_of : Head → List Term → Term
form_of head.Group ts = group ts
form_of (head.Call set) ts = Call set ts
form_of head.Apply ts = of_two Apply ts
form_of head.Also ts = Also ts
form_of head.ForHalves ts = of_two ForHalves ts
form_of (head.ReduceHalves set) ts = of_two (ReduceHalves set) ts

-- The frame round one of two parts.
abbrev pub frame_of_two : (Term → machine.Frame) → (Term → machine.Frame) → List Term → List Term
    → machine.Frame
frame_of_two f g [] (b ∷ []) = f b
frame_of_two f g (a ∷ []) [] = g a
frame_of_two f g before behind = in_throw

-- The frame round a part of a parallel form, by the parts before and behind it.
abbrev pub frame_at : Head → List Term → List Term → machine.Frame
frame_at head.Group before behind = in_group before behind
frame_at (head.Call set) before behind = in_call set before behind
frame_at head.Apply before behind = frame_of_two in_function in_argument before behind
frame_at head.Also before behind = in_block before behind
frame_at head.ForHalves before behind = frame_of_two in_first_half in_second_half before behind
frame_at (head.ReduceHalves set) before behind =
    frame_of_two (in_first_reduced set) (in_second_reduced set) before behind
