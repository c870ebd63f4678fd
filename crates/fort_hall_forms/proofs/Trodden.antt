-- A part in which an attempt has ended.
use Rattle.std.proofs.Common.{◌≡◌, List, ap, ◌∙◌, arith}
use Rattle.fort_core.specs.declared.term.Term.{Term}
use Rattle.fort_machine.specs.Frames.{plug, trodden}
use Rattle.fort_frames.specs.Frames.{outward, rebuilt, Reaches}
use Rattle.fort_frames.specs.declared.frame.Frame.{Frame}
use Rattle.fort_frames.proofs.Same.{clock_marks, same_term}

-- a clock that shows 1 has put on the marks
pub with_marks : (fs : List Frame) (a t : Term) → Reaches 0 fs a
    → rebuilt 1 fs t ≡ plug (trodden (outward 0 fs)) t
with_marks fs a t h =
    same_term 1 fs t ∙ ap (λ gs. plug gs t) (clock_marks 0 1 fs a t h (omega arith)).0
