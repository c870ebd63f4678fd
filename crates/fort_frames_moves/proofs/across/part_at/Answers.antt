use Rattle.std.proofs.Common.{◌≡◌, subst, sym}
use Rattle.fort_core.specs.declared.term.Term.{Term}
use Rattle.fort_core.specs.declared.term.Term as term
use Rattle.fort_core.specs.declared.value.Value.{Value}
use Rattle.fort_machine.specs.Ends.{throw_of}
use Rattle.fort_frames_moves.proofs.Parts.{over_value, over_throw}
use Rattle.fort_frames_moves.proofs.across.part_at.Goals as goal

pub returns-in-Value : goal.returns-in-Value
returns-in-Value c =
    over_value c.args.parts.now c.args.«at» c.in-Some.part.now (sym c.in-Some.ensures.value)
    (subst (λ (t : Term).
    (v : Value) × (t ≡ term.Value v)) c.get-in-Some.ensures c.in-Value.ensures)

pub returns-in-Throw : goal.returns-in-Throw
returns-in-Throw c =
    over_throw c.args.parts.now c.args.«at» c.in-Some.part.now (sym c.in-Some.ensures.value)
    (subst (λ (t : Term). (v : Value) × (t ≡ throw_of v)) c.get-in-Some.ensures c.in-Throw.ensures)
