use Rattle.std.proofs.Common.{◌≡◌, subst}
use Rattle.fort_core.specs.declared.term.Term.{Term}
use Rattle.fort_core.specs.declared.term.Term as term
use Rattle.fort_core.specs.declared.value.Value.{Value}
use Rattle.fort_machine.specs.Ends.{throw_of}
use Rattle.fort_frames_moves.proofs.Enters.{odd_value, odd_throw}
use Rattle.fort_frames_moves.proofs.enter.at_mark.Goals as goal

pub returns-in-Value-clause-turns : goal.returns-in-Value-clause-turns
returns-in-Value-clause-turns c =
    odd_value c.args.clock c.args.place c.args.term c.args.inner.now c.requires.is_mark
    c.requires.reached (subst (λ (t : Term).
    (v : Value) × (t ≡ term.Value v)) c.get.ensures c.in-Value.ensures)

pub returns-in-Throw-clause-turns : goal.returns-in-Throw-clause-turns
returns-in-Throw-clause-turns c =
    odd_throw c.args.clock c.args.place c.args.term c.args.inner.now c.requires.is_mark
    c.requires.reached (subst (λ (t : Term).
    (v : Value) × (t ≡ throw_of v)) c.get.ensures c.in-Throw.ensures)
