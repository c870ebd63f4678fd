use Rattle.std.proofs.Common.{◌∙◌, ap, subst, sym}
use Rattle.fort_core.specs.declared.term.Term.{Term, Throw}
use Rattle.fort_walk_course.specs.Calls.{MayStep}
use Rattle.fort_machine.specs.Effects.{printed}
use Rattle.fort_walk_turns.proofs.attempts.throws.Goals as goal

pub turns-requires : goal.turns-requires
turns-requires c = record {
  may = subst
      (λ x. MayStep c.args.program.now c.args.course c.args.place 0 c.in_ok-next.next (printed x 1))
      (sym c.new-text.ensures)
      (c.requires.may c.in_ok-next.next (c.in_ok-next.ensures ∙ ap (λ
      (v : Term). Throw v) c.in_ok-thrown.ensures));
}
