use Rattle.std.proofs.Common.{sym, subst}
use Rattle.fort_hall_forms.specs.Forms.{IsPartOfRun}
use Rattle.fort_hall_forms.proofs.Odd.{part_of_run}
use Rattle.fort_hall_program.proofs.advance.at_form.Goals as goal

pub first_form-requires-clause-part : goal.first_form-requires-clause-part
first_form-requires-clause-part c =
    subst (λ t. IsPartOfRun c.args.program.now t) (sym c.in_ok-part.ensures)
    (part_of_run _ _ _ _ c.requires.good.reach c.requires.good.unmarked)
