use Rattle.std.proofs.Common.{refl, sym, ◌∙◌}
use Rattle.fort_run.specs.Delivery.{NotesFailed, Whole}
use Rattle.fort_run.proofs.Written.{on_err, on_ok}
use Rattle.fort_run.proofs.deliver.deliver.Goals as goal

pub returns-then-is_err-2 : goal.returns-then-is_err-2
returns-then-is_err-2 g c was faults has =
    NotesFailed
    (on_ok c.write_rest.result (sym c.is_err.ensures.value ∙ c.if-is_err.false)
    c.write_rest.ensures.ok was faults has)
    (on_err c.write_all-2.result (sym c.is_err-2.ensures.value ∙ c.if-is_err-2.true)
    c.write_all-2.ensures.err)
    refl

pub returns : goal.returns
returns g c was faults has =
    Whole
    (on_ok c.write_rest.result (sym c.is_err.ensures.value ∙ c.if-is_err.false)
    c.write_rest.ensures.ok was faults has)
    (on_ok c.write_all-2.result (sym c.is_err-2.ensures.value ∙ c.if-is_err-2.false)
    c.write_all-2.ensures.ok)
    refl
