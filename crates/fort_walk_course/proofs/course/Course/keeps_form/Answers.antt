use Rattle.std.proofs.Common.{◌≡◌, false, true, sym, ◌∙◌}
use Rattle.fort_walk_course.proofs.Left.{kept_of}
use Rattle.fort_walk_course.proofs.course.Course.keeps_form.Goals as goal

pub returns-in-None : goal.returns-in-None
returns-in-None c = λ e. let z : false ≡ true = e in absurd cc

pub returns-in-Some : goal.returns-in-Some
returns-in-Some c = λ e.
    kept_of c.args.self.now c.as_slice.result.now c.in-Some.waiting.now c.as_slice.ensures
    (sym c.in-Some.ensures.value) (sym c.is_some.ensures ∙ e)
