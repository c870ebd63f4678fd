use Rattle.std.proofs.Common.{◌≡◌, drop}
use Rattle.fort_typing_known.specs.Read.{facts}
use Rattle.fort_typing_meaning.specs.Whole.{judged_bodies}
use Rattle.fort_typing.specs.Typing.{whole_of}
use Rattle.fort_typing.proofs.progress.Progress.add_bodies.Given as goal

abbrev pub invariant-loop-form : goal.invariant-loop-form
invariant-loop-form l =
    judged_bodies (facts l.known) (drop l.form-index l.forms) (whole_of l.self)
    ≡ judged_bodies (facts l.known) l.forms (whole_of l.fn.self)
