use Rattle.std.proofs.Common.{◌≡◌, drop}
use Rattle.fort_typing_known.specs.Read.{facts}
use Rattle.fort_typing_meaning.specs.Whole.{judged_initials}
use Rattle.fort_typing.specs.Typing.{whole_of}
use Rattle.fort_typing.proofs.progress.Progress.add_initials.Given as goal

abbrev pub invariant-loop-form : goal.invariant-loop-form
invariant-loop-form l =
    judged_initials (facts l.known) (drop l.form-index l.forms) (whole_of l.self)
    ≡ judged_initials (facts l.known) l.forms (whole_of l.fn.self)
