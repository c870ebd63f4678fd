use Rattle.std.proofs.Common.{ap, ◌∙◌, sym, refl}
use Rattle.fort_core.specs.declared.term.Term.{Asleep}
use Rattle.fort_walk_course.specs.Calls.{sleeping, throwing}
use Rattle.fort_walk_course.proofs.attempts.after_abort.Goals as goal

pub returns-in_ok-new-in-Atomic-clause-becomes : goal.returns-in_ok-new-in-Atomic-clause-becomes
returns-in_ok-new-in-Atomic-clause-becomes c =
    sleeping c.in_ok-marks-in-Atomic.marks c.in-Atomic.is c.in_ok-marks-in-Atomic.ensures.ok
    (c.in_ok-new-in-Atomic.ensures
    ∙ ap (Asleep c.in_ok-marks-in-Atomic.marks) c.in_ok-share-in-Atomic.ensures)

pub returns-in-Some-clause-becomes : goal.returns-in-Some-clause-becomes
returns-in-Some-clause-becomes c = throwing c.in-Some.value c.in-Try.is (sym c.in-Some.ensures) refl
