use Rattle.std.proofs.Common.{refl, sym, ◌∙◌, subst}
use Rattle.fort_core.specs.declared.form.Mode.TheVariants as mode
use Rattle.fort_store_effects.specs.Levels.{levels_of, seen}
use Rattle.fort_machine.specs.Attempts.{fresh, slept}
use Rattle.fort_walk_course.specs.Calls.{MayTry}
use Rattle.fort_machine.proofs.Ready.{form_ready}
use Rattle.fort_plain.specs.Takes.{MustWait, term_round}
use Rattle.fort_plain.proofs.Marks.{marks_round}
use Rattle.fort_plain.proofs.Attempting.{sleeper_waits, may_try}
use Rattle.fort_plain.proofs.attempts.begin.Goals as goal

pub must_wait-requires-clause-ready : goal.must_wait-requires-clause-ready
must_wait-requires-clause-ready c =
    form_ready c.args.form c.requires.atomic.0 c.requires.atomic.1 c.requires.atomic.2

pub must_wait-requires-clause-reached : goal.must_wait-requires-clause-reached
must_wait-requires-clause-reached c = c.requires.stands.course.reached

pub must_wait-requires-clause-marks : goal.must_wait-requires-clause-marks
must_wait-requires-clause-marks c =
    marks_round c.args.program.now c.requires.written c.args.course c.args.place c.args.form
    c.requires.stands

pub returns-then-branch : goal.returns-then-branch
returns-then-branch c = λ turn within.
    let s = seen (levels_of c.args.course.layers) in
    let waits =
    subst (MustWait s (term_round c.args.course c.args.place c.args.form) c.args.form)
    c.if-branch.true c.in_ok-must_wait.ensures in
    sleeper_waits c.args.program.now c.args.course c.args.place c.args.form turn within
    c.requires.atomic.0 c.requires.atomic.1 c.requires.stands c.requires.atomic.2 waits.0
    waits.1

pub open_attempt-requires-clause-may : goal.open_attempt-requires-clause-may
open_attempt-requires-clause-may c =
    let s = seen (levels_of c.args.course.layers) in
    subst (MayTry c.args.program.now c.args.course c.args.place c.in-Atomic.mode)
    (sym c.in_ok-share-in-Atomic.ensures)
    (may_try c.args.program.now c.args.course c.args.place c.args.form c.in-Atomic.mode
    c.in-Atomic.body c.requires.written c.requires.stands
    (fresh (sym c.get.ensures ∙ c.in-Atomic.is))
    (subst (MustWait s (term_round c.args.course c.args.place c.args.form) c.args.form)
    c.if-branch.false c.in_ok-must_wait.ensures))

pub open_attempt-requires-clause-ready : goal.open_attempt-requires-clause-ready
open_attempt-requires-clause-ready c =
    form_ready c.args.form c.requires.atomic.0 c.requires.atomic.1 c.requires.atomic.2

pub open_attempt-requires-in-Asleep-clause-may : goal.open_attempt-requires-in-Asleep-clause-may
open_attempt-requires-in-Asleep-clause-may c =
    let s = seen (levels_of c.args.course.layers) in
    subst (MayTry c.args.program.now c.args.course c.args.place mode.Atomic)
    (sym c.in_ok-share-in-Asleep.ensures)
    (may_try c.args.program.now c.args.course c.args.place c.args.form mode.Atomic c.in-Asleep.body
    c.requires.written c.requires.stands
    (slept c.in-Asleep.field-0 refl (sym c.get.ensures ∙ c.in-Asleep.is))
    (subst (MustWait s (term_round c.args.course c.args.place c.args.form) c.args.form)
    c.if-branch.false c.in_ok-must_wait.ensures))

pub open_attempt-requires-in-Asleep-clause-ready : goal.open_attempt-requires-in-Asleep-clause-ready
open_attempt-requires-in-Asleep-clause-ready c =
    form_ready c.args.form c.requires.atomic.0 c.requires.atomic.1 c.requires.atomic.2
