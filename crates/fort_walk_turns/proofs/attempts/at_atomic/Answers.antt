use Rattle.std.proofs.Common.{◌∙◌, refl, sym, subst}
use Rattle.fort_core.specs.declared.form.Mode.TheVariants as mode
use Rattle.fort_store_effects.specs.Levels.{levels_of, seen}
use Rattle.fort_machine.specs.Attempts.{Sleeps, fresh, slept}
use Rattle.fort_walk_turns.specs.Idles.{Rests}
use Rattle.fort_walk_turns.proofs.Past.{over_left, sleeper_left}
use Rattle.fort_walk_turns.proofs.Trying.{form_thread, may_try_this}
use Rattle.fort_walk_turns.proofs.attempts.at_atomic.Goals as goal

pub left-requires : goal.left-requires
left-requires c =
    over_left c.args.program.now c.args.course c.args.sweep c.passed.result c.args.place c.args.form
    c.args.form
    (form_thread c.args.program.now c.args.course c.args.sweep c.args.place c.args.form
    c.requires.atomic.0 c.requires.atomic.1 c.requires.form c.requires.atomic.2)
    (c.is_over.ensures c.if-is_over.true) c.passed.ensures.wakes c.passed.ensures.idle refl

pub left-requires-then-rests : goal.left-requires-then-rests
left-requires-then-rests c =
    let rests =
    subst (λ b. Rests b c.args.sweep.wakes
    (Sleeps (seen (levels_of c.args.course.layers)) c.args.form)) c.if-rests.true
    (rw c.get.ensures at c.rests.ensures) in
    sleeper_left c.args.program.now c.args.course c.args.sweep c.passed-then-rests.result
    c.args.place c.args.form
    (form_thread c.args.program.now c.args.course c.args.sweep c.args.place c.args.form
    c.requires.atomic.0 c.requires.atomic.1 c.requires.form c.requires.atomic.2)
    rests.0 rests.1 c.passed-then-rests.ensures.wakes c.passed-then-rests.ensures.stuck
    c.passed-then-rests.ensures.idle

pub begin-requires-clause-may : goal.begin-requires-clause-may
begin-requires-clause-may c =
    may_try_this c.args.program.now c.args.course c.args.sweep c.args.place c.args.form
    c.in-Atomic.mode c.in-Atomic.body c.in_ok-tried-in-Atomic.tried
    c.in_ok-tried-in-Atomic.ensures.form c.in_ok-tried-in-Atomic.ensures.mode
    c.in_ok-tried-in-Atomic.ensures.body c.requires.written c.requires.form
    (fresh (sym c.get-2.ensures ∙ c.in-Atomic.is))
    (subst (λ b. Rests b c.args.sweep.wakes
    (Sleeps (seen (levels_of c.args.course.layers)) c.args.form)) c.if-rests.false
    (rw c.get.ensures at c.rests.ensures))

pub begin-requires-in-Asleep-clause-may : goal.begin-requires-in-Asleep-clause-may
begin-requires-in-Asleep-clause-may c =
    may_try_this c.args.program.now c.args.course c.args.sweep c.args.place c.args.form mode.Atomic
    c.in-Asleep.body c.in_ok-tried-in-Asleep.tried c.in_ok-tried-in-Asleep.ensures.form
    c.in_ok-tried-in-Asleep.ensures.mode c.in_ok-tried-in-Asleep.ensures.body
    c.requires.written c.requires.form
    (slept c.in-Asleep.field-0 refl (sym c.get-2.ensures ∙ c.in-Asleep.is))
    (subst (λ b. Rests b c.args.sweep.wakes
    (Sleeps (seen (levels_of c.args.course.layers)) c.args.form)) c.if-rests.false
    (rw c.get.ensures at c.rests.ensures))
