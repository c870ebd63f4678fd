use Rattle.fort_store_effects.specs.Levels.{levels_of, seen}
use Rattle.fort_hall_forms.proofs.Sleeping.{is_fresh, is_slept, not_atomic, still_sleeps}
use Rattle.fort_hall_forms.proofs.first.awake_form.Goals as goal

pub returns-in_ok-body-in-Atomic : goal.returns-in_ok-body-in-Atomic
returns-in_ok-body-in-Atomic c =
    is_fresh c.args.form.now (seen (levels_of c.args.view.now)) _ _ _ c.in-Atomic.is
    c.in_ok-body-in-Atomic.ensures

pub returns-then-are_there : goal.returns-then-are_there
returns-then-are_there c =
    still_sleeps c.args.form.now (seen (levels_of c.args.view.now)) _ _ _ c.in-Asleep.is
    c.are_there.ensures c.if-are_there.true

pub returns-in_ok-watched-in-Asleep : goal.returns-in_ok-watched-in-Asleep
returns-in_ok-watched-in-Asleep c =
    is_slept c.args.form.now (seen (levels_of c.args.view.now)) _ _ _ _ _ c.in-Asleep.is
    c.in_ok-body-in-Asleep.ensures c.in_ok-watched-in-Asleep.ensures c.are_there.ensures
    c.if-are_there.false

pub returns-in_default : goal.returns-in_default
returns-in_default c =
    not_atomic c.args.form.now (seen (levels_of c.args.view.now)) c.in_default.not-Atomic
    c.in_default.not-Asleep
