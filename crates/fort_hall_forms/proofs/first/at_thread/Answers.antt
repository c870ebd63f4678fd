use Rattle.std.proofs.Common.{refl, subst}
use Rattle.fort_store_effects.specs.Levels.{levels_of, seen}
use Rattle.fort_hall_forms.specs.Sought.{HasSleepless}
use Rattle.fort_hall_forms.proofs.Seeking.{finds, goes_past}
use Rattle.fort_hall_forms.proofs.first.at_thread.Goals as goal

pub returns-in-None : goal.returns-in-None
returns-in-None c =
    let s = seen (levels_of c.args.view.now) in (
      goes_past s c.args.place c.args.form c.requires.thread c.requires.reached c.requires.left
          (subst (λ found. HasSleepless c.args.form s found) c.in-None.is
          (subst (λ a. HasSleepless a s c.in_ok-awake_form.field-0) c.get.ensures
          c.in_ok-awake_form.ensures)),
      refl,
    )

pub returns-in-Some : goal.returns-in-Some
returns-in-Some c =
    let s = seen (levels_of c.args.view.now) in
    let k = subst (λ found. HasSleepless c.args.form s found) c.in-Some.is
    (subst (λ a. HasSleepless a s c.in_ok-awake_form.field-0) c.get.ensures
    c.in_ok-awake_form.ensures) in
    finds c.args.program.now s _ c.requires.written c.requires.part c.requires.reached
    c.requires.left k.is_form k.watched k.awake
