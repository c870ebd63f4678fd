use Rattle.std.proofs.Common.{◌≡◌, true, false, refl, sym, ◌∙◌}
use Rattle.fort_store_effects.specs.Levels.{levels_of, seen}
use Rattle.fort_machine.proofs.Standing.{is_open}
use Rattle.fort_plain.specs.Takes.{term_round}
use Rattle.fort_plain.proofs.Testing.{waits_not, waits_by}
use Rattle.fort_plain.proofs.attempts.must_wait.Goals as goal

pub returns-then-not-sleeps : goal.returns-then-not-sleeps
returns-then-not-sleeps c =
    let sleeps = rw c.get.ensures at c.sleeps.ensures in
    waits_not (seen (levels_of c.args.course.now.layers))
    (term_round c.args.course.now c.args.place.now c.args.form.now) c.args.form.now
    (λ s. let z : false ≡ true = sym c.if-not-sleeps.true ∙ sleeps.1 s in cc)

pub all_sleep-requires-clause-is_open : goal.all_sleep-requires-clause-is_open
all_sleep-requires-clause-is_open c = is_open c.args.form.now c.requires.ready.unfinished

pub returns : goal.returns
returns c =
    let sleeps = rw c.get.ensures at c.sleeps.ensures in
    waits_by (seen (levels_of c.args.course.now.layers))
    (term_round c.args.course.now c.args.place.now c.args.form.now) c.args.form.now
    c.in_ok-all.all _ c.in_ok-all.ensures (sleeps.0 c.if-not-sleeps.false) refl
