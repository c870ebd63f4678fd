use Rattle.std.proofs.Common.{[], ◌∷◌, ◌++◌, refl, subst}
use Rattle.fort_core.specs.declared.pick.Pick.{Step}
use Rattle.fort_machine.specs.Attempts.{goes}
use Rattle.fort_machine.specs.Runs.{location}
use Rattle.fort_frames.specs.Frames.{frames, rebuilt}
use Rattle.fort_frames.specs.States.{term_at}
use Rattle.fort_walk_course.specs.Courses.{around}
use Rattle.fort_walk_turns.specs.Idles.{Follows}
use Rattle.fort_walk_turns.proofs.Giving.{cannot_throw, no_single, stands_come}
use Rattle.fort_walk_turns.proofs.Growing.{closed_grows, ends_stood, onward_by}
use Rattle.fort_walk_turns.proofs.attempts.abort_attempt.Goals as goal

pub returns-in-None-clause-follows : goal.returns-in-None-clause-follows
returns-in-None-clause-follows c =
    cannot_throw c.args.program.now c.args.course c.args.place c.requires.may.form
    c.requires.may.stands c.requires.may.acts c.requires.may.inside
    (no_single c.args.program.now (around c.args.course)
    (rw c.in-None.is at c.in_ok-abort.ensures.going))

pub returns-clause-follows : goal.returns-clause-follows
returns-clause-follows c =
    subst (λ f. Follows c.args.program.now f c.closed.result)
    (rw c.in-Some.is at c.in_ok-abort.ensures.fuel) c.closed.ensures.follows

pub returns-then-not-affords-clause-grows : goal.returns-then-not-affords-clause-grows
returns-then-not-affords-clause-grows c =
    let may = c.requires.may in
    ends_stood c.args.program.now c.args.course c.args.course.fuel c.args.place may.form
    c.in_ok-ran.ran may.stands c.in_ok-ran.ensures.run c.in_ok-ran.ensures.picks

pub returns-clause-grows : goal.returns-clause-grows
returns-clause-grows c =
    let p = c.args.program.now in
    let old = c.args.course in
    let place = c.args.place in
    let may = c.requires.may in
    let going = c.in-Some.going in
    let whole = rebuilt old.clock (frames place.stack) may.form in
    onward_by old going.course c.closed.result
    (closed_grows p old going.course going.state.place (term_at going.state.«at») (goes whole)
    (old.picks ++ Step place.path (location 0) ∷ [])
    (stands_come p old place may.form whole may.stands refl)
    (rw c.in-Some.is at c.in_ok-abort.ensures.going)
    (rw c.in-Some.is at c.in_ok-abort.ensures.picks)) c.closed.ensures.grows
