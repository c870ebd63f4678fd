use Rattle.std.proofs.Common.{map}
use Rattle.fort_frames.specs.States.{term_at}
use Rattle.fort_machine.specs.Threads.{under}
use Rattle.fort_store_effects.specs.Levels.{effect_of}
use Rattle.fort_walk_turns.proofs.Growing.{more_grows}
use Rattle.fort_walk_turns.proofs.Past.{picked_form}
use Rattle.fort_walk.proofs.Halls.{may_take, root_prints}
use Rattle.fort_walk.proofs.beside.taken.Goals as goal

pub take-requires-clause-may : goal.take-requires-clause-may
take-requires-clause-may c =
    may_take c.args.program.now c.args.walking c.args.closed c.requires.walking c.requires.root
    c.requires.next c.requires.some

pub take-requires-clause-affords : goal.take-requires-clause-affords
take-requires-clause-affords c = c.requires.next.affords

pub returns-clause-walking : goal.returns-clause-walking
returns-clause-walking c =
    picked_form c.args.program.now c.in_ok-course.course c.picked.result
    c.args.walking.going.state.place c.args.closed.term _ c.in_ok-course.ensures.stands
    c.picked.ensures.idle c.picked.ensures.wakes

pub returns-clause-grows : goal.returns-clause-grows
returns-clause-grows c =
    let w = c.args.walking in
    let place = w.going.state.place in
    more_grows c.args.program.now w.going.course c.in_ok-course.course place place
    (term_at w.going.state.«at») c.args.closed.term (map (under place.path.0) c.args.closed.picks)
    c.requires.walking.stands c.in_ok-course.ensures.stands c.in_ok-course.ensures.picks.picks
    c.in_ok-course.ensures.picks.outer

pub returns-clause-output : goal.returns-clause-output
returns-clause-output c =
    let w = c.args.walking in
    root_prints c.args.program.now w.going.course c.in_ok-course.course w.going.state.place
    (term_at w.going.state.«at») (effect_of c.args.closed.done) c.requires.root.0
    c.requires.walking.stands c.in_ok-course.ensures.done
