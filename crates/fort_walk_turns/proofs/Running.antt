-- A thread whose form calls a set runs a declaration.
use Rattle.std.proofs.Common.{refl}
use Rattle.fort_core.specs.declared.program.Program.{Program}
use Rattle.fort_core.specs.declared.term.Term.{Term}
use Rattle.fort_machine.proofs.Places.{ready_open}
use Rattle.fort_frames.specs.Frames.{frames, outward, rebuilt}
use Rattle.fort_frames.specs.declared.place.Place.{Place}
use Rattle.fort_frames.proofs.Same.{same_term}
use Rattle.fort_store_effects.specs.Levels.{levels_of, seen}
use Rattle.fort_walk_law_course.specs.Course.{is_inner}
use Rattle.fort_walk_course.specs.Courses.{around}
use Rattle.fort_walk_course.specs.declared.course.Course.{Course}
use Rattle.fort_step_acting.specs.Only.{CallsRun}
use Rattle.fort_step_acting.proofs.Calling.{one_runs}
use Rattle.fort_walk_turns.specs.declared.sweep.Sweep.{Sweep}
use Rattle.fort_walk_turns.specs.Defined.{AlwaysOne}
use Rattle.fort_walk_turns.specs.Idles.{IsAtThread}
use Rattle.fort_walk_turns.proofs.Giving.{come_reached, stands_come}

pub thread_runs : (p : Program) (c : Course) (w : Sweep) (place : Place) (a : Term) → AlwaysOne p
    → IsAtThread p c w place a → CallsRun p a
thread_runs p c w place a one h =
    let fs = frames place.stack in
    let t = rebuilt c.clock fs a in
    let reached = come_reached p c t (stands_come p c place a t h.0.stands refl) in
    one_runs p (outward c.clock fs) a t
    (one (is_inner (around c)) (seen (levels_of c.layers)) t reached) (same_term c.clock fs a)
    (ready_open a h.1)
