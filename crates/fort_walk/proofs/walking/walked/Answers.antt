use Rattle.std.proofs.Common.{◌∙◌, subst}
use Rattle.fort_port_output.proofs.Growing.{none_written}
use Rattle.fort_walk_turns.specs.Grows.{Onward}
use Rattle.fort_walk_turns.specs.Idles.{Follows}
use Rattle.fort_walk_turns.specs.Walks.{Walks}
use Rattle.fort_walk_turns.proofs.Begins.{sweep_begins, not_waking}
use Rattle.fort_walk.specs.Written.{printed_by}
use Rattle.fort_walk.proofs.Writing.{ended_written, grown_written, is_ready, is_within}
use Rattle.fort_walk.proofs.walking.walked.Goals as goal

pub loop-turn-init : goal.loop-turn-init
loop-turn-init g c = record {
  walking =
      sweep_begins c.args.tables.now.program.now c.in_ok-going.going c.new-sweep.result
      c.in_ok-going.ensures.going c.in_ok-going.ensures.whole c.new-sweep.ensures.stuck
      (not_waking c.in_ok-going.going.course c.new-sweep.result _ c.new-sweep.ensures.wakes);
  fuel = c.in_ok-going.ensures.fuel;
  written =
      none_written _ _ (printed_by c.in_ok-going.going.course) c.unwritten-progress.result
      c.requires.out c.unwritten-progress.ensures.calm c.unwritten-progress.ensures.bytes;
}

pub go-requires-clause-walking : goal.go-requires-clause-walking
go-requires-clause-walking g c = c.loop-turn.invariant.walking

pub returns-in-Ends-clause-walks : goal.returns-in-Ends-clause-walks
returns-in-Ends-clause-walks g c =
    subst (λ f. Walks c.args.tables.now.program.now f c.in-Ends.walked)
    c.loop-turn.invariant.fuel
    (subst (Follows c.args.tables.now.program.now c.loop-turn.walking.going.course.fuel)
    c.in-Ends.is c.in_ok-next.ensures.follows)

pub returns-in-Ends-clause-written : goal.returns-in-Ends-clause-written
returns-in-Ends-clause-written g c =
    ended_written _ _ c.loop-turn.walking.going.course c.in-Ends.walked c.loop-turn.progress
    c.loop-turn.invariant.written
    (subst (Onward c.loop-turn.walking.going.course) c.in-Ends.is c.in_ok-next.ensures.grows)

pub after_turn-progress-requires-clause-ready : goal.after_turn-progress-requires-clause-ready
after_turn-progress-requires-clause-ready g c =
    is_ready _ (printed_by c.loop-turn.walking.going.course) c.loop-turn.progress
    c.loop-turn.invariant.written

pub after_turn-progress-requires-clause-within : goal.after_turn-progress-requires-clause-within
after_turn-progress-requires-clause-within g c =
    let on =
    subst (Onward c.loop-turn.walking.going.course) c.in-Goes.is c.in_ok-next.ensures.grows in
    is_within _ (printed_by c.in-Goes.next.going.course) c.loop-turn.progress
    (grown_written _ (printed_by c.loop-turn.walking.going.course)
    (printed_by c.in-Goes.next.going.course) c.loop-turn.progress c.loop-turn.invariant.written
    on.output)

pub loop-turn-preserved : goal.loop-turn-preserved
loop-turn-preserved g c =
    let h = subst (Follows c.args.tables.now.program.now c.loop-turn.walking.going.course.fuel)
    c.in-Goes.is c.in_ok-next.ensures.follows in
    let on =
    subst (Onward c.loop-turn.walking.going.course) c.in-Goes.is c.in_ok-next.ensures.grows in
    record {
      walking = h.0;
      fuel = h.1 ∙ c.loop-turn.invariant.fuel;
      written =
          c.after_turn-progress.ensures.written _ _
          (grown_written _ (printed_by c.loop-turn.walking.going.course)
          (printed_by c.in-Goes.next.going.course) c.loop-turn.progress
          c.loop-turn.invariant.written on.output);
    }
