use Rattle.std.proofs.Common.{◌≡◌}
use Rattle.fort_port_output.specs.Written.{HasWritten}
use Rattle.fort_walk_turns.specs.Idles.{IsWalking}
use Rattle.fort_walk.specs.Written.{printed_by}
use Rattle.fort_walk.proofs.walking.walked.Given as goal

abbrev pub invariant-loop-turn : goal.invariant-loop-turn
invariant-loop-turn g l = record {
  walking : IsWalking l.tables.program.now l.walking;
  fuel : l.walking.going.course.fuel ≡ l.fuel;
  written : HasWritten (g.K.Sink.can_write l.out) (record {
    was = g.K.Sink.written l.initial.out;
    is = g.K.Sink.written l.out;
    faults_were = g.K.Sink.faults l.initial.out;
    faults_are = g.K.Sink.faults l.out;
  }) (printed_by l.walking.going.course) l.progress;
}
