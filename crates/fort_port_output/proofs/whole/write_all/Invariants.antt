use Rattle.std.proofs.Common.{length, ◌-◌, ◌≡◌, ◌≤◌, take}
use Rattle.fort_port.specs.Outside.{adds}
use Rattle.fort_port_output.proofs.whole.write_all.Given as goal

abbrev pub invariant-loop-done : goal.invariant-loop-done
invariant-loop-done g l = record {
  within : l.done ≤ length l.bytes;
  written : g.K.Sink.written l.sink ≡ adds (take l.done l.bytes) (g.K.Sink.written l.initial.sink);
  calm : g.K.Sink.faults l.sink ≡ g.K.Sink.faults l.initial.sink;
  ready : g.K.Sink.can_write l.sink;
}

abbrev pub decreases-loop-done : goal.decreases-loop-done
decreases-loop-done g l = length l.bytes - l.done
