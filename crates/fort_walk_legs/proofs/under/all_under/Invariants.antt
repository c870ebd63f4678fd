use Rattle.std.proofs.Common.{◌≡◌, map}
use Rattle.fort_machine.specs.Threads.{under}
use Rattle.fort_walk_legs.proofs.under.all_under.Given as goal

abbrev pub invariant-loop-pick : goal.invariant-loop-pick
invariant-loop-pick l = l.all ≡ map (under l.path.0) l.yielded
