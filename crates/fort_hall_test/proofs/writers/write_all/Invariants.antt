use Rattle.std.proofs.Common.{◌≡◌}
use Rattle.fort_turn.specs.Passes.{IsIdle, IsSame, number_of}
use Rattle.fort_hall_test.specs.Lines.{lines}
use Rattle.fort_hall_test.specs.Wrote.{lines_of}
use Rattle.fort_hall_test.proofs.writers.write_all.Given as goal

abbrev pub invariant-loop-i : goal.invariant-loop-i
invariant-loop-i g l =
    record {
      idle : IsIdle l.turn l.pass;
      same : IsSame l.initial.pass l.pass;
      made : lines_of l.pass ≡ lines (number_of l.initial.pass) l.i;
    }
