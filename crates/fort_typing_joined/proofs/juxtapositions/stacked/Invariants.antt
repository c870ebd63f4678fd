use Rattle.std.proofs.Common.{◌≡◌, ◌-◌, ◌++◌, length}
use Rattle.fort_typing_joined.proofs.juxtapositions.stacked.Given as goal

abbrev pub invariant-loop-count : goal.invariant-loop-count
invariant-loop-count l =
    record {
      all : l.items ++ l.stack ≡ l.fn.parts;
      left : length l.items ≡ length l.fn.parts - l.count;
    }
