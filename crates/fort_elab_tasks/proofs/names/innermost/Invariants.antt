use Rattle.std.proofs.Common.{◌≡◌, ◌-◌, length, take}
use Rattle.std.specs.Prelude.{reverse}
use Rattle.fort_elab_meaning.specs.Making.{number_of}
use Rattle.fort_elab_tasks.proofs.names.innermost.Given as goal

abbrev pub invariant-loop-back : goal.invariant-loop-back
invariant-loop-back l =
    number_of (reverse l.bound) l.name
    ≡ number_of (reverse (take (length l.bound - l.back) l.bound)) l.name
