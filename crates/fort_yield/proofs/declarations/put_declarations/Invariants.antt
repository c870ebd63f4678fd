use Rattle.std.proofs.Common.{◌≡◌, ◌++◌, take}
use Rattle.std.specs.Prelude.{map}
use Rattle.fort_tree.specs.Said.{entries_tokens}
use Rattle.fort_tree.specs.Declarations.{said_declared}
use Rattle.fort_yield.proofs.declarations.put_declarations.Given as goal

abbrev pub invariant-loop-declared : goal.invariant-loop-declared
invariant-loop-declared l =
    l.out ≡ l.fn.out ++ entries_tokens (map said_declared (take l.declared-index l.declarations))
