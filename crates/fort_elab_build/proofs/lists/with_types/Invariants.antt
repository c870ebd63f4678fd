use Rattle.std.proofs.Common.{◌≡◌, ◌++◌, drop}
use Rattle.fort_elab_meaning.specs.Choices.{with_types}
use Rattle.fort_elab_build.proofs.lists.with_types.Given as goal

abbrev pub invariant-loop-at : goal.invariant-loop-at
invariant-loop-at l =
    l.list ++ with_types (drop l.at l.terms) (drop l.at l.types) ≡ with_types l.terms l.types
