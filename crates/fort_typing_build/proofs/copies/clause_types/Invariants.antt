use Rattle.std.proofs.Common.{◌≡◌, take, map}
use Rattle.fort_typing_rules.specs.Typing.{clause_type}
use Rattle.fort_typing_build.proofs.copies.clause_types.Given as goal

abbrev pub invariant-loop-clause : goal.invariant-loop-clause
invariant-loop-clause l = l.types ≡ map clause_type (take l.clause-index l.clauses)
