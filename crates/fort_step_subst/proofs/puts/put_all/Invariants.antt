use Rattle.std.proofs.Common.{◌≡◌, drop}
use Rattle.fort_machine.specs.Substitution.{substituted_all}
use Rattle.fort_step_subst.proofs.puts.put_all.Given as goal

abbrev pub invariant-loop-pair : goal.invariant-loop-pair
invariant-loop-pair l =
    substituted_all (drop l.pair-index l.pair-items) l.made ≡ substituted_all l.pair-items l.term
