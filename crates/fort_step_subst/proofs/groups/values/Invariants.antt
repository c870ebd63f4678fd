use Rattle.std.proofs.Common.{◌≡◌, ◌++◌, drop, List}
use Rattle.std.specs.Prelude.{option_map}
use Rattle.fort_core.specs.declared.value.Value.{Value}
use Rattle.fort_machine.specs.Ends.{values_of}
use Rattle.fort_step_subst.proofs.groups.values.Given as goal

abbrev pub invariant-loop-part : goal.invariant-loop-part
invariant-loop-part l =
    values_of l.part-items ≡ option_map (λ
    (vs : List Value). l.all ++ vs) (values_of (drop l.part-index l.part-items))
