use Rattle.std.proofs.Common.{◌≡◌, ◌++◌, ℕ, List, drop, length}
use Rattle.std.specs.Prelude.{option_map}
use Rattle.fort_core.specs.declared.value.Value.{Value}
use Rattle.fort_machine.specs.Substitution.{paired}
use Rattle.fort_step_bound.proofs.binding.paired.Given as goal

abbrev pub invariant-loop-i : goal.invariant-loop-i
invariant-loop-i l =
    (length l.left ≡ length l.right)
    × (paired l.left l.right ≡ option_map (λ
    (hs : List (ℕ × Value)). l.all ++ hs) (paired (drop l.i l.left) (drop l.i l.right)))
