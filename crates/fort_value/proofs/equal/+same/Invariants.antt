use Rattle.std.proofs.Common.{◌≡◌, Bool, length, drop, map}
use Rattle.fort_core.specs.declared.value.Value.{Value}
use Rattle.fort_machine.specs.Texts.{each_same, same}
use Rattle.fort_value.proofs.equal.+same.Given as goal

abbrev pub invariant-all_same-loop-i : goal.invariant-all_same-loop-i
invariant-all_same-loop-i l =
    (length l.left ≡ length l.right)
    × (each_same (λ (f : Value → Bool) v. f v) (map same l.xs) l.ys ≡ each_same (λ
    (f : Value → Bool) v. f v) (map same (drop l.i l.left)) (drop l.i l.right))
