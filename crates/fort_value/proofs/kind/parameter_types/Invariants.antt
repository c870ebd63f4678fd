use Rattle.std.proofs.Common.{◌≡◌, ℕ, ◌++◌, drop, map}
use Rattle.fort_base.specs.declared.ty.Ty.{Ty}
use Rattle.fort_value.proofs.kind.parameter_types.Given as goal

abbrev pub invariant-loop-parameter : goal.invariant-loop-parameter
invariant-loop-parameter l =
    l.types ++ map (λ (x : ℕ × Ty). x.1) (drop l.parameter-index l.parameter-items) ≡ map (λ
    (x : ℕ × Ty). x.1) l.parameter-items
