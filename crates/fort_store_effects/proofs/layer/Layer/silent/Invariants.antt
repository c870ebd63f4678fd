use Rattle.std.proofs.Common.{◌≡◌, ℕ, nat_eq}
use Rattle.std.specs.Map.{lookup}
use Rattle.fort_store_effects.proofs.Behind.{from_place}
use Rattle.fort_store_effects.proofs.layer.Layer.silent.Given as goal

abbrev pub invariant-loop-i : goal.invariant-loop-i
invariant-loop-i l = (k : ℕ)
    → lookup (nat_eq k) l.cells.entries ≡ from_place l.self.cells.entries l.i k
