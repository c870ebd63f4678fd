-- The chapter "Names in scope": the names that bindings bind, and what `bind` refuses. The code
-- keeps them in a map.
use Rattle.std.specs.Prelude.{◌≡◌, ◌≢◌, ℕ, List, map, Contains, AllPairs}
use Rattle.fort_base.specs.declared.rules.TheConstants.{SHADOWS}
use Rattle.fort_base.specs.declared.ids.NameId.{NameId}
use Rattle.fort_base.specs.declared.refusal.Place.{Place}
use Rattle.fort_base.specs.declared.refusal.CheckFault.{CheckFault}
use Rattle.fort_base.specs.declared.refusal.CheckFault.TheVariants as a_fault
use Rattle.fort_scope.specs.declared.binding.Binding.{Binding}

-- the numbers of the names that are bound
abbrev pub names : List Binding → List ℕ
names bindings = map (λ b. b.name.0) bindings

-- A binding of this name is there.
abbrev pub IsBound : List Binding → NameId → Type 0
IsBound bindings name = Contains (names bindings) name.0

-- No two bindings have one name.
abbrev pub AreDistinct : List Binding → Type 0
AreDistinct bindings = AllPairs (λ m n. m ≢ n) (names bindings)

-- A name that is bound is refused by 613 at its new place. Memory can only be wanting for one that
-- isn't.
abbrev pub IsFault : List Binding → NameId → Place → CheckFault → Type 0
IsFault bindings name place (a_fault.Refused rule at) = (rule ≡ SHADOWS) × (at ≡ place)
    × IsBound bindings name
IsFault bindings name place a_fault.Memory = IsBound bindings name → ⊥
