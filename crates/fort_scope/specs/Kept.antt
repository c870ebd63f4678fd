-- The chapter "Names in scope": what the map keeps. Each binding is kept by the number of its name.
use Rattle.std.specs.Prelude.{◌≡◌, ℕ, List}
use Rattle.std.specs.Map.{keys_of, values_of}
use Rattle.fort_scope.specs.declared.binding.Binding.{Binding}
use Rattle.fort_scope.specs.Scopes.{names, AreDistinct}

-- The keys are the bindings' names, and these are distinct.
pub record IsKept (entries : List (ℕ × Binding)) : Type 0 where
  pub keyed : keys_of entries ≡ names (values_of entries)
  pub distinct : AreDistinct (values_of entries)
