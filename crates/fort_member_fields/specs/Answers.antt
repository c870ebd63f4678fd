-- The chapter "Members": what a component that keeps the rules on fields has. The code makes one
-- type's fields after another.
use Rattle.std.specs.Prelude.{ℕ, List}
use Rattle.fort_base.specs.declared.refusal.Place.{Place}
use Rattle.fort_tree.specs.declared.declarations.Component.{Component}
use Rattle.fort_hier.specs.Hierarchies.{declares}
use Rattle.fort_member_fields.specs.Own.{own_fields}
use Rattle.fort_member_fields.specs.Inherited.{AreAllFields}
use Rattle.fort_member_fields.specs.Rules.{Broken}
use Rattle.fort_types_sets.specs.declared.field.Field.{Field}

-- Neither rule is broken.
abbrev pub IsKept : Component → Type 0
IsKept c = (rule : ℕ) (place : Place) → Broken c rule place → ⊥

-- What an accepted component has for its fields: it breaks neither rule, and these are the fields
-- of its types.
pub record HasFields (c : Component) (all : List (List Field)) : Type 0 where
  pub kept : IsKept c
  pub fields : AreAllFields (declares c) (own_fields c) all
