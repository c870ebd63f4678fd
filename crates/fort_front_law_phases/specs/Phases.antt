-- The chapters "Operators", "Types" and "Members", and docs/TRANSLATION.md: each phase has one
-- answer. The code finds one and doesn't ask for others.
use Rattle.std.specs.Prelude.{◌≡◌, ℕ, List}
use Rattle.fort_core.specs.declared.program.Program.{Program}
use Rattle.fort_tree.specs.declared.declarations.Component.{Component}
use Rattle.fort_tree.specs.declared.grouped.FlatGrouping.{FlatGrouping}
use Rattle.fort_tree.specs.declared.grouped.Row.{Row}
use Rattle.fort_group.specs.Components.{HasGroups}
use Rattle.fort_tree_type_names.specs.TypeNames.{type_names}
use Rattle.fort_hier.specs.declared.accepted.Hierarchy.{Hierarchy}
use Rattle.fort_hier.specs.Hierarchies.{IsHierarchy}
use Rattle.fort_types_sets.specs.declared.member.Members.{Members}
use Rattle.fort_member.specs.Answers.{AreMembers}
use Rattle.fort_form_typed.specs.declared.component.Typed.{Typed}
use Rattle.fort_elab_meaning.specs.Programs.{IsProgramOf}

-- Flat expressions that break no rule have one list of groupings.
abbrev pub OneGrouping : Type 0
OneGrouping = (rows : List Row) (a b : List FlatGrouping) → HasGroups rows a → HasGroups rows b
    → a ≡ b

-- A component has one hierarchy.
abbrev pub OneHierarchy : Type 0
OneHierarchy = (c : Component) (h g : Hierarchy) → IsHierarchy c (type_names c) h
    → IsHierarchy c (type_names c) g → h ≡ g

-- A component has one list of its places, fields, sets and variables.
abbrev pub OneMembership : Type 0
OneMembership = (c : Component) (m n : Members) → AreMembers c m → AreMembers c n → m ≡ n

-- What typing gives is translated to one program.
abbrev pub OneTranslation : Type 0
OneTranslation = (h : Hierarchy) (m : Members) (texts : List (List ℕ)) (typed : Typed)
    (p q : Program) → IsProgramOf h m texts typed p → IsProgramOf h m texts typed q → p ≡ q
