-- The chapter "Typing": what is known of a component where its expressions are typed.
use Rattle.std.specs.Prelude.{None}
use Rattle.fort_tree.specs.declared.declarations.Component.{Component}
use Rattle.fort_tree_type_names.specs.TypeNames.{type_names}
use Rattle.fort_hier.specs.declared.accepted.Hierarchy.{Hierarchy}
use Rattle.fort_hier.specs.Hierarchies.{IsHierarchy, declares}
use Rattle.fort_types_sets.specs.declared.member.Members.{Members}
use Rattle.fort_member.specs.Answers.{AreMembers}
use Rattle.fort_over.specs.Answers.{KeepAllRules}
use Rattle.fort_typing_known.specs.Known.{Knows}
use Rattle.fort_typing_law_rules.specs.Deciding.{IsAccepted}

-- What is known of a component, outside the declarations of its types.
abbrev pub known_of : Component → Hierarchy → Members → Knows
known_of c h m = record {
  declared = declares c;
  facts = record { table = h.table; types = h.names; names = c.names; members = m; owner = None };
}

-- What is known of a component that keeps the rules of the hierarchy, of members and of overloading
-- is made of an accepted component.
abbrev pub KeepersAreAccepted : Type 0
KeepersAreAccepted = (c : Component) (h : Hierarchy) (m : Members) → IsHierarchy c (type_names c) h
    → AreMembers c m → KeepAllRules (declares c) m → IsAccepted (known_of c h m)
