-- The chapter "Typing": a component that keeps the rules before typing has forms that are ready for
-- it, and so what it becomes, or which broken rule is reported, is what is computed.
use Rattle.fort_tree.specs.declared.declarations.Component.{Component}
use Rattle.fort_tree.specs.declared.grouped.Groups.{Groups}
use Rattle.fort_tree.specs.Limits.{flats}
use Rattle.fort_group.specs.Components.{HasGroups}
use Rattle.fort_tree_type_names.specs.TypeNames.{type_names}
use Rattle.fort_hier.specs.declared.accepted.Hierarchy.{Hierarchy}
use Rattle.fort_hier.specs.Hierarchies.{IsHierarchy, declares}
use Rattle.fort_types_sets.specs.declared.member.Members.{Members}
use Rattle.fort_member.specs.Answers.{AreMembers}
use Rattle.fort_over.specs.Answers.{KeepAllRules}
use Rattle.fort_form_walk.specs.FormsOf.{forms_of}
use Rattle.fort_typing_law_exact.specs.Exact.{IsExactly, IsOneOfTwo}
use Rattle.fort_typing_law_exact.specs.Ready.{IsReady}
use Rattle.fort_typing_law_ready.specs.Fit.{known_of}

-- The forms of a component are ready for typing, where its declared types are this hierarchy, it
-- has these members, each of its overload sets keeps the rules, and each of its flat expressions
-- has its grouping.
abbrev pub FormsAreReady : Type 0
FormsAreReady = (c : Component) (h : Hierarchy) (m : Members) (groups : Groups)
    → IsHierarchy c (type_names c) h → AreMembers c m → KeepAllRules (declares c) m
    → HasGroups (flats c) groups.list → IsReady (known_of c h m) (forms_of c groups)

-- They have a typing exactly where one is computed, and then that one; and a broken rule is
-- reported exactly where it is computed.
abbrev pub ComponentIsExact : Type 0
ComponentIsExact = (c : Component) (h : Hierarchy) (m : Members) (groups : Groups)
    → IsHierarchy c (type_names c) h → AreMembers c m → KeepAllRules (declares c) m
    → HasGroups (flats c) groups.list → IsExactly (known_of c h m) (forms_of c groups)

-- They have a typing, or a broken rule that is reported.
abbrev pub ComponentIsOneOfTwo : Type 0
ComponentIsOneOfTwo = (c : Component) (h : Hierarchy) (m : Members) (groups : Groups)
    → IsHierarchy c (type_names c) h → AreMembers c m → KeepAllRules (declares c) m
    → HasGroups (flats c) groups.list → IsOneOfTwo (known_of c h m) (forms_of c groups)
