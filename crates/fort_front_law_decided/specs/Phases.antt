-- The chapters "Grammar", "Operators", "Types", "Members", "Overload rules" and "Typing", "Threads
-- that are spawned" and docs/TRANSLATION.md: no phase leaves an input without an answer.
use Rattle.std.specs.Prelude.{◌⊎◌, ◌≤◌, ◌^◌, List, length}
use Rattle.fort_base.specs.declared.refusal.Place.{Place}
use Rattle.fort_base.specs.declared.refusal.Rule.{Rule}
use Rattle.fort_core.specs.declared.program.Program.{Program}
use Rattle.fort_lex_token.specs.declared.token.Tokens.{Tokens}
use Rattle.fort_tree.specs.declared.declarations.Component.{Component}
use Rattle.fort_tree.specs.declared.grouped.FlatGrouping.{FlatGrouping}
use Rattle.fort_tree.specs.declared.grouped.Groups.{Groups}
use Rattle.fort_tree.specs.declared.grouped.Row.{Row}
use Rattle.fort_group.specs.Components.{HasGroups, IsFirstBreak}
use Rattle.fort_tree_type_names.specs.TypeNames.{type_names}
use Rattle.fort_hier.specs.declared.accepted.Hierarchy.{Hierarchy}
use Rattle.fort_hier.specs.Hierarchies as types
use Rattle.fort_hier.specs.Hierarchies.{IsHierarchy, declares}
use Rattle.fort_types_sets.specs.declared.member.Members.{Members}
use Rattle.fort_member_fields.specs.Rules as fields
use Rattle.fort_member.specs.Answers.{AreMembers}
use Rattle.fort_over.specs.Answers.{KeepAllRules}
use Rattle.fort_over.specs.Answers as overloads
use Rattle.fort_typing_known.specs.Known.{Knows}
use Rattle.fort_form_walk.specs.FormsOf.{forms_of}
use Rattle.fort_form_typed.specs.declared.component.Typed.{Typed}
use Rattle.fort_typing_rules.specs.Components.{HasTypes}
use Rattle.fort_elab_meaning.specs.Programs.{IsProgramOf}
use Rattle.fort_spawn.specs.Rewritten.{IsRewritten}
use Rattle.fort_front.specs.Front.{IsGrammatical, BreaksGrammar}
use Rattle.fort_front_law_decided.specs.Claims.{NotNeither}

-- No token list is neither one component that passes no limit, nor breaks a rule of the grammar.
abbrev pub GrammarDecides : Type 0
GrammarDecides = (tokens : Tokens)
    → NotNeither (IsGrammatical tokens) ((rule : Rule) × (at : Place) × BreaksGrammar tokens rule at)

-- A component's spawned threads can be rewritten.
abbrev pub EachIsRewritten : Type 0
EachIsRewritten = (c : Component) → (d : Component) × IsRewritten c d

-- Flat expressions have their groupings, or break a rule.
abbrev pub GroupingDecides : Type 0
GroupingDecides = (rows : List Row)
    → ((groups : List FlatGrouping) × HasGroups rows groups)
    ⊎ ((rule : Rule) × (at : Place) × IsFirstBreak rows rule at)

-- A component has no more types than there are numbers of types.
abbrev pub HasFewTypes : Component → Type 0
HasFewTypes c = length (declares c) ≤ 2 ^ 32

-- No component neither has a hierarchy, nor breaks a rule on types.
abbrev pub HierarchyDecides : Type 0
HierarchyDecides = (c : Component) → HasFewTypes c
    → NotNeither ((h : Hierarchy) × IsHierarchy c (type_names c) h)
    ((rule : Rule) × (at : Place) × types.IsReported c (type_names c) rule.0 at)

-- No component that has a hierarchy neither has members, nor breaks a rule on fields.
abbrev pub FieldsDecide : Type 0
FieldsDecide = (c : Component) (h : Hierarchy) → IsHierarchy c (type_names c) h
    → NotNeither ((m : Members) × AreMembers c m)
    ((rule : Rule) × (at : Place) × fields.IsReported c rule.0 at)

-- No component that has members neither keeps the overload rules, nor breaks one of them.
abbrev pub OverloadsDecide : Type 0
OverloadsDecide = (c : Component) (h : Hierarchy) (m : Members) → IsHierarchy c (type_names c) h
    → AreMembers c m
    → NotNeither (KeepAllRules (declares c) m)
    ((rule : Rule) × (at : Place) × overloads.IsReported (declares c) m rule.0 at)

-- What typing gives of a component is translated to a program, whatever is known of it.
abbrev pub EachIsTranslated : Type 0
EachIsTranslated = (c : Component) (h : Hierarchy) (m : Members) (groups : Groups) (k : Knows)
    (typed : Typed) → AreMembers c m → HasTypes k (forms_of c groups) typed
    → (p : Program) × IsProgramOf h m c.texts typed p
