-- A component of which a flat expression, the hierarchy, a field, an overload set or a form is
-- refused is refused by that; and what `overloads` asks of members.
use Rattle.std.proofs.Common.{◌≤◌, ◌^◌, List, Result, Ok, Err, length, sym, subst}
use Rattle.fort_base.specs.declared.refusal.CheckFault.{CheckFault}
use Rattle.fort_base.specs.declared.refusal.CheckFault.TheVariants as a_fault
use Rattle.fort_core.specs.declared.program.Program.{Program}
use Rattle.fort_lex_token.specs.declared.token.Tokens.{Tokens}
use Rattle.fort_syntax.specs.Answer as grammar
use Rattle.fort_spawn.specs.Rewritten.{IsRewritten}
use Rattle.fort_tree.specs.declared.declarations.Component.{Component}
use Rattle.fort_tree.specs.declared.grouped.FlatGrouping.{FlatGrouping}
use Rattle.fort_tree.specs.Limits.{flats}
use Rattle.fort_group.specs.Components.{AnswersAll, HasGroups}
use Rattle.fort_tree_type_names.specs.TypeNames.{type_names}
use Rattle.fort_hier.specs.declared.accepted.Hierarchy.{Hierarchy}
use Rattle.fort_hier.specs.Hierarchies.{IsHierarchy, IsFault, declares}
use Rattle.fort_hier.proofs.AcceptedLaws.{accepted_sound}
use Rattle.fort_types_sets.specs.declared.member.Members.{Members}
use Rattle.fort_member_fields.specs.Rules as fields
use Rattle.fort_member.specs.Answers.{AreMembers}
use Rattle.fort_member.proofs.WellMadeLaws.{sets_well_made}
use Rattle.fort_over.specs.Answers.{AreOver}
use Rattle.fort_over.specs.Answers as overloads
use Rattle.fort_typing.specs.Typing as typing
use Rattle.fort_front.proofs.Same.{exact}
use Rattle.fort_front.specs.Front.{Checks, ChecksComponent, ChecksTree, IsFormed, in_component, in_grouping, in_hierarchy, in_fields, in_overloads, in_typing, known, forms}

pub refused : (c : Component) (fault : CheckFault) → AnswersAll c (Err fault)
    → ChecksTree c (Err fault)
refused c (a_fault.Refused rule place) first = in_grouping first
refused c a_fault.Memory first = tt

pub types_refused : (c : Component) (groups : List FlatGrouping) (fault : CheckFault)
    → HasGroups (flats c) groups → IsFault c (type_names c) fault → ChecksTree c (Err fault)
types_refused c groups (a_fault.Refused rule place) grouped reported =
    in_hierarchy groups grouped reported
types_refused c groups a_fault.Memory grouped reported = tt

pub fields_refused : (c : Component) (groups : List FlatGrouping) (types : Hierarchy)
    (fault : CheckFault) → HasGroups (flats c) groups → IsHierarchy c (type_names c) types
    → fields.IsFault c fault → ChecksTree c (Err fault)
fields_refused c groups types (a_fault.Refused rule place) grouped typed reported =
    in_fields groups types grouped typed reported
fields_refused c groups types a_fault.Memory grouped typed reported = tt

pub overloads_refused : (c : Component) (groups : List FlatGrouping) (types : Hierarchy)
    (members : Members) (fault : CheckFault) → HasGroups (flats c) groups
    → IsHierarchy c (type_names c) types → AreMembers c members
    → overloads.IsFault (declares c) members fault → ChecksTree c (Err fault)
overloads_refused c groups types members (a_fault.Refused rule place) grouped typed belong reported =
    in_overloads groups types members grouped typed belong reported
overloads_refused c groups types members a_fault.Memory grouped typed belong reported = tt

pub typing_refused : (c : Component) (f : IsFormed c) (fault : CheckFault)
    → typing.IsFault (known c f).facts (forms c f) fault → ChecksTree c (Err fault)
typing_refused c f (a_fault.Refused rule place) is =
    in_typing f ((exact c f).reported (record { rule = rule; place = place }) is)
typing_refused c f a_fault.Memory is = tt

-- what `overloads` asks: an accepted component's members are over its declared types
pub are_over : (c : Component) (types : Hierarchy) (members : Members)
    → IsHierarchy c (type_names c) types → AreMembers c members → AreOver (declares c) types members
are_over c types members typed belong = record {
  sound = accepted_sound c (type_names c) types typed;
  rows = typed.rows;
  objects = belong.objects;
  made = sets_well_made c types typed members belong;
}

pub few_rows : (c : Component) (types : Hierarchy) → IsHierarchy c (type_names c) types
    → length types.table.below ≤ 2 ^ 32
few_rows c types typed = subst (λ n. n ≤ 2 ^ 32) (sym typed.rows.below.high) typed.few

-- A component is accepted or refused as it is rewritten.
pub of_rewritten : (c d : Component) (found : Result Program CheckFault) → IsRewritten c d
    → ChecksTree d found → ChecksComponent c found
of_rewritten c d (Ok program) is keeps = record { rewritten = d; becomes = is; keeps = keeps }
of_rewritten c d (Err (a_fault.Refused rule place)) is breaks =
    record { rewritten = d; becomes = is; breaks = breaks }
of_rewritten c d (Err a_fault.Memory) is breaks = tt

-- Tokens of a component are accepted or refused as it is.
pub of_tokens : (tokens : Tokens) (c : Component) (found : Result Program CheckFault)
    → grammar.IsComponent tokens c → ChecksComponent c found → Checks tokens found
of_tokens tokens c (Ok program) is keeps = record { component = c; is = is; keeps = keeps }
of_tokens tokens c (Err (a_fault.Refused rule place)) is breaks = in_component c is breaks
of_tokens tokens c (Err a_fault.Memory) is breaks = tt
