-- The chapters "Grammar", "Operators", "Types", "Members", "Overload rules" and "Typing", their
-- refusals one after another, then "Threads that are spawned" and docs/TRANSLATION.md: what
-- `check_grammar` and `check` answer.
use Rattle.std.specs.Prelude.{◌≡◌, List, Result, Ok, Err}
use Rattle.fort_base.specs.declared.refusal.Place.{Place}
use Rattle.fort_base.specs.declared.refusal.Rule.{Rule}
use Rattle.fort_base.specs.declared.refusal.CheckFault.{CheckFault}
use Rattle.fort_base.specs.declared.refusal.CheckFault.TheVariants.{Refused, Memory}
use Rattle.fort_core.specs.declared.program.Program.{Program}
use Rattle.fort_form.specs.declared.component.Forms.{Forms}
use Rattle.fort_lex_token.specs.declared.token.Tokens.{Tokens}
use Rattle.fort_tree.specs.declared.declarations.Component.{Component}
use Rattle.fort_tree.specs.declared.grouped.FlatGrouping.{FlatGrouping}
use Rattle.fort_tree.specs.Limits.{flats}
use Rattle.fort_group.specs.Components.{HasGroups, IsFirstBreak}
use Rattle.fort_tree_type_names.specs.TypeNames.{type_names}
use Rattle.fort_hier.specs.declared.accepted.Hierarchy.{Hierarchy}
use Rattle.fort_hier.specs.Hierarchies.{IsHierarchy, IsReported, declares}
use Rattle.fort_types_sets.specs.declared.member.Members.{Members}
use Rattle.fort_member_fields.specs.Rules as fields
use Rattle.fort_member.specs.Answers.{AreMembers}
use Rattle.fort_over.specs.Answers.{KeepAllRules}
use Rattle.fort_over.specs.Answers as overloads
use Rattle.fort_typing_known.specs.Known.{Knows}
use Rattle.fort_typing_law_ready.specs.Fit.{known_of}
use Rattle.fort_form_walk.specs.FormsOf.{forms_of}
use Rattle.fort_form_typed.specs.declared.component.Typed.{Typed}
use Rattle.fort_typing_rules.specs.Components.{HasTypes}
use Rattle.fort_typing_rules.specs.Components as typing
use Rattle.fort_elab_meaning.specs.Programs.{IsProgramOf}
use Rattle.fort_syntax.specs.Answer as grammar
use Rattle.fort_spawn.specs.Rewritten.{IsRewritten}

-- The tokens are those of one component, which passes no limit.
pub record IsGrammatical (tokens : Tokens) : Type 0 where
  pub component : Component
  pub is : grammar.IsComponent tokens component

-- The token list breaks this rule of the grammar, at this place: one of 202, 201 and 203.
abbrev pub BreaksGrammar : Tokens → Rule → Place → Type 0
BreaksGrammar tokens rule at = grammar.Breaks tokens rule.0 at

-- The rules of the grammar are kept, or this is the one that is reported.
abbrev pub GrammarAnswers : Tokens → Result (Unit {0}) CheckFault → Type 0
GrammarAnswers tokens (Ok u) = IsGrammatical tokens
GrammarAnswers tokens (Err (Refused rule at)) = BreaksGrammar tokens rule at
GrammarAnswers tokens (Err Memory) = Unit {0}

-- Each flat expression of the component has its grouping, its declared types are a hierarchy, it
-- has these members, and each of its overload sets keeps the rules.
pub record IsFormed (component : Component) : Type 0 where
  pub groups : List FlatGrouping
  pub grouped : HasGroups (flats component) groups
  pub types : Hierarchy
  pub typed : IsHierarchy component (type_names component) types
  pub members : Members
  pub belong : AreMembers component members
  pub ruled : KeepAllRules (declares component) members

-- What is known of such a component where its expressions are typed.
abbrev pub known : (c : Component) → IsFormed c → Knows
known c f = known_of c f.types f.members

-- The forms of its expressions.
abbrev pub forms : (c : Component) → IsFormed c → Forms
forms c f = forms_of c (record { list = f.groups })

-- The component keeps all the rules behind the grammar: those before typing, and its forms have
-- these types; and this is its program.
pub record IsAcceptedTree (c : Component) (program : Program) : Type 0 where
  pub formed : IsFormed c
  pub typed : Typed
  pub has_types : HasTypes (known c formed) (forms c formed) typed
  pub becomes : IsProgramOf formed.types formed.members c.texts typed program

-- The component breaks this rule, at this place: the first of 301 to 304 that one of its flat
-- expressions breaks; or, where each has its grouping, the lowest of 401 to 407 that its types
-- break; or, where these are a hierarchy, the lower of 451 and 452 that its fields break; or, where
-- it has members, the first of 501 to 507 that its overload sets break; or, where these keep the
-- rules, the one of 601 to 614 that is reported of its forms.
pub data BreaksTree (c : Component) (rule : Rule) (at : Place) : Type 0 where
  in_grouping : IsFirstBreak (flats c) rule at → BreaksTree c rule at
  in_hierarchy : (groups : List FlatGrouping) → HasGroups (flats c) groups
      → IsReported c (type_names c) rule.0 at → BreaksTree c rule at
  in_fields : (groups : List FlatGrouping) (types : Hierarchy) → HasGroups (flats c) groups
      → IsHierarchy c (type_names c) types → fields.IsReported c rule.0 at → BreaksTree c rule at
  in_overloads : (groups : List FlatGrouping) (types : Hierarchy) (members : Members)
      → HasGroups (flats c) groups → IsHierarchy c (type_names c) types → AreMembers c members
      → overloads.IsReported (declares c) members rule.0 at → BreaksTree c rule at
  in_typing : (f : IsFormed c)
      → typing.IsReported (known c f) (forms c f) (record { rule = rule; place = at })
      → BreaksTree c rule at

-- The component keeps the rules behind the grammar, with this program; or this is the rule that is
-- reported.
abbrev pub ChecksTree : Component → Result Program CheckFault → Type 0
ChecksTree c (Ok program) = IsAcceptedTree c program
ChecksTree c (Err (Refused rule at)) = BreaksTree c rule at
ChecksTree c (Err Memory) = Unit {0}

-- The component, its spawned threads rewritten, keeps all the rules behind the grammar; and this is
-- its program.
pub record IsAcceptedComponent (c : Component) (program : Program) : Type 0 where
  pub rewritten : Component
  pub becomes : IsRewritten c rewritten
  pub keeps : IsAcceptedTree rewritten program

-- The component, its spawned threads rewritten, breaks this rule, at this place.
pub record BreaksComponent (c : Component) (rule : Rule) (at : Place) : Type 0 where
  pub rewritten : Component
  pub becomes : IsRewritten c rewritten
  pub breaks : BreaksTree rewritten rule at

-- The component is accepted, with this program; or this is the rule that is reported.
abbrev pub ChecksComponent : Component → Result Program CheckFault → Type 0
ChecksComponent c (Ok program) = IsAcceptedComponent c program
ChecksComponent c (Err (Refused rule at)) = BreaksComponent c rule at
ChecksComponent c (Err Memory) = Unit {0}

-- The tokens are those of one component, which passes no limit and is accepted; and this is its
-- program.
pub record IsAccepted (tokens : Tokens) (program : Program) : Type 0 where
  pub component : Component
  pub is : grammar.IsComponent tokens component
  pub keeps : IsAcceptedComponent component program

-- The token list breaks this rule, at this place: one of 202, 201 and 203; or, where it is a
-- component, the one that this breaks.
pub data Breaks (tokens : Tokens) (rule : Rule) (at : Place) : Type 0 where
  in_grammar : BreaksGrammar tokens rule at → Breaks tokens rule at
  in_component : (c : Component) → grammar.IsComponent tokens c → BreaksComponent c rule at
      → Breaks tokens rule at

-- The same of a token list.
abbrev pub Checks : Tokens → Result Program CheckFault → Type 0
Checks tokens (Ok program) = IsAccepted tokens program
Checks tokens (Err (Refused rule at)) = Breaks tokens rule at
Checks tokens (Err Memory) = Unit {0}

-- No token list keeps the rules of the grammar and breaks one of them.
abbrev pub NeverBothInGrammar : Type 0
NeverBothInGrammar = (tokens : Tokens) (rule : Rule) (at : Place) → IsGrammatical tokens
    → BreaksGrammar tokens rule at → ⊥

-- No token list is accepted and breaks a rule.
abbrev pub NeverBoth : Type 0
NeverBoth = (tokens : Tokens) (program : Program) (rule : Rule) (at : Place)
    → IsAccepted tokens program → Breaks tokens rule at → ⊥

-- Tokens that are accepted have one program.
abbrev pub OneProgram : Type 0
OneProgram = (tokens : Tokens) (p q : Program) → IsAccepted tokens p → IsAccepted tokens q → p ≡ q

-- No component is accepted and breaks a rule.
abbrev pub NeverBothOfComponent : Type 0
NeverBothOfComponent = (c : Component) (program : Program) (rule : Rule) (at : Place)
    → IsAcceptedComponent c program → BreaksComponent c rule at → ⊥

-- A component that is accepted has one program.
abbrev pub OneProgramOfComponent : Type 0
OneProgramOfComponent = (c : Component) (p q : Program) → IsAcceptedComponent c p
    → IsAcceptedComponent c q → p ≡ q

-- No component keeps the rules behind the grammar and breaks one of them.
abbrev pub NeverBothOfTree : Type 0
NeverBothOfTree = (c : Component) (program : Program) (rule : Rule) (at : Place)
    → IsAcceptedTree c program → BreaksTree c rule at → ⊥

-- A component that keeps the rules behind the grammar has one program.
abbrev pub OneProgramOfTree : Type 0
OneProgramOfTree = (c : Component) (p q : Program) → IsAcceptedTree c p → IsAcceptedTree c q → p ≡ q
