-- What acceptance is worth. The chapter "Accepted programs" of docs/SOUNDNESS.md.
use Rattle.std.specs.Prelude.{ℕ, Bool, List}
use Rattle.std.specs.List.{AllByRecursion}
use Rattle.fort_base.specs.declared.ty.Ty.{Ty}
use Rattle.fort_lex_token.specs.declared.token.Tokens.{Tokens}
use Rattle.fort_tree.specs.declared.declarations.Component.{Component}
use Rattle.fort_tree.specs.declared.grouped.Groups.{Groups}
use Rattle.fort_tree.specs.Component.{HasTree}
use Rattle.fort_tree.specs.Limits.{flats}
use Rattle.fort_group.specs.Components.{HasGroups}
use Rattle.fort_tree_type_names.specs.TypeNames.{type_names}
use Rattle.fort_hier.specs.declared.accepted.Hierarchy.{Hierarchy}
use Rattle.fort_hier.specs.Hierarchies.{IsHierarchy, declares}
use Rattle.fort_types_sets.specs.declared.member.Members.{Members}
use Rattle.fort_member.specs.Answers.{AreMembers}
use Rattle.fort_over.specs.Answers.{KeepAllRules}
use Rattle.fort_typing_law_ready.specs.Fit.{known_of}
use Rattle.fort_form_walk.specs.FormsOf.{forms_of}
use Rattle.fort_form_typed.specs.declared.component.Typed.{Typed}
use Rattle.fort_typing_rules.specs.Components.{HasTypes}
use Rattle.fort_core.specs.declared.program.Program.{Program}
use Rattle.fort_core.specs.declared.term.Term.{Term}
use Rattle.fort_machine.specs.Effects.{Store}
use Rattle.fort_machine.specs.OneDefinition.{IsOne}
use Rattle.fort_machine.specs.Proper.{Reached}
use Rattle.fort_sound_typed.specs.Sound.{Sound, Defined, Typed as TypedBy}
use Rattle.fort_sound_typed.specs.Goes.{Complete, Goes}
use Rattle.fort_elab_meaning.specs.Programs.{IsProgramOf}
use Rattle.fort_elab_law_matched.specs.Component.{StandApart}
use Rattle.fort_front.specs.Front.{IsAccepted, IsAcceptedComponent, IsAcceptedTree}
use Rattle.fort_front.specs.Written.{AreInOrder}
use Rattle.fort_lex.specs.Files.{HasTokens}
use Rattle.fort_lex_law_tokens.specs.Numerals.{Fits}

-- A component that keeps all the rules, with its program: tokens that stand apart are its tree,
-- whose flat expressions have these groupings; its declared types are a hierarchy; it has these
-- members, and each of its overload sets keeps the rules; its forms have these types; each number
-- among its tokens is a ZZ64; and this is its program.
pub record KeepsAll (tokens : Tokens) (c : Component) (h : Hierarchy) (m : Members)
    (groups : Groups) (typed : Typed) (p : Program) : Type 0 where
  pub apart : StandApart tokens.list
  pub tree : HasTree tokens c
  pub grouped : HasGroups (flats c) groups.list
  pub hierarchy : IsHierarchy c (type_names c) h
  pub members : AreMembers c m
  pub ruled : KeepAllRules (declares c) m
  pub types : HasTypes (known_of c h m) (forms_of c groups) typed
  pub numbers : AllByRecursion Fits tokens.list
  pub program : IsProgramOf h m c.texts typed p

-- What the laws of runs take of a program.
pub record IsFounded (p : Program) : Type 0 where
  pub sound : Sound p
  pub defined : Defined p
  pub complete : Complete p

-- The program of a component that keeps all the rules is sound and complete, and each call of typed
-- values in it has one definition.
abbrev pub KeepersAreSound : Type 0
KeepersAreSound = (tokens : Tokens) (c : Component) (h : Hierarchy) (m : Members) (groups : Groups)
    (typed : Typed) (p : Program) → KeepsAll tokens c h m groups typed p → IsFounded p

-- So is the program of a component that keeps the rules behind the grammar, where it is the tree of
-- tokens that stand apart and whose numbers are ZZ64 at most.
abbrev pub AcceptedTreeIsSound : Type 0
AcceptedTreeIsSound = (tokens : Tokens) (c : Component) (p : Program) → StandApart tokens.list
    → AllByRecursion Fits tokens.list → HasTree tokens c → IsAcceptedTree c p → IsFounded p

-- So is the program of an accepted component, where it is the tree of tokens that are in order and
-- whose numbers are ZZ64 at most.
abbrev pub AcceptedComponentIsSound : Type 0
AcceptedComponentIsSound = (tokens : Tokens) (c : Component) (p : Program) → AreInOrder tokens
    → AllByRecursion Fits tokens.list → HasTree tokens c → IsAcceptedComponent c p → IsFounded p

-- The tokens of a file are in order.
abbrev pub FileIsInOrder : Type 0
FileIsInOrder = (bytes : List ℕ) (tokens : Tokens) → HasTokens bytes tokens → AreInOrder tokens

-- So is the program of a file whose tokens are accepted.
abbrev pub AcceptedIsSound : Type 0
AcceptedIsSound = (bytes : List ℕ) (tokens : Tokens) (p : Program) → HasTokens bytes tokens
    → IsAccepted tokens p → IsFounded p

-- What is so wherever a machine of a program comes to: the term has a type by the types of the
-- store's locations, each call of values in it has exactly one declaration that it runs, and it
-- isn't stuck.
pub record IsWell (p : Program) (inner : Bool) (s : Store) (t : Term) : Type 0 where
  pub type : Ty
  pub typed : TypedBy p t s type
  pub one : IsOne p t
  pub goes : Goes p inner s t

-- So it is wherever a machine of such a program comes to, the root's or an attempt's.
abbrev pub FoundedRunsWell : Type 0
FoundedRunsWell = (p : Program) → IsFounded p
    → (inner : Bool) (s : Store) (t : Term) → Reached p inner s t → IsWell p inner s t

-- And of the program of an accepted file.
abbrev pub AcceptedRunsWell : Type 0
AcceptedRunsWell = (bytes : List ℕ) (tokens : Tokens) (p : Program) → HasTokens bytes tokens
    → IsAccepted tokens p → (inner : Bool) (s : Store) (t : Term) → Reached p inner s t
    → IsWell p inner s t
