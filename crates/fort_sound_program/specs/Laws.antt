-- The laws: what is taken of an accepted program is so of the program of a component that keeps all
-- the rules. The chapters "Accepted programs" and "Dispatch" of docs/SOUNDNESS.md.
use Rattle.std.specs.Prelude.{◌≡◌, ℕ, List, slice_get, Some}
use Rattle.fort_base.specs.declared.ids.DeclId.{DeclId}
use Rattle.fort_base.specs.declared.refusal.Place.{Place}
use Rattle.fort_lex_token.specs.declared.token.Tokens.{Tokens}
use Rattle.fort_tree.specs.declared.declarations.Component.{Component}
use Rattle.fort_tree.specs.declared.grouped.Groups.{Groups}
use Rattle.fort_hier.specs.Hierarchies.{declares}
use Rattle.fort_hier.specs.declared.accepted.Hierarchy.{Hierarchy}
use Rattle.fort_types_sets.specs.declared.member.Member.{Member}
use Rattle.fort_types_sets.specs.declared.member.MemberKind.TheVariants as a_kind
use Rattle.fort_types_sets.specs.declared.member.MemberSet.{MemberSet}
use Rattle.fort_types_sets.specs.declared.member.Members.{Members}
use Rattle.fort_types_sets.specs.Rules.{StandsAt}
use Rattle.fort_form_typed.specs.declared.component.Typed.{Typed}
use Rattle.fort_core.specs.declared.program.CoreBody.TheVariants as body
use Rattle.fort_core.specs.declared.program.CoreDecl.{CoreDecl}
use Rattle.fort_core.specs.declared.program.Program.{Program}
use Rattle.fort_core.specs.declared.term.Term.{Term}
use Rattle.fort_machine.specs.Written.{WrittenProgram}
use Rattle.fort_sound_typed.specs.Envs.{none, binds}
use Rattle.fort_sound_typed.specs.Typing.{Has}
use Rattle.fort_sound_typed.specs.Sound.{opening, numbered, Sound}
use Rattle.fort_sound_typed.specs.Goes.{Complete}
use Rattle.fort_sound_defined.specs.Sets.{SetsKeep, ValuesAreLeaves}
use Rattle.fort_elab_meaning.specs.Bodies.{bodies, body_at}
use Rattle.fort_elab_meaning.specs.Programs.{given, IsProgramOf}
use Rattle.fort_sound_program.specs.Checked.{Checked}

-- The bodies of a program's declarations have their results' types.
abbrev pub BodiesHave : Program → Type 0
BodiesHave p = (d : DeclId) (decl : CoreDecl) (t : Term) → slice_get p.decls d.0 ≡ Some decl
    → decl.body ≡ body.Plain t
    → Has p (opening p) (binds (numbered 0 decl.parameters) none) t decl.result

-- The terms of a component's bodies have the results of the declarations at their places, with the
-- parameters as the variables from 0 on.
abbrev pub MembersHave : Members → List (List ℕ) → Typed → Program → Type 0
MembersHave m texts typed p = (n : ℕ) (s : MemberSet) → slice_get m.sets n ≡ Some s
    → (i : ℕ) (d : Member) → StandsAt s i d → d.kind ≡ a_kind.Concrete → (place : Place)
    → d.place ≡ Some place
    → (t : Term) → body_at (bodies (given m texts typed) 0 typed.bodies) place ≡ Some t
    → Has p (opening p) (binds (numbered 0 d.parameters) none) t d.result

-- So the bodies of its program have their results' types.
abbrev pub ProgramHasBodies : Type 0
ProgramHasBodies = (h : Hierarchy) (m : Members) (texts : List (List ℕ)) (typed : Typed)
    (p : Program) → IsProgramOf h m texts typed p → MembersHave m texts typed p → BodiesHave p

-- The program of a component that keeps all the rules is sound, where it is as it is written and
-- its bodies have their results' types.
abbrev pub ProgramIsSound : Type 0
ProgramIsSound = (tokens : Tokens) (c : Component) (h : Hierarchy) (m : Members) (groups : Groups)
    (typed : Typed) (p : Program) → Checked tokens c h m groups typed p → WrittenProgram p
    → BodiesHave p → Sound p

-- It is complete, where it is as it is written.
abbrev pub ProgramIsComplete : Type 0
ProgramIsComplete = (tokens : Tokens) (c : Component) (h : Hierarchy) (m : Members)
    (groups : Groups) (typed : Typed) (p : Program) → Checked tokens c h m groups typed p
    → WrittenProgram p → Complete p

-- Its sets come from overload sets that keep the rules, and values have declared types of their own
-- only where these are objects or leaves.
abbrev pub ProgramSetsKeep : Type 0
ProgramSetsKeep = (tokens : Tokens) (c : Component) (h : Hierarchy) (m : Members) (groups : Groups)
    (typed : Typed) (p : Program) → Checked tokens c h m groups typed p
    → ValuesAreLeaves (declares c) p × SetsKeep (declares c) p
