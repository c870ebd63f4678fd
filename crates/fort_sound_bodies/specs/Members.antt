-- The law of a component's declarations with bodies. The chapter "Accepted programs" of
-- docs/SOUNDNESS.md.
use Rattle.std.specs.Prelude.{◌≡◌, ℕ, slice_get, Some}
use Rattle.std.specs.List.{AllByRecursion}
use Rattle.fort_base.specs.declared.refusal.Place.{Place}
use Rattle.fort_lex_token.specs.declared.token.Tokens.{Tokens}
use Rattle.fort_tree.specs.declared.declarations.Component.{Component}
use Rattle.fort_tree.specs.declared.grouped.Groups.{Groups}
use Rattle.fort_tree.specs.Component.{HasTree}
use Rattle.fort_types_sets.specs.declared.member.Member.{Member}
use Rattle.fort_types_sets.specs.declared.member.MemberKind.TheVariants as a_kind
use Rattle.fort_types_sets.specs.declared.member.MemberSet.{MemberSet}
use Rattle.fort_types_sets.specs.declared.member.Members.{Members}
use Rattle.fort_types_sets.specs.Rules.{StandsAt}
use Rattle.fort_member.specs.Answers.{AreMembers}
use Rattle.fort_form.specs.declared.component.BodyForm.{BodyForm}
use Rattle.fort_form_walk.specs.FormsOf.{forms_of}
use Rattle.fort_form_typed.specs.declared.component.Typed.{Typed}
use Rattle.fort_core.specs.declared.program.Program.{Program}
use Rattle.fort_core.specs.declared.term.Term.{Term}
use Rattle.fort_sound_typed.specs.Envs.{none, binds}
use Rattle.fort_sound_typed.specs.Typing.{Has}
use Rattle.fort_sound_typed.specs.Sound.{opening, numbered}
use Rattle.fort_typing_known.specs.Known.{Knows}
use Rattle.fort_typing_rules.specs.Components.{HasTypes}
use Rattle.fort_typing_law_rules.specs.Deciding.{IsAccepted}
use Rattle.fort_typing_law_exact.specs.Ready.{IsBodyReady}
use Rattle.fort_elab_meaning.specs.Parts.{Given}
use Rattle.fort_elab_meaning.specs.Bodies.{bodies, body_at}
use Rattle.fort_elab_law_matched.specs.Component.{StandApart}
use Rattle.fort_sound_forms.specs.Figures.{HasFigures}
use Rattle.fort_sound_forms.specs.Suits.{Suits}

-- A body is ready for typing, and its figures are as the grammar has them.
abbrev pub IsFitBody : Knows → BodyForm → Type 0
IsFitBody k b = IsBodyReady k b × HasFigures b.body

-- Of an accepted component and a program that suits it: the term at the place of a declaration with
-- a body has the declaration's result, with its parameters as the variables from 0 on.
abbrev pub MembersHaveBodies : Type 0
MembersHaveBodies = (tokens : Tokens) (c : Component) (m : Members) (groups : Groups) (k : Knows)
    (typed : Typed) (g : Given) (p : Program) → StandApart tokens.list → HasTree tokens c
    → AreMembers c m
    → IsAccepted k → let forms = forms_of c groups in AllByRecursion (IsFitBody k) forms.bodies
    → HasTypes k forms typed → Suits k g p
    → (n : ℕ) (s : MemberSet) → slice_get m.sets n ≡ Some s → (i : ℕ) (d : Member) → StandsAt s i d
    → d.kind ≡ a_kind.Concrete → (place : Place) → d.place ≡ Some place
    → (t : Term) → body_at (bodies g 0 typed.bodies) place ≡ Some t
    → Has p (opening p) (binds (numbered 0 d.parameters) none) t d.result
