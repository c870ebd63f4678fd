-- What holds of a component that the check accepts, and of its program. The chapter "Accepted
-- programs" of docs/SOUNDNESS.md.
use Rattle.std.specs.Prelude.{◌≡◌, ◌≤◌, ℕ, [], ◌∷◌, slice_get, Some}
use Rattle.fort_base.specs.declared.refusal.Place.{Place}
use Rattle.fort_ops.specs.declared.op.Op.TheVariants as an_op
use Rattle.fort_lex_token.specs.declared.token.Tokens.{Tokens}
use Rattle.fort_tree.specs.declared.declarations.Component.{Component}
use Rattle.fort_tree.specs.declared.grouped.Groups.{Groups}
use Rattle.fort_tree.specs.Component.{HasTree}
use Rattle.fort_tree_type_names.specs.TypeNames.{type_names}
use Rattle.fort_hier.specs.declared.accepted.Hierarchy.{Hierarchy}
use Rattle.fort_hier.specs.Hierarchies.{IsHierarchy, declares}
use Rattle.fort_types_sets.specs.declared.member.Members.{Members}
use Rattle.fort_member.specs.Answers.{AreMembers}
use Rattle.fort_over.specs.Answers.{KeepAllRules}
use Rattle.fort_typing_law_ready.specs.Fit.{known_of}
use Rattle.fort_form.specs.declared.component.InitialForm.{InitialForm}
use Rattle.fort_form.specs.declared.form.Form.{Form, out-Form}
use Rattle.fort_form.specs.declared.form.Form.TheOpen.{Form-F}
use Rattle.fort_form_walk.specs.FormsOf.{forms_of}
use Rattle.fort_form_typed.specs.declared.component.Typed.{Typed}
use Rattle.fort_typing_rules.specs.Components.{HasTypes}
use Rattle.fort_core.specs.declared.program.Program.{Program}
use Rattle.fort_elab_meaning.specs.Programs.{IsProgramOf}
use Rattle.fort_elab_law_matched.specs.Component.{StandApart}

-- The number of a constant is one that a file may have: a ZZ64.
pub record FitsFile (e : Form) : Type 0 where
  pub number : (at : Place) (n : ℕ) → out-Form e ≡ Form-F.Number at n → n ≤ 9223372036854775807
  pub negative : (at inner : Place) (d : Form) (n : ℕ)
      → out-Form e ≡ Form-F.Operator at an_op.Minus (d ∷ []) → out-Form d ≡ Form-F.Number inner n
      → n ≤ 9223372036854775807

-- A component that keeps all the rules, with its typing and its program: tokens that stand apart
-- are its tree; its declared types are a hierarchy; it has these members, and each of its overload
-- sets keeps the rules; its forms have these types, and the numbers of its initials are those of a
-- file; and this is its program.
pub record Checked (tokens : Tokens) (c : Component) (h : Hierarchy) (m : Members) (groups : Groups)
    (typed : Typed) (p : Program) : Type 0 where
  pub apart : StandApart tokens.list
  pub tree : HasTree tokens c
  pub hierarchy : IsHierarchy c (type_names c) h
  pub members : AreMembers c m
  pub ruled : KeepAllRules (declares c) m
  pub types : HasTypes (known_of c h m) (forms_of c groups) typed
  pub constants : (n : ℕ) (i : InitialForm) → slice_get (forms_of c groups).initials n ≡ Some i
      → FitsFile i.value
  pub program : IsProgramOf h m c.texts typed p
