-- A component that keeps all the rules is one that the laws of its program ask.
use Rattle.std.proofs.Common.{◌≡◌, List, [], ◌∷◌, subst}
use Rattle.std.specs.List.{AllByRecursion}
use Rattle.fort_ops.specs.declared.op.Op.TheVariants as an_op
use Rattle.fort_core.specs.declared.program.Program.{Program}
use Rattle.fort_lex_token.specs.declared.token.Tokens.{Tokens}
use Rattle.fort_tree.specs.declared.declarations.Component.{Component}
use Rattle.fort_tree.specs.declared.grouped.Groups.{Groups}
use Rattle.fort_hier.specs.declared.accepted.Hierarchy.{Hierarchy}
use Rattle.fort_types_sets.specs.declared.member.Members.{Members}
use Rattle.fort_member.proofs.Numbered.{all_left, all_item}
use Rattle.fort_typing_known.specs.Known.{Knows}
use Rattle.fort_form.specs.declared.component.BodyForm.{BodyForm}
use Rattle.fort_form.specs.declared.component.InitialForm.{InitialForm}
use Rattle.fort_form.specs.declared.form.Form.{Form, out-Form, map-Form, fold_out-Form}
use Rattle.fort_form.specs.declared.form.Form.TheOpen.{Form-F}
use Rattle.fort_form.specs.declared.form.Item.{Item}
use Rattle.fort_form.specs.declared.form.Branch.{Branch}
use Rattle.fort_form.specs.declared.form.Generator.{Generator}
use Rattle.fort_form.specs.declared.form.TypeBranch.{TypeBranch}
use Rattle.fort_form_typed.specs.declared.component.Typed.{Typed}
use Rattle.fort_form_walk.specs.FormsOf.{forms_of}
use Rattle.fort_typing_law_exact.specs.Ready.{IsBodyReady}
use Rattle.fort_sound_forms.specs.Figures.{Figure, IsRight, figures_form, figures_part, figures_arm, figures_source, figures_case, figures, figures_item, figures_branch, figures_generator, figures_clause, HasFigures}
use Rattle.fort_sound_bodies.specs.Members.{IsFitBody}
use Rattle.fort_sound_program.specs.Checked.{FitsFile, Checked}
use Rattle.fort_sound.specs.Accepted.{KeepsAll}

abbrev mapped : Form-F Form Item Branch Generator TypeBranch
    → Form-F (List Figure) (List Figure) (List Figure) (List Figure) (List Figure)
mapped x =
    map-Form Form Item Branch Generator TypeBranch (List Figure) (List Figure) (List Figure)
    (List Figure) (List Figure) figures figures_item figures_branch figures_generator figures_clause
    x

figures_out : (e : Form) → figures e ≡ figures_form (mapped (out-Form e))
unfolding figures figures_item figures_branch figures_generator figures_clause
figures_out e =
    fold_out-Form (List Figure) (List Figure) (List Figure) (List Figure) (List Figure) figures_form
    figures_part figures_arm figures_source figures_case e

layer : (e : Form) (x : Form-F Form Item Branch Generator TypeBranch) → out-Form e ≡ x
    → HasFigures e → AllByRecursion IsRight (figures_form (mapped x))
layer e x q h =
    subst (λ y. AllByRecursion IsRight (figures_form (mapped y))) q
    (subst (AllByRecursion IsRight) (figures_out e) h)

pub fits : (e : Form) → HasFigures e → FitsFile e
fits e h = record {
  number = λ at n q. (layer e (Form-F.Number at n) q h).0;
  negative =
      λ at inner d n q r. (layer d (Form-F.Number inner n) r
      (all_left IsRight (figures d) []
      (layer e (Form-F.Operator at an_op.Minus (d ∷ [])) q h))).0;
}

-- bodies that are ready, with their figures
pub fit_bodies : (k : Knows) (bs : List BodyForm) → AllByRecursion (IsBodyReady k) bs
    → AllByRecursion (λ (b : BodyForm). HasFigures b.body) bs → AllByRecursion (IsFitBody k) bs
fit_bodies k [] h f = tt
fit_bodies k (b ∷ bs) h f = ((h.0, f.0), fit_bodies k bs h.1 f.1)

pub checked : (tokens : Tokens) (c : Component) (h : Hierarchy) (m : Members) (groups : Groups)
    (typed : Typed) (p : Program) → KeepsAll tokens c h m groups typed p
    → (let forms = forms_of c groups
    in AllByRecursion (λ (i : InitialForm). HasFigures i.value) forms.initials)
    → Checked tokens c h m groups typed p
checked tokens c h m groups typed p all figures = record {
  apart = all.apart;
  tree = all.tree;
  hierarchy = all.hierarchy;
  members = all.members;
  ruled = all.ruled;
  types = all.types;
  constants =
      λ n i e. fits i.value (all_item (λ
      (i : InitialForm). HasFigures i.value) (let forms = forms_of c groups
      in forms.initials) n i figures e);
  program = all.program;
}
