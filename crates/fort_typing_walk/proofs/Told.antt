-- What a form is to the form around it, told by its variant.
use Rattle.std.proofs.Common.{◌≡◌, refl, ap, ◌∙◌}
use Rattle.fort_form.specs.declared.form.Form.{Form, out-Form, map-Form}
use Rattle.fort_form.specs.declared.form.Form.TheOpen.{Form-F}
use Rattle.fort_form.specs.declared.form.Item.{Item}
use Rattle.fort_form.specs.declared.form.Branch.{Branch}
use Rattle.fort_form.specs.declared.form.TypeBranch.{TypeBranch}
use Rattle.fort_form.specs.declared.form.Generator.{Generator}
use Rattle.fort_typing_known.specs.Known.{Facts}
use Rattle.fort_typing_rules.specs.Types.{place_at, place_of}
use Rattle.fort_typing_rules.specs.Typing.{parens_at, listed_at, postfix_at, target_at}
use Rattle.fort_typing_meaning.specs.Parts.{Judge, Piece, Arm, Clause, Giving}
use Rattle.fort_typing_meaning.specs.Judging.{judged, judged_item, judged_branch, judged_generator, judged_clause, judge_form, level}
use Rattle.fort_typing_meaning.proofs.Levels.{judged_level}

module _ (k : Facts) where
  abbrev mapped : Form-F Form Item Branch Generator TypeBranch
      → Form-F Judge Piece Arm Giving Clause
  mapped = map-Form Form Item Branch Generator TypeBranch Judge Piece Arm Giving Clause (judged k)
      (judged_item k) (judged_branch k) (judged_generator k) (judged_clause k)

  flags : (x : Form-F Form Item Branch Generator TypeBranch)
      → (place_at (mapped x) ≡ place_at x) × (parens_at (mapped x) ≡ parens_at x)
      × (listed_at (mapped x) ≡ listed_at x)
      × (postfix_at (mapped x) ≡ postfix_at x) × (target_at (mapped x) ≡ target_at x)
  flags (Form-F.Number v0 v1) = (refl, refl, refl, refl, refl)
  flags (Form-F.Text v0 v1) = (refl, refl, refl, refl, refl)
  flags (Form-F.Truth v0 v1) = (refl, refl, refl, refl, refl)
  flags (Form-F.Receiver v0) = (refl, refl, refl, refl, refl)
  flags (Form-F.Name v0 v1) = (refl, refl, refl, refl, refl)
  flags (Form-F.Parens v0 v1) = (refl, refl, refl, refl, refl)
  flags (Form-F.Tuple v0 v1) = (refl, refl, refl, refl, refl)
  flags (Form-F.Operator v0 v1 v2) = (refl, refl, refl, refl, refl)
  flags (Form-F.Chain v0 v1 v2) = (refl, refl, refl, refl, refl)
  flags (Form-F.Beside v0 v1) = (refl, refl, refl, refl, refl)
  flags (Form-F.Run v0 v1) = (refl, refl, refl, refl, refl)
  flags (Form-F.Subscript v0 v1) = (refl, refl, refl, refl, refl)
  flags (Form-F.Power v0 v1) = (refl, refl, refl, refl, refl)
  flags (Form-F.Field v0 v1 v2) = (refl, refl, refl, refl, refl)
  flags (Form-F.Method v0 v1 v2 v3) = (refl, refl, refl, refl, refl)
  flags (Form-F.Fill v0 v1 v2 v3) = (refl, refl, refl, refl, refl)
  flags (Form-F.Block v0 v1) = (refl, refl, refl, refl, refl)
  flags (Form-F.Do v0 v1) = (refl, refl, refl, refl, refl)
  flags (Form-F.If v0 v1 v2) = (refl, refl, refl, refl, refl)
  flags (Form-F.While v0 v1 v2) = (refl, refl, refl, refl, refl)
  flags (Form-F.For v0 v1 v2) = (refl, refl, refl, refl, refl)
  flags (Form-F.Case v0 v1 v2 v3) = (refl, refl, refl, refl, refl)
  flags (Form-F.Typecase v0 v1 v2 v3 v4 v5) = (refl, refl, refl, refl, refl)
  flags (Form-F.Try v0 v1 v2 v3 v4) = (refl, refl, refl, refl, refl)
  flags (Form-F.Atomic v0 v1) = (refl, refl, refl, refl, refl)
  flags (Form-F.Tryatomic v0 v1) = (refl, refl, refl, refl, refl)
  flags (Form-F.Throw v0 v1) = (refl, refl, refl, refl, refl)
  flags (Form-F.Fn v0 v1 v2) = (refl, refl, refl, refl, refl)
  flags (Form-F.Reduce v0 v1 v2 v3) = (refl, refl, refl, refl, refl)
  flags (Form-F.Assign v0 v1 v2 v3) = (refl, refl, refl, refl, refl)

  judged-out : (f : Form) → judged k f ≡ judge_form k (mapped (out-Form f))
  unfolding level
  judged-out f = judged_level k f

  pub judged_place : (f : Form) → (judged k f).place ≡ place_of f
  unfolding place_of
  judged_place f = ap (λ (j : Judge). j.place) (judged-out f) ∙ (flags (out-Form f)).0

  pub judged_parens : (f : Form) → (judged k f).parens ≡ parens_at (out-Form f)
  judged_parens f = ap (λ (j : Judge). j.parens) (judged-out f) ∙ (flags (out-Form f)).1

  pub judged_listed : (f : Form) → (judged k f).listed ≡ listed_at (out-Form f)
  judged_listed f = ap (λ (j : Judge). j.listed) (judged-out f) ∙ (flags (out-Form f)).2

  pub judged_postfix : (f : Form) → (judged k f).postfix ≡ postfix_at (out-Form f)
  judged_postfix f = ap (λ (j : Judge). j.postfix) (judged-out f) ∙ (flags (out-Form f)).3

  pub judged_target : (f : Form) → (judged k f).target ≡ target_at (out-Form f)
  judged_target f = ap (λ (j : Judge). j.target) (judged-out f) ∙ (flags (out-Form f)).4

pub ruleset flags_told = (judged_place, judged_parens, judged_listed, judged_postfix, judged_target)
