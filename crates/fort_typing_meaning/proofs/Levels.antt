-- What each form answers, as one level of it.
use Rattle.std.proofs.Common.{◌≡◌, ℕ, Bool, List, Option, rules, ap, sym, ◌∙◌}
use Rattle.std.specs.Prelude.{map, option_map}
use Rattle.fort_base.specs.declared.ids.NameId.{NameId}
use Rattle.fort_base.specs.declared.refusal.Place.{Place}
use Rattle.fort_base.specs.declared.ty.Ty.{Ty}
use Rattle.fort_ops.specs.declared.op.Op.{Op}
use Rattle.fort_form.specs.declared.form.Form.{Form, the_lemmas}
use Rattle.fort_form.specs.declared.form.Form.TheVariants as a_form
use Rattle.fort_form.specs.declared.form.Form.TheOpen.{Form-F, Item-F}
use Rattle.fort_form.specs.declared.form.Item.{Item}
use Rattle.fort_form.specs.declared.form.Item.TheVariants as an_item
use Rattle.fort_form.specs.declared.form.Branch.{Branch, out-Branch}
use Rattle.fort_form.specs.declared.form.Generator.{Generator, out-Generator}
use Rattle.fort_form.specs.declared.form.TypeBranch.{TypeBranch, out-TypeBranch}
use Rattle.fort_form.specs.declared.form.Parameter.{Parameter}
use Rattle.fort_form.specs.declared.form.Reduction.{Reduction}
use Rattle.fort_form.specs.declared.form.Update.{Update}
use Rattle.fort_typing_known.specs.Known.{Facts}
use Rattle.fort_typing_meaning.specs.Parts.{Judge, Piece, local, locals, expression, Arm, Clause, Giving}
use Rattle.fort_typing_meaning.specs.Judging.{judge_form, judged, judged_item, judged_branch, judged_generator, judged_clause, level}

module _ (k : Facts) where
  pub judged_level : (f : Form) → judged k f ≡ judge_form k (level k f)
  unfolding judged judged_item judged_branch judged_generator judged_clause level
  judged_level f = search (rules, the_lemmas)

  pub level-Number : (v0 : Place) (v1 : ℕ) → level k (a_form.Number v0 v1) ≡ Form-F.Number v0 v1
  unfolding level
  level-Number v0 v1 = search (rules, the_lemmas)

  pub level-Text : (v0 : Place) (v1 : ℕ) → level k (a_form.Text v0 v1) ≡ Form-F.Text v0 v1
  unfolding level
  level-Text v0 v1 = search (rules, the_lemmas)

  pub level-Truth : (v0 : Place) (v1 : Bool) → level k (a_form.Truth v0 v1) ≡ Form-F.Truth v0 v1
  unfolding level
  level-Truth v0 v1 = search (rules, the_lemmas)

  pub level-Receiver : (v0 : Place) → level k (a_form.Receiver v0) ≡ Form-F.Receiver v0
  unfolding level
  level-Receiver v0 = search (rules, the_lemmas)

  pub level-Name : (v0 : Place) (v1 : NameId) → level k (a_form.Name v0 v1) ≡ Form-F.Name v0 v1
  unfolding level
  level-Name v0 v1 = search (rules, the_lemmas)

  pub level-Parens : (v0 : Place) (v1 : Form)
      → level k (a_form.Parens v0 v1) ≡ Form-F.Parens v0 (judged k v1)
  unfolding level
  level-Parens v0 v1 = search (rules, the_lemmas)

  pub level-Tuple : (v0 : Place) (v1 : List Form)
      → level k (a_form.Tuple v0 v1) ≡ Form-F.Tuple v0 (map (judged k) v1)
  unfolding level
  level-Tuple v0 v1 = search (rules, the_lemmas)

  pub level-Operator : (v0 : Place) (v1 : Op) (v2 : List Form)
      → level k (a_form.Operator v0 v1 v2) ≡ Form-F.Operator v0 v1 (map (judged k) v2)
  unfolding level
  level-Operator v0 v1 v2 = search (rules, the_lemmas)

  pub level-Chain : (v0 : Place) (v1 : List Op) (v2 : List Form)
      → level k (a_form.Chain v0 v1 v2) ≡ Form-F.Chain v0 v1 (map (judged k) v2)
  unfolding level
  level-Chain v0 v1 v2 = search (rules, the_lemmas)

  pub level-Beside : (v0 : Place) (v1 : List Form)
      → level k (a_form.Beside v0 v1) ≡ Form-F.Beside v0 (map (judged k) v1)
  unfolding level
  level-Beside v0 v1 = search (rules, the_lemmas)

  pub level-Run : (v0 : Place) (v1 : List Form)
      → level k (a_form.Run v0 v1) ≡ Form-F.Run v0 (map (judged k) v1)
  unfolding level
  level-Run v0 v1 = search (rules, the_lemmas)

  pub level-Subscript : (v0 : Place) (v1 : Form)
      → level k (a_form.Subscript v0 v1) ≡ Form-F.Subscript v0 (judged k v1)
  unfolding level
  level-Subscript v0 v1 = search (rules, the_lemmas)

  pub level-Power : (v0 : Place) (v1 : Form)
      → level k (a_form.Power v0 v1) ≡ Form-F.Power v0 (judged k v1)
  unfolding level
  level-Power v0 v1 = search (rules, the_lemmas)

  pub level-Field : (v0 : Place) (v1 : Place) (v2 : NameId)
      → level k (a_form.Field v0 v1 v2) ≡ Form-F.Field v0 v1 v2
  unfolding level
  level-Field v0 v1 v2 = search (rules, the_lemmas)

  pub level-Method : (v0 : Place) (v1 : Place) (v2 : NameId) (v3 : List Form)
      → level k (a_form.Method v0 v1 v2 v3) ≡ Form-F.Method v0 v1 v2 (map (judged k) v3)
  unfolding level
  level-Method v0 v1 v2 v3 = search (rules, the_lemmas)

  pub level-Fill : (v0 : Place) (v1 : Ty) (v2 : Form) (v3 : Form)
      → level k (a_form.Fill v0 v1 v2 v3) ≡ Form-F.Fill v0 v1 (judged k v2) (judged k v3)
  unfolding level
  level-Fill v0 v1 v2 v3 = search (rules, the_lemmas)

  pub level-Block : (v0 : Place) (v1 : List Item)
      → level k (a_form.Block v0 v1) ≡ Form-F.Block v0 (map (judged_item k) v1)
  unfolding level
  level-Block v0 v1 = search (rules, the_lemmas)

  pub level-Do : (v0 : Place) (v1 : List Form)
      → level k (a_form.Do v0 v1) ≡ Form-F.Do v0 (map (judged k) v1)
  unfolding level
  level-Do v0 v1 = search (rules, the_lemmas)

  pub level-If : (v0 : Place) (v1 : List Branch) (v2 : Option Form)
      → level k (a_form.If v0 v1 v2)
      ≡ Form-F.If v0 (map (judged_branch k) v1) (option_map (judged k) v2)
  unfolding level
  level-If v0 v1 v2 = search (rules, the_lemmas)

  pub level-While : (v0 : Place) (v1 : Form) (v2 : Form)
      → level k (a_form.While v0 v1 v2) ≡ Form-F.While v0 (judged k v1) (judged k v2)
  unfolding level
  level-While v0 v1 v2 = search (rules, the_lemmas)

  pub level-For : (v0 : Place) (v1 : List Generator) (v2 : Form)
      → level k (a_form.For v0 v1 v2) ≡ Form-F.For v0 (map (judged_generator k) v1) (judged k v2)
  unfolding level
  level-For v0 v1 v2 = search (rules, the_lemmas)

  pub level-Case : (v0 : Place) (v1 : Form) (v2 : List Branch) (v3 : Option Form)
      → level k (a_form.Case v0 v1 v2 v3)
      ≡ Form-F.Case v0 (judged k v1) (map (judged_branch k) v2) (option_map (judged k) v3)
  unfolding level
  level-Case v0 v1 v2 v3 = search (rules, the_lemmas)

  pub level-Typecase : (v0 : Place) (v1 : Place) (v2 : NameId) (v3 : Form) (v4 : List TypeBranch)
      (v5 : Option Form)
      → level k (a_form.Typecase v0 v1 v2 v3 v4 v5)
      ≡ Form-F.Typecase v0 v1 v2 (judged k v3) (map (judged_clause k) v4) (option_map (judged k) v5)
  unfolding level
  level-Typecase v0 v1 v2 v3 v4 v5 = search (rules, the_lemmas)

  pub level-Try : (v0 : Place) (v1 : Form) (v2 : Option ((Place × NameId))) (v3 : List TypeBranch)
      (v4 : Option Form)
      → level k (a_form.Try v0 v1 v2 v3 v4)
      ≡ Form-F.Try v0 (judged k v1) v2 (map (judged_clause k) v3) (option_map (judged k) v4)
  unfolding level
  level-Try v0 v1 v2 v3 v4 = search (rules, the_lemmas)

  pub level-Atomic : (v0 : Place) (v1 : Form)
      → level k (a_form.Atomic v0 v1) ≡ Form-F.Atomic v0 (judged k v1)
  unfolding level
  level-Atomic v0 v1 = search (rules, the_lemmas)

  pub level-Tryatomic : (v0 : Place) (v1 : Form)
      → level k (a_form.Tryatomic v0 v1) ≡ Form-F.Tryatomic v0 (judged k v1)
  unfolding level
  level-Tryatomic v0 v1 = search (rules, the_lemmas)

  pub level-Throw : (v0 : Place) (v1 : Form)
      → level k (a_form.Throw v0 v1) ≡ Form-F.Throw v0 (judged k v1)
  unfolding level
  level-Throw v0 v1 = search (rules, the_lemmas)

  pub level-Fn : (v0 : Place) (v1 : List Parameter) (v2 : Form)
      → level k (a_form.Fn v0 v1 v2) ≡ Form-F.Fn v0 v1 (judged k v2)
  unfolding level
  level-Fn v0 v1 v2 = search (rules, the_lemmas)

  pub level-Reduce : (v0 : Place) (v1 : Reduction) (v2 : Generator) (v3 : Form)
      → level k (a_form.Reduce v0 v1 v2 v3)
      ≡ Form-F.Reduce v0 v1 (judged_generator k v2) (judged k v3)
  unfolding level
  level-Reduce v0 v1 v2 v3 = search (rules, the_lemmas)

  pub level-Assign : (v0 : Place) (v1 : Form) (v2 : Update) (v3 : Form)
      → level k (a_form.Assign v0 v1 v2 v3) ≡ Form-F.Assign v0 (judged k v1) v2 (judged k v3)
  unfolding level
  level-Assign v0 v1 v2 v3 = search (rules, the_lemmas)

  pub piece-Local : (v0 : Place) (v1 : NameId) (v2 : Bool) (v3 : Ty) (v4 : Form)
      → judged_item k (an_item.Local v0 v1 v2 v3 v4) ≡ local v0 v1 v2 v3 (judged k v4)
  unfolding judged_item judged judged_branch judged_generator judged_clause
  piece-Local v0 v1 v2 v3 v4 = search (rules, the_lemmas)

  pub piece-Locals : (v0 : Place) (v1 : List ((Place × NameId))) (v2 : Ty) (v3 : Form)
      → judged_item k (an_item.Locals v0 v1 v2 v3) ≡ locals v0 v1 v2 (judged k v3)
  unfolding judged_item judged judged_branch judged_generator judged_clause
  piece-Locals v0 v1 v2 v3 = search (rules, the_lemmas)

  pub piece-Expression : (v0 : Form)
      → judged_item k (an_item.Expression v0) ≡ expression (judged k v0)
  unfolding judged_item judged judged_branch judged_generator judged_clause
  piece-Expression v0 = search (rules, the_lemmas)

  pub arm-is : (b : Branch)
      → judged_branch k b
      ≡ record { test = judged k (out-Branch b).test; value = judged k (out-Branch b).value }
  unfolding judged judged_item judged_branch judged_generator judged_clause
  arm-is b = search (rules, the_lemmas)

  pub giving-is : (g : Generator)
      → judged_generator k g
      ≡ record {
        place = (out-Generator g).place;
        name = (out-Generator g).name;
        sequential = (out-Generator g).sequential;
        source = judged k (out-Generator g).source;
      }
  unfolding judged judged_item judged_branch judged_generator judged_clause
  giving-is g = search (rules, the_lemmas)

  pub clause-is : (b : TypeBranch)
      → judged_clause k b
      ≡ record {
        place = (out-TypeBranch b).place;
        ty = (out-TypeBranch b).ty;
        value = judged k (out-TypeBranch b).value;
      }
  unfolding judged judged_item judged_branch judged_generator judged_clause
  clause-is b = search (rules, the_lemmas)
