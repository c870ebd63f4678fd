-- Where forms begin, by their variants, and where units do.
use Rattle.std.proofs.Common.{◌≡◌, ℕ, Bool, List, [], ◌∷◌, Option, Some, None, refl, rules}
use Rattle.fort_base.specs.declared.ids.NameId.{NameId}
use Rattle.fort_base.specs.declared.refusal.Place.{Place}
use Rattle.fort_base.specs.declared.ty.Ty.{Ty}
use Rattle.fort_ops.specs.declared.op.Op.{Op}
use Rattle.fort_form.specs.declared.form.Branch.{Branch}
use Rattle.fort_form.specs.declared.form.Form.{Form, the_lemmas}
use Rattle.fort_form.specs.declared.form.Form.TheVariants as a_form
use Rattle.fort_form.specs.declared.form.Generator.{Generator}
use Rattle.fort_form.specs.declared.form.TypeBranch.{TypeBranch}
use Rattle.fort_form_meaning.specs.Forming.{between, run_of}
use Rattle.fort_form_meaning.specs.Levels.{Listed}
use Rattle.fort_form_meaning.specs.Places.{place_of}

pub place-Name : (p : Place) (n : NameId) → place_of (a_form.Name p n) ≡ p
unfolding place_of
place-Name p n = search (rules, the_lemmas)

pub place-Number : (p : Place) (n : ℕ) → place_of (a_form.Number p n) ≡ p
unfolding place_of
place-Number p n = search (rules, the_lemmas)

pub place-Text : (p : Place) (n : ℕ) → place_of (a_form.Text p n) ≡ p
unfolding place_of
place-Text p n = search (rules, the_lemmas)

pub place-Truth : (p : Place) (b : Bool) → place_of (a_form.Truth p b) ≡ p
unfolding place_of
place-Truth p b = search (rules, the_lemmas)

pub place-Receiver : (p : Place) → place_of (a_form.Receiver p) ≡ p
unfolding place_of
place-Receiver p = search (rules, the_lemmas)

pub place-Parens : (p : Place) (e : Form) → place_of (a_form.Parens p e) ≡ p
unfolding place_of
place-Parens p e = search (rules, the_lemmas)

pub place-Tuple : (p : Place) (es : List Form) → place_of (a_form.Tuple p es) ≡ p
unfolding place_of
place-Tuple p es = search (rules, the_lemmas)

pub place-Operator : (p : Place) (op : Op) (es : List Form) → place_of (a_form.Operator p op es) ≡ p
unfolding place_of
place-Operator p op es = search (rules, the_lemmas)

pub place-Run : (p : Place) (es : List Form) → place_of (a_form.Run p es) ≡ p
unfolding place_of
place-Run p es = search (rules, the_lemmas)

pub place-Fill : (p : Place) (ty : Ty) (size value : Form)
    → place_of (a_form.Fill p ty size value) ≡ p
unfolding place_of
place-Fill p ty size value = search (rules, the_lemmas)

pub place-Do : (p : Place) (es : List Form) → place_of (a_form.Do p es) ≡ p
unfolding place_of
place-Do p es = search (rules, the_lemmas)

pub place-If : (p : Place) (bs : List Branch) (e : Option Form) → place_of (a_form.If p bs e) ≡ p
unfolding place_of
place-If p bs e = search (rules, the_lemmas)

pub place-While : (p : Place) (c e : Form) → place_of (a_form.While p c e) ≡ p
unfolding place_of
place-While p c e = search (rules, the_lemmas)

pub place-For : (p : Place) (gs : List Generator) (e : Form) → place_of (a_form.For p gs e) ≡ p
unfolding place_of
place-For p gs e = search (rules, the_lemmas)

pub place-Case : (p : Place) (s : Form) (bs : List Branch) (e : Option Form)
    → place_of (a_form.Case p s bs e) ≡ p
unfolding place_of
place-Case p s bs e = search (rules, the_lemmas)

pub place-Typecase : (p q : Place) (n : NameId) (s : Form) (bs : List TypeBranch) (e : Option Form)
    → place_of (a_form.Typecase p q n s bs e) ≡ p
unfolding place_of
place-Typecase p q n s bs e = search (rules, the_lemmas)

pub place-Try : (p : Place) (b : Form) (x : Option (Place × NameId)) (bs : List TypeBranch)
    (e : Option Form) → place_of (a_form.Try p b x bs e) ≡ p
unfolding place_of
place-Try p b x bs e = search (rules, the_lemmas)

pub place_of_run : (first : Form) (rest : List Form) → place_of (run_of first rest) ≡ place_of first
place_of_run first [] = refl
place_of_run first (next ∷ rest) = place-Run (place_of first) (first ∷ next ∷ rest)

pub place_of_parentheses : (p : Place) (contents : Option Listed)
    → place_of (between p contents) ≡ p
place_of_parentheses p None = place-Tuple p []
place_of_parentheses p (Some []) = place-Tuple p []
place_of_parentheses p (Some (e ∷ [])) = place-Parens p e
place_of_parentheses p (Some (e ∷ f ∷ es)) = place-Tuple p (e ∷ f ∷ es)
