-- Forms that bind names: what their parts mean is what the judge does inside them.
use Rattle.std.proofs.Common.{◌≡◌, List, Option, Some, Result, Ok, Err, OnOk, map, option_map, refl, ap, ◌∙◌, sym}
use Rattle.fort_base.specs.declared.ids.NameId.{NameId}
use Rattle.fort_base.specs.declared.refusal.Place.{Place}
use Rattle.fort_form.specs.declared.form.Form.{Form}
use Rattle.fort_form.specs.declared.form.Form.TheVariants as a_form
use Rattle.fort_form.specs.declared.form.Form.TheOpen.{Form-F}
use Rattle.fort_form.specs.declared.form.Branch.{Branch}
use Rattle.fort_form.specs.declared.form.TypeBranch.{TypeBranch}
use Rattle.fort_typing_known.specs.Known.{Facts}
use Rattle.fort_typing_meaning.specs.Parts.{Judge, Piece, Arm, Clause, Giving, State}
use Rattle.fort_typing_meaning.specs.Judging.{inside, judged, judged_branch, judged_clause, level}
use Rattle.fort_typing_meaning.proofs.Levels.{level-Case, level-Typecase, level-Try}
use Rattle.fort_typing_tasks.specs.declared.task.Task.{Task}
use Rattle.fort_typing_tasks.specs.Tasks.{run}
use Rattle.fort_typing_tasks.specs.Insides.{case_inside, try_inside, typecase_inside}

-- what is meant by the tasks of a form's level is meant by those of the form
by_level : (k : Facts) (s : State) (old : List Task) (f : Form)
    (x : Form-F Judge Piece Arm Giving Clause) → level k f ≡ x
    → run k old (inside k x s) ≡ run k old (inside k (level k f) s)
by_level k s old f x e =
    ap (λ (l : Form-F Judge Piece Arm Giving Clause). run k old (inside k l s)) (sym e)

pub case_arm : (f : Form) (p : Place) (v1 : Form) (v2 : List Branch) (v3 : Option Form)
    (old new : List Task) {A E : Type 0} (r : Result A E) → f ≡ a_form.Case p v1 v2 v3
    → OnOk r ((k : Facts) (s : State)
    → run k new s
    ≡ run k old
    (case_inside k (judged k v1) (map (judged_branch k) v2) (option_map (judged k) v3) s))
    → OnOk r ((k : Facts) (s : State) → run k new s ≡ run k old (inside k (level k f) s))
case_arm f p v1 v2 v3 old new (Err e) q h = tt
case_arm f p v1 v2 v3 old new (Ok a) q h =
    λ k s. h k s
    ∙ by_level k s old f
    (Form-F.Case p (judged k v1) (map (judged_branch k) v2) (option_map (judged k) v3))
    (ap (level k) q ∙ level-Case k p v1 v2 v3)

pub typecase_arm : (f : Form) (p at : Place) (name : NameId) (v3 : Form) (v4 : List TypeBranch)
    (v5 : Option Form) (old new : List Task) {A E : Type 0} (r : Result A E)
    → f ≡ a_form.Typecase p at name v3 v4 v5
    → OnOk r ((k : Facts) (s : State)
    → run k new s
    ≡ run k old
    (typecase_inside k (at, name) (judged k v3) (map (judged_clause k) v4)
    (option_map (judged k) v5) s))
    → OnOk r ((k : Facts) (s : State) → run k new s ≡ run k old (inside k (level k f) s))
typecase_arm f p at name v3 v4 v5 old new (Err e) q h = tt
typecase_arm f p at name v3 v4 v5 old new (Ok a) q h =
    λ k s. h k s
    ∙ by_level k s old f
    (Form-F.Typecase p at name (judged k v3) (map (judged_clause k) v4)
    (option_map (judged k) v5)) (ap (level k) q ∙ level-Typecase k p at name v3 v4 v5)

pub try_arm : (f : Form) (p : Place) (v1 : Form) (name : Option (Place × NameId))
    (v3 : List TypeBranch) (v4 : Option Form) (old new : List Task) {A E : Type 0} (r : Result A E)
    → f ≡ a_form.Try p v1 name v3 v4
    → OnOk r ((k : Facts) (s : State)
    → run k new s
    ≡ run k old
    (try_inside k (judged k v1) name (map (judged_clause k) v3) (option_map (judged k) v4) s))
    → OnOk r ((k : Facts) (s : State) → run k new s ≡ run k old (inside k (level k f) s))
try_arm f p v1 name v3 v4 old new (Err e) q h = tt
try_arm f p v1 name v3 v4 old new (Ok a) q h =
    λ k s. h k s
    ∙ by_level k s old f
    (Form-F.Try p (judged k v1) name (map (judged_clause k) v3) (option_map (judged k) v4))
    (ap (level k) q ∙ level-Try k p v1 name v3 v4)
