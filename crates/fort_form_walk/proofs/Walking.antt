-- One task of the walk, and a flat expression by its grouping.
use Rattle.std.proofs.Common.{◌≡◌, List, [], ◌∷◌, Some, None, refl, sym, ap, ◌∙◌, subst}
use Rattle.std.specs.Prelude.{map}
use Rattle.fort_base.specs.declared.refusal.Place.{Place}
use Rattle.fort_form.specs.declared.form.Form.{Form}
use Rattle.fort_tree.specs.declared.expr.Flat.{Flat, out-Flat}
use Rattle.fort_tree.specs.declared.grouped.Grouped.{Grouped}
use Rattle.fort_form_meaning.specs.Source.{Source}
use Rattle.fort_form_meaning.specs.Formed.{formed_flat, formed_flat_part, formed_operand}
use Rattle.fort_form_meaning.specs.Forming.{grouped_by}
use Rattle.fort_form_meaning.specs.Places.{place_of}
use Rattle.fort_form_meaning.proofs.FormsFlats.{flat_forms}
use Rattle.fort_form_tasks.specs.declared.task.Part.{Part}
use Rattle.fort_form_tasks.specs.declared.task.Task.{Task}
use Rattle.fort_form_tasks.specs.declared.task.Task.TheVariants as a_task
use Rattle.fort_form_tasks.specs.Tasks.{Leads, Sees, formed_group, formed_part, inside}
use Rattle.fort_form_tasks.proofs.Steps.{built}
use Rattle.fort_form_build.specs.Taking.{Gives}

-- what stands in a part is seen before it is built
pub opened : (k : Source) (part : Part) {old mid new : List Task} → mid ≡ a_task.Build part ∷ old
    → Sees k (inside k part) mid new → Sees k (formed_part k part ∷ []) old new
opened k part {new = new} e s =
    built k part (subst (λ (tasks : List Task). Sees k (inside k part) tasks new) e s)

-- to see a part
pub does_see : (k : Source) (part : Part) (done goal : List Form) {old new : List Task}
    → Sees k (formed_part k part ∷ []) old new → Leads k (a_task.See part ∷ old) done goal
    → Leads k new done goal
does_see k part done goal s h = s.sees done goal h

-- to build a part
pub does_build : (k : Source) (part : Part) (tasks : List Task) (goal : List Form)
    {old mid new : List Form} {made : Form}
    → Gives (inside k part) (formed_part k part) old mid made → new ≡ made ∷ mid
    → Leads k (a_task.Build part ∷ tasks) old goal → Leads k tasks new goal
does_build k part tasks goal {mid = mid} g e h =
    let r = g.gives h.0 h.1 in
    subst (λ z. Leads k tasks z goal)
    (sym (e ∙ ap (λ m. m ∷ mid) r.0 ∙ ap (λ s. formed_part k part ∷ s) r.1)) h.2

-- a flat expression that has a grouping
pub flat_grouped : (k : Source) (flat : Flat) (place : Place) (g : Grouped)
    → place ≡ place_of (formed_operand k (out-Flat flat).first) → k.grouping place ≡ Some g
    → formed_flat k flat ≡ formed_group k flat g
flat_grouped k flat place g e f =
    flat_forms k flat
    ∙ ap (grouped_by (formed_operand k (out-Flat flat).first)
    (map (formed_flat_part k) (out-Flat flat).rest)) (ap k.grouping (sym e) ∙ f)

-- and one that has none
pub flat_alone : (k : Source) (flat : Flat) (place : Place)
    → place ≡ place_of (formed_operand k (out-Flat flat).first) → k.grouping place ≡ None
    → formed_flat k flat ≡ formed_operand k (out-Flat flat).first
flat_alone k flat place e f =
    flat_forms k flat
    ∙ ap (grouped_by (formed_operand k (out-Flat flat).first)
    (map (formed_flat_part k) (out-Flat flat).rest)) (ap k.grouping (sym e) ∙ f)

-- the walk begins with one part
pub start : (k : Source) (part : Part) {tasks none : List Task} {forms : List Form}
    → tasks ≡ a_task.See part ∷ none → none ≡ [] → forms ≡ []
    → Leads k tasks forms (formed_part k part ∷ [])
start k part {forms = forms} e f g =
    subst (λ (ts : List Task). Leads k ts forms (formed_part k part ∷ []))
    (sym (e ∙ ap (λ (n : List Task). a_task.See part ∷ n) f))
    (subst (λ
    (fs : List Form). Leads k (a_task.See part ∷ []) fs (formed_part k part ∷ [])) (sym g)
    refl)

-- and ends with its form
pub ended : (k : Source) {tasks : List Task} {forms rest : List Form} {form it : Form} → tasks ≡ []
    → forms ≡ form ∷ rest → Leads k tasks forms (it ∷ []) → form ≡ it
ended k {forms = forms} {rest = rest} {form = form} {it = it} e f h =
    let last : forms ≡ it ∷ [] = subst (λ (ts : List Task). Leads k ts forms (it ∷ [])) e h in
    let same : form ∷ rest ≡ it ∷ [] = sym f ∙ last in
    cc
