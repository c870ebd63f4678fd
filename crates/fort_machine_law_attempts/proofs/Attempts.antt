-- Who takes an atomic form on, and what attempts give back.
use Rattle.std.proofs.Common.{◌≡◌, ℕ, Bool, List, [], ◌∷◌, ◌++◌, refl, sym, ap, ◌∙◌, subst}
use Rattle.fort_core.specs.declared.form.Mode.{Mode}
use Rattle.fort_core.specs.declared.pick.Pick.{Pick, Step, Attempt, out-Pick}
use Rattle.fort_core.specs.declared.pick.Pick.TheVariants.{outs-Step, outs-Attempt}
use Rattle.fort_core.specs.declared.program.Program.{Program}
use Rattle.fort_core.specs.declared.term.Term.{Term, out-Term}
use Rattle.fort_core.specs.declared.term.Term.TheVariants.{outs-Atomic, outs-Asleep}
use Rattle.fort_machine.specs.Acts.{stuck, ends}
use Rattle.fort_machine.specs.Forms.{act_at, act}
use Rattle.fort_machine.specs.Effects.{Store, Effect}
use Rattle.fort_machine.specs.Frames.{Frame, plug, road}
use Rattle.fort_machine.specs.Steps.{Acts, Local, steps}
use Rattle.fort_machine.specs.Attempts.{Form, fresh, slept, Ended, Ready}
use Rattle.fort_machine.specs.Runs.{Runs, none, step, stop, attempt, path_to, location}
use Rattle.fort_machine.proofs.Effects.{gives_back}
use Rattle.fort_machine.proofs.Places.{place_below}
use Rattle.fort_machine.proofs.Ready.{acts_not_stuck, does_not_stuck, form_ready, form_whole, local_ready, stop_ready}
use Rattle.fort_machine_law_attempts.specs.Attempts.{path_at, path_of, IsAttemptOf, GoesOnByAttempts, AttemptsGiveBack}

-- An atomic form has no row in the table of steps.
never_acts : (p : Program) (a : Term) (m : Mode) (body : Term) → Form a m body → act p a ≡ stuck
never_acts p a m body (fresh e) = ap (act_at p) (ap out-Term e ∙ outs-Atomic m body)
never_acts p a m body (slept marks n e) = ap (act_at p) (ap out-Term e ∙ outs-Asleep marks body)

no_step : (p : Program) (inner : Bool) (loc : ℕ) (a b : Term) (d : Effect) (m : Mode) (body : Term)
    → Form a m body → Local p inner loc a b d → ⊥
no_step p inner loc a b d m body form (steps x h k) =
    acts_not_stuck p a x (does_not_stuck p inner loc x b d k) h (never_acts p a m body form)

no_stop : (p : Program) (a : Term) (m : Mode) (body : Term) → Form a m body → Acts p a ends → ⊥
no_stop p a m body form h = acts_not_stuck p a ends (λ q. cc) h (never_acts p a m body form)

-- The first of some picks.
head_is : (a b : Pick) (ps qs : List Pick) → a ∷ ps ≡ b ∷ qs → a ≡ b
head_is a b ps qs e = cc

-- Where the thread of a pick stands, an atomic form at or above its path is what is there.
module _ (fs gs : List Frame) (a b body : Term) (m : Mode) (more : List ℕ) where
  there : plug fs a ≡ plug gs b → Form a m body → Ready b → road gs ≡ road fs ++ more
      → (fs ≡ gs) × (a ≡ b)
  there e form ready road_is =
      place_below fs gs a b more e road_is (form_ready a m body form) ready
      (form_whole a m body form)

step_road : (pick : Pick) (gs : List Frame) (loc : ℕ) → pick ≡ Step (path_to gs) (location loc)
    → path_of pick ≡ road gs
step_road pick gs loc e =
    ap path_of e ∙ ap path_at (outs-Step (path_to gs) (location loc))

attempt_road : (pick : Pick) (gs : List Frame) (within : List Pick)
    → pick ≡ Attempt (path_to gs) within → path_of pick ≡ road gs
attempt_road pick gs within e = ap path_of e ∙ ap path_at (outs-Attempt (path_to gs) within)

pub goes_on : GoesOnByAttempts
goes_on p inner strict s pick rest t r d (none e f g) fs a body m is form more below = absurd cc
goes_on p inner strict s pick rest t r d
    (step {rest = later} {a = b} {b = u} {d1 = d1} {loc = loc} gs e f reached local fits on done)
    fs a body m is form more below =
    let head = head_is pick (Step (path_to gs) (location loc)) rest later e in
    let at = there fs gs a b body m more (sym is ∙ f) form (local_ready p inner loc b u d1 local)
    (sym (step_road pick gs loc head) ∙ below) in
    absurd (no_step p inner loc a u d1 m body form
    (subst (λ (x : Term). Local p inner loc x u d1) (sym at.1) local))
goes_on p inner strict s pick rest t r d (stop {a = b} gs e f g reached acts h k)
    fs a body m is form more below =
    let head = head_is pick (Step (path_to gs) (location 0)) rest [] f in
    let at = there fs gs a b body m more (sym is ∙ g) form (stop_ready p b acts)
    (sym (step_road pick gs 0 head) ∙ below) in
    absurd (no_stop p a m body form (subst (λ (x : Term). Acts p x ends) (sym at.1) acts))
goes_on p inner strict s pick rest t r d
    (attempt {m = mode} {within = within} {rest = later} {a = b} {b = u} {body = inside}
    {ended = ended} {d1 = d1} {d2 = d2} gs e f reached is_form bare may runs closes on done)
    fs a body m is form more below =
    let head = head_is pick (Attempt (path_to gs) within) rest later e in
    let at = there fs gs a b body m more (sym is ∙ f) form (form_ready b mode inside is_form)
    (sym (attempt_road pick gs within head) ∙ below) in
    record {
      tried = record {
        before = s;
        mode = mode;
        body = inside;
        within = within;
        ended = ended;
        done = d1;
        becomes = u;
        effect = d2;
        runs = runs;
        closes = closes;
      };
      is_pick = head ∙ ap (λ (x : List Frame). Attempt (path_to x) within) (sym at.0);
      is_form = subst (λ (x : Term). Form x mode inside) (sym at.1) is_form;
      found = refl;
    }

pub give_back : AttemptsGiveBack
give_back p inner strict s picks t r d run x has undone l w there =
    gives_back p x.mode x.before x.within x.body x.ended x.done x.becomes x.effect x.runs x.closes
    undone l w there
