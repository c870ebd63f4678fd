-- An attempt that is left is undone, and the run stands at its form again.
use Rattle.std.proofs.Common.{◌≡◌, ◌≢◌, ◌-◌, false, true, List, [], ◌∷◌, ◌++◌, length, slice_get, Option, Some, None, refl, ap, sym, ◌∙◌, subst}
use Rattle.std.specs.Prelude.{IsSome}
use Rattle.fort_core.specs.declared.form.Mode.{Mode}
use Rattle.fort_core.specs.declared.program.Program.{Program}
use Rattle.fort_core.specs.declared.term.Term.{Term}
use Rattle.fort_machine.specs.Attempts.{Ended, Form}
use Rattle.fort_machine.specs.Marked.{Bare}
use Rattle.fort_frames.specs.Frames.{frames, rebuilt}
use Rattle.fort_frames.specs.declared.place.Place.{Place}
use Rattle.fort_store_effects.specs.Levels.{Levels, levels_of, seen, undone}
use Rattle.fort_walk_law_course.specs.Picks.{MayBeTried}
use Rattle.fort_walk_law_course.specs.Course.{Held, Comes, IsCourse}
use Rattle.fort_walk_law_course.proofs.Keeps.{leaving_keeps}
use Rattle.fort_walk_course.specs.declared.attempts.Standing.{Standing}
use Rattle.fort_walk_course.specs.declared.attempts.Undone.{Undone}
use Rattle.fort_walk_course.specs.declared.course.Course.{Course}
use Rattle.fort_walk_course.specs.declared.course.Waiting.{Waiting}
use Rattle.fort_walk_course.specs.Courses.{HasCome, StandsAt, around, held, inwards}
use Rattle.fort_walk_course.specs.Calls.{IsUndone, KeepsForm, Leaves, MayTry, MayTryThis, Undoes}
use Rattle.fort_walk_course.proofs.Around.{course_by, last_is_first}
use Rattle.fort_walk_course.proofs.Trying.{last_waits}

-- the form that is kept of the last machine that waits
pub kept_last : (c : Course) (rest : List Waiting) (w : Waiting) → c.outer ≡ rest ++ w ∷ []
    → IsSome w.form → KeepsForm (around c)
kept_last c rest w o some = subst KeepsForm (sym (last_is_first c.outer rest w o)) some

pub kept_of : (c : Course) (ws : List Waiting) (w : Waiting) → ws ≡ c.outer
    → slice_get ws (length ws - 1) ≡ Some w → IsSome w.form → KeepsForm (around c)
kept_of c ws w same e some =
    let r = last_waits ws w e in kept_last c r.0 w (sym same ∙ r.1) some

pub form_kept : (c : Course) (rest : List Waiting) (w : Waiting) → c.outer ≡ rest ++ w ∷ []
    → KeepsForm (around c) → IsSome w.form
form_kept c rest w o kept = subst KeepsForm (last_is_first c.outer rest w o) kept

none_kept : (o : Option Term) → IsSome o → o ≡ None → ⊥
none_kept None h e = let z : false ≡ true = h in absurd cc
none_kept (Some t) h e = absurd cc

pub not_none : (c : Course) (u : Undone) → KeepsForm (around c) → IsUndone c u → u.form ≡ None → ⊥
not_none c u kept h e =
    none_kept h.waiting.form
    (form_kept c u.course.outer h.waiting h.undoes.outer kept) (sym h.is_form ∙ e)

kept_some : (os : List Waiting) → KeepsForm (inwards os []) → os ≢ []
kept_some [] h e = h
kept_some (o ∷ os) h e = absurd cc

-- where a form is kept, a machine waits
pub kept_waits : (c : Course) → KeepsForm (around c) → c.outer ≢ []
kept_waits c h = kept_some c.outer h

-- the run stands at the form again
left_stands : (p : Program) (c n : Course) (w : Waiting) (r : Ended) (a : Term) → HasCome p c r
    → Undoes c n w → w.form ≡ Some a → MayTryThis p n w.place a w.mode w.body
left_stands p c n w r a h u some =
    let v = levels_of c.layers in
    let comes : Comes p c.fuel v c.picks (held w ∷ around n) c.clock r =
    subst (λ hs. Comes p c.fuel v c.picks hs c.clock r) (last_is_first c.outer n.outer w u.outer)
    h.comes in
    let k = leaving_keeps p c.fuel v c.picks (held w) (around n) c.clock r a comes some in
    let course : IsCourse p n.fuel (levels_of n.layers) n.picks (around n) n.clock n.fresh w.place
    a =
    course_by p c.fuel n.fuel (undone v) (levels_of n.layers) w.picks n.picks (around n)
    (around n) w.clock n.clock w.fresh n.fresh w.place a u.fuel u.layers u.picks refl u.clock
    u.fresh k.0 in
    let stands : StandsAt p n w.place a = record { course = course; is_spent = u.is_spent } in
    let may : MayBeTried (seen (levels_of n.layers)) (rebuilt n.clock (frames w.place.stack) a) a =
    subst (λ x. MayBeTried (seen x) (rebuilt n.clock (frames w.place.stack) a) a) (sym u.layers)
    (subst (λ x. MayBeTried (seen (undone v)) (rebuilt x (frames w.place.stack) a) a)
    (sym u.clock) k.3) in (
      record { form = a; stands = stands; is_form = k.1; bare = k.2; may = may },
      refl,
    )

pub leaves : (c : Course) (u : Undone) (s : Standing) → IsUndone c u → s.course ≡ u.course
    → s.place ≡ u.place → u.form ≡ Some s.form → s.turn ≡ u.turn → Leaves c s
leaves c u s h ec ep ef et =
    record {
      waiting = h.waiting;
      undoes = subst (λ x. Undoes c x h.waiting) (sym ec) h.undoes;
      is_place = ep ∙ h.is_place;
      is_form = sym h.is_form ∙ ef;
      is_turn = et ∙ h.is_turn;
    }

pub left_may : (p : Program) (c : Course) (s : Standing) (r : Ended) → HasCome p c r → Leaves c s
    → (m : Mode) × (body : Term) × MayTryThis p s.course s.place s.form m body
left_may p c s r h l = (
  l.waiting.mode,
  l.waiting.body,
  subst
      (λ (x : Place). MayTryThis p s.course x s.form l.waiting.mode l.waiting.body)
      (sym l.is_place)
      (left_stands p c s.course l.waiting r s.form h l.undoes l.is_form),
)
