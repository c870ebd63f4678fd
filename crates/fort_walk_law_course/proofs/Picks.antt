-- Picks at a state's place.
use Rattle.std.proofs.Common.{◌≡◌, ℕ, ◌<◌, Bool, true, false, List, [], ◌∷◌, ◌++◌, refl, ap, sym, ◌∙◌, subst, ◌⊎◌, inl, inr}
use Rattle.fort_core.specs.declared.form.Mode.{Mode}
use Rattle.fort_core.specs.declared.path.Path.{Path}
use Rattle.fort_core.specs.declared.pick.Pick.{Pick, Step, Attempt}
use Rattle.fort_core.specs.declared.program.Program.{Program}
use Rattle.fort_core.specs.declared.term.Term.{Term}
use Rattle.fort_machine.specs.Effects.{Store, Effect, FitsAll, afterwards, both, paid}
use Rattle.fort_machine.specs.Frames.{Frame, plug, passed, trodden}
use Rattle.fort_machine.specs.Attempts.{Form, MayTry, Ended, goes, aborts, Closes}
use Rattle.fort_machine.specs.Marked.{Bare}
use Rattle.fort_machine.specs.Runs.{Runs, Begun, none, step, stop, attempt, so_far, inside, path_to, location}
use Rattle.fort_machine.proofs.WholeEffects.{both_idle}
use Rattle.fort_machine.proofs.Runs.{append}
use Rattle.fort_frames.specs.Frames.{frames, outward, rebuilt, Reaches}
use Rattle.fort_frames.specs.declared.place.Place.{Place}
use Rattle.fort_frames.proofs.Same.{same_term, not_passed, same_thread, clock_marks}
use Rattle.fort_walk_law_course.specs.Picks.{Stage, NoneAwake, MayBeTried, StepIsPick, AttemptIsPick, InnerAbortEnds, StepIsNext, AttemptIsBegun, BegunWithin, NobodyAwake}

path_is : (clock : ℕ) (place : Place) → place.path ≡ path_to (outward clock (frames place.stack))
path_is clock place = λ i. record { 0 = (place.is_path ∙ same_thread clock (frames place.stack)) i }

pub nobody_awake : NobodyAwake
nobody_awake s t fs a (inl h) = inl h
nobody_awake s t fs a (inr h) = inr (λ path k. absurd (h path k))

after_step : (clock later : ℕ) (place : Place) (a b : Term) → Reaches clock (frames place.stack) a
    → clock < later
    → (plug (trodden (outward clock (frames place.stack))) b ≡ rebuilt later (frames place.stack) b)
    × Reaches later (frames place.stack) b
after_step clock later place a b r k =
    let m = clock_marks clock later (frames place.stack) a b r k
    in (ap (λ fs. plug fs b) (sym m.0) ∙ sym (same_term later (frames place.stack) b), m.1)

pub step_is_next : StepIsNext
step_is_next p inner s e clock later loc place a b r k l f =
    step (outward clock (frames place.stack))
    (ap (λ x. Step x (location loc) ∷ []) (path_is clock place))
    (same_term clock (frames place.stack) a) (not_passed clock (frames place.stack) a r) l f
    (none refl (ap goes (sym (after_step clock later place a b r k).0)) refl) (sym (both_idle e))

pub step_is_pick : StepIsPick
step_is_pick p inner s picks first d e clock later loc place a b h k l f = record {
  runs = append s picks first (goes (rebuilt clock (frames place.stack) a)) d h.runs
      (rebuilt clock (frames place.stack) a) refl (Step place.path (location loc) ∷ [])
      (goes (rebuilt later (frames place.stack) b)) e
      (step_is_next p inner (afterwards d s) e clock later loc place a b h.reached k l f);
  reached = (after_step clock later place a b h.reached k).1;
}

one_attempt : (p : Program) (inner : Bool) (m : Mode) (s : Store) (within : List Pick) (body : Term)
    (r : Ended) (d1 e : Effect) (clock later : ℕ) (place : Place) (a b : Term)
    → Reaches clock (frames place.stack) a → clock < later → Form a m body → Bare body
    → MayBeTried s (rebuilt clock (frames place.stack) a) a → Runs p true true s within body r d1
    → Closes p m body r d1 b e
    → Runs p inner true s (Attempt place.path within ∷ []) (rebuilt clock (frames place.stack) a)
    (goes (rebuilt later (frames place.stack) b)) e
one_attempt p inner m s within body r d1 e clock later place a b h k form bare may runs close =
    attempt (outward clock (frames place.stack))
    (ap (λ x. Attempt x within ∷ []) (path_is clock place))
    (same_term clock (frames place.stack) a) (not_passed clock (frames place.stack) a h) form
    bare
    (nobody_awake s (rebuilt clock (frames place.stack) a) (outward clock (frames place.stack)) a
    may) runs close
    (none refl (ap goes (sym (after_step clock later place a b h k).0)) refl) (sym (both_idle e))

pub attempt_is_pick : AttemptIsPick
attempt_is_pick p inner m s picks within first body r d d1 e clock later place a b h k form bare may
    runs close = record {
      runs = append s picks first (goes (rebuilt clock (frames place.stack) a)) d h.runs
          (rebuilt clock (frames place.stack) a) refl (Attempt place.path within ∷ [])
          (goes (rebuilt later (frames place.stack) b)) e
          (one_attempt p inner m (afterwards d s) within body r d1 e clock later place a b h.reached k
          form bare may runs close);
      reached = (after_step clock later place a b h.reached k).1;
    }

pub inner_abort_ends : InnerAbortEnds
inner_abort_ends p s picks first d clock place a h acts =
    append s picks first (goes (rebuilt clock (frames place.stack) a)) d h.runs
    (rebuilt clock (frames place.stack) a) refl (Step place.path (location 0) ∷ []) aborts
    (paid 1)
    (stop (outward clock (frames place.stack)) refl
    (ap (λ x. Step x (location 0) ∷ []) (path_is clock place))
    (same_term clock (frames place.stack) a)
    (not_passed clock (frames place.stack) a h.reached) acts refl refl)

pub attempt_is_begun : AttemptIsBegun
attempt_is_begun p m s within body r d clock place a h form bare may runs =
    so_far (outward clock (frames place.stack)) (ap (λ x. Attempt x within) (path_is clock place))
    (same_term clock (frames place.stack) a) (not_passed clock (frames place.stack) a h) form
    bare
    (nobody_awake s (rebuilt clock (frames place.stack) a) (outward clock (frames place.stack)) a
    may) runs refl

pub begun_within : BegunWithin
begun_within p m s within last body u d e clock place a h form bare may runs begun =
    inside (outward clock (frames place.stack))
    (ap (λ x. Attempt x (within ++ last ∷ [])) (path_is clock place))
    (same_term clock (frames place.stack) a) (not_passed clock (frames place.stack) a h) form
    bare
    (nobody_awake s (rebuilt clock (frames place.stack) a) (outward clock (frames place.stack)) a
    may) runs begun refl
