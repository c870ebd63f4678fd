-- An attempt is left.
use Rattle.std.proofs.Common.{◌≡◌, Bool, true, false, refl, sym, ◌∙◌, subst, ◌⊎◌, inl, inr}
use Rattle.std.specs.Prelude.{◌↔◌, IsTrue}
use Rattle.fort_core.specs.declared.form.Mode.{Mode}
use Rattle.fort_core.specs.declared.program.Program.{Program}
use Rattle.fort_core.specs.declared.term.Term.{Term}
use Rattle.fort_machine.specs.Effects.{Store}
use Rattle.fort_machine.specs.Attempts.{Sleeps}
use Rattle.fort_frames.specs.Frames.{frames, rebuilt}
use Rattle.fort_frames.specs.declared.place.Place.{Place}
use Rattle.fort_store_effects.specs.Levels.{levels_of, seen}
use Rattle.fort_walk_law_course.specs.Picks.{MayBeTried, NoneAwake}
use Rattle.fort_walk_course.specs.declared.course.Course.{Course}
use Rattle.fort_walk_course.specs.Calls.{MayTryThis}
use Rattle.fort_walk_course.specs.Courses.{StandsAt}
use Rattle.fort_walk_turns.specs.declared.sweep.Sweep.{Sweep}
use Rattle.fort_walk_turns.specs.Idles.{IsAtLeft}

-- a form that sleeps was tried since nobody is awake
tried_asleep : (s : Store) (whole a : Term) → MayBeTried s whole a → Sleeps s a → NoneAwake s whole
tried_asleep s whole a (inl n) h = absurd (n h)
tried_asleep s whole a (inr all) h = all

-- past the form
pub left_again : (p : Program) (c : Course) (w : Sweep) (place : Place) (a : Term) (m : Mode)
    (body : Term) (asleep : Bool) → MayTryThis p c place a m body
    → IsTrue asleep ↔ Sleeps (seen (levels_of c.layers)) a → w.idle ≡ false → w.wakes ≡ asleep
    → IsAtLeft p c w place a
left_again p c w place a m body asleep t h busy wakes =
    let stands : StandsAt p c place a = subst (StandsAt p c place) t.1 t.0.stands in
    let may : MayBeTried (seen (levels_of c.layers)) (rebuilt c.clock (frames place.stack) a) a =
    subst (λ b. MayBeTried (seen (levels_of c.layers)) (rebuilt c.clock (frames place.stack) b) b)
    t.1 t.0.may in
    record {
      stands = stands;
      idles = λ e. let z : true ≡ false = sym e ∙ busy in absurd cc;
      asleep = λ e.
          tried_asleep (seen (levels_of c.layers)) (rebuilt c.clock (frames place.stack) a) a may
          (h.0 (sym wakes ∙ e));
    }
