-- Attempts of a walk.
use Rattle.std.proofs.Common.{◌≡◌, ◌≢◌, Bool, true, false, List, [], ◌∷◌, refl, ap, sym, subst, ◌⊎◌, inl, inr}
use Rattle.std.specs.Prelude.{◌↔◌, IsTrue}
use Rattle.fort_core.specs.declared.form.Mode.{Mode}
use Rattle.fort_core.specs.declared.program.Program.{Program}
use Rattle.fort_core.specs.declared.term.Term.{Term, Atomic, Asleep}
use Rattle.fort_machine.specs.Acts.{ends}
use Rattle.fort_machine.specs.Marked.{Marks}
use Rattle.fort_machine.specs.Steps.{Acts}
use Rattle.fort_machine.specs.Attempts.{Form, fresh, slept, Sleeps}
use Rattle.fort_machine.specs.Written.{WrittenProgram}
use Rattle.fort_machine.proofs.Ready.{form_ready}
use Rattle.fort_frames.specs.Frames.{frames, rebuilt}
use Rattle.fort_frames.specs.declared.place.Place.{Place}
use Rattle.fort_store_effects.specs.Levels.{levels_of, seen}
use Rattle.fort_walk_law_course.specs.Picks.{MayBeTried}
use Rattle.fort_walk_law_course.specs.Course.{Held, is_inner}
use Rattle.fort_walk_law_course.proofs.Reaches.{bare_here}
use Rattle.fort_walk_course.specs.declared.course.Course.{Course}
use Rattle.fort_walk_course.specs.Courses.{StandsAt, around}
use Rattle.fort_walk_course.specs.Calls.{MayTry, MayTryThis, MayAbort}
use Rattle.fort_walk_course.specs.declared.attempts.Tried.{Tried}
use Rattle.fort_walk_course.proofs.Around.{around_some}
use Rattle.fort_walk_turns.specs.declared.sweep.Sweep.{Sweep}
use Rattle.fort_walk_turns.specs.Idles.{IsAtPlace, IsAtThread, Rests}

pub form_thread : (p : Program) (c : Course) (w : Sweep) (place : Place) (a : Term) (m : Mode)
    (body : Term) → IsAtPlace p c w place a → Form a m body → IsAtThread p c w place a
form_thread p c w place a m body h f = (h, form_ready a m body f)

-- a form that doesn't sleep may be tried, and so may one where nobody is awake
try_awake : (p : Program) (c : Course) (w : Sweep) (place : Place) (a : Term)
    → IsAtPlace p c w place a → (w.wakes ≡ true) ⊎ (Sleeps (seen (levels_of c.layers)) a → ⊥)
    → MayBeTried (seen (levels_of c.layers)) (rebuilt c.clock (frames place.stack) a) a
try_awake p c w place a h (inl e) = inr (h.asleep e)
try_awake p c w place a h (inr n) = inl n

pub may_try : (p : Program) (c : Course) (w : Sweep) (place : Place) (a : Term) (m : Mode)
    (body : Term) → WrittenProgram p → IsAtPlace p c w place a → Form a m body
    → (w.wakes ≡ true) ⊎ (Sleeps (seen (levels_of c.layers)) a → ⊥)
    → MayTry p c place m body
may_try p c w place a m body written h f may = record {
  form = a;
  stands = h.stands;
  is_form = f;
  bare = (bare_here p written c.fuel (levels_of c.layers) c.picks (around c) c.clock c.fresh place a
      h.stands.course).1 m body f;
  may = try_awake p c w place a h may;
}

-- the form that is tried is this one
pub may_try_this : (p : Program) (c : Course) (w : Sweep) (place : Place) (a : Term) (m : Mode)
    (body : Term) (t : Tried) → t.form ≡ a → t.mode ≡ m → t.body ≡ body → WrittenProgram p
    → IsAtPlace p c w place a → Form a m body
    → (w.wakes ≡ true) ⊎ (Sleeps (seen (levels_of c.layers)) a → ⊥)
    → MayTryThis p c place t.form t.mode t.body
unfolding may_try
may_try_this p c w place a m body t ef em eb written h f may =
    subst (λ x. MayTryThis p c place x t.mode t.body) (sym ef)
    (subst (λ x. MayTryThis p c place a x t.body) (sym em)
    (subst (λ x. MayTryThis p c place a m x) (sym eb)
    (may_try p c w place a m body written h f may, refl)))

first_inner : (hs : List Held) (g : Held) (gs : List Held) → hs ≡ g ∷ gs → is_inner hs ≡ true
first_inner hs g gs e = ap is_inner e

pub may_abort : (p : Program) (c : Course) (place : Place) (a : Term) → StandsAt p c place a
    → Acts p a ends → c.outer ≢ [] → MayAbort p c place
may_abort p c place a s h some =
    let one = around_some c.outer some in
    record { form = a; stands = s; acts = h; inside = first_inner (around c) one.0 one.1 one.2 }

-- where sleepers are tried, or the form doesn't sleep
pub rests_tried : (wakes : Bool) (S : Type 0) → wakes ≡ true → Rests false wakes S
rests_tried wakes S e = inl e

pub rests_by : (sleeps wakes : Bool) (S : Type 0) → IsTrue sleeps ↔ S → wakes ≡ false
    → Rests sleeps wakes S
rests_by true wakes S h e = (e, h.0 refl)
rests_by false wakes S h e = inr (λ s. let z : false ≡ true = h.1 s in absurd cc)

-- an atomic form is fresh or asleep
pub is_atomic : (a : Term) (m : Mode) (body : Term) → Form a m body
    → ((k : Mode) (b : Term) → a ≡ Atomic k b → ⊥) → ((ms : Marks) (b : Term) → a ≡ Asleep ms b → ⊥)
    → ⊥
is_atomic a m body (fresh e) f g = f m body e
is_atomic a m body (slept ms q e) f g = g ms body e
