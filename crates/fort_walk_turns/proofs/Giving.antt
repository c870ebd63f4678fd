-- An aborted attempt that has nothing to throw.
use Rattle.std.proofs.Common.{◌≡◌, true, [], ◌∷◌, List, None, refl, sym, subst}
use Rattle.fort_core.specs.declared.program.Program.{Program}
use Rattle.fort_core.specs.declared.term.Term.{Term}
use Rattle.fort_machine.specs.Acts.{ends, single}
use Rattle.fort_machine.specs.Steps.{Acts}
use Rattle.fort_machine.specs.Attempts.{goes}
use Rattle.fort_machine.specs.Proper.{Reached}
use Rattle.fort_frames.specs.Frames.{frames, outward, rebuilt}
use Rattle.fort_frames.proofs.Same.{same_term}
use Rattle.fort_frames.specs.declared.place.Place.{Place}
use Rattle.fort_store_effects.specs.Levels.{levels_of, seen}
use Rattle.fort_walk_law_course.specs.Course.{Held, is_inner}
use Rattle.fort_walk_law_course.proofs.Reaches.{reached_here}
use Rattle.fort_walk_course.specs.declared.course.Course.{Course}
use Rattle.fort_walk_course.specs.Calls.{CannotThrow}
use Rattle.fort_walk_course.specs.Courses.{HasCome, StandsAt, around}
use Rattle.fort_walk_turns.specs.Stops.{StopsShort, cannot_give_up}

-- the innermost machine's term is one to which a machine of the program comes
pub come_reached : (p : Program) (c : Course) (t : Term) → HasCome p c (goes t)
    → Reached p (is_inner (around c)) (seen (levels_of c.layers)) t
come_reached p c t h =
    reached_here p c.fuel (levels_of c.layers) c.picks (around c) c.clock t h.comes

pub stands_come : (p : Program) (c : Course) (place : Place) (a t : Term) → StandsAt p c place a
    → t ≡ rebuilt c.clock (frames place.stack) a → HasCome p c (goes t)
stands_come p c place a t s e =
    subst (λ u. HasCome p c (goes u)) (sym e)
    (record { comes = s.course.comes; nothing = s.course.nothing; is_spent = s.is_spent })

-- an aborted attempt that has nothing to throw
pub cannot_throw : (p : Program) (c : Course) (place : Place) (a : Term) → StandsAt p c place a
    → Acts p a ends → is_inner (around c) ≡ true → single p p.built_in.try_atomic_failure ≡ None
    → StopsShort p
cannot_throw p c place a s acts inside none =
    let t = rebuilt c.clock (frames place.stack) a in
    cannot_give_up (record {
      store = seen (levels_of c.layers);
      term = t;
      reached =
          subst (λ i. Reached p i (seen (levels_of c.layers)) t) inside
          (come_reached p c t (stands_come p c place a t s refl));
      frames = outward c.clock (frames place.stack);
      part = a;
      is_term = same_term c.clock (frames place.stack) a;
      acts = acts;
      no_object = none;
    })

pub no_single : (p : Program) (hs : List Held) → CannotThrow p hs
    → single p p.built_in.try_atomic_failure ≡ None
no_single p [] k = absurd k
no_single p (h ∷ hs) k = k.1
