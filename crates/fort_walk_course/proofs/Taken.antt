-- Legs are taken in.
use Rattle.std.proofs.Common.{◌≡◌, ℕ, ◌+◌, ◌≤◌, List, [], ◌++◌, map, refl, ap, sym, ◌∙◌, arith}
use Rattle.fort_core.specs.declared.pick.Pick.{Pick}
use Rattle.fort_core.specs.declared.program.Program.{Program}
use Rattle.fort_core.specs.declared.term.Term.{Term}
use Rattle.fort_machine.specs.Attempts.{goes}
use Rattle.fort_machine.specs.Effects.{Effect, FitsAll}
use Rattle.fort_machine.specs.Threads.{under}
use Rattle.fort_machine.proofs.Runs.{runs_fit}
use Rattle.fort_frames.specs.Frames.{frames, rebuilt}
use Rattle.fort_frames.specs.declared.place.Place.{Place}
use Rattle.fort_store_effects.specs.Levels.{levels_of, seen, spent}
use Rattle.fort_hall_law_books.proofs.Course.{legs_keep}
use Rattle.fort_hall_law_books.proofs.Legs.{legs_run}
use Rattle.fort_walk_course.specs.declared.course.Course.{Course}
use Rattle.fort_walk_course.specs.Courses.{StandsAt, around, inwards}
use Rattle.fort_walk_law_course.specs.Course.{is_inner}
use Rattle.fort_walk_course.specs.Taken.{MakesBelow, MayTakeIn, TakesIn}
use Rattle.fort_walk_course.proofs.Around.{course_by}
use Rattle.fort_walk_course.proofs.Seen.{nothing_seen, spent_adds}

-- what was taken beside suits the layers as they are
pub legs_fit : (p : Program) (c : Course) (place : Place) (b : Term) (e : Effect)
    (picks : List Pick) → MayTakeIn p c place b e picks → FitsAll e (seen (levels_of c.layers))
legs_fit p c place b e picks m =
    runs_fit _ _ _ _ _
    (legs_run p (is_inner (around c)) (seen (levels_of c.layers)) m.form b picks e m.legs)

makes_below : (e : Effect) (bound n : ℕ) → bound ≤ n → MakesBelow bound e → MakesBelow n e
makes_below e bound n up below l v is = let low = below l v is in omega (arith, up, low)

pub take_stands : (p : Program) (c n : Course) (place : Place) (b : Term) (e : Effect)
    (picks : List Pick) → MayTakeIn p c place b e picks → c.spent + e.cost ≤ c.fuel
    → TakesIn c place e picks n → StandsAt p n place b
take_stands p c n place b e picks m cost t =
    let k = m.stands.course in
    let known = m.stands.is_spent in
    let w = levels_of n.layers in
    let now : spent w ≡ spent (levels_of c.layers) + e.cost =
    spent_adds e (levels_of c.layers) w t.layers.is_new in
    let more =
    legs_keep p c.fuel (levels_of c.layers) w c.picks picks (around c) c.clock n.clock c.fresh
    n.fresh place m.form b e k m.unmarked m.legs m.some t.layers t.clock
    (omega (arith, now, known, cost)) m.bounded
    (nothing_seen p c.fuel (levels_of c.layers) w c.picks (around c) c.clock
    (goes (rebuilt c.clock (frames place.stack) m.form)) e c.fresh n.fresh k.comes t.layers
    t.fresher.0 (makes_below e t.bound n.fresh t.fresher.1 t.below) k.nothing) in
    record {
      course = course_by p c.fuel n.fuel w w (c.picks ++ map (under place.path.0) picks) n.picks
          (around c) (inwards n.outer []) n.clock n.clock n.fresh n.fresh place b t.fuel refl t.picks
          (ap (λ o. inwards o []) t.outer) refl refl more;
      is_spent = t.spent ∙ ap (λ x. x + e.cost) known ∙ sym now;
    }
