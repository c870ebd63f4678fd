-- No replay comes to a mark at an odd place.
use Rattle.std.proofs.Common.{◌≡◌, ℕ, Bool, true, false, List, [], ◌∷◌, ◌++◌, refl, ap, sym, ◌∙◌, subst, ◌⊎◌, inl, inr}
use Rattle.fort_core.specs.declared.program.Program.{Program}
use Rattle.fort_core.specs.declared.term.Term.{Term, Stepped}
use Rattle.fort_machine.specs.Ends.{Finished}
use Rattle.fort_machine.specs.Frames.{in_stepped, part_number}
use Rattle.fort_machine.specs.Frames as machine
use Rattle.fort_machine.specs.Written.{WrittenProgram}
use Rattle.fort_machine.proofs.Standing.{not_finished}
use Rattle.fort_machine_law_marks.proofs.Kept.{marks_stand}
use Rattle.fort_frames.specs.Frames.{frame_of, frame_of_node, frames, frames_of, is_trodden, mark_if, outward, rebuilt}
use Rattle.fort_frames.specs.States.{term_at}
use Rattle.fort_frames.specs.declared.frame.Frame.{Frame}
use Rattle.fort_frames.specs.declared.frame.Frame.TheVariants as frame
use Rattle.fort_frames.specs.declared.place.Place.{Place}
use Rattle.fort_frames.specs.declared.state.State.{State}
use Rattle.fort_frames.proofs.Same.{same_term}
use Rattle.fort_frames_moves.specs.Turns.{IsOdd, IsOddIn, IsOddUnder}
use Rattle.fort_store_effects.specs.Levels.{levels_of, seen}
use Rattle.fort_walk_law_course.specs.Course.{is_inner}
use Rattle.fort_walk_law_course.proofs.Reaches.{reached_here}
use Rattle.fort_walk_course.specs.declared.course.Course.{Course}
use Rattle.fort_walk_course.specs.Courses.{IsGoing, StandsAt, around}
use Rattle.fort_plain.specs.Paths.{MarksStandIn, whole}
use Rattle.fort_plain.specs.Takes.{term_round}

-- the last frame
last_one : (xs ys : List machine.Frame) (f g : machine.Frame) → xs ++ f ∷ [] ≡ ys ++ g ∷ [] → f ≡ g
last_one [] [] f g e = cc
last_one [] (y ∷ []) f g e = absurd cc
last_one [] (y ∷ z ∷ ys) f g e = absurd cc
last_one (x ∷ []) [] f g e = absurd cc
last_one (x ∷ z ∷ xs) [] f g e = absurd cc
last_one (x ∷ xs) (y ∷ ys) f g e = last_one xs ys f g (cc)

last_two : (xs ys : List machine.Frame) (e f g : machine.Frame) → xs ++ e ∷ f ∷ [] ≡ ys ++ g ∷ []
    → f ≡ g
last_two [] [] e f g q = absurd cc
last_two [] (y ∷ ys) e f g q = last_one [] ys f g (cc)
last_two (x ∷ []) [] e f g q = absurd cc
last_two (x ∷ z ∷ xs) [] e f g q = absurd cc
last_two (x ∷ xs) (y ∷ ys) e f g q = last_two xs ys e f g (cc)

no_frame : (xs : List machine.Frame) (f : machine.Frame) → [] ≡ xs ++ f ∷ [] → ⊥
no_frame [] f e = cc
no_frame (x ∷ xs) f e = cc

odd_node : (clock : ℕ) (fs : List machine.Frame) (f : machine.Frame) (b : Bool) (inner : Term)
    → (b ≡ true) ⊎ Finished inner
    → (outer : List machine.Frame) (g : machine.Frame) (n : ℕ)
    → fs ++ f ∷ mark_if b ≡ outer ++ g ∷ [] → part_number g ≡ n ∷ [] → Finished inner
odd_node clock fs f b inner (inr h) outer g n e q = h
odd_node clock fs f true inner (inl h) outer g n e q =
    let z : in_stepped ≡ g = last_two fs outer f in_stepped g e in
    let y : [] ≡ n ∷ [] = ap part_number z ∙ q in absurd cc
odd_node clock fs f false inner (inl h) outer g n e q = absurd cc

odd_order : (fs : List machine.Frame) (f : machine.Frame) (inner : Term) → part_number f ≡ []
    → (outer : List machine.Frame) (g : machine.Frame) (n : ℕ) → fs ++ f ∷ [] ≡ outer ++ g ∷ []
    → part_number g ≡ n ∷ [] → Finished inner
odd_order fs f inner none outer g n e q =
    let z : f ≡ g = last_one fs outer f g e in
    let y : [] ≡ n ∷ [] = sym none ∙ ap part_number z ∙ q in absurd cc

odd_frame : (clock : ℕ) (f : Frame) (fs : List Frame) (inner : Term) → IsOddUnder clock f inner
    → (outer : List machine.Frame) (g : machine.Frame) (n : ℕ)
    → outward clock fs ++ frames_of clock f ≡ outer ++ g ∷ [] → part_number g ≡ n ∷ []
    → Finished inner
odd_frame clock (frame.Node m) fs inner h outer g n e q =
    odd_node clock (outward clock fs) (frame_of_node m) (is_trodden clock m) inner h outer g n e q
odd_frame clock f fs inner h outer g n e q =
    odd_order (outward clock fs) (frame_of f) inner refl outer g n e q

odd_frames : (clock : ℕ) (fs : List Frame) (inner : Term) → IsOddIn clock fs inner
    → (outer : List machine.Frame) (g : machine.Frame) (n : ℕ) → outward clock fs ≡ outer ++ g ∷ []
    → part_number g ≡ n ∷ [] → Finished inner
odd_frames clock [] inner h outer g n e q = absurd (no_frame outer g e)
odd_frames clock (f ∷ fs) inner h outer g n e q = odd_frame clock f fs inner h outer g n e q

-- no mark stands at an odd place
pub none_odd : (clock : ℕ) (t : Term) (place : Place) (part : Term) → MarksStandIn t
    → IsOdd clock t place part → ⊥
none_odd clock t place part m o =
    let is_term =
    sym o.is_at.is_term ∙ ap (rebuilt clock (frames place.stack)) o.is_mark
    ∙ same_term clock (frames place.stack) (Stepped o.inner) in
    let k = m.stand (outward clock (frames place.stack)) o.inner is_term in
    not_finished o.inner k.1
    (odd_frames clock (frames place.stack) o.inner o.is_odd k.0.outer k.0.last k.0.number k.0.are
    k.0.is_number)

pub same_marks : (t u : Term) → u ≡ t → MarksStandIn t → MarksStandIn u
same_marks t u e m = subst MarksStandIn (sym e) m

-- so it is where a run of a written program has come
pub marks_round : (p : Program) → WrittenProgram p
    → (c : Course) (place : Place) (a : Term) → StandsAt p c place a
    → MarksStandIn (term_round c place a)
marks_round p w c place a s = record {
  stand = marks_stand p w (is_inner (around c)) (seen (levels_of c.layers)) (term_round c place a)
      (reached_here p c.fuel (levels_of c.layers) c.picks (around c) c.clock (term_round c place a)
      s.course.comes);
}

pub marks_here : (p : Program) → WrittenProgram p
    → (c : Course) (s : State) → IsGoing p (record { course = c; state = s })
    → MarksStandIn (whole c.clock s)
marks_here p w c s g = marks_round p w c s.place (term_at s.«at») g
