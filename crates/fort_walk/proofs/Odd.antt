-- No walk comes to a mark at an odd place.
use Rattle.std.proofs.Common.{◌≡◌, ℕ, Bool, true, false, List, [], ◌∷◌, ◌++◌, refl, ap, sym, ◌∙◌, ◌⊎◌, inl, inr}
use Rattle.fort_core.specs.declared.program.Program.{Program}
use Rattle.fort_core.specs.declared.term.Term.{Term, Stepped}
use Rattle.fort_machine.specs.Ends.{Finished}
use Rattle.fort_machine.specs.Frames.{in_stepped, part_number, plug}
use Rattle.fort_machine.specs.Frames as machine
use Rattle.fort_machine.specs.Attempts.{goes}
use Rattle.fort_machine.specs.Written.{WrittenProgram}
use Rattle.fort_machine.proofs.Standing.{not_finished}
use Rattle.fort_machine_law_marks.proofs.Kept.{marks_stand}
use Rattle.fort_frames.specs.Frames.{frame_of, frame_of_node, frames, frames_of, is_trodden, mark_if, outward, rebuilt}
use Rattle.fort_frames.specs.declared.frame.Frame.{Frame}
use Rattle.fort_frames.specs.declared.frame.Frame.TheVariants as frame
use Rattle.fort_frames.specs.declared.place.Place.{Place}
use Rattle.fort_frames.proofs.Same.{same_term}
use Rattle.fort_frames_moves.specs.Turns.{IsOdd, IsOddIn, IsOddUnder}
use Rattle.fort_walk_course.specs.declared.course.Course.{Course}
use Rattle.fort_store_effects.specs.Levels.{levels_of, seen}
use Rattle.fort_walk_law_course.specs.Course.{is_inner}
use Rattle.fort_walk_course.specs.Courses.{HasCome, around}
use Rattle.fort_walk_turns.proofs.Giving.{come_reached}

-- the last frame
last_one : (xs ys : List machine.Frame) (f g : machine.Frame) → xs ++ f ∷ [] ≡ ys ++ g ∷ [] → f ≡ g
last_one [] [] f g e = cc
last_one [] (y ∷ []) f g e = absurd cc
last_one [] (y ∷ z ∷ ys) f g e = absurd cc
last_one (x ∷ []) [] f g e = absurd cc
last_one (x ∷ z ∷ xs) [] f g e = absurd cc
last_one (x ∷ xs) (y ∷ ys) f g e = last_one xs ys f g (cc)

last_two : (xs ys : List machine.Frame) (e f g : machine.Frame) → xs ++ e ∷ f ∷ [] ≡ ys ++ g ∷ []
    → f ≡ g
last_two [] [] e f g q = absurd cc
last_two [] (y ∷ ys) e f g q = last_one [] ys f g (cc)
last_two (x ∷ []) [] e f g q = absurd cc
last_two (x ∷ z ∷ xs) [] e f g q = absurd cc
last_two (x ∷ xs) (y ∷ ys) e f g q = last_two xs ys e f g (cc)

no_frame : (xs : List machine.Frame) (f : machine.Frame) → [] ≡ xs ++ f ∷ [] → ⊥
no_frame [] f e = cc
no_frame (x ∷ xs) f e = cc

odd_node : (clock : ℕ) (fs : List machine.Frame) (f : machine.Frame) (b : Bool) (inner : Term)
    → (b ≡ true) ⊎ Finished inner
    → (outer : List machine.Frame) (g : machine.Frame) (n : ℕ)
    → fs ++ f ∷ mark_if b ≡ outer ++ g ∷ [] → part_number g ≡ n ∷ [] → Finished inner
odd_node clock fs f b inner (inr h) outer g n e q = h
odd_node clock fs f true inner (inl h) outer g n e q =
    let z : in_stepped ≡ g = last_two fs outer f in_stepped g e in
    let y : [] ≡ n ∷ [] = ap part_number z ∙ q in absurd cc
odd_node clock fs f false inner (inl h) outer g n e q = absurd cc

odd_order : (fs : List machine.Frame) (f : machine.Frame) (inner : Term) → part_number f ≡ []
    → (outer : List machine.Frame) (g : machine.Frame) (n : ℕ) → fs ++ f ∷ [] ≡ outer ++ g ∷ []
    → part_number g ≡ n ∷ [] → Finished inner
odd_order fs f inner none outer g n e q =
    let z : f ≡ g = last_one fs outer f g e in
    let y : [] ≡ n ∷ [] = sym none ∙ ap part_number z ∙ q in absurd cc

odd_frame : (clock : ℕ) (f : Frame) (fs : List Frame) (inner : Term) → IsOddUnder clock f inner
    → (outer : List machine.Frame) (g : machine.Frame) (n : ℕ)
    → outward clock fs ++ frames_of clock f ≡ outer ++ g ∷ [] → part_number g ≡ n ∷ []
    → Finished inner
odd_frame clock (frame.Node m) fs inner h outer g n e q =
    odd_node clock (outward clock fs) (frame_of_node m) (is_trodden clock m) inner h outer g n e q
odd_frame clock f fs inner h outer g n e q =
    odd_order (outward clock fs) (frame_of f) inner refl outer g n e q

odd_frames : (clock : ℕ) (fs : List Frame) (inner : Term) → IsOddIn clock fs inner
    → (outer : List machine.Frame) (g : machine.Frame) (n : ℕ) → outward clock fs ≡ outer ++ g ∷ []
    → part_number g ≡ n ∷ [] → Finished inner
odd_frames clock [] inner h outer g n e q = absurd (no_frame outer g e)
odd_frames clock (f ∷ fs) inner h outer g n e q = odd_frame clock f fs inner h outer g n e q

-- no mark stands at an odd place
pub never_odd : (p : Program) → WrittenProgram p
    → (c : Course) (t : Term) (place : Place) (part : Term) → HasCome p c (goes t)
    → IsOdd c.clock t place part → ⊥
never_odd p w c t place part h o =
    let is_term =
    sym o.is_at.is_term ∙ ap (rebuilt c.clock (frames place.stack)) o.is_mark
    ∙ same_term c.clock (frames place.stack) (Stepped o.inner) in
    let k = marks_stand p w (is_inner (around c)) (seen (levels_of c.layers)) t
    (come_reached p c t h) (outward c.clock (frames place.stack)) o.inner is_term in
    not_finished o.inner k.1
    (odd_frames c.clock (frames place.stack) o.inner o.is_odd k.0.outer k.0.last k.0.number
    k.0.are k.0.is_number)
