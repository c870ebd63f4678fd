-- What the terms of a written program's runs have: no mark at an odd place, and bare bodies.
use Rattle.std.proofs.Common.{◌≡◌, ℕ, Bool, true, false, List, [], ◌∷◌, ◌++◌, refl, ap, sym, ◌∙◌, ◌⊎◌, inl, inr}
use Rattle.std.proofs.lemmas.List.{append_assoc}
use Rattle.fort_core.specs.declared.form.Mode.{Mode}
use Rattle.fort_core.specs.declared.program.Program.{Program}
use Rattle.fort_core.specs.declared.term.Term.{Term, Stepped}
use Rattle.fort_core.specs.declared.term.Term.TheVariants.{outs-Stepped}
use Rattle.fort_machine.specs.Attempts.{Form}
use Rattle.fort_machine.specs.Effects.{idle}
use Rattle.fort_machine.specs.Ends.{Finished, has_stepped, is_mark}
use Rattle.fort_machine.specs.Frames.{in_stepped, part_number, plug}
use Rattle.fort_machine.specs.Frames as machine
use Rattle.fort_machine.specs.Marked.{Bare}
use Rattle.fort_machine.specs.Runs.{none}
use Rattle.fort_machine.specs.Written.{WrittenProgram}
use Rattle.fort_machine.proofs.ProperRuns.{enters_bare}
use Rattle.fort_machine.proofs.Runs.{plug_append}
use Rattle.fort_machine.proofs.Standing.{not_finished}
use Rattle.fort_machine_law_marks.proofs.Kept.{marks_stand}
use Rattle.fort_frames.specs.Frames.{frame_of, frame_of_node, frames, frames_of, is_trodden, mark_if, outward, rebuilt}
use Rattle.fort_frames.specs.declared.frame.Frame.{Frame}
use Rattle.fort_frames.specs.declared.frame.Frame.TheVariants as frame
use Rattle.fort_frames.specs.declared.place.Place.{Place}
use Rattle.fort_frames.proofs.Same.{same_term}
use Rattle.fort_frames_moves.specs.Turns.{IsOdd, IsOddIn, IsOddUnder}
use Rattle.fort_hall_forms.specs.Forms.{IsPartOfRun}
use Rattle.fort_hall_forms.specs.Laws.{PartOfRun}

-- ---- marks

-- the last of frames
last_one : (xs ys : List machine.Frame) (f g : machine.Frame) → xs ++ f ∷ [] ≡ ys ++ g ∷ [] → f ≡ g
last_one [] [] f g e = cc
last_one [] (y ∷ []) f g e = absurd cc
last_one [] (y ∷ z ∷ ys) f g e = absurd cc
last_one (x ∷ []) [] f g e = absurd cc
last_one (x ∷ z ∷ xs) [] f g e = absurd cc
last_one (x ∷ xs) (y ∷ ys) f g e = last_one xs ys f g (cc)

-- a mark in a parallel form that has one leaves out no part of such a form
odd_node : (before : List machine.Frame) (f : machine.Frame) (b : Bool) (inner : Term)
    → (b ≡ true) ⊎ Finished inner → (outer : List machine.Frame) (g : machine.Frame) (n : ℕ)
    → before ++ f ∷ mark_if b ≡ outer ++ g ∷ [] → part_number g ≡ n ∷ [] → Finished inner
odd_node before f b inner (inr h) outer g n e q = h
odd_node before f true inner (inl h) outer g n e q =
    let z : in_stepped ≡ g =
    last_one (before ++ f ∷ []) outer in_stepped g
    (append_assoc before (f ∷ []) (in_stepped ∷ []) ∙ e) in
    let y : [] ≡ n ∷ [] = ap part_number z ∙ q in absurd cc
odd_node before f false inner (inl h) outer g n e q = absurd cc

-- nor does one in a form that goes from left to right
odd_order : (before : List machine.Frame) (f : machine.Frame) (inner : Term) → part_number f ≡ []
    → (outer : List machine.Frame) (g : machine.Frame) (n : ℕ)
    → before ++ f ∷ [] ≡ outer ++ g ∷ [] → part_number g ≡ n ∷ [] → Finished inner
odd_order before f inner no_number outer g n e q =
    let z : f ≡ g = last_one before outer f g e in
    let y : [] ≡ n ∷ [] = sym no_number ∙ ap part_number z ∙ q in absurd cc

odd_last : (before : List machine.Frame) (f : Frame) (inner : Term) → IsOddUnder 0 f inner
    → (outer : List machine.Frame) (g : machine.Frame) (n : ℕ)
    → before ++ frames_of 0 f ≡ outer ++ g ∷ [] → part_number g ≡ n ∷ [] → Finished inner
odd_last before (frame.Node m) inner h outer g n e q =
    odd_node before (frame_of_node m) (is_trodden 0 m) inner h outer g n e q
odd_last before f inner h outer g n e q =
    odd_order before (frame_of f) inner refl outer g n e q

odd_frames : (p : Program) → WrittenProgram p → (t : Term) (fs : List Frame) (inner : Term)
    → IsPartOfRun p t → rebuilt 0 fs (Stepped inner) ≡ t → IsOddIn 0 fs inner → ⊥
odd_frames p w t [] inner h e o =
    let z : true ≡ false =
    sym (ap is_mark (outs-Stepped inner)) ∙ ap has_stepped e ∙ h.unmarked in cc
odd_frames p w t (f ∷ fs) inner h e o =
    let k = marks_stand p w h.inner h.store (plug h.outer t) h.reached
    (h.outer ++ outward 0 (f ∷ fs)) inner
    (ap (plug h.outer) (sym e ∙ same_term 0 (f ∷ fs) (Stepped inner))
    ∙ sym (plug_append h.outer (outward 0 (f ∷ fs)) (Stepped inner))) in
    not_finished inner k.1
    (odd_last (h.outer ++ outward 0 fs) f inner o k.0.outer k.0.last k.0.number
    (append_assoc h.outer (outward 0 fs) (frames_of 0 f) ∙ k.0.are) k.0.is_number)

-- no mark stands at an odd place
pub never_odd : (p : Program) → WrittenProgram p → (t : Term) (place : Place) (part : Term)
    → IsPartOfRun p t → IsOdd 0 t place part → ⊥
never_odd p w t place part h o =
    odd_frames p w t (frames place.stack) o.inner h
    (sym (ap (rebuilt 0 (frames place.stack)) o.is_mark) ∙ o.is_at.is_term) o.is_odd

-- ---- bodies

-- no form sleeps in the body of an atomic form
pub body_is_bare : (p : Program) → WrittenProgram p → (t : Term) (fs : List machine.Frame)
    (a : Term) (m : Mode) (body : Term) → IsPartOfRun p t → t ≡ plug fs a → Form a m body
    → Bare body
body_is_bare p w t fs a m body h e f =
    (enters_bare p w h.inner h.store (plug h.outer t) h.reached (h.outer ++ fs) a
    (ap (plug h.outer) e ∙ sym (plug_append h.outer fs a))).1 m body f

-- ---- parts

-- what is in reach stands in a term of a run
pub part_of_run : PartOfRun
part_of_run p inner s t reach unmarked =
    let here = reach [] t idle (record { runs = none refl refl refl; steps = tt }) in
    record {
      inner = inner;
      store = s;
      outer = here.frames;
      reached = here.reached;
      unmarked = unmarked;
    }
