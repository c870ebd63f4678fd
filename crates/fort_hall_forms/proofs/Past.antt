-- Past a thread, which is among those that were met then.
use Rattle.std.proofs.Common.{◌≡◌, ℕ, true, false, List, [], ◌∷◌, sym, ◌∙◌, ◌⊎◌, inl, inr}
use Rattle.fort_core.specs.declared.term.Term.{Term}
use Rattle.fort_machine.specs.Attempts.{Ready}
use Rattle.fort_machine.specs.Ends.{Finished}
use Rattle.fort_machine.specs.Frames.{Frame, on, passed, passes, plug}
use Rattle.fort_machine.specs.Parts.{IsOneOf}
use Rattle.fort_machine.proofs.Places.{plug_open, ready_open}
use Rattle.fort_machine.proofs.Standing.{not_finished, or_false}
use Rattle.fort_frames.specs.declared.frame.Frame as code
use Rattle.fort_frames.specs.declared.frame.Frame.TheVariants as frame
use Rattle.fort_frames_moves.specs.Sweeps.{AllMet, IsLeft, IsMet, Swept, SweptAt}

-- one thread more among those that were met
more_met : (met : List Term) (a t : Term) → AllMet met t → AllMet (a ∷ met) t
more_met met a t h = record { all = λ fs b e p r. inr (h.all fs b e p r) }

more_at : (met : List Term) (a : Term) (ts : List Term) (i : ℕ) → IsMet met ts i
    → IsMet (a ∷ met) ts i
more_at met a ts i (inl h) = inl h
more_at met a ts i (inr h) = inr (λ t q. more_met met a t (h t q))

swept_at_more : (met : List Term) (a : Term) (f : code.Frame) → SweptAt met f → SweptAt (a ∷ met) f
swept_at_more met a (frame.Node n) h =
    (record { each = λ i low. more_at met a n.parts i (h.0.each i low) }, h.1)
swept_at_more met a _ h = tt

pub swept_more : (met : List Term) (a : Term) (fs : List code.Frame) → Swept met fs
    → Swept (a ∷ met) fs
swept_more met a [] h = tt
swept_more met a (f ∷ fs) h = (swept_at_more met a f h.0, swept_more met a fs h.1)

-- a thread has no other thread in it
no_inner : (a : Term) (f : Frame) (gs : List Frame) (b : Term) → Ready a → a ≡ on f (plug gs b)
    → passes f (plug gs b) ≡ false → Ready b → ⊥
no_inner a f gs b r e n rb = go (r.no_part f (plug gs b) e)
  where
    go : Finished (plug gs b) ⊎ (passes f (plug gs b) ≡ true) → ⊥
    go (inl h) = not_finished (plug gs b) (plug_open gs b (ready_open b rb)) h
    go (inr h) = let z : true ≡ false = sym h ∙ n in cc

thread_met : (met : List Term) (a : Term) → Ready a → (fs : List Frame) (b : Term) → a ≡ plug fs b
    → passed fs b ≡ false → Ready b → IsOneOf b (a ∷ met)
thread_met met a r [] b e p rb = inl (sym e)
thread_met met a r (f ∷ gs) b e p rb =
    absurd (no_inner a f gs b r e (or_false (passes f (plug gs b)) (passed gs b) p).0 rb)

pub thread_left : (met : List Term) (a : Term) → Ready a → IsLeft (a ∷ met) a
thread_left met a r =
    record { is_open = ready_open a r; all_met = record { all = thread_met met a r } }
