-- What was written of the root's output.
use mathlib.Core.List.{IsPrefix}
use Rattle.std.proofs.Common.{◌≡◌, ℕ, ◌≤◌, Bool, true, false, List, ◌++◌, length, refl, sym, ◌∙◌, subst}
use Rattle.fort_port_output.specs.Written.{Change, HasWritten, goes_on, has_failed, Writes}
use Rattle.fort_port_output.specs.declared.progress.Progress.{Progress}
use Rattle.fort_port_output.proofs.Growing.{more_written}
use Rattle.fort_walk_course.specs.declared.course.Course.{Course}
use Rattle.fort_walk_course.specs.declared.ending.Ran.{Ran}
use Rattle.fort_walk_turns.specs.Grows.{Concludes}
use Rattle.fort_walk_turns.specs.declared.walked.Walked.{Walked}
use Rattle.fort_walk_turns.specs.declared.walked.Walked.TheVariants as walked
use Rattle.fort_walk.specs.Written.{HasWrittenOf, printed_by}

-- where the output hasn't failed
pub is_ready : {ready : Type 0} (sink : Change) (text : List ℕ) (p : Progress)
    → HasWritten ready sink text p → p.failed ≡ false → ready
is_ready sink text p (goes_on calm within takes now) e = now
is_ready sink text p (has_failed failed fails) e =
    let z : true ≡ false = sym failed ∙ e in absurd cc

pub is_within : {ready : Type 0} (sink : Change) (text : List ℕ) (p : Progress)
    → HasWritten ready sink text p → p.failed ≡ false → p.bytes ≤ length text
is_within sink text p (goes_on calm within takes now) e = within
is_within sink text p (has_failed failed fails) e =
    let z : true ≡ false = sym failed ∙ e in absurd cc

-- as a run goes on
pub grown_written : {ready : Type 0} (sink : Change) (text more : List ℕ) (p : Progress)
    → HasWritten ready sink text p → IsPrefix text more → HasWritten ready sink more p
grown_written {ready} sink text more p h on =
    subst (λ t. HasWritten ready sink t p) on.1 (more_written sink text on.0 p h)

pub far_written : {ready : Type 0} (sink : Change) (text : List ℕ) (p q : Progress)
    → HasWritten ready sink text p → q ≡ p → HasWritten ready sink text q
far_written {ready} sink text p q h e = subst (HasWritten ready sink text) (sym e) h

pub moved_written : {ready : Type 0} (sink : Change) (text same : List ℕ) (p : Progress)
    → HasWritten ready sink text p → text ≡ same → HasWritten ready sink same p
moved_written {ready} sink text same p h e = subst (λ t. HasWritten ready sink t p) e h

pub ended_written : (ready : Type 0) (sink : Change) (c : Course) (x : Walked) (p : Progress)
    → HasWritten ready sink (printed_by c) p → Concludes c x → HasWrittenOf ready sink x p
ended_written ready sink c (walked.Ran r) p h k =
    grown_written sink (printed_by c) r.output p h k.output
ended_written ready sink c walked.Stuck p h k = tt

-- where the walk came to a run
pub ran_written : (ready : Type 0) (sink : Change) (x : Walked) (r : Ran) (p : Progress)
    → HasWrittenOf ready sink x p → x ≡ walked.Ran r → HasWritten ready sink r.output p
ran_written ready sink x r p h is = subst (λ y. HasWrittenOf ready sink y p) is h

pub ran_ready : (ready : Type 0) (sink : Change) (x : Walked) (r : Ran) (p : Progress)
    → HasWrittenOf ready sink x p → x ≡ walked.Ran r → p.failed ≡ false → ready
ran_ready ready sink x r p h is = is_ready sink r.output p (ran_written ready sink x r p h is)

pub ran_within : (ready : Type 0) (sink : Change) (x : Walked) (r : Ran) (p : Progress)
    → HasWrittenOf ready sink x p → x ≡ walked.Ran r → p.failed ≡ false
    → p.bytes ≤ length r.output
ran_within ready sink x r p h is = is_within sink r.output p (ran_written ready sink x r p h is)

-- what a hall wrote, where the output hasn't failed behind it
pub hall_within : (ready : Type 0) (failed : Bool) (sink : Change) (text : List ℕ) (p : Progress)
    → Writes failed ready sink text p → p.failed ≡ false
    → (failed ≡ false) × (p.bytes ≤ length text)
hall_within ready true sink text p w e = let z : true ≡ false = sym w.0 ∙ e in absurd cc
hall_within ready false sink text p w e = (refl, is_within sink text p w e)
