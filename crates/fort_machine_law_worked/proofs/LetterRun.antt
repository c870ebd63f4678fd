-- A changed pick of the run of one text.
use Rattle.std.proofs.Common.{◌≡◌, ℕ, false, List, [], ◌∷◌, ◌++◌, refl, ap, sym, ◌∙◌}
use Rattle.fort_core.specs.declared.term.Term.{Term, Call, out-Term}
use Rattle.fort_core.specs.declared.term.Term as term
use Rattle.fort_core.specs.declared.term.Term.TheVariants.{outs-Call}
use Rattle.fort_core.specs.declared.term.Term.TheOpen.{Term-F}
use Rattle.fort_machine.specs.Effects.{paid}
use Rattle.fort_machine.specs.Ends.{at_value, open_yet, standing}
use Rattle.fort_machine.specs.Acts.{enters, calls}
use Rattle.fort_machine.specs.Forms.{act_at, act}
use Rattle.fort_machine.specs.Frames.{Frame, in_call, in_throw, plug, part_number, road, passed}
use Rattle.fort_machine.specs.Steps.{by_call, Local, steps}
use Rattle.fort_machine.specs.Attempts.{Ready}
use Rattle.fort_machine.specs.Worked.{set, decl, letter, printing, run_decl, hello}
use Rattle.fort_machine.proofs.Standing.{standing-Value}
use Rattle.fort_machine.proofs.Places.{on_layer, out_on, plug_open, ready_open}
use Rattle.fort_machine_law_worked.specs.Letter.{ValueIsNoThread}
use Rattle.fort_machine_law_worked.proofs.Picked.{runs_the_one, goes_on, none_begins}
use Rattle.fort_machine_law_worked.proofs.TwoThreadsRun.{printing_bare}

-- the call of `run`
calls_run : act hello (Call (set 0) []) ≡ calls (set 0) []
calls_run = ap (act_at hello) (outs-Call (set 0) [])

first_step : Local hello false 0 (Call (set 0) []) printing (paid 1)
first_step =
    steps (enters printing printing)
    (by_call calls_run (runs_the_one hello 0 (decl 0) run_decl [] refl refl refl) refl)
    (printing_bare (97 ∷ []), refl, refl, refl)

-- part 0 of a call of one argument is that argument
sole_of : (before behind : List Term) (x a : Term) → a ∷ [] ≡ before ++ x ∷ behind → x ≡ a
sole_of [] behind x a e = cc
sole_of (c ∷ []) behind x a e = absurd cc
sole_of (c ∷ d ∷ more) behind x a e = absurd cc

sole_argument : (a : Term) (f : Frame) (x : Term) (ns : List ℕ)
    → Term-F.Call (set 1) (a ∷ []) ≡ on_layer f x → 0 ∷ [] ≡ part_number f ++ ns → x ≡ a
sole_argument a (in_call other before behind) x ns e q = sole_of before behind x a (cc)
sole_argument a in_throw x ns e q = absurd cc
sole_argument a _ x ns e q = absurd cc

-- an argument at a value is no thread
finished : (gs : List Frame) (a : Term) → printing ≡ plug gs a → 0 ∷ [] ≡ road gs → Ready a
    → passed gs a ≡ false → ⊥
finished [] a e q r n = cc
finished (f ∷ gs) a e q r n =
    let o = plug_open gs a (ready_open a r) in
    let h = sole_argument (term.Value letter) f (plug gs a) (road gs) (sym (outs-Call (set 1) _)
    ∙ ap out-Term e ∙ out_on f (plug gs a) o) q in
    let z : at_value letter ≡ open_yet = sym (standing-Value letter) ∙ ap standing (sym h) ∙ o in cc

abbrev argument : List Frame
argument = in_call (set 1) [] [] ∷ []

pub value_is_no_thread : ValueIsNoThread
value_is_no_thread fuel ending j =
    let one =
    goes_on hello [] _ _ (Call (set 0) []) printing _ j.1.0 (paid 1) first_step (λ l. tt)
    j.1.1.is_run.runs in
    none_begins hello argument _ _ printing _ one.0 finished one.1
