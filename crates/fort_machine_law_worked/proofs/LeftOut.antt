-- No run leaves an inner attempt before its end.
use Rattle.std.proofs.Common.{◌≡◌, true, false, [], ◌∷◌, Some, None, refl, ap, sym, ◌∙◌}
use Rattle.fort_core.specs.declared.form.Mode.{Mode}
use Rattle.fort_core.specs.declared.form.Mode.TheVariants as mode
use Rattle.fort_core.specs.declared.pick.Pick.{Attempt}
use Rattle.fort_core.specs.declared.program.Program.{Program}
use Rattle.fort_core.specs.declared.term.Term.{Term, Call, Then, out-Term}
use Rattle.fort_core.specs.declared.term.Term as term
use Rattle.fort_core.specs.declared.term.Term.TheVariants.{outs-Value, outs-Throw, outs-Then}
use Rattle.fort_core.specs.declared.value.Value.{Value}
use Rattle.fort_machine.specs.Effects.{Store, Effect, paid, writing, making, afterwards}
use Rattle.fort_machine.specs.Ends.{throw_of}
use Rattle.fort_machine.specs.Frames.{in_then, in_try}
use Rattle.fort_machine.specs.Acts.{unit}
use Rattle.fort_machine.specs.Attempts.{Ended, fresh, goes, Closes, completed, failed, gave_up, fell_asleep}
use Rattle.fort_machine.specs.Runs.{Runs}
use Rattle.fort_machine.specs.Journals.{opening_store}
use Rattle.fort_machine.specs.Worked.{set}
use Rattle.fort_machine.proofs.Picks.{picks_add_up}
use Rattle.fort_machine.proofs.Plain.{writes_plainly}
use Rattle.fort_machine.proofs.Single.{one_run}
use Rattle.fort_machine_law_worked.specs.Pieces.{number, nine, thread, onward, makes_nine}
use Rattle.fort_machine_law_worked.specs.Failing.{exception, clauses, inner_body, inner, catching, outer_body, outer, failing_body, failing, outer_picks, all_picks, InnerMustEnd}
use Rattle.fort_machine_law_worked.proofs.Acting.{writes, goes_on}
use Rattle.fort_machine_law_worked.proofs.Inverted.{single_step, first_pick, behind_pick, tried}
use Rattle.fort_machine_law_worked.proofs.FailingRun.{first_step, second_step, nine_made}

-- an attempt doesn't close at a `;`
not_at_then : (p : Program) (m : Mode) (body a b t : Term) (r : Ended) (d e : Effect)
    → r ≡ goes (Then a b) → Closes p m body r d t e → ⊥
not_at_then p m body a b t r d e q (completed v x y z) =
    let k : Then a b ≡ term.Value v = cc in
    let w = sym (outs-Then a b) ∙ ap out-Term k ∙ outs-Value v in cc
not_at_then p m body a b t r d e q (failed v x y z) =
    let k : Then a b ≡ throw_of v = cc in
    let w = sym (outs-Then a b) ∙ ap out-Term k ∙ outs-Throw (term.Value v) in cc
not_at_then p m body a b t r d e q (gave_up v x y z u w) = absurd cc
not_at_then p m body a b t r d e q (fell_asleep marks x y z o u w) = absurd cc

-- the inner attempt without its last pick
not_inner : (s : Store) (v : Value) → s 9 ≡ Some v → (r : Ended) (d e : Effect) (t : Term)
    → Runs failing true true s (onward ∷ []) (inner_body nine) r d
    → Closes failing mode.Atomic (inner_body nine) r d t e → ⊥
not_inner s v q r d e t k close =
    let known =
    single_step failing true true 0 s (in_then (throw_of exception) ∷ []) _ _ _ refl
    (writes failing true 9 (number 5)) ((writes_plainly 9 (number 5) s).0.1 (v, q)) in
    let one =
    one_run failing true true s (onward ∷ []) (inner_body nine) r
    (goes (Then (term.Value unit) (throw_of exception))) d (writing 9 (number 5)) k known in
    not_at_then failing mode.Atomic (inner_body nine) (term.Value unit) (throw_of exception) t r d e
    one.0 close

-- the outer attempt that has it
not_outer : (s : Store) (v : Value) → s 9 ≡ Some v → (r : Ended) (d : Effect)
    → Runs failing true true s (outer_picks (onward ∷ [])) (outer_body nine) r d → ⊥
not_outer s v q r d k =
    let s1 : Store = afterwards (writing 9 (number 1)) s in
    let s2 : Store = afterwards (paid 1) s1 in
    let short = Attempt (thread []) (onward ∷ []) in
    let one =
    single_step failing true true 0 s (in_then (catching nine) ∷ []) _ _ _ refl
    (writes failing true 9 (number 1)) ((writes_plainly 9 (number 1) s).0.1 (v, q)) in
    let two =
    single_step failing true true 0 s1 [] _ _ _ refl (goes_on failing true unit (catching nine))
    (λ l. tt) in
    let a = picks_add_up failing true true s (outer_picks (onward ∷ [])) (outer_body nine) r d k in
    let b = behind_pick failing true true s onward (onward ∷ short ∷ onward ∷ []) (outer_body nine)
    (Then (term.Value unit) (catching nine)) r (writing 9 (number 1)) a.0 one a.1 in
    let c = behind_pick failing true true s1 onward (short ∷ onward ∷ [])
    (Then (term.Value unit) (catching nine)) (catching nine) r (paid 1) b.0 two b.1 in
    let f = first_pick failing true true s2 short (onward ∷ []) (catching nine) r c.0 c.1 in
    let o = tried failing true true s2 (in_try 1 clauses None ∷ []) mode.Atomic (inner nine)
    (inner_body nine) (onward ∷ []) [] f.0 f.1.0 (fresh refl) f.1.1 in
    not_inner s2 (number 1) refl o.ended o.inner_effect o.effect o.next_form o.runs o.closes

pub inner_must_end : InnerMustEnd
inner_must_end more t d k =
    let s0 : Store = opening_store failing in
    let s1 : Store = afterwards (paid 1) s0 in
    let s2 : Store = afterwards (making 9 (number 0 ∷ []) 1) s1 in
    let long = Attempt (thread []) (outer_picks (onward ∷ [])) in
    let one = single_step failing false true 0 s0 [] _ _ _ refl first_step (λ l. tt) in
    let two = single_step failing false true 9 s1 [] _ _ _ refl second_step nine_made in
    let a = picks_add_up failing false true s0 (all_picks (onward ∷ []) more) (Call (set 0) [])
    (goes t) d k.runs in
    let b = behind_pick failing false true s0 onward (makes_nine ∷ long ∷ more) (Call (set 0) [])
    failing_body (goes t) (paid 1) a.0 one a.1 in
    let c = behind_pick failing false true s1 makes_nine (long ∷ more) failing_body (outer nine)
    (goes t) (making 9 (number 0 ∷ []) 1) b.0 two b.1 in
    let f = first_pick failing false true s2 long more (outer nine) (goes t) c.0 c.1 in
    let o = tried failing false true s2 [] mode.Atomic (outer nine) (outer_body nine)
    (outer_picks (onward ∷ [])) [] f.0 f.1.0 (fresh refl) f.1.1 in
    not_outer s2 (number 0) refl o.ended o.inner_effect o.runs
