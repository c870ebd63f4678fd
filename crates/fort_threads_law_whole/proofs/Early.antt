-- The machine's picks before servers stand there.
use Rattle.std.proofs.Math.Path.{fun_ext}
use Rattle.std.proofs.Common.{◌≡◌, ℕ, Bool, true, false, List, [], ◌∷◌, ◌++◌, Option, Some, None, pos, refl, ap, sym, ◌∙◌, subst}
use Rattle.fort_base.specs.declared.ids.DeclId.{DeclId}
use Rattle.fort_base.specs.declared.ids.SetId.{SetId}
use Rattle.fort_core.specs.declared.pick.Pick.{Pick, Step}
use Rattle.fort_core.specs.declared.pick.Pick.TheVariants.{outs-Step}
use Rattle.fort_core.specs.declared.program.Program.{Program}
use Rattle.fort_core.specs.declared.term.Term.{Term, Call, out-Term}
use Rattle.fort_core.specs.declared.term.Term as term
use Rattle.fort_core.specs.declared.term.Term.TheOpen.{Term-F}
use Rattle.fort_core.specs.declared.term.Term.TheVariants.{outs-Call, outs-Let, outs-Atomic, outs-Then, outs-Operator}
use Rattle.fort_core.specs.declared.value.Value.{Value, Small, Truth}
use Rattle.fort_machine.specs.Acts.{enters}
use Rattle.fort_machine.specs.Attempts.{goes}
use Rattle.fort_machine.specs.Calls.{Dispatches, by_body}
use Rattle.fort_machine.specs.Effects.{Store, Effect, idle, paid, both, reading, writing, FitsAll, afterwards}
use Rattle.fort_machine.specs.Frames.{Frame}
use Rattle.fort_machine.specs.Journals.{opening_store, MakesWithinBounds}
use Rattle.fort_machine.specs.Runs.{Runs}
use Rattle.fort_machine.specs.Runs as machine
use Rattle.fort_machine.specs.Steps.{Does}
use Rattle.fort_machine.proofs.WholeEffects.{both_idle}
use Rattle.fort_threads.specs.Known.{Known, Own, Calls}
use Rattle.fort_threads.specs.Machine.{Event, takes, Goes, rests, goes_on, alone}
use Rattle.fort_threads.specs.Moves.{Moves}
use Rattle.fort_threads.specs.Moves as moves
use Rattle.fort_threads.specs.Runs as threads
use Rattle.fort_threads.specs.Threads.{Thread, thread, going, Done, only, both_done, noted_at}
use Rattle.fort_threads_law_servers.specs.Prelude.{Names}
use Rattle.fort_threads_law_servers.specs.Roots.{Start, Starts, Root, first_call, main_call, tests, told, sets_started, has_started, sets_open, has_open, makes_first, made_first, root_term, Leads}
use Rattle.fort_threads_law_servers.specs.Roots as roots
use Rattle.fort_threads_law_servers.proofs.Server.{calls_none}
use Rattle.fort_threads_law_servers.proofs.Turns.{pick_sole, ready_call, stepped_at, called_with}
use Rattle.fort_threads_law_private.specs.Grounds.{Ground}
use Rattle.fort_threads_law_worlds.specs.Known.{AreSame}
use Rattle.fort_threads_law_worlds.specs.Known as worlds
use Rattle.fort_threads_law_runs.specs.Premises.{IsThreaded}
use Rattle.fort_threads_law_runs.proofs.Bounded.{bounded_idle, bounded_paid}
use Rattle.fort_threads_law_matches.proofs.Own.{IsOwnForm, is_spawning, is_waiting, is_getting, is_asking, own_form}
use Rattle.fort_threads_law_calls.proofs.Adding.{read_keeps}
use Rattle.fort_threads_law_whole.specs.Early.{IsBeginning, IsEarly, IsEarlyRoot, GoesEarly, EarlyGoesOn, started_store, open_store, first_made}
use Rattle.fort_threads_law_whole.proofs.Begun.{all_begins}

-- a call without arguments is no form of its own
call_not_own : (n : Names) (set : SetId) (a : Term) → a ≡ Call set [] → IsOwnForm n a → ⊥
call_not_own n set a e (is_spawning f q) =
    let z = sym (outs-Call set []) ∙ ap out-Term (sym e ∙ q) ∙ outs-Let _ _ _ in absurd cc
call_not_own n set a e (is_waiting l q) =
    let z = sym (outs-Call set []) ∙ ap out-Term (sym e ∙ q) ∙ outs-Atomic _ _ in absurd cc
call_not_own n set a e (is_getting l q) =
    let z = sym (outs-Call set []) ∙ ap out-Term (sym e ∙ q) ∙ outs-Then _ _ in absurd cc
call_not_own n set a e (is_asking l q) =
    let z = sym (outs-Call set []) ∙ ap out-Term (sym e ∙ q) ∙ outs-Operator _ _ in absurd cc

-- where nothing happens in the machine with threads
nothing : (p : Program) (n : Names) (m : Start) (o : worlds.Own) (k : Known) (next : Root)
    (now : List Thread) (s t : Store) (d : Effect) → d.output ≡ []
    → IsEarly p n m o next (afterwards d s) t now → GoesEarly p n m o k next now s t d
nothing p n m o k next now s t d e x =
    record {
      events = [];
      later = now;
      effect = idle;
      goes = rests refl refl refl;
      bounded = bounded_idle;
      same_output = sym e;
      early = x;
    }

-- the store behind what writes nothing
paid_leaves : (s : Store) (d : Effect) → d ≡ paid 1 → afterwards d s ≡ s
paid_leaves s d e = ap (λ x. afterwards x s) e

read_leaves : (s : Store) (d : Effect) (l : ℕ) (v : Value) → d ≡ reading l v → afterwards d s ≡ s
read_leaves s d l v e = ap (λ x. afterwards x s) e ∙ fun_ext (λ k. read_keeps l k v s)

module _ (p : Program) (n : Names) (m : Start) (o : worlds.Own) (k : Known) (g : Ground)
    (is : IsThreaded p n m o k g) (begins : IsBeginning p n m k g) (s t : Store) (pick : Pick)
    (d : Effect) where
  -- thread 0's first term is a call of `run`, which leads to the component's own
  first_step : Runs p false false s (pick ∷ []) (Call m.run []) (goes (root_term n m main_call)) d
      → threads.Runs p k false [] (alone (Call m.run [])) [] t
      (Step (machine.path_to []) (machine.location 0) ∷ []) (Call m.run []) (goes o.body)
      (only (paid 1))
  first_step run =
      let a : Term = Call m.run [] in
      let q = calls_none p m.run in
      let i = pick_sole [] a tt (ready_call p a m.run [] q) run in
      let j = stepped_at (Term-F.Call m.run []) (outs-Call _ _) refl i.2 in
      let c = called_with p false j.0 a i.0 d m.run [] q j.1 in
      let e = begins.runs_first c.declaration c.declared c.dispatches in
      let calls : Calls p a k.run [] =
      record {
        set = m.run;
        declared = c.declared;
        is_call = q;
        dispatches = subst (λ x. Dispatches p m.run [] x c.declared) e c.dispatches;
      } in
      let does : Does p false 0 (enters o.text o.body) o.body (paid 1) =
      (is.same.bare, refl, refl, refl) in
      threads.Runs.step [] refl refl refl (λ gs hs f z. absurd (no_frames gs hs f z))
      (moves.Moves.starts (paid 1) is.same.own_declared
      (λ y. call_not_own n m.run a refl (own_form is.same a y)) calls is.same.is_own
      (subst (λ x. Does p false 0 x o.body (paid 1)) (sym is.same.own_body) does) refl)
      (λ l. tt) (threads.Runs.none refl refl refl)
      (ap (λ x. record { effect = x; added = []; came = false }) (sym (both_idle (paid 1))))
    where
      no_frames : (gs hs : List Frame) (f : Frame) → [] ≡ gs ++ f ∷ hs → ⊥
      no_frames [] hs f z = let y : [] ≡ f ∷ hs = z in cc
      no_frames (x ∷ gs) hs f z = let y : [] ≡ x ∷ (gs ++ f ∷ hs) = z in cc

pub early_goes_on : EarlyGoesOn
early_goes_on p n m o k g is begins starts first_call main_call now s t pick d h y q run fits bounded =
    record {
      events = takes 0 (Step (machine.path_to []) (machine.location 0)) ∷ [];
      later = alone o.body;
      effect = paid 1;
      goes = goes_on [] [] None refl (h.2 ∙ ap alone starts.is_first)
          (subst (λ us. threads.Runs p k false [] us [] t
          (Step (machine.path_to []) (machine.location 0) ∷ []) (Call m.run []) (goes o.body)
          (only (paid 1))) (sym (h.2 ∙ ap alone starts.is_first))
          (first_step p n m o k g is begins s t pick d run))
          (rests refl
          (ap (λ x. thread None (going o.body x) ∷ [])
          (sym (ap (λ x. noted_at x false []) (outs-Step (machine.path_to []) (machine.location 0)))))
          refl) (sym (both_idle (paid 1)));
      bounded = bounded_paid 1;
      same_output = ap (λ x. x.output) (sym q);
      early = (paid_leaves s d q ∙ h.0, h.1, refl);
    }
early_goes_on p n m o k g is begins starts main_call tests now s t pick d h y q run fits bounded =
    nothing p n m o k tests now s t d (ap (λ x. x.output) q) (paid_leaves s d q ∙ h.0, h.1, h.2)
early_goes_on p n m o k g is begins starts tests told now s t pick d h y q run fits bounded =
    nothing p n m o k told now s t d (ap (λ x. x.output) q)
    (read_leaves s d m.started (Truth false) q ∙ h.0, h.1, h.2)
early_goes_on p n m o k g is begins starts told sets_started now s t pick d h y q run fits bounded =
    nothing p n m o k sets_started now s t d (ap (λ x. x.output) q)
    (paid_leaves s d q ∙ h.0, h.1, h.2)
early_goes_on p n m o k g is begins starts sets_started has_started now s t pick d h y q run fits
    bounded =
    nothing p n m o k has_started now s t d (ap (λ x. x.output) q)
    (ap (λ x. afterwards x s) q ∙ ap (afterwards (writing m.started (Truth true))) h.0, h.1, h.2)
early_goes_on p n m o k g is begins starts has_started sets_open now s t pick d h y q run fits
    bounded =
    nothing p n m o k sets_open now s t d (ap (λ x. x.output) q)
    (paid_leaves s d q ∙ h.0, h.1, h.2)
early_goes_on p n m o k g is begins starts sets_open has_open now s t pick d h y q run fits bounded =
    nothing p n m o k has_open now s t d (ap (λ x. x.output) q)
    (ap (λ x. afterwards x s) q ∙ ap (afterwards (writing n.unended (Small (pos 1)))) h.0, h.1, h.2)
early_goes_on p n m o k g is begins starts has_open makes_first now s t pick d h y q run fits
    bounded =
    nothing p n m o k makes_first now s t d (ap (λ x. x.output) q)
    (paid_leaves s d q ∙ h.0, h.1, h.2)
early_goes_on p n m o k g is begins starts makes_first (made_first l) now s t pick d h y q run fits
    bounded =
    nothing p n m o k (made_first l) now s t d (ap (λ x. x.output) q) (
      ap (λ x. afterwards x s) q ∙ ap (afterwards (first_made m l)) h.0,
      h.1,
      h.2,
      subst (FitsAll (first_made m l)) h.0 (subst (λ x. FitsAll x s) q fits),
      subst MakesWithinBounds q bounded,
    )
early_goes_on p n m o k g is begins starts first_call _ now s t pick d h y q run fits bounded =
    absurd q
early_goes_on p n m o k g is begins starts main_call _ now s t pick d h y q run fits bounded =
    absurd q
early_goes_on p n m o k g is begins starts tests _ now s t pick d h y q run fits bounded =
    absurd q
early_goes_on p n m o k g is begins starts told _ now s t pick d h y q run fits bounded =
    absurd q
early_goes_on p n m o k g is begins starts sets_started _ now s t pick d h y q run fits bounded =
    absurd q
early_goes_on p n m o k g is begins starts has_started _ now s t pick d h y q run fits bounded =
    absurd q
early_goes_on p n m o k g is begins starts sets_open _ now s t pick d h y q run fits bounded =
    absurd q
early_goes_on p n m o k g is begins starts has_open _ now s t pick d h y q run fits bounded =
    absurd q
early_goes_on p n m o k g is begins starts makes_first _ now s t pick d h y q run fits bounded =
    absurd q
early_goes_on p n m o k g is begins starts (made_first l) (roots.all i a stage b tree) now s t pick d
    h y q run fits bounded =
    absurd y
early_goes_on p n m o k g is begins starts (made_first l) _ now s t pick d h y q run fits bounded =
    absurd q
early_goes_on p n m o k g is begins starts (roots.all l a stage b tree) next now s t pick d h y q run fits bounded =
    absurd h
early_goes_on p n m o k g is begins starts (roots.all_over l x) next now s t pick d h y q run fits bounded =
    absurd h
early_goes_on p n m o k g is begins starts (roots.asks x) next now s t pick d h y q run fits bounded =
    absurd h
early_goes_on p n m o k g is begins starts (roots.ended x) next now s t pick d h y q run fits bounded =
    absurd h
