-- While one block sleeps and the other one is awake, the first one isn't tried.
use Rattle.std.proofs.Common.{◌≡◌, ℕ, true, false, List, [], ◌∷◌, Some, refl, ap, sym, ◌∙◌, ◌⊎◌, inl, inr, subst}
use Rattle.fort_core.specs.declared.form.Mode.TheVariants as mode
use Rattle.fort_core.specs.declared.pick.Pick.{Pick}
use Rattle.fort_core.specs.declared.term.Term.{Call, Asleep}
use Rattle.fort_core.specs.declared.value.Value.{Value}
use Rattle.fort_machine.specs.Effects.{Store, Effect, paid, making, afterwards, aborting}
use Rattle.fort_machine.specs.Ends.{stepped}
use Rattle.fort_machine.specs.Frames.{in_block, in_stepped}
use Rattle.fort_machine.specs.Marked.{In}
use Rattle.fort_machine.specs.Attempts.{Sleeps, Awake, MayTry, Ended, fresh, slept, goes, fell_asleep}
use Rattle.fort_machine.specs.Runs.{Runs, Begun}
use Rattle.fort_machine.specs.Journals.{opening_store, IsNext}
use Rattle.fort_machine.specs.Worked.{set}
use Rattle.fort_machine.proofs.Picks.{picks_add_up, attempt_is_one_pick}
use Rattle.fort_machine.proofs.Ready.{form_ready}
use Rattle.fort_machine.proofs.Single.{one_run}
use Rattle.fort_machine_law_worked.specs.Pieces.{number, nine, onward, makes_nine}
use Rattle.fort_machine_law_worked.specs.Sleeping.{waiting_body, setting_body, setting, blocks, sleeping_body, sleeping, aborted, up_to_sleep, again, marks, one_asleep, SleeperWaits, SleeperIsNotNext}
use Rattle.fort_machine_law_worked.proofs.Forms.{awake}
use Rattle.fort_machine_law_worked.proofs.Inverted.{begun, goes_one, single_step, first_pick, behind_pick, tried}
use Rattle.fort_machine_law_worked.proofs.SleepingRun.{bare_waiting, first_step, second_step, nine_made, abort_effect, abort_run, marks_read, asleep_effect, asleep_run, first_reached, second_reached}

-- the first block sleeps while its mark holds
sleeps : (s : Store) → s 9 ≡ Some (number 0) → Sleeps s (Asleep marks (waiting_body nine))
sleeps s e =
    record {
      marks = marks;
      body = waiting_body nine;
      is_asleep = refl;
      unchanged = λ l v h. unchanged l v h;
    }
  where
    unchanged : (l : ℕ) (v : Value) → In l v marks → s l ≡ Some v
    unchanged l v (inl q) = ap s q.0 ∙ e ∙ ap Some (sym q.1)
    unchanged l v (inr q) = absurd q

-- the second block is awake
second_awake : (s : Store) → Awake s one_asleep (1 ∷ [])
second_awake s = record {
  frames = in_block (stepped (Asleep marks (waiting_body nine)) ∷ []) [] ∷ [];
  part = setting nine;
  is_term = refl;
  is_path = refl;
  ready = form_ready (setting nine) mode.Atomic (setting_body nine) (fresh refl);
  reached = second_reached;
  sleepless = awake s mode.Atomic (setting_body nine);
}

may_not : (s : Store) → s 9 ≡ Some (number 0)
    → MayTry true s one_asleep (in_block [] (setting nine ∷ []) ∷ in_stepped ∷ [])
    (Asleep marks (waiting_body nine)) → ⊥
may_not s e (inl k) = k (sleeps s e)
may_not s e (inr k) = let z : ◌≡◌ {A = List ℕ} (1 ∷ []) (0 ∷ []) = k (1 ∷ []) (second_awake s) in cc

pub sleeper_waits : SleeperWaits
sleeper_waits within more t d k =
    let s0 : Store = opening_store sleeping in
    let s1 : Store = afterwards (paid 1) s0 in
    let s2 : Store = afterwards (making 9 (number 0 ∷ []) 1) s1 in
    let s3 : Store = afterwards (aborting abort_effect) s2 in
    let one = single_step sleeping false true 0 s0 [] _ _ _ refl first_step (λ l. tt) in
    let two = single_step sleeping false true 9 s1 [] _ _ _ refl second_step nine_made in
    let three =
    attempt_is_one_pick sleeping false true mode.Atomic (in_block [] (setting nine ∷ []) ∷ [])
    s2 (onward ∷ onward ∷ onward ∷ onward ∷ []) _ (Asleep marks (waiting_body nine))
    (waiting_body nine) _
    abort_effect (aborting abort_effect) first_reached (fresh refl) (bare_waiting nine)
    (inl (awake s2 mode.Atomic (waiting_body nine))) (abort_run s2 refl)
    (fell_asleep marks refl refl marks_read (tt, tt) refl refl) in
    let a = picks_add_up sleeping false true s0 (up_to_sleep (again within ∷ more))
    (Call (set 0) []) (goes t) d k.runs in
    let b = behind_pick sleeping false true s0 onward (makes_nine ∷ aborted ∷ again within ∷ more)
    (Call (set 0) []) sleeping_body (goes t) (paid 1) a.0 one a.1 in
    let c = behind_pick sleeping false true s1 makes_nine (aborted ∷ again within ∷ more)
    sleeping_body (blocks nine) (goes t) (making 9 (number 0 ∷ []) 1) b.0 two b.1 in
    let e = behind_pick sleeping false true s2 aborted (again within ∷ more) (blocks nine)
    one_asleep (goes t) (aborting abort_effect) c.0 three c.1 in
    let f = first_pick sleeping false true s3 (again within) more one_asleep (goes t) e.0 e.1 in
    let o = tried sleeping false true s3 (in_block [] (setting nine ∷ []) ∷ in_stepped ∷ [])
    mode.Atomic (Asleep marks (waiting_body nine)) (waiting_body nine) within [] f.0 f.1.0
    (slept marks refl refl) f.1.1 in
    may_not s3 refl o.may_try

not_next : (s : Store) → s 9 ≡ Some (number 0) → (within : List Pick) (e : Effect)
    → ((r : Ended) × Runs sleeping false true s (again within ∷ []) one_asleep r e)
    ⊎ Begun sleeping true s (again within) one_asleep e → ⊥
not_next s q within e (inl k) =
    may_not s q
    (tried sleeping false true s (in_block [] (setting nine ∷ []) ∷ in_stepped ∷ []) mode.Atomic
    (Asleep marks (waiting_body nine)) (waiting_body nine) within [] k.0 e
    (slept marks refl refl) k.1).may_try
not_next s q within e (inr k) =
    may_not s q
    (begun sleeping true s (in_block [] (setting nine ∷ []) ∷ in_stepped ∷ []) mode.Atomic
    (Asleep marks (waiting_body nine)) (waiting_body nine) within e (slept marks refl refl)
    k)

pub sleeper_is_not_next : SleeperIsNotNext
sleeper_is_not_next within t d e k n =
    let s0 : Store = opening_store sleeping in
    let one =
    one_run sleeping false true s0 (up_to_sleep []) (Call (set 0) []) (goes t) (goes one_asleep)
    d asleep_effect k.runs asleep_run.runs in
    not_next (afterwards asleep_effect s0) refl within e
    (subst (λ x. IsNext sleeping (afterwards x s0) one_asleep (again within) e) one.1
    (subst (λ x. IsNext sleeping (afterwards d s0) x (again within) e)
    (goes_one t one_asleep one.0) n))
