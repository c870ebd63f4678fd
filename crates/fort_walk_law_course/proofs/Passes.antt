-- How a run ends.
use Rattle.std.proofs.Common.{◌≡◌, ℕ, ◌+◌, ◌<◌, ◌≤◌, true, false, List, [], ◌∷◌, ◌++◌, refl, arith, ap, sym, ◌∙◌, subst, ◌⊎◌, inl, inr}
use Rattle.fort_core.specs.declared.journal.Ending.{Ending}
use Rattle.fort_core.specs.declared.journal.Ending.TheVariants.{Completed, Uncaught, OutOfFuel}
use Rattle.fort_core.specs.declared.pick.Pick.{Pick, Attempt}
use Rattle.fort_core.specs.declared.program.Program.{Program}
use Rattle.fort_core.specs.declared.term.Term.{Term}
use Rattle.fort_core.specs.declared.term.Term as term
use Rattle.fort_machine.specs.Effects.{Effect, idle, both, paid, afterwards, aborting}
use Rattle.fort_machine.specs.Ends.{throw_of}
use Rattle.fort_machine.specs.Acts.{unit}
use Rattle.fort_machine.specs.Attempts.{Ended, goes, aborts}
use Rattle.fort_machine.specs.Runs.{Runs, Begun, none}
use Rattle.fort_machine.specs.Journals.{opening_store, MakesWithinBounds, Ends}
use Rattle.fort_machine.proofs.Runs.{append}
use Rattle.fort_frames.specs.Frames.{frames, rebuilt}
use Rattle.fort_store_effects.specs.Levels.{Levels, seen, spent, with_attempts, attempts_cost}
use Rattle.fort_store_effects.specs.declared.cell.Closing.TheVariants as closing
use Rattle.fort_walk_law_course.specs.Picks.{Stage}
use Rattle.fort_walk_law_course.proofs.Picks.{step_is_next, inner_abort_ends, attempt_is_begun, begun_within}
use Rattle.fort_walk_law_course.specs.Course.{Held, base_of, AllWait}
use Rattle.fort_walk_law_course.specs.Ends.{HasRun, PassesLast}
use Rattle.fort_walk_law_course.specs.Laws.{CompletedRun, UncaughtRun, StepPasses, AbortPasses, AttemptPasses, LastGoesOut, RunPasses}
use Rattle.fort_walk_law_course.proofs.Bounds.{both_bounded, closing_bounded}
use Rattle.fort_walk_law_course.proofs.Store.{levels_by, store_by, seen_base, wait_on}

-- ---- the root's end

-- the root's run, with nobody round it
ended_by : (p : Program) (fuel : ℕ) (v : Levels) (root : Effect) (es : List Effect)
    (picks : List Pick) (now : ℕ) (t : Term) (ending : Ending) → v ≡ levels_by p root es
    → AllWait p now root [] es → MakesWithinBounds root
    → Runs p false true (opening_store p) picks p.first (goes t) root → spent v ≤ fuel
    → Ends p fuel t root ending → HasRun p fuel picks ending v.output v.cost
ended_by p fuel v root [] picks now t ending is k m runs cost ends =
    let price : spent v ≡ root.cost + 0 = ap spent is in
    record {
      term = t;
      effect = root;
      records =
          record {
            is_run = record { runs = runs; bounded = m };
            within_fuel = omega (arith, price, cost);
            ends = ends;
          };
      is_output = ap (λ (x : Levels). x.output) is;
      is_cost = ap (λ (x : Levels). x.cost) is;
    }
ended_by p fuel v root (e ∷ es) picks now t ending is k m runs cost ends = absurd k

pub completed_run : CompletedRun
completed_run p fuel v picks now c =
    ended_by p fuel v c.root c.attempts picks now (term.Value unit) Completed c.levels c.waiting
    c.bounded c.runs c.within_fuel refl

pub uncaught_run : UncaughtRun
uncaught_run p fuel v picks now x c =
    ended_by p fuel v c.root c.attempts picks now (throw_of x) (Uncaught x) c.levels c.waiting
    c.bounded c.runs c.within_fuel refl

-- ---- the last pick

pub step_passes : StepPasses
step_passes p fuel v picks ws clock fresh loc place a b e c local fits bounded passes = record {
  term = rebuilt clock (frames place.stack) a;
  comes = c.comes;
  effect = e;
  is_next =
      inl (
        _,
        step_is_next p _ (seen v) e clock (clock + 1) loc place a b c.reached (omega arith)
            local fits,
      );
  bounded = bounded;
  passes = passes;
}

pub abort_passes : AbortPasses
abort_passes p fuel v picks h ws clock fresh place a c acts passes =
    let at = rebuilt clock (frames place.stack) a in
    let stage : Stage p true (seen v) [] at idle clock place a =
    record { runs = none refl refl refl; reached = c.reached } in
    record {
      term = at;
      comes = c.comes;
      effect = both idle (paid 1);
      is_next = inl (aborts, inner_abort_ends p (seen v) [] at idle clock place a stage acts);
      bounded = λ l x e. let q = e in cc;
      passes = passes;
    }

pub attempt_passes : AttemptPasses
attempt_passes p fuel v picks ws clock fresh place m a body c form bare may passes = record {
  term = rebuilt clock (frames place.stack) a;
  comes = c.comes;
  effect = aborting idle;
  is_next =
      inr (attempt_is_begun p m (seen v) [] body (goes body) idle clock place a c.reached form bare
      may (none refl refl refl));
  bounded = λ l x e. let q = e in cc;
  passes = passes;
}

-- the last pick of an attempt's machine, in levels that are taken apart
out_by : (p : Program) (fuel : ℕ) (v : Levels) (root : Effect) (es : List Effect)
    (picks : List Pick) (h : Held) (ws : List Held) (now : ℕ) (pick : Pick) (t : Term) (e : Effect)
    → v ≡ levels_by p root es → AllWait p now root (h ∷ ws) es → MakesWithinBounds root
    → (let b = base_of p root (h ∷ ws) es
    in Runs p b.inner true b.store picks b.first (goes t) b.done) → spent v ≤ fuel
    → (((r : Ended) × Runs p true true (seen v) (pick ∷ []) t r e) ⊎ Begun p true (seen v) pick t e)
    → MakesWithinBounds e → fuel < spent v + e.cost
    → (ds : List Effect)
    × PassesLast p fuel (with_attempts v ds) h.picks ws now
    (Attempt h.place.path (picks ++ pick ∷ []))
out_by p fuel v root [] picks h ws now pick t e is k m runs cost next n passes = absurd k
out_by p fuel v root (d ∷ ds) picks h ws now pick t e is k m runs cost next n passes =
    let waits = k.0 in
    let at = rebuilt h.clock (frames h.place.stack) waits.form in
    let store = store_by p root ws ds in
    let levels : with_attempts v ds ≡ levels_by p root ds = ap (λ x. with_attempts x ds) is in
    let below : seen (with_attempts v ds) ≡ store =
    ap seen levels ∙ seen_base p h.clock root ws ds k.2 in
    let inner : seen v ≡ afterwards d store = ap seen is ∙ seen_base p now root (h ∷ ws) (d ∷ ds) k
    in
    let whole : spent v ≡ root.cost + (1 + d.cost + attempts_cost ds) = ap spent is in
    let part : spent (with_attempts v ds) ≡ root.cost + attempts_cost ds = ap spent levels in
    let begun : Begun p true store (Attempt h.place.path (picks ++ pick ∷ [])) at
    (aborting (both d e)) =
    elim next [
      | inl k1 ↦
          attempt_is_begun p h.mode store (picks ++ pick ∷ []) h.body k1.0 (both d e) h.clock
          h.place waits.form waits.stage.reached waits.is_form waits.bare waits.may
          (append store picks h.body (goes t) d runs t refl (pick ∷ []) k1.0 e
          (subst (λ s. Runs p true true s (pick ∷ []) t k1.0 e) inner k1.1))
      | inr k1 ↦
          begun_within p h.mode store picks pick h.body t d e h.clock h.place waits.form
          waits.stage.reached waits.is_form waits.bare waits.may runs
          (subst (λ s. Begun p true s pick t e) inner k1)
    ] in (
      ds,
      record {
        term = at;
        comes = record {
          root = root;
          attempts = ds;
          levels = levels;
          waiting = wait_on p h.clock now root ws ds waits.not_later k.2;
          bounded = m;
          runs = waits.stage.runs;
          within_fuel = omega (arith, whole, part, cost);
        };
        effect = aborting (both d e);
        is_next =
            inr (subst
            (λ s. Begun p true s (Attempt h.place.path (picks ++ pick ∷ [])) at
            (aborting (both d e))) (sym below) begun);
        bounded = closing_bounded closing.Aborted (both d e) (both_bounded d e k.1 n);
        passes = omega (arith, whole, part, passes);
      },
    )

pub last_goes_out : LastGoesOut
last_goes_out p fuel v picks h ws now pick c =
    let k = c.comes
    in out_by p fuel v k.root k.attempts picks h ws now pick c.term c.effect k.levels k.waiting
    k.bounded k.runs k.within_fuel c.is_next c.bounded c.passes

-- the root's last pick
passed_by : (p : Program) (fuel : ℕ) (v : Levels) (root : Effect) (es : List Effect)
    (picks : List Pick) (now : ℕ) (pick : Pick) (t : Term) (e : Effect)
    → v ≡ levels_by p root es → AllWait p now root [] es → MakesWithinBounds root
    → Runs p false true (opening_store p) picks p.first (goes t) root → spent v ≤ fuel
    → (((r : Ended) × Runs p false true (seen v) (pick ∷ []) t r e)
    ⊎ Begun p true (seen v) pick t e) → MakesWithinBounds e → fuel < spent v + e.cost
    → HasRun p fuel picks (OutOfFuel pick) v.output v.cost
passed_by p fuel v root [] picks now pick t e is k m runs cost next n passes =
    let store : seen v ≡ afterwards root (opening_store p) = ap seen is in
    let price : spent v ≡ root.cost + 0 = ap spent is in
    ended_by p fuel v root [] picks now t (OutOfFuel pick) is k m runs cost (record {
      effect = e;
      is_next =
          subst (λ s. ((r : Ended) × Runs p false true s (pick ∷ []) t r e)
          ⊎ Begun p true s pick t e) store next;
      bounded = n;
      passes = omega (arith, price, passes);
    })
passed_by p fuel v root (d ∷ ds) picks now pick t e is k m runs cost next n passes = absurd k

pub run_passes : RunPasses
run_passes p fuel v picks now pick c =
    let k = c.comes
    in passed_by p fuel v k.root k.attempts picks now pick c.term c.effect k.levels k.waiting
    k.bounded k.runs k.within_fuel c.is_next c.bounded c.passes
