-- A program without the prelude runs as it does in the machine.
use Rattle.std.proofs.Common.{◌≡◌, ℕ, Bool, true, false, ◌||◌, List, [], ◌∷◌, ◌++◌, Option, Some, None, refl, sym, ap, ◌∙◌, subst, true≢false, append-nil, length, ◌⊎◌, inl, inr}
use Rattle.fort_base.specs.declared.ids.DeclId.{DeclId}
use Rattle.fort_core.specs.declared.pick.Pick.{Pick, Step, Attempt, out-Pick}
use Rattle.fort_core.specs.declared.pick.Pick.TheOpen.{Pick-F}
use Rattle.fort_core.specs.declared.program.Program.{Program}
use Rattle.fort_core.specs.declared.term.Term.{Term}
use Rattle.fort_core.specs.declared.value.Value.{Value}
use Rattle.fort_machine.specs.Attempts.{Ended, goes, aborts, Sleeps}
use Rattle.fort_machine.specs.Attempts as machine
use Rattle.fort_machine.specs.Effects.{Store, Effect, idle, both, afterwards}
use Rattle.fort_machine.specs.Ends.{Standing, at_value, at_throw, open_yet, standing, Finished}
use Rattle.fort_machine.specs.Frames.{Frame, plug, road, trodden}
use Rattle.fort_machine.specs.Journals as journals
use Rattle.fort_machine.specs.Parts.{IsOneOf}
use Rattle.fort_machine.specs.Steps.{Local}
use Rattle.fort_machine.specs.Runs as runs
use Rattle.fort_machine.specs.Runs.{path_to, location}
use Rattle.fort_machine.proofs.Picks.{runs_join}
use Rattle.fort_machine.proofs.WholeEffects.{both_idle}
use Rattle.fort_threads.specs.Known.{Known, known, Calls, IsBody, Own, spawning, waiting, getting, asking, Outside}
use Rattle.fort_threads.specs.Threads.{Paths, Phase, new, going, over, Thread, thread, Done, only, kept_at, kept, noted, noted_at, noted_by}
use Rattle.fort_threads.specs.Moves.{OwnStep, spawns, refuses, waits, gets, asks, Moves, by_itself, comes, starts, as_ever}
use Rattle.fort_threads.specs.Awake.{Awake, MayTry, wakes, came, alone}
use Rattle.fort_threads.specs.Awake as awake
use Rattle.fort_threads.specs.Runs.{Runs, none, step, stop, attempt}
use Rattle.fort_threads.specs.Machine.{Event, takes, begins, ends, applied, Goes, rests, goes_on, begun, ended, IsRun}
use Rattle.fort_threads.specs.Machine as threaded
use Rattle.fort_threads.specs.Conservative.{HasNone, of_first, IsPlainRun, going_yet, at_end, IsConservative}

-- an attempt that added no threads leaves none
none_kept : (r : Ended) → kept r [] ≡ []
none_kept aborts = refl
none_kept (goes t) = go (standing t)
  where
    go : (z : Standing) → kept_at z [] ≡ []
    go (at_value v) = refl
    go (at_throw v) = refl
    go open_yet = refl

none_noted : (pick : Pick) → noted_by pick false [] ≡ []
none_noted pick = go (out-Pick pick)
  where
    go : (x : Pick-F Pick) → noted_at x false [] ≡ []
    go (Pick-F.Step q loc) = refl
    go (Pick-F.Attempt q within) = refl

abbrev as_done : Effect → List Thread → Bool → Done
as_done e us b = record { effect = e; added = us; came = b }

added_is : (e : Effect) (us us' : List Thread) (b : Bool) → us ≡ us'
    → as_done e us b ≡ as_done e us' b
added_is e us us' b h = λ i. as_done e (h i) b

-- ---- one thread alone

no_more : (us ws : List Thread) (u : Thread) → [] ≡ us ++ u ∷ ws → ⊥
no_more [] ws u e = cc
no_more (x ∷ us) ws u e = cc

-- one of a list that has one is the first, and has nothing beside it
pub record OneAlone (us ws : List Thread) (u w : Thread) : Type 0 where
  pub before : us ≡ []
  pub is_it : u ≡ w
  pub behind : ws ≡ []

one_alone : (us ws : List Thread) (u w : Thread) → us ++ u ∷ ws ≡ w ∷ [] → OneAlone us ws u w
one_alone [] ws u w e = record { before = refl; is_it = cc; behind = cc }
one_alone (x ∷ us) ws u w e = absurd (no_more us ws u (let q : us ++ u ∷ ws ≡ [] = cc in sym q))

same_object : (o o' : Option ℕ) (f g : Phase) → thread o f ≡ thread o' g → o ≡ o'
same_object o o' f g e = ap (λ (u : Thread). u.object) e

same_phase : (o o' : Option ℕ) (f g : Phase) → thread o f ≡ thread o' g → f ≡ g
same_phase o o' f g e = ap (λ (u : Thread). u.phase) e

same_term : (t u : Term) (qs rs : Paths) → going t qs ≡ going u rs → t ≡ u
same_term t u qs rs e = cc

same_paths : (t u : Term) (qs rs : Paths) → going t qs ≡ going u rs → qs ≡ rs
same_paths t u qs rs e = cc

module _ (p : Program) (k : Known) (without : HasNone p k) where
  no_calls : (a : Term) (c : DeclId) (vs : List Value) → IsOneOf c (known k) → Calls p a c vs → ⊥
  no_calls a c vs i h =
      let z : None ≡ Some h.declared =
      sym (without c i) ∙ h.dispatches.most_specific.applicable.is_decl in cc

  no_body : (a : Term) (c : DeclId) (vs : List Value) → IsOneOf c (known k) → IsBody p c vs a → ⊥
  no_body a c vs i h = let z : None ≡ Some h.declared = sym (without c i) ∙ h.is_declared in cc

  no_own : (a : Term) → Own p k a → ⊥
  no_own a (spawning f h) = no_body a k.spawn (f ∷ []) (inr (inl refl)) h
  no_own a (waiting l h) = no_body a k.wait _ (inr (inr (inl refl))) h
  no_own a (getting l h) = no_body a k.val _ (inr (inr (inr (inl refl)))) h
  no_own a (asking l h) = no_body a k.ready _ (inr (inr (inr (inr (inl refl))))) h

  outside : (fs : List Frame) (a : Term) → Outside p k fs a
  outside fs a gs hs f e own = no_own (plug (f ∷ hs) a) own

  no_own_step : {standing : List Thread} {loc : ℕ} {a b : Term} {d : Done}
      → OwnStep p k standing loc a b d → ⊥
  no_own_step {a = a} (spawns f h g i w) = no_own a (spawning f h)
  no_own_step {a = a} (refuses f h g i j w) = no_own a (spawning f h)
  no_own_step {a = a} (waits l end h g i j w) = no_own a (waiting l h)
  no_own_step {a = a} (gets l end h g i j w) = no_own a (getting l h)
  no_own_step {a = a} (asks l h g i w) = no_own a (asking l h)

  -- who is awake
  to_awake : (s : Store) (us : List Thread) (t : Term) (path : List ℕ) → Awake p k s us t path
      → machine.Awake s t path
  to_awake s us t path (awake.as_ever fs a b c e f g h i) =
      record {
        frames = fs;
        part = a;
        is_term = b;
        is_path = c;
        ready = h;
        reached = e;
        sleepless = i;
      }
  to_awake s us t path (awake.by_itself fs a b c e f own g) = absurd (no_own a own)

  from_awake : (s : Store) (us : List Thread) (t : Term) (path : List ℕ)
      → machine.Awake s t path → Awake p k s us t path
  from_awake s us t path h =
      awake.as_ever h.frames h.part h.is_term h.is_path h.reached (outside h.frames h.part)
      (no_own h.part) h.ready h.sleepless

  to_may : (us : List Thread) (s : Store) (t : Term) (fs : List Frame) (a : Term)
      → machine.MayTry true s t fs a → MayTry p k [] us [] s t fs a
  to_may us s t fs a (inl h) = wakes h
  to_may us s t fs a (inr h) = alone (λ path w. h path (to_awake s us t path w)) (λ u i w. i)

  from_may : (beside us : List Thread) (asked : Paths) (s : Store) (t : Term) (fs : List Frame)
      (a : Term) → asked ≡ [] → MayTry p k beside us asked s t fs a
      → machine.MayTry true s t fs a
  from_may beside us asked s t fs a e (wakes h) = inl h
  from_may beside us asked s t fs a e (came i) = absurd (subst (IsOneOf (road fs)) e i)
  from_may beside us asked s t fs a e (alone h g) =
      inr (λ path w. h path (from_awake s us t path w))

  -- a run of the machine is one of a thread that is alone
  to_runs : {inner : Bool} {s : Store} {picks : List Pick} {t : Term} {r : Ended} {d : Effect}
      → runs.Runs p inner true s picks t r d → (us : List Thread)
      → Runs p k inner [] us [] s picks t r (only d)
  to_runs (runs.none a b w) us = none a b (ap only w)
  to_runs (runs.step {a = a} {d1 = d1} fs e f g local fit rest w) us =
      step {d1 = only d1} fs e f g (outside fs a)
      (as_ever d1 (no_own a) (no_calls a) local refl) fit (to_runs rest (us ++ [])) (ap only w)
  to_runs (runs.stop {a = a} fs e f g h i j w) us =
      stop fs e f g h (outside fs a) (no_own a) i j (ap only w)
  to_runs (runs.attempt {s = s} {t = t} {a = a} {ended = r} {d2 = d2} {d3 = d3} fs e f g form bare
      may inside closes rest w) us =
      attempt fs e f g (outside fs a) (no_own a) form bare (to_may us s t fs a may)
      (to_runs inside us) closes (to_runs rest (us ++ kept r []))
      (ap only w ∙ added_is (both d2 d3) [] (kept r [] ++ []) false
      (sym (ap (λ xs. xs ++ []) (none_kept r))))

  -- a thread's run is one of the machine, and adds nothing
  plain_move : {inner : Bool} {us : List Thread} {loc : ℕ} {a b : Term} {d : Done}
      → Moves p k inner us loc a b d
      → Local p inner loc a b d.effect × (d.added ≡ []) × (d.came ≡ false)
  plain_move (by_itself h) = absurd (no_own_step h)
  plain_move {a = a} (comes e c vs n i h l w) = absurd (no_calls a c vs (inr i) h)
  plain_move {a = a} (starts e c n h i l w) = absurd (no_calls a k.run [] (inl refl) h)
  plain_move {inner = inner} {loc = loc} {a = a} {b = b} (as_ever e n i l w) = (
    subst (λ (x : Done). Local p inner loc a b x.effect) (sym w) l,
    ap (λ x. x.added) w,
    ap (λ x. x.came) w,
  )

  from_runs : {inner : Bool} {beside us : List Thread} {asked : Paths} {s : Store}
      {picks : List Pick} {t : Term} {r : Ended} {d : Done}
      → Runs p k inner beside us asked s picks t r d → asked ≡ []
      → runs.Runs p inner true s picks t r d.effect × (d.added ≡ []) × (d.came ≡ false)
  from_runs (none a b w) none_asked =
      (runs.none a b (ap (λ x. x.effect) w), ap (λ x. x.added) w, ap (λ x. x.came) w)
  from_runs (step {d1 = d1} {d2 = d2} fs e f g out move fit rest w) none_asked =
      let m = plain_move move in
      let q = from_runs rest none_asked in (
        runs.step fs e f g m.0 fit q.0 (ap (λ x. x.effect) w),
        ap (λ x. x.added) w ∙ ap (λ us. us ++ d2.added) m.1 ∙ q.1,
        ap (λ x. x.came) w ∙ ap (λ b. b || d2.came) m.2 ∙ q.2,
      )
  from_runs (stop fs e f g h out own i j w) none_asked =
      (runs.stop fs e f g h i j (ap (λ x. x.effect) w), ap (λ x. x.added) w, ap (λ x. x.came) w)
  from_runs (attempt {beside = beside} {standing = us} {asked = asked} {s = s} {t = t} {a = a}
      {ended = r} {d1 = d1} {d3 = d3} fs e f g out own form bare may inside closes rest w)
      none_asked =
      let m = from_runs inside refl in
      let still : noted d1.came (road fs) asked ≡ [] =
      ap (λ b. noted b (road fs) asked) m.2 ∙ ap (noted false (road fs)) none_asked in
      let q = from_runs rest still in (
        runs.attempt fs e f g form bare
            (from_may beside us asked s t fs a none_asked may) m.0 closes
            q.0 (ap (λ x. x.effect) w),
        ap (λ x. x.added) w ∙ ap (λ us. kept r us ++ d3.added) m.1
            ∙ ap (λ us. us ++ d3.added) (none_kept r) ∙ q.1,
        ap (λ x. x.came) w ∙ ap (λ b. b || d3.came) m.2 ∙ q.2,
      )

  -- ---- the root's machine

  same_end : (t u : Term) → goes t ≡ goes u → u ≡ t
  same_end t u e = cc

  to_goes : {s : Store} {picks : List Pick} {t : Term} {r : Ended} {d : Effect}
      → runs.Runs p false true s picks t r d → (u : Term) → r ≡ goes u → (ys : List Event)
      (later : List Thread)
      → ((s' : Store) → Goes p k (threaded.alone u) s' ys later idle)
      → Goes p k (threaded.alone t) s (of_first picks ++ ys) later d
  to_goes {s = s} {t = t} {d = d} (runs.none a b w) u e ys later more =
      subst (λ x. Goes p k (threaded.alone t) s x later d) (sym (ap (λ xs. of_first xs ++ ys) a))
      (subst (λ x. Goes p k x s ys later d) (ap threaded.alone (same_end t u (sym b ∙ e)))
      (subst (λ x. Goes p k (threaded.alone u) s ys later x) (sym w) (more s)))
  to_goes {s = s} {t = t} (runs.step {rest = rest} {b = b} {d1 = d1} {d2 = d2} {loc = loc} fs f g h
      local fit on w) u e ys later more =
      let pick = Step (path_to fs) (location loc) in
      let next = plug (trodden fs) b in
      goes_on [] [] None (ap (λ xs. of_first xs ++ ys) f) refl
      (to_runs (runs.step fs refl g h local fit (runs.none refl refl refl) (sym (both_idle d1)))
      (threaded.alone t))
      (subst (λ x. Goes p k (thread None (going next x) ∷ []) (afterwards d1 s)
      (of_first rest ++ ys) later d2) (sym (none_noted pick)) (to_goes on u e ys later more)) w
  to_goes (runs.stop fs f g h i j l w) u e ys later more = absurd (true≢false (sym f))
  to_goes {s = s} {t = t} (runs.attempt {within = within} {rest = rest} {b = b} {d2 = d2} {d3 = d3}
      fs f g h form bare may inside closes on w) u e ys later more =
      let pick = Attempt (path_to fs) within in
      let next = plug (trodden fs) b in
      goes_on [] [] None (ap (λ xs. of_first xs ++ ys) f) refl
      (to_runs (runs.attempt fs refl g h form bare may inside closes (runs.none refl refl refl)
      (sym (both_idle d2))) (threaded.alone t))
      (subst (λ x. Goes p k (thread None (going next x) ∷ []) (afterwards d2 s)
      (of_first rest ++ ys) later d3) (sym (none_noted pick)) (to_goes on u e ys later more)) w

  -- a thread alone that has ended stays so
  over_rests : {now later : List Thread} {s : Store} {events : List Event} {d : Effect}
      → Goes p k now s events later d → (t : Term) → now ≡ thread None (over t) ∷ []
      → (events ≡ []) × (later ≡ now) × (d ≡ idle)
  over_rests (rests a b c) t e = (a, b, c)
  over_rests (goes_on {t = v} {asked = asked} us ws object a b run on w) t e =
      let q = one_alone us ws (thread object (going v asked)) (thread None (over t)) (sym b ∙ e) in
      let z : going v asked ≡ over t = ap (λ (x : Thread). x.phase) q.is_it in absurd cc
  over_rests (begun us ws object f a b on) t e =
      let q = one_alone us ws (thread object (new f)) (thread None (over t)) (sym b ∙ e) in
      let z : new f ≡ over t = ap (λ (x : Thread). x.phase) q.is_it in absurd cc
  over_rests (ended {t = v} us ws object asked a b c on) t e =
      let q = one_alone us ws (thread object (going v asked)) (thread None (over t)) (sym b ∙ e) in
      let z : going v asked ≡ over t = ap (λ (x : Thread). x.phase) q.is_it in absurd cc

  -- what a run of thread 0 alone is in the machine
  abbrev IsYet : Store → Term → List Event → List Thread → Effect → Type 0
  IsYet s t events later d = (picks : List Pick) × (u : Term)
      × runs.Runs p false true s picks t (goes u) d × (events ≡ of_first picks)
      × (later ≡ threaded.alone u)

  abbrev IsOver : Store → Term → List Event → List Thread → Effect → Type 0
  IsOver s t events later d = (picks : List Pick) × (u : Term)
      × runs.Runs p false true s picks t (goes u) d × Finished u
      × (events ≡ of_first picks ++ ends 0 ∷ []) × (later ≡ thread None (over u) ∷ [])

  from_goes : {now later : List Thread} {s : Store} {events : List Event} {d : Effect}
      → Goes p k now s events later d → (t : Term) → now ≡ threaded.alone t
      → IsYet s t events later d ⊎ IsOver s t events later d
  from_goes (rests a b c) t e = inl ([], t, runs.none refl refl c, a, b ∙ e)
  from_goes {later = later} {s = s} {events = events} {d = d} (goes_on {rest = rest} {t = v} {u = u}
      {asked = asked} {pick = pick} {e = more} {done = done} us ws object a b run on w) t e =
      let q = one_alone us ws (thread object (going v asked)) (thread None (going t []))
      (sym b ∙ e) in
      let is_none = same_object object None (going v asked) (going t []) q.is_it in
      let is_going = same_phase object None (going v asked) (going t []) q.is_it in
      let m = from_runs run (same_paths v t asked [] is_going) in
      let first : runs.Runs p false true s (pick ∷ []) t (goes u) done.effect =
      subst (λ x. runs.Runs p false true s (pick ∷ []) x (goes u) done.effect)
      (same_term v t asked [] is_going) m.0 in
      let noted_none : noted_by pick done.came asked ≡ [] =
      ap (λ b'. noted_by pick b' asked) m.2
      ∙ ap (noted_by pick false) (same_paths v t asked [] is_going)
      ∙ none_noted pick in
      let still : us ++ thread object (going u (noted_by pick done.came asked)) ∷ (ws ++ done.added)
      ≡ threaded.alone u =
      λ i. q.before i ++ thread (is_none i) (going u (noted_none i)) ∷ (q.behind i ++ m.1 i) in
      let begin : events ≡ takes 0 pick ∷ rest =
      a ∙ ap (λ xs. takes (length xs) pick ∷ rest) q.before in
      go first begin (from_goes on u still)
    where
      go : runs.Runs p false true s (pick ∷ []) t (goes u) done.effect
          → events ≡ takes 0 pick ∷ rest
          → IsYet (afterwards done.effect s) u rest later more
          ⊎ IsOver (afterwards done.effect s) u rest later more
          → IsYet s t events later d ⊎ IsOver s t events later d
      go first begin (inl h) =
          inl (
            pick ∷ h.0,
            h.1,
            subst (λ x. runs.Runs p false true s (pick ∷ h.0) t (goes h.1) x) (sym w)
                (runs_join p false true s (pick ∷ []) h.0 t u (goes h.1) done.effect more first
                h.2),
            begin ∙ ap (λ xs. takes 0 pick ∷ xs) h.3,
            h.4,
          )
      go first begin (inr h) =
          inr (
            pick ∷ h.0,
            h.1,
            subst (λ x. runs.Runs p false true s (pick ∷ h.0) t (goes h.1) x) (sym w)
                (runs_join p false true s (pick ∷ []) h.0 t u (goes h.1) done.effect more first
                h.2),
            h.3,
            begin ∙ ap (λ xs. takes 0 pick ∷ xs) h.4,
            h.5,
          )
  from_goes (begun us ws object f a b on) t e =
      let q = one_alone us ws (thread object (new f)) (thread None (going t [])) (sym b ∙ e) in
      let z : new f ≡ going t [] = ap (λ (x : Thread). x.phase) q.is_it in absurd cc
  from_goes (ended {rest = rest} {t = v} us ws object asked a b c on) t e =
      let q = one_alone us ws (thread object (going v asked)) (thread None (going t []))
      (sym b ∙ e) in
      let is_none = same_object object None (going v asked) (going t []) q.is_it in
      let is_going = same_phase object None (going v asked) (going t []) q.is_it in
      let same = same_term v t asked [] is_going in
      let still : us ++ thread object (over v) ∷ ws ≡ thread None (over t) ∷ [] =
      λ i. q.before i ++ thread (is_none i) (over (same i)) ∷ q.behind i in
      let m = over_rests on t still in
      inr (
        [],
        t,
        runs.none refl refl m.2,
        subst Finished same c,
        a ∙ ap (λ xs. ends (length xs) ∷ rest) q.before ∙ ap (λ xs. ends 0 ∷ xs) m.0,
        m.1 ∙ still,
      )

-- ---- runs of programs

to_plain : (p : Program) (k : Known) → HasNone p k → (events : List Event) (later : List Thread)
    (d : Effect) → IsRun p k events later d → IsPlainRun p events later d
to_plain p k without events later d run = go (from_goes p k without run.goes p.first refl)
  where
    go : IsYet p k without (journals.opening_store p) p.first events later d
        ⊎ IsOver p k without (journals.opening_store p) p.first events later d
        → IsPlainRun p events later d
    go (inl h) = going_yet h.0 h.1 (record { runs = h.2; bounded = run.bounded }) h.3 h.4
    go (inr h) = at_end h.0 h.1 (record { runs = h.2; bounded = run.bounded }) h.3 h.4 h.5

from_plain : (p : Program) (k : Known) → HasNone p k → (events : List Event)
    (later : List Thread) (d : Effect) → IsPlainRun p events later d → IsRun p k events later d
from_plain p k without events later d (going_yet picks t run e l) =
    record {
      goes = subst (λ x. Goes p k (threaded.alone p.first) (journals.opening_store p) x later d)
          (append-nil (of_first picks) ∙ sym e)
          (to_goes p k without run.runs t refl [] later (λ s'. rests refl l refl));
      bounded = run.bounded;
    }
from_plain p k without events later d (at_end picks t run finished e l) =
    record {
      goes = subst (λ x. Goes p k (threaded.alone p.first) (journals.opening_store p) x later d)
          (sym e)
          (to_goes p k without run.runs t refl (ends 0 ∷ []) later
          (λ s'. ended [] [] None [] refl refl finished (rests refl l refl)));
      bounded = run.bounded;
    }

pub is_conservative : IsConservative
is_conservative p k without events later d =
    (to_plain p k without events later d, from_plain p k without events later d)
