-- One pick of a machine, an attempt's or the root's: a step or an attempt, wherever it stands.
use Rattle.std.proofs.Common.{◌≡◌, ℕ, Bool, true, false, List, [], ◌∷◌, ◌++◌, refl, ap, sym, ◌∙◌, subst, append-nil, ◌⊎◌, inl, inr}
use Rattle.fort_core.specs.declared.form.Mode.{Mode}
use Rattle.fort_core.specs.declared.pick.Pick.{Pick, Step, Attempt}
use Rattle.fort_core.specs.declared.program.Program.{Program}
use Rattle.fort_core.specs.declared.term.Term.{Term, Asleep, out-Term}
use Rattle.fort_core.specs.declared.term.Term.TheVariants.{outs-Atomic, outs-Asleep}
use Rattle.fort_machine.specs.Acts.{Act, stuck, calls, ends}
use Rattle.fort_machine.specs.Attempts.{Form, fresh, slept, Ready, Ended, goes, aborts, Closes}
use Rattle.fort_machine.specs.Effects.{Store, Effect, idle, paid, FitsAll, afterwards}
use Rattle.fort_machine.specs.Ends.{open_yet, standing}
use Rattle.fort_machine.specs.Forms.{act_at, act}
use Rattle.fort_machine.specs.Frames.{Frame, plug, road, passed, trodden}
use Rattle.fort_machine.specs.Journals.{MakesWithinBounds}
use Rattle.fort_machine.specs.Marked.{Marks, Bare}
use Rattle.fort_machine.specs.Runs.{path_to, location}
use Rattle.fort_machine.specs.Runs as machine
use Rattle.fort_machine.specs.Steps.{Acts, by_itself, by_call, Does, Local, steps}
use Rattle.fort_machine.proofs.Places.{ready_open}
use Rattle.fort_machine.proofs.Ready.{local_ready, stop_ready, form_ready}
use Rattle.fort_machine.proofs.Runs.{closes_fit, runs_fit}
use Rattle.fort_threads.specs.Known.{Known}
use Rattle.fort_threads.specs.Known as own
use Rattle.fort_threads.specs.Runs as threads
use Rattle.fort_threads.specs.Threads.{Paths, Thread, only}
use Rattle.fort_threads_law_servers.specs.Prelude.{Names}
use Rattle.fort_threads_law_servers.specs.Roots.{Start}
use Rattle.fort_threads_law_servers.proofs.Turns.{a_step, an_attempt, passed_behind}
use Rattle.fort_threads_law_private.specs.Grounds.{Ground, Grows}
use Rattle.fort_threads_law_private.specs.Private.{Private}
use Rattle.fort_threads_law_private.proofs.Frames.{form_private}
use Rattle.fort_threads_law_worlds.specs.Worlds.{Spot, World, ground_of}
use Rattle.fort_threads_law_worlds.specs.Known.{Own}
use Rattle.fort_threads_law_worlds.specs.Stores.{AreStores}
use Rattle.fort_threads_law_worlds.proofs.Following.{follows_self}
use Rattle.fort_threads_law_worlds.proofs.Closing.{idle_alike}
use Rattle.fort_threads_law_worlds.proofs.Queues.{none_queued}
use Rattle.fort_threads_law_matches.specs.Matches.{Matches}
use Rattle.fort_threads_law_matches.specs.Placed.{Placed}
use Rattle.fort_threads_law_matches.specs.Sleepers.{SleepsAlike}
use Rattle.fort_threads_law_matches.proofs.Acts.{ready_match}
use Rattle.fort_threads_law_matches.proofs.Placing.{each_is_placed}
use Rattle.fort_threads_law_calls.specs.Answers.{IsCall}
use Rattle.fort_threads_law_calls.proofs.Answered.{each_call_is_answered}
use Rattle.fort_threads_law_runs.specs.Premises.{ThrowsFinely, IsThreaded}
use Rattle.fort_threads_law_runs.specs.Runs.{GoesAlike}
use Rattle.fort_threads_law_runs.specs.Told as told
use Rattle.fort_threads_law_runs.proofs.Bounded.{bounded_paid}
use Rattle.fort_threads_law_runs.proofs.Finding.{finds_paid}
use Rattle.fort_threads_law_runs.proofs.Alike.{PickAlike}
use Rattle.fort_threads_law_runs.proofs.Within.{private_not_own, call_alike}
use Rattle.fort_threads_law_runs.proofs.Stepped.{step_alike}
use Rattle.fort_threads_law_runs.proofs.Tried.{MayBe, same_tried, slept_tried}

-- a form that sleeps has no step
asleep_stuck : (p : Program) (a : Term) (marks : Marks) (body : Term) → a ≡ Asleep marks body
    → act p a ≡ stuck
asleep_stuck p a marks body e = ap (act_at p) (ap out-Term e ∙ outs-Asleep marks body)

stuck_acts : (p : Program) (a : Term) (x : Act) → act p a ≡ stuck → Acts p a x → x ≡ stuck
stuck_acts p a x e (by_itself q) = sym q ∙ e
stuck_acts p a x e (by_call {set = set} {values = values} q r z) =
    let y : calls set values ≡ stuck = sym q ∙ e in absurd cc

asleep_no_step : (p : Program) (inner : Bool) (loc : ℕ) (a b : Term) (d : Effect) (marks : Marks)
    (body : Term) → a ≡ Asleep marks body → Local p inner loc a b d → ⊥
asleep_no_step p inner loc a b d marks body e (steps x h k) =
    subst (λ y. Does p inner loc y b d) (stuck_acts p a x (asleep_stuck p a marks body e) h) k

-- the body of a form that sleeps
form_asleep : (p : Program) (n : Names) (m : Start) (g : Ground) (a : Term) (md : Mode)
    (body : Term) (marks : Marks) (c : Term) → Form a md body → a ≡ Asleep marks c
    → Private p n m g c → Private p n m g body
form_asleep p n m g a md body marks c (fresh e) q h =
    let z = sym (outs-Atomic md body) ∙ ap out-Term (sym e ∙ q) ∙ outs-Asleep marks c in absurd cc
form_asleep p n m g a md body marks c (slept ms i e) q h =
    let z = sym (outs-Asleep ms body) ∙ ap out-Term (sym e ∙ q) ∙ outs-Asleep marks c in
    let y : c ≡ body = cc in subst (Private p n m g) y h

module _ (p : Program) (n : Names) (m : Start) (o : Own) (k : Known) (g : Ground)
    (h : IsThreaded p n m o k g) (w : World) (here : Spot) (standing_all : List Thread)
    (asked : Paths) (s t : Store) (u v a : Term) (fs : List Frame)
    (stores : AreStores p n m w standing_all s t) (grown : Grows g (ground_of w))
    (matches : Matches p n m o w here asked [] u v) (is_term : u ≡ plug fs a)
    (free : passed fs a ≡ false) (ready : Ready a) where
  abbrev AtPlace : Type 0
  AtPlace = Placed p n m o k w here asked [] v fs a

  q : AtPlace
  q = each_is_placed p n m o k w here asked [] u v fs a h.same matches is_term (ready_open a ready)

  -- what stands at the place
  data Where (q : AtPlace) : Type 0 where
    is_same : q.inner ≡ [] → a ≡ q.y → Private p n m (ground_of w) a → Where q
    is_asleep : q.inner ≡ [] → SleepsAlike p n m w asked (road q.outer) a q.y → Where q
    is_called : IsCall p n m o w (road q.outer ∷ here) (plug q.inner a) q.y
        → plug (trodden q.round) q.y ≡ plug q.round q.y → Where q

  by_ready : (q : AtPlace) → plug (trodden q.round) q.y ≡ plug q.round q.y → q.inner ≡ []
      → ((plug q.inner a ≡ q.y) × Private p n m (ground_of w) (plug q.inner a))
      ⊎ (SleepsAlike p n m w asked (road q.outer) (plug q.inner a) q.y
      ⊎ IsCall p n m o w (road q.outer ∷ here) (plug q.inner a) q.y)
      → Where q
  by_ready q before i (inl z) =
      let e : plug q.inner a ≡ a = ap (λ x. plug x a) i in
      is_same i (sym e ∙ z.0) (subst (Private p n m (ground_of w)) e z.1)
  by_ready q before i (inr (inl z)) =
      is_asleep i
      (subst (λ x. SleepsAlike p n m w asked (road q.outer) x q.y) (ap (λ x. plug x a) i) z)
  by_ready q before i (inr (inr z)) = is_called z before

  by_place : (q : AtPlace)
      → ((q.inner ≡ []) × (a ≡ q.y) × Private p n m (ground_of w) a)
      ⊎ (plug (trodden q.round) q.y ≡ plug q.round q.y)
      → (q.inner ≡ []) ⊎ IsCall p n m o w (road q.outer ∷ here) (plug q.inner a) q.y → Where q
  by_place q (inl z) c = is_same z.0 z.1 z.2
  by_place q (inr before) (inr c) = is_called c before
  by_place q (inr before) (inl i) =
      by_ready q before i
      (ready_match p n m o w here asked (road q.outer) (plug q.inner a) q.y q.matches
      (subst Ready (sym (ap (λ x. plug x a) i)) ready))

  where_is : Where q
  where_is = by_place q (q.as_before ready) q.at_call

  -- a step
  module _ (inner : Bool) (beside : List Thread) (pick : Pick) (b : Term) (d : Effect) (loc : ℕ)
      (is_pick : pick ≡ Step (path_to fs) (location loc)) (one : Local p inner loc a b d)
      (f : FitsAll d s) (small : MakesWithinBounds d) (fine : ThrowsFinely n m o (plug
      (trodden fs) b)) where
    abbrev Stepping : Type 0
    Stepping = PickAlike p n m o k inner w here beside standing_all asked s t pick v
        (plug (trodden fs) b) d

    stepped_at : (q : AtPlace) → Where q → Stepping
    stepped_at q (is_same i e pa) =
        step_alike p n m o k g h w here standing_all asked s t v a fs q free inner beside pick b
        d loc stores grown i e pa is_pick one f small fine
    stepped_at q (is_asleep i z) =
        absurd (asleep_no_step p inner loc a b d z.marks z.body z.is_form one)
    stepped_at q (is_called c before) =
        call_alike p n m o k g h w here standing_all asked s t v a fs q free grown inner
        beside pick b
        d stores c before (a_step loc is_pick one f) small fine

    pub step_one : Stepping
    step_one = stepped_at q where_is

  -- an attempt, whose inner run is one of the machine with threads wherever it stands
  module _ (inner : Bool) (beside : List Thread) (pick : Pick) (b : Term) (d d1 : Effect)
      (md : Mode) (body : Term) (within : List Pick) (ended : Ended)
      (is_pick : pick ≡ Attempt (path_to fs) within) (form : Form a md body) (bare : Bare body)
      (may : MayBe p k beside standing_all s t u fs a)
      (run : machine.Runs p true true s within body ended d1)
      (inside : (spot : Spot) → Private p n m (ground_of w) body
      → GoesAlike p n m o k w spot standing_all [] s t within body ended d1)
      (close : Closes p md body ended d1 b d) (small : MakesWithinBounds d)
      (fine : ThrowsFinely n m o (plug (trodden fs) b))
    where
      abbrev Trying : Type 0
      Trying = PickAlike p n m o k inner w here beside standing_all asked s t pick v
          (plug (trodden fs) b) d

      fits : FitsAll d1 s
      fits = runs_fit s within body ended d1 run

      tried_at : (q : AtPlace) → Where q → Trying
      tried_at q (is_same i e pa) =
          same_tried p n m o k g h w here standing_all asked s t u v a fs q free inner
          beside pick
          b d d1 stores grown matches is_term i md body within ended is_pick form bare may fits
          (inside (road q.outer ∷ here) (form_private a body md form pa)) close fine e pa
      tried_at q (is_asleep i z) =
          slept_tried p n m o k g h w here standing_all asked s t u v a fs q free inner beside
          pick b d d1 stores grown matches is_term i md body within ended is_pick form bare may
          fits
          (inside (road q.outer ∷ here)
          (form_asleep p n m (ground_of w) a md body z.marks z.body form z.is_form z.private_body))
          close fine z
      tried_at q (is_called c before) =
          call_alike p n m o k g h w here standing_all asked s t v a fs q free grown inner
          beside pick b
          d stores c before (an_attempt md body within ended d1 is_pick form bare run close)
          small fine

      pub try_one : Trying
      try_one = tried_at q where_is

  -- a step of `abort()`, which ends an attempt's machine
  module _ (acts : Acts p a ends) where
    abbrev Stopping : Type 0
    Stopping = GoesAlike p n m o k w here standing_all asked s t
        (Step (path_to fs) (location 0) ∷ []) v aborts (paid 1)

    stopped_same : (q : AtPlace) → q.inner ≡ [] → a ≡ q.y → Private p n m (ground_of w) a
        → Stopping
    stopped_same q i e pa = record {
      told = Step (path_to fs) (location 0) ∷ [];
      are_told = told.step (path_to fs) (location 0) told.none;
      ended = aborts;
      done = only (paid 1);
      runs =
          threads.Runs.stop q.round refl
          (ap (λ r. Step (record { 0 = r }) (location 0) ∷ []) (sym way)) q.is_term
          (q.reached free)
          q.outside
          (λ j. private_not_own p n m o k (ground_of w) q.y h.same
          (λ z. subst (Private p n m (ground_of w)) e pa) j)
          (subst (λ x. Acts p x ends) e acts) refl refl;
      later = w;
      follows = follows_self here w;
      asked_later = asked;
      end_alike = tt;
      do_alike = record {
        same = λ l j. refl;
        newly_made = (idle_alike w).newly_made;
        nothing_else = λ l j. inl refl;
        lasting = λ l z. refl;
        output = refl;
        unended = λ l f z. (z, refl);
      };
      stores = subst (λ us. AreStores p n m w us s t) (sym (append-nil standing_all)) stores;
      queued = none_queued w w refl refl refl;
      bounded = bounded_paid 1;
      finds = λ pv z. finds_paid m w (paid 1) 1 refl;
    }
      where
        way : road q.round ≡ road fs
        way =
            q.same_road ∙ sym (ap road (append-nil q.outer))
            ∙ sym (ap (λ j. road (q.outer ++ j)) i) ∙ sym (ap road q.are_all)

    stopped_at : (q : AtPlace) → Where q → Stopping
    stopped_at q (is_same i e pa) = stopped_same q i e pa
    stopped_at q (is_asleep i z) =
        let e : ends ≡ stuck = stuck_acts p a ends
        (asleep_stuck p a z.marks z.body z.is_form) acts in absurd cc
    stopped_at q (is_called c before) =
        let free_inside = passed_behind q.outer q.inner a
        (subst (λ gs. passed gs a ≡ false) q.are_all free) in
        let z = each_call_is_answered p n m o k g h.prelude h.same h.apart w here asked
        (road q.outer) standing_all s t true false (Step (path_to q.inner) (location 0))
        (plug q.inner a) q.y aborts (paid 1) grown stores c
        (machine.Runs.stop q.inner refl refl refl free_inside acts refl refl)
        (bounded_paid 1) in
        let e : aborts ≡ goes z.0 = z.1 in absurd cc

    pub stop_one : Stopping
    stop_one = stopped_at q where_is
