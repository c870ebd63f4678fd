-- Picks within calls of `wait`, `val` and `ready`, answered.
use Rattle.std.proofs.Common.{◌≡◌, ℕ, ◌+◌, ◌==◌, ◌<◌, ◌≤◌, Bool, true, false, not, List, [], ◌∷◌, Option, Some, None, is_some, option_map, pos, arith, rules, refl, ap, sym, ◌∙◌, subst}
use Rattle.fort_core.specs.declared.form.Mode.TheVariants as mode
use Rattle.fort_core.specs.declared.pick.Pick.{Pick}
use Rattle.fort_core.specs.declared.program.Program.{Program}
use Rattle.fort_core.specs.declared.term.Term.{Term, Call, Atomic, Asleep, out-Term}
use Rattle.fort_core.specs.declared.term.Term as term
use Rattle.fort_core.specs.declared.term.Term.TheVariants.{outs-Atomic, outs-Asleep}
use Rattle.fort_core.specs.declared.value.Value.{Value, Small, Truth}
use Rattle.fort_machine.specs.Acts.{unit}
use Rattle.fort_machine.specs.Attempts.{Form, slept, Ended}
use Rattle.fort_machine.specs.Effects.{Store, Effect, reading, FitsAll}
use Rattle.fort_machine.specs.Ends.{throw_of}
use Rattle.fort_machine.specs.Marked.{Marks, In}
use Rattle.fort_machine.specs.Runs.{Runs}
use Rattle.fort_machine.proofs.Runs.{runs_fit}
use Rattle.fort_threads.specs.Known.{Known, IsBody, object_at}
use Rattle.fort_threads.specs.Moves as moves
use Rattle.fort_threads.specs.Moves.{OwnStep}
use Rattle.fort_threads.specs.Threads.{Paths, Thread, end_of}
use Rattle.fort_threads_law_servers.specs.Prelude.{Names, object_of, waiting, HasPrelude}
use Rattle.fort_threads_law_servers.specs.Calls.{getting, asking, mark_at, Place, waits, calls_wait, waits_in, has_waited, has_failed, reads_mark, compares, is_told, reads_thrown, has_thrown, reads_kept, asks_mark, compares_mark, has_come, place_term, HasMark, IsPlace, Asks, given as given_term, Turns}
use Rattle.fort_threads_law_servers.specs.Roots.{Start}
use Rattle.fort_threads_law_servers.specs.Stages.{End, at_value, at_throw, end_term, kept_value, mark_of, Attempted}
use Rattle.fort_threads_law_servers.proofs.Calling.{each_call_follows}
use Rattle.fort_threads_law_private.specs.Private.{Private}
use Rattle.fort_threads_law_private.proofs.Values.{term_private, thrown_private, truth_private, unit_private}
use Rattle.fort_threads_law_worlds.specs.Worlds.{Spot, for_all, given, object, World, ground_of, IsGiven, HasCome}
use Rattle.fort_threads_law_worlds.specs.Known.{Own, AreSame}
use Rattle.fort_threads_law_worlds.specs.Stores.{mark, AreStores}
use Rattle.fort_threads_law_worlds.proofs.Following.{same_part, same_given}
use Rattle.fort_threads_law_matches.specs.Matches.{Matches, same, under_way, ahead}
use Rattle.fort_threads_law_matches.specs.Ways as ways
use Rattle.fort_threads_law_matches.specs.Ways.{WatchesMark, Gets, IsUnderWay, IsAhead}
use Rattle.fort_threads_law_calls.specs.Answers.{AnswersCall}
use Rattle.fort_threads_law_calls.proofs.Going.{Goes, place_goes}
use Rattle.fort_threads_law_calls.proofs.Quiet.{Quiet, quiet_is, quiet_paid, quiet_reading, quiet_completed, quiet_aborted, read_there, Unkept}
use Rattle.fort_threads_law_calls.proofs.Waiting as waiting_for
use Rattle.fort_threads_law_calls.proofs.Waiting.{Waited, waits_on, waited}
use Rattle.fort_threads_law_calls.proofs.Answering.{some_same, small_same, same_object, mark_few, has_mark, mark_tells, was_there, nothing_done, step_done, Answer, part_shut, part_passing}

fresh_never : (form body : Term) (ms : Marks) (other : Term) → form ≡ Atomic mode.Atomic body
    → form ≡ Asleep ms other → ⊥
fresh_never form body ms other a b =
    let z = sym (outs-Atomic mode.Atomic body) ∙ ap out-Term (sym a ∙ b) ∙ outs-Asleep ms other in
    absurd cc

marks_same : (a b : Marks) (x y : Term) → Asleep a x ≡ Asleep b y → a ≡ b
marks_same a b x y e =
    let z = sym (outs-Asleep a x) ∙ ap out-Term e ∙ outs-Asleep b y in let q : a ≡ b = cc in q

module _ (p : Program) (n : Names) (m : Start) (o : Own) (k : Known) (has : HasPrelude p n)
    (are : AreSame p n m o k) (w : World) (here : Spot) (asked : Paths) (path : List ℕ)
    (standing : List Thread) (s t : Store) (h : AreStores p n m w standing s t) (l : ℕ)
    (known : IsGiven w l) (v : Term) (pick : Pick) where
  abbrev spot : Spot
  spot = path ∷ here

  abbrev Answers : Term → Effect → Type 0
  Answers later d = AnswersCall p n m o k w here asked path standing s t v later d

  abbrev end : Option End
  end = known.1

  shut : (place : ℕ) → place < 4 → w.serves (l + place) ≡ for_all → ⊥
  shut place i = part_shut h l place known i

  passing : (place : ℕ) → place < 4 → w.lasts (l + place) ≡ true → ⊥
  passing place i = part_passing h l place known i

  one_less : 1 < 4
  one_less = omega arith

  two_less : 2 < 4
  two_less = omega arith

  -- the place of its mark is none where an end is kept; the next one is, of the end that came
  mark_unkept : Unkept w (l + 1)
  mark_unkept j f q z =
      let y = (same_part (sym (h.parts l _ known.2 1 one_less) ∙ ap w.serves z
      ∙ h.parts j _ q 2 two_less)).1 in
      let b : 1 ≡ 2 = y in omega arith

  kept_unkept : (fin : End) → HasCome w l fin → Unkept w (l + 2)
  kept_unkept fin c j f q z =
      let y = (same_part (sym (h.parts l _ c.1 2 two_less) ∙ ap w.serves z
      ∙ h.parts j _ q 2 two_less)).0 in
      let b : None ≡ Some fin = (same_given (ap w.object y ∙ q) c.1).1 in absurd cc

  -- its mark
  marked : s (l + 1) ≡ Some (Small (pos (mark end)))
  marked = (h.marked l known.0 end known.2).0

  ends : end_of standing l ≡ option_map end_term end
  ends = (h.marked l known.0 end known.2).1

  pub small_mark : HasMark s l
  small_mark = (mark end, mark_few end, marked)

  same_end : (fin : End) → HasCome w l fin → end ≡ Some fin
  same_end fin c = (same_given known.2 c.1).1

  has_ended : (fin : End) → HasCome w l fin → end_of standing l ≡ Some (end_term fin)
  has_ended fin c = ends ∙ ap (option_map end_term) (same_end fin c)

  come : (fin : End) → end ≡ Some fin → HasCome w l fin
  come fin e = (known.0, known.2 ∙ ap (λ x. Some (object known.0 (given x))) e)

  -- what a read of the mark has read
  mark_read : (q : ℕ) (d : Effect) → d ≡ reading (l + 1) (Small (pos q)) → FitsAll d s
      → q ≡ mark end
  mark_read q d e f =
      small_same q (mark end)
      (some_same _ _ (sym (was_there s (l + 1) (Small (pos q)) e f) ∙ marked))

  -- a read of the value that was kept
  kept_read : (fin : End) (x : Value) (d : Effect) → HasCome w l fin → d ≡ reading (l + 2) x
      → FitsAll d s → x ≡ kept_value fin
  kept_read fin x d c e f =
      some_same x (kept_value fin)
      (sym (was_there s (l + 2) x e f) ∙ (h.kept l c.0 fin c.1).0)

  -- ---- attempts of `wait`

  -- where it goes on to sleep, and where it completes
  waited_it : (b : Term) (d : Effect) (u : Term) (more : Term → Term) → u ≡ more b
      → Attempted p s (waiting n l) b d
      → ((form : Term) → u ≡ more form → Form form mode.Atomic (waiting n l)
      → WatchesMark l form → Quiet w s d → Answers u d)
      → ((fin : End) → HasCome w l fin → u ≡ more (term.Value unit) → Quiet w s d → Answers u d)
      → Answers u d
  waited_it b d u more e a sleeps comes =
      by_end (waited p n has s l (mark end) b d (mark_few end) marked a)
    where
      by_end : Waited p n has l (mark end) b d → Answers u d
      by_end (waits_on ms z eb ed r) =
          sleeps (Asleep ms (waiting n l)) (e ∙ ap more eb) (slept ms refl refl) watches
          (quiet_is ed
          (quiet_aborted (l + 1) (Small (pos (mark end))) (shut 1 one_less) (passing 1 one_less)
          mark_unkept))
        where
          zero_mark : mark end ≡ 0
          zero_mark = let y : mark end ≡ 0 = search (rules, z) in y

          is_in : In (l + 1) (Small (pos (mark end))) ms
          is_in =
              r.are_all (l + 1) (Small (pos (mark end))) None
              (read_there (l + 1) (Small (pos (mark end))))

          watches : WatchesMark l (Asleep ms (waiting n l))
          watches others body q =
              subst (In (l + 1) (Small (pos 0))) (marks_same ms others (waiting n l) body q)
              (subst (λ x. In (l + 1) (Small (pos x)) ms) zero_mark is_in)
      by_end (waiting_for.Waited.has_waited z eb ed) =
          let c = has_mark end z in
          comes c.0 (come c.0 c.1) (e ∙ ap more eb)
          (quiet_is ed
          (quiet_completed (l + 1) (Small (pos (mark end))) (shut 1 one_less) (passing 1 one_less)
          mark_unkept))

  -- ---- `wait`

  module _ (is_form : v ≡ Atomic mode.Atomic (waiting n l)) where
    wait_body : IsBody p k.wait (object_at k l ∷ []) v
    wait_body =
        subst (λ x. IsBody p k.wait (x ∷ []) v) (same_object are l)
        (subst (IsBody p k.wait (object_of n l ∷ [])) (sym is_form) (are.waits l))

    wait_of : (form : Term) (next : Place) (u : Term) (d : Effect) → u ≡ place_term n next
        → Turns p n s pick d (waits l form) next
        → (b : Term) × (u ≡ b) × Attempted p s (waiting n l) b d
    wait_of form (waits i b) u d e q = (b, e, q.1)
    wait_of form (has_come b) u d e q = (b, e, q)
    wait_of form _ u d e q = absurd q

    pub waiting_answered : {inner strict : Bool} {r : Ended} {d : Effect} (form : Term)
        → Form form mode.Atomic (waiting n l)
        → Runs p inner strict s (pick ∷ []) form r d
        → Answer p n m o k w here asked path standing s t v r d
    waiting_answered {r = r} {d = d} form q run =
        let g = place_goes p n has (waits l form) q tt run in
        let j = each_call_follows p n has s pick (waits l form) g.next d q tt g.run in
        let a = wait_of form j.0 g.next d j.2 j.3 in
        record {
          later = g.next;
          going = g.going;
          answer = waited_it a.0 d g.next (λ x. x) a.1 a.2
              (λ b e f watch quiet.
              nothing_done h quiet
              (under_way (ways.IsUnderWay.waits l known
              (subst (λ x. Form x mode.Atomic (waiting n l)) (sym e) f)
              (subst (WatchesMark l) (sym e) watch) is_form)))
              (λ fin c e quiet.
              step_done h quiet
              (moves.OwnStep.waits l (end_term fin) wait_body (has_ended fin c) refl refl refl)
              (same e (subst (Private p n m (ground_of w)) (sym e)
              (term_private unit_private))));
        }

  -- ---- `val`

  module _ (is_form : v ≡ getting n l (Call n.wait (term.Value (object_of n l) ∷ []))) where
    get_body : IsBody p k.val (object_at k l ∷ []) v
    get_body =
        subst (λ x. IsBody p k.val (x ∷ []) v) (same_object are l)
        (subst (IsBody p k.val (object_of n l ∷ [])) (sym is_form) (are.gets l))

    goes_on : (place : Place) (later : Term) → Gets n w l place → later ≡ place_term n place
        → Matches p n m o w here asked path later v
    goes_on place later q e = under_way (ways.IsUnderWay.gets l place known q e is_form)

    -- a step that the machine with threads doesn't take
    onward : (place : Place) (later : Term) (d : Effect) → Quiet w s d → Gets n w l place
        → later ≡ place_term n place → Answers later d
    onward place later d quiet q e = nothing_done h quiet (goes_on place later q e)

    -- the last one
    got_it : (fin : End) (later : Term) (d : Effect) → HasCome w l fin → Quiet w s d
        → later ≡ end_term fin → Answers later d
    got_it fin later d c quiet e =
        step_done h quiet
        (moves.OwnStep.gets l (end_term fin) get_body (has_ended fin c) refl refl refl)
        (same e (subst (Private p n m (ground_of w)) (sym e) (end_private fin c)))
      where
        end_private : (fin : End) → HasCome w l fin → Private p n m (ground_of w) (end_term fin)
        end_private (at_value x) c = term_private (h.kept l c.0 (at_value x) c.1).1
        end_private (at_throw x) c = thrown_private (h.kept l c.0 (at_throw x) c.1).1

    wait_in : (form : Term) (next : Place) (u : Term) (d : Effect) → u ≡ place_term n next
        → Turns p n s pick d (waits_in l form) next
        → (b : Term) × (u ≡ getting n l b) × Attempted p s (waiting n l) b d
    wait_in form (waits_in i b) u d e q = (b, e ∙ ap (λ j. getting n j b) q.0, q.1)
    wait_in form (has_waited i x) u d e q =
        (term.Value x, e ∙ ap (λ j. getting n j (term.Value x)) q.0, q.1)
    wait_in form (has_failed i x) u d e q =
        (throw_of x, e ∙ ap (λ j. getting n j (throw_of x)) q.0, q.1)
    wait_in form _ u d e q = absurd q

    throws_two : (fin : End) → (mark_of fin == 2) ≡ true → (x : Value) × (fin ≡ at_throw x)
    throws_two (at_value x) e = let z : false ≡ true = e in absurd cc
    throws_two (at_throw x) e = (x, refl)

    keeps_one : (fin : End) → (mark_of fin == 2) ≡ false → (x : Value) × (fin ≡ at_value x)
    keeps_one (at_value x) e = (x, refl)
    keeps_one (at_throw x) e = let z : true ≡ false = e in absurd cc

    by_place : (place : Place) (u : Term) (d : Effect) → Gets n w l place
        → (next : Place) → IsPlace n next → u ≡ place_term n next
        → Turns p n s pick d place next → FitsAll d s → Answers u d
    by_place (calls_wait i) u d q (waits_in j form) c e z fit =
        onward (waits_in l form) u d (quiet_is z.2 (quiet_paid w s 1)) (
          refl,
          subst (λ x. Form form mode.Atomic (waiting n x)) (z.0 ∙ q) c,
          λ ms body r. absurd (fresh_never form _ ms body z.1 r),
        )
        (e ∙ ap (λ x. getting n x form) (z.0 ∙ q))
    by_place (calls_wait i) u d q _ c e z fit = absurd z
    by_place (waits_in i form) u d q next c e z fit =
        let z' = subst (λ x. Turns p n s pick d (waits_in x form) next) q.0 z in
        let a = wait_in form next u d e z' in
        waited_it a.0 d u (getting n l) a.1 a.2
        (λ b r f watch quiet. onward (waits_in l b) u d quiet (refl, f, watch) r)
        (λ fin y r quiet. onward (has_waited l unit) u d quiet (refl, (fin, y)) r)
    by_place (has_waited i x) u d q (reads_mark j) c e z fit =
        onward (reads_mark l) u d (quiet_is z.1 (quiet_paid w s 1)) (refl, q.1)
        (e ∙ ap (λ x. place_term n (reads_mark x)) (z.0 ∙ q.0))
    by_place (has_waited i x) u d q _ c e z fit = absurd z
    by_place (reads_mark i) u d q (compares j r) c e z fit =
        let read : d ≡ reading (l + 1) (Small (pos r)) =
        z.1 ∙ ap (λ x. reading (x + 1) (Small (pos r))) q.0 in
        let y = mark_read r d read fit in
        onward (compares l r) u d
        (quiet_is read
        (quiet_reading (l + 1) (Small (pos r)) (shut 1 one_less) (passing 1 one_less)
        mark_unkept))
        (refl, (q.1.0, q.1.1, y ∙ ap mark (same_end q.1.0 q.1.1)))
        (e ∙ ap (λ x. place_term n (compares x r)) (z.0 ∙ q.0))
    by_place (reads_mark i) u d q _ c e z fit = absurd z
    by_place (compares i r) u d q (is_told j b) c e z fit =
        onward (is_told l b) u d (quiet_is z.2 (quiet_paid w s 1))
        (refl, (q.1.0, q.1.1, z.1 ∙ ap (λ x. x == 2) q.1.2))
        (e ∙ ap (λ x. place_term n (is_told x b)) (z.0 ∙ q.0))
    by_place (compares i r) u d q _ c e z fit = absurd z
    by_place (is_told i true) u d q (reads_thrown j) c e z fit =
        let y = throws_two q.1.0 (sym q.1.2) in
        onward (reads_thrown l) u d (quiet_is z.1 (quiet_paid w s 1))
        (refl, (y.0, subst (HasCome w l) y.1 q.1.1))
        (e ∙ ap (λ x. place_term n (reads_thrown x)) (z.0 ∙ q.0))
    by_place (is_told i true) u d q _ c e z fit = absurd z
    by_place (is_told i false) u d q (reads_kept j) c e z fit =
        let y = keeps_one q.1.0 (sym q.1.2) in
        onward (reads_kept l) u d (quiet_is z.1 (quiet_paid w s 1))
        (refl, (y.0, subst (HasCome w l) y.1 q.1.1))
        (e ∙ ap (λ x. place_term n (reads_kept x)) (z.0 ∙ q.0))
    by_place (is_told i false) u d q _ c e z fit = absurd z
    by_place (reads_thrown i) u d q (has_thrown x) c e z fit =
        let read : d ≡ reading (l + 2) x = z ∙ ap (λ y. reading (y + 2) x) q.0 in
        let y = kept_read (at_throw q.1.0) x d q.1.1 read fit in
        onward (has_thrown x) u d
        (quiet_is read (quiet_reading (l + 2) x (shut 2 two_less) (passing 2 two_less)
        (kept_unkept (at_throw q.1.0) q.1.1)))
        (subst (λ v. HasCome w l (at_throw v)) (sym y) q.1.1) e
    by_place (reads_thrown i) u d q _ c e z fit = absurd z
    by_place (has_thrown x) u d q (has_come b) c e z fit =
        let y = h.exceptions l q.0 x q.1 in
        got_it (at_throw x) u d q (quiet_is z.1 (quiet_paid w s 1))
        (e ∙ z.0 ∙ ap (λ b. given_term b x) y)
    by_place (has_thrown x) u d q _ c e z fit = absurd z
    by_place (reads_kept i) u d q (has_come b) c e z fit =
        let read : d ≡ reading (l + 2) z.0 = z.2 ∙ ap (λ y. reading (y + 2) z.0) q.0 in
        let y = kept_read (at_value q.1.0) z.0 d q.1.1 read fit in
        got_it (at_value q.1.0) u d q.1.1
        (quiet_is read (quiet_reading (l + 2) z.0 (shut 2 two_less) (passing 2 two_less)
        (kept_unkept (at_value q.1.0) q.1.1)))
        (e ∙ z.1 ∙ ap term.Value y)
    by_place (reads_kept i) u d q _ c e z fit = absurd z
    by_place _ u d q next c e z fit = absurd q

    pub getting_answered : {inner strict : Bool} {r : Ended} {d : Effect} (place : Place)
        → Gets n w l place → Runs p inner strict s (pick ∷ []) (place_term n place) r d
        → Answer p n m o k w here asked path standing s t v r d
    getting_answered {r = r} {d = d} place q run =
        let fit = runs_fit s (pick ∷ []) (place_term n place) r d run in
        let c = is_place place q in
        let g = place_goes p n has place c (goes_by place q) run in
        let j = each_call_follows p n has s pick place g.next d c (asks_of place q) g.run in
        record {
          later = g.next;
          going = g.going;
          answer = by_place place g.next d q j.0 j.1 j.2 j.3 fit;
        }
      where
        mark_small : (fin : End) → mark_of fin ≤ 64
        mark_small (at_value x) = omega arith
        mark_small (at_throw x) = omega arith

        is_place : (y : Place) → Gets n w l y → IsPlace n y
        is_place (calls_wait i) q = tt
        is_place (waits_in i form) q =
            subst (λ x. Form form mode.Atomic (waiting n x)) (sym q.0) q.1
        is_place (has_waited i x) q = tt
        is_place (reads_mark i) q = tt
        is_place (compares i x) q = subst (λ y. y ≤ 64) (sym q.1.2) (mark_small q.1.0)
        is_place (is_told i b) q = tt
        is_place (reads_thrown i) q = tt
        is_place (has_thrown x) q = tt
        is_place (reads_kept i) q = tt
        is_place _ q = absurd q

        goes_by : (y : Place) → Gets n w l y → Goes y
        goes_by (calls_wait i) q = tt
        goes_by (waits_in i form) q = tt
        goes_by (has_waited i x) q = tt
        goes_by (reads_mark i) q = tt
        goes_by (compares i x) q = tt
        goes_by (is_told i b) q = tt
        goes_by (reads_thrown i) q = tt
        goes_by (has_thrown x) q = tt
        goes_by (reads_kept i) q = tt
        goes_by _ q = absurd q

        asks_of : (y : Place) → Gets n w l y → Asks s y
        asks_of (calls_wait i) q = tt
        asks_of (waits_in i form) q = tt
        asks_of (has_waited i x) q = tt
        asks_of (reads_mark i) q = subst (HasMark s) (sym q.0) small_mark
        asks_of (compares i x) q = tt
        asks_of (is_told i b) q = tt
        asks_of (reads_thrown i) q = tt
        asks_of (has_thrown x) q = tt
        asks_of (reads_kept i) q = tt
        asks_of _ q = absurd q

  -- ---- `ready`

  module _ (is_form : v ≡ asking n (mark_at n l)) where
    ask_body : IsBody p k.ready (object_at k l ∷ []) v
    ask_body =
        subst (λ x. IsBody p k.ready (x ∷ []) v) (same_object are l)
        (subst (IsBody p k.ready (object_of n l ∷ [])) (sym is_form) (are.asks l))

    asked_it : (next : Place) (u : Term) (d : Effect) → IsPlace n next → u ≡ place_term n next
        → Turns p n s pick d (asks_mark l) next → FitsAll d s → Answers u d
    asked_it (compares_mark q) u d c e z fit =
        let y = mark_read q d z fit in
        step_done h
        (quiet_is z
        (quiet_reading (l + 1) (Small (pos q)) (shut 1 one_less) (passing 1 one_less)
        mark_unkept))
        (moves.OwnStep.asks l ask_body refl refl refl)
        (ahead (Truth (not (q == 0))) (ways.IsAhead.has_looked q c e refl)
        (ap (λ b. term.Value (Truth b))
        (ap is_some ends ∙ mark_tells end_term end ∙ ap (λ x. not (x == 0)) (sym y)))
        (truth_private (not (q == 0))))
    asked_it _ u d c e z fit = absurd z

    pub asking_answered : {inner strict : Bool} {r : Ended} {d : Effect}
        → Runs p inner strict s (pick ∷ []) (asking n (mark_at n l)) r d
        → Answer p n m o k w here asked path standing s t v r d
    asking_answered {r = r} {d = d} run =
        let fit = runs_fit s (pick ∷ []) (asking n (mark_at n l)) r d run in
        let g = place_goes p n has (asks_mark l) tt tt run in
        let j = each_call_follows p n has s pick (asks_mark l) g.next d tt small_mark g.run in
        record {
          later = g.next;
          going = g.going;
          answer = asked_it j.0 g.next d j.1 j.2 j.3 fit;
        }
