-- The run of the root, pick by pick.
use Rattle.std.proofs.Common.{◌≡◌, ℕ, ◌+◌, ◌<◌, Bool, true, false, List, [], ◌∷◌, ◌++◌, Option, Some, None, refl, ap, sym, ◌∙◌, subst, append-nil, inl, inr, ◌⊎◌}
use Rattle.fort_core.specs.declared.pick.Pick.{Pick}
use Rattle.fort_core.specs.declared.program.Program.{Program}
use Rattle.fort_core.specs.declared.term.Term.{Term, Call, Let}
use Rattle.fort_core.specs.declared.term.Term as term
use Rattle.fort_core.specs.declared.term.Term.TheVariants.{outs-Call, outs-Let, outs-Then, outs-If}
use Rattle.fort_core.specs.declared.value.Value.{Value}
use Rattle.fort_machine.specs.Acts.{unit}
use Rattle.fort_machine.specs.Attempts.{Ended, goes}
use Rattle.fort_machine.specs.Effects.{Store, Effect, idle, paid, both, FitsAll, afterwards}
use Rattle.fort_machine.specs.Ends.{open_yet, standing_at, standing, throw_of, Finished}
use Rattle.fort_machine.specs.Ends as ends
use Rattle.fort_machine.specs.Journals.{opening_store, MakesWithinBounds}
use Rattle.fort_machine.specs.Journals as machine
use Rattle.fort_machine.specs.Proper.{Reached}
use Rattle.fort_machine.specs.RunLaws.{PickByPick, no_more, next as then_more, stopped, all_of}
use Rattle.fort_machine.specs.Runs.{Runs}
use Rattle.fort_machine.specs.Threads.{under}
use Rattle.fort_machine.proofs.Picks.{picks_add_up}
use Rattle.fort_machine.proofs.Runs.{runs_fit}
use Rattle.fort_machine.proofs.Standing.{not_finished, value_not_throw}
use Rattle.fort_machine.proofs.WholeEffects.{afterwards_both, both_fits, both_idle}
use Rattle.fort_threads.specs.Known.{Known}
use Rattle.fort_threads.specs.Machine.{Event, Goes, rests, goes_on, begun, ended as it_ended, IsRun, HaveEnded, alone}
use Rattle.fort_threads.specs.Threads.{Thread, over, thread}
use Rattle.fort_threads_law_servers.specs.Prelude.{Names, object_of}
use Rattle.fort_threads_law_servers.specs.Stages.{Stage, sent, Follows, End, at_value, at_throw, end_term}
use Rattle.fort_threads_law_servers.specs.Roots.{Start, Starts, Root, first_call, main_call, tests, told, sets_started, has_started, sets_open, has_open, makes_first, made_first, all, all_over, asks, ended, root_term, Served, Leads, ending}
use Rattle.fort_threads_law_servers.specs.Trees.{Tree, Grows, unread}
use Rattle.fort_threads_law_servers.proofs.Rooted.{Early, loosened, root_pick, early_next}
use Rattle.fort_threads_law_private.specs.Grounds.{Ground}
use Rattle.fort_threads_law_worlds.specs.Worlds.{World}
use Rattle.fort_threads_law_worlds.specs.Known.{Own}
use Rattle.fort_threads_law_queue.specs.Attempts.{IsSilent}
use Rattle.fort_threads_law_runs.specs.Premises.{IsThreaded}
use Rattle.fort_threads_law_runs.proofs.Bounded.{bounded_idle, bounded_first, bounded_second}
use Rattle.fort_threads_law_trees.specs.Leaves.{leaves, yet, AreCalm}
use Rattle.fort_threads_law_whole.specs.Servers.{HasEnd, IsEnd}
use Rattle.fort_threads_law_whole.specs.Roots.{GoAlike, GoesOnAlike}
use Rattle.fort_threads_law_whole.specs.Early.{IsBeginning, IsEarly, IsEarlyRoot, GoesEarly, EarlyGoesOn, AllBegins}
use Rattle.fort_threads_law_whole.specs.Whole.{IsThreadedRun, EachRunIsThreaded}
use Rattle.fort_threads_law_whole.proofs.Joining.{goes_join, goes_fit, both_bounded}
use Rattle.fort_threads_law_whole.proofs.Last.{Gets, is_called, last_goes, last_is}
use Rattle.fort_threads_law_whole.proofs.Over.{IsAllOver, over_alike}
use Rattle.fort_threads_law_whole.proofs.Rooting.{PickLaws, AllPick, calm_grows, tree_goes, go_goes}

-- how the root ends, by the end of thread 0
abbrev IsLast : End → Term → Type 0
IsLast (at_value v) x = x ≡ term.Value unit
IsLast (at_throw v) x = x ≡ throw_of v

-- both machines at a root's place
abbrev IsAlike : Program → Names → Start → Own → Ground → Root → Store → Store → List Thread → Type 0
IsAlike p n m o g (all l a stage b tree) s t now =
    ((w : World) × GoAlike p n m o g w l stage (leaves [] tree) (yet tree) now s t) × AreCalm tree
IsAlike p n m o g (all_over l x) s t now = (x ≡ term.Value unit) × IsAllOver p n s l now
IsAlike p n m o g (asks u) s t now =
    (l : ℕ) × ((x : IsAllOver p n s l now) × Gets n l x.end u)
IsAlike p n m o g (ended x) s t now =
    (end : End) × IsLast end x × HaveEnded now (end_term end)
IsAlike p n m o g root s t now = IsEarly p n m o root s t now

record GoesRoot (p : Program) (n : Names) (m : Start) (o : Own) (k : Known) (g : Ground)
    (next : Root) (now : List Thread) (s t : Store) (d : Effect) : Type 0 where
  events : List Event
  later : List Thread
  effect : Effect
  goes : Goes p k now t events later effect
  bounded : MakesWithinBounds effect
  same_output : effect.output ≡ d.output
  alike : IsAlike p n m o g next (afterwards d s) (afterwards effect t) later

-- where nothing happens in the machine with threads
nothing : {p : Program} {n : Names} {m : Start} {o : Own} {k : Known} {g : Ground} {next : Root}
    {now : List Thread} {s t : Store} {d : Effect} → d.output ≡ []
    → IsAlike p n m o g next (afterwards d s) t now → GoesRoot p n m o k g next now s t d
nothing {now = now} e x =
    record {
      events = [];
      later = now;
      effect = idle;
      goes = rests refl refl refl;
      bounded = bounded_idle;
      same_output = sym e;
      alike = x;
    }

-- a store that is as before holds the same
holds_still : (p : Program) (n : Names) (s : Store) (l : ℕ) (d : Effect) (end : End) → IsSilent d s
    → HasEnd p n s l end → HasEnd p n (afterwards d s) l end
holds_still p n s l d end q h =
    (q.leaves_all (l + 1) ∙ h.0, q.leaves_all (l + 2) ∙ h.1, h.2)

abbrev over_still : (p : Program) (n : Names) (s : Store) (l : ℕ) (now : List Thread) (d : Effect)
    → IsSilent d s → (x : IsAllOver p n s l now) → IsAllOver p n (afterwards d s) l now
over_still p n s l now d q x =
    record {
      end = x.end;
      holds = holds_still p n s l d x.end q x.holds;
      have_ended = x.have_ended;
    }

paid_still : (s : Store) (d : Effect) → d ≡ paid 1 → IsSilent d s
paid_still s d e =
    record {
      prints_nothing = ap (λ x. x.output) e;
      leaves_all = λ k. ap (λ x. afterwards x s k) e;
    }

-- the picks of a run suit its store
pick_fits : {p : Program} {picks : List Pick} {x : Term} {end : Ended} {effects : List Effect}
    (s : Store) → PickByPick p false true s picks x end effects → FitsAll (all_of effects) s
pick_fits s (no_more a b c) = subst (λ es. FitsAll (all_of es) s) (sym c) (λ l. tt)
pick_fits {x = x} s (then_more {u = z} {others = others} pick d a run more c) =
    subst (λ es. FitsAll (all_of es) s) (sym c)
    (both_fits d (all_of others) s (runs_fit s (pick ∷ []) x (goes z) d run)
    (pick_fits (afterwards d s) more))
pick_fits {x = x} s (stopped pick d a run b c) =
    subst (λ es. FitsAll (all_of es) s) (sym c)
    (subst (λ y. FitsAll y s) (sym (both_idle d))
    (runs_fit s (pick ∷ []) x Rattle.fort_machine.specs.Attempts.aborts d run))

-- the laws of how a run begins
pub record EarlyLaws : Type 0 where
  pub early : EarlyGoesOn
  pub begins_all : AllBegins

module _ (laws : PickLaws) (first_laws : EarlyLaws) (p : Program) (n : Names) (m : Start) (o : Own)
    (k : Known) (g : Ground) (is : IsThreaded p n m o k g) (begins : IsBeginning p n m k g)
    (starts : Starts p n m) where
  module _ (s t : Store) (pick : Pick) (d : Effect) (now : List Thread) (fits : FitsAll d s)
      (bounded : MakesWithinBounds d) where
    abbrev Answered : Root → Type 0
    Answered next = GoesRoot p n m o k g next now s t d

    abbrev RunTo : Root → Root → Type 0
    RunTo root next = Runs p false true s (pick ∷ []) (root_term n m root) (goes (root_term n m next)) d

    by_early : (root next : Root) → IsEarly p n m o root s t now → IsEarlyRoot next
        → Leads p n m s pick d root next → RunTo root next → GoesEarly p n m o k next now s t d
    by_early root next h e q run =
        first_laws.early p n m o k g is begins starts root next now s t pick d h e q (loosened run)
        fits bounded

    -- what is early is so
    early_is : (next : Root) → IsEarlyRoot next → GoesEarly p n m o k next now s t d → Answered next
    early_is next e x = by_root next e x.early
      where
        with_it : (r : Root) → IsAlike p n m o g r (afterwards d s) (afterwards x.effect t) x.later
            → GoesRoot p n m o k g r now s t d
        with_it r y =
            record {
              events = x.events;
              later = x.later;
              effect = x.effect;
              goes = x.goes;
              bounded = x.bounded;
              same_output = x.same_output;
              alike = y;
            }

        by_root : (r : Root) → IsEarlyRoot r
            → IsEarly p n m o r (afterwards d s) (afterwards x.effect t) x.later
            → GoesRoot p n m o k g r now s t d
        by_root (all l a stage b tree) z y = absurd z
        by_root (all_over l u) z y = absurd z
        by_root (asks u) z y = absurd z
        by_root (ended u) z y = absurd z
        by_root first_call z y = with_it first_call y
        by_root main_call z y = with_it main_call y
        by_root tests z y = with_it tests y
        by_root told z y = with_it told y
        by_root sets_started z y = with_it sets_started y
        by_root has_started z y = with_it has_started y
        by_root sets_open z y = with_it sets_open y
        by_root has_open z y = with_it has_open y
        by_root makes_first z y = with_it makes_first y
        by_root (made_first l) z y = with_it (made_first l) y

    all_is : (l : ℕ) (a : Bool) (stage : Stage) (b : Bool) (tree : Tree) → AreCalm tree
        → GoesOnAlike p n m o k g l stage (leaves [] tree) (yet tree) now s t d
        → Answered (all l a stage b tree)
    all_is l a stage b tree calm x =
        record {
          events = x.events;
          later = x.later;
          effect = x.effect;
          goes = x.goes;
          bounded = x.bounded;
          same_output = x.same_output;
          alike = ((x.world, x.alike), calm);
        }

    -- while all goes on
    from_all : (l : ℕ) (a : Bool) (stage : Stage) (b : Bool) (tree : Tree) (next : Root)
        → IsAlike p n m o g (all l a stage b tree) s t now → Served p n (all l a stage b tree)
        → Served p n next → Leads p n m s pick d (all l a stage b tree) next
        → RunTo (all l a stage b tree) next → Reached p false s (root_term n m (all l a stage b tree))
        → Answered next
    from_all l a stage b tree (all i a' next b' grown) h v v' q run reached =
        by_row q.1
      where
        same : l ≡ i
        same = sym q.0

        pick_of : (y : Pick) → pick ≡ y
            → AllPick laws p n m o k g is begins l a b stage tree a' b' next grown s y d
        pick_of y e =
            record {
              served = v;
              calm = h.1;
              served_next = subst (λ x. Served p n (all x a' next b' grown)) q.0 v';
              run = subst (λ x. Runs p false true s (x ∷ []) (root_term n m (all l a stage b tree))
                  (goes (root_term n m (all l a' next b' grown))) d) e
                  (subst (λ x. Runs p false true s (pick ∷ []) (root_term n m (all l a stage b tree))
                  (goes (root_term n m (all x a' next b' grown))) d) q.0 run);
              fits = fits;
              bounded = bounded;
              reached = reached;
            }

        by_row : ((q : Pick) × (pick ≡ under (0 ∷ []) q) × Follows p n s q d stage next × (a' ≡ true)
            × (b' ≡ b) × (grown ≡ tree))
            ⊎ ((q : Pick) × (pick ≡ under (1 ∷ []) q) × Grows p n s q d tree grown × (a' ≡ a)
            × (next ≡ stage) × (b' ≡ true))
            → Answered (all i a' next b' grown)
        by_row (inl r) =
            let x = go_goes laws p n m o k g is begins h.0.0 l a b stage tree a' b' now s t next r.0 d
            h.0.1
            (subst (λ y. AllPick laws p n m o k g is begins l a b stage tree a' b' next y s
            (under (0 ∷ []) r.0) d) r.5 (pick_of (under (0 ∷ []) r.0) r.1)) r.2 in
            subst (λ y. Answered (all i a' next b' y)) (sym r.5)
            (all_is i a' next b' tree h.1
            (subst (λ y. GoesOnAlike p n m o k g y next (leaves [] tree) (yet tree) now s t d) same x))
        by_row (inr r) =
            let grows = r.2 in
            let x = tree_goes laws p n m o k g is begins h.0.0 l a b stage tree a' b' now s t grown r.0 d
            h.0.1
            (subst (λ y. AllPick laws p n m o k g is begins l a b stage tree a' b' y grown s
            (under (1 ∷ []) r.0) d) r.4 (pick_of (under (1 ∷ []) r.0) r.1)) grows in
            let calm = calm_grows p n s r.0 d [] tree grown v.2 h.1 grows x.alike.calm.1 in
            subst (λ y. Answered (all i a' y b' grown)) (sym r.4)
            (all_is i a' stage b' grown calm
            (subst (λ y. GoesOnAlike p n m o k g y stage (leaves [] grown) (yet grown) now s t d) same x))
    from_all l a stage b tree (all_over i x) h v v' q run reached =
        let r = over_alike p n m o g h.0.0 l a b stage tree now s t x h.0.1 v h.1 q.1 in
        nothing (ap (λ y. y.output) q.2) (
          r.0,
          over_still p n s i now d (paid_still s d q.2)
              (subst (λ y. IsAllOver p n s y now) (sym q.0) r.1),
        )
    from_all l a stage b tree _ h v v' q run reached = absurd q

    from_over : (l : ℕ) (x : Term) (next : Root) → IsAlike p n m o g (all_over l x) s t now
        → Leads p n m s pick d (all_over l x) next → Answered next
    from_over l x (asks u) h q =
        nothing (ap (λ y. y.output) q.1)
        (l, (over_still p n s l now d (paid_still s d q.1) h.1, is_called q.0))
    from_over l x (ended u) h q = absurd (value_not_throw unit q.1.0 (sym h.0 ∙ q.1.1))
    from_over l x _ h q = absurd q

    from_asks : (x : Term) (next : Root) → IsAlike p n m o g (asks x) s t now
        → Leads p n m s pick d (asks x) next → Answered next
    from_asks x (asks u) h q =
        let r = last_goes p n is.prelude s h.0 h.1.0.end h.1.0.holds (begins.gets_last h.0) pick x u d
        fits h.1.1 q in
        nothing r.0.prints_nothing (h.0, (over_still p n s h.0 now d r.0 h.1.0, r.1))
    from_asks x (ended u) h q = by_end q.0
      where
        over_x : Finished x → x ≡ end_term h.1.0.end
        over_x f = last_is n h.0 h.1.0.end x h.1.1 f

        last : (end : End) → x ≡ end_term end
            → ((v : Value) × (x ≡ term.Value v) × (u ≡ term.Value unit))
            ⊎ ((v : Value) × (x ≡ throw_of v) × (u ≡ throw_of v)) → IsLast end u
        last (at_value v) e (inl y) = y.2
        last (at_value v) e (inr y) = absurd (value_not_throw v y.0 (sym e ∙ y.1))
        last (at_throw v) e (inl y) = absurd (value_not_throw y.0 v (sym y.1 ∙ e))
        last (at_throw v) e (inr y) = y.2 ∙ sym y.1 ∙ e

        by_end : ((v : Value) × (x ≡ term.Value v) × (u ≡ term.Value unit))
            ⊎ ((v : Value) × (x ≡ throw_of v) × (u ≡ throw_of v)) → Answered (ended u)
        by_end (inl y) =
            nothing (ap (λ z. z.output) q.1) (
              h.1.0.end,
              last h.1.0.end (over_x (ends.Finished.value y.0 y.1)) (inl y),
              h.1.0.have_ended,
            )
        by_end (inr y) =
            nothing (ap (λ z. z.output) q.1) (
              h.1.0.end,
              last h.1.0.end (over_x (ends.Finished.throw y.0 y.1)) (inr y),
              h.1.0.have_ended,
            )
    from_asks x _ h q = absurd q

    -- before servers stand there
    from_early : (root next : Root) → IsEarly p n m o root s t now
        → Leads p n m s pick d root next → RunTo root next → IsEarlyRoot next → Answered next
    from_early root next h q run e = early_is next e (by_early root next h e q run)

    from_made : (l : ℕ) (next : Root) → IsEarly p n m o (made_first l) s t now
        → Leads p n m s pick d (made_first l) next → Answered next
    from_made l (all i a stage b tree) h q =
        let x = first_laws.begins_all p n m o k g is begins starts l now s t h in
        nothing (ap (λ y. y.output) q.5) (
          (
            x.0,
            subst (λ y. GoAlike p n m o g x.0 i stage (leaves [] y) (yet y) now (afterwards d s) t)
                (sym q.4)
                (subst (λ y. GoAlike p n m o g x.0 i y [] 64 now (afterwards d s) t) (sym q.2)
                (subst (λ y. GoAlike p n m o g x.0 y (sent l) [] 64 now (afterwards d s) t) (sym q.0)
                (subst (λ y. GoAlike p n m o g x.0 l (sent l) [] 64 now (afterwards y s) t) (sym q.5) x.1))),
          ),
          subst AreCalm (sym q.4) tt,
        )
    from_made l _ h q = absurd q

    goes_so : (root next : Root) → IsAlike p n m o g root s t now → Served p n root → Served p n next
        → Leads p n m s pick d root next → RunTo root next
        → Reached p false s (root_term n m root) → Answered next
    goes_so (all l a stage b tree) next h v v' q run reached =
        from_all l a stage b tree next h v v' q run reached
    goes_so (all_over l x) next h v v' q run reached = from_over l x next h q
    goes_so (asks x) next h v v' q run reached = from_asks x next h q
    goes_so (ended x) _ h v v' q run reached = absurd q
    goes_so (made_first l) next h v v' q run reached = from_made l next h q
    goes_so first_call main_call h v v' q run reached = from_early first_call main_call h q run tt
    goes_so first_call _ h v v' q run reached = absurd q
    goes_so main_call tests h v v' q run reached = from_early main_call tests h q run tt
    goes_so main_call _ h v v' q run reached = absurd q
    goes_so tests told h v v' q run reached = from_early tests told h q run tt
    goes_so tests _ h v v' q run reached = absurd q
    goes_so told sets_started h v v' q run reached = from_early told sets_started h q run tt
    goes_so told _ h v v' q run reached = absurd q
    goes_so sets_started has_started h v v' q run reached = from_early sets_started has_started h q run tt
    goes_so sets_started _ h v v' q run reached = absurd q
    goes_so has_started sets_open h v v' q run reached = from_early has_started sets_open h q run tt
    goes_so has_started _ h v v' q run reached = absurd q
    goes_so sets_open has_open h v v' q run reached = from_early sets_open has_open h q run tt
    goes_so sets_open _ h v v' q run reached = absurd q
    goes_so has_open makes_first h v v' q run reached = from_early has_open makes_first h q run tt
    goes_so has_open _ h v v' q run reached = absurd q
    goes_so makes_first (made_first l) h v v' q run reached =
        from_early makes_first (made_first l) h q run tt
    goes_so makes_first _ h v v' q run reached = absurd q

  -- ---- the whole run

  -- the machine with threads from here on
  record GoesSo (now : List Thread) (s t : Store) (u : Term) (d : Effect) : Type 0 where
    events : List Event
    later : List Thread
    effect : Effect
    goes : Goes p k now t events later effect
    bounded : MakesWithinBounds effect
    same_output : effect.output ≡ d.output
    root : Root
    is_root : u ≡ root_term n m root
    alike : IsAlike p n m o g root (afterwards d s) (afterwards effect t) later

  same_goes : (x y : Term) → goes x ≡ goes y → x ≡ y
  same_goes x y e = cc

  course : {s : Store} {picks : List Pick} {x u : Term} {effects : List Effect}
      → PickByPick p false true s picks x (goes u) effects → MakesWithinBounds (all_of effects)
      → FitsAll (all_of effects) s
      → (root : Root) (now : List Thread) (t : Store) → x ≡ root_term n m root → Served p n root
      → Early m s root → IsAlike p n m o g root s t now → Reached p false s x
      → GoesSo now s t u (all_of effects)
  course {s = s} {x = x} {u = u} (no_more a b c) bounded fits root now t e v y h reached =
      record {
        events = [];
        later = now;
        effect = idle;
        goes = rests refl refl refl;
        bounded = bounded_idle;
        same_output = ap (λ z. (all_of z).output) (sym c);
        root = root;
        is_root = same_goes u x b ∙ e;
        alike = subst (λ z. IsAlike p n m o g root (afterwards (all_of z) s) t now) (sym c) h;
      }
  course {s = s} {x = x} {u = u} {effects = effects}
      (then_more {u = z} {others = others} pick d a run more c) bounded fits root now t e v y h reached =
      let small = subst (λ es. MakesWithinBounds (all_of es)) c bounded in
      let fit = runs_fit s (pick ∷ []) x (goes z) d run in
      let run2 = subst (λ w. Runs p false true s (pick ∷ []) w (goes z) d) e run in
      let i = root_pick p n m is.prelude starts s pick root z d v y (loosened run2) in
      let run3 = subst (λ w. Runs p false true s (pick ∷ []) (root_term n m root) (goes w) d) i.2 run2 in
      let r = goes_so s t pick d now fit (bounded_first d (all_of others) small) root i.0 h v i.1 i.3 run3
      (subst (Reached p false s) e reached) in
      let j = course more (bounded_second d (all_of others) small)
      (pick_fits (afterwards d s) more) i.0 r.later (afterwards r.effect t) i.2 i.1
      (early_next p n m is.prelude starts s pick d root i.0 y i.3) r.alike
      (Reached.by_run reached run refl) in
      record {
        events = r.events ++ j.events;
        later = j.later;
        effect = both r.effect j.effect;
        goes = goes_join r.goes j.goes;
        bounded = both_bounded r.effect j.effect r.bounded j.bounded;
        same_output = (λ w. r.same_output w ++ j.same_output w) ∙ ap (λ es. (all_of es).output) (sym c);
        root = j.root;
        is_root = j.is_root;
        alike = subst (λ w. IsAlike p n m o g j.root w
            (afterwards (both r.effect j.effect) t) j.later)
            (sym (ap (λ es. afterwards (all_of es) s) c
            ∙ afterwards_both d (all_of others) s fit (pick_fits (afterwards d s) more)))
            (subst (λ w. IsAlike p n m o g j.root
            (afterwards (all_of others) (afterwards d s)) w j.later)
            (sym (afterwards_both r.effect j.effect t (goes_fit r.goes) (goes_fit j.goes))) j.alike);
      }
  course (stopped pick d a run b c) bounded fits root now t e v y h reached = absurd cc

  -- a root's term that is finished is its end
  finished_root : (root : Root) (s t : Store) (now : List Thread) → IsAlike p n m o g root s t now
      → Finished (root_term n m root)
      → (end : End) × IsLast end (root_term n m root) × HaveEnded now (end_term end)
  finished_root (ended x) s t now h f = h
  finished_root first_call s t now h f =
      absurd (not_finished _ (ap standing_at (outs-Call _ _)) f)
  finished_root main_call s t now h f =
      absurd (not_finished _ (ap standing_at (outs-Call _ _)) f)
  finished_root tests s t now h f =
      absurd (not_finished _ (ap standing_at (outs-If _ _ _)) f)
  finished_root told s t now h f =
      absurd (not_finished _ (ap standing_at (outs-If _ _ _)) f)
  finished_root sets_started s t now h f =
      absurd (not_finished _ (ap standing_at (outs-Then _ _)) f)
  finished_root has_started s t now h f =
      absurd (not_finished _ (ap standing_at (outs-Then _ _)) f)
  finished_root sets_open s t now h f =
      absurd (not_finished _ (ap standing_at (outs-Then _ _)) f)
  finished_root has_open s t now h f =
      absurd (not_finished _ (ap standing_at (outs-Then _ _)) f)
  finished_root makes_first s t now h f =
      absurd (not_finished _ (ap standing_at (outs-Let _ _ _)) f)
  finished_root (made_first l) s t now h f =
      absurd (not_finished _ (ap standing_at (outs-Let _ _ _)) f)
  finished_root (all l a stage b tree) s t now h f =
      absurd (not_finished _ (ap standing_at (outs-Then _ _)) f)
  finished_root (all_over l x) s t now h f =
      absurd (not_finished _ (ap standing_at (outs-Then _ _)) f)
  finished_root (asks x) s t now h f =
      absurd (not_finished _ (ap standing_at (outs-Let _ _ _)) f)

  same_value_throw : (end : End) (x : Term) (v : Value) → IsLast end x → x ≡ throw_of v
      → (w : Value) × (end ≡ at_throw w) × (throw_of w ≡ throw_of v)
  same_value_throw (at_value w) x v h e = absurd (value_not_throw unit v (sym h ∙ e))
  same_value_throw (at_throw w) x v h e = (w, refl, sym h ∙ e)

  same_value_unit : (end : End) (x : Term) → IsLast end x → x ≡ term.Value unit
      → (w : Value) × (end ≡ at_value w)
  same_value_unit (at_value w) x h e = (w, refl)
  same_value_unit (at_throw w) x h e = absurd (value_not_throw unit w (sym e ∙ h))

  pub run_is_threaded : (picks : List Pick) (u : Term) (d : Effect) → machine.IsRun p picks u d
      → IsThreadedRun p k u d
  run_is_threaded picks u d run =
      let i = picks_add_up p false true (opening_store p) picks p.first (goes u) d run.runs in
      let j = course i.1 (subst MakesWithinBounds i.2 run.bounded) (pick_fits (opening_store p) i.1)
      first_call (alone p.first) (opening_store p) starts.is_first tt starts.not_started
      (refl, refl, refl) (Reached.at_first refl refl refl) in
      record {
        events = j.events;
        later = j.later;
        effect = j.effect;
        is_run = record { goes = j.goes; bounded = j.bounded };
        same_output = j.same_output ∙ ap (λ x. x.output) (sym i.2);
        completed = λ e.
            let f = finished_root j.root _ _ j.later j.alike
            (subst Finished j.is_root (ends.Finished.value unit e)) in
            let w = same_value_unit f.0 (root_term n m j.root) f.1 (sym j.is_root ∙ e) in
            (w.0, subst (λ x. HaveEnded j.later (end_term x)) w.1 f.2);
        uncaught = λ v e.
            let f = finished_root j.root _ _ j.later j.alike
            (subst Finished j.is_root (ends.Finished.throw v e)) in
            let w = same_value_throw f.0 (root_term n m j.root) v f.1 (sym j.is_root ∙ e) in
            subst (HaveEnded j.later) w.2 (subst (λ x. HaveEnded j.later (end_term x)) w.1 f.2);
      }
