-- An attempt, as both machines close it.
use Rattle.std.proofs.Common.{◌≡◌, ℕ, Bool, true, false, List, [], ◌∷◌, ◌++◌, map, Option, Some, None, refl, ap, sym, ◌∙◌, subst, append-nil, ◌⊎◌, inl, inr}
use Rattle.fort_base.specs.declared.ids.Loc.{Loc}
use Rattle.fort_core.specs.declared.form.Mode.{Mode}
use Rattle.fort_core.specs.declared.form.Mode.TheVariants as mode
use Rattle.fort_core.specs.declared.pick.Pick.{Pick}
use Rattle.fort_core.specs.declared.program.Program.{Program}
use Rattle.fort_core.specs.declared.term.Term.{Term, Asleep}
use Rattle.fort_core.specs.declared.term.Term as term
use Rattle.fort_core.specs.declared.term.Term.TheVariants.{outs-Asleep}
use Rattle.fort_core.specs.declared.value.Value.{Value}
use Rattle.fort_machine.specs.Attempts.{Ended, goes, aborts, AreRead, Rising, Closes, completed, failed, gave_up, fell_asleep}
use Rattle.fort_machine.specs.Cells.{Cell, untouched, found, made, Fits}
use Rattle.fort_machine.specs.Effects.{Store, Effect, completing, failing, aborting, FitsAll, afterwards}
use Rattle.fort_machine.specs.Ends.{throw_of}
use Rattle.fort_machine.specs.Ends as ends
use Rattle.fort_machine.specs.Journals.{MakesWithinBounds}
use Rattle.fort_machine.specs.Marked.{Marks, In}
use Rattle.fort_machine.specs.Parts.{IsOneOf}
use Rattle.fort_machine.proofs.Standing.{standing-Value, standing-throw}
use Rattle.fort_threads.specs.Known.{Known}
use Rattle.fort_threads.specs.Threads.{Paths, Thread, Done, kept_at, kept, noted}
use Rattle.fort_threads.proofs.Added as added
use Rattle.fort_threads_law_servers.specs.Prelude.{Names}
use Rattle.fort_threads_law_servers.specs.Roots.{Start}
use Rattle.fort_threads_law_private.specs.Grounds.{Ground, Grows}
use Rattle.fort_threads_law_private.specs.Private.{Private, PrivateValue, AllPrivateValues, no_values, one_more_value, no_terms, one_more}
use Rattle.fort_threads_law_private.proofs.Growing.{value_grows}
use Rattle.fort_threads_law_private.proofs.Values.{private_at, thrown_private}
use Rattle.fort_threads_law_worlds.specs.Worlds.{Spot, unused, for_all, World, FollowsAt, ground_of, with_counts, AllNew}
use Rattle.fort_threads_law_worlds.specs.Known.{Own}
use Rattle.fort_threads_law_worlds.specs.Stores.{AreStores}
use Rattle.fort_threads_law_worlds.specs.Effects.{DoAlike, FindsOpen, WatchOpen, open_marks}
use Rattle.fort_threads_law_worlds.specs.Queues.{HasQueued}
use Rattle.fort_threads_law_worlds.proofs.Following.{follows_self, at_open}
use Rattle.fort_threads_law_worlds.proofs.Closing.{completed_alike, failed_alike, aborted_alike}
use Rattle.fort_threads_law_worlds.proofs.Marks.{in_open, open_marks_read, marks_are_open}
use Rattle.fort_threads_law_worlds.proofs.After.{stores_after_completing, stores_after_failing, stores_after_aborting}
use Rattle.fort_threads_law_worlds.proofs.Queues.{none_queued}
use Rattle.fort_threads_law_matches.specs.Matches.{Matches, same, sleeps}
use Rattle.fort_threads_law_matches.proofs.Open.{finished_match}
use Rattle.fort_threads_law_runs.specs.Premises.{IsThreaded}
use Rattle.fort_threads_law_runs.specs.Runs.{EndAlike, GoesAlike}
use Rattle.fort_threads_law_runs.proofs.Bounded.{bounded_completing, bounded_failing, bounded_aborting}
use Rattle.fort_threads_law_runs.proofs.Finding.{finds_completed, finds_failed, finds_aborted}

-- what was read was there
pub read_there : (c : Cell) (v : Value) (u x : Option Value) → c ≡ found (Some v) u → Fits c x
    → x ≡ Some v
read_there c v u None e f = absurd (subst (λ y. Fits y None) e f)
read_there c v u (Some y) e f = ap Some (subst (λ z. Fits z (Some y)) e f)

all_new : (us : List Thread) → added.AllNew us → AllNew us
all_new [] h = tt
all_new (u ∷ us) h = (h.0, all_new us h.1)

-- values of marks
values_of_marks : (p : Program) (n : Names) (m : Start) (g : Ground) (ms : Marks)
    → ((l : ℕ) (v : Value) → In l v ms → PrivateValue p n m g v)
    → AllPrivateValues p n m g (map (λ (e : Loc × Value). e.1) ms)
values_of_marks p n m g [] h = no_values
values_of_marks p n m g (e ∷ ms) h =
    one_more_value (h e.0.0 e.1 (inl (refl, refl)))
    (values_of_marks p n m g ms (λ l v i. h l v (inr i)))

-- a form that sleeps at open locations leaves the prelude alone
pub asleep_private : (p : Program) (n : Names) (m : Start) (w : World) (marks : Marks)
    (body : Term) → Private p n m (ground_of w) body
    → AllPrivateValues p n m (ground_of w) (map (λ (e : Loc × Value). e.1) (open_marks w marks))
    → Private p n m (ground_of w) (Asleep (open_marks w marks) body)
asleep_private p n m w marks body h vs =
    private_at (Asleep (open_marks w marks) body) _ (outs-Asleep (open_marks w marks) body)
    (λ l v i. at_open w l (in_open w l v marks i).1) (one_more h no_terms) vs

-- What an attempt comes to in both machines.
pub record ClosedAlike (p : Program) (n : Names) (m : Start) (o : Own) (k : Known) (w : World)
    (here : Spot) (standing : List Thread) (asked : Paths) (s t : Store) (path : List ℕ)
    (md : Mode)
    (body b : Term) (d : Effect) (ended : Ended) (done : Done) : Type 0 where
  pub later : World
  pub other : Term
  pub effect : Effect
  pub follows : FollowsAt (path ∷ here) w later
  pub closes : Closes p md body ended done.effect other effect
  pub alike : DoAlike w later d effect
  pub stores : AreStores p n m later (standing ++ kept ended done.added) (afterwards d s)
      (afterwards effect t)
  pub queued : HasQueued w later (kept ended done.added)
  pub bounded : MakesWithinBounds effect
  pub matches : Matches p n m o later here (noted done.came path asked) path b other
  pub finds : done.came ≡ false → FindsOpen m w d
  pub term : Private p n m (ground_of later) other

module _ (p : Program) (n : Names) (m : Start) (o : Own) (k : Known) (g : Ground)
    (h : IsThreaded p n m o k g) (w : World) (here : Spot) (standing : List Thread)
    (asked : Paths) (s t : Store) (path : List ℕ) (md : Mode) (body b : Term) (d1 d : Effect)
    (picks : List Pick) (ended : Ended) (grown : Grows g (ground_of w))
    (stores : AreStores p n m w standing s t) (body_private : Private p n m (ground_of w) body)
    (fits : FitsAll d1 s)
    (inside : GoesAlike p n m o k w (path ∷ here) standing [] s t picks body ended d1) where
  abbrev pub Alike : Type 0
  Alike = ClosedAlike p n m o k w here standing asked s t path md body b d inside.ended inside.done

  abbrev x : World
  x = inside.later

  abbrev e : Effect
  e = inside.done.effect

  abbrev us : List Thread
  us = inside.done.added

  none_more : AreStores p n m w standing s t → (v : World) (q r : Store)
      → AreStores p n m v standing q r → (ws : List Thread) → ws ≡ []
      → AreStores p n m v (standing ++ ws) q r
  none_more i v q r j ws z =
      subst (λ y. AreStores p n m v (standing ++ y) q r) (sym z)
      (subst (λ y. AreStores p n m v y q r) (sym (append-nil standing)) j)

  by_value : (v : Value) → b ≡ term.Value v → d ≡ completing d1 → (q : Ended) → inside.ended ≡ q
      → EndAlike p n m o x (path ∷ here) inside.asked_later (goes (term.Value v)) q → Alike
  by_value v e2 e3 aborts ie mat = absurd mat
  by_value v e2 e3 (goes q) ie mat =
      let f = finished_match p n m o x (path ∷ here) inside.asked_later [] (term.Value v) q mat
      (ends.Finished.value v refl) in
      let qe : inside.ended ≡ goes (term.Value v) = ie ∙ ap goes (sym f.0) in
      let all : kept inside.ended us ≡ us =
      ap (λ r. kept r us) qe ∙ ap (λ z. kept_at z us) (standing-Value v) in
      record {
        later = x;
        other = term.Value v;
        effect = completing e;
        follows = inside.follows;
        closes = completed v qe refl refl;
        alike =
            subst (λ z. DoAlike w x z (completing e)) (sym e3)
            (completed_alike w x d1 e inside.do_alike);
        stores =
            subst (λ z. AreStores p n m x (standing ++ z) (afterwards d s)
            (afterwards (completing e) t)) (sym all)
            (subst (λ z. AreStores p n m x (standing ++ us) (afterwards z s)
            (afterwards (completing e) t)) (sym e3)
            (stores_after_completing p n m x (standing ++ us) s t d1 e inside.stores));
        queued = subst (HasQueued w x) (sym all) inside.queued;
        bounded = bounded_completing e inside.bounded;
        matches = same e2 (subst (Private p n m (ground_of x)) (sym e2) f.1);
        finds = λ z.
            subst (FindsOpen m w) (sym e3)
            (finds_completed m w d1 (inside.finds body_private z));
        term = f.1;
      }

  by_throw : (v : Value) → b ≡ throw_of v → d ≡ failing d1 → (q : Ended) → inside.ended ≡ q
      → EndAlike p n m o x (path ∷ here) inside.asked_later (goes (throw_of v)) q → Alike
  by_throw v e2 e3 aborts ie mat = absurd mat
  by_throw v e2 e3 (goes q) ie mat =
      let f = finished_match p n m o x (path ∷ here) inside.asked_later [] (throw_of v) q mat
      (ends.Finished.throw v refl) in
      let qe : inside.ended ≡ goes (throw_of v) = ie ∙ ap goes (sym f.0) in
      let none : kept inside.ended us ≡ [] =
      ap (λ r. kept r us) qe ∙ ap (λ z. kept_at z us) (standing-throw v) in
      let y : World = with_counts w x in
      let alike : DoAlike w x (failing d1) (failing e) = failed_alike w x d1 e inside.do_alike in
      record {
        later = y;
        other = throw_of v;
        effect = failing e;
        follows = record {
          uses = inside.follows.uses;
          functions = inside.follows.functions;
          given = inside.follows.given;
          flying = inside.follows.flying;
          spawned = (follows_self here w).spawned;
          lasting = inside.follows.lasting;
        };
        closes = failed v qe refl refl;
        alike =
            subst (λ z. DoAlike w y z (failing e)) (sym e3)
            (record {
              same = alike.same;
              newly_made = alike.newly_made;
              nothing_else = alike.nothing_else;
              lasting = alike.lasting;
              output = alike.output;
              unended = alike.unended;
            });
        stores =
            none_more stores y (afterwards d s) (afterwards (failing e) t)
            (subst (λ z. AreStores p n m y standing (afterwards z s)
            (afterwards (failing e) t)) (sym e3)
            (stores_after_failing p n m (path ∷ here) w x standing us s t d1 e stores
            inside.follows
            inside.do_alike fits (all_new us (added.runs_new inside.runs)) inside.stores))
            (kept inside.ended us) none;
        queued = subst (HasQueued w y) (sym none) (none_queued w y refl refl refl);
        bounded = bounded_failing e inside.bounded;
        matches = same e2 (subst (Private p n m (ground_of y)) (sym e2) f.1);
        finds = λ z.
            subst (FindsOpen m w) (sym e3) (finds_failed m w d1 (inside.finds body_private z));
        term = f.1;
      }

  -- an attempt that was aborted: the world is as before
  aborted : d ≡ aborting d1 → inside.ended ≡ aborts → (c : Term)
      → Closes p md body inside.ended e c (aborting e)
      → Matches p n m o w here (noted inside.done.came path asked) path b c
      → Private p n m (ground_of w) c → Alike
  aborted e3 ie c close mat pc = record {
    later = w;
    other = c;
    effect = aborting e;
    follows = follows_self (path ∷ here) w;
    closes = close;
    alike =
        subst (λ z. DoAlike w w z (aborting e)) (sym e3)
        (aborted_alike (path ∷ here) w x d1 e inside.follows inside.do_alike);
    stores =
        none_more stores w (afterwards d s) (afterwards (aborting e) t)
        (subst (λ z. AreStores p n m w standing (afterwards z s) (afterwards (aborting e) t))
        (sym e3)
        (stores_after_aborting p n m (path ∷ here) w x standing s t d1 e stores inside.follows
        inside.do_alike fits))
        (kept inside.ended us) (ap (λ r. kept r us) ie);
    queued = subst (HasQueued w w) (sym (ap (λ r. kept r us) ie)) (none_queued w w refl refl refl);
    bounded = bounded_aborting e inside.bounded;
    matches = mat;
    finds = λ z. subst (FindsOpen m w) (sym e3) (finds_aborted m w d1
        (inside.finds body_private z));
    term = pc;
  }

  is_aborted : (q : Ended) → inside.ended ≡ q
      → EndAlike p n m o x (path ∷ here) inside.asked_later aborts q → inside.ended ≡ aborts
  is_aborted aborts ie mat = ie
  is_aborted (goes q) ie mat = absurd mat

  there : (marks : Marks) → AreRead marks d1 → (l : ℕ) (v : Value) → In l v marks → s l ≡ Some v
  there marks r l v i =
      let z = r.were_read l v i in read_there (d1.cells l) v z.0 (s l) z.1 (fits l)

  used : (marks : Marks) → AreRead marks d1 → (l : ℕ) (v : Value) → In l v marks
      → w.serves l ≡ unused → ⊥
  used marks r l v i z =
      let y : None ≡ Some v = sym (stores.nothing l z).0 ∙ there marks r l v i in absurd cc

  marks_private : (marks : Marks) → AreRead marks d1
      → AllPrivateValues p n m (ground_of w)
      (map (λ (e : Loc × Value). e.1) (open_marks w marks))
  marks_private marks r =
      values_of_marks p n m (ground_of w) (open_marks w marks)
      (λ l v i. let j = in_open w l v marks i in
      stores.private_store l v (at_open w l j.1) (there marks r l v j.0))

  came_or_open : (marks : Marks) → AreRead marks d1
      → IsOneOf path (noted inside.done.came path asked) ⊎ WatchOpen m w marks
  came_or_open marks r = go inside.done.came refl
    where
      go : (c : Bool) → inside.done.came ≡ c
          → IsOneOf path (noted inside.done.came path asked) ⊎ WatchOpen m w marks
      go true q = inl (subst (λ z. IsOneOf path (noted z path asked)) (sym q) (inl refl))
      go false q = inr (marks_are_open m w d1 marks r (inside.finds body_private q))

  pub closed_alike : Closes p md body ended d1 b d → Alike
  closed_alike (completed v e1 e2 e3) =
      by_value v e2 e3 inside.ended refl
      (subst (λ r. EndAlike p n m o x (path ∷ here) inside.asked_later r inside.ended) e1
      inside.end_alike)
  closed_alike (failed v e1 e2 e3) =
      by_throw v e2 e3 inside.ended refl
      (subst (λ r. EndAlike p n m o x (path ∷ here) inside.asked_later r inside.ended) e1
      inside.end_alike)
  closed_alike (gave_up v e1 e2 e3 e4 e5) =
      let ie = is_aborted inside.ended refl
      (subst (λ r. EndAlike p n m o x (path ∷ here) inside.asked_later r inside.ended) e1
      inside.end_alike) in
      let pc : Private p n m (ground_of w) (throw_of v) =
      thrown_private (value_grows (h.apart.singles p.built_in.try_atomic_failure v e3) grown) in
      aborted e5 ie (throw_of v) (gave_up v ie e2 e3 refl refl)
      (same e4 (subst (Private p n m (ground_of w)) (sym e4) pc)) pc
  closed_alike (fell_asleep marks e1 e2 r rising e4 e5) =
      let ie = is_aborted inside.ended refl
      (subst (λ r. EndAlike p n m o x (path ∷ here) inside.asked_later r inside.ended) e1
      inside.end_alike) in
      let z = open_marks_read (path ∷ here) w x d1 e marks inside.follows inside.do_alike r
      rising in
      aborted e5 ie (Asleep (open_marks w marks) body)
      (fell_asleep (open_marks w marks) ie e2 z.0 z.1 refl refl)
      (sleeps marks body e4 refl body_private (marks_private marks r) (used marks r)
      (came_or_open marks r))
      (asleep_private p n m w marks body body_private (marks_private marks r))
