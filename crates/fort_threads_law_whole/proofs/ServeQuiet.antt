-- Picks of a server by which it holds what it held.
use Rattle.std.proofs.Common.{◌≡◌, ℕ, ◌+◌, true, false, List, [], ◌∷◌, ◌++◌, Option, Some, None, refl, ap, sym, ◌∙◌, subst, inl, inr, ◌⊎◌}
use Rattle.fort_base.specs.declared.ty.Ty.TheVariants.{Named}
use Rattle.fort_core.specs.declared.form.Mode.TheVariants as mode
use Rattle.fort_core.specs.declared.pick.Pick.{Pick}
use Rattle.fort_core.specs.declared.program.Program.{Program}
use Rattle.fort_core.specs.declared.term.Term.{Term, Asleep, Atomic, out-Term}
use Rattle.fort_core.specs.declared.term.Term as term
use Rattle.fort_core.specs.declared.term.Term.TheOpen.{Term-F}
use Rattle.fort_core.specs.declared.term.Term.TheVariants.{outs-Asleep, outs-Atomic}
use Rattle.fort_core.specs.declared.value.Value.{Value, out-Value}
use Rattle.fort_core.specs.declared.value.Value.TheVariants.{outs-Tuple}
use Rattle.fort_machine.specs.Acts.{unit}
use Rattle.fort_machine.specs.Effects.{Store, Effect, paid, afterwards}
use Rattle.fort_machine.specs.Ends.{throw_of, Finished}
use Rattle.fort_machine.specs.Ends as ends
use Rattle.fort_machine.specs.Marked.{Marks, In}
use Rattle.fort_machine.specs.Types.{has_type}
use Rattle.fort_threads.specs.Known.{Known}
use Rattle.fort_threads.specs.Threads.{Paths, going, Thread, thread}
use Rattle.fort_threads_law_servers.specs.Prelude.{Names, object_of, taking, counting}
use Rattle.fort_threads_law_servers.specs.Stages.{End, at_value, at_throw, end_term, Stage, called, asking, trying, got, looking, sent, reads, runs, caught, lost, keeps, has_kept, marks, has_marked, counts, done, Follows}
use Rattle.fort_threads_law_servers.specs.Stages as stages
use Rattle.fort_threads_law_servers.specs.Roots.{Start}
use Rattle.fort_threads_law_private.specs.Grounds.{Ground}
use Rattle.fort_threads_law_private.specs.Private.{Private}
use Rattle.fort_threads_law_private.proofs.Values.{value_private, throw_private}
use Rattle.fort_threads_law_worlds.specs.Worlds.{World, ground_of}
use Rattle.fort_threads_law_worlds.specs.Known.{Own}
use Rattle.fort_threads_law_matches.proofs.Open.{finished_match}
use Rattle.fort_threads_law_runs.specs.Threads.{thread_spot}
use Rattle.fort_threads_law_trees.specs.Leaves.{Leaf, leaf, object_in, one_or_none, waiting, running, owes, is_free, IsCalm}
use Rattle.fort_threads_law_whole.specs.Lists.{IsAt}
use Rattle.fort_threads_law_whole.specs.Picks.{IsOwnPick}
use Rattle.fort_threads_law_whole.specs.Roots.{GoAlike, GoesOnAlike}
use Rattle.fort_threads_law_whole.specs.Servers.{IsEnd, IsRunAs, IsKept, RunsOne, IsNew, ServesOne}
use Rattle.fort_threads_law_whole.proofs.ServeLists.{serve_of}
use Rattle.fort_threads_law_whole.proofs.ServeFollows.{object_is_in}
use Rattle.fort_threads_law_whole.proofs.ServeKept.{no_event, quiet_alike}

-- `()` is no object
pub none_in : (v : Value) → v ≡ unit → object_in (out-Value v) ≡ []
none_in v e = ap object_in (ap out-Value e ∙ outs-Tuple [])

-- one object is at one location
pub one_place : (n : Names) (v : Value) (l k : ℕ) → v ≡ object_of n l → v ≡ object_of n k → l ≡ k
one_place n v l k e f =
    let z : l ∷ [] ≡ k ∷ [] = sym (object_is_in n v l e) ∙ object_is_in n v k f in cc

pub not_asleep : (n : Names) (form : Term) (seen : Marks) (body other : Term)
    → form ≡ Atomic mode.Atomic other → form ≡ Asleep seen body → ⊥
not_asleep n form seen body other e f =
    let z : Term-F.Atomic mode.Atomic other ≡ Term-F.Asleep seen body =
    sym (outs-Atomic mode.Atomic other) ∙ ap out-Term (sym e ∙ f) ∙ outs-Asleep seen body in
    absurd cc

module _ (p : Program) (n : Names) (m : Start) (o : Own) (k : Known) (g : Ground) (w : World)
    (first : ℕ) (stage : Stage) (xs ys : List Leaf) (path : List ℕ) (rest : ℕ) (now : List Thread)
    (s t : Store) (q : Pick) (d : Effect) where
  abbrev pub Was : Stage → Type 0
  Was old = GoAlike p n m o g w first stage (xs ++ leaf path old ∷ ys) rest now s t

  abbrev pub On : Stage → Type 0
  On next = GoesOnAlike p n m o k g first stage (xs ++ leaf path next ∷ ys) rest now s t d

  -- what is known of the server
  pub serves_it : (old : Stage) → Was old → ServesOne p n m o w now old × IsKept s old
  serves_it old all = serve_of p n m o w now s xs ys (leaf path old) all.serve

  pub silently : (old next : Stage) → Was old → d.output ≡ [] → afterwards d s ≡ s
      → waiting next ≡ waiting old → running next ≡ running old → owes next ≡ owes old
      → is_free next ≡ is_free old → IsCalm next → ServesOne p n m o w now next → IsKept s next
      → ((number : ℕ) (v : Term) (asked : Paths) → IsRunAs p n m o w number asked v old
      → IsRunAs p n m o w number asked v next)
      → On next
  silently old next all silent same wait run owe free calm serves kept move =
      no_event w silent
      (quiet_alike p n m o g w first stage xs ys path old next rest now s (afterwards d s) t all same
      wait run owe free calm serves kept move)

  paidly : (old next : Stage) → Was old → d ≡ paid 1
      → waiting next ≡ waiting old → running next ≡ running old → owes next ≡ owes old
      → is_free next ≡ is_free old → IsCalm next → ServesOne p n m o w now next → IsKept s next
      → ((number : ℕ) (v : Term) (asked : Paths) → IsRunAs p n m o w number asked v old
      → IsRunAs p n m o w number asked v next)
      → On next
  paidly old next all e wait run owe free calm serves kept move =
      silently old next all (ap (λ (y : Effect). y.output) e) (ap (λ y. afterwards y s) e) wait run
      owe free calm serves kept move

  pub from_called : (next : Stage) → Was called → Follows p n s q d called next → On next
  from_called asking all f =
      paidly called asking all f refl refl refl refl tt tt tt (λ number v asked h. absurd h)
  from_called _ all f = absurd f

  pub from_asking : (next : Stage) → Was asking → Follows p n s q d asking next → On next
  from_asking (trying form) all f =
      paidly asking (trying form) all f.1 refl refl refl refl tt
      (λ seen body e. absurd (not_asleep n form seen body (taking n) f.0 e)) tt
      (λ number v asked h. absurd h)
  from_asking _ all f = absurd f

  pub from_got : (v : Value) (next : Stage) → Was (got v) → Follows p n s q d (got v) next → On next
  from_got v (looking y) all f =
      subst (λ z. On (looking z)) (sym f.0)
      (paidly (got v) (looking v) all f.1 refl refl refl refl tt (serves_it (got v) all).0 tt
      (λ number z asked h. absurd h))
  from_got v _ all f = absurd f

  pub from_looking : (v : Value) (next : Stage) → Was (looking v)
      → Follows p n s q d (looking v) next → On next
  from_looking v (sent l) all f =
      let place = object_is_in n v l f.0 in
      paidly (looking v) (sent l) all f.1 (sym place) refl
      (sym (ap (λ ls. one_or_none (ls ++ [])) place)) refl tt (is_new (serves_it (looking v) all).0)
      tt (λ number z asked h. absurd h)
    where
      is_new : ServesOne p n m o w now (looking v) → IsNew now l
      is_new (inl h) = subst (IsNew now) (one_place n v h.0 l h.1 f.0) h.2
      is_new (inr h) =
          let z : [] ≡ l ∷ [] = sym (none_in v h.0) ∙ object_is_in n v l f.0 in absurd cc
  from_looking v (done y) all f = go (serves_it (looking v) all).0
    where
      go : ServesOne p n m o w now (looking v) → On (done y)
      go (inl h) = let z : true ≡ false = sym h.3 ∙ f.0 in absurd cc
      go (inr h) =
          paidly (looking v) (done y) all f.2 (sym (none_in v h.0)) refl
          (sym (ap (λ ls. one_or_none (ls ++ [])) (none_in v h.0))) refl (unit, f.1) tt tt
          (λ number z asked h. absurd h)
  from_looking v _ all f = absurd f

  pub from_sent : (l : ℕ) (next : Stage) → Was (sent l) → Follows p n s q d (sent l) next → On next
  from_sent l (reads i) all f =
      subst (λ z. On (reads z)) (sym f.0)
      (paidly (sent l) (reads l) all f.1 refl refl refl refl tt (serves_it (sent l) all).0 tt
      (λ number z asked h. absurd h))
  from_sent l _ all f = absurd f

  -- a thread that is run comes to something else
  runs_as : (l : ℕ) (old next : Stage) → ((number : ℕ) (v : Term) (asked : Paths)
      → IsRunAs p n m o w number asked v old → IsRunAs p n m o w number asked v next)
      → RunsOne p n m o w now l old → RunsOne p n m o w now l next
  runs_as l old next move h = (h.0, h.1, h.2, h.3, h.4, move h.0 h.1 h.2 h.5)

  pub ends_at : (l : ℕ) (u : Term) (x : Value) → u ≡ term.Value x → (number : ℕ) (v : Term)
      (asked : Paths) → IsRunAs p n m o w number asked v (runs l u)
      → IsRunAs p n m o w number asked v (keeps l (at_value x))
  ends_at l u x e number v asked h =
      let r = finished_match p n m o w (thread_spot number) asked [] u v h (ends.value x e) in
      (sym r.0 ∙ e, tt, value_private (subst (Private p n m (ground_of w)) e r.1))

  pub throws_at : (l : ℕ) (u : Term) (x : Value) → u ≡ throw_of x → has_type p x n.exception ≡ true
      → (number : ℕ) (v : Term) (asked : Paths) → IsRunAs p n m o w number asked v (runs l u)
      → IsRunAs p n m o w number asked v (caught l x)
  throws_at l u x e typed number v asked h =
      let r = finished_match p n m o w (thread_spot number) asked [] u v h (ends.throw x e) in
      (sym r.0 ∙ e, typed, throw_private (subst (Private p n m (ground_of w)) e r.1))

  pub from_runs : (l : ℕ) (u : Term) (next : Stage) → Was (runs l u)
      → Follows p n s q d (runs l u) next → IsOwnPick p n (runs l u) next → On next
  from_runs l u (runs i v) all f own =
      absurd (own.no_run l u v refl (ap (λ z. runs z v) f.0))
  from_runs l u (keeps i (at_value x)) all f own =
      subst (λ z. On (keeps z (at_value x))) (sym f.0)
      (paidly (runs l u) (keeps l (at_value x)) all f.2 refl refl refl refl tt
      (runs_as l (runs l u) (keeps l (at_value x)) (ends_at l u x f.1) (serves_it (runs l u) all).0)
      tt (ends_at l u x f.1))
  from_runs l u (caught i x) all f own =
      let typed = own.exceptions l x (ap (runs l) f.1) in
      subst (λ z. On (caught z x)) (sym f.0)
      (paidly (runs l u) (caught l x) all f.2 refl refl refl refl tt
      (runs_as l (runs l u) (caught l x) (throws_at l u x f.1 typed) (serves_it (runs l u) all).0) tt
      (throws_at l u x f.1 typed))
  from_runs l u _ all f own = absurd f

  pub from_caught : (l : ℕ) (x : Value) (next : Stage) → Was (caught l x)
      → Follows p n s q d (caught l x) next → On next
  from_caught l x (keeps i (at_throw y)) all f =
      subst (λ z. On (keeps z (at_throw y))) (sym f.0)
      (subst (λ z. On (keeps l (at_throw z))) (sym f.1)
      (paidly (caught l x) (keeps l (at_throw x)) all f.3 refl refl refl refl tt
      (runs_as l (caught l x) (keeps l (at_throw x)) (λ number v asked h. h)
      (serves_it (caught l x) all).0) tt (λ number v asked h. h)))
  from_caught l x (lost y) all f =
      let h = (serves_it (caught l x) all).0 in
      let z : true ≡ false = sym h.5.1 ∙ f.1 in absurd cc
  from_caught l x _ all f = absurd f

  pub from_has_kept : (l : ℕ) (end : End) (next : Stage) → Was (has_kept l end)
      → Follows p n s q d (has_kept l end) next → On next
  from_has_kept l end (marks i other) all f =
      let h = serves_it (has_kept l end) all in
      subst (λ z. On (marks z other)) (sym f.0)
      (subst (λ z. On (marks l z)) (sym f.1)
      (paidly (has_kept l end) (marks l end) all f.2 refl refl refl refl tt
      (runs_as l (has_kept l end) (marks l end) (λ number v asked h. h) h.0) h.1
      (λ number v asked h. h)))
  from_has_kept l end _ all f = absurd f

  pub from_has_marked : (l : ℕ) (end : End) (next : Stage) → Was (has_marked l end)
      → Follows p n s q d (has_marked l end) next → On next
  from_has_marked l (at_value v) stages.leaves all f =
      paidly (has_marked l (at_value v)) stages.leaves all f refl refl refl refl tt tt tt
      (λ number v asked h. absurd h)
  from_has_marked l (at_throw v) (counts form) all f =
      paidly (has_marked l (at_throw v)) (counts form) all f.1 refl refl refl refl tt tt tt
      (λ number v asked h. absurd h)
  from_has_marked l _ _ all f = absurd f

  pub from_leaves : (next : Stage) → Was stages.leaves → Follows p n s q d stages.leaves next
      → On next
  from_leaves (counts form) all f =
      paidly stages.leaves (counts form) all f.1 refl refl refl refl tt tt tt
      (λ number v asked h. absurd h)
  from_leaves _ all f = absurd f
