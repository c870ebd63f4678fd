-- Where somebody is awake in the machine with threads, somebody is in the machine.
use Rattle.std.proofs.Common.{◌≡◌, ℕ, List, [], ◌∷◌, ◌++◌, None, Some, refl, ap, sym, ◌∙◌, subst, ◌⊎◌, inl, inr}
use Rattle.fort_core.specs.declared.program.Program.{Program}
use Rattle.fort_core.specs.declared.term.Term.{Term, Stepped}
use Rattle.fort_core.specs.declared.term.Term.TheVariants.{outs-Asleep, outs-Stepped, outs-Also, outs-Call, outs-Group}
use Rattle.fort_core.specs.declared.value.Value.{Value}
use Rattle.fort_machine.specs.Effects.{Store}
use Rattle.fort_machine.specs.Ends.{open_yet, standing_at, standing, Finished, values_of, group, stepped}
use Rattle.fort_machine.specs.Frames.{Frame, in_throw, in_stepped, on}
use Rattle.fort_machine.proofs.Standing.{decide, not_finished, values_open, stepped_open}
use Rattle.fort_machine.proofs.Places.{plug_open, ready_open, on_open}
use Rattle.fort_machine.proofs.Resting.{Grouped, as_form, as_value, grouped}
use Rattle.fort_threads.specs.Threads.{Paths}
use Rattle.fort_threads_law_servers.specs.Prelude.{Names}
use Rattle.fort_threads_law_servers.specs.Roots.{Start}
use Rattle.fort_threads_law_private.specs.Private.{Private, AllPrivate, no_terms, one_more}
use Rattle.fort_threads_law_worlds.specs.Worlds.{Spot, World, ground_of}
use Rattle.fort_threads_law_worlds.specs.Known.{Own}
use Rattle.fort_threads_law_matches.specs.Ways.{IsUnderWay, spawns, waits, gets, asks, starts}
use Rattle.fort_threads_law_matches.specs.Matches.{IsInOrder, IsThrowable, MayStandIn, Many, of_group, of_call, of_block, Pair, many_term, pair_term, Matches, same, sleeps, under_way, ahead, within, many, pair, IsBeside, as_it_is, marked, AllBeside, no_parts, next_part}
use Rattle.fort_threads_law_matches.proofs.Nodes.{other_open, many_frame, first_frame, second_frame, many_on, first_on, second_on}
use Rattle.fort_threads_law_matches.proofs.Open.{stays_open, pair_open}
use Rattle.fort_threads_law_matches.proofs.Own.{IsOwnForm, is_spawning, is_waiting, is_getting, is_asking, form_out}
use Rattle.fort_threads_law_matches.proofs.Placing.{line_passes}
use Rattle.fort_threads_law_matches.proofs.Acts.{marked_not_passed}
use Rattle.fort_threads_law_matches.proofs.Calling.{WakesIn, starting_wakes, ahead_wakes, wakes_under}

-- a form in order that is finished is a mark round what is
line_finished : (n : Names) (m : Start) (o : Own) (f : Frame) (a b : Term) → IsInOrder f
    → standing a ≡ open_yet → MayStandIn n m o f a
    → (IsThrowable n m o a → standing b ≡ open_yet) → Finished (on f b) → Finished b
line_finished n m o in_throw a b line oa may k fin =
    absurd (not_finished (on in_throw b) (on_open in_throw b (k (may oa))) fin)
line_finished n m o in_stepped a b line oa may k fin = go (decide b)
  where
    go : (standing b ≡ open_yet) ⊎ Finished b → Finished b
    go (inl ob) = absurd (not_finished (stepped b) (on_open in_stepped b ob) fin)
    go (inr h) = h
line_finished n m o f a b line oa may k fin =
    absurd (not_finished (on f b) (other_open f b line tt) fin)

-- no open part is marked
abbrev pub NoOpenMark : List Term → Type 0
NoOpenMark vs =
    (before behind : List Term) (c : Term) → standing c ≡ open_yet
    → vs ≡ before ++ Stepped c ∷ behind → ⊥

values_unmarked : (vs : List Term) (ws : List Value) → values_of vs ≡ Some ws → NoOpenMark vs
values_unmarked vs ws e before behind c oc q =
    let z : None ≡ Some ws = sym (values_open before behind (Stepped c)
    (ap standing_at (outs-Stepped c))) ∙ ap values_of (sym q) ∙ e in cc

many_finished : (y : Many) (vs : List Term) → Finished (many_term y vs) → NoOpenMark vs
many_finished of_group vs fin = go (grouped vs)
  where
    go : Grouped vs → NoOpenMark vs
    go (as_form e) =
        absurd (not_finished (group vs) (ap standing e ∙ ap standing_at (outs-Group vs)) fin)
    go (as_value ws e q) = values_unmarked vs ws e
many_finished (of_call set) vs fin =
    absurd (not_finished _ (ap standing_at (outs-Call set vs)) fin)
many_finished of_block vs fin = absurd (not_finished _ (ap standing_at (outs-Also vs)) fin)

-- somebody is awake in a part that is marked
pub record MarkWakes (p : Program) (n : Names) (m : Start) (w : World) (s : Store) (u : Term)
    : Type 0 where
  pub part : Term
  pub is_marked : u ≡ Stepped part
  pub wakes : WakesIn p n m w s part

pub record SomeWake (p : Program) (n : Names) (m : Start) (w : World) (s : Store)
    (us : List Term) : Type 0 where
  pub before : List Term
  pub part : Term
  pub behind : List Term
  pub are_all : us ≡ before ++ Stepped part ∷ behind
  pub wakes : WakesIn p n m w s part

wakes_open : {p : Program} {n : Names} {m : Start} {w : World} {s : Store} (a : Term)
    → WakesIn p n m w s a → standing a ≡ open_yet
wakes_open a z = ap standing z.is_term ∙ plug_open z.frames z.part (ready_open z.part z.ready)

wakes_marked : {p : Program} {n : Names} {m : Start} {w : World} {s : Store} (a : Term)
    → WakesIn p n m w s a → WakesIn p n m w s (Stepped a)
wakes_marked {p} {n} {m} {w} {s} a z =
    subst (WakesIn p n m w s) (stepped_open a (wakes_open a z)) (wakes_under in_stepped z refl)

pub some_wakes : {p : Program} {n : Names} {m : Start} {w : World} {s : Store} (y : Many)
    (us : List Term) → SomeWake p n m w s us → WakesIn p n m w s (many_term y us)
some_wakes {p} {n} {m} {w} {s} y us z =
    subst (WakesIn p n m w s)
    (sym (ap (many_term y) z.are_all ∙ many_on y z.before z.behind (Stepped z.part)))
    (wakes_under (many_frame y z.before z.behind) (wakes_marked z.part z.wakes)
    (marked_not_passed (many_frame y z.before z.behind) z.part))

pub first_wakes : {p : Program} {n : Names} {m : Start} {w : World} {s : Store} (y : Pair)
    (a b : Term) → MarkWakes p n m w s a → WakesIn p n m w s (pair_term y a b)
first_wakes {p} {n} {m} {w} {s} y a b z =
    subst (WakesIn p n m w s)
    (sym (ap (λ x. pair_term y x b) z.is_marked ∙ first_on y (Stepped z.part) b))
    (wakes_under (first_frame y b) (wakes_marked z.part z.wakes)
    (marked_not_passed (first_frame y b) z.part))

pub second_wakes : {p : Program} {n : Names} {m : Start} {w : World} {s : Store} (y : Pair)
    (a b : Term) → MarkWakes p n m w s b → WakesIn p n m w s (pair_term y a b)
second_wakes {p} {n} {m} {w} {s} y a b z =
    subst (WakesIn p n m w s)
    (sym (ap (pair_term y a) z.is_marked ∙ second_on y a (Stepped z.part)))
    (wakes_under (second_frame y a) (wakes_marked z.part z.wakes)
    (marked_not_passed (second_frame y a) z.part))

-- in a call that is none of these forms, which is one of `run`
pub way_starts : {p : Program} {n : Names} {m : Start} {o : Own} {w : World} {s : Store}
    (spot : Spot) (u v : Term) → IsUnderWay p n m o w spot u v → (IsOwnForm n v → ⊥)
    → WakesIn p n m w s u
way_starts spot u v (spawns f place h e q) none = absurd (none (is_spawning f q))
way_starts spot u v (waits l g h k q) none = absurd (none (is_waiting l q))
way_starts spot u v (gets l place g h e q) none = absurd (none (is_getting l q))
way_starts spot u v (asks l g e q) none = absurd (none (is_asking l q))
way_starts {o = o} spot u v (starts place e q h t) none = starting_wakes o u place e

module _ {p : Program} {n : Names} {m : Start} {o : Own} {w : World} {s : Store} {here : Spot}
    {asked : Paths} where
  mutual
    -- what is open in the machine and finished in the machine with threads
    pub value_wakes : {path : List ℕ} {u v : Term} → Matches p n m o w here asked path u v
        → standing u ≡ open_yet → Finished v → WakesIn p n m w s u
    value_wakes {path} {u} {v} (same e h) ou fin =
        absurd (not_finished u ou (subst Finished (sym e) fin))
    value_wakes {path} {u} {v} (sleeps marks body e f h hs used q) ou fin =
        absurd (not_finished v (ap standing f ∙ ap standing_at (outs-Asleep _ _)) fin)
    value_wakes {path} {u} {v} (under_way h) ou fin =
        way_starts (path ∷ here) u v h (λ i. not_finished v (form_out n v i) fin)
    value_wakes {path} {u} {v} (ahead x h e k) ou fin = ahead_wakes u x h
    value_wakes {path} {u} {v} (within f a b line rest oa may e q h) ou fin =
        subst (WakesIn p n m w s) (sym e)
        (wakes_under f
        (value_wakes h oa
        (line_finished n m o f a b line oa may (λ i. stays_open h oa i) (subst Finished q fin)))
        (line_passes f a line))
    value_wakes {path} {u} {v} (many y us vs off e q hs) ou fin =
        subst (WakesIn p n m w s) (sym e)
        (go (all_wake hs (many_finished y vs (subst Finished q fin))))
      where
        go : ((us ≡ vs) × AllPrivate p n m (ground_of w) us) ⊎ SomeWake p n m w s us
            → WakesIn p n m w s (many_term y us)
        go (inl k) =
            absurd (not_finished u ou
            (subst Finished (sym (e ∙ ap (many_term y) k.0 ∙ sym q)) fin))
        go (inr k) = some_wakes y us k
    value_wakes {path} {u} {v} (pair y a b c d off e q h k) ou fin =
        absurd (not_finished v (ap standing q ∙ pair_open y c d) fin)

    pub beside_wakes : {path : List ℕ} {u v : Term} → IsBeside p n m o w here asked path u v
        → ((c : Term) → standing c ≡ open_yet → v ≡ Stepped c → ⊥)
        → ((u ≡ v) × Private p n m (ground_of w) u) ⊎ MarkWakes p n m w s u
    beside_wakes (as_it_is e h) none = inl (e, h)
    beside_wakes {path} {u} {v} (marked a b oa e f h) none =
        go (decide b) (λ fin. value_wakes h oa fin)
      where
        go : (standing b ≡ open_yet) ⊎ Finished b → (Finished b → WakesIn p n m w s a)
            → ((u ≡ v) × Private p n m (ground_of w) u) ⊎ MarkWakes p n m w s u
        go (inl ob) ih = absurd (none b ob (f ∙ stepped_open b ob))
        go (inr fin) ih = inr (record { part = a; is_marked = e; wakes = ih fin })

    pub all_wake : {path : List ℕ} {i : ℕ} {us vs : List Term}
        → AllBeside p n m o w here asked path i us vs → NoOpenMark vs
        → ((us ≡ vs) × AllPrivate p n m (ground_of w) us) ⊎ SomeWake p n m w s us
    all_wake no_parts none = inl (refl, no_terms)
    all_wake {path} {i} (next_part {u = u} {v = v} {us = us} {vs = vs} h rest) none =
        go (beside_wakes h (λ c oc q. none [] vs c oc (ap (λ z. z ∷ vs) q)))
        (all_wake rest (λ before behind c oc q. none (v ∷ before) behind c oc
        (ap (λ z. v ∷ z) q)))
      where
        go : ((u ≡ v) × Private p n m (ground_of w) u) ⊎ MarkWakes p n m w s u
            → ((us ≡ vs) × AllPrivate p n m (ground_of w) us) ⊎ SomeWake p n m w s us
            → ((u ∷ us ≡ v ∷ vs) × AllPrivate p n m (ground_of w) (u ∷ us))
            ⊎ SomeWake p n m w s (u ∷ us)
        go (inr k) r =
            inr (record {
              before = [];
              part = k.part;
              behind = us;
              are_all = ap (λ z. z ∷ us) k.is_marked;
              wakes = k.wakes;
            })
        go (inl k) (inl r) = inl (λ j. (k.0 j) ∷ (r.0 j), one_more k.1 r.1)
        go (inl k) (inr r) =
            inr (record {
              before = u ∷ r.before;
              part = r.part;
              behind = r.behind;
              are_all = ap (λ z. u ∷ z) r.are_all;
              wakes = r.wakes;
            })
