-- Terms that match are the same, or open in the machine; and the machine with threads throws no
-- more.
use Rattle.std.proofs.Common.{◌≡◌, ℕ, Bool, true, false, ◌||◌, List, ◌∷◌, Option, None, Some, refl, ap, sym, ◌∙◌, subst, ◌⊎◌, inl, inr}
use Rattle.std.specs.Prelude.{option_map, option_and_then}
use Rattle.std.specs.List.{list_any}
use Rattle.fort_core.specs.declared.form.Mode.{Mode}
use Rattle.fort_core.specs.declared.form.Mode.TheVariants as mode
use Rattle.fort_core.specs.declared.program.Program.{Program}
use Rattle.fort_core.specs.declared.term.Term.{Term, Throw, Atomic, out-Term}
use Rattle.fort_core.specs.declared.term.Term.TheVariants.{outs-Throw, outs-Group, outs-Call, outs-Operator, outs-Apply, outs-Let, outs-ReadField, outs-Then, outs-If, outs-Typecase, outs-Atomic, outs-Asleep, outs-Stepped, outs-Also}
use Rattle.fort_core.specs.declared.term.Term.TheOpen.{Term-F}
use Rattle.fort_core.specs.declared.value.Closure.{Closure}
use Rattle.fort_core.specs.declared.value.Value.{Value, Tuple}
use Rattle.fort_machine.specs.Attempts.{Form}
use Rattle.fort_machine.specs.Ends.{Standing, open_yet, standing_at, standing, Finished, value_at, values_of, group, stepped, is_still, throws_by, is_thrown}
use Rattle.fort_machine.specs.Ends as ends
use Rattle.fort_machine.specs.Frames.{Frame, in_throw, in_stepped, on}
use Rattle.fort_machine.proofs.Standing.{decide, not_finished, standing-Value, group_open, stepped_open, stepped_finished, stepped_stays_open, still_stepped, open_thrown}
use Rattle.fort_machine.proofs.Places.{on_open, ready_open}
use Rattle.fort_machine.proofs.Ready.{form_ready}
use Rattle.fort_machine.proofs.Resting.{Grouped, as_form, as_value, grouped}
use Rattle.fort_threads.specs.Threads.{Paths}
use Rattle.fort_threads_law_servers.specs.Prelude.{Names, waiting}
use Rattle.fort_threads_law_servers.specs.Calls.{Place, makes_it, has_it, adds, was_refused, calls_wait, waits_in, has_waited, reads_mark, compares, is_told, reads_thrown, has_thrown, reads_kept, place_term, asking}
use Rattle.fort_threads_law_servers.specs.Roots.{Start}
use Rattle.fort_threads_law_private.specs.Grounds.{Ground}
use Rattle.fort_threads_law_private.specs.Private.{Private, AllPrivate, no_terms, one_more}
use Rattle.fort_threads_law_private.proofs.Substituting.{group_private}
use Rattle.fort_threads_law_worlds.specs.Worlds.{Spot, World, ground_of}
use Rattle.fort_threads_law_worlds.specs.Known.{Own}
use Rattle.fort_threads_law_matches.specs.Ways.{Spawns, Gets, Starting, calls_main, tests_started, was_told, applies_own, calls_own, starting_term, IsUnderWay, spawns, waits, gets, asks, starts, IsAhead, was_added, has_looked}
use Rattle.fort_threads_law_matches.specs.Matches.{IsInOrder, IsThrowable, MayStandIn, Many, of_group, of_call, of_block, many_term, Pair, of_apply, of_halves, of_reduced, pair_term, Matches, same, sleeps, under_way, ahead, within, many, pair, IsBeside, as_it_is, marked, AllBeside, no_parts, next_part}
use Rattle.fort_threads_law_matches.specs.Laws.{FinishedMatch}
use Rattle.fort_threads_law_matches.proofs.Nodes.{out_pair, other_open}

-- a term stands as its form does
pub stands_as : (t : Term) (y : Term-F Term Value Closure) (st : Standing) → out-Term t ≡ y
    → standing_at y ≡ st → standing t ≡ st
stands_as t y st e h = ap standing_at e ∙ h

pub form_open : (a body : Term) (d : Mode) → Form a d body → standing a ≡ open_yet
form_open a body d h = ready_open a (form_ready a d body h)

pub asking_open : (n : Names) (a : Term) → standing (asking n a) ≡ open_yet
asking_open n a = ap standing_at (outs-Operator _ _)

pub starting_open : (n : Names) (m : Start) (o : Own) (place : Starting)
    → standing (starting_term n m o place) ≡ open_yet
starting_open n m o calls_main = ap standing_at (outs-Call _ _)
starting_open n m o tests_started = ap standing_at (outs-If _ _ _)
starting_open n m o was_told = ap standing_at (outs-If _ _ _)
starting_open n m o applies_own = ap standing_at (outs-Apply _ _)
starting_open n m o calls_own = ap standing_at (outs-Call _ _)

module _ (p : Program) (n : Names) (m : Start) (o : Own) (w : World) where
  pub spawns_open : (spot : Spot) (f : Value) (place : Place) → Spawns p n m w spot f place
      → standing (place_term n place) ≡ open_yet
  spawns_open spot f (makes_it g) h = ap standing_at (outs-Let _ _ _)
  spawns_open spot f (has_it l) h = ap standing_at (outs-Let _ _ _)
  spawns_open spot f (adds l form) h = ap standing_at (outs-Then _ _)
  spawns_open spot f (was_refused l thrown) h = ap standing_at (outs-Then _ _)
  spawns_open spot f _ h = absurd h

  pub gets_open : (l : ℕ) (place : Place) → Gets n w l place
      → standing (place_term n place) ≡ open_yet
  gets_open l (calls_wait k) h = ap standing_at (outs-Then _ _)
  gets_open l (waits_in k form) h = ap standing_at (outs-Then _ _)
  gets_open l (has_waited k v) h = ap standing_at (outs-Then _ _)
  gets_open l (reads_mark k) h = ap standing_at (outs-If _ _ _)
  gets_open l (compares k mark) h = ap standing_at (outs-If _ _ _)
  gets_open l (is_told k threw) h = ap standing_at (outs-If _ _ _)
  gets_open l (reads_thrown k) h = ap standing_at (outs-Typecase _ _ _ _)
  gets_open l (has_thrown thrown) h = ap standing_at (outs-Typecase _ _ _ _)
  gets_open l (reads_kept k) h = ap standing_at (outs-ReadField _ _)
  gets_open l _ h = absurd h

  pub under_way_open : (spot : Spot) (u v : Term) → IsUnderWay p n m o w spot u v
      → standing u ≡ open_yet
  under_way_open spot u v (spawns f place h e q) = ap standing e ∙ spawns_open spot f place h
  under_way_open spot u v (waits l g h k q) = form_open u (waiting n l) mode.Atomic h
  under_way_open spot u v (gets l place g h e q) = ap standing e ∙ gets_open l place h
  under_way_open spot u v (asks l g e q) = ap standing e ∙ asking_open n _
  under_way_open spot u v (starts place e q h t) = ap standing e ∙ starting_open n m o place

  pub ahead_open : (u : Term) (x : Value) → IsAhead n w u x → standing u ≡ open_yet
  ahead_open u x (was_added l y g e q) = ap standing e ∙ ap standing_at (outs-Then _ _)
  ahead_open u x (has_looked k s e q) = ap standing e ∙ asking_open n _

none_then : (o : Option Value)
    → option_and_then (λ (v : Value). option_map (λ (vs : List Value). v ∷ vs) None) o ≡ None
none_then None = refl
none_then (Some v) = refl

-- parts of which one is open are no values
open_none : (t : Term) (ts : List Term) → standing t ≡ open_yet → values_of (t ∷ ts) ≡ None
open_none t ts o =
    ap (λ st. option_and_then (λ
    (v : Value). option_map (λ (vs : List Value). v ∷ vs) (values_of ts)) (value_at st)) o

later_none : (t : Term) (ts : List Term) → values_of ts ≡ None → values_of (t ∷ ts) ≡ None
later_none t ts e =
    ap (λ rest. option_and_then (λ
    (v : Value). option_map (λ (vs : List Value). v ∷ vs) rest) (value_at (standing t))) e
    ∙ none_then (value_at (standing t))

-- parts beside each other are the same, or an open one is among them
abbrev AreOrOpen : Program → Names → Start → Ground → List Term → List Term → Type 0
AreOrOpen p n m g us vs = ((us ≡ vs) × AllPrivate p n m g us) ⊎ (values_of us ≡ None)

many_same : (p : Program) (n : Names) (m : Start) (g : Ground) (y : Many) (us : List Term)
    → AllPrivate p n m g us
    → (standing (many_term y us) ≡ open_yet) ⊎ Private p n m g (many_term y us)
many_same p n m g of_group us h = inr (group_private us h)
many_same p n m g (of_call set) us h = inl (ap standing_at (outs-Call _ _))
many_same p n m g of_block us h = inl (ap standing_at (outs-Also _))

many_open : (y : Many) (us : List Term) → values_of us ≡ None
    → standing (many_term y us) ≡ open_yet
many_open of_group us e = ap standing (group_open us e) ∙ ap standing_at (outs-Group us)
many_open (of_call set) us e = ap standing_at (outs-Call _ _)
many_open of_block us e = ap standing_at (outs-Also _)

pub pair_open : (y : Pair) (a b : Term) → standing (pair_term y a b) ≡ open_yet
pair_open of_apply a b = ap standing_at (out_pair of_apply a b)
pair_open of_halves a b = ap standing_at (out_pair of_halves a b)
pair_open (of_reduced set) a b = ap standing_at (out_pair (of_reduced set) a b)

or_true : (x : Bool) → (x || true) ≡ true
or_true true = refl
or_true false = refl

throw_open : (b : Term) → standing b ≡ open_yet → standing (Throw b) ≡ open_yet
throw_open b ob = ap standing_at (outs-Throw b) ∙ open_thrown (out-Term b) ob

open_not_thrown : (t : Term) → standing t ≡ open_yet → is_thrown t ≡ false
open_not_thrown t h = ap throws_by h

-- a tuple is no throw
group_not_thrown : (ts : List Term) → is_thrown (group ts) ≡ false
group_not_thrown ts = go (grouped ts)
  where
    go : Grouped ts → is_thrown (group ts) ≡ false
    go (as_form e) = ap is_thrown e ∙ ap throws_by (ap standing_at (outs-Group ts))
    go (as_value vs e q) = ap is_thrown q ∙ ap throws_by (standing-Value (Tuple vs))

many_not_thrown : (y : Many) (ts : List Term) → is_thrown (many_term y ts) ≡ false
many_not_thrown of_group ts = group_not_thrown ts
many_not_thrown (of_call set) ts = ap throws_by (ap standing_at (outs-Call _ _))
many_not_thrown of_block ts = ap throws_by (ap standing_at (outs-Also _))

stepped_not_thrown : (b : Term) → is_thrown b ≡ false → is_thrown (stepped b) ≡ false
stepped_not_thrown b h = go (decide b)
  where
    go : (standing b ≡ open_yet) ⊎ Finished b → is_thrown (stepped b) ≡ false
    go (inl ob) = open_not_thrown (stepped b) (stepped_stays_open b ob)
    go (inr f) = ap is_thrown (stepped_finished b f) ∙ h

-- what may be thrown is none of these
module _ (n : Names) (m : Start) (o : Own) where
  ahead_none : (w : World) (u : Term) (x : Value) → IsAhead n w u x → IsThrowable n m o u → ⊥
  ahead_none w u x (was_added l y g e q) i = i.no_thread l y e
  ahead_none w u x (has_looked k s e q) i = i.no_truth k e

  many_stays : (y : Many) (us vs : List Term) (u : Term) → standing u ≡ open_yet
      → u ≡ many_term y us → IsThrowable n m o u → standing (many_term y vs) ≡ open_yet
  many_stays of_group us vs u ou e i = go (grouped us)
    where
      go : Grouped us → standing (group vs) ≡ open_yet
      go (as_form q) = absurd (i.no_tuple us (e ∙ q))
      go (as_value ws h q) = absurd (not_finished u ou (ends.Finished.value (Tuple ws) (e ∙ q)))
  many_stays (of_call set) us vs u ou e i = ap standing_at (outs-Call _ _)
  many_stays of_block us vs u ou e i = ap standing_at (outs-Also _)

  line_stays : (f : Frame) (a b u : Term) → IsInOrder f → standing a ≡ open_yet
      → MayStandIn n m o f a → u ≡ on f a → IsThrowable n m o u
      → (IsThrowable n m o a → standing b ≡ open_yet) → standing (on f b) ≡ open_yet
  line_stays in_throw a b u line oa may e i k = throw_open b (k (may oa))
  line_stays in_stepped a b u line oa may e i k = absurd (i.no_mark a (e ∙ stepped_open a oa))
  line_stays f a b u line oa may e i k = other_open f b line tt

  line_not_thrown : (f : Frame) (a b : Term) → IsInOrder f → standing a ≡ open_yet
      → MayStandIn n m o f a → (IsThrowable n m o a → standing b ≡ open_yet)
      → is_thrown b ≡ false → is_thrown (on f b) ≡ false
  line_not_thrown in_throw a b line oa may k h =
      open_not_thrown (Throw b) (throw_open b (k (may oa)))
  line_not_thrown in_stepped a b line oa may k h = stepped_not_thrown b h
  line_not_thrown f a b line oa may k h = open_not_thrown (on f b) (other_open f b line tt)

-- a form of its own, or the body of `run`, is open or no throw
module _ {p : Program} {n : Names} {m : Start} {o : Own} {w : World} {spot : Spot} {u v : Term}
  where
    way_not_thrown : IsUnderWay p n m o w spot u v → is_thrown v ≡ false
    way_not_thrown (spawns f place h e q) =
        ap is_thrown q ∙ ap throws_by (ap standing_at (outs-Let _ _ _))
    way_not_thrown (waits l g h k q) =
        ap is_thrown q ∙ ap throws_by (ap standing_at (outs-Atomic _ _))
    way_not_thrown (gets l place g h e q) =
        ap is_thrown q ∙ ap throws_by (ap standing_at (outs-Then _ _))
    way_not_thrown (asks l g e q) = ap is_thrown q ∙ ap throws_by (asking_open n _)
    way_not_thrown (starts place e q h t) = ap is_thrown q ∙ t

    way_open : IsUnderWay p n m o w spot u v → IsThrowable n m o u → standing v ≡ open_yet
    way_open (spawns f place h e q) i = ap standing q ∙ ap standing_at (outs-Let _ _ _)
    way_open (waits l g h k q) i = ap standing q ∙ ap standing_at (outs-Atomic _ _)
    way_open (gets l place g h e q) i = ap standing q ∙ ap standing_at (outs-Then _ _)
    way_open (asks l g e q) i = ap standing q ∙ asking_open n _
    way_open (starts place e q h t) i = absurd (i.no_run place e)

module _ {p : Program} {n : Names} {m : Start} {o : Own} {w : World} {here : Spot} {asked : Paths}
  where
    all_or_open : {path : List ℕ} {i : ℕ} {us vs : List Term}
        → AllBeside p n m o w here asked path i us vs → AreOrOpen p n m (ground_of w) us vs
    all_or_open no_parts = inl (refl, no_terms)
    all_or_open (next_part {u = u} {v = v} {us = us} {vs = vs} h rest) = go h (all_or_open rest)
      where
        go : {q : List ℕ} → IsBeside p n m o w here asked q u v
            → AreOrOpen p n m (ground_of w) us vs → AreOrOpen p n m (ground_of w) (u ∷ us) (v ∷ vs)
        go (as_it_is e h) (inl k) = inl (λ i. (e i) ∷ (k.0 i), one_more h k.1)
        go (as_it_is e h) (inr k) = inr (later_none u us k)
        go (marked a b oa e f h) k =
            inr (open_none u us (ap standing e ∙ ap standing_at (outs-Stepped a)))

    -- what matches is the same and leaves the prelude alone, or is open in the machine
    pub matches_open : {path : List ℕ} {u v : Term} → Matches p n m o w here asked path u v
        → ((u ≡ v) × Private p n m (ground_of w) u) ⊎ (standing u ≡ open_yet)
    matches_open (same e h) = inl (e, h)
    matches_open (sleeps marks body e f h hs used q) =
        inr (ap standing e ∙ ap standing_at (outs-Asleep marks body))
    matches_open {path} {u} {v} (under_way h) = inr (under_way_open p n m o w (path ∷ here) u v h)
    matches_open {path} {u} {v} (ahead x h e k) = inr (ahead_open p n m o w u x h)
    matches_open (within f a b line rest oa may e q h) = inr (ap standing e ∙ on_open f a oa)
    matches_open {path} {u} {v} (many y us vs off e q hs) = go (all_or_open hs)
      where
        alike : us ≡ vs → (standing (many_term y us) ≡ open_yet)
            ⊎ Private p n m (ground_of w) (many_term y us)
            → ((u ≡ v) × Private p n m (ground_of w) u) ⊎ (standing u ≡ open_yet)
        alike k (inl z) = inr (ap standing e ∙ z)
        alike k (inr z) =
            inl (e ∙ ap (many_term y) k ∙ sym q, subst (Private p n m (ground_of w)) (sym e) z)

        go : AreOrOpen p n m (ground_of w) us vs
            → ((u ≡ v) × Private p n m (ground_of w) u) ⊎ (standing u ≡ open_yet)
        go (inl k) = alike k.0 (many_same p n m (ground_of w) y us k.1)
        go (inr k) = inr (ap standing e ∙ many_open y us k)
    matches_open (pair y a b c d off e q h k) = inr (ap standing e ∙ pair_open y a b)

    -- what is finished is the same
    pub finished_same : {path : List ℕ} {u v : Term} → Matches p n m o w here asked path u v
        → Finished u → (u ≡ v) × Private p n m (ground_of w) u
    finished_same {path} {u} {v} h f = go (matches_open h)
      where
        go : ((u ≡ v) × Private p n m (ground_of w) u) ⊎ (standing u ≡ open_yet)
            → (u ≡ v) × Private p n m (ground_of w) u
        go (inl k) = k
        go (inr k) = absurd (not_finished u k f)

    -- what may be thrown and is open is open in the machine with threads
    pub stays_open : {path : List ℕ} {u v : Term} → Matches p n m o w here asked path u v
        → standing u ≡ open_yet → IsThrowable n m o u → standing v ≡ open_yet
    stays_open (same e h) ou i = ap standing (sym e) ∙ ou
    stays_open (sleeps marks body e f h hs used q) ou i =
        ap standing f ∙ ap standing_at (outs-Asleep _ _)
    stays_open (under_way h) ou i = way_open h i
    stays_open {path} {u} {v} (ahead x h e k) ou i = absurd (ahead_none n m o w u x h i)
    stays_open {path} {u} {v} (within f a b line rest oa may e q h) ou i =
        ap standing q ∙ line_stays n m o f a b u line oa may e i (λ j. stays_open h oa j)
    stays_open {path} {u} {v} (many y us vs off e q hs) ou i =
        ap standing q ∙ many_stays n m o y us vs u ou e i
    stays_open (pair y a b c d off e q h k) ou i = ap standing q ∙ pair_open y c d

    -- what is open in the machine is no throw in the machine with threads
    pub not_thrown : {path : List ℕ} {u v : Term} → Matches p n m o w here asked path u v
        → standing u ≡ open_yet → is_thrown v ≡ false
    not_thrown {path} {u} {v} (same e h) ou = ap is_thrown (sym e) ∙ open_not_thrown u ou
    not_thrown (sleeps marks body e f h hs used q) ou =
        ap is_thrown f ∙ ap throws_by (ap standing_at (outs-Asleep _ _))
    not_thrown (under_way h) ou = way_not_thrown h
    not_thrown (ahead x h e k) ou = ap is_thrown e ∙ ap throws_by (standing-Value x)
    not_thrown (within f a b line rest oa may e q h) ou =
        ap is_thrown q ∙ line_not_thrown n m o f a b line oa may (λ j. stays_open h oa j)
        (not_thrown h oa)
    not_thrown (many y us vs off e q hs) ou = ap is_thrown q ∙ many_not_thrown y vs
    not_thrown {path} {u} {v} (pair y a b c d off e q h k) ou =
        ap is_thrown q ∙ open_not_thrown (pair_term y c d) (pair_open y c d)

    -- a part that throws there throws here
    pub thrown_same : {path : List ℕ} {u v : Term} → IsBeside p n m o w here asked path u v
        → is_thrown v ≡ true → u ≡ v
    thrown_same (as_it_is e h) t = e
    thrown_same (marked a b oa e f h) t =
        let z : true ≡ false =
        sym t ∙ ap is_thrown f ∙ stepped_not_thrown b (not_thrown h oa) in absurd cc

    -- a part in which no step was taken there is the same here
    pub still_same : {path : List ℕ} {u v : Term} → IsBeside p n m o w here asked path u v
        → is_still v ≡ true → u ≡ v
    still_same (as_it_is e h) t = e
    still_same (marked a b oa e f h) t =
        let z : true ≡ false = sym t ∙ ap is_still f ∙ still_stepped b in absurd cc

    pub is_still_too : {path : List ℕ} {u v : Term} → IsBeside p n m o w here asked path u v
        → is_still v ≡ true → is_still u ≡ true
    is_still_too h t = ap is_still (still_same h t) ∙ t

    pub all_thrown : {path : List ℕ} {i : ℕ} {us vs : List Term}
        → AllBeside p n m o w here asked path i us vs → list_any is_thrown vs ≡ true
        → list_any is_thrown us ≡ true
    all_thrown no_parts t = t
    all_thrown (next_part {u = u} {v = v} {us = us} {vs = vs} h rest) t =
        go (is_thrown v) refl (all_thrown rest)
      where
        go : (b : Bool) → is_thrown v ≡ b
            → (list_any is_thrown vs ≡ true → list_any is_thrown us ≡ true)
            → (is_thrown u || list_any is_thrown us) ≡ true
        go true e k = ap (λ x. x || list_any is_thrown us) (ap is_thrown (thrown_same h e) ∙ e)
        go false e k =
            ap (λ x. is_thrown u || x) (k (ap (λ x. x || list_any is_thrown vs) (sym e) ∙ t))
            ∙ or_true (is_thrown u)

pub finished_match : FinishedMatch
finished_match p n m o w here asked path u v h f = finished_same h f
