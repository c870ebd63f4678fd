-- What matches still matches where others went on.
use Rattle.std.proofs.Common.{◌≡◌, ℕ, ◌+◌, ◌<◌, ◌≤◌, true, List, [], ◌∷◌, ◌++◌, length, Option, None, Some, cond, refl, ap, sym, ◌∙◌, subst, ◌⊎◌, inl, inr, arith, append_assoc, append-nil, length-append}
use Rattle.std.specs.Prelude.{map}
use Rattle.fort_base.specs.declared.ids.Loc.{Loc}
use Rattle.fort_core.specs.declared.program.Program.{Program}
use Rattle.fort_core.specs.declared.term.Term.{Term, Asleep}
use Rattle.fort_core.specs.declared.term.Term.TheVariants.{Variable, outs-Variable}
use Rattle.fort_core.specs.declared.value.Value.{Value, Truth}
use Rattle.fort_machine.specs.Ends.{standing_at}
use Rattle.fort_machine.specs.Frames.{Frame, on, plug, with_mark}
use Rattle.fort_machine.specs.Marked.{Marks, In}
use Rattle.fort_machine.specs.Parts.{IsOneOf}
use Rattle.fort_threads.specs.Threads.{Paths}
use Rattle.fort_threads_law_servers.specs.Prelude.{Names}
use Rattle.fort_threads_law_servers.specs.Calls.{Place, makes_it, has_it, adds, was_refused, calls_wait, waits_in, has_waited, reads_mark, compares, is_told, reads_thrown, has_thrown, reads_kept}
use Rattle.fort_threads_law_servers.specs.Stages.{End}
use Rattle.fort_threads_law_servers.specs.Roots.{Start}
use Rattle.fort_threads_law_private.specs.Grounds.{Grows}
use Rattle.fort_threads_law_private.specs.Private.{Private, no_terms, AllPrivateValues, no_values}
use Rattle.fort_threads_law_private.proofs.Growing.{private_grows, value_grows, values_grow}
use Rattle.fort_threads_law_private.proofs.Values.{private_at}
use Rattle.fort_threads_law_private.proofs.Frames.{plug_private}
use Rattle.fort_threads_law_worlds.specs.Worlds.{Spot, IsAtOrIn, Use, unused, for_all, part_of, of_prelude, is_for_all, Stage, in_flight, given, Object, object, World, given_function, ground_of, IsGiven, HasCome, FollowsAt}
use Rattle.fort_threads_law_worlds.specs.Known.{Own}
use Rattle.fort_threads_law_worlds.specs.Effects.{WatchOpen, open_marks}
use Rattle.fort_threads_law_matches.specs.Ways.{Spawns, Gets, IsUnderWay, spawns, waits, gets, asks, starts, IsAhead, was_added, has_looked}
use Rattle.fort_threads_law_matches.specs.Matches.{IsInOrder, Matches, same, sleeps, under_way, ahead, within, many, pair, IsBeside, as_it_is, marked, AllBeside, no_parts, next_part}
use Rattle.fort_threads_law_matches.specs.Placed.{KeepsOthers}
use Rattle.fort_threads_law_matches.proofs.Nodes.{line_number}

pub used_for_all : (x : Use) → is_for_all x ≡ true → x ≡ for_all
used_for_all unused e = absurd cc
used_for_all for_all e = refl
used_for_all (part_of l place) e = absurd cc
used_for_all of_prelude e = absurd cc

-- what is given, of an object
data GivenWith (x : Option Object) (f : Value) : Type 0 where
  by_end : (end : Option End) → x ≡ Some (object f (given end)) → GivenWith x f

stage_of : (ob : Object) (st : Stage) (f : Value) → ob.stage ≡ st
    → given_function (Some ob) ≡ Some f → GivenWith (Some ob) f
stage_of ob (in_flight spot) f q e =
    let z : None ≡ Some f = sym (ap (λ s. given_function (Some (object ob.function s))) q) ∙ e in
    absurd cc
stage_of ob (given end) f q e =
    let z : Some ob.function ≡ Some f =
    sym (ap (λ s. given_function (Some (object ob.function s))) q) ∙ e in
    let y : ob.function ≡ f = cc in
    by_end end (λ i. Some (object (y i) (q i)))

given_with : (x : Option Object) (f : Value) → given_function x ≡ Some f → GivenWith x f
given_with None f e = absurd cc
given_with (Some ob) f e = stage_of ob ob.stage f refl e

module _ {spot : Spot} {w later : World} (fol : FollowsAt spot w later) where
  stays_for_all : (l : ℕ) → w.serves l ≡ for_all → later.serves l ≡ for_all
  stays_for_all l e =
      fol.uses l (λ q. let z : for_all ≡ unused = sym e ∙ q in cc) ∙ e

  -- the ground has grown
  pub ground_follows : Grows (ground_of w) (ground_of later)
  ground_follows =
      record {
        stay_open = λ l e. ap is_for_all (stays_for_all l (used_for_all (w.serves l) e));
        stay = λ l f e. go l f (given_with (w.object l) f e);
      }
    where
      go : (l : ℕ) (f : Value) → GivenWith (w.object l) f
          → given_function (later.object l) ≡ Some f
      go l f (by_end end q) = ap given_function (fol.given l f end q).1

  pub given_follows : (l : ℕ) → IsGiven w l → IsGiven later l
  given_follows l g = let k = fol.given l g.0 g.1 g.2 in (g.0, k.0, k.1)

  pub come_follows : (l : ℕ) (end : End) → HasCome w l end → HasCome later l end
  come_follows l end g =
      let k = fol.given l g.0 (Some end) g.1 in
      (g.0, k.1 ∙ ap (λ x. Some (object g.0 (given x))) k.2)

  marks_follow : (marks : Marks) → ((l : ℕ) (x : Value) → In l x marks → w.serves l ≡ unused → ⊥)
      → open_marks later marks ≡ open_marks w marks
  marks_follow [] used = refl
  marks_follow (mark ∷ marks) used =
      let rest = marks_follow marks (λ l x i. used l x (inr i)) in
      let e : later.serves mark.0.0 ≡ w.serves mark.0.0 =
      fol.uses mark.0.0 (used mark.0.0 mark.1 (inl (refl, refl))) in
      λ i. cond (is_for_all (e i)) (mark ∷ rest i) (rest i)

  used_follows : (marks : Marks) → ((l : ℕ) (x : Value) → In l x marks → w.serves l ≡ unused → ⊥)
      → (l : ℕ) (x : Value) → In l x marks → later.serves l ≡ unused → ⊥
  used_follows marks used l x i e =
      used l x i (sym (fol.uses l (used l x i)) ∙ e)

  few_follow : 64 ≤ w.spawned → 64 ≤ later.spawned
  few_follow h = let k : w.spawned ≤ later.spawned = fol.spawned in omega arith

  watch_follows : (m : Start) (marks : Marks) → WatchOpen m w marks → WatchOpen m later marks
  watch_follows m marks h l v i = go (h l v i)
    where
      go : (w.serves l ≡ for_all) ⊎ ((l ≡ m.started) × (v ≡ Truth true))
          → (later.serves l ≡ for_all) ⊎ ((l ≡ m.started) × (v ≡ Truth true))
      go (inl e) = inl (stays_for_all l e)
      go (inr e) = inr e

  module _ (p : Program) (n : Names) (m : Start) (o : Own) where
    spawns_follow : (at : Spot) (f : Value) (place : Place) → (IsAtOrIn spot at → ⊥)
        → Spawns p n m w at f place → Spawns p n m later at f place
    spawns_follow at f (makes_it g) apart h = (h.0, value_grows h.1 ground_follows)
    spawns_follow at f (has_it l) apart h = fol.flying l f at h apart
    spawns_follow at f (adds l form) apart h = (fol.flying l f at h.0 apart, h.1)
    spawns_follow at f (was_refused l thrown) apart h =
        (fol.flying l f at h.0 apart, h.1, few_follow h.2)
    spawns_follow at f _ apart h = absurd h

    gets_follow : (l : ℕ) (place : Place) → Gets n w l place → Gets n later l place
    gets_follow l (calls_wait k) h = h
    gets_follow l (waits_in k form) h = h
    gets_follow l (has_waited k v) h = (h.0, (h.1.0, come_follows l h.1.0 h.1.1))
    gets_follow l (reads_mark k) h = (h.0, (h.1.0, come_follows l h.1.0 h.1.1))
    gets_follow l (compares k mark) h = (h.0, (h.1.0, come_follows l h.1.0 h.1.1, h.1.2))
    gets_follow l (is_told k threw) h = (h.0, (h.1.0, come_follows l h.1.0 h.1.1, h.1.2))
    gets_follow l (reads_thrown k) h = (h.0, (h.1.0, come_follows l _ h.1.1))
    gets_follow l (has_thrown thrown) h = come_follows l _ h
    gets_follow l (reads_kept k) h = (h.0, (h.1.0, come_follows l _ h.1.1))
    gets_follow l _ h = absurd h

    pub way_follows : (at : Spot) (u v : Term) → (IsAtOrIn spot at → ⊥)
        → IsUnderWay p n m o w at u v → IsUnderWay p n m o later at u v
    way_follows at u v apart (spawns f place h e q) =
        spawns f place (spawns_follow at f place apart h) e q
    way_follows at u v apart (waits l g h k q) = waits l (given_follows l g) h k q
    way_follows at u v apart (gets l place g h e q) =
        gets l place (given_follows l g) (gets_follow l place h) e q
    way_follows at u v apart (asks l g e q) = asks l (given_follows l g) e q
    way_follows at u v apart (starts place e q h t) =
        starts place e q (private_grows h ground_follows) t

    pub ahead_follows : (u : Term) (x : Value) → IsAhead n w u x → IsAhead n later u x
    ahead_follows u x (was_added l y g e q) = was_added l y (given_follows l g) e q
    ahead_follows u x (has_looked k s e q) = has_looked k s e q

-- neither does anything happen at a path or below it, nor is a path there forgotten
abbrev pub IsApart : Spot → Spot → List ℕ → Type 0
IsApart spot here path = (r : List ℕ) → IsAtOrIn spot ((path ++ r) ∷ here) → ⊥

abbrev pub AreKept : Paths → Paths → List ℕ → Type 0
AreKept asked later path = (r : List ℕ) → IsOneOf (path ++ r) asked → IsOneOf (path ++ r) later

apart_below : (spot here : Spot) (path : List ℕ) (i : ℕ) → IsApart spot here path
    → IsApart spot here (path ++ i ∷ [])
apart_below spot here path i h r k =
    h (i ∷ r) (subst (λ q. IsAtOrIn spot (q ∷ here)) (append_assoc path (i ∷ []) r) k)

kept_below : (asked later : Paths) (path : List ℕ) (i : ℕ) → AreKept asked later path
    → AreKept asked later (path ++ i ∷ [])
kept_below asked later path i h r k =
    subst (λ q. IsOneOf q later) (sym (append_assoc path (i ∷ []) r))
    (h (i ∷ r) (subst (λ q. IsOneOf q asked) (append_assoc path (i ∷ []) r) k))

apart_here : (spot here : Spot) (path : List ℕ) → IsApart spot here path
    → IsAtOrIn spot (path ∷ here) → ⊥
apart_here spot here path h k =
    h [] (subst (λ q. IsAtOrIn spot (q ∷ here)) (sym (append-nil path)) k)

kept_here : (asked later : Paths) (path : List ℕ) → AreKept asked later path
    → IsOneOf path asked → IsOneOf path later
kept_here asked later path h k =
    subst (λ q. IsOneOf q later) (append-nil path)
    (h [] (subst (λ q. IsOneOf q asked) (sym (append-nil path)) k))

asked_follows : {spot : Spot} {w later : World} (fol : FollowsAt spot w later) (m : Start)
    (asked asked' : Paths) (path : List ℕ) (marks : Marks) → AreKept asked asked' path
    → IsOneOf path asked ⊎ WatchOpen m w marks → IsOneOf path asked' ⊎ WatchOpen m later marks
asked_follows fol m asked asked' path marks kept (inl i) =
    inl (kept_here asked asked' path kept i)
asked_follows fol m asked asked' path marks kept (inr h) = inr (watch_follows fol m marks h)

-- what leaves the prelude alone round a part
abbrev pub IsRound : Program → Names → Start → World → Frame → Type 0
IsRound p n m w f =
    (t : Term) → Private p n m (ground_of w) t → Private p n m (ground_of w) (on f t)

pub line_follows : {spot : Spot} {w later : World} {p : Program} {n : Names} {m : Start}
    (fol : FollowsAt spot w later) (f : Frame) → IsInOrder f → IsRound p n m w f
    → IsRound p n m later f
line_follows {later = later} {p = p} {n = n} {m = m} fol f line h t k =
    let one = h (Variable 0) (private_at (Variable 0) _ (outs-Variable 0) tt no_terms no_values)
    in
    let z = (plug_private (f ∷ []) (Variable 0) (ap standing_at (outs-Variable 0))
    (private_grows one (ground_follows fol))).1 t k in
    subst (Private p n m (ground_of later))
    (ap (λ ns. on f (plug (with_mark ns []) t)) (line_number f line)) z

-- what matches at a path still matches, where what happened is apart from it
module _ {spot : Spot} {w later : World} (fol : FollowsAt spot w later) {p : Program} {n : Names}
    {m : Start} {o : Own} {here : Spot} {asked asked' : Paths} where
  mutual
    pub follow : {path : List ℕ} {u v : Term} → Matches p n m o w here asked path u v
        → IsApart spot here path → AreKept asked asked' path
        → Matches p n m o later here asked' path u v
    follow (same e h) apart kept = same e (private_grows h (ground_follows fol))
    follow {path} {u} {v} (sleeps marks body e f h hs used q) apart kept =
        let z = marks_follow fol marks used in
        sleeps marks body e (f ∙ ap (λ x. Asleep x body) (sym z))
        (private_grows h (ground_follows fol))
        (values_grow
        (subst (λ x. AllPrivateValues p n m (ground_of w) (map (λ (e : Loc × Value). e.1) x))
        (sym z) hs) (ground_follows fol))
        (used_follows fol marks used) (asked_follows fol m asked asked' path marks kept q)
    follow {path} {u} {v} (under_way h) apart kept =
        under_way (way_follows fol p n m o (path ∷ here) u v (apart_here spot here path apart) h)
    follow {path} {u} {v} (ahead x h e k) apart kept =
        ahead x (ahead_follows fol p n m o u x h) e (value_grows k (ground_follows fol))
    follow (within f a b line rest oa may e q h) apart kept =
        within f a b line (line_follows fol f line rest) oa may e q (follow h apart kept)
    follow (many y us vs off e q hs) apart kept =
        many y us vs off e q (all_follow hs apart kept)
    follow {path} {u} {v} (pair y a b c d off e q h k) apart kept =
        pair y a b c d off e q
        (beside_follows h (apart_below spot here path 0 apart)
        (kept_below asked asked' path 0 kept))
        (beside_follows k (apart_below spot here path 1 apart)
        (kept_below asked asked' path 1 kept))

    pub beside_follows : {path : List ℕ} {u v : Term} → IsBeside p n m o w here asked path u v
        → IsApart spot here path → AreKept asked asked' path
        → IsBeside p n m o later here asked' path u v
    beside_follows (as_it_is e h) apart kept = as_it_is e (private_grows h (ground_follows fol))
    beside_follows (marked a b oa e f h) apart kept = marked a b oa e f (follow h apart kept)

    all_follow : {path : List ℕ} {i : ℕ} {us vs : List Term}
        → AllBeside p n m o w here asked path i us vs
        → IsApart spot here path → AreKept asked asked' path
        → AllBeside p n m o later here asked' path i us vs
    all_follow no_parts apart kept = no_parts
    all_follow {path} {i} (next_part h rest) apart kept =
        next_part
        (beside_follows h (apart_below spot here path i apart)
        (kept_below asked asked' path i kept))
        (all_follow rest apart kept)

-- paths that are apart
pub cancel : (xs ys zs : List ℕ) → xs ++ ys ≡ xs ++ zs → ys ≡ zs
cancel [] ys zs e = e
cancel (x ∷ xs) ys zs e = cancel xs ys zs cc

pub apart_from : (q : List ℕ) (here : Spot) (x : List ℕ) → ((r : List ℕ) → q ≡ x ++ r → ⊥)
    → IsApart (q ∷ here) here x
apart_from q here x h r k = go k.0 k.1
  where
    go : (ways : Spot) → (x ++ r) ∷ here ≡ ways ++ q ∷ here → ⊥
    go [] e = h r cc
    go (z ∷ zs) e =
        let k : here ≡ zs ++ q ∷ here = cc in
        let l = ap length k ∙ length-append zs (q ∷ here) in
        absurd (omega arith)

pub kept_from : (q : List ℕ) (asked asked' : Paths) (x : List ℕ) → KeepsOthers q asked asked'
    → ((r : List ℕ) → q ≡ x ++ r → ⊥) → AreKept asked asked' x
kept_from q asked asked' x keeps h r i = keeps (x ++ r) (λ e. h r (sym e)) i

pub other_part : (q path : List ℕ) (k j : ℕ) (more : List ℕ) → q ≡ path ++ k ∷ more
    → (k ≡ j → ⊥) → (r : List ℕ) → q ≡ (path ++ j ∷ []) ++ r → ⊥
other_part q path k j more e n r h =
    let z : path ++ (k ∷ more) ≡ path ++ (j ∷ r) = sym e ∙ h ∙ append_assoc path (j ∷ []) r in
    let y = cancel path (k ∷ more) (j ∷ r) z in n cc

-- where steps were taken at one path, what matches elsewhere in the same machine still does
pub matches_follow : {p : Program} {n : Names} {m : Start} {o : Own} {w later : World}
    {here : Spot} {asked asked' : Paths} {u v : Term} (q x : List ℕ)
    → FollowsAt (q ∷ here) w later → KeepsOthers q asked asked'
    → ((r : List ℕ) → q ≡ x ++ r → ⊥) → Matches p n m o w here asked x u v
    → Matches p n m o later here asked' x u v
matches_follow {here = here} {asked = asked} {asked' = asked'} q x fol keeps h k =
    follow fol k (apart_from q here x h) (kept_from q asked asked' x keeps h)

pub part_follows : {p : Program} {n : Names} {m : Start} {o : Own} {w later : World}
    {here : Spot} {asked asked' : Paths} {u v : Term} (q x : List ℕ)
    → FollowsAt (q ∷ here) w later → KeepsOthers q asked asked'
    → ((r : List ℕ) → q ≡ x ++ r → ⊥) → IsBeside p n m o w here asked x u v
    → IsBeside p n m o later here asked' x u v
part_follows {here = here} {asked = asked} {asked' = asked'} q x fol keeps h k =
    beside_follows fol k (apart_from q here x h) (kept_from q asked asked' x keeps h)

-- the parts beside one in which steps were taken
pub others_follow : {p : Program} {n : Names} {m : Start} {o : Own} {w later : World}
    {here : Spot} {asked asked' : Paths} {path : List ℕ} {i : ℕ} {us vs : List Term} (q : List ℕ)
    (k : ℕ) (more : List ℕ)
    → FollowsAt (q ∷ here) w later → KeepsOthers q asked asked' → q ≡ path ++ k ∷ more
    → (k < i) ⊎ (i + length us ≤ k) → AllBeside p n m o w here asked path i us vs
    → AllBeside p n m o later here asked' path i us vs
others_follow q k more fol keeps e out no_parts = no_parts
others_follow {path = path} {i = i} q k more fol keeps e out
    (next_part {u = u} {us = us} h rest) =
    next_part (part_follows q (path ++ i ∷ []) fol keeps
    (other_part q path k i more e (not_it out)) h)
    (others_follow q k more fol keeps e (next out) rest)
  where
    not_it : (k < i) ⊎ (i + length (u ∷ us) ≤ k) → k ≡ i → ⊥
    not_it (inl l) z = omega arith
    not_it (inr l) z = omega arith

    next : (k < i) ⊎ (i + length (u ∷ us) ≤ k) → (k < i + 1) ⊎ ((i + 1) + length us ≤ k)
    next (inl l) = inl (omega arith)
    next (inr l) = inr (omega arith)

-- where steps were taken in another machine, what matches in this one still does
pub elsewhere_follow : {p : Program} {n : Names} {m : Start} {o : Own} {w later : World}
    {here : Spot} {asked : Paths} {u v : Term} (spot : Spot) (x : List ℕ)
    → FollowsAt spot w later → ((r : List ℕ) → IsAtOrIn spot (r ∷ here) → ⊥)
    → Matches p n m o w here asked x u v → Matches p n m o later here asked x u v
elsewhere_follow spot x fol h k = follow fol k (λ r i. h (x ++ r) i) (λ r i. i)
