-- Picks within a call of `spawn'`, answered.
use Rattle.std.proofs.Common.{◌≡◌, ℕ, ◌+◌, ◌==◌, ◌<◌, ◌≤◌, ◌^◌, Bool, true, false, List, [], ◌∷◌, length, Some, None, pos, arith, rules, refl, ap, sym, ◌∙◌, subst}
use Rattle.fort_core.specs.declared.form.Mode.TheVariants as mode
use Rattle.fort_core.specs.declared.pick.Pick.{Pick}
use Rattle.fort_core.specs.declared.program.Program.{Program}
use Rattle.fort_core.specs.declared.term.Term.{Term, Call, Then, Atomic}
use Rattle.fort_core.specs.declared.term.Term as term
use Rattle.fort_core.specs.declared.value.Value.{Value, Small}
use Rattle.fort_machine.specs.Acts.{unit}
use Rattle.fort_machine.specs.Attempts.{fresh, Ended, goes}
use Rattle.fort_machine.specs.Effects.{Store, Effect, paid, making, FitsAll}
use Rattle.fort_machine.specs.Ends.{throw_of}
use Rattle.fort_machine.specs.Journals.{MakesWithinBounds}
use Rattle.fort_machine.specs.Runs.{Runs}
use Rattle.fort_machine.proofs.Runs.{runs_fit}
use Rattle.fort_threads.specs.Known.{Known, IsBody, object_at}
use Rattle.fort_threads.specs.Moves as moves
use Rattle.fort_threads.specs.Moves.{opening_fields, OwnStep}
use Rattle.fort_threads.specs.Threads.{Paths, Thread, new, thread}
use Rattle.fort_threads_law_servers.specs.Prelude.{Names, object_of, adding, HasPrelude}
use Rattle.fort_threads_law_servers.specs.Calls.{spawning, Place, makes_it, has_it, adds, has_added, was_refused, has_come, place_term, IsPlace, Turns}
use Rattle.fort_threads_law_servers.specs.Roots.{Start}
use Rattle.fort_threads_law_servers.specs.Stages.{Attempted}
use Rattle.fort_threads_law_servers.proofs.Calling.{each_call_follows}
use Rattle.fort_threads_law_private.specs.Apart.{KeepsApart}
use Rattle.fort_threads_law_private.specs.Grounds.{Ground, Grows}
use Rattle.fort_threads_law_private.specs.Private.{Private, PrivateValue}
use Rattle.fort_threads_law_private.proofs.Values.{thrown_private}
use Rattle.fort_threads_law_worlds.specs.Worlds.{Spot, for_all, of_prelude, in_flight, object, World, ground_of, IsGiven}
use Rattle.fort_threads_law_worlds.specs.Known.{Own, AreSame}
use Rattle.fort_threads_law_worlds.specs.Stores.{AreStores}
use Rattle.fort_threads_law_worlds.proofs.Queues.{none_queued}
use Rattle.fort_threads_law_matches.specs.Matches.{Matches, same, under_way, ahead}
use Rattle.fort_threads_law_matches.specs.Ways as ways
use Rattle.fort_threads_law_matches.specs.Ways.{Spawns, IsUnderWay, IsAhead}
use Rattle.fort_threads_law_calls.specs.Answers.{AnswersCall, silently, by_its_step}
use Rattle.fort_threads_law_calls.proofs.Going.{Goes, place_goes}
use Rattle.fort_threads_law_calls.proofs.Quiet.{quiet_is, quiet_paid, quiet_failed, own_unkept}
use Rattle.fort_threads_law_calls.proofs.Adding.{Added, is_refused, is_added, added}
use Rattle.fort_threads_law_calls.proofs.Rows.{field_made}
use Rattle.fort_threads_law_calls.proofs.Flying.{in_air, stores_air, follows_air, alike_air, object_air}
use Rattle.fort_threads_law_calls.proofs.Giving.{is_given, stores_given, queued_given, bounded_given, fits_given, follows_given, alike_given, object_given}
use Rattle.fort_threads_law_calls.proofs.Answering.{object_private, too_many_private, same_object, given_object, nothing_done, step_done, Answer}

-- the four variables of the prelude stand apart
module _ (p : Program) (n : Names) (m : Start) (o : Own) (k : Known) (first : Ground)
    (has : HasPrelude p n) (are : AreSame p n m o k) (keeps : KeepsApart p n m k first)
    (w : World) (here : Spot) (asked : Paths) (path : List ℕ) (standing : List Thread)
    (s t : Store) (grow : Grows first (ground_of w)) (h : AreStores p n m w standing s t)
    (f : Value) (v : Term) (is_form : v ≡ spawning n (Call n.make (term.Value f ∷ [])))
    (pick : Pick) where
  abbrev spot : Spot
  spot = path ∷ here

  abbrev Answers : Term → Effect → Type 0
  Answers later d = AnswersCall p n m o k w here asked path standing s t v later d

  -- its body
  body : IsBody p k.spawn (f ∷ []) v
  body = subst (IsBody p k.spawn (f ∷ [])) (sym is_form) (are.spawns f)

  goes_on : (x : World) (place : Place) (later : Term) → Spawns p n m x spot f place
      → later ≡ place_term n place → Matches p n m o x here asked path later v
  goes_on x place later q e = under_way (ways.IsUnderWay.spawns f place q e is_form)

  -- its object is made
  made_it : (l : ℕ) (later : Term) (d : Effect) → PrivateValue p n m (ground_of w) f
      → later ≡ place_term n (has_it l) → d ≡ making l (opening_fields f) 1 → FitsAll d s
      → MakesWithinBounds d → Answers later d
  made_it l later d q e z fit small =
      subst (Answers later) (sym z)
      (silently (in_air w spot l f) (follows_air p n m w spot standing s t l f h fit' ends q)
      (goes_on (in_air w spot l f) (has_it l) later
      (object_air p n m w spot standing s t l f h fit' ends q) e)
      (alike_air p n m w spot standing s t l f h fit' ends q)
      (stores_air p n m w spot standing s t l f h fit' ends q)
      (none_queued w (in_air w spot l f) refl refl refl))
    where
      fit' : FitsAll (making l (opening_fields f) 1) s
      fit' = subst (λ x. FitsAll x s) z fit

      ends : l + 4 ≤ 2 ^ 64
      ends =
          let a = subst MakesWithinBounds z small (l + 3) (Some unit)
          (field_made l f 1 3 unit refl) in
          let b : l + 3 < 2 ^ 64 = a in omega arith

  module _ (l : ℕ) (flies : w.object l ≡ Some (object f (in_flight spot))) where
    -- its attempt comes to an end
    tried_it : (b later : Term) (d : Effect) → later ≡ Then b (term.Value (object_of n l))
        → Attempted p s (adding n l) b d → Answers later d
    tried_it b later d e a =
        by_end
        (added p n has are.apart.0 are.apart.1 s w.spawned w.unended l h.queued.0 h.count
        h.few h.unended few_unended h.queued.1 b d a)
      where
        few_unended : w.unended ≤ 65
        few_unended =
            let x : w.unended ≤ 1 + w.spawned = h.unended_few in
            let y : w.spawned ≤ 64 = h.few in omega arith

        as_many : (w.spawned == 64) ≡ true → 64 ≤ w.spawned
        as_many many = let y : w.spawned ≡ 64 = search (rules, many) in omega (arith, y)

        by_end : Added p n has l w.spawned w.unended h.queued.0 b d → Answers later d
        by_end (is_refused many q z) =
            nothing_done h
            (quiet_is z (quiet_failed n.count (Small (pos w.spawned))
            (λ r. let y : of_prelude ≡ for_all = sym h.own.2 ∙ r in absurd cc)
            (λ r. (h.lasting n.count r).3 refl) (own_unkept h n.count h.own.2)))
            (goes_on w (was_refused l n.too_many) later
            (flies, refl, as_many many)
            (e ∙ ap (λ x. Then x (term.Value (object_of n l))) q))
        by_end (is_added few q z) =
            subst (Answers later) (sym z)
            (by_its_step x l (term.Value (object_at k l))
            (record {
              effect = making l (opening_fields f) 1;
              added = thread (Some l) (new f) ∷ [];
              came = true;
            })
            (follows_given p n m w spot standing s t l f h.queued.0 h flies few h.queued.1
            h.queued.2
            are.apart.0 are.apart.1 are.apart.2 has.apart are.apart.3 are.apart.4)
            (moves.OwnStep.spawns f body (fewer few) refl refl)
            (fits_given p n m w spot standing s t l f h.queued.0 h flies few h.queued.1 h.queued.2
            are.apart.0 are.apart.1 are.apart.2 has.apart are.apart.3 are.apart.4)
            (ahead (object_of n l)
            (ways.IsAhead.was_added l unit is_there
            (e ∙ ap (λ y. Then y (term.Value (object_of n l))) q) refl)
            (ap term.Value (sym (same_object are l)))
            (object_private l keeps (given_object x l is_there)))
            (alike_given p n m w spot standing s t l f h.queued.0 h flies few h.queued.1 h.queued.2
            are.apart.0 are.apart.1 are.apart.2 has.apart are.apart.3 are.apart.4)
            (stores_given p n m w spot standing s t l f h.queued.0 h flies few h.queued.1 h.queued.2
            are.apart.0 are.apart.1 are.apart.2 has.apart are.apart.3 are.apart.4)
            (queued_given p n m w spot standing s t l f h.queued.0 h flies few h.queued.1 h.queued.2
            are.apart.0 are.apart.1 are.apart.2 has.apart are.apart.3 are.apart.4)
            (bounded_given p n m w spot standing s t l f h.queued.0 h flies few h.queued.1
            h.queued.2
            are.apart.0 are.apart.1 are.apart.2 has.apart are.apart.3 are.apart.4))
          where
            x : World
            x = is_given w l f

            is_there : IsGiven x l
            is_there = (
              f,
              None,
              object_given p n m w spot standing s t l f h.queued.0 h flies few h.queued.1
                  h.queued.2 are.apart.0 are.apart.1 are.apart.2 has.apart are.apart.3 are.apart.4,
            )

            fewer : (w.spawned == 64) ≡ false → length standing ≤ 64
            fewer few =
                let a : w.spawned ≤ 64 = h.few in
                let b : w.spawned ≡ 64 → ⊥ = λ r.
                let y : (w.spawned == 64) ≡ true = search (rules, r) in
                let c : true ≡ false = sym y ∙ few in absurd cc in
                let c : length standing ≡ 1 + w.spawned = h.standing_count in
                grind (arith, b)

    -- it was refused, and the throw comes out
    refused_it : (later : Term) (d : Effect) → 64 ≤ w.spawned → later ≡ throw_of n.too_many
        → d ≡ paid 1 → Answers later d
    refused_it later d many e z =
        step_done h (quiet_is z (quiet_paid w s 1))
        (moves.OwnStep.refuses f body more refl refl refl)
        (same later_is (subst (Private p n m (ground_of w)) (sym e)
        (thrown_private (too_many_private are keeps grow))))
      where
        later_is : later ≡ throw_of k.too_many
        later_is = e ∙ ap throw_of (sym are.too_many)

        more : 64 < length standing
        more = let x : length standing ≡ 1 + w.spawned = h.standing_count in omega (arith, many)

  -- ---- place by place

  -- what an attempt leads to
  attempt_of : (l : ℕ) (form : Term) (next : Place) (u : Term) (d : Effect)
      → u ≡ place_term n next → Turns p n s pick d (adds l form) next
      → (b : Term) × (u ≡ Then b (term.Value (object_of n l))) × Attempted p s (adding n l) b d
  attempt_of l form (adds i b) u d e q =
      (b, e ∙ ap (λ j. Then b (term.Value (object_of n j))) q.0, q.1)
  attempt_of l form (has_added i x) u d e q =
      (term.Value x, e ∙ ap (λ j. Then (term.Value x) (term.Value (object_of n j))) q.0, q.1)
  attempt_of l form (was_refused i x) u d e q =
      (throw_of x, e ∙ ap (λ j. Then (throw_of x) (term.Value (object_of n j))) q.0, q.1)
  attempt_of l form _ u d e q = absurd q

  by_place : (place : Place) (u : Term) (d : Effect) → Spawns p n m w spot f place
      → Runs p false false s (pick ∷ []) (place_term n place) (goes u) d → FitsAll d s
      → MakesWithinBounds d → Answers u d
  by_place (makes_it g) u d q run fit small =
      let j = each_call_follows p n has s pick (makes_it g) u d tt tt run in
      go j.0 j.2 j.3
    where
      go : (next : Place) → u ≡ place_term n next → Turns p n s pick d (makes_it g) next
          → Answers u d
      go (has_it l) e z =
          made_it l u d q.1 e (z ∙ ap (λ x. making l (opening_fields x) 1) q.0) fit small
      go _ e z = absurd z
  by_place (has_it l) u d q run fit small =
      let j = each_call_follows p n has s pick (has_it l) u d tt tt run in
      go j.0 j.2 j.3
    where
      go : (next : Place) → u ≡ place_term n next → Turns p n s pick d (has_it l) next
          → Answers u d
      go (adds i form) e z =
          nothing_done h (quiet_is z.2 (quiet_paid w s 1))
          (goes_on w (adds l (Atomic mode.Atomic (adding n l))) u (q, refl)
          (e ∙ (λ j. Then (z.1 j) (term.Value (object_of n (z.0 j))))))
      go _ e z = absurd z
  by_place (adds l form) u d q run fit small =
      let j = each_call_follows p n has s pick (adds l form) u d (fresh q.1) tt run in
      let a = attempt_of l form j.0 u d j.2 j.3 in tried_it l q.0 a.0 u d a.1 a.2
  by_place (was_refused l thrown) u d q run fit small =
      let j = each_call_follows p n has s pick (was_refused l thrown) u d tt tt run in
      go j.0 j.2 j.3
    where
      go : (next : Place) → u ≡ place_term n next
          → Turns p n s pick d (was_refused l thrown) next → Answers u d
      go (has_come x) e z =
          refused_it l q.0 u d q.2 (e ∙ z.0 ∙ ap throw_of q.1) z.1
      go _ e z = absurd z
  by_place _ u d q run fit small = absurd q

  pub spawning_answered : {inner strict : Bool} {r : Ended} {d : Effect} (place : Place)
      → Spawns p n m w spot f place
      → Runs p inner strict s (pick ∷ []) (place_term n place) r d → MakesWithinBounds d
      → Answer p n m o k w here asked path standing s t v r d
  spawning_answered {r = r} {d = d} place q run small =
      let fit = runs_fit s (pick ∷ []) (place_term n place) r d run in
      let g = place_goes p n has place (is_place place q) (goes_by place q) run in
      record {
        later = g.next;
        going = g.going;
        answer = by_place place g.next d q g.run fit small;
      }
    where
      is_place : (y : Place) → Spawns p n m w spot f y → IsPlace n y
      is_place (makes_it g) q = tt
      is_place (has_it l) q = tt
      is_place (adds l form) q = fresh q.1
      is_place (was_refused l x) q = tt
      is_place _ q = absurd q

      goes_by : (y : Place) → Spawns p n m w spot f y → Goes y
      goes_by (makes_it g) q = tt
      goes_by (has_it l) q = tt
      goes_by (adds l form) q = tt
      goes_by (was_refused l x) q = tt
      goes_by _ q = absurd q
