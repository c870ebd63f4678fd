-- Each pick within a call is answered.
use Rattle.std.proofs.Common.{◌≡◌, ℕ, Bool, List, [], ◌∷◌, ap, ◌∙◌, subst, inl, inr}
use Rattle.fort_core.specs.declared.pick.Pick.{Pick}
use Rattle.fort_core.specs.declared.program.Program.{Program}
use Rattle.fort_core.specs.declared.term.Term.{Term}
use Rattle.fort_core.specs.declared.term.Term.TheVariants.{outs-Atomic, outs-Let, outs-Operator, outs-Then}
use Rattle.fort_machine.specs.Attempts.{Ended}
use Rattle.fort_machine.specs.Effects.{Store, Effect}
use Rattle.fort_machine.specs.Ends as ends
use Rattle.fort_machine.specs.Journals.{MakesWithinBounds}
use Rattle.fort_machine.specs.Runs.{Runs}
use Rattle.fort_threads.specs.Known.{Known}
use Rattle.fort_threads.specs.Threads.{Paths, Thread}
use Rattle.fort_threads_law_servers.specs.Prelude.{Names, HasPrelude}
use Rattle.fort_threads_law_servers.specs.Roots.{Start}
use Rattle.fort_threads_law_private.specs.Apart.{KeepsApart}
use Rattle.fort_threads_law_private.specs.Grounds.{Ground, Grows}
use Rattle.fort_threads_law_private.specs.Private.{Private}
use Rattle.fort_threads_law_private.proofs.Shut.{not_spawning, not_waiting, not_getting, not_asking}
use Rattle.fort_threads_law_worlds.specs.Worlds.{Spot, World, ground_of}
use Rattle.fort_threads_law_worlds.specs.Known.{Own, AreSame}
use Rattle.fort_threads_law_worlds.specs.Stores.{AreStores}
use Rattle.fort_threads_law_worlds.specs.Effects.{FindsOpen}
use Rattle.fort_threads_law_matches.specs.Ways.{IsUnderWay, spawns, waits, gets, asks, starts}
use Rattle.fort_threads_law_calls.specs.Answers.{IsCall}
use Rattle.fort_threads_law_calls.specs.Laws.{EachCallIsAnswered, EachCallFindsOpen}
use Rattle.fort_threads_law_calls.proofs.Answering.{Answer}
use Rattle.fort_threads_law_calls.proofs.Spawning.{spawning_answered}
use Rattle.fort_threads_law_calls.proofs.Getting.{waiting_answered, getting_answered, asking_answered}
use Rattle.fort_threads_law_calls.proofs.Starting.{starting_answered, ahead_answered, starting_finds, ahead_finds}

module _ (p : Program) (n : Names) (m : Start) (o : Own) (k : Known) (first : Ground)
    (has : HasPrelude p n) (are : AreSame p n m o k) (keeps : KeepsApart p n m k first)
    (w : World) (here : Spot) (asked : Paths) (path : List ℕ) (standing : List Thread)
    (s t : Store) (inner strict : Bool) (pick : Pick) (u v : Term) (r : Ended) (d : Effect)
    (grow : Grows first (ground_of w)) (h : AreStores p n m w standing s t) where
  abbrev Answers : Type 0
  Answers = Answer p n m o k w here asked path standing s t v r d

  at : {b : Term} → u ≡ b → Runs p inner strict s (pick ∷ []) u r d
      → Runs p inner strict s (pick ∷ []) b r d
  at e run = subst (λ b. Runs p inner strict s (pick ∷ []) b r d) e run

  under_way_answered : IsUnderWay p n m o w (path ∷ here) u v
      → Runs p inner strict s (pick ∷ []) u r d → MakesWithinBounds d → Answers
  under_way_answered (spawns f place q e z) run small =
      spawning_answered p n m o k first has are keeps w here asked path standing s t grow h f v z
      pick place q (at e run) small
  under_way_answered (waits l known form watch z) run small =
      waiting_answered p n m o k has are w here asked path standing s t h l known v pick z u
      form run
  under_way_answered (gets l place known q e z) run small =
      getting_answered p n m o k has are w here asked path standing s t h l known v pick z place q
      (at e run)
  under_way_answered (asks l known e z) run small =
      asking_answered p n m o k has are w here asked path standing s t h l known v pick z (at e run)
  under_way_answered (starts place e z g q) run small =
      starting_answered p n m o k has are w here asked path standing s t h v pick z g q place
      (at e run)

  call_answered : IsCall p n m o w (path ∷ here) u v → Runs p inner strict s (pick ∷ []) u r d
      → MakesWithinBounds d → Answers
  call_answered (inl c) run small = under_way_answered c run small
  call_answered (inr c) run small =
      ahead_answered p n m o k has are w here asked path standing s t h v pick c.0 c.1 c.2 c.3 run

pub each_call_is_answered : EachCallIsAnswered
each_call_is_answered p n m o k first has are keeps w here asked path standing s t inner strict pick
    u v r d grow h c run small =
    let a = call_answered p n m o k first has are keeps w here asked path standing s t inner strict
    pick u v r d grow h c run small in
    (a.later, a.going, a.answer)

pub each_call_finds_open : EachCallFindsOpen
each_call_finds_open p n m o k has are w spot standing s t inner strict pick u v r d h c is_private
    run = go c
  where
    kept : {b : Term} → v ≡ b → ends.standing b ≡ ends.open_yet → Private p n m (ground_of w) b
    kept e q = subst (Private p n m (ground_of w)) e (is_private (ap ends.standing e ∙ q))

    go : IsCall p n m o w spot u v → FindsOpen m w d
    go (inl (spawns f place q e z)) =
        absurd (not_spawning f (kept z (ap ends.standing_at (outs-Let _ _ _))))
    go (inl (waits l known form watch z)) =
        absurd (not_waiting l (kept z (ap ends.standing_at (outs-Atomic _ _))))
    go (inl (gets l place known q e z)) =
        absurd (not_getting l (kept z (ap ends.standing_at (outs-Then _ _))))
    go (inl (asks l known e z)) =
        absurd (not_asking l (kept z (ap ends.standing_at (outs-Operator _ _))))
    go (inl (starts place e z g q)) =
        starting_finds p n m o k has are w standing s t h pick place
        (subst (λ b. Runs p inner strict s (pick ∷ []) b r d) e run)
    go (inr a) = ahead_finds p n m o k has are w standing s t h pick a.0 a.1 run
