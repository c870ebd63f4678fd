-- A pick within a call of the prelude.
use Rattle.std.proofs.Common.{◌≡◌, ℕ, Bool, true, false, List, [], ◌∷◌, ◌++◌, refl, ap, sym, ◌∙◌, subst, append-nil, ◌⊎◌, inl, inr}
use Rattle.fort_core.specs.declared.form.Mode.{Mode}
use Rattle.fort_core.specs.declared.pick.Pick.{Pick, Step, Attempt, out-Pick}
use Rattle.fort_core.specs.declared.pick.Pick.TheVariants.{outs-Step, outs-Attempt}
use Rattle.fort_core.specs.declared.program.Program.{Program}
use Rattle.fort_core.specs.declared.term.Term.{Term}
use Rattle.fort_machine.specs.Attempts.{Ended, goes, Closes}
use Rattle.fort_machine.specs.Effects.{Store, Effect, afterwards}
use Rattle.fort_machine.specs.Ends as ends
use Rattle.fort_machine.specs.Frames.{Frame, plug, road, passed, trodden}
use Rattle.fort_machine.specs.Journals.{MakesWithinBounds}
use Rattle.fort_machine.specs.Parts.{IsOneOf}
use Rattle.fort_machine.specs.Runs.{path_to, location}
use Rattle.fort_machine.specs.Runs as machine
use Rattle.fort_threads.specs.Known.{Known}
use Rattle.fort_threads.specs.Known as known
use Rattle.fort_threads.specs.Moves.{OwnStep, spawns, refuses, waits, gets, asks, by_itself}
use Rattle.fort_threads.specs.Runs as threads
use Rattle.fort_threads.specs.Threads.{Paths, Thread, Done, both_done, noted_at}
use Rattle.fort_threads_law_servers.specs.Prelude.{Names}
use Rattle.fort_threads_law_servers.specs.Roots.{Start}
use Rattle.fort_threads_law_servers.proofs.Turns.{Taken, a_step, an_attempt, run_of, passed_behind}
use Rattle.fort_threads_law_private.specs.Grounds.{Ground, Grows}
use Rattle.fort_threads_law_private.specs.Private.{Private}
use Rattle.fort_threads_law_private.proofs.Frames.{plug_private}
use Rattle.fort_threads_law_worlds.specs.Worlds.{Spot, World, FollowsAt, ground_of}
use Rattle.fort_threads_law_worlds.specs.Known.{Own, AreSame}
use Rattle.fort_threads_law_worlds.specs.Stores.{AreStores}
use Rattle.fort_threads_law_worlds.specs.Effects.{FindsOpen}
use Rattle.fort_threads_law_worlds.proofs.Following.{follows_outside, one_in}
use Rattle.fort_threads_law_matches.specs.Matches.{Matches, ThrowsRightly}
use Rattle.fort_threads_law_matches.specs.Placed.{Placed, KeepsOthers}
use Rattle.fort_threads_law_matches.proofs.Own.{own_form, form_not_private, form_out}
use Rattle.fort_threads_law_calls.specs.Answers.{IsCall, AnswersCall, silently, by_its_step}
use Rattle.fort_threads_law_calls.proofs.Answered.{each_call_is_answered, each_call_finds_open}
use Rattle.fort_threads_law_runs.specs.Premises.{ThrowsFinely, IsThreaded}
use Rattle.fort_threads_law_runs.specs.Told.{Told}
use Rattle.fort_threads_law_runs.specs.Told as told
use Rattle.fort_threads_law_runs.proofs.Alike.{PickAlike, nothing, takes}
use Rattle.fort_threads_law_runs.proofs.Throwing.{throws_rightly}

-- the same pick, of the part alone
moved : {p : Program} {inner : Bool} {s : Store} {pick : Pick} {fs : List Frame} {a b : Term}
    {d : Effect} (gs : List Frame) → Taken p inner s pick fs a b d
    → (x : Pick) × Taken p inner s x gs a b d
moved gs (a_step loc e l f) = (Step (path_to gs) (location loc), a_step loc refl l f)
moved gs (an_attempt m body within ended c e form bare r close) =
    (Attempt (path_to gs) within, an_attempt m body within ended c refl form bare r close)

-- what takes a step of its own is a form of its own
pub stepping_own : {p : Program} {k : Known} {standing : List Thread} {loc : ℕ} {a b : Term}
    {d : Done} → OwnStep p k standing loc a b d → known.Own p k a
stepping_own (spawns f h few e q) = known.Own.spawning f h
stepping_own (refuses f h many e q z) = known.Own.spawning f h
stepping_own (waits l end h e q z c) = known.Own.waiting l h
stepping_own (gets l end h e q z c) = known.Own.getting l h
stepping_own (asks l h e q z) = known.Own.asking l h

-- a form of its own is open, and doesn't leave the prelude alone
pub private_not_own : (p : Program) (n : Names) (m : Start) (o : Own) (k : Known) (g : Ground)
    (a : Term) → AreSame p n m o k → (ends.standing a ≡ ends.open_yet → Private p n m g a)
    → known.Own p k a → ⊥
private_not_own p n m o k g a are h i =
    let f = own_form are a i in form_not_private a f (h (form_out n a f))

module _ (p : Program) (n : Names) (m : Start) (o : Own) (k : Known) (g : Ground)
    (h : IsThreaded p n m o k g) (w : World) (here : Spot) (standing : List Thread)
    (asked : Paths) (s t : Store) (v a : Term) (fs : List Frame)
    (q : Placed p n m o k w here asked [] v fs a) (free : passed fs a ≡ false) where
  -- what matches at the place again, stands there again
  pub again : (x : World) (others : Paths) (b c : Term)
      → FollowsAt (road q.outer ∷ here) w x → KeepsOthers (road q.outer) asked others
      → Matches p n m o x here others (road q.outer) (plug (trodden q.inner) b) c
      → ThrowsFinely n m o (plug (trodden fs) b)
      → Matches p n m o x here others [] (plug (trodden fs) b) (plug (trodden q.round) c)
  again x others b c fol keeps mat fine =
      subst (λ y. Matches p n m o x here others [] y (plug (trodden q.round) c))
      (sym (q.trodden_so b))
      (q.replaced x others (plug (trodden q.inner) b) c fol keeps mat
      (throws_rightly n m o (trodden q.outer) (plug (trodden q.inner) b)
      (subst (ThrowsFinely n m o) (q.trodden_so b) fine)))

  -- the part of a term that leaves the prelude alone does so, where it is open
  pub part_private : Private p n m (ground_of w) v → ends.standing q.y ≡ ends.open_yet
      → Private p n m (ground_of w) q.y
  part_private pv e =
      (plug_private q.round q.y e (subst (Private p n m (ground_of w)) q.is_term pv)).0

  module _ (grown : Grows g (ground_of w)) (inner : Bool) (beside : List Thread)
      (pick : Pick) (b : Term) (d : Effect)
      (stores : AreStores p n m w standing s t)
      (call : IsCall p n m o w (road q.outer ∷ here) (plug q.inner a) q.y)
      (before : plug (trodden q.round) q.y ≡ plug q.round q.y)
      (one : Taken p inner s pick fs a b d) (small : MakesWithinBounds d)
      (fine : ThrowsFinely n m o (plug (trodden fs) b)) where
    abbrev pub Alike : Type 0
    Alike = PickAlike p n m o k inner w here beside standing asked s t pick v
        (plug (trodden fs) b) d

    free_inside : passed q.inner a ≡ false
    free_inside =
        passed_behind q.outer q.inner a (subst (λ gs. passed gs a ≡ false) q.are_all free)

    abbrev sole : Pick
    sole = (moved q.inner one).0

    run : machine.Runs p inner false s (sole ∷ []) (plug q.inner a)
        (goes (plug (trodden q.inner) b)) d
    run = run_of q.inner free_inside (moved q.inner one).1

    answer : (later : Term) × (goes (plug (trodden q.inner) b) ≡ goes later)
        × AnswersCall p n m o k w here asked (road q.outer) standing s t q.y later d
    answer =
        each_call_is_answered p n m o k g h.prelude h.same h.apart w here asked (road q.outer)
        standing s t inner false sole (plug q.inner a) q.y (goes (plug (trodden q.inner) b)) d grown
        stores call run small

    finds : Private p n m (ground_of w) v → FindsOpen m w d
    finds pv =
        each_call_finds_open p n m o k h.prelude h.same w (road q.outer ∷ here) standing s t inner
        false sole (plug q.inner a) q.y (goes (plug (trodden q.inner) b)) d stores call
        (part_private pv) run

    by : (later : Term) → later ≡ plug (trodden q.inner) b
        → AnswersCall p n m o k w here asked (road q.outer) standing s t q.y later d → Alike
    by later e (silently x fol mat alike st queued) =
        nothing x (follows_outside fol (one_in (road q.outer) here))
        (subst (λ y. Matches p n m o x here asked [] (plug (trodden fs) b) y)
        (before ∙ sym q.is_term)
        (again x asked b q.y fol (λ r c i. i)
        (subst (λ y. Matches p n m o x here asked (road q.outer) y q.y) e mat) fine))
        alike st queued finds
    by later e (by_its_step x loc c done fol own fits mat alike st queued bounded) =
        takes x (Step (path_to q.round) (location loc)) (plug (trodden q.round) c) done asked
        (follows_outside fol (one_in (road q.outer) here))
        (sym (ap (λ y. noted_at y done.came asked)
        (outs-Step (path_to q.round) (location loc))))
        (λ picks others i. told.by_itself pick (path_to q.round) (location loc) i)
        (λ rest r done2 i. threads.Runs.step q.round refl q.is_term (q.reached free) q.outside
        (by_itself own) fits i refl)
        (again x asked b c fol (λ r y i. i)
        (subst (λ y. Matches p n m o x here asked (road q.outer) y c) e mat) fine)
        alike st queued bounded
        (λ pv z. absurd
        (private_not_own p n m o k (ground_of w) q.y h.same (part_private pv) (stepping_own own)))

    pub call_alike : Alike
    call_alike =
        let e : goes (plug (trodden q.inner) b) ≡ goes answer.0 = answer.1 in
        let z : plug (trodden q.inner) b ≡ answer.0 = cc in by answer.0 (sym z) answer.2
