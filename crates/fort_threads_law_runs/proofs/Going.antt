-- Runs of attempts' machines, and picks of the root's, are those of the machine with threads.
use Rattle.std.proofs.Common.{◌≡◌, ℕ, Bool, true, false, ◌||◌, List, [], ◌∷◌, ◌++◌, refl, ap, sym, ◌∙◌, subst, append-nil, ◌⊎◌, inl, inr}
use Rattle.fort_core.specs.declared.form.Mode.{Mode}
use Rattle.fort_core.specs.declared.pick.Pick.{Pick, Step, Attempt}
use Rattle.fort_core.specs.declared.program.Program.{Program}
use Rattle.fort_core.specs.declared.term.Term.{Term}
use Rattle.fort_machine.specs.Attempts.{Ended, goes, Form, Sleeps}
use Rattle.fort_machine.specs.Attempts as attempts
use Rattle.fort_machine.specs.Effects.{Store, Effect, idle, paid, both, afterwards}
use Rattle.fort_machine.specs.Frames.{Frame, plug, road, passed, trodden}
use Rattle.fort_machine.specs.Journals.{MakesWithinBounds}
use Rattle.fort_machine.specs.Parts.{IsOneOf}
use Rattle.fort_machine.specs.Proper.{Reached, by_run, in_attempt}
use Rattle.fort_machine.specs.Runs.{Runs, none, step, stop, attempt, path_to, location}
use Rattle.fort_machine.proofs.Ready.{local_ready, stop_ready, form_ready}
use Rattle.fort_machine.proofs.Runs.{closes_fit, runs_fit, plug_append}
use Rattle.fort_machine.proofs.WholeEffects.{both_idle}
use Rattle.fort_threads.specs.Awake.{Stirs}
use Rattle.fort_threads.specs.Known.{Known}
use Rattle.fort_threads.specs.Runs as threads
use Rattle.fort_threads.specs.Threads.{Paths, Thread, Done, only, both_done}
use Rattle.fort_threads_law_servers.specs.Prelude.{Names}
use Rattle.fort_threads_law_servers.specs.Roots.{Start}
use Rattle.fort_threads_law_servers.proofs.Turns.{Taken, a_step, an_attempt, At, pick_at, taken_ready}
use Rattle.fort_threads_law_private.specs.Grounds.{Ground, Grows}
use Rattle.fort_threads_law_private.specs.Private.{Private}
use Rattle.fort_threads_law_private.proofs.Growing.{grows_on}
use Rattle.fort_threads_law_worlds.specs.Worlds.{Spot, World, ground_of}
use Rattle.fort_threads_law_worlds.specs.Known.{Own}
use Rattle.fort_threads_law_worlds.specs.Stores.{AreStores}
use Rattle.fort_threads_law_worlds.proofs.Following.{follows_self, grounds_grow}
use Rattle.fort_threads_law_worlds.proofs.Closing.{idle_alike}
use Rattle.fort_threads_law_worlds.proofs.Queues.{none_queued}
use Rattle.fort_threads_law_matches.specs.Matches.{Matches, same}
use Rattle.fort_threads_law_runs.specs.Premises.{ThrowsFinely, IsThreaded}
use Rattle.fort_threads_law_runs.specs.Told.{Told}
use Rattle.fort_threads_law_runs.specs.Told as told
use Rattle.fort_threads_law_runs.specs.Runs.{EndAlike, GoesAlike}
use Rattle.fort_threads_law_runs.specs.Threads.{thread_spot, MayGo, ThreadGoesAlike}
use Rattle.fort_threads_law_runs.specs.Threads as threads_specs
use Rattle.fort_threads_law_runs.specs.Laws.{AttemptsGoAlike, ThreadsGoAlike}
use Rattle.fort_threads_law_runs.proofs.Bounded.{bounded_idle, bounded_first, bounded_second, bounded_inside}
use Rattle.fort_threads_law_runs.proofs.Finding.{finds_none}
use Rattle.fort_threads_law_runs.proofs.Joined.{joined}
use Rattle.fort_threads_law_runs.proofs.Alike.{PickAlike, nothing, takes}
use Rattle.fort_threads_law_runs.proofs.Picked.{step_one, try_one, stop_one}
use Rattle.fort_threads_law_runs.proofs.Tried.{MayBe}

-- nothing more was done
or_no : (b : Bool) → (b || false) ≡ b
or_no true = refl
or_no false = refl

both_only : (done : Done) → both_done done (only idle) ≡ done
both_only done = λ i. record {
  effect = both_idle done.effect i;
  added = append-nil done.added i;
  came = or_no done.came i;
}

module _ (p : Program) (n : Names) (m : Start) (o : Own) (k : Known) (g : Ground)
    (h : IsThreaded p n m o k g) where
  -- no pick
  rests : (w : World) (here : Spot) (standing : List Thread) (asked : Paths) (s t : Store)
      (u v : Term) → AreStores p n m w standing s t → Matches p n m o w here asked [] u v
      → GoesAlike p n m o k w here standing asked s t [] v (goes u) idle
  rests w here standing asked s t u v stores mat = record {
    told = [];
    are_told = told.none;
    ended = goes v;
    done = only idle;
    runs = threads.Runs.none refl refl refl;
    later = w;
    follows = follows_self here w;
    asked_later = asked;
    end_alike = mat;
    do_alike = idle_alike w;
    stores = subst (λ us. AreStores p n m w us s t) (sym (append-nil standing)) stores;
    queued = none_queued w w refl refl refl;
    bounded = bounded_idle;
    finds = λ pv z. finds_none m w idle (λ l. refl);
  }

  again : (w : World) (here : Spot) (standing : List Thread) (asked : Paths) (s t : Store)
      (v : Term) {ps qs : List Pick} {r q : Ended} {d e : Effect} → ps ≡ qs → r ≡ q → d ≡ e
      → GoesAlike p n m o k w here standing asked s t qs v q e
      → GoesAlike p n m o k w here standing asked s t ps v r d
  again w here standing asked s t v {ps} {qs} {r} {q} {d} {e} a b c x =
      subst (λ z. GoesAlike p n m o k w here standing asked s t z v r d) (sym a)
      (subst (λ z. GoesAlike p n m o k w here standing asked s t qs v z d) (sym b)
      (subst (λ z. GoesAlike p n m o k w here standing asked s t qs v q z) (sym c) x))

  may_be : (standing : List Thread) (s t : Store) (u a : Term) (fs : List Frame)
      → attempts.MayTry true s u fs a → MayBe p k [] standing s t u fs a
  may_be standing s t u a fs (inl z) = inl z
  may_be standing s t u a fs (inr z) = inr (z, λ x i. absurd i)

  goes_alike : (w : World) (here : Spot) (standing : List Thread) (asked : Paths) (s t : Store)
      (picks : List Pick) (u v : Term) (r : Ended) (d : Effect) → Grows g (ground_of w)
      → AreStores p n m w standing s t → Matches p n m o w here asked [] u v → Reached p true s u
      → Runs p true true s picks u r d → MakesWithinBounds d
      → GoesAlike p n m o k w here standing asked s t picks v r d
  goes_alike w here standing asked s t picks u v r d grown stores mat reached (none a b c) small =
      again w here standing asked s t v a b c (rests w here standing asked s t u v stores mat)
  goes_alike w here standing asked s t picks u v r d grown stores mat reached
      (step {rest = rest} {a = a} {b = b} {d1 = d1} {d2 = d2} {loc = loc} fs e c free l f run q)
      small =
      let pick = Step (path_to fs) (location loc) in
      let both_small : MakesWithinBounds (both d1 d2) = subst MakesWithinBounds q small in
      let later = plug (trodden fs) b in
      let reached_later : Reached p true (afterwards d1 s) later =
      by_run reached (step fs refl c free l f (none refl refl refl) (sym (both_idle d1))) refl in
      again w here standing asked s t v e refl q
      (joined p n m o k w here standing asked s t pick rest v later r d1 d2 stores f
      (runs_fit (afterwards d1 s) rest later r d2 run)
      (step_one p n m o k g h w here standing asked s t u v a fs stores grown mat c free
      (local_ready p true loc a b d1 l) true [] pick b d1 loc refl l f
      (bounded_first d1 d2 both_small)
      (h.throws true (afterwards d1 s) later reached_later))
      (λ x us others model next fol st mat2.
      goes_alike x here us others (afterwards d1 s) model rest later next r d2
      (grows_on grown (grounds_grow fol)) st mat2 reached_later run
      (bounded_second d1 d2 both_small)))
  goes_alike w here standing asked s t picks u v r d grown stores mat reached
      (stop {a = a} fs i e c free acts b q) small =
      again w here standing asked s t v e b q
      (stop_one p n m o k g h w here standing asked s t u v a fs stores grown mat c free
      (stop_ready p a acts) acts)
  goes_alike w here standing asked s t picks u v r d grown stores mat reached
      (attempt {m = md} {within = within} {rest = rest} {a = a} {b = b} {body = body} {ended =
      ended}
      {d1 = d1} {d2 = d2} {d3 = d3} fs e c free form bare may inside close run q) small =
      let pick = Attempt (path_to fs) within in
      let both_small : MakesWithinBounds (both d2 d3) = subst MakesWithinBounds q small in
      let here_small = bounded_first d2 d3 both_small in
      let later = plug (trodden fs) b in
      let reached_later : Reached p true (afterwards d2 s) later =
      by_run reached
      (attempt fs refl c free form bare may inside close (none refl refl refl)
      (sym (both_idle d2))) refl in
      again w here standing asked s t v e refl q
      (joined p n m o k w here standing asked s t pick rest v later r d2 d3 stores
      (closes_fit p md body b ended d1 d2 s close (runs_fit s within body ended d1 inside))
      (runs_fit (afterwards d2 s) rest later r d3 run)
      (try_one p n m o k g h w here standing asked s t u v a fs stores grown mat c free
      (form_ready a md body form) true [] pick b d2 d1 md body within ended refl form bare
      (may_be standing s t u a fs may) inside
      (λ spot pb. goes_alike w spot standing [] s t within body body ended d1 grown stores
      (same refl pb) (in_attempt fs reached c form refl) inside
      (bounded_inside d1 d2 close here_small))
      close here_small (h.throws true (afterwards d2 s) later reached_later))
      (λ x us others model next fol st mat2.
      goes_alike x here us others (afterwards d2 s) model rest later next r d3
      (grows_on grown (grounds_grow fol)) st mat2 reached_later run
      (bounded_second d2 d3 both_small)))

  -- a pick of a thread of the root's machine
  module _ (w : World) (number : ℕ) (beside standing : List Thread) (asked : Paths) (s t : Store)
      (pick : Pick) (u v : Term) (d : Effect) (round : List Frame) (grown : Grows g (ground_of w))
      (stores : AreStores p n m w standing s t)
      (mat : Matches p n m o w (thread_spot number) asked [] u v)
      (reached : Reached p false s (plug round u)) (may : MayGo p k beside standing s t u pick)
      (small : MakesWithinBounds d) where
    abbrev Picks : Term → Type 0
    Picks later = PickAlike p n m o k false w (thread_spot number) beside standing asked s t pick v
        later d

    abbrev Goes : Term → Type 0
    Goes later = ThreadGoesAlike p n m o k w (thread_spot number) beside standing asked s t pick v
        later d

    told_alone : (later : Term) → Picks later → Goes later
    told_alone later (nothing x fol mat2 alike st queued finds) =
        threads_specs.nothing x fol mat2 alike st queued
    told_alone later (takes x other next done others fol noted tells on mat2 alike st queued
        bounded
        stays) =
        threads_specs.takes x other next done fol (tells [] [] told.none)
        (subst (λ y. threads.Runs p k false beside standing asked t (other ∷ []) v (goes next) y)
        (both_only done)
        (on [] (goes next) (only idle) (threads.Runs.none refl refl refl)))
        (subst (λ y. Matches p n m o x (thread_spot number) y [] later next) noted mat2) alike st
        queued
        bounded

    taken_alike : (fs : List Frame) (a b : Term) → u ≡ plug fs a → passed fs a ≡ false
        → ThrowsFinely n m o (plug (trodden fs) b) → Taken p false s pick fs a b d
        → Picks (plug (trodden fs) b)
    taken_alike fs a b c free fine (a_step loc e l f) =
        step_one p n m o k g h w (thread_spot number) standing asked s t u v a fs stores grown
        mat c free (local_ready p false loc a b d l) false beside pick b d loc e l f small
        fine
    taken_alike fs a b c free fine (an_attempt md body within ended d1 e form bare run close) =
        try_one p n m o k g h w (thread_spot number) standing asked s t u v a fs stores grown
        mat c free (form_ready a md body form) false beside pick b d d1 md body within ended e form
        bare (may fs a md body within c form e) run
        (λ spot pb. goes_alike w spot standing [] s t within body body ended d1 grown stores
        (same refl pb)
        (in_attempt (round ++ fs) reached (ap (plug round) c ∙ sym (plug_append round fs a)) form
        refl) run (bounded_inside d1 d close small))
        close small fine

    thread_alike : (later : Term) → ThrowsFinely n m o later
        → Runs p false false s (pick ∷ []) u (goes later) d → Goes later
    thread_alike later fine run =
        let i = pick_at run in
        subst Goes (sym i.becomes)
        (told_alone (plug (trodden i.frames) i.next) (taken_alike i.frames i.part i.next
        i.is_term i.reached
        (subst (ThrowsFinely n m o) i.becomes fine) i.taken))

pub attempts_go_alike : AttemptsGoAlike
attempts_go_alike p n m o k g h w here standing asked s t picks u v r d grown stores mat
    reached run small =
    goes_alike p n m o k g h w here standing asked s t picks u v r d grown stores mat
    reached run
    small

pub threads_go_alike : ThreadsGoAlike
threads_go_alike p n m o k g h w number beside standing asked s t pick u v later d round grown
    stores mat run small reached fine may =
    thread_alike p n m o k g h w number beside standing asked s t pick u v d round grown
    stores
    mat reached may small later fine run
