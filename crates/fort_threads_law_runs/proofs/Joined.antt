-- A pick and the rest of a run.
use Rattle.std.proofs.Common.{◌≡◌, ℕ, Bool, true, false, List, [], ◌∷◌, ◌++◌, refl, sym, subst, append_assoc}
use Rattle.fort_core.specs.declared.pick.Pick.{Pick}
use Rattle.fort_core.specs.declared.program.Program.{Program}
use Rattle.fort_core.specs.declared.term.Term.{Term}
use Rattle.fort_machine.specs.Attempts.{Ended}
use Rattle.fort_machine.specs.Effects.{Store, Effect, idle, both, FitsAll, afterwards}
use Rattle.fort_machine.proofs.Standing.{or_false}
use Rattle.fort_machine.proofs.WholeEffects.{idle_both, afterwards_both}
use Rattle.fort_threads.specs.Known.{Known}
use Rattle.fort_threads.specs.Threads.{Paths, Thread, Done, both_done}
use Rattle.fort_threads_law_servers.specs.Prelude.{Names}
use Rattle.fort_threads_law_servers.specs.Roots.{Start}
use Rattle.fort_threads_law_private.proofs.Growing.{private_grows}
use Rattle.fort_threads_law_worlds.specs.Worlds.{Spot, World, FollowsAt}
use Rattle.fort_threads_law_worlds.specs.Known.{Own}
use Rattle.fort_threads_law_worlds.specs.Stores.{AreStores}
use Rattle.fort_threads_law_worlds.specs.Effects.{DoAlike}
use Rattle.fort_threads_law_worlds.proofs.Following.{follows_both, grounds_grow}
use Rattle.fort_threads_law_worlds.proofs.Together.{do_alike_together}
use Rattle.fort_threads_law_worlds.proofs.Fitting.{fits_both}
use Rattle.fort_threads_law_worlds.proofs.Queues.{queued_both}
use Rattle.fort_threads_law_matches.specs.Matches.{Matches}
use Rattle.fort_threads_law_runs.specs.Told.{left_out}
use Rattle.fort_threads_law_runs.specs.Runs.{GoesAlike}
use Rattle.fort_threads_law_runs.proofs.Bounded.{bounded_both}
use Rattle.fort_threads_law_runs.proofs.Finding.{finds_both}
use Rattle.fort_threads_law_runs.proofs.Alike.{PickAlike, nothing, takes}

module _ (p : Program) (n : Names) (m : Start) (o : Own) (k : Known) (w : World) (here : Spot)
    (standing : List Thread) (asked : Paths) (s t : Store) (pick : Pick) (rest : List Pick)
    (v later : Term) (r : Ended) (d e : Effect) (stores : AreStores p n m w standing s t)
    (f : FitsAll d s) (g : FitsAll e (afterwards d s)) where
  -- what the rest does, from wherever the pick leads to
  abbrev pub GoesOn : Type 0
  GoesOn = (x : World) (beside : List Thread) (others : Paths) (model : Store) (next : Term)
      → FollowsAt here w x → AreStores p n m x beside (afterwards d s) model
      → Matches p n m o x here others [] later next
      → GoesAlike p n m o k x here beside others (afterwards d s) model rest next r e

  real_after : (x : World) (us : List Thread) (model : Store)
      → AreStores p n m x us (afterwards e (afterwards d s)) model
      → AreStores p n m x us (afterwards (both d e) s) model
  real_after x us model h =
      subst (λ y. AreStores p n m x us y model) (sym (afterwards_both d e s f g)) h

  pub joined : PickAlike p n m o k true w here [] standing asked s t pick v later d → GoesOn
      → GoesAlike p n m o k w here standing asked s t (pick ∷ rest) v r (both d e)
  joined (nothing x fol mat alike st queued finds) on =
      let q = on x standing asked t v fol st mat in
      record {
        told = q.told;
        are_told = left_out pick q.are_told;
        ended = q.ended;
        done = q.done;
        runs = q.runs;
        later = q.later;
        follows = follows_both fol q.follows;
        asked_later = q.asked_later;
        end_alike = q.end_alike;
        do_alike =
            subst (λ y. DoAlike w q.later (both d e) y) (idle_both q.done.effect)
            (do_alike_together here w x q.later d e idle q.done.effect fol q.follows alike
            q.do_alike);
        stores = real_after q.later (standing ++ q.done.added)
            (afterwards q.done.effect t) q.stores;
        queued = queued_both w x q.later [] q.done.added queued q.queued;
        bounded = q.bounded;
        finds = λ pv z.
            finds_both p n m here w x standing s t d e fol stores g (finds pv)
            (q.finds (private_grows pv (grounds_grow fol)) z);
      }
  joined (takes x other next done others fol noted tells goes mat alike st queued bounded stays)
      on =
      let q = on x (standing ++ done.added) others (afterwards done.effect t) next fol st mat in
      let fits : FitsAll done.effect t = fits_both p n m here w x standing s t d done.effect stores
      fol alike f in
      let fits_on : FitsAll q.done.effect (afterwards done.effect t) =
      fits_both p n m here x q.later (standing ++ done.added) (afterwards d s)
      (afterwards done.effect t) e q.done.effect st q.follows q.do_alike g in
      record {
        told = other ∷ q.told;
        are_told = tells rest q.told q.are_told;
        ended = q.ended;
        done = both_done done q.done;
        runs = goes q.told q.ended q.done q.runs;
        later = q.later;
        follows = follows_both fol q.follows;
        asked_later = q.asked_later;
        end_alike = q.end_alike;
        do_alike =
            do_alike_together here w x q.later d e done.effect q.done.effect fol q.follows alike
            q.do_alike;
        stores =
            subst (λ y. AreStores p n m q.later (standing ++ (done.added ++ q.done.added))
            (afterwards (both d e) s) y)
            (sym (afterwards_both done.effect q.done.effect t fits fits_on))
            (subst (λ us. AreStores p n m q.later us (afterwards (both d e) s)
            (afterwards q.done.effect (afterwards done.effect t)))
            (append_assoc standing done.added q.done.added)
            (real_after q.later ((standing ++ done.added) ++ q.done.added)
            (afterwards q.done.effect (afterwards done.effect t)) q.stores));
        queued = queued_both w x q.later done.added q.done.added queued q.queued;
        bounded = bounded_both done.effect q.done.effect bounded q.bounded;
        finds = λ pv z.
            let c = or_false done.came q.done.came z in let i = stays pv c.0 in
            finds_both p n m here w x standing s t d e fol stores g i.1 (q.finds i.0 c.1);
      }
