-- Events after events.
use Rattle.std.proofs.Common.{◌≡◌, ℕ, ◌<◌, ◌^◌, Bool, List, [], ◌∷◌, ◌++◌, Option, Some, None, refl, ap, sym, ◌∙◌, subst}
use Rattle.fort_core.specs.declared.pick.Pick.{Pick}
use Rattle.fort_core.specs.declared.program.Program.{Program}
use Rattle.fort_core.specs.declared.term.Term.{Term}
use Rattle.fort_core.specs.declared.value.Value.{Value}
use Rattle.fort_machine.specs.Attempts.{Ended}
use Rattle.fort_machine.specs.Cells.{Cell, untouched, found, made, joined}
use Rattle.fort_machine.specs.Effects.{Store, Effect, idle, both, FitsAll, afterwards}
use Rattle.fort_machine.specs.Journals.{MakesWithinBounds}
use Rattle.fort_machine.proofs.Runs.{closes_fit}
use Rattle.fort_machine.proofs.WholeEffects.{both_fits, afterwards_both, idle_both, both_assoc}
use Rattle.fort_threads.specs.Known.{Known}
use Rattle.fort_threads.specs.Machine.{Event, Goes, rests, goes_on, begun, ended}
use Rattle.fort_threads.specs.Runs.{Runs, none, step, stop, attempt}
use Rattle.fort_threads.specs.Threads.{Paths, Thread, Done}

-- what threads do suits the store that they do it on
threads_fit : {p : Program} {k : Known} {inner : Bool} {beside us : List Thread} {asked : Paths}
    {s : Store} {picks : List Pick} {t : Term} {r : Ended} {d : Done}
    → Runs p k inner beside us asked s picks t r d → FitsAll d.effect s
threads_fit {s = s} (none a b w) = subst (λ (x : Done). FitsAll x.effect s) (sym w) (λ l. tt)
threads_fit {s = s} (step {d1 = d1} {d2 = d2} fs a b c e m fit rest w) =
    subst (λ (x : Done). FitsAll x.effect s) (sym w)
    (both_fits d1.effect d2.effect s fit (threads_fit rest))
threads_fit {s = s} (stop fs a b c e f g h x w) =
    subst (λ (x : Done). FitsAll x.effect s) (sym w) (λ l. tt)
threads_fit {p = p} {s = s} (attempt {m = m} {b = b} {body = body} {ended = last} {d1 = d1}
    {d3 = d3} {e = e} fs a b' c o own f g x inside closes rest w) =
    subst (λ (x : Done). FitsAll x.effect s) (sym w)
    (both_fits e d3.effect s (closes_fit p m body b last d1.effect e s closes (threads_fit inside))
    (threads_fit rest))

pub goes_fit : {p : Program} {k : Known} {now later : List Thread} {s : Store}
    {events : List Event} {d : Effect} → Goes p k now s events later d → FitsAll d s
goes_fit {s = s} (rests a b w) = subst (λ x. FitsAll x s) (sym w) (λ l. tt)
goes_fit {s = s} (goes_on {e = e} {done = done} before behind object a b run rest w) =
    subst (λ x. FitsAll x s) (sym w) (both_fits done.effect e s (threads_fit run) (goes_fit rest))
goes_fit (begun before behind object f a b rest) = goes_fit rest
goes_fit (ended before behind object asked a b f rest) = goes_fit rest

-- events, and then others
pub goes_join : {p : Program} {k : Known} {now mid later : List Thread} {s : Store}
    {events more : List Event} {d e : Effect} → Goes p k now s events mid d
    → Goes p k mid (afterwards d s) more later e → Goes p k now s (events ++ more) later (both d e)
goes_join {p = p} {k = k} {now = now} {mid = mid} {later = later} {s = s} {more = more} {d = d}
    {e = e} (rests a b w) next =
    let n2 = subst (λ x. Goes p k mid (afterwards x s) more later e) w next in
    let n3 = subst (λ x. Goes p k x s more later e) b n2 in
    subst (λ x. Goes p k now s (x ++ more) later (both d e)) (sym a)
    (subst (λ x. Goes p k now s more later x) (sym (ap (λ x. both x e) w ∙ idle_both e)) n3)
goes_join {p = p} {k = k} {mid = mid} {later = later} {s = s} {more = more} {e = e}
    (goes_on {e = f} {done = done} before behind object a b run rest w) next =
    goes_on before behind object (ap (λ x. x ++ more) a) b run
    (goes_join rest
    (subst (λ x. Goes p k mid x more later e)
    (ap (λ x. afterwards x s) w
    ∙ afterwards_both done.effect f s (threads_fit run) (goes_fit rest)) next))
    (ap (λ x. both x e) w ∙ both_assoc done.effect f e)
goes_join {more = more} (begun before behind object f a b rest) next =
    begun before behind object f (ap (λ x. x ++ more) a) b (goes_join rest next)
goes_join {more = more} (ended before behind object asked a b f rest) next =
    ended before behind object asked (ap (λ x. x ++ more) a) b f (goes_join rest next)

-- what two stretches make that are within bounds is so
pub both_bounded : (d e : Effect) → MakesWithinBounds d → MakesWithinBounds e
    → MakesWithinBounds (both d e)
both_bounded d e f g l v q = go (d.cells l) (e.cells l) refl refl q
  where
    go : (x y : Cell) → d.cells l ≡ x → e.cells l ≡ y → joined x y ≡ made v → l < 2 ^ 64
    go untouched y i j z = g l v (j ∙ z)
    go (found r w) untouched i j z = let c : found r w ≡ made v = z in absurd cc
    go (found r w) (found r' w') i j z =
        let c : joined (found r w) (found r' w') ≡ made v = z in absurd cc
    go (found r w) (made w') i j z = g l w' j
    go (made w) untouched i j z = f l w i
    go (made w) (found r' w') i j z = f l w i
    go (made w) (made w') i j z = f l w i
