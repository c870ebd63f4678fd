-- What is in a store before a run of the machine with threads is apart from the objects that it
-- adds.
use Rattle.std.proofs.Common.{◌≡◌, ℕ, ◌+◌, Bool, true, List, [], ◌∷◌, ◌++◌, Some, sym, ap, ◌∙◌, subst, append_assoc}
use Rattle.fort_core.specs.declared.form.Mode.{Mode}
use Rattle.fort_core.specs.declared.pick.Pick.{Pick}
use Rattle.fort_core.specs.declared.program.Program.{Program}
use Rattle.fort_core.specs.declared.term.Term.{Term}
use Rattle.fort_core.specs.declared.value.Value.{Value}
use Rattle.fort_machine.specs.Attempts.{Ended, Closes, completed, failed, gave_up, fell_asleep}
use Rattle.fort_machine.specs.Effects.{Store, Effect, both, FitsAll, afterwards}
use Rattle.fort_machine.specs.Parts.{IsOneOf}
use Rattle.fort_machine.proofs.Runs.{closes_fit}
use Rattle.fort_machine.proofs.WholeEffects.{both_fits, afterwards_both}
use Rattle.fort_threads.specs.Known.{Known}
use Rattle.fort_threads.specs.Threads.{Paths, Thread, Done, kept}
use Rattle.fort_threads.specs.Objects.{objects}
use Rattle.fort_threads.specs.Runs.{Runs, none, step, stop, attempt}
use Rattle.fort_threads.proofs.Kept.{kept_value, kept_throw}
use Rattle.fort_threads_law_whole.proofs.Numbers.{objects_of_both}
use Rattle.fort_threads_law_whole.proofs.ThreadObjects.{StandAt, only_more, moves_stand}

-- what threads do suits the store that they do it on
threads_fit : {p : Program} {k : Known} {inner : Bool} {beside us : List Thread} {asked : Paths}
    {s : Store} {picks : List Pick} {t : Term} {r : Ended} {d : Done}
    → Runs p k inner beside us asked s picks t r d → FitsAll d.effect s
threads_fit {s = s} (none a b w) = subst (λ (x : Done). FitsAll x.effect s) (sym w) (λ l. tt)
threads_fit {s = s} (step {d1 = d1} {d2 = d2} fs a b c e m fit rest w) =
    subst (λ (x : Done). FitsAll x.effect s) (sym w)
    (both_fits d1.effect d2.effect s fit (threads_fit rest))
threads_fit {s = s} (stop fs a b c e f g h x w) =
    subst (λ (x : Done). FitsAll x.effect s) (sym w) (λ l. tt)
threads_fit {p = p} {s = s} (attempt {m = m} {b = b} {body = body} {ended = last} {d1 = d1}
    {d3 = d3} {e = e} fs a b' c o own f g x inside closes rest w) =
    subst (λ (x : Done). FitsAll x.effect s) (sym w)
    (both_fits e d3.effect s (closes_fit p m body b last d1.effect e s closes (threads_fit inside))
    (threads_fit rest))

-- two stretches, one after the other
join_stand : (s : Store) (ls : List ℕ) (bs cs : List Thread) (e f : Effect) → FitsAll e s
    → FitsAll f (afterwards e s)
    → StandAt (afterwards f (afterwards e s)) ((ls ++ objects bs) ++ objects cs)
    → StandAt (afterwards (both e f) s) (ls ++ objects (bs ++ cs))
join_stand s ls bs cs e f fit fit' h =
    subst (λ x. StandAt x (ls ++ objects (bs ++ cs))) (sym (afterwards_both e f s fit fit'))
    (subst (StandAt (afterwards f (afterwards e s)))
    (append_assoc ls (objects bs) (objects cs) ∙ ap (λ x. ls ++ x) (sym (objects_of_both bs cs)))
    h)

none_kept : (s : Store) (ls : List ℕ) (ws : List Thread) (e : Effect) → FitsAll e s → ws ≡ []
    → StandAt s ls → StandAt (afterwards e s) (ls ++ objects ws)
none_kept s ls ws e fit q st =
    only_more s ls (record { effect = e; added = ws; came = true }) fit q st

-- what an attempt leaves
closes_stand : (p : Program) (m : Mode) (body b : Term) (r : Ended) (d e : Effect) (s : Store)
    (ls : List ℕ) (ws : List Thread) → Closes p m body r d b e → FitsAll e s → StandAt s ls
    → StandAt (afterwards d s) (ls ++ objects ws)
    → StandAt (afterwards e s) (ls ++ objects (kept r ws))
closes_stand p m body b r d e s ls ws (completed v g h i) fit st more =
    subst (λ x. StandAt (afterwards x s) (ls ++ objects (kept r ws))) (sym i)
    (subst (λ x. StandAt (afterwards d s) (ls ++ objects x)) (sym (kept_value v r ws g)) more)
closes_stand p m body b r d e s ls ws (failed v g h i) fit st more =
    none_kept s ls (kept r ws) e fit (kept_throw v r ws g) st
closes_stand p m body b r d e s ls ws (gave_up v g h i j l) fit st more =
    none_kept s ls (kept r ws) e fit (ap (λ x. kept x ws) g) st
closes_stand p m body b r d e s ls ws (fell_asleep marks g h i j l w) fit st more =
    none_kept s ls (kept r ws) e fit (ap (λ x. kept x ws) g) st

pub runs_stand : {p : Program} {k : Known} {inner : Bool} {beside us : List Thread}
    {asked : Paths} {s : Store} {picks : List Pick} {t : Term} {r : Ended} {d : Done}
    → Runs p k inner beside us asked s picks t r d → (ls : List ℕ) → StandAt s ls
    → StandAt (afterwards d.effect s) (ls ++ objects d.added)
runs_stand {s = s} {d = d} (none a b w) ls st =
    only_more s ls d (subst (λ (x : Done). FitsAll x.effect s) (sym w) (λ l. tt))
    (ap (λ (x : Done). x.added) w) st
runs_stand {s = s} (step {d1 = d1} {d2 = d2} fs a b c e m fit rest w) ls st =
    subst (λ (x : Done). StandAt (afterwards x.effect s) (ls ++ objects x.added)) (sym w)
    (join_stand s ls d1.added d2.added d1.effect d2.effect fit (threads_fit rest)
    (runs_stand rest (ls ++ objects d1.added) (moves_stand m s ls fit st)))
runs_stand {s = s} {d = d} (stop fs a b c e f g h x w) ls st =
    only_more s ls d (subst (λ (x : Done). FitsAll x.effect s) (sym w) (λ l. tt))
    (ap (λ (x : Done). x.added) w) st
runs_stand {p = p} {s = s} (attempt {m = m} {b = b} {body = body} {ended = last}
    {d1 = d1} {d3 = d3} {e = e} fs a b' c o own f g x inside closes rest w) ls st =
    let fit = closes_fit p m body b last d1.effect e s closes (threads_fit inside) in
    subst (λ (x : Done). StandAt (afterwards x.effect s) (ls ++ objects x.added)) (sym w)
    (join_stand s ls (kept last d1.added) d3.added e d3.effect fit (threads_fit rest)
    (runs_stand rest (ls ++ objects (kept last d1.added))
    (closes_stand p m body b last d1.effect e s ls d1.added closes fit st
    (runs_stand inside ls st))))

-- each object that is added is in the store behind the run, and there once
pub added_once : {p : Program} {k : Known} {inner : Bool} {beside us : List Thread}
    {asked : Paths} {s : Store} {picks : List Pick} {t : Term} {r : Ended} {d : Done}
    → Runs p k inner beside us asked s picks t r d
    → StandAt (afterwards d.effect s) (objects d.added)
added_once run = runs_stand run [] (tt, tt)

-- and wasn't there before
pub added_new : {p : Program} {k : Known} {inner : Bool} {beside us : List Thread}
    {asked : Paths} {s : Store} {picks : List Pick} {t : Term} {r : Ended} {d : Done}
    → Runs p k inner beside us asked s picks t r d → (l : ℕ) → IsOneOf l (objects d.added)
    → (v : Value) → s l ≡ Some v → ⊥
added_new run l i v e = (runs_stand run (l ∷ []) (((λ j. j), tt), ((v, e), tt))).0.0 i
