-- Objects of threads stand apart: those that stand are in the store, and a new one isn't.
use Rattle.std.proofs.Common.{◌≡◌, ℕ, ◌+◌, ◌==◌, Bool, true, List, [], ◌∷◌, ◌++◌, Option, Some, None, if◌then◌else◌, refl, sym, ap, ◌∙◌, subst, append-nil, append_assoc, ◌⊎◌, inl, inr, rules, pos}
use Rattle.std.specs.List.{cons_option}
use Rattle.fort_core.specs.declared.form.Mode.{Mode}
use Rattle.fort_core.specs.declared.pick.Pick.{Pick}
use Rattle.fort_core.specs.declared.program.Program.{Program}
use Rattle.fort_core.specs.declared.term.Term.{Term}
use Rattle.fort_core.specs.declared.value.Value.{Value, Small}
use Rattle.fort_machine.specs.Acts.{unit}
use Rattle.fort_machine.specs.Attempts.{Ended, Closes, completed, failed, gave_up, fell_asleep}
use Rattle.fort_machine.specs.Cells.{Cell, untouched, found, made, Fits, left_at}
use Rattle.fort_machine.specs.Effects.{Store, Effect, both, making, made_from, FitsAll, afterwards}
use Rattle.fort_machine.specs.Parts.{IsOneOf}
use Rattle.fort_machine.proofs.Runs.{closes_fit}
use Rattle.fort_machine.proofs.WholeEffects.{both_fits, afterwards_both}
use Rattle.fort_threads.specs.Known.{Known}
use Rattle.fort_threads.specs.Threads.{Paths, new, going, over, Thread, thread, Done, kept, noted_by}
use Rattle.fort_threads.specs.Moves.{opening_fields, spawns, refuses, waits, gets, asks, Moves, by_itself, comes, starts, as_ever}
use Rattle.fort_threads.specs.Runs.{Runs, none, step, stop, attempt}
use Rattle.fort_threads.specs.Machine.{Event, applied, Goes, rests, goes_on, begun, ended}
use Rattle.fort_threads.proofs.Kept.{kept_value, kept_throw}
use Rattle.fort_threads.specs.Objects.{objects, NoneTwice, ObjectsStandApart}

-- what threads do suits the store that they do it on
threads_fit : {p : Program} {k : Known} {inner : Bool} {beside us : List Thread} {asked : Paths}
    {s : Store} {picks : List Pick} {t : Term} {r : Ended} {d : Done}
    → Runs p k inner beside us asked s picks t r d → FitsAll d.effect s
threads_fit {s = s} (none a b w) = subst (λ (x : Done). FitsAll x.effect s) (sym w) (λ l. tt)
threads_fit {s = s} (step {d1 = d1} {d2 = d2} fs a b c e m fit rest w) =
    subst (λ (x : Done). FitsAll x.effect s) (sym w)
    (both_fits d1.effect d2.effect s fit (threads_fit rest))
threads_fit {s = s} (stop fs a b c e f g h x w) =
    subst (λ (x : Done). FitsAll x.effect s) (sym w) (λ l. tt)
threads_fit {p = p} {s = s} (attempt {m = m} {b = b} {body = body} {ended = last} {d1 = d1}
    {d3 = d3} {e = e} fs a b' c o own f g x inside closes rest w) =
    subst (λ (x : Done). FitsAll x.effect s) (sym w)
    (both_fits e d3.effect s (closes_fit p m body b last d1.effect e s closes (threads_fit inside))
    (threads_fit rest))

-- what is in a store stays there
is_there : (c : Cell) (v : Value) → Fits c (Some v) → (w : Value) × (left_at c (Some v) ≡ Some w)
is_there untouched v f = (v, refl)
is_there (found r None) v f = (v, refl)
is_there (found r (Some w)) v f = (w, refl)
is_there (made w) v f = absurd f

abbrev AllThere : Store → List ℕ → Type 0
AllThere s [] = Unit {0}
AllThere s (l ∷ ls) = ((v : Value) × (s l ≡ Some v)) × AllThere s ls

still_there : (s : Store) (d : Effect) (ls : List ℕ) → FitsAll d s → AllThere s ls
    → AllThere (afterwards d s) ls
still_there s d [] fit h = tt
still_there s d (l ∷ ls) fit h =
    let q = is_there (d.cells l) h.0.0 (subst (λ o. Fits (d.cells l) o) h.0.1 (fit l)) in
    ((q.0, ap (left_at (d.cells l)) h.0.1 ∙ q.1), still_there s d ls fit h.1)

there_of : (s : Store) (ls : List ℕ) (l : ℕ) → AllThere s ls → IsOneOf l ls
    → (v : Value) × (s l ≡ Some v)
there_of s [] l h i = absurd i
there_of s (m ∷ ls) l h (inl e) = (h.0.0, ap s e ∙ h.0.1)
there_of s (m ∷ ls) l h (inr i) = there_of s ls l h.1 i

there_more : (s : Store) (ls : List ℕ) (l : ℕ) (v : Value) → AllThere s ls → s l ≡ Some v
    → AllThere s (ls ++ l ∷ [])
there_more s [] l v h e = ((v, e), tt)
there_more s (m ∷ ls) l v h e = (h.0, there_more s ls l v h.1 e)

one_behind : (m l : ℕ) (ls : List ℕ) → IsOneOf m (ls ++ l ∷ []) → IsOneOf m ls ⊎ (m ≡ l)
one_behind m l [] (inl e) = inr e
one_behind m l [] (inr i) = absurd i
one_behind m l (x ∷ ls) (inl e) = inl (inl e)
one_behind m l (x ∷ ls) (inr i) = go (one_behind m l ls i)
  where
    go : IsOneOf m ls ⊎ (m ≡ l) → IsOneOf m (x ∷ ls) ⊎ (m ≡ l)
    go (inl j) = inl (inr j)
    go (inr e) = inr e

none_more : (ls : List ℕ) (l : ℕ) → NoneTwice ls → (IsOneOf l ls → ⊥) → NoneTwice (ls ++ l ∷ [])
none_more [] l h other = ((λ i. i), tt)
none_more (m ∷ ls) l h other =
    ((λ i. apart (one_behind m l ls i)), none_more ls l h.1 (λ i. other (inr i)))
  where
    apart : IsOneOf m ls ⊎ (m ≡ l) → ⊥
    apart (inl i) = h.0 i
    apart (inr e) = other (inl (sym e))

-- threads whose objects are in a store, each its own
abbrev StandAt : Store → List ℕ → Type 0
StandAt s ls = NoneTwice ls × AllThere s ls

abbrev Stand : Store → List Thread → Type 0
Stand s us = StandAt s (objects us)

objects_append : (us ws : List Thread) → objects (us ++ ws) ≡ objects us ++ objects ws
objects_append [] ws = refl
objects_append (u ∷ us) ws = go u.object (objects_append us ws)
  where
    go : (o : Option ℕ) → objects (us ++ ws) ≡ objects us ++ objects ws
        → cons_option o (objects (us ++ ws)) ≡ cons_option o (objects us) ++ objects ws
    go None e = e
    go (Some l) e = ap (λ ls. l ∷ ls) e

same_objects : (us ws : List Thread) (u u' : Thread) → u'.object ≡ u.object
    → objects (us ++ u' ∷ ws) ≡ objects (us ++ u ∷ ws)
same_objects [] ws u u' e = ap (λ o. cons_option o (objects ws)) e
same_objects (x ∷ us) ws u u' e = ap (cons_option x.object) (same_objects us ws u u' e)

none_added : (s : Store) (us : List Thread) (e : Effect) → FitsAll e s → Stand s us
    → Stand (afterwards e s) (us ++ [])
none_added s us e fit h =
    subst (Stand (afterwards e s)) (sym (append-nil us))
    (h.0, still_there s e (objects us) fit h.1)

only_more : (s : Store) (us : List Thread) (d : Done) → FitsAll d.effect s → d.added ≡ []
    → Stand s us → Stand (afterwards d.effect s) (us ++ d.added)
only_more s us d fit e h =
    subst (λ ws. Stand (afterwards d.effect s) (us ++ ws)) (sym e) (none_added s us d.effect fit h)

-- a new object
same_place : (l : ℕ) → (l == l) ≡ true
same_place l = let e : l ≡ l = refl in search (rules, e)

made_here : (l : ℕ) (v : Value) (vs : List Value) → made_from l (v ∷ vs) l ≡ made (Some v)
made_here l v vs = ap (λ b. if b then made (Some v) else made_from (l + 1) vs l) (same_place l)

not_there : (o w : Option Value) → Fits (made w) o → o ≡ None
not_there None w f = refl
not_there (Some v) w f = absurd f

new_stands : (s : Store) (us : List Thread) (l : ℕ) (f : Value)
    → FitsAll (making l (opening_fields f) 1) s → Stand s us
    → Stand (afterwards (making l (opening_fields f) 1) s) (us ++ thread (Some l) (new f) ∷ [])
new_stands s us l f fit h =
    let e = making l (opening_fields f) 1 in
    let here : made_from l (opening_fields f) l ≡ made (Some f) =
    made_here l f (Small (pos 0) ∷ unit ∷ unit ∷ []) in
    let absent : s l ≡ None =
    not_there (s l) (Some f) (subst (λ c. Fits c (s l)) here (fit l)) in
    let after : afterwards e s l ≡ Some f = ap (λ c. left_at c (s l)) here in
    subst (StandAt (afterwards e s)) (sym (objects_append us (thread (Some l) (new f) ∷ []))) (
      none_more (objects us) l h.0 (λ i. other absent (there_of s (objects us) l h.1 i)),
      there_more (afterwards e s) (objects us) l f (still_there s e (objects us) fit h.1) after,
    )
  where
    other : s l ≡ None → (v : Value) × (s l ≡ Some v) → ⊥
    other e q = let z : None ≡ Some q.0 = sym e ∙ q.1 in cc

moves_stand : {p : Program} {k : Known} {inner : Bool} {us : List Thread} {loc : ℕ} {a b : Term}
    {d : Done} → Moves p k inner us loc a b d → (s : Store) → FitsAll d.effect s → Stand s us
    → Stand (afterwards d.effect s) (us ++ d.added)
moves_stand {us = us} {loc = loc} (by_itself (spawns f h few e w)) s fit st =
    subst (λ (x : Done). FitsAll x.effect s → Stand (afterwards x.effect s) (us ++ x.added)) (sym w)
    (λ fit'. new_stands s us loc f fit' st) fit
moves_stand {us = us} {d = d} (by_itself (refuses f h many e i w)) s fit st =
    only_more s us d fit (ap (λ (x : Done). x.added) w) st
moves_stand {us = us} {d = d} (by_itself (waits l end h e i j w)) s fit st =
    only_more s us d fit (ap (λ (x : Done). x.added) w) st
moves_stand {us = us} {d = d} (by_itself (gets l end h e i j w)) s fit st =
    only_more s us d fit (ap (λ (x : Done). x.added) w) st
moves_stand {us = us} {d = d} (by_itself (asks l h e i w)) s fit st =
    only_more s us d fit (ap (λ (x : Done). x.added) w) st
moves_stand {us = us} {d = d} (comes e c vs n i h l w) s fit st =
    only_more s us d fit (ap (λ (x : Done). x.added) w) st
moves_stand {us = us} {d = d} (starts e c n h i l w) s fit st =
    only_more s us d fit (ap (λ (x : Done). x.added) w) st
moves_stand {us = us} {d = d} (as_ever e n i l w) s fit st =
    only_more s us d fit (ap (λ (x : Done). x.added) w) st

-- two stretches, one after the other
join_stand : (s : Store) (us bs cs : List Thread) (e f : Effect) → FitsAll e s
    → FitsAll f (afterwards e s) → Stand (afterwards f (afterwards e s)) ((us ++ bs) ++ cs)
    → Stand (afterwards (both e f) s) (us ++ (bs ++ cs))
join_stand s us bs cs e f fit fit' h =
    subst (λ x. Stand x (us ++ (bs ++ cs))) (sym (afterwards_both e f s fit fit'))
    (subst (Stand (afterwards f (afterwards e s))) (append_assoc us bs cs) h)

-- what an attempt leaves
closes_stand : (p : Program) (m : Mode) (body b : Term) (r : Ended) (d e : Effect) (s : Store)
    (us ws : List Thread) → Closes p m body r d b e → FitsAll e s → Stand s us
    → Stand (afterwards d s) (us ++ ws) → Stand (afterwards e s) (us ++ kept r ws)
closes_stand p m body b r d e s us ws (completed v g h i) fit st more =
    subst (λ x. Stand (afterwards x s) (us ++ kept r ws)) (sym i)
    (subst (λ x. Stand (afterwards d s) (us ++ x)) (sym (kept_value v r ws g)) more)
closes_stand p m body b r d e s us ws (failed v g h i) fit st more =
    subst (λ x. Stand (afterwards e s) (us ++ x)) (sym (kept_throw v r ws g))
    (none_added s us e fit st)
closes_stand p m body b r d e s us ws (gave_up v g h i j l) fit st more =
    subst (λ x. Stand (afterwards e s) (us ++ kept x ws)) (sym g) (none_added s us e fit st)
closes_stand p m body b r d e s us ws (fell_asleep marks g h i j l w) fit st more =
    subst (λ x. Stand (afterwards e s) (us ++ kept x ws)) (sym g) (none_added s us e fit st)

runs_stand : {p : Program} {k : Known} {inner : Bool} {beside us : List Thread} {asked : Paths}
    {s : Store} {picks : List Pick} {t : Term} {r : Ended} {d : Done}
    → Runs p k inner beside us asked s picks t r d → Stand s us
    → Stand (afterwards d.effect s) (us ++ d.added)
runs_stand {us = us} {s = s} {d = d} (none a b w) st =
    only_more s us d (subst (λ (x : Done). FitsAll x.effect s) (sym w) (λ l. tt))
    (ap (λ (x : Done). x.added) w) st
runs_stand {us = us} {s = s} (step {d1 = d1} {d2 = d2} fs a b c e m fit rest w) st =
    subst (λ (x : Done). Stand (afterwards x.effect s) (us ++ x.added)) (sym w)
    (join_stand s us d1.added d2.added d1.effect d2.effect fit (threads_fit rest)
    (runs_stand rest (moves_stand m s fit st)))
runs_stand {us = us} {s = s} {d = d} (stop fs a b c e f g h x w) st =
    only_more s us d (subst (λ (x : Done). FitsAll x.effect s) (sym w) (λ l. tt))
    (ap (λ (x : Done). x.added) w) st
runs_stand {p = p} {us = us} {s = s} (attempt {m = m} {b = b} {body = body} {ended = last}
    {d1 = d1} {d3 = d3} {e = e} fs a b' c o own f g x inside closes rest w) st =
    let fit = closes_fit p m body b last d1.effect e s closes (threads_fit inside) in
    subst (λ (x : Done). Stand (afterwards x.effect s) (us ++ x.added)) (sym w)
    (join_stand s us (kept last d1.added) d3.added e d3.effect fit (threads_fit rest)
    (runs_stand rest
    (closes_stand p m body b last d1.effect e s us d1.added closes fit st
    (runs_stand inside st))))

-- in the root's machine
goes_stand : {p : Program} {k : Known} {now later : List Thread} {s : Store} {events : List Event}
    {d : Effect} → Goes p k now s events later d → Stand s now → NoneTwice (objects later)
goes_stand (rests a b c) st = subst (λ us. NoneTwice (objects us)) (sym b) st.0
goes_stand {now = now} {s = s} (goes_on {t = t} {u = u} {asked = asked} {pick = pick} {done = done}
    us ws object a b run on w) st =
    let first = thread object (going t asked) in
    let next = thread object (going u (noted_by pick done.came asked)) in
    let same : objects (us ++ next ∷ (ws ++ done.added)) ≡ objects (now ++ done.added) =
    same_objects us (ws ++ done.added) first next refl
    ∙ ap objects (sym (append_assoc us (first ∷ ws) done.added))
    ∙ ap (λ x. objects (x ++ done.added)) (sym b) in
    goes_stand on (subst (StandAt (afterwards done.effect s)) (sym same) (runs_stand run st))
goes_stand {s = s} (begun us ws object f a b on) st =
    let next = thread object (going (applied f) []) in
    let same = same_objects us ws (thread object (new f)) next refl
    ∙ ap objects (sym b) in
    goes_stand on (subst (StandAt s) (sym same) st)
goes_stand {s = s} (ended {t = t} us ws object asked a b c on) st =
    let same = same_objects us ws (thread object (going t asked)) (thread object (over t)) refl
    ∙ ap objects (sym b) in
    goes_stand on (subst (StandAt s) (sym same) st)

pub objects_stand_apart : ObjectsStandApart
objects_stand_apart p k events later d run = goes_stand run.goes (tt, tt)
