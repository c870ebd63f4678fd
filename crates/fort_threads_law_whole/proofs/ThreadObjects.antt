-- The objects of threads that a thread's pick adds: each has one of its own, which is new.
use Rattle.std.proofs.Common.{◌≡◌, ℕ, ◌+◌, ◌==◌, Bool, true, List, [], ◌∷◌, ◌++◌, Option, Some, None, if◌then◌else◌, refl, sym, ap, ◌∙◌, subst, append-nil, ◌⊎◌, inl, inr, rules, pos}
use Rattle.fort_core.specs.declared.pick.Pick.{Pick}
use Rattle.fort_core.specs.declared.program.Program.{Program}
use Rattle.fort_core.specs.declared.term.Term.{Term}
use Rattle.fort_core.specs.declared.value.Value.{Value, Small}
use Rattle.fort_machine.specs.Acts.{unit}
use Rattle.fort_machine.specs.Attempts.{Ended, goes, aborts}
use Rattle.fort_machine.specs.Cells.{Cell, untouched, found, made, Fits, left_at}
use Rattle.fort_machine.specs.Effects.{Store, Effect, making, made_from, FitsAll, afterwards}
use Rattle.fort_machine.specs.Ends.{Standing, at_value, at_throw, open_yet, standing}
use Rattle.fort_machine.specs.Parts.{IsOneOf}
use Rattle.fort_threads.specs.Known.{Known}
use Rattle.fort_threads.specs.Threads.{Paths, new, Thread, thread, Done, kept_at, kept}
use Rattle.fort_threads.specs.Moves.{opening_fields, OwnStep, spawns, refuses, waits, gets, asks, Moves, by_itself, comes, starts, as_ever}
use Rattle.fort_threads.specs.Objects.{objects, NoneTwice}
use Rattle.fort_threads.specs.Runs.{Runs, none, step, stop, attempt}

-- ---- each has an object

abbrev pub HaveObjects : List Thread → Type 0
HaveObjects [] = Unit {0}
HaveObjects (u ∷ us) = ((l : ℕ) × (u.object ≡ Some l)) × HaveObjects us

both_have : (us ws : List Thread) → HaveObjects us → HaveObjects ws → HaveObjects (us ++ ws)
both_have [] ws h k = k
both_have (u ∷ us) ws h k = (h.0, both_have us ws h.1 k)

kept_at_have : (x : Standing) (us : List Thread) → HaveObjects us → HaveObjects (kept_at x us)
kept_at_have (at_value v) us h = h
kept_at_have (at_throw v) us h = tt
kept_at_have open_yet us h = tt

kept_have : (r : Ended) (us : List Thread) → HaveObjects us → HaveObjects (kept r us)
kept_have (goes t) us h = kept_at_have (standing t) us h
kept_have aborts us h = tt

own_have : {p : Program} {k : Known} {standing : List Thread} {loc : ℕ} {a b : Term} {d : Done}
    → OwnStep p k standing loc a b d → HaveObjects d.added
own_have {loc = loc} (spawns f h few e w) =
    subst (λ (x : Done). HaveObjects x.added) (sym w) ((loc, refl), tt)
own_have (refuses f h many e g w) = subst (λ (x : Done). HaveObjects x.added) (sym w) tt
own_have (waits l end h e g i w) = subst (λ (x : Done). HaveObjects x.added) (sym w) tt
own_have (gets l end h e g i w) = subst (λ (x : Done). HaveObjects x.added) (sym w) tt
own_have (asks l h e g w) = subst (λ (x : Done). HaveObjects x.added) (sym w) tt

moves_have : {p : Program} {k : Known} {inner : Bool} {standing : List Thread} {loc : ℕ}
    {a b : Term} {d : Done} → Moves p k inner standing loc a b d → HaveObjects d.added
moves_have (by_itself h) = own_have h
moves_have (comes e c vs n i h l w) = subst (λ (x : Done). HaveObjects x.added) (sym w) tt
moves_have (starts e c n h i l w) = subst (λ (x : Done). HaveObjects x.added) (sym w) tt
moves_have (as_ever e n i l w) = subst (λ (x : Done). HaveObjects x.added) (sym w) tt

pub runs_have : {p : Program} {k : Known} {inner : Bool} {beside standing : List Thread}
    {asked : Paths} {s : Store} {picks : List Pick} {t : Term} {r : Ended} {d : Done}
    → Runs p k inner beside standing asked s picks t r d → HaveObjects d.added
runs_have (none a b w) = subst (λ (x : Done). HaveObjects x.added) (sym w) tt
runs_have (step {d1 = d1} {d2 = d2} fs a b c e m f rest w) =
    subst (λ (x : Done). HaveObjects x.added) (sym w)
    (both_have d1.added d2.added (moves_have m) (runs_have rest))
runs_have (stop fs a b c e f g h x w) = subst (λ (x : Done). HaveObjects x.added) (sym w) tt
runs_have (attempt {ended = ended} {d1 = d1} {d3 = d3} fs a b c e f g h x inside y rest w) =
    subst (λ (x : Done). HaveObjects x.added) (sym w)
    (both_have (kept ended d1.added) d3.added (kept_have ended d1.added (runs_have inside))
    (runs_have rest))

-- ---- what is in a store stays there, and a new object wasn't

is_there : (c : Cell) (v : Value) → Fits c (Some v) → (w : Value) × (left_at c (Some v) ≡ Some w)
is_there untouched v f = (v, refl)
is_there (found r None) v f = (v, refl)
is_there (found r (Some w)) v f = (w, refl)
is_there (made w) v f = absurd f

abbrev pub AllThere : Store → List ℕ → Type 0
AllThere s [] = Unit {0}
AllThere s (l ∷ ls) = ((v : Value) × (s l ≡ Some v)) × AllThere s ls

still_there : (s : Store) (d : Effect) (ls : List ℕ) → FitsAll d s → AllThere s ls
    → AllThere (afterwards d s) ls
still_there s d [] fit h = tt
still_there s d (l ∷ ls) fit h =
    let q = is_there (d.cells l) h.0.0 (subst (λ o. Fits (d.cells l) o) h.0.1 (fit l)) in
    ((q.0, ap (left_at (d.cells l)) h.0.1 ∙ q.1), still_there s d ls fit h.1)

pub there_of : (s : Store) (ls : List ℕ) (l : ℕ) → AllThere s ls → IsOneOf l ls
    → (v : Value) × (s l ≡ Some v)
there_of s [] l h i = absurd i
there_of s (m ∷ ls) l h (inl e) = (h.0.0, ap s e ∙ h.0.1)
there_of s (m ∷ ls) l h (inr i) = there_of s ls l h.1 i

there_more : (s : Store) (ls : List ℕ) (l : ℕ) (v : Value) → AllThere s ls → s l ≡ Some v
    → AllThere s (ls ++ l ∷ [])
there_more s [] l v h e = ((v, e), tt)
there_more s (m ∷ ls) l v h e = (h.0, there_more s ls l v h.1 e)

one_behind : (m l : ℕ) (ls : List ℕ) → IsOneOf m (ls ++ l ∷ []) → IsOneOf m ls ⊎ (m ≡ l)
one_behind m l [] (inl e) = inr e
one_behind m l [] (inr i) = absurd i
one_behind m l (x ∷ ls) (inl e) = inl (inl e)
one_behind m l (x ∷ ls) (inr i) = go (one_behind m l ls i)
  where
    go : IsOneOf m ls ⊎ (m ≡ l) → IsOneOf m (x ∷ ls) ⊎ (m ≡ l)
    go (inl j) = inl (inr j)
    go (inr e) = inr e

none_more : (ls : List ℕ) (l : ℕ) → NoneTwice ls → (IsOneOf l ls → ⊥) → NoneTwice (ls ++ l ∷ [])
none_more [] l h other = ((λ i. i), tt)
none_more (m ∷ ls) l h other =
    ((λ i. apart (one_behind m l ls i)), none_more ls l h.1 (λ i. other (inr i)))
  where
    apart : IsOneOf m ls ⊎ (m ≡ l) → ⊥
    apart (inl i) = h.0 i
    apart (inr e) = other (inl (sym e))

-- some locations that are in a store, each once
abbrev pub StandAt : Store → List ℕ → Type 0
StandAt s ls = NoneTwice ls × AllThere s ls

pub only_more : (s : Store) (ls : List ℕ) (d : Done) → FitsAll d.effect s → d.added ≡ []
    → StandAt s ls → StandAt (afterwards d.effect s) (ls ++ objects d.added)
only_more s ls d fit e h =
    subst (λ ws. StandAt (afterwards d.effect s) (ls ++ objects ws)) (sym e)
    (subst (StandAt (afterwards d.effect s)) (sym (append-nil ls))
    (h.0, still_there s d.effect ls fit h.1))

same_place : (l : ℕ) → (l == l) ≡ true
same_place l = let e : l ≡ l = refl in search (rules, e)

made_here : (l : ℕ) (v : Value) (vs : List Value) → made_from l (v ∷ vs) l ≡ made (Some v)
made_here l v vs = ap (λ b. if b then made (Some v) else made_from (l + 1) vs l) (same_place l)

not_there : (o w : Option Value) → Fits (made w) o → o ≡ None
not_there None w f = refl
not_there (Some v) w f = absurd f

new_stands : (s : Store) (ls : List ℕ) (l : ℕ) (f : Value)
    → FitsAll (making l (opening_fields f) 1) s → StandAt s ls
    → StandAt (afterwards (making l (opening_fields f) 1) s)
    (ls ++ objects (thread (Some l) (new f) ∷ []))
new_stands s ls l f fit h =
    let e = making l (opening_fields f) 1 in
    let here : made_from l (opening_fields f) l ≡ made (Some f) =
    made_here l f (Small (pos 0) ∷ unit ∷ unit ∷ []) in
    let absent : s l ≡ None =
    not_there (s l) (Some f) (subst (λ c. Fits c (s l)) here (fit l)) in
    let after : afterwards e s l ≡ Some f = ap (λ c. left_at c (s l)) here in (
      none_more ls l h.0 (λ i. other absent (there_of s ls l h.1 i)),
      there_more (afterwards e s) ls l f (still_there s e ls fit h.1) after,
    )
  where
    other : s l ≡ None → (v : Value) × (s l ≡ Some v) → ⊥
    other e q = let z : None ≡ Some q.0 = sym e ∙ q.1 in cc

pub moves_stand : {p : Program} {k : Known} {inner : Bool} {us : List Thread} {loc : ℕ} {a b : Term}
    {d : Done} → Moves p k inner us loc a b d → (s : Store) (ls : List ℕ) → FitsAll d.effect s
    → StandAt s ls → StandAt (afterwards d.effect s) (ls ++ objects d.added)
moves_stand {loc = loc} (by_itself (spawns f h few e w)) s ls fit st =
    subst (λ (x : Done). FitsAll x.effect s
    → StandAt (afterwards x.effect s) (ls ++ objects x.added)) (sym w)
    (λ fit'. new_stands s ls loc f fit' st) fit
moves_stand {d = d} (by_itself (refuses f h many e i w)) s ls fit st =
    only_more s ls d fit (ap (λ (x : Done). x.added) w) st
moves_stand {d = d} (by_itself (waits l end h e i j w)) s ls fit st =
    only_more s ls d fit (ap (λ (x : Done). x.added) w) st
moves_stand {d = d} (by_itself (gets l end h e i j w)) s ls fit st =
    only_more s ls d fit (ap (λ (x : Done). x.added) w) st
moves_stand {d = d} (by_itself (asks l h e i w)) s ls fit st =
    only_more s ls d fit (ap (λ (x : Done). x.added) w) st
moves_stand {d = d} (comes e c vs n i h l w) s ls fit st =
    only_more s ls d fit (ap (λ (x : Done). x.added) w) st
moves_stand {d = d} (starts e c n h i l w) s ls fit st =
    only_more s ls d fit (ap (λ (x : Done). x.added) w) st
moves_stand {d = d} (as_ever e n i l w) s ls fit st =
    only_more s ls d fit (ap (λ (x : Done). x.added) w) st
