-- Threads that a stretch adds have not begun, and are few.
use Rattle.std.proofs.Common.{◌≡◌, ℕ, ◌+◌, ◌≤◌, Bool, List, [], ◌∷◌, ◌++◌, length, refl, arith, sym, subst, append_assoc, append-nil, length-append}
use Rattle.fort_core.specs.declared.pick.Pick.{Pick}
use Rattle.fort_core.specs.declared.program.Program.{Program}
use Rattle.fort_core.specs.declared.term.Term.{Term}
use Rattle.fort_core.specs.declared.value.Value.{Value}
use Rattle.fort_machine.specs.Attempts.{Ended, goes, aborts}
use Rattle.fort_machine.specs.Effects.{Store}
use Rattle.fort_machine.specs.Ends.{Standing, at_value, at_throw, open_yet, standing}
use Rattle.fort_threads.specs.Known.{Known}
use Rattle.fort_threads.specs.Threads.{Paths, new, Thread, Done, kept_at, kept}
use Rattle.fort_threads.specs.Moves.{OwnStep, spawns, refuses, waits, gets, asks, Moves, by_itself, comes, starts, as_ever}
use Rattle.fort_threads.specs.Runs.{Runs, none, step, stop, attempt}
use Rattle.fort_threads.specs.Limits.{AreFew}

-- none of some threads has begun
abbrev pub AllNew : List Thread → Type 0
AllNew [] = Unit {0}
AllNew (u ∷ us) = ((f : Value) × (u.phase ≡ new f)) × AllNew us

pub new_append : (us ws : List Thread) → AllNew us → AllNew ws → AllNew (us ++ ws)
new_append [] ws h k = k
new_append (u ∷ us) ws h k = (h.0, new_append us ws h.1 k)

kept_at_new : (x : Standing) (us : List Thread) → AllNew us → AllNew (kept_at x us)
kept_at_new (at_value v) us h = h
kept_at_new (at_throw v) us h = tt
kept_at_new open_yet us h = tt

kept_new : (r : Ended) (us : List Thread) → AllNew us → AllNew (kept r us)
kept_new (goes t) us h = kept_at_new (standing t) us h
kept_new aborts us h = tt

own_new : {p : Program} {k : Known} {standing : List Thread} {loc : ℕ} {a b : Term} {d : Done}
    → OwnStep p k standing loc a b d → AllNew d.added
own_new (spawns f h few e w) = subst (λ (x : Done). AllNew x.added) (sym w) ((f, refl), tt)
own_new (refuses f h many e g w) = subst (λ (x : Done). AllNew x.added) (sym w) tt
own_new (waits l end h e g i w) = subst (λ (x : Done). AllNew x.added) (sym w) tt
own_new (gets l end h e g i w) = subst (λ (x : Done). AllNew x.added) (sym w) tt
own_new (asks l h e g w) = subst (λ (x : Done). AllNew x.added) (sym w) tt

pub moves_new : {p : Program} {k : Known} {inner : Bool} {standing : List Thread} {loc : ℕ}
    {a b : Term} {d : Done} → Moves p k inner standing loc a b d → AllNew d.added
moves_new (by_itself h) = own_new h
moves_new (comes e c vs n i h l w) = subst (λ (x : Done). AllNew x.added) (sym w) tt
moves_new (starts e c n h i l w) = subst (λ (x : Done). AllNew x.added) (sym w) tt
moves_new (as_ever e n i l w) = subst (λ (x : Done). AllNew x.added) (sym w) tt

pub runs_new : {p : Program} {k : Known} {inner : Bool} {beside standing : List Thread}
    {asked : Paths} {s : Store} {picks : List Pick} {t : Term} {r : Ended} {d : Done}
    → Runs p k inner beside standing asked s picks t r d → AllNew d.added
runs_new (none a b w) = subst (λ (x : Done). AllNew x.added) (sym w) tt
runs_new (step {d1 = d1} {d2 = d2} fs a b c e m f rest w) =
    subst (λ (x : Done). AllNew x.added) (sym w)
    (new_append d1.added d2.added (moves_new m) (runs_new rest))
runs_new (stop fs a b c e f g h x w) = subst (λ (x : Done). AllNew x.added) (sym w) tt
runs_new (attempt {ended = ended} {d1 = d1} {d3 = d3} fs a b c e f g h x inside y rest w) =
    subst (λ (x : Done). AllNew x.added) (sym w)
    (new_append (kept ended d1.added) d3.added (kept_new ended d1.added (runs_new inside))
    (runs_new rest))

-- ---- how many

few_nil : (us : List Thread) → AreFew us → AreFew (us ++ [])
few_nil us h = subst AreFew (sym (append-nil us)) h

few_more : (us ws xs : List Thread) → AreFew ((us ++ ws) ++ xs) → AreFew (us ++ (ws ++ xs))
few_more us ws xs h = subst AreFew (append_assoc us ws xs) h

one_more : (us : List Thread) (w : Thread) → length us ≤ 64 → AreFew (us ++ w ∷ [])
one_more us w h = let e : length (us ++ w ∷ []) ≡ length us + 1 = length-append us (w ∷ []) in
    omega arith

own_few : {p : Program} {k : Known} {standing : List Thread} {loc : ℕ} {a b : Term} {d : Done}
    → OwnStep p k standing loc a b d → AreFew standing → AreFew (standing ++ d.added)
own_few {standing = us} (spawns f h few e w) g =
    subst (λ (x : Done). AreFew (us ++ x.added)) (sym w) (one_more us _ few)
own_few {standing = us} (refuses f h many e i w) g =
    subst (λ (x : Done). AreFew (us ++ x.added)) (sym w) (few_nil us g)
own_few {standing = us} (waits l end h e i j w) g =
    subst (λ (x : Done). AreFew (us ++ x.added)) (sym w) (few_nil us g)
own_few {standing = us} (gets l end h e i j w) g =
    subst (λ (x : Done). AreFew (us ++ x.added)) (sym w) (few_nil us g)
own_few {standing = us} (asks l h e i w) g =
    subst (λ (x : Done). AreFew (us ++ x.added)) (sym w) (few_nil us g)

moves_few : {p : Program} {k : Known} {inner : Bool} {standing : List Thread} {loc : ℕ}
    {a b : Term} {d : Done} → Moves p k inner standing loc a b d → AreFew standing
    → AreFew (standing ++ d.added)
moves_few (by_itself h) g = own_few h g
moves_few {standing = us} (comes e c vs n i h l w) g =
    subst (λ (x : Done). AreFew (us ++ x.added)) (sym w) (few_nil us g)
moves_few {standing = us} (starts e c n h i l w) g =
    subst (λ (x : Done). AreFew (us ++ x.added)) (sym w) (few_nil us g)
moves_few {standing = us} (as_ever e n i l w) g =
    subst (λ (x : Done). AreFew (us ++ x.added)) (sym w) (few_nil us g)

kept_at_few : (us ws : List Thread) (x : Standing) → AreFew us → AreFew (us ++ ws)
    → AreFew (us ++ kept_at x ws)
kept_at_few us ws (at_value v) g h = h
kept_at_few us ws (at_throw v) g h = few_nil us g
kept_at_few us ws open_yet g h = few_nil us g

kept_few : (us ws : List Thread) (r : Ended) → AreFew us → AreFew (us ++ ws)
    → AreFew (us ++ kept r ws)
kept_few us ws (goes t) g h = kept_at_few us ws (standing t) g h
kept_few us ws aborts g h = few_nil us g

pub runs_few : {p : Program} {k : Known} {inner : Bool} {beside standing : List Thread}
    {asked : Paths} {s : Store} {picks : List Pick} {t : Term} {r : Ended} {d : Done}
    → Runs p k inner beside standing asked s picks t r d → AreFew standing
    → AreFew (standing ++ d.added)
runs_few {standing = us} (none a b w) g =
    subst (λ (x : Done). AreFew (us ++ x.added)) (sym w) (few_nil us g)
runs_few {standing = us} (step {d1 = d1} {d2 = d2} fs a b c e m f rest w) g =
    subst (λ (x : Done). AreFew (us ++ x.added)) (sym w)
    (few_more us d1.added d2.added (runs_few rest (moves_few m g)))
runs_few {standing = us} (stop fs a b c e f h i x w) g =
    subst (λ (x : Done). AreFew (us ++ x.added)) (sym w) (few_nil us g)
runs_few {standing = us}
    (attempt {ended = ended} {d1 = d1} {d3 = d3} fs a b c e f h i x inside y rest w) g =
    subst (λ (x : Done). AreFew (us ++ x.added)) (sym w)
    (few_more us (kept ended d1.added) d3.added
    (runs_few rest (kept_few us d1.added ended g (runs_few inside g))))
