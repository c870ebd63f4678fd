-- What happens to one thread, event by event; and that few stand.
use Rattle.std.proofs.Common.{◌≡◌, ℕ, zero, suc, ◌+◌, ◌==◌, ◌≤◌, Bool, true, false, cond, List, [], ◌∷◌, None, inl, inr, ◌++◌, length, refl, arith, sym, ap, ◌∙◌, subst, rules, length-append}
use Rattle.fort_core.specs.declared.program.Program.{Program}
use Rattle.fort_core.specs.declared.term.Term.{Term}
use Rattle.fort_core.specs.declared.value.Value.{Value}
use Rattle.fort_machine.specs.Parts.{IsOneOf}
use Rattle.fort_machine.specs.Effects.{Store, Effect}
use Rattle.fort_threads.specs.Known.{Known}
use Rattle.fort_threads.specs.Threads.{Paths, Phase, new, going, over, Thread, thread, noted_by}
use Rattle.fort_threads.specs.Machine.{Event, takes, begins, ends, applied, Goes, rests, goes_on, begun, ended, alone, IsRun, HaveEnded}
use Rattle.fort_threads.specs.Lives.{number_of, of_thread, Stage, not_begun, alive, has_ended, Lives, EachLivesOnce, FirstLivesOnce, NoneBeginsTwice, NothingFollows}
use Rattle.fort_threads.specs.Limits.{AreFew, FewStand, FewInside}
use Rattle.fort_threads.proofs.Added.{AllNew, runs_new, runs_few}

-- how far each thread has come; who doesn't stand has not begun
abbrev stage_of : Phase → Stage
stage_of (new f) = not_begun
stage_of (going t asked) = alive
stage_of (over t) = has_ended

abbrev stage_at : List Thread → ℕ → Stage
stage_at [] n = not_begun
stage_at (u ∷ us) zero = stage_of u.phase
stage_at (u ∷ us) (suc n) = stage_at us n

stage_here : (us ws : List Thread) (u : Thread) (n : ℕ) → length us ≡ n
    → stage_at (us ++ u ∷ ws) n ≡ stage_of u.phase
stage_here [] ws u zero e = refl
stage_here [] ws u (suc n) e = absurd (omega arith)
stage_here (x ∷ us) ws u zero e = absurd (omega arith)
stage_here (x ∷ us) ws u (suc n) e = stage_here us ws u n (omega arith)

stage_new : (us : List Thread) (n : ℕ) → AllNew us → stage_at us n ≡ not_begun
stage_new [] n h = refl
stage_new (u ∷ us) zero h = ap stage_of h.0.1
stage_new (u ∷ us) (suc n) h = stage_new us n h.1

stage_more : (us ws : List Thread) (n : ℕ) → AllNew ws → stage_at (us ++ ws) n ≡ stage_at us n
stage_more [] ws n h = stage_new ws n h
stage_more (u ∷ us) ws zero h = refl
stage_more (u ∷ us) ws (suc n) h = stage_more us ws n h

stage_other : (us ws : List Thread) (u u' : Thread) (n : ℕ) → (length us ≡ n → ⊥)
    → stage_at (us ++ u' ∷ ws) n ≡ stage_at (us ++ u ∷ ws) n
stage_other [] ws u u' zero ne = absurd (ne refl)
stage_other [] ws u u' (suc n) ne = refl
stage_other (x ∷ us) ws u u' zero ne = refl
stage_other (x ∷ us) ws u u' (suc n) ne = stage_other us ws u u' n (λ e. ne (ap suc e))

stage_beside : (us ws more : List Thread) (u u' : Thread) (n : ℕ) → (length us ≡ n → ⊥)
    → AllNew more
    → stage_at (us ++ u' ∷ (ws ++ more)) n ≡ stage_at (us ++ u ∷ ws) n
stage_beside [] ws more u u' zero ne h = absurd (ne refl)
stage_beside [] ws more u u' (suc n) ne h = stage_more ws more n h
stage_beside (x ∷ us) ws more u u' zero ne h = refl
stage_beside (x ∷ us) ws more u u' (suc n) ne h =
    stage_beside us ws more u u' n (λ e. ne (ap suc e)) h

same_number : (m n : ℕ) → (m == n) ≡ true → m ≡ n
same_number m n e = search (rules, e)

other_number : (m n : ℕ) → (m == n) ≡ false → m ≡ n → ⊥
other_number m n e h = let q : (m == n) ≡ true = search (rules, h) in cc

-- an event, and those of the thread behind it
module _ (n : ℕ) (x : Event) (rest : List Event) (now next : Stage) where
  by_event : (number_of x ≡ n → Lives next (of_thread n rest) → Lives now (x ∷ of_thread n rest))
      → ((number_of x ≡ n → ⊥) → next ≡ now)
      → Lives next (of_thread n rest) → Lives now (of_thread n (x ∷ rest))
  by_event same other h = go (number_of x == n) refl
    where
      go : (b : Bool) → (number_of x == n) ≡ b
          → Lives now (cond b (x ∷ of_thread n rest) (of_thread n rest))
      go true e = same (same_number (number_of x) n e) h
      go false e =
          subst (λ z. Lives z (of_thread n rest)) (other (other_number (number_of x) n e)) h

lives : {p : Program} {k : Known} {now later : List Thread} {s : Store} {events : List Event}
    {d : Effect} → Goes p k now s events later d → (n : ℕ)
    → Lives (stage_at now n) (of_thread n events)
lives {now = now} (rests a b c) n =
    subst (λ es. Lives (stage_at now n) (of_thread n es)) (sym a) (none_lives (stage_at now n))
  where
    none_lives : (x : Stage) → Lives x []
    none_lives not_begun = tt
    none_lives alive = tt
    none_lives has_ended = tt
lives (goes_on {now = now} {rest = rest} {t = t} {u = u} {asked = asked} {pick = pick}
    {done = done} before behind object a b run on e) n =
    let first = thread object (going t asked) in
    let next = thread object (going u (noted_by pick done.came asked)) in
    let x = takes (length before) pick in
    let more = runs_new run in
    subst (λ es. Lives (stage_at now n) (of_thread n es)) (sym a)
    (subst (λ us. Lives (stage_at us n) (of_thread n (x ∷ rest))) (sym b)
    (by_event n x rest (stage_at (before ++ first ∷ behind) n)
    (stage_at (before ++ next ∷ (behind ++ done.added)) n)
    (λ q h. subst (λ z. Lives z (x ∷ of_thread n rest)) (sym (stage_here before behind first n q))
    (subst (λ z. Lives z (of_thread n rest))
    (stage_here before (behind ++ done.added) next n q) h))
    (λ ne. stage_beside before behind done.added first next n ne more) (lives on n)))
lives (begun {now = now} {rest = rest} before behind object f a b on) n =
    let first = thread object (new f) in
    let next = thread object (going (applied f) []) in
    let x = begins (length before) in
    subst (λ es. Lives (stage_at now n) (of_thread n es)) (sym a)
    (subst (λ us. Lives (stage_at us n) (of_thread n (x ∷ rest))) (sym b)
    (by_event n x rest (stage_at (before ++ first ∷ behind) n)
    (stage_at (before ++ next ∷ behind) n)
    (λ q h. subst (λ z. Lives z (x ∷ of_thread n rest)) (sym (stage_here before behind first n q))
    (subst (λ z. Lives z (of_thread n rest)) (stage_here before behind next n q) h))
    (λ ne. stage_other before behind first next n ne) (lives on n)))
lives (ended {now = now} {rest = rest} {t = t} before behind object asked a b c on) n =
    let first = thread object (going t asked) in
    let next = thread object (over t) in
    let x = ends (length before) in
    subst (λ es. Lives (stage_at now n) (of_thread n es)) (sym a)
    (subst (λ us. Lives (stage_at us n) (of_thread n (x ∷ rest))) (sym b)
    (by_event n x rest (stage_at (before ++ first ∷ behind) n)
    (stage_at (before ++ next ∷ behind) n)
    (λ q h. subst (λ z. Lives z (x ∷ of_thread n rest)) (sym (stage_here before behind first n q))
    (subst (λ z. Lives z (of_thread n rest)) (stage_here before behind next n q) h))
    (λ ne. stage_other before behind first next n ne) (lives on n)))

-- in a run of a program
pub each_lives_once : EachLivesOnce
each_lives_once p k events later d run zero positive = absurd (omega arith)
each_lives_once p k events later d run (suc n) positive = lives run.goes (suc n)

pub first_lives_once : FirstLivesOnce
first_lives_once p k events later d run = lives run.goes 0

-- ---- no second begin

not_ended : (xs ys : List Event) (n : ℕ) → Lives has_ended (xs ++ begins n ∷ ys) → ⊥
not_ended [] ys n h = h
not_ended (takes m q ∷ xs) ys n h = h
not_ended (begins m ∷ xs) ys n h = h
not_ended (ends m ∷ xs) ys n h = h

not_alive : (xs ys : List Event) (n : ℕ) → Lives alive (xs ++ begins n ∷ ys) → ⊥
not_alive [] ys n h = h
not_alive (takes m q ∷ xs) ys n h = not_alive xs ys n h
not_alive (begins m ∷ xs) ys n h = h
not_alive (ends m ∷ xs) ys n h = not_ended xs ys n h

-- behind a begin a thread is alive
behind_begin : (z : Stage) (xs ys : List Event) (n : ℕ) → Lives z (xs ++ begins n ∷ ys)
    → Lives alive ys
behind_begin not_begun [] ys n h = h
behind_begin not_begun (takes m q ∷ xs) ys n h = absurd h
behind_begin not_begun (begins m ∷ xs) ys n h = absurd (not_alive xs ys n h)
behind_begin not_begun (ends m ∷ xs) ys n h = absurd h
behind_begin alive xs ys n h = absurd (not_alive xs ys n h)
behind_begin has_ended xs ys n h = absurd (not_ended xs ys n h)

of_append : (n : ℕ) (xs ys : List Event)
    → of_thread n (xs ++ ys) ≡ of_thread n xs ++ of_thread n ys
of_append n [] ys = refl
of_append n (x ∷ xs) ys = go (number_of x == n) (of_append n xs ys)
  where
    go : (b : Bool) → of_thread n (xs ++ ys) ≡ of_thread n xs ++ of_thread n ys
        → cond b (x ∷ of_thread n (xs ++ ys)) (of_thread n (xs ++ ys))
        ≡ cond b (x ∷ of_thread n xs) (of_thread n xs) ++ of_thread n ys
    go true e = ap (λ zs. x ∷ zs) e
    go false e = e

of_itself : (n : ℕ) (ys : List Event) → of_thread n (begins n ∷ ys) ≡ begins n ∷ of_thread n ys
of_itself n ys =
    let same : n ≡ n = refl in
    let e : (n == n) ≡ true = search (rules, same) in
    ap (λ b. cond b (begins n ∷ of_thread n ys) (of_thread n ys)) e

of_begin : (n : ℕ) (xs ys : List Event)
    → of_thread n (xs ++ begins n ∷ ys) ≡ of_thread n xs ++ begins n ∷ of_thread n ys
of_begin n xs ys =
    of_append n xs (begins n ∷ ys) ∙ ap (λ zs. of_thread n xs ++ zs) (of_itself n ys)

pub none_begins_twice : NoneBeginsTwice
none_begins_twice p k events later d run before between behind n e =
    let all : Lives (stage_at (alone p.first) n) (of_thread n events) = lives run.goes n in
    let parted : of_thread n events ≡ of_thread n before
    ++ begins n ∷ of_thread n (between ++ begins n ∷ behind) =
    ap (of_thread n) e ∙ of_begin n before (between ++ begins n ∷ behind) in
    let more = behind_begin (stage_at (alone p.first) n) (of_thread n before)
    (of_thread n (between ++ begins n ∷ behind)) n
    (subst (Lives (stage_at (alone p.first) n)) parted all) in
    not_alive (of_thread n between) (of_thread n behind) n
    (subst (Lives alive) (of_begin n between behind) more)

-- thread 0 doesn't begin
pub begins_not_first : (p : Program) (k : Known) (events : List Event) (later : List Thread)
    (d : Effect) → IsRun p k events later d → (before behind : List Event)
    → events ≡ before ++ begins 0 ∷ behind → ⊥
begins_not_first p k events later d run before behind e =
    let all : Lives alive (of_thread 0 events) = lives run.goes 0 in
    not_alive (of_thread 0 before) (of_thread 0 behind) 0
    (subst (Lives alive) (ap (of_thread 0) e ∙ of_begin 0 before behind) all)

-- ---- few stand

longer : (us ws more : List Thread) (u u' : Thread) → AreFew ((us ++ u ∷ ws) ++ more)
    → AreFew (us ++ u' ∷ (ws ++ more))
longer us ws more u u' h =
    let a : length ((us ++ u ∷ ws) ++ more) ≡ length (us ++ u ∷ ws) + length more =
    length-append (us ++ u ∷ ws) more in
    let b : length (us ++ u ∷ ws) ≡ length us + suc (length ws) = length-append us (u ∷ ws) in
    let c : length (us ++ u' ∷ (ws ++ more)) ≡ length us + suc (length (ws ++ more)) =
    length-append us (u' ∷ (ws ++ more)) in
    let e : length (ws ++ more) ≡ length ws + length more = length-append ws more in
    let g : length ((us ++ u ∷ ws) ++ more) ≤ 65 = h in
    omega arith

same_many : (us ws : List Thread) (u u' : Thread) → AreFew (us ++ u ∷ ws)
    → AreFew (us ++ u' ∷ ws)
same_many us ws u u' h =
    let b : length (us ++ u ∷ ws) ≡ length us + suc (length ws) = length-append us (u ∷ ws) in
    let c : length (us ++ u' ∷ ws) ≡ length us + suc (length ws) = length-append us (u' ∷ ws) in
    let g : length (us ++ u ∷ ws) ≤ 65 = h in
    omega arith

stay_few : {p : Program} {k : Known} {now later : List Thread} {s : Store} {events : List Event}
    {d : Effect} → Goes p k now s events later d → AreFew now → AreFew later
stay_few (rests a b c) h = subst AreFew (sym b) h
stay_few (goes_on {t = t} {u = u} {asked = asked} {pick = pick} {done = done} before behind object
    a b run on e) h =
    let few : AreFew ((before ++ thread object (going t asked) ∷ behind) ++ done.added) =
    subst (λ us. AreFew (us ++ done.added)) b (runs_few run h) in
    stay_few on (longer before behind done.added (thread object (going t asked))
    (thread object (going u (noted_by pick done.came asked))) few)
stay_few (begun before behind object f a b on) h =
    stay_few on (same_many before behind (thread object (new f))
    (thread object (going (applied f) [])) (subst AreFew b h))
stay_few (ended {t = t} before behind object asked a b c on) h =
    stay_few on (same_many before behind (thread object (going t asked)) (thread object (over t))
    (subst AreFew b h))

pub few_stand : FewStand
few_stand p k events later d run = let one : length (alone p.first) ≤ 65 = omega arith in
    stay_few run.goes one

pub few_inside : FewInside
few_inside p k inner beside standing asked s picks t r d run h = runs_few run h

-- ---- where all have ended

abbrev AllOver : List Thread → Type 0
AllOver us = (u : Thread) → IsOneOf u us → (t : Term) × (u.phase ≡ over t)

one_there : (us ws : List Thread) (u : Thread) → IsOneOf u (us ++ u ∷ ws)
one_there [] ws u = inl refl
one_there (x ∷ us) ws u = inr (one_there us ws u)

all_over : (now : List Thread) (end : Term) → HaveEnded now end → AllOver now
all_over now end h u i = go (subst (IsOneOf u) h.are_all i)
  where
    go : IsOneOf u (thread None (over end) ∷ h.others) → (t : Term) × (u.phase ≡ over t)
    go (inl e) = (end, ap (λ (x : Thread). x.phase) e)
    go (inr j) = h.all_over u j

none_goes : (t v : Term) (asked : Paths) → going t asked ≡ over v → ⊥
none_goes t v asked e = cc

none_new : (f : Value) (v : Term) → new f ≡ over v → ⊥
none_new f v e = cc

pub nothing_follows : NothingFollows
nothing_follows p k now later s events d end h (rests a b c) = (a, b, c)
nothing_follows p k now later s events d end h (goes_on {t = t} {asked = asked} us ws object a b run
    on w) =
    let u = thread object (going t asked) in
    let q = all_over now end h u (subst (IsOneOf u) (sym b) (one_there us ws u)) in
    absurd (none_goes t q.0 asked q.1)
nothing_follows p k now later s events d end h (begun us ws object f a b on) =
    let u = thread object (new f) in
    let q = all_over now end h u (subst (IsOneOf u) (sym b) (one_there us ws u)) in
    absurd (none_new f q.0 q.1)
nothing_follows p k now later s events d end h (ended {t = t} us ws object asked a b c on) =
    let u = thread object (going t asked) in
    let q = all_over now end h u (subst (IsOneOf u) (sym b) (one_there us ws u)) in
    absurd (none_goes t q.0 asked q.1)
