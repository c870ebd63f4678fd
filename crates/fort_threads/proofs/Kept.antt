-- Threads that begin: how each of them was spawned.
use Rattle.std.proofs.Common.{◌≡◌, ℕ, zero, suc, ◌+◌, ◌<◌, ◌≤◌, Bool, true, false, nat_lt, rules, List, [], ◌∷◌, ◌++◌, length, Some, slice_get, refl, arith, sym, ap, ◌∙◌, subst, length-append, ◌⊎◌, inl, inr}
use Rattle.fort_core.specs.declared.pick.Pick.{Pick}
use Rattle.fort_core.specs.declared.program.Program.{Program}
use Rattle.fort_core.specs.declared.term.Term.{Term}
use Rattle.fort_core.specs.declared.term.Term as term
use Rattle.fort_core.specs.declared.value.Value.{Value}
use Rattle.fort_machine.specs.Attempts.{Ended, goes, aborts, completed, failed, gave_up, fell_asleep}
use Rattle.fort_machine.specs.Effects.{Store, Effect, idle, both, afterwards}
use Rattle.fort_machine.specs.Ends.{open_yet, standing, throw_of, Finished}
use Rattle.fort_machine.specs.Ends as ends_of
use Rattle.fort_machine.specs.Parts.{IsOneOf}
use Rattle.fort_machine.proofs.Standing.{decide, standing-Value, standing-throw}
use Rattle.fort_threads.specs.Known.{Known}
use Rattle.fort_threads.specs.Threads.{Paths, new, going, over, Thread, thread, Done, kept_at, kept, noted_by}
use Rattle.fort_threads.specs.Runs.{Runs, none, step, stop, attempt}
use Rattle.fort_threads.specs.Machine.{Event, takes, begins, ends, applied, Goes, rests, goes_on, begun, ended}
use Rattle.fort_threads.specs.Kept.{UndoneAddNone, Completes, SpawnedIn, KeptIn, BegunWereKept}
use Rattle.fort_threads.proofs.Lives.{begins_not_first}

-- one of two lists is one of the first or of the second
one_of_both : (u : Thread) (us ws : List Thread) → IsOneOf u (us ++ ws)
    → IsOneOf u us ⊎ IsOneOf u ws
one_of_both u [] ws h = inr h
one_of_both u (x ∷ us) ws (inl e) = inl (inl e)
one_of_both u (x ∷ us) ws (inr h) = go (one_of_both u us ws h)
  where
    go : IsOneOf u us ⊎ IsOneOf u ws → IsOneOf u (x ∷ us) ⊎ IsOneOf u ws
    go (inl k) = inl (inr k)
    go (inr k) = inr k

-- what an attempt leaves, a completed one left
kept_completes : (u : Thread) (us : List Thread) (r : Ended) → IsOneOf u (kept r us)
    → Completes r × IsOneOf u us
kept_completes u us aborts h = absurd h
kept_completes u us (goes t) h = go (decide t)
  where
    go : (standing t ≡ open_yet) ⊎ Finished t → Completes (goes t) × IsOneOf u us
    go (inl o) = absurd (subst (λ z. IsOneOf u (kept_at z us)) o h)
    go (inr (ends_of.Finished.throw v e)) =
        absurd (subst (λ z. IsOneOf u (kept_at z us)) (ap standing e ∙ standing-throw v) h)
    go (inr (ends_of.Finished.value v e)) = ((v, ap goes e), one_kept (standing t) h)
      where
        one_kept : (z : ends_of.Standing) → IsOneOf u (kept_at z us) → IsOneOf u us
        one_kept (ends_of.at_value v) k = k
        one_kept (ends_of.at_throw v) k = absurd k
        one_kept ends_of.open_yet k = absurd k

-- what an attempt leaves: all at a value, else nothing
pub kept_value : (v : Value) (r : Ended) (ws : List Thread) → r ≡ goes (term.Value v)
    → kept r ws ≡ ws
kept_value v r ws e = ap (λ x. kept x ws) e ∙ ap (λ z. kept_at z ws) (standing-Value v)

pub kept_throw : (v : Value) (r : Ended) (ws : List Thread) → r ≡ goes (throw_of v) → kept r ws ≡ []
kept_throw v r ws e = ap (λ x. kept x ws) e ∙ ap (λ z. kept_at z ws) (standing-throw v)

pub undone_add_none : UndoneAddNone
undone_add_none p m body b r d e (completed v g h i) undone = absurd (undone v h)
undone_add_none p m body b r d e (failed v g h i) undone = kept_throw v r d.added g
undone_add_none p m body b r d e (gave_up v g h i j l) undone = ap (λ x. kept x d.added) g
undone_add_none p m body b r d e (fell_asleep marks g h i j l w) undone =
    ap (λ x. kept x d.added) g

-- each thread that a run added was spawned in it, in completed attempts alone
added_spawned : {p : Program} {k : Known} {inner : Bool} {beside standing : List Thread}
    {asked : Paths} {s : Store} {picks : List Pick} {t : Term} {r : Ended} {d : Done}
    (run : Runs p k inner beside standing asked s picks t r d) (u : Thread) → IsOneOf u d.added
    → SpawnedIn run u
added_spawned (none a b w) u h = absurd (subst (λ (x : Done). IsOneOf u x.added) w h)
added_spawned (step {d1 = d1} {d2 = d2} fs a b c e m f rest w) u h =
    go (one_of_both u d1.added d2.added (subst (λ (x : Done). IsOneOf u x.added) w h))
    (added_spawned rest u)
  where
    go : IsOneOf u d1.added ⊎ IsOneOf u d2.added → (IsOneOf u d2.added → SpawnedIn rest u)
        → IsOneOf u d1.added ⊎ SpawnedIn rest u
    go (inl i) more = inl i
    go (inr i) more = inr (more i)
added_spawned (stop fs a b c e f g i x w) u h =
    absurd (subst (λ (x : Done). IsOneOf u x.added) w h)
added_spawned (attempt {ended = r} {d1 = d1} {d3 = d3} fs a b c e f g i x inside y rest w) u h =
    go (one_of_both u (kept r d1.added) d3.added (subst (λ (x : Done). IsOneOf u x.added) w h))
    (added_spawned inside u) (added_spawned rest u)
  where
    go : IsOneOf u (kept r d1.added) ⊎ IsOneOf u d3.added
        → (IsOneOf u d1.added → SpawnedIn inside u) → (IsOneOf u d3.added → SpawnedIn rest u)
        → (Completes r × SpawnedIn inside u) ⊎ SpawnedIn rest u
    go (inl j) within more =
        let q = kept_completes u d1.added r j in inl (q.0, within q.1)
    go (inr j) within more = inr (more j)

-- the thread of a number among two lists, where it isn't among the first
second_one : (us ws : List Thread) (n : ℕ) → length us ≤ n → n < length (us ++ ws)
    → (u : Thread) × (slice_get (us ++ ws) n ≡ Some u) × IsOneOf u ws
second_one [] [] n h l = absurd (omega arith)
second_one [] (w ∷ ws) zero h l = (w, refl, inl refl)
second_one [] (w ∷ ws) (suc n) h l =
    let q = second_one [] ws n (omega arith) (omega arith) in (q.0, q.1, inr q.2)
second_one (x ∷ us) ws zero h l = absurd (omega arith)
second_one (x ∷ us) ws (suc n) h l = second_one us ws n (omega arith) (omega arith)

-- ---- a run up to one of its events

head_is : {A : Type 0} (x y : A) (xs ys : List A) → x ∷ xs ≡ y ∷ ys → y ≡ x
head_is x y xs ys e = cc

tail_is : {A : Type 0} (x y : A) (xs ys : List A) → x ∷ xs ≡ y ∷ ys → xs ≡ ys
tail_is x y xs ys e = cc

pub record UpTo (p : Program) (k : Known) (now : List Thread) (s : Store)
    (events : List Event) : Type 0 where
  pub later : List Thread
  pub done : Effect
  pub run : Goes p k now s events later done

at_start : {p : Program} {k : Known} {now : List Thread} {s : Store} → UpTo p k now s []
at_start {now = now} = record { later = now; done = idle; run = rests refl refl refl }

up_to : {p : Program} {k : Known} {now later : List Thread} {s : Store} {events : List Event}
    {d : Effect} → Goes p k now s events later d → (xs ys : List Event) → events ≡ xs ++ ys
    → UpTo p k now s xs
up_to (rests a b c) [] ys e = at_start
up_to (rests a b c) (x ∷ xs) ys e = absurd (let z : [] ≡ x ∷ (xs ++ ys) = sym a ∙ e in cc)
up_to (goes_on before behind object a b run on w) [] ys e = at_start
up_to (goes_on {rest = rest} {pick = pick} {done = done} before behind object a b run on w)
    (x ∷ xs) ys e =
    let z : takes (length before) pick ∷ rest ≡ x ∷ (xs ++ ys) = sym a ∙ e in
    let q = up_to on xs ys (tail_is _ _ _ _ z) in
    record {
      later = q.later;
      done = both done.effect q.done;
      run = goes_on before behind object (ap (λ y. y ∷ xs) (head_is _ _ _ _ z)) b run q.run refl;
    }
up_to (begun before behind object f a b on) [] ys e = at_start
up_to (begun {rest = rest} before behind object f a b on) (x ∷ xs) ys e =
    let z : begins (length before) ∷ rest ≡ x ∷ (xs ++ ys) = sym a ∙ e in
    let q = up_to on xs ys (tail_is _ _ _ _ z) in
    record {
      later = q.later;
      done = q.done;
      run = begun before behind object f (ap (λ y. y ∷ xs) (head_is _ _ _ _ z)) b q.run;
    }
up_to (ended before behind object asked a b c on) [] ys e = at_start
up_to (ended {rest = rest} before behind object asked a b c on) (x ∷ xs) ys e =
    let z : ends (length before) ∷ rest ≡ x ∷ (xs ++ ys) = sym a ∙ e in
    let q = up_to on xs ys (tail_is _ _ _ _ z) in
    record {
      later = q.later;
      done = q.done;
      run = ended before behind object asked (ap (λ y. y ∷ xs) (head_is _ _ _ _ z)) b c q.run;
    }

-- what stands behind an event, in a run that begins with one
longer_now : (us ws : List Thread) (u : Thread) → length us < length (us ++ u ∷ ws)
longer_now us ws u =
    let e : length (us ++ u ∷ ws) ≡ length us + suc (length ws) = length-append us (u ∷ ws) in
    omega arith

as_long : (us ws : List Thread) (u u' : Thread)
    → length (us ++ u' ∷ ws) ≡ length (us ++ u ∷ ws)
as_long us ws u u' =
    let a : length (us ++ u ∷ ws) ≡ length us + suc (length ws) = length-append us (u ∷ ws) in
    let b : length (us ++ u' ∷ ws) ≡ length us + suc (length ws) = length-append us (u' ∷ ws) in
    omega arith

longer_by : (us ws more : List Thread) (u u' : Thread)
    → length (us ++ u' ∷ (ws ++ more)) ≡ length ((us ++ u ∷ ws) ++ more)
longer_by us ws more u u' =
    let a : length ((us ++ u ∷ ws) ++ more) ≡ length (us ++ u ∷ ws) + length more =
    length-append (us ++ u ∷ ws) more in
    let b : length (us ++ u ∷ ws) ≡ length us + suc (length ws) = length-append us (u ∷ ws) in
    let c : length (us ++ u' ∷ (ws ++ more)) ≡ length us + suc (length (ws ++ more)) =
    length-append us (u' ∷ (ws ++ more)) in
    let e : length (ws ++ more) ≡ length ws + length more = length-append ws more in
    omega arith

-- A run up to the time at which a thread begins that wasn't there at first, and how it came.
pub record Came (p : Program) (k : Known) (now : List Thread) (s : Store) (events : List Event)
    (n : ℕ) : Type 0 where
  pub up : UpTo p k now s events
  pub is_kept : KeptIn up.run n

by_size : (m l : ℕ) → (l ≤ m) ⊎ (m < l)
by_size m l = go (nat_lt m l) refl
  where
    go : (b : Bool) → nat_lt m l ≡ b → (l ≤ m) ⊎ (m < l)
    go true e = inr (search (rules, e))
    go false e = inl (search (rules, e))

too_far : (l m n : ℕ) → l ≡ n → l < m → m ≤ n → ⊥
too_far l m n e h k = omega arith

one_at_most : (n : ℕ) → 1 ≤ suc n
one_at_most n = omega arith

came : {p : Program} {k : Known} {now later : List Thread} {s : Store} {events : List Event}
    {d : Effect} → Goes p k now s events later d → (before behind : List Event) (n : ℕ)
    → events ≡ before ++ begins n ∷ behind → length now ≤ n → Came p k now s before n
came (rests a b c) [] behind n e far = absurd (let z : [] ≡ begins n ∷ behind = sym a ∙ e in cc)
came (rests a b c) (x ∷ xs) behind n e far =
    absurd (let z : [] ≡ x ∷ (xs ++ begins n ∷ behind) = sym a ∙ e in cc)
came (goes_on {rest = rest} {pick = pick} us ws object a b run on w) [] behind n e far =
    absurd (let z : takes (length us) pick ∷ rest ≡ begins n ∷ behind = sym a ∙ e in cc)
came {p = p} {k = k} {now = now} {s = s} (goes_on {rest = rest} {t = t} {u = u} {asked = asked}
    {pick = pick} {done = done} us ws object a b run on w) (x ∷ xs) behind n e far =
    let z : takes (length us) pick ∷ rest ≡ x ∷ (xs ++ begins n ∷ behind) = sym a ∙ e in
    go (by_size n (length (now ++ done.added)))
    (up_to on xs (begins n ∷ behind) (tail_is _ _ _ _ z))
    (came on xs behind n (tail_is _ _ _ _ z)) (ap (λ y. y ∷ xs) (head_is _ _ _ _ z))
  where
    many : length (us ++ thread object (going u (noted_by pick done.came asked))
        ∷ (ws ++ done.added))
        ≡ length (now ++ done.added)
    many = longer_by us ws done.added (thread object (going t asked))
        (thread object (going u (noted_by pick done.came asked)))
        ∙ ap (λ l. length (l ++ done.added)) (sym b)

    go : (length (now ++ done.added) ≤ n) ⊎ (n < length (now ++ done.added))
        → UpTo p k (us ++ thread object (going u (noted_by pick done.came asked))
        ∷ (ws ++ done.added)) (afterwards done.effect s) xs
        → (length (us ++ thread object (going u (noted_by pick done.came asked))
        ∷ (ws ++ done.added)) ≤ n
        → Came p k (us ++ thread object (going u (noted_by pick done.came asked))
        ∷ (ws ++ done.added)) (afterwards done.effect s) xs n)
        → x ∷ xs ≡ takes (length us) pick ∷ xs
        → Came p k now s (x ∷ xs) n
    go (inl h) up next is =
        let q = next (subst (λ l. l ≤ n) (sym many) h) in
        record {
          up = record {
            later = q.up.later;
            done = both done.effect q.up.done;
            run = goes_on us ws object is b run q.up.run refl;
          };
          is_kept = inr q.is_kept;
        }
    go (inr h) up next is =
        let q = second_one now done.added n far h in
        record {
          up = record {
            later = up.later;
            done = both done.effect up.done;
            run = goes_on us ws object is b run up.run refl;
          };
          is_kept = inl (q.0, far, q.1, added_spawned run q.0 q.2);
        }
came (begun {rest = rest} us ws object f a b on) [] behind n e far =
    let z : begins (length us) ∷ rest ≡ begins n ∷ behind = sym a ∙ e in
    let q : length us ≡ n = cc in
    let l = subst (λ x. length us < length x) (sym b) (longer_now us ws (thread object (new f))) in
    absurd (too_far _ _ n q l far)
came {now = now} (begun {rest = rest} us ws object f a b on) (x ∷ xs) behind n e far =
    let z : begins (length us) ∷ rest ≡ x ∷ (xs ++ begins n ∷ behind) = sym a ∙ e in
    let many : length (us ++ thread object (going (applied f) []) ∷ ws) ≡ length now =
    as_long us ws (thread object (new f)) (thread object (going (applied f) []))
    ∙ ap length (sym b) in
    let q = came on xs behind n (tail_is _ _ _ _ z) (subst (λ l. l ≤ n) (sym many) far) in
    record {
      up = record {
        later = q.up.later;
        done = q.up.done;
        run = begun us ws object f (ap (λ y. y ∷ xs) (head_is _ _ _ _ z)) b q.up.run;
      };
      is_kept = q.is_kept;
    }
came (ended {rest = rest} us ws object asked a b c on) [] behind n e far =
    absurd (let z : ends (length us) ∷ rest ≡ begins n ∷ behind = sym a ∙ e in cc)
came {now = now} (ended {rest = rest} {t = t} us ws object asked a b c on) (x ∷ xs) behind n e far =
    let z : ends (length us) ∷ rest ≡ x ∷ (xs ++ begins n ∷ behind) = sym a ∙ e in
    let many : length (us ++ thread object (over t) ∷ ws) ≡ length now =
    as_long us ws (thread object (going t asked)) (thread object (over t))
    ∙ ap length (sym b) in
    let q = came on xs behind n (tail_is _ _ _ _ z) (subst (λ l. l ≤ n) (sym many) far) in
    record {
      up = record {
        later = q.up.later;
        done = q.up.done;
        run = ended us ws object asked (ap (λ y. y ∷ xs) (head_is _ _ _ _ z)) b c q.up.run;
      };
      is_kept = q.is_kept;
    }

-- thread 0 never begins, so the thread that begins wasn't there at first
pub begun_were_kept : BegunWereKept
begun_were_kept p k events later d run before behind zero e =
    absurd (begins_not_first p k events later d run before behind e)
begun_were_kept p k events later d run before behind (suc n) e =
    let q = came run.goes before behind (suc n) e (one_at_most n) in
    record { now = q.up.later; done = q.up.done; run = q.up.run; is_kept = q.is_kept }
