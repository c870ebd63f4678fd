-- Steps that picks take: legal, or not, or past the fuel.
use Rattle.std.proofs.Common.{◌≡◌, ◌≢◌, ℕ, zero, suc, ◌+◌, ◌<◌, ◌≤◌, ◌^◌, ◌==◌, if◌then◌else◌, Bool, true, false, List, [], ◌∷◌, ◌++◌, length, Option, Some, None, refl, ap, sym, ◌∙◌, subst, arith, rules, ◌⊎◌, inl, inr}
use Rattle.std.specs.Prelude.{slice_get, IsSome}
use Rattle.fort_core.specs.declared.pick.Pick.{Pick, Step}
use Rattle.fort_core.specs.declared.program.Program.{Program}
use Rattle.fort_core.specs.declared.term.Term.{Term}
use Rattle.fort_core.specs.declared.term.Term as term
use Rattle.fort_core.specs.declared.value.Value.{Value}
use Rattle.fort_machine.specs.Cells.{found, made, untouched, Fits}
use Rattle.fort_machine.specs.Effects.{Store, Effect, FitsAll, idle, both, paid, printed, reading, writing, making, made_from, only_at}
use Rattle.fort_machine.specs.Ends.{throw_of}
use Rattle.fort_machine.specs.Acts as acts
use Rattle.fort_machine.specs.Acts.{single}
use Rattle.fort_machine.specs.Marked.{Bare}
use Rattle.fort_machine.specs.Steps.{Acts, Does, Local, steps, or_unit}
use Rattle.fort_machine.specs.Attempts.{aborts}
use Rattle.fort_machine.specs.Runs.{Runs, none, location}
use Rattle.fort_machine.specs.Journals.{MakesWithinBounds}
use Rattle.fort_machine.specs.Written.{WrittenProgram}
use Rattle.fort_machine.proofs.Effects.{made_in_row, row_made}
use Rattle.fort_machine.proofs.Single.{reads_what_is_there}
use Rattle.fort_machine.proofs.WholeEffects.{idle_both}
use Rattle.fort_frames.specs.Frames.{frames, outward}
use Rattle.fort_frames.specs.declared.place.Place.{Place}
use Rattle.fort_frames.specs.declared.state.At.TheVariants as at
use Rattle.fort_frames.proofs.Same.{same_term}
use Rattle.fort_store_effects.specs.Calls.{AreFree}
use Rattle.fort_store_effects.specs.Levels.{levels_of, seen}
use Rattle.fort_walk_law_course.specs.Picks.{Stage}
use Rattle.fort_walk_law_course.proofs.Picks.{step_is_next, inner_abort_ends}
use Rattle.fort_walk_law_course.specs.Course.{Held, is_inner}
use Rattle.fort_walk_law_course.proofs.Reaches.{bare_here}
use Rattle.fort_walk_course.specs.declared.course.Course.{Course}
use Rattle.fort_walk_course.specs.declared.course.Waiting.{Waiting}
use Rattle.fort_walk_course.specs.declared.course.Going.{Going}
use Rattle.fort_walk_course.specs.Courses.{StandsAt, IsGoing, around, held, inwards}
use Rattle.fort_walk_course.specs.Calls.{CannotThrow, MayAbort, MayStep}
use Rattle.fort_walk_course.specs.Picked.{PicksStep, PicksAttempt}
use Rattle.fort_step_acting.specs.Only.{OnlyDoes}
use Rattle.fort_step_acting.proofs.Acted.{does_this, ends_only}
use Rattle.fort_plain.specs.Legal.{AreLegal, a_run}
use Rattle.fort_plain.specs.Takes.{NoPick, IsIllegal, IsCost, LeavesBy, Stops, IsLast, IsTurn, IsThreadAt, DoesOnly, TurnsOnly, term_round, StepsOn}
use Rattle.fort_plain.specs.declared.act.Acted.TheVariants as acted
use Rattle.fort_plain.specs.declared.act.Turn.{Turn}
use Rattle.fort_plain.proofs.Picked.{OwnStep, own, own_stop, own_step}
use Rattle.fort_plain.proofs.Within.{path_is}

-- ---- none

-- a pick of a thread's step that isn't legal
pub no_step_pick : (p : Program) (c : Course) (place : Place) (a : Term) (turn : Turn)
    (loc fuel : ℕ) → IsThreadAt p c place a
    → ((more : List Pick) (d : Effect) → (turn.is_last ≡ false → more ≢ [])
    → OwnStep p (is_inner (around c)) (seen (levels_of c.layers)) a loc more d
    → MakesWithinBounds d → c.spent + d.cost ≤ fuel → ⊥)
    → NoPick p c (term_round c place a) fuel turn (Step place.path (location loc))
no_step_pick p c place a turn loc fuel t barred = record {
  none = λ ajar more behind d k b z.
      barred more d behind
      (own_step p ajar (is_inner (around c)) (seen (levels_of c.layers))
      (outward c.clock (frames place.stack)) a (term_round c place a) place.path loc more d
      (same_term c.clock (frames place.stack) a) (path_is c.clock place) t.ready k) b z;
}

pub wrong_place : (p : Program) (c : Course) (place : Place) (a next : Term) (text : List ℕ)
    (cost loc : ℕ) (turn : Turn) → TurnsOnly p c place a next text cost → loc ≢ 0
    → IsIllegal p c (term_round c place a) turn (Step place.path (location loc))
wrong_place p c place a next text cost loc turn h n =
    record { never = λ fuel. no_step_pick p c place a turn loc fuel h.thread (go fuel) }
  where
    go : (fuel : ℕ) (more : List Pick) (d : Effect) → (turn.is_last ≡ false → more ≢ [])
        → OwnStep p (is_inner (around c)) (seen (levels_of c.layers)) a loc more d
        → MakesWithinBounds d → c.spent + d.cost ≤ fuel → ⊥
    go fuel more d behind (own b e l f m v) bd z = n (h.only loc b e l).0
    go fuel more d behind (own_stop i q x y v) bd z = h.no_abort i x

pub turn_passes : (p : Program) (c : Course) (place : Place) (a next : Term) (text : List ℕ)
    (cost loc : ℕ) (turn : Turn) → TurnsOnly p c place a next text cost → c.fuel < c.spent + cost
    → NoPick p c (term_round c place a) c.fuel turn (Step place.path (location loc))
turn_passes p c place a next text cost loc turn h over =
    no_step_pick p c place a turn loc c.fuel h.thread go
  where
    go : (more : List Pick) (d : Effect) → (turn.is_last ≡ false → more ≢ [])
        → OwnStep p (is_inner (around c)) (seen (levels_of c.layers)) a loc more d
        → MakesWithinBounds d → c.spent + d.cost ≤ c.fuel → ⊥
    go more d behind (own b e l f m v) bd z =
        let price : e.cost ≡ cost = ap (λ (x : Effect). x.cost) (h.only loc b e l).1
        in omega (arith, over, price, v, z)
    go more d behind (own_stop i q x y v) bd z = h.no_abort i x

-- a form's only act, for the pick's location
does_only : (p : Program) (c : Course) (place : Place) (a : Term) (x : acts.Act) (turn : Turn)
    (loc fuel : ℕ) → DoesOnly p c place a x → (acts.ends ≡ x → ⊥)
    → ((b : Term) (d e : Effect) → Does p (is_inner (around c)) loc x b e
    → FitsAll e (seen (levels_of c.layers)) → MakesWithinBounds e → e.cost ≤ d.cost
    → c.spent + d.cost ≤ fuel → ⊥)
    → NoPick p c (term_round c place a) fuel turn (Step place.path (location loc))
does_only p c place a x turn loc fuel h other barred =
    no_step_pick p c place a turn loc fuel h.thread go
  where
    go : (more : List Pick) (d : Effect) → (turn.is_last ≡ false → more ≢ [])
        → OwnStep p (is_inner (around c)) (seen (levels_of c.layers)) a loc more d
        → MakesWithinBounds d → c.spent + d.cost ≤ fuel → ⊥
    go more d behind (own b e l f m v) bd z =
        barred b d e (does_this p (is_inner (around c)) loc a b x e h.only l) f (m bd) v z
    go more d behind (own_stop i q y w v) bd z = other (ends_only p a x h.only y)

pub no_row : (p : Program) (c : Course) (place : Place) (a : Term) (turn : Turn) (loc : ℕ)
    → IsThreadAt p c place a → OnlyDoes p a acts.stuck
    → IsIllegal p c (term_round c place a) turn (Step place.path (location loc))
no_row p c place a turn loc t o =
    record { never = λ fuel. no_step_pick p c place a turn loc fuel t (go fuel) }
  where
    go : (fuel : ℕ) (more : List Pick) (d : Effect) → (turn.is_last ≡ false → more ≢ [])
        → OwnStep p (is_inner (around c)) (seen (levels_of c.layers)) a loc more d
        → MakesWithinBounds d → c.spent + d.cost ≤ fuel → ⊥
    go fuel more d behind (own b e l f m v) bd z =
        does_this p (is_inner (around c)) loc a b acts.stuck e o l
    go fuel more d behind (own_stop i q y w v) bd z = let u = ends_only p a acts.stuck o y in cc

pub asks_gone : (p : Program) (c : Course) (place : Place) (a : Term) (l : ℕ) (next : Value → Term)
    (turn : Turn) (loc : ℕ) → DoesOnly p c place a (acts.asks l next)
    → seen (levels_of c.layers) l ≡ None
    → IsIllegal p c (term_round c place a) turn (Step place.path (location loc))
asks_gone p c place a l next turn loc h gone = record {
  never = λ fuel.
      does_only p c place a (acts.asks l next) turn loc fuel h (λ z. cc)
      (λ b d e k f m v z. let q : Some k.0 ≡ None =
      sym (reads_what_is_there l k.0 (seen (levels_of c.layers))
      (subst (λ y. FitsAll y (seen (levels_of c.layers))) k.3 f)) ∙ gone in absurd cc);
}

pub asks_wrong : (p : Program) (c : Course) (place : Place) (a : Term) (l : ℕ) (next : Value → Term)
    (turn : Turn) (loc : ℕ) → DoesOnly p c place a (acts.asks l next) → loc ≢ 0
    → IsIllegal p c (term_round c place a) turn (Step place.path (location loc))
asks_wrong p c place a l next turn loc h n =
    record {
      never =
          λ fuel. does_only p c place a (acts.asks l next) turn loc fuel h (λ z. cc)
          (λ b d e k f m v z. n k.1);
    }

pub asks_passes : (p : Program) (c : Course) (place : Place) (a : Term) (l : ℕ)
    (next : Value → Term) (turn : Turn) (loc : ℕ) → DoesOnly p c place a (acts.asks l next)
    → c.fuel < c.spent + 1
    → NoPick p c (term_round c place a) c.fuel turn (Step place.path (location loc))
asks_passes p c place a l next turn loc h over =
    does_only p c place a (acts.asks l next) turn loc c.fuel h (λ z. cc)
    (λ b d e k f m v z. let price : e.cost ≡ 1 = ap (λ (x : Effect). x.cost) k.3
    in omega (arith, over, price, v, z))

here : (l : ℕ) (v : Value) → only_at l (found None (Some v)) l ≡ found None (Some v)
here l v = search rules

writes_there : (l : ℕ) (v : Value) (s : Store) → FitsAll (writing l v) s → s l ≡ None → ⊥
writes_there l v s f gone =
    subst (Fits (found None (Some v))) gone (subst (λ c. Fits c (s l)) (here l v) (f l))

pub sets_gone : (p : Program) (c : Course) (place : Place) (a : Term) (l : ℕ) (w : Value)
    (turn : Turn) (loc : ℕ) → DoesOnly p c place a (acts.sets l w)
    → seen (levels_of c.layers) l ≡ None
    → IsIllegal p c (term_round c place a) turn (Step place.path (location loc))
sets_gone p c place a l w turn loc h gone = record {
  never = λ fuel.
      does_only p c place a (acts.sets l w) turn loc fuel h (λ z. cc)
      (λ b d e k f m v z. writes_there l w (seen (levels_of c.layers))
      (subst (λ y. FitsAll y (seen (levels_of c.layers))) k.2 f) gone);
}

pub sets_wrong : (p : Program) (c : Course) (place : Place) (a : Term) (l : ℕ) (w : Value)
    (turn : Turn) (loc : ℕ) → DoesOnly p c place a (acts.sets l w) → loc ≢ 0
    → IsIllegal p c (term_round c place a) turn (Step place.path (location loc))
sets_wrong p c place a l w turn loc h n =
    record {
      never =
          λ fuel. does_only p c place a (acts.sets l w) turn loc fuel h (λ z. cc)
          (λ b d e k f m v z. n k.0);
    }

pub sets_passes : (p : Program) (c : Course) (place : Place) (a : Term) (l : ℕ) (w : Value)
    (turn : Turn) (loc : ℕ) → DoesOnly p c place a (acts.sets l w) → c.fuel < c.spent + 1
    → NoPick p c (term_round c place a) c.fuel turn (Step place.path (location loc))
sets_passes p c place a l w turn loc h over =
    does_only p c place a (acts.sets l w) turn loc c.fuel h (λ z. cc)
    (λ b d e k f m v z. let price : e.cost ≡ 1 = ap (λ (x : Effect). x.cost) k.2
    in omega (arith, over, price, v, z))

-- new locations that fit are free and below the bound
some_there : (vs : List Value) (n : ℕ) → n < length vs → (v : Value) × (slice_get vs n ≡ Some v)
some_there [] n low = let f : ⊥ = omega (arith, low) in absurd f
some_there (v ∷ vs) zero low = (v, refl)
some_there (v ∷ vs) (suc n) low = some_there vs n (omega (arith, low))

fits_free : (loc cost : ℕ) (vs : List Value) (s : Store) → FitsAll (making loc vs cost) s
    → AreFree loc (length vs) s
fits_free loc cost vs s f n low =
    let v = some_there vs n low
    in free_at v.0 (s (loc + n))
    (subst (λ c. Fits c (s (loc + n))) (row_made loc vs n v.0 v.1) (f (loc + n)))
  where
    free_at : (w : Value) (o : Option Value) → Fits (made (Some w)) o → o ≡ None
    free_at w None k = refl
    free_at w (Some x) k = absurd k

unit_some : (vs : List Value) → 0 < length (or_unit vs)
unit_some [] = omega arith
unit_some (v ∷ vs) = omega arith

below_bound : (loc cost : ℕ) (vs : List Value) → 0 < length vs
    → MakesWithinBounds (making loc vs cost) → loc + length vs ≤ 2 ^ 64
below_bound loc cost vs some b = last (length vs) refl some
  where
    last : (n : ℕ) → length vs ≡ n → 0 < n → loc + length vs ≤ 2 ^ 64
    last zero q k = let f : ⊥ = omega (arith, k) in absurd f
    last (suc n) q k =
        let v = some_there vs n (omega (arith, q)) in
        let low = b (loc + n) (Some v.0) (row_made loc vs n v.0 v.1) in omega (arith, low, q)

pub makes_wrong : (p : Program) (c : Course) (place : Place) (a : Term) (vs : List Value)
    (next : ℕ → Term) (cost : ℕ) (turn : Turn) (loc : ℕ)
    → DoesOnly p c place a (acts.makes vs next cost)
    → ((loc + length (or_unit vs) ≤ 2 ^ 64)
    × AreFree loc (length (or_unit vs)) (seen (levels_of c.layers)) → ⊥)
    → IsIllegal p c (term_round c place a) turn (Step place.path (location loc))
makes_wrong p c place a vs next cost turn loc h barred = record {
  never = λ fuel.
      does_only p c place a (acts.makes vs next cost) turn loc fuel h (λ z. cc)
      (λ b d e k f m v z. barred (
        below_bound loc cost (or_unit vs) (unit_some vs) (subst MakesWithinBounds k.1 m),
        fits_free loc cost (or_unit vs) (seen (levels_of c.layers))
            (subst (λ y. FitsAll y (seen (levels_of c.layers))) k.1 f),
      ));
}

pub makes_passes : (p : Program) (c : Course) (place : Place) (a : Term) (vs : List Value)
    (next : ℕ → Term) (cost : ℕ) (turn : Turn) (loc : ℕ)
    → DoesOnly p c place a (acts.makes vs next cost) → c.fuel < c.spent + cost
    → NoPick p c (term_round c place a) c.fuel turn (Step place.path (location loc))
makes_passes p c place a vs next cost turn loc h over =
    does_only p c place a (acts.makes vs next cost) turn loc c.fuel h (λ z. cc)
    (λ b d e k f m v z. let price : e.cost ≡ cost = ap (λ (x : Effect). x.cost) k.1
    in omega (arith, over, price, v, z))

inner_some : (hs : List Waiting) → hs ≢ [] → is_inner (inwards hs []) ≡ true
inner_some [] n = absurd (n refl)
inner_some (h ∷ hs) n = go hs h []
  where
    go : (xs : List Waiting) (x : Waiting) (ys : List Held) → is_inner (inwards (x ∷ xs) ys) ≡ true
    go [] x ys = refl
    go (y ∷ xs) x ys = go xs y (held x ∷ ys)

-- `abort()` in an attempt, as a pick that isn't its last one, or names a location
pub abort_wrong : (p : Program) (c : Course) (place : Place) (a : Term) (turn : Turn) (loc : ℕ)
    → DoesOnly p c place a acts.ends → c.outer ≢ [] → (loc ≢ 0) ⊎ (turn.is_last ≡ false)
    → IsIllegal p c (term_round c place a) turn (Step place.path (location loc))
abort_wrong p c place a turn loc h some cause =
    record { never = λ fuel. no_step_pick p c place a turn loc fuel h.thread (go fuel) }
  where
    not_both : (more : List Pick) → (turn.is_last ≡ false → more ≢ []) → loc ≡ 0 → more ≡ []
        → (loc ≢ 0) ⊎ (turn.is_last ≡ false) → ⊥
    not_both more behind q y (inl n) = n q
    not_both more behind q y (inr n) = behind n y

    go : (fuel : ℕ) (more : List Pick) (d : Effect) → (turn.is_last ≡ false → more ≢ [])
        → OwnStep p (is_inner (around c)) (seen (levels_of c.layers)) a loc more d
        → MakesWithinBounds d → c.spent + d.cost ≤ fuel → ⊥
    go fuel more d behind (own b e l f m v) bd z =
        let k = does_this p (is_inner (around c)) loc a b acts.ends e h.only l in
        let u : true ≡ false = sym (inner_some c.outer some) ∙ k.1 in cc
    go fuel more d behind (own_stop i q x y v) bd z = not_both more behind q y cause

pub abort_passes : (p : Program) (c : Course) (place : Place) (a : Term) (turn : Turn) (loc : ℕ)
    → DoesOnly p c place a acts.ends → c.outer ≢ [] → c.fuel < c.spent + 1
    → NoPick p c (term_round c place a) c.fuel turn (Step place.path (location loc))
abort_passes p c place a turn loc h some over = no_step_pick p c place a turn loc c.fuel h.thread go
  where
    go : (more : List Pick) (d : Effect) → (turn.is_last ≡ false → more ≢ [])
        → OwnStep p (is_inner (around c)) (seen (levels_of c.layers)) a loc more d
        → MakesWithinBounds d → c.spent + d.cost ≤ c.fuel → ⊥
    go more d behind (own b e l f m v) bd z =
        let k = does_this p (is_inner (around c)) loc a b acts.ends e h.only l in
        let u : true ≡ false = sym (inner_some c.outer some) ∙ k.1 in cc
    go more d behind (own_stop i q x y v) bd z = omega (arith, over, v, z)

root_is : (c : Course) → c.outer ≡ [] → is_inner (around c) ≡ false
root_is c o = ap (λ os. is_inner (inwards os [])) o

pub abort_unthrown : (p : Program) (c : Course) (place : Place) (a : Term) (turn : Turn) (loc : ℕ)
    → DoesOnly p c place a acts.ends → c.outer ≡ [] → single p p.built_in.abort_outside ≡ None
    → IsIllegal p c (term_round c place a) turn (Step place.path (location loc))
abort_unthrown p c place a turn loc h root gone =
    record { never = λ fuel. no_step_pick p c place a turn loc fuel h.thread (go fuel) }
  where
    go : (fuel : ℕ) (more : List Pick) (d : Effect) → (turn.is_last ≡ false → more ≢ [])
        → OwnStep p (is_inner (around c)) (seen (levels_of c.layers)) a loc more d
        → MakesWithinBounds d → c.spent + d.cost ≤ fuel → ⊥
    go fuel more d behind (own b e l f m v) bd z =
        let k = does_this p (is_inner (around c)) loc a b acts.ends e h.only l in
        let u : Some k.0 ≡ None = sym k.3 ∙ gone in absurd cc
    go fuel more d behind (own_stop i q x y v) bd z =
        let u : true ≡ false = sym i ∙ root_is c root in absurd cc

-- ---- one

pub turns_only : (p : Program) (c : Course) (place : Place) (a next : Term) (text : List ℕ)
    (cost : ℕ) → IsThreadAt p c place a → Acts p a (acts.turns next text cost)
    → OnlyDoes p a (acts.turns next text cost) → TurnsOnly p c place a next text cost
turns_only p c place a next text cost t h o = record {
  thread = t;
  local = steps (acts.turns next text cost) h (refl, refl, refl);
  only = λ loc b d l. let k =
      does_this p (is_inner (around c)) loc a b (acts.turns next text cost) d o l in (k.0, k.2);
  no_abort = λ i x. let z = ends_only p a (acts.turns next text cost) o x in cc;
}

pub enters_only : (p : Program) (c : Course) (place : Place) (a body next : Term) (text : List ℕ)
    → WrittenProgram p → IsThreadAt p c place a → Acts p a (acts.enters body next)
    → OnlyDoes p a (acts.enters body next) → text ≡ []
    → TurnsOnly p c place a next text 1
enters_only p c place a body next text w t h o gone =
    let bare : Bare body =
    (bare_here p w c.fuel (levels_of c.layers) c.picks (around c) c.clock c.fresh place a
    t.stands.course).0 body next h in
    subst (λ x. TurnsOnly p c place a next x 1) (sym gone) (record {
      thread = t;
      local = steps (acts.enters body next) h (bare, refl, refl, refl);
      only = λ loc b d l. let k =
          does_this p (is_inner (around c)) loc a b (acts.enters body next) d o l in (k.1, k.3);
      no_abort = λ i x. let z = ends_only p a (acts.enters body next) o x in cc;
    })

pub throws_only : (p : Program) (c : Course) (place : Place) (a b : Term) (v : Value)
    (text : List ℕ) → DoesOnly p c place a acts.ends → c.outer ≡ []
    → single p p.built_in.abort_outside ≡ Some v → b ≡ throw_of v → text ≡ []
    → TurnsOnly p c place a b text 1
throws_only p c place a b v text h root one e gone =
    let out = root_is c root in
    subst (λ x. TurnsOnly p c place a b x 1) (sym gone) (record {
      thread = h.thread;
      local = steps acts.ends h.acts (v, out, refl, one, e, refl);
      only = λ loc u d l. let k = does_this p (is_inner (around c)) loc a u acts.ends d h.only l
          in (k.2, k.5);
      no_abort = λ i x. let z : true ≡ false = sym i ∙ out in cc;
    })

pub went_on : (p : Program) (c n : Course) (place : Place) (a b : Term) (turn : Turn) (loc : ℕ)
    → StandsAt p n place b → n.fuel ≡ c.fuel → PicksStep c place loc n → turn.is_end ≡ false
    → StepsOn p c place a turn loc
    (acted.Goes (record { course = n; state = record { place = place; «at» = at.Form b } }))
went_on p c n place a b turn loc s f k e =
    record { going = s; fuel = f; picks = k.picks; outer = k.outer; not_end = e }

abort_runs : (p : Program) (c : Course) (place : Place) (a : Term) (loc : ℕ)
    → DoesOnly p c place a acts.ends → loc ≡ 0
    → Runs p true true (seen (levels_of c.layers)) (Step place.path (location loc) ∷ [])
    (term_round c place a) aborts (paid 1)
abort_runs p c place a loc h o =
    let s = seen (levels_of c.layers) in
    let at = term_round c place a in
    let stage : Stage p true s [] at idle c.clock place a =
    record { runs = none refl refl refl; reached = h.thread.stands.course.reached } in
    subst (λ e. Runs p true true s (Step place.path (location loc) ∷ []) at aborts e)
    (idle_both (paid 1))
    (subst (λ n. Runs p true true s (Step place.path (location n) ∷ []) at aborts
    (both idle (paid 1))) (sym o)
    (inner_abort_ends p s [] at idle c.clock place a stage h.acts))

last_by : (p : Program) (c : Course) (place : Place) (a b : Term) (turn : Turn) (loc : ℕ)
    (all : Option ℕ) (e : Effect) → StandsAt p c place a → Local p (is_inner (around c)) loc a b e
    → FitsAll e (seen (levels_of c.layers)) → MakesWithinBounds e
    → turn.is_end ≡ true → IsTurn turn → IsCost (c.spent + e.cost) all
    → IsLast p c (term_round c place a) turn (Step place.path (location loc)) c all
last_by p c place a b turn loc all e s l f m q t z = record {
  same = refl;
  effect = e;
  legal = a_run _
      (step_is_next p (is_inner (around c)) (seen (levels_of c.layers)) e c.clock (c.clock + 1) loc
      place a b s.course.reached (omega arith) l f);
  bounded = m;
  is_cost = z;
  last = t q;
  all = q;
}

pub turn_last : (p : Program) (c : Course) (place : Place) (a next : Term) (text : List ℕ)
    (cost loc : ℕ) (all : Option ℕ) (turn : Turn) → TurnsOnly p c place a next text cost → loc ≡ 0
    → turn.is_end ≡ true → IsTurn turn → IsCost (c.spent + cost) all
    → IsLast p c (term_round c place a) turn (Step place.path (location loc)) c all
turn_last p c place a next text cost loc all turn h o q t z =
    last_by p c place a next turn loc all (printed text cost) h.thread.stands
    (subst (λ n. Local p (is_inner (around c)) n a next (printed text cost)) (sym o) h.local)
    (λ l. tt) (λ l v e. let y = e in absurd cc) q t z

one_fits : (l k : ℕ) (r : Option Value) (w : Option Value) (s : Store) → Fits (found r w) (s l)
    → Fits (only_at l (found r w) k) (s k)
one_fits l k r w s f = go (l == k) refl
  where
    go : (b : Bool) → (l == k) ≡ b → Fits (if b then found r w else untouched) (s k)
    go true q = let same : l ≡ k = search (rules, q) in subst (λ i. Fits (found r w) (s i)) same f
    go false q = tt

one_made : (l k : ℕ) (r w v : Option Value) → only_at l (found r w) k ≡ made v → k < 2 ^ 64
one_made l k r w v e = go (l == k) e
  where
    go : (b : Bool) → (if b then found r w else untouched) ≡ made v → k < 2 ^ 64
    go true q = absurd cc
    go false q = absurd cc

pub asks_step : (p : Program) (c : Course) (place : Place) (a : Term) (l : ℕ) (next : Value → Term)
    (v : Value) → DoesOnly p c place a (acts.asks l next)
    → Local p (is_inner (around c)) 0 a (next v) (reading l v)
asks_step p c place a l next v h = steps (acts.asks l next) h.acts (v, refl, refl, refl)

pub asks_last : (p : Program) (c : Course) (place : Place) (a : Term) (l : ℕ) (next : Value → Term)
    (v : Value) (loc : ℕ) (all : Option ℕ) (turn : Turn) → DoesOnly p c place a (acts.asks l next)
    → seen (levels_of c.layers) l ≡ Some v → loc ≡ 0 → turn.is_end ≡ true → IsTurn turn
    → IsCost (c.spent + 1) all
    → IsLast p c (term_round c place a) turn (Step place.path (location loc)) c all
asks_last p c place a l next v loc all turn h there o q t z =
    last_by p c place a (next v) turn loc all (reading l v) h.thread.stands
    (subst (λ n. Local p (is_inner (around c)) n a (next v) (reading l v)) (sym o)
    (asks_step p c place a l next v h))
    (λ i. one_fits l i (Some v) None (seen (levels_of c.layers))
    (subst (Fits (found (Some v) None)) (sym there) refl))
    (λ i w e. one_made l i (Some v) None w e) q t z

found_there : (v : Value) (o : Option Value) → IsSome o → Fits (found None (Some v)) o
found_there v None h = let z : false ≡ true = h in cc
found_there v (Some w) h = tt

pub sets_last : (p : Program) (c : Course) (place : Place) (a : Term) (l : ℕ) (v : Value)
    (loc : ℕ) (all : Option ℕ) (turn : Turn) → DoesOnly p c place a (acts.sets l v)
    → IsSome (seen (levels_of c.layers) l) → loc ≡ 0 → turn.is_end ≡ true → IsTurn turn
    → IsCost (c.spent + 1) all
    → IsLast p c (term_round c place a) turn (Step place.path (location loc)) c all
sets_last p c place a l v loc all turn h there o q t z =
    last_by p c place a (term.Value acts.unit) turn loc all (writing l v) h.thread.stands
    (subst (λ n. Local p (is_inner (around c)) n a (term.Value acts.unit) (writing l v)) (sym o)
    (steps (acts.sets l v) h.acts (refl, refl, refl)))
    (λ i. one_fits l i None (Some v) (seen (levels_of c.layers))
    (found_there v (seen (levels_of c.layers) l) there))
    (λ i w e. one_made l i None (Some v) w e) q t z

free_fits : (l : ℕ) (vs : List Value) (k : ℕ) (s : Store) → AreFree l (length vs) s
    → Fits (made_from l vs k) (s k)
free_fits l [] k s n = tt
free_fits l (v ∷ vs) k s n =
    go (l == k) refl
    (free_fits (l + 1) vs k s (λ i low. let at : l + suc i ≡ l + 1 + i = omega arith
    in sym (ap s at) ∙ n (suc i) (omega (arith, low))))
  where
    go : (b : Bool) → (l == k) ≡ b → Fits (made_from (l + 1) vs k) (s k)
        → Fits (if b then made (Some v) else made_from (l + 1) vs k) (s k)
    go true q rest =
        let same : l ≡ k = search (rules, q) in
        let at : k ≡ l + 0 = omega (arith, same) in
        let gone : s k ≡ None = ap s at ∙ n 0 (omega arith)
        in subst (Fits (made (Some v))) (sym gone) tt
    go false q rest = rest

pub makes_last : (p : Program) (c : Course) (place : Place) (a : Term) (vs : List Value)
    (next : ℕ → Term) (cost loc : ℕ) (all : Option ℕ) (turn : Turn)
    → DoesOnly p c place a (acts.makes vs next cost)
    → (loc + length (or_unit vs) ≤ 2 ^ 64)
    × AreFree loc (length (or_unit vs)) (seen (levels_of c.layers)) → turn.is_end ≡ true
    → IsTurn turn → IsCost (c.spent + cost) all
    → IsLast p c (term_round c place a) turn (Step place.path (location loc)) c all
makes_last p c place a vs next cost loc all turn h free q t z =
    last_by p c place a (next loc) turn loc all (making loc (or_unit vs) cost) h.thread.stands
    (steps (acts.makes vs next cost) h.acts (refl, refl))
    (λ i. free_fits loc (or_unit vs) i (seen (levels_of c.layers)) free.1)
    (λ i w e. let r = made_in_row loc (or_unit vs) i w e in let high = r.1 in let low = free.0
    in omega (arith, high, low)) q t z

pub abort_last : (p : Program) (c : Course) (place : Place) (a : Term) (turn : Turn) (loc : ℕ)
    (all : Option ℕ)
    → DoesOnly p c place a acts.ends → c.outer ≢ [] → loc ≡ 0 → turn.is_end ≡ true → IsTurn turn
    → IsCost (c.spent + 1) all
    → IsLast p c (term_round c place a) turn (Step place.path (location loc)) c all
abort_last p c place a turn loc all h some o q t z =
    let s = seen (levels_of c.layers) in
    let at = term_round c place a in
    record {
      same = refl;
      effect = paid 1;
      legal = subst (λ i. AreLegal p true i s (Step place.path (location loc) ∷ []) at (paid 1))
          (sym (inner_some c.outer some)) (a_run aborts (abort_runs p c place a loc h o));
      bounded = λ l x e. let y = e in absurd cc;
      is_cost = z;
      last = t q;
      all = q;
    }

pub abort_unclosed : (p : Program) (c : Course) (place : Place) (a : Term) (turn : Turn) (loc : ℕ)
    → DoesOnly p c place a acts.ends → CannotThrow p (around c) → loc ≡ 0 → turn.is_last ≡ true
    → turn.is_end ≡ false
    → Stops p c (term_round c place a) turn (Step place.path (location loc))
abort_unclosed p c place a turn loc h cannot o q n =
    record { cannot = cannot; runs = abort_runs p c place a loc h o; last = q; not_end = n }

pub abort_leaves : (p : Program) (c : Course) (place : Place) (turn : Turn) (loc : ℕ) (g : Going)
    → IsGoing p g → g.course.fuel ≡ c.fuel
    → PicksAttempt c (c.picks ++ Step place.path (location 0) ∷ []) g.course → loc ≡ 0
    → turn.is_last ≡ true → turn.is_end ≡ false
    → LeavesBy p c turn (Step place.path (location loc)) g
abort_leaves p c place turn loc g s f k o q n = record {
  leaves = record {
    going = s;
    fuel = f;
    picked = subst
        (λ n. PicksAttempt c (c.picks ++ Step place.path (location n) ∷ []) g.course) (sym o) k;
  };
  last = q;
  not_end = n;
}

-- ---- the step itself

pub may_turn : (p : Program) (c : Course) (place : Place) (a next : Term) (text : List ℕ) (cost : ℕ)
    → TurnsOnly p c place a next text cost → MayStep p c place 0 next (printed text cost)
may_turn p c place a next text cost h =
    record { form = a; stands = h.thread.stands; local = h.local }

pub may_ask : (p : Program) (c : Course) (place : Place) (a : Term) (l : ℕ) (next : Value → Term)
    (v : Value) (b : Term) → DoesOnly p c place a (acts.asks l next) → b ≡ next v
    → MayStep p c place 0 b (reading l v)
may_ask p c place a l next v b h e =
    record {
      form = a;
      stands = h.thread.stands;
      local = steps (acts.asks l next) h.acts (v, refl, e, refl);
    }

pub may_set : (p : Program) (c : Course) (place : Place) (a : Term) (l : ℕ) (v : Value) (b : Term)
    → DoesOnly p c place a (acts.sets l v) → b ≡ term.Value acts.unit
    → MayStep p c place 0 b (writing l v)
may_set p c place a l v b h e =
    record {
      form = a;
      stands = h.thread.stands;
      local = steps (acts.sets l v) h.acts (refl, e, refl);
    }

pub may_make : (p : Program) (c : Course) (place : Place) (a : Term) (vs ws : List Value)
    (next : ℕ → Term) (cost loc : ℕ) (b : Term) → DoesOnly p c place a (acts.makes vs next cost)
    → b ≡ next loc → ws ≡ or_unit vs → MayStep p c place loc b (making loc ws cost)
may_make p c place a vs ws next cost loc b h e q =
    record {
      form = a;
      stands = h.thread.stands;
      local = steps (acts.makes vs next cost) h.acts (e, ap (λ xs. making loc xs cost) q);
    }

pub free_all : (loc count : ℕ) (ws vs : List Value) (s : Store) → ws ≡ or_unit vs
    → count ≡ length (or_unit vs) → (loc + count ≤ 2 ^ 64) × AreFree loc count s
    → AreFree loc (length ws) s
free_all loc count ws vs s e q k n low = k.1 n
    (let z : length ws ≡ count = ap length e ∙ sym q in omega (arith, low, z))

pub bound_all : (loc count : ℕ) (ws vs : List Value) (s : Store) → ws ≡ or_unit vs
    → count ≡ length (or_unit vs) → (loc + count ≤ 2 ^ 64) × AreFree loc count s
    → loc + length ws ≤ 2 ^ 64
bound_all loc count ws vs s e q k =
    let z : length ws ≡ count = ap length e ∙ sym q in
    let low = k.0 in omega (arith, z, low)

pub stops_here : (p : Program) (c : Course) (place : Place) (a : Term)
    → DoesOnly p c place a acts.ends → c.outer ≢ [] → MayAbort p c place
stops_here p c place a h some =
    record { form = a; stands = h.thread.stands; acts = h.acts; inside = inner_some c.outer some }

pub dealt_turns : (p : Program) (c : Course) (place : Place) (a : Term) (x : acts.Act)
    → IsThreadAt p c place a → Acts p a x × OnlyDoes p a x → DoesOnly p c place a x
dealt_turns p c place a x t h = record { thread = t; acts = h.0; only = h.1 }
