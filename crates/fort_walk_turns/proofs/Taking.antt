-- The step of a thread.
use Rattle.std.proofs.Common.{◌≡◌, ℕ, ◌+◌, ◌<◌, ◌≤◌, ◌^◌, ◌==◌, if◌then◌else◌, Bool, true, false, List, [], ◌∷◌, length, Option, Some, None, refl, ap, sym, ◌∙◌, subst, arith, rules}
use Rattle.std.specs.Prelude.{IsSome, is_some, nat_le, not}
use Rattle.std.specs.Borrow.{Bor}
use Rattle.std.specs.Option.{option_copied}
use Rattle.std.proofs.lemmas.Bool.{leb-false}
use Rattle.fort_core.specs.declared.program.Program.{Program}
use Rattle.fort_core.specs.declared.term.Term.{Term}
use Rattle.fort_core.specs.declared.term.Term as term
use Rattle.fort_core.specs.declared.value.Value.{Value}
use Rattle.fort_machine.specs.Cells.{untouched, found, made, Fits}
use Rattle.fort_machine.specs.Effects.{Store, printed, reading, writing, making, made_from, only_at}
use Rattle.fort_machine.specs.Ends.{throw_of}
use Rattle.fort_machine.specs.Acts as acts
use Rattle.fort_machine.specs.Acts.{single}
use Rattle.fort_machine.specs.Marked.{Bare}
use Rattle.fort_machine.specs.Steps.{Acts, steps, or_unit}
use Rattle.fort_machine.specs.Written.{WrittenProgram}
use Rattle.fort_machine.proofs.Effects.{made_in_row}
use Rattle.fort_frames.specs.declared.place.Place.{Place}
use Rattle.fort_store_effects.specs.Levels.{levels_of, seen}
use Rattle.fort_walk_law_course.specs.Course.{is_inner, NothingFrom}
use Rattle.fort_walk_law_course.proofs.Reaches.{bare_here}
use Rattle.fort_walk_course.specs.declared.course.Course.{Course}
use Rattle.fort_walk_course.specs.Courses.{StandsAt, around, inwards}
use Rattle.fort_walk_course.specs.Calls.{MayStep, PassesAt}
use Rattle.fort_walk_turns.specs.declared.next.Next.{Next}
use Rattle.fort_walk_turns.specs.Idles.{Follows}

-- ---- a thread may take its step

-- nobody waits round the root's machine
pub root_is : (c : Course) → c.outer ≡ [] → is_inner (around c) ≡ false
root_is c o = ap (λ os. is_inner (inwards os [])) o

pub turns_on : (p : Program) (c : Course) (place : Place) (a next : Term) (output : List ℕ)
    (cost : ℕ) → StandsAt p c place a → Acts p a (acts.turns next output cost)
    → MayStep p c place 0 next (printed output cost)
turns_on p c place a next output cost s h =
    record {
      form = a;
      stands = s;
      local = steps (acts.turns next output cost) h (refl, refl, refl);
    }

pub enters_on : (p : Program) (c : Course) (place : Place) (a body next : Term) (text : List ℕ)
    → WrittenProgram p → StandsAt p c place a → Acts p a (acts.enters body next) → text ≡ []
    → MayStep p c place 0 next (printed text 1)
enters_on p c place a body next text w s h none =
    let bare : Bare body =
    (bare_here p w c.fuel (levels_of c.layers) c.picks (around c) c.clock c.fresh place a
    s.course).0 body next h in
    subst (λ x. MayStep p c place 0 next (printed x 1)) (sym none)
    (record {
      form = a;
      stands = s;
      local = steps (acts.enters body next) h (bare, refl, refl, refl);
    })

pub asks_on : (p : Program) (c : Course) (place : Place) (a : Term) (l : ℕ) (next : Value → Term)
    (v : Value) (b : Term) → StandsAt p c place a → Acts p a (acts.asks l next) → b ≡ next v
    → MayStep p c place 0 b (reading l v)
asks_on p c place a l next v b s h e =
    record { form = a; stands = s; local = steps (acts.asks l next) h (v, refl, e, refl) }

pub sets_on : (p : Program) (c : Course) (place : Place) (a : Term) (l : ℕ) (v : Value) (b : Term)
    → StandsAt p c place a → Acts p a (acts.sets l v) → b ≡ term.Value acts.unit
    → MayStep p c place 0 b (writing l v)
sets_on p c place a l v b s h e =
    record { form = a; stands = s; local = steps (acts.sets l v) h (refl, e, refl) }

pub makes_on : (p : Program) (c : Course) (place : Place) (a : Term) (vs ws : List Value)
    (next : ℕ → Term) (cost : ℕ) (b : Term) → StandsAt p c place a
    → Acts p a (acts.makes vs next cost) → b ≡ next c.fresh → ws ≡ or_unit vs
    → MayStep p c place c.fresh b (making c.fresh ws cost)
makes_on p c place a vs ws next cost b s h e q =
    subst (λ xs. MayStep p c place c.fresh b (making c.fresh xs cost)) (sym q)
    (record { form = a; stands = s; local = steps (acts.makes vs next cost) h (e, refl) })

pub ends_on : (p : Program) (c : Course) (place : Place) (a b : Term) (v : Value) (text : List ℕ)
    → StandsAt p c place a → Acts p a acts.ends → c.outer ≡ []
    → single p p.built_in.abort_outside ≡ Some v → b ≡ throw_of v → text ≡ []
    → MayStep p c place 0 b (printed text 1)
ends_on p c place a b v text s h o one e none =
    let root : is_inner (around c) ≡ false = root_is c o in
    subst (λ x. MayStep p c place 0 b (printed x 1)) (sym none)
    (record { form = a; stands = s; local = steps acts.ends h (v, root, refl, one, e, refl) })

-- ---- by the code's tests

-- the fuel doesn't cover a cost
pub too_dear : (spent cost fuel : ℕ) (b : Bool) → b ≡ nat_le (spent + cost) fuel → b ≡ false
    → fuel < spent + cost
too_dear spent cost fuel b e n = leb-false (spent + cost) fuel (sym e ∙ n)

-- a run that went on has the fuel that it had
pub follows_by : (p : Program) (was now : ℕ) (x : Next) → now ≡ was → Follows p now x
    → Follows p was x
follows_by p was now x e h = subst (λ n. Follows p n x) e h

-- a location is there, or isn't
pub some_seen : (o : Option (Bor Value)) (s : Option Value) (b : Bool) → option_copied o ≡ s
    → is_some o ≡ not b → b ≡ false → IsSome s
some_seen None s b e k t = let z : false ≡ true = k ∙ ap not t in absurd cc
some_seen (Some v) s b e k t = subst IsSome e refl

pub none_seen : (o : Option (Bor Value)) (s : Option Value) (b : Bool) → option_copied o ≡ s
    → is_some o ≡ not b → b ≡ true → s ≡ None
none_seen None s b e k t = sym e
none_seen (Some v) s b e k t = let z : true ≡ false = k ∙ ap not t in absurd cc

-- ---- or passes the fuel

pub turns_passes : (p : Program) (c : Course) (place : Place) (next : Term) (output : List ℕ)
    (cost : ℕ) → MayStep p c place 0 next (printed output cost) → c.fuel < c.spent + cost
    → PassesAt p c place 0
turns_passes p c place next output cost m k =
    record {
      next = next;
      effect = printed output cost;
      may = m;
      fits = λ l. tt;
      bounded = λ l v e. let q = e in cc;
      passes = k;
    }

one_made : (l k : ℕ) (r w v : Option Value) → only_at l (found r w) k ≡ made v → k < 2 ^ 64
one_made l k r w v e = go (l == k) e
  where
    go : (b : Bool) → (if b then found r w else untouched) ≡ made v → k < 2 ^ 64
    go true q = absurd cc
    go false q = absurd cc

one_fits : (l k : ℕ) (r : Option Value) (w : Option Value) (s : Store) → Fits (found r w) (s l)
    → Fits (only_at l (found r w) k) (s k)
one_fits l k r w s f = go (l == k) refl
  where
    go : (b : Bool) → (l == k) ≡ b → Fits (if b then found r w else untouched) (s k)
    go true q = let same : l ≡ k = search (rules, q) in subst (λ i. Fits (found r w) (s i)) same f
    go false q = tt

pub reads_passes : (p : Program) (c : Course) (place : Place) (b : Term) (l : ℕ) (v : Value)
    → MayStep p c place 0 b (reading l v) → seen (levels_of c.layers) l ≡ Some v
    → c.fuel < c.spent + 1 → PassesAt p c place 0
reads_passes p c place b l v m there k = record {
  next = b;
  effect = reading l v;
  may = m;
  fits = λ i. one_fits l i (Some v) None (seen (levels_of c.layers))
      (subst (Fits (found (Some v) None)) (sym there) refl);
  bounded = λ i w e. one_made l i (Some v) None w e;
  passes = k;
}

found_there : (v : Value) (o : Option Value) → IsSome o → Fits (found None (Some v)) o
found_there v None h = let z : false ≡ true = h in cc
found_there v (Some w) h = tt

pub writes_passes : (p : Program) (c : Course) (place : Place) (b : Term) (l : ℕ) (v : Value)
    → MayStep p c place 0 b (writing l v) → IsSome (seen (levels_of c.layers) l)
    → c.fuel < c.spent + 1 → PassesAt p c place 0
writes_passes p c place b l v m there k = record {
  next = b;
  effect = writing l v;
  may = m;
  fits = λ i. one_fits l i None (Some v) (seen (levels_of c.layers))
      (found_there v (seen (levels_of c.layers) l) there);
  bounded = λ i w e. one_made l i None (Some v) w e;
  passes = k;
}

made_fits : (l : ℕ) (vs : List Value) (k : ℕ) (s : Store) → NothingFrom l s
    → Fits (made_from l vs k) (s k)
made_fits l [] k s n = tt
made_fits l (v ∷ vs) k s n =
    go (l == k) refl (made_fits (l + 1) vs k s (λ i low. n i (omega (arith, low))))
  where
    go : (b : Bool) → (l == k) ≡ b → Fits (made_from (l + 1) vs k) (s k)
        → Fits (if b then made (Some v) else made_from (l + 1) vs k) (s k)
    go true q rest =
        let same : l ≡ k = search (rules, q) in
        let none : s k ≡ None = n k (omega (arith, same))
        in subst (Fits (made (Some v))) (sym none) tt
    go false q rest = rest

pub makes_passes : (p : Program) (c : Course) (place : Place) (a : Term) (vs : List Value)
    (next : ℕ → Term) (cost : ℕ) → StandsAt p c place a → Acts p a (acts.makes vs next cost)
    → c.fresh + length (or_unit vs) ≤ 2 ^ 64 → c.fuel < c.spent + cost
    → PassesAt p c place c.fresh
makes_passes p c place a vs next cost s h bound k = record {
  next = next c.fresh;
  effect = making c.fresh (or_unit vs) cost;
  may = makes_on p c place a vs (or_unit vs) next cost (next c.fresh) s h refl refl;
  fits = λ i. made_fits c.fresh (or_unit vs) i (seen (levels_of c.layers)) s.course.nothing;
  bounded = λ i w e. let r = made_in_row c.fresh (or_unit vs) i w e in let high = r.1
      in omega (arith, bound, high);
  passes = k;
}
