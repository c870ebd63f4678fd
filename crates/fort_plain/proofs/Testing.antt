-- What the code's tests say of locations, of the fuel, and of forms that sleep.
use Rattle.std.proofs.Common.{◌≡◌, ◌≢◌, ℕ, zero, suc, ◌+◌, ◌<◌, ◌≤◌, ◌^◌, ◌==◌, Bool, true, false, not, Option, Some, None, refl, ap, sym, ◌∙◌, ◌⊎◌, subst, arith, rules, inl, inr}
use Rattle.std.specs.Prelude.{◌↔◌, IsSome, IsTrue, SomeIff, is_some, nat_le}
use Rattle.std.specs.Borrow.{Bor}
use Rattle.std.specs.Option.{option_copied}
use Rattle.std.proofs.lemmas.Bool.{cases_lt, leb-false}
use Rattle.fort_core.specs.declared.form.Mode.{Mode}
use Rattle.fort_core.specs.declared.term.Term.{Term, Atomic, Asleep}
use Rattle.fort_core.specs.declared.value.Value.{Value}
use Rattle.fort_machine.specs.Effects.{Store}
use Rattle.fort_machine.specs.Marked.{Marks}
use Rattle.fort_machine.specs.Attempts.{Form, fresh, slept, Sleeps}
use Rattle.fort_store_effects.specs.Calls.{AreFree}
use Rattle.fort_walk_law_course.specs.Course.{NothingFrom}
use Rattle.fort_plain.specs.Paths.{AllSleep}
use Rattle.fort_plain.specs.Takes.{IsCost, MustWait}

-- the fuel doesn't cover a cost
pub too_dear : (spent cost fuel : ℕ) (b : Bool) → b ≡ nat_le (spent + cost) fuel → b ≡ false
    → fuel < spent + cost
too_dear spent cost fuel b e n = leb-false (spent + cost) fuel (sym e ∙ n)

-- what all costs
pub counted : (n : ℕ) (o : Option ℕ) → SomeIff o (n < 2 ^ 64) n → IsCost n o
counted n None h =
    elim (cases_lt n (2 ^ 64)) [
      | inl low ↦ absurd (h low)
      | inr high ↦ high
    ]
counted n (Some x) h = h.1

-- a flag's denial
pub not_so : (b : Bool) → not b ≡ true → b ≡ false
not_so true e = let z : false ≡ true = e in absurd cc
not_so false e = refl

pub is_so : (b : Bool) → not b ≡ false → b ≡ true
is_so true e = refl
is_so false e = let z : true ≡ false = e in absurd cc

-- a location is there, or isn't
pub some_seen : (o : Option (Bor Value)) (s : Option Value) (b : Bool) → option_copied o ≡ s
    → is_some o ≡ not b → b ≡ false → IsSome s
some_seen None s b e k t = let z : false ≡ true = k ∙ ap not t in absurd cc
some_seen (Some v) s b e k t = subst IsSome e refl

pub none_seen : (o : Option (Bor Value)) (s : Option Value) (b : Bool) → option_copied o ≡ s
    → is_some o ≡ not b → b ≡ true → s ≡ None
none_seen None s b e k t = sym e
none_seen (Some v) s b e k t = let z : true ≡ false = k ∙ ap not t in absurd cc

pub seen_none : (o : Option (Bor Value)) (s : Option Value) (b : Bool) → option_copied o ≡ s
    → is_some o ≡ not b → s ≡ None → b ≡ true
seen_none None s true e k t = refl
seen_none None s false e k t = let z : false ≡ true = k in absurd cc
seen_none (Some v) s b e k t = let z : option_copied (Some v) ≡ None = e ∙ t in absurd cc

-- a pick names no location
pub none_named : (loc : ℕ) (b : Bool) → IsTrue b ↔ (loc ≢ 0) → b ≡ false → loc ≡ 0
none_named loc b h e = go (loc == 0) refl
  where
    go : (t : Bool) → (loc == 0) ≡ t → loc ≡ 0
    go true q = search (rules, q)
    go false q =
        let apart : loc ≢ 0 = search (rules, q) in
        let z : false ≡ true = sym e ∙ h.1 apart in absurd cc

-- ---- new locations

-- so many of them are below the bound, and none is there
abbrev pub FreeYet : ℕ → ℕ → Store → Type 0
FreeYet loc count s = (n : ℕ) → n < count → (loc + n < 2 ^ 64) × (s (loc + n) ≡ None)

pub free_none : (loc : ℕ) (s : Store) → FreeYet loc 0 s
free_none loc s n low = let f : ⊥ = omega (arith, low) in absurd f

pub free_more : (loc count : ℕ) (s : Store) → FreeYet loc count s
    → (loc + count < 2 ^ 64) × (s (loc + count) ≡ None) → FreeYet loc (count + 1) s
free_more loc count s h k n low = go (n == count) refl
  where
    go : (b : Bool) → (n == count) ≡ b → (loc + n < 2 ^ 64) × (s (loc + n) ≡ None)
    go true q =
        let same : n ≡ count = search (rules, q)
        in subst (λ i. (loc + i < 2 ^ 64) × (s (loc + i) ≡ None)) (sym same) k
    go false q =
        let apart : n ≢ count = search (rules, q) in h n (omega (arith, low, apart))

pub free_whole : (loc count : ℕ) (s : Store) → loc < 2 ^ 64 → FreeYet loc count s
    → (loc + count ≤ 2 ^ 64) × AreFree loc count s
free_whole loc zero s b h = (omega (arith, b), λ n low. (h n low).1)
free_whole loc (suc count) s b h =
    let last = (h count (omega arith)).0 in (omega (arith, last), λ n low. (h n low).1)

pub free_one : (loc count n : ℕ) (s : Store) → n < count
    → (loc + count ≤ 2 ^ 64) × AreFree loc count s → (loc + n < 2 ^ 64) × (s (loc + n) ≡ None)
free_one loc count n s low h = let top = h.0 in (omega (arith, low, top), h.1 n low)

-- behind a number above all that are there, all are free
pub free_rest : (loc count done from : ℕ) (s : Store) → FreeYet loc done s → NothingFrom from s
    → from ≤ loc + done → loc + count ≤ 2 ^ 64
    → (loc + count ≤ 2 ^ 64) × AreFree loc count s
free_rest loc count done from s h nothing low bound = (bound, λ n below. one n (cases_lt n done))
  where
    one : (n : ℕ) → (n < done) ⊎ (done ≤ n) → s (loc + n) ≡ None
    one n (inl front) = (h n front).1
    one n (inr back) = nothing (loc + n) (omega (arith, back, low))

-- ---- sleepers

pub waits_not : (s : Store) (t a : Term) → (Sleeps s a → ⊥) → MustWait s t a false
waits_not s t a n = inl n

pub waits_by : (s : Store) (t a : Term) (all waits : Bool) → AllSleep s t all → Sleeps s a
    → waits ≡ not all → MustWait s t a waits
waits_by s t a true waits h z e = subst (MustWait s t a) (sym e) (inr h)
waits_by s t a false waits h z e = subst (MustWait s t a) (sym e) (z, h)

-- an atomic form is fresh or asleep
pub is_atomic : (a : Term) (m : Mode) (body : Term) → Form a m body
    → ((k : Mode) (b : Term) → a ≡ Atomic k b → ⊥) → ((ms : Marks) (b : Term) → a ≡ Asleep ms b → ⊥)
    → ⊥
is_atomic a m body (fresh e) f g = f m body e
is_atomic a m body (slept ms q e) f g = g ms body e
