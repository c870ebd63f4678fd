-- Values of new locations.
use Rattle.std.proofs.Common.{◌≡◌, ◌≢◌, ℕ, zero, suc, ◌+◌, List, [], ◌∷◌, ◌++◌, length, refl, ap, sym, ◌∙◌, arith}
use Rattle.std.specs.Prelude.{replicate}
use Rattle.fort_core.specs.declared.value.Value.{Value}
use Rattle.fort_machine.specs.Acts.{unit}
use Rattle.fort_machine.specs.Steps.{or_unit}

pub some_values : (vs : List Value) (n : ℕ) → length vs ≡ n → n ≢ 0 → length (or_unit vs) ≡ n
some_values [] n e k = absurd (k (sym e))
some_values (v ∷ vs) n e k = e

pub no_values : (vs : List Value) (n : ℕ) → length vs ≡ n → n ≡ 0 → length (or_unit vs) ≡ 1
no_values [] n e z = refl
no_values (v ∷ vs) n e z = let f : ⊥ = omega (arith, e, z) in absurd f

pub as_many : (n : ℕ) (v : Value) → length (replicate n v) ≡ n
as_many zero v = refl
as_many (suc n) v = ap suc (as_many n v)

pub unit_for_none : (vs : List Value) → vs ≡ [] → unit ∷ [] ≡ or_unit vs
unit_for_none vs e = ap or_unit (sym e)

pub same_for_some : (vs : List Value) → vs ≢ [] → vs ≡ or_unit vs
same_for_some [] n = absurd (n refl)
same_for_some (v ∷ vs) n = refl

last_more : (n : ℕ) (v : Value) → replicate n v ++ v ∷ [] ≡ replicate (suc n) v
last_more zero v = refl
last_more (suc n) v = ap (λ vs. v ∷ vs) (last_more n v)

pub once_more : (n : ℕ) (v : Value) → replicate n v ++ v ∷ [] ≡ replicate (n + 1) v
once_more n v =
    let next : suc n ≡ n + 1 = omega arith in
    last_more n v ∙ ap (λ k. replicate k v) next
