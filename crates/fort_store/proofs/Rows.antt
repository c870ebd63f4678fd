-- Rows: what stands at their places.
use Rattle.std.proofs.Common.{◌≡◌, ℕ, zero, suc, ◌<◌, ◌==◌, ◌≢◌, Bool, true, false, List, [], ◌∷◌, ◌++◌, Option, Some, None, length, slice_set, slice_index_or, refl, ap, ◌∙◌, subst, arith, if◌then◌else◌}
use Rattle.std.specs.Option.{option_flatten}
use Rattle.std.proofs.Math.Path.{fun_ext}
use Rattle.std.proofs.lemmas.Bool.{eqb-true, eqb-false}
use Rattle.std.proofs.lemmas.Option.{slice_get_read}
use Rattle.std.specs.Prelude.{OnErr}
use Rattle.std.specs.declared.result.Result.{Result}
use Rattle.std.specs.declared.result.Result.TheVariants.{Ok, Err}
use Rattle.fort_core.specs.declared.value.Value.{Value}
use Rattle.fort_machine.specs.Plain.{put}
use Rattle.fort_store.specs.Trees.{placed}

longer_at : {X : Type 0} (xs : List (Option X)) (i : ℕ) → placed (xs ++ None ∷ []) i ≡ placed xs i
longer_at [] zero = refl
longer_at [] (suc i) = refl
longer_at (x ∷ xs) zero = refl
longer_at (x ∷ xs) (suc i) = longer_at xs i

-- a row with an empty place more
pub longer : {X : Type 0} (xs ys zs : List (Option X)) → ys ≡ xs ++ None ∷ []
    → placed xs ≡ placed zs → placed ys ≡ placed zs
longer xs ys zs q h = ap placed q ∙ (fun_ext (longer_at xs) ∙ h)

set_same : {X : Type 0} (xs : List (Option X)) (i : ℕ) (x : Option X) → i < length xs
    → placed (slice_set xs i x) i ≡ x
set_same [] i x l = let f : ⊥ = omega (arith, l) in absurd f
set_same (y ∷ ys) zero x l = refl
set_same (y ∷ ys) (suc i) x l = set_same ys i x (omega (arith, l))

set_other : {X : Type 0} (xs : List (Option X)) (i : ℕ) (x : Option X) (k : ℕ) → i ≢ k
    → placed (slice_set xs i x) k ≡ placed xs k
set_other [] i x k ne = refl
set_other (y ∷ ys) zero x zero ne = absurd (ne refl)
set_other (y ∷ ys) zero x (suc k) ne = refl
set_other (y ∷ ys) (suc i) x zero ne = refl
set_other (y ∷ ys) (suc i) x (suc k) ne = set_other ys i x k (λ q. ne (ap suc q))

-- a row with another item at a place
pub set_at : {X : Type 0} (xs : List (Option X)) (i : ℕ) (x : Option X) (k : ℕ) → i < length xs
    → placed (slice_set xs i x) k ≡ (if i == k then x else placed xs k)
set_at xs i x k l = go (i == k) refl
  where
    go : (b : Bool) → (i == k) ≡ b → placed (slice_set xs i x) k ≡ (if b then x else placed xs k)
    go true e =
        subst (λ j. placed (slice_set xs i x) j ≡ x) (eqb-true i k e) (set_same xs i x l)
    go false e = set_other xs i x k (eqb-false i k e)

-- a value at a place
pub set_value : (xs ys : List (Option Value)) (i : ℕ) (v : Value) → placed ys ≡ placed xs
    → i < length ys → placed (slice_set ys i (Some v)) ≡ put i v (placed xs)
set_value xs ys i v q l = fun_ext (λ k. set_at ys i (Some v) k l) ∙ ap (put i v) q

-- what an index reads
pub read_at : {X : Type 0} (xs : List (Option X)) (i : ℕ) (x : Option X) → i < length xs
    → x ≡ slice_index_or xs i x → placed xs i ≡ x
read_at xs i x l q = ap option_flatten (slice_get_read xs (length xs) i x refl l q)

-- what holds in any case holds at an error
pub on_any_err : {T E P : Type 0} (r : Result T E) → P → OnErr r P
on_any_err (Ok x) p = tt
on_any_err (Err e) p = p
