-- What each built-in declared type is like: it extends at most one type, of a lower number below 2,
-- excludes nothing, and has no list.
use Rattle.std.proofs.Common.{◌≡◌, ◌<◌, ◌⊎◌, inl, inr, ℕ, zero, suc, List, [], ◌∷◌, ◌++◌, length, Some, refl, ap, sym, subst, arith}
use Rattle.std.specs.Prelude.{replicate}
use Rattle.std.specs.List.{slice_get, Contains}
use Rattle.fort_types.specs.declared.hierarchy.DeclaredType.{DeclaredType}
use Rattle.fort_types.specs.declared.hierarchy.TypeKind.TheVariants as a_kind
use Rattle.fort_types_builtin.specs.declared.types.TheConstants.{TYPE_COUNT}
use Rattle.fort_types_builtin.specs.Types.{plain, built_in_declared, types, declared_spellings}

-- what a built-in type of that number is like
pub record IsPlain (a : ℕ) (d : DeclaredType) : Type 0 where
  pub upwards : (b : ℕ) → Contains d.extends b → (b < a) × (b < 2)
  pub nothing_excluded : (b : ℕ) → Contains d.excludes b → ⊥
  pub nothing_listed : (b : ℕ) → Contains d.comprises b → ⊥

none : (b : ℕ) → Contains [] b → ⊥
none b w = let l = w.1 in omega arith

only_one : (x b : ℕ) → Contains (x ∷ []) b → x ≡ b
only_one x b (zero, l, e) = e
only_one x b (suc k, l, e) = absurd (omega arith)

-- a front of equal items, and the rest
in_front : {X : Type 0} (n : ℕ) (x : X) (ys : List X) (k : ℕ) (d : X)
    → slice_get (replicate n x ++ ys) k ≡ Some d → (x ≡ d) ⊎ ((j : ℕ) × (slice_get ys j ≡ Some d))
in_front zero x ys k d e = inr (k, e)
in_front (suc n) x ys zero d e = inl (let s : x ≡ d = cc in s)
in_front (suc n) x ys (suc k) d e = in_front n x ys k d e

all_same : {X : Type 0} (n : ℕ) (x : X) (k : ℕ) (d : X) → slice_get (replicate n x) k ≡ Some d
    → x ≡ d
all_same zero x k d e = absurd cc
all_same (suc n) x zero d e = let s : x ≡ d = cc in s
all_same (suc n) x (suc k) d e = all_same n x k d e

object : (kind : _) (a x : ℕ) → x < 2 → x < a → IsPlain a (plain kind (x ∷ []))
object kind a x l m = record {
  upwards = λ b w. let e = only_one x b w in (omega arith, omega arith);
  nothing_excluded = none;
  nothing_listed = none;
}

-- the leaves and the objects
abbrev leaves : List DeclaredType
leaves = replicate 5 (plain a_kind.Leaf (0 ∷ []))

abbrev objects : List DeclaredType
objects = replicate 10 (plain a_kind.Object (1 ∷ []))

declared_is : built_in_declared
    ≡ plain a_kind.Trait [] ∷ plain a_kind.Trait (0 ∷ []) ∷ (leaves ++ objects)
unfolding built_in_declared types
declared_is = refl

at_number : (a : ℕ) (d : DeclaredType)
    → slice_get (plain a_kind.Trait [] ∷ plain a_kind.Trait (0 ∷ []) ∷ (leaves ++ objects)) a
    ≡ Some d → IsPlain a d
at_number zero d e = subst (IsPlain 0)
    (let s : plain a_kind.Trait [] ≡ d = cc
    in s) (record {
      upwards = λ b w. absurd (none b w);
      nothing_excluded = none;
      nothing_listed = none;
    })
at_number (suc zero) d e = subst (IsPlain 1)
    (let s : plain a_kind.Trait (0 ∷ []) ≡ d = cc
    in s) (object a_kind.Trait 1 0 (omega arith) (omega arith))
at_number (suc (suc k)) d e =
    elim (in_front 5 (plain a_kind.Leaf (0 ∷ [])) objects k d e) as (λ _. IsPlain (suc (suc k)) d) [
      | inl s ↦
          subst (IsPlain (suc (suc k))) s (object a_kind.Leaf (suc (suc k)) 0 (omega arith) (omega arith))
      | inr w ↦
          subst (IsPlain (suc (suc k))) (all_same 10 (plain a_kind.Object (1 ∷ [])) w.0 d w.1)
          (object a_kind.Object (suc (suc k)) 1 (omega arith) (omega arith))
    ]

pub plain_at : (a : ℕ) (d : DeclaredType) → slice_get built_in_declared a ≡ Some d → IsPlain a d
plain_at a d e = at_number a d (subst (λ z. slice_get z a ≡ Some d) declared_is e)

-- those that others extend are traits
trait_at : (a : ℕ) (d : DeclaredType) → a < 2
    → slice_get (plain a_kind.Trait [] ∷ plain a_kind.Trait (0 ∷ []) ∷ (leaves ++ objects)) a
    ≡ Some d → d.kind ≡ a_kind.Trait
trait_at zero d l e =
    let s : plain a_kind.Trait [] ≡ d = cc in ap (λ (z : DeclaredType). z.kind) (sym s)
trait_at (suc zero) d l e =
    let s : plain a_kind.Trait (0 ∷ []) ≡ d = cc in ap (λ (z : DeclaredType). z.kind) (sym s)
trait_at (suc (suc k)) d l e = absurd (omega arith)

pub low_is_trait : (a : ℕ) (d : DeclaredType) → a < 2 → slice_get built_in_declared a ≡ Some d
    → d.kind ≡ a_kind.Trait
low_is_trait a d l e = trait_at a d l (subst (λ z. slice_get z a ≡ Some d) declared_is e)

-- how many there are
pub built_in_count : length built_in_declared ≡ TYPE_COUNT
unfolding built_in_declared types
built_in_count = refl

pub declared_count : length declared_spellings ≡ TYPE_COUNT
unfolding declared_spellings types
declared_count = refl
