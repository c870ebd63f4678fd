-- Items of lists that are made one after another.
use Rattle.std.proofs.Common.{◌≡◌, ◌⊎◌, inl, inr, ℕ, zero, suc, List, [], ◌∷◌, ◌++◌, Some, refl, ap, ◌∙◌}
use Rattle.std.specs.List.{slice_get, flat_map}
use Rattle.fort_tree.specs.declared.declarations.Declaration.{Declaration}
use Rattle.fort_tree.specs.declared.declarations.Declaration.TheVariants as declaration
use Rattle.fort_tree.specs.declared.declarations.Declared.{Declared}
use Rattle.fort_tree.specs.declared.declarations.Object.{Object}
use Rattle.fort_elab_law_matched.proofs.Types.{type_of, types_in}
use Rattle.fort_sound_program.proofs.Placed.{either_side}

pub some_of : {X : Type 0} {x y : X} → Some x ≡ Some y → x ≡ y
some_of e = cc

-- where an item of all lists stands
pub from_flat : {X Y : Type 0} (f : X → List Y) (xs : List X) (i : ℕ) (y : Y)
    → slice_get (flat_map f xs) i ≡ Some y
    → (n : ℕ) × (x : X) × (j : ℕ) × (slice_get xs n ≡ Some x) × (slice_get (f x) j ≡ Some y)
from_flat {X} {Y} f [] i y e = absurd cc
from_flat {X} {Y} f (x ∷ xs) i y e =
    elim (either_side (f x) (flat_map f xs) i y e) as (λ _.
    (n : ℕ) × (z : X) × (j : ℕ) × (slice_get (x ∷ xs) n ≡ Some z)
    × (slice_get (f z) j ≡ Some y)) [
      | inl g ↦ (0, x, i, refl, g)
      | inr w ↦ (let v = from_flat f xs w.0 y w.2 in (suc v.0, v.1, v.2, v.3, v.4))
    ]

-- the one item of a list of one
pub only : {X : Type 0} (x y : X) (i : ℕ) → slice_get (x ∷ []) i ≡ Some y → x ≡ y
only x y zero e = cc
only x y (suc i) e = absurd cc

-- ---- objects among declarations

type_step : (d : Declaration) (ts : List Declaration) (o : Object) → d ≡ declaration.Object o
    → slice_get (type_of d ++ ts) 0 ≡ Some (declaration.Object o)
type_step d ts o e = ap (λ z. slice_get (type_of z ++ ts) 0) e

behind_step : (d : Declaration) (ts : List Declaration) (k : ℕ) (x : Declaration)
    → slice_get ts k ≡ Some x → (j : ℕ) × (slice_get (type_of d ++ ts) j ≡ Some x)
behind_step (declaration.Variable v) ts k x e = (k, e)
behind_step (declaration.Function f) ts k x e = (k, e)
behind_step (declaration.Trait t) ts k x e = (suc k, e)
behind_step (declaration.Object o) ts k x e = (suc k, e)

pub in_types : (ds : List Declared) (a : ℕ) (d : Declared) (o : Object) → slice_get ds a ≡ Some d
    → d.declaration ≡ declaration.Object o
    → (k : ℕ) × (slice_get (types_in ds) k ≡ Some (declaration.Object o))
in_types [] a d o e q = absurd cc
in_types (x ∷ ds) zero d o e q = (
  0,
  type_step x.declaration (types_in ds) o (ap (λ
      (z : Declared). z.declaration) (some_of e) ∙ q),
)
in_types (x ∷ ds) (suc a) d o e q =
    let w = in_types ds a d o e q
    in behind_step x.declaration (types_in ds) w.0 (declaration.Object o) w.1

first_step : (d : Declaration) (ts : List Declaration) (k : ℕ) (o : Object)
    → slice_get (type_of d ++ ts) k ≡ Some (declaration.Object o)
    → (d ≡ declaration.Object o) ⊎ ((j : ℕ) × (slice_get ts j ≡ Some (declaration.Object o)))
first_step (declaration.Variable v) ts k o e = inr (k, e)
first_step (declaration.Function f) ts k o e = inr (k, e)
first_step (declaration.Trait t) ts zero o e = absurd cc
first_step (declaration.Trait t) ts (suc k) o e = inr (k, e)
first_step (declaration.Object p) ts zero o e = inl (some_of e)
first_step (declaration.Object p) ts (suc k) o e = inr (k, e)

pub of_types : (ds : List Declared) (k : ℕ) (o : Object)
    → slice_get (types_in ds) k ≡ Some (declaration.Object o)
    → (a : ℕ) × (d : Declared) × (slice_get ds a ≡ Some d) × (d.declaration ≡ declaration.Object o)
of_types [] k o e = absurd cc
of_types (x ∷ ds) k o e =
    elim (first_step x.declaration (types_in ds) k o e) as (λ _.
    (a : ℕ) × (d : Declared) × (slice_get (x ∷ ds) a ≡ Some d)
    × (d.declaration ≡ declaration.Object o)) [
      | inl q ↦ (0, x, refl, q)
      | inr w ↦ (let v = of_types ds w.0 o w.1 in (suc v.0, v.1, v.2, v.3))
    ]
