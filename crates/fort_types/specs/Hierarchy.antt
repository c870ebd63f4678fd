-- The chapter "Types": declared types, their paths of `extends`, and which of them are apart. Both
-- are least relations here; the code closes rows of bits.
use Rattle.std.specs.Prelude.{◌≡◌, ◌≢◌, ℕ, ◌<◌, List, length, slice_get, Some, Contains}
use Rattle.fort_types.specs.declared.hierarchy.DeclaredType.{DeclaredType}
use Rattle.fort_types.specs.declared.hierarchy.TypeKind.TheVariants as a_kind

-- The declared types, each by its number.
abbrev pub DeclaredTypes : Type 0
DeclaredTypes = List DeclaredType

-- The number is that of a trait.
abbrev pub Trait : DeclaredTypes → ℕ → Type 0
Trait h a = (d : DeclaredType) × (slice_get h a ≡ Some d) × (d.kind ≡ a_kind.Trait)

-- The number is that of an object or of a leaf.
abbrev pub Leaf : DeclaredTypes → ℕ → Type 0
Leaf h a = (d : DeclaredType) × (slice_get h a ≡ Some d) × (d.kind ≢ a_kind.Trait)

-- The first declared type names the second, a declared type too, in its `extends`.
abbrev pub Extends : DeclaredTypes → ℕ → ℕ → Type 0
Extends h a b = (d : DeclaredType) × (slice_get h a ≡ Some d) × Contains d.extends b
    × (b < length h)

-- The first declared type names the second in its `excludes`.
abbrev pub Excludes : DeclaredTypes → ℕ → ℕ → Type 0
Excludes h a b = (d : DeclaredType) × (slice_get h a ≡ Some d) × Contains d.excludes b

-- The first declared type names the second in its `comprises`.
abbrev pub Lists : DeclaredTypes → ℕ → ℕ → Type 0
Lists h a b = (d : DeclaredType) × (slice_get h a ≡ Some d) × Contains d.comprises b

-- A path of `extends` leads from the first type to the second, by no step or by more.
pub data Path (h : DeclaredTypes) : ℕ → ℕ → Type 0 where
  stop : {a : ℕ} → Path h a a
  along : {a b c : ℕ} → Extends h a b → Path h b c → Path h a c

-- Two declared types are apart: the least symmetric relation with the rules that speak of declared
-- types.
pub data DeclaredApart (h : DeclaredTypes) : ℕ → ℕ → Type 0 where
  -- two traits one of which excludes the other
  excluded : {a b : ℕ} → Trait h a → Trait h b → Excludes h a b → DeclaredApart h a b
  -- an object or leaf and a declared type, neither below the other
  leaf : {a b : ℕ} → Leaf h a → b < length h → (Path h a b → ⊥) → (Path h b a → ⊥)
      → DeclaredApart h a b
  -- a type below one of two that are apart, and the other
  lower : {a c b : ℕ} → Path h a c → DeclaredApart h c b → DeclaredApart h a b
  -- a trait with a list, and a type that each listed one is apart from
  comprised : {a b : ℕ} (u : ℕ) → Trait h a → Lists h a u
      → ((v : ℕ) → Lists h a v → DeclaredApart h v b) → DeclaredApart h a b
  flip : {a b : ℕ} → DeclaredApart h a b → DeclaredApart h b a

-- The rules that an accepted hierarchy keeps.
pub record Sound (h : DeclaredTypes) : Type 0 where
  -- no type is above itself by one or more `extends`
  pub acyclic : (a b : ℕ) → Extends h a b → Path h b a → ⊥
  -- no type extends an object or a leaf
  pub only_traits : (a b : ℕ) → Extends h a b → Leaf h b → ⊥
  -- no type is below both sides of an exclusion
  pub below_one : (a b x : ℕ) → Excludes h a b → Path h x a → Path h x b → ⊥
  -- who extends a type with a list stands in the list
  pub all_listed : (x t u : ℕ) → Extends h x t → Lists h t u → Lists h t x
  -- who stands in a type's list is below the type
  pub listed_below : (t u : ℕ) → Lists h t u → Path h u t
