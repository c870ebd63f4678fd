-- The chapter "Types", the rules of a hierarchy: what the code's walks over the lists of a head
-- find.
use Rattle.std.specs.Prelude.{◌≡◌, ◌≢◌, ◌⊎◌, ◌<◌, ℕ, Bool, IsTrue, List, [], length, slice_get, slice_index, Some, Contains}
use Rattle.fort_types.specs.declared.hierarchy.DeclaredType.{DeclaredType}
use Rattle.fort_types.specs.Hierarchy.{DeclaredTypes, Leaf}
use Rattle.fort_types.specs.Table.{is_set}

-- Some number of a list has a property.
abbrev pub SomeOf : (ℕ → Type 0) → List ℕ → Type 0
SomeOf P list = (k : ℕ) × (k < length list) × P (slice_index list k)

abbrev pub SomeSet : List (List Bool) → List ℕ → ℕ → Type 0
SomeSet rows list a = SomeOf (λ b. IsTrue (is_set rows b a)) list

abbrev pub SomeUnset : List (List Bool) → List ℕ → ℕ → Type 0
SomeUnset rows list a = SomeOf (λ b. IsTrue (is_set rows b a) → ⊥) list

-- The number is that of an object or of a leaf.
abbrev pub LeafAt : DeclaredTypes → ℕ → Type 0
LeafAt h b = Leaf h b

abbrev pub SomeLeaf : DeclaredTypes → List ℕ → Type 0
SomeLeaf h list = SomeOf (LeafAt h) list

-- The number is that of a type with a list that hasn't another number.
abbrev pub UnlistedAt : DeclaredTypes → ℕ → ℕ → Type 0
UnlistedAt h b a = (d : DeclaredType) × (slice_get h b ≡ Some d) × (d.comprises ≢ [])
    × (Contains d.comprises a → ⊥)

abbrev pub SomeUnlisted : DeclaredTypes → List ℕ → ℕ → Type 0
SomeUnlisted h list a = SomeOf (λ b. UnlistedAt h b a) list

-- Some number of a list has its place set in a row, or is that of `Any`.
abbrev pub ExcludesAbove : List (List Bool) → List ℕ → ℕ → ℕ → Type 0
ExcludesAbove rows list a top = SomeOf (λ n. (n ≡ top) ⊎ IsTrue (is_set rows a n)) list

-- A row has the place of a type set that excludes one of these.
abbrev pub SomeExcluding : DeclaredTypes → List (List Bool) → ℕ → Type 0
SomeExcluding h rows a = (t : ℕ) × (d : DeclaredType) × (slice_get h t ≡ Some d)
    × IsTrue (is_set rows a t) × ExcludesAbove rows d.excludes a (length h)
