-- The chapter "Types", the rules of a hierarchy: the sentences on one type's head. The code asks
-- the rows.
use Rattle.std.specs.Prelude.{◌≡◌, ◌⊎◌, ◌+◌, ◌-◌, ℕ, List, length, slice_get, Some}
use Rattle.fort_base.specs.declared.refusal.Place.{Place}
use Rattle.fort_types.specs.Hierarchy.{DeclaredTypes, Extends, Path, Leaf, Excludes, Lists}
use Rattle.fort_hier.specs.declared.sentences.Sentence.{Sentence}
use Rattle.fort_hier.specs.declared.sentences.Sentence.TheVariants as sentence

-- A type is above itself by one or more `extends`.
abbrev pub IsOnCycle : DeclaredTypes → ℕ → Type 0
IsOnCycle h a = (b : ℕ) × Extends h a b × Path h b a

-- A type extends an object or a leaf.
abbrev pub ExtendsLeaf : DeclaredTypes → ℕ → Type 0
ExtendsLeaf h a = (b : ℕ) × Extends h a b × Leaf h b

-- A type is below what a number stands for; the number behind the last type's stands for `Any`.
abbrev pub IsBelowNumber : DeclaredTypes → ℕ → ℕ → Type 0
IsBelowNumber h a n = (n ≡ length h) ⊎ Path h a n

-- A type is below both sides of a declared exclusion.
abbrev pub IsBelowBoth : DeclaredTypes → ℕ → Type 0
IsBelowBoth h a = (t n : ℕ) × Excludes h t n × Path h a t × IsBelowNumber h a n

-- A type directly extends a trait whose list hasn't it.
abbrev pub IsNotListed : DeclaredTypes → ℕ → Type 0
IsNotListed h a = (t u : ℕ) × Extends h a t × Lists h t u × (Lists h t a → ⊥)

-- A type's list has one that isn't below the type.
abbrev pub ListsOther : DeclaredTypes → ℕ → Type 0
ListsOther h a = (u : ℕ) × Lists h a u × (Path h u a → ⊥)

-- A type breaks a sentence.
abbrev pub Breaks : Sentence → DeclaredTypes → ℕ → Type 0
Breaks sentence.Cyclic h a = IsOnCycle h a
Breaks sentence.ExtendsObject h a = ExtendsLeaf h a
Breaks sentence.ExtendsExcluded h a = IsBelowBoth h a
Breaks sentence.NotComprised h a = IsNotListed h a
Breaks sentence.ComprisedNotBelow h a = ListsOther h a

-- A type breaks a sentence, and this is its place; the places are those of the last types.
abbrev pub BreaksAt : Sentence → DeclaredTypes → List Place → Place → Type 0
BreaksAt s h places place = (k : ℕ) × (slice_get places k ≡ Some place)
    × Breaks s h (length h - length places + k)
