-- The chapter "Types": what a round of the code over the bits of apart finds.
use Rattle.std.specs.Prelude.{◌≡◌, ◌≢◌, ◌<◌, ◌≤◌, ℕ, Bool, true, false, length, Contains}
use Rattle.fort_types.specs.declared.hierarchy.DeclaredType.{DeclaredType}
use Rattle.fort_types.specs.declared.hierarchy.TypeKind.TheVariants as a_kind
use Rattle.fort_types.specs.Hierarchy.{DeclaredTypes, Extends, Path, Trait, Leaf, Excludes, Lists, DeclaredApart}
use Rattle.fort_types.specs.Square.{Bits, Bit, AllBits, Sized, unset}

-- Each bit that is set stands for a pair that is apart.
pub record Within (h : DeclaredTypes) (rows : Bits) : Type 0 where
  pub sound : (i j : ℕ) → Bit rows i j → DeclaredApart h i j

-- The tests of one pair: a trait that excludes a trait.
abbrev pub Excluding : DeclaredTypes → DeclaredType → ℕ → Type 0
Excluding h d b = (d.kind ≡ a_kind.Trait) × Trait h b × Contains d.excludes b

-- An object or leaf, and neither below the other.
abbrev pub LeafApart : DeclaredTypes → DeclaredType → ℕ → ℕ → Type 0
LeafApart h d a b = (d.kind ≢ a_kind.Trait) × (Path h a b → ⊥) × (Path h b a → ⊥)

-- A trait with a list, and each that stands in it has the bit.
abbrev pub ListApart : DeclaredType → Bits → ℕ → Type 0
ListApart d rows b = (d.kind ≡ a_kind.Trait) × (0 < length d.comprises) × AllBits rows d.comprises b

-- One use of the rules, on what the bits say so far.
pub data Parts (h : DeclaredTypes) (rows : Bits) (a b : ℕ) : Type 0 where
  by_turn : Bit rows b a → Parts h rows a b
  by_exclusion : Trait h a → Trait h b → Excludes h a b → Parts h rows a b
  by_leaf : Leaf h a → (Path h a b → ⊥) → (Path h b a → ⊥) → Parts h rows a b
  by_above : (c : ℕ) → Extends h a c → Bit rows c b → Parts h rows a b
  by_list : (u : ℕ) → Trait h a → Lists h a u → ((v : ℕ) → Lists h a v → Bit rows v b)
      → Parts h rows a b

-- The bits are closed at one pair, in a row up to a place, in the rows up to one.
abbrev pub ClosedAt : DeclaredTypes → Bits → ℕ → ℕ → Type 0
ClosedAt h rows a b = Parts h rows a b → Bit rows a b

abbrev pub ClosedIn : DeclaredTypes → Bits → ℕ → ℕ → Type 0
ClosedIn h rows a n = (b : ℕ) → b < n → ClosedAt h rows a b

abbrev pub ClosedTo : DeclaredTypes → Bits → ℕ → Type 0
ClosedTo h rows n = (a : ℕ) → a < n → ClosedIn h rows a (length h)

-- Either nothing changed and the fact held, or fewer bits are left.
pub record Progress (old new : Bits) (grown : Bool) (P : Type 0) : Type 0 where
  pub still : grown ≡ false → (new ≡ old) × P
  pub fewer : grown ≡ true → unset new < unset old
  pub no_more : unset new ≤ unset old

-- The bits have the right size and stand for pairs that are apart.
pub record Holds (h : DeclaredTypes) (rows : Bits) : Type 0 where
  pub sized : Sized (length h) rows
  pub within : Within h rows
