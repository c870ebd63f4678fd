-- The chapter "Types": the laws that below and apart keep. The code does nothing for them.
use Rattle.std.specs.Prelude.{◌≡◌, ◌≢◌, ◌↔◌, true, false, length, IsTrue}
use Rattle.fort_base.specs.declared.ty.Ty.{Ty}
use Rattle.fort_base.specs.declared.table.TypeTable.{TypeTable}
use Rattle.fort_types.specs.Hierarchy.{DeclaredTypes, Sound}
use Rattle.fort_types.specs.Types.{Below, Apart, Solid, IsNumbered, shape, bottom, top}
use Rattle.fort_types.specs.Table.{HasRows}
use Rattle.fort_types.specs.Relation.{relation}

-- Each type is below itself.
abbrev pub BelowItself : Type 0
BelowItself = (h : DeclaredTypes) (a : Ty) → Below h a a

-- A type below one that is below a third is below the third.
abbrev pub BelowThrough : Type 0
BelowThrough = (h : DeclaredTypes) (a b c : Ty) → Below h a b → Below h b c → Below h a c

-- Two types that are below each other are one.
abbrev pub BelowBothWays : Type 0
BelowBothWays = (h : DeclaredTypes) → Sound h → (a b : Ty) → Below h a b → Below h b a → a ≡ b

-- No solid type is below two types that are apart.
abbrev pub NeverBelowTwo : Type 0
NeverBelowTwo = (h : DeclaredTypes) → Sound h → (a b x : Ty) → Apart h a b → Solid x → Below h x a
    → Below h x b → ⊥

-- Of two that are apart, each is apart from the other.
abbrev pub ApartEitherWay : Type 0
ApartEitherWay = (h : DeclaredTypes) (a b : Ty) → Apart h a b → Apart h b a

-- What is below two that are apart are apart.
abbrev pub ApartGoesDown : Type 0
ApartGoesDown = (h : DeclaredTypes) (a b c d : Ty) → Apart h a b → Below h c a → Below h d b
    → Apart h c d

-- `Nothing` is apart from each type but `Any`, itself too.
abbrev pub NothingIsApart : Type 0
NothingIsApart = (h : DeclaredTypes) (a b : Ty) → shape a ≡ bottom → Apart h a b ↔ (shape b ≢ top)

-- Asked of the rows of an accepted hierarchy, one way round or the other, the computed truth is
-- that of below.
abbrev pub RelationIsBelow : Type 0
RelationIsBelow = (h : DeclaredTypes) (table : TypeTable) → Sound h → HasRows h table → (a b : Ty)
    → IsNumbered (length h) a → IsNumbered (length h) b
    → (IsTrue (relation table.below a true b) ↔ Below h a b)
    × (IsTrue (relation table.below a false b) ↔ Below h b a)
