-- The chapter "Overload rules": declared types below two receivers. The code looks through the rows
-- of below.
use Rattle.std.specs.Prelude.{◌<◌, ℕ, Bool, IsTrue, List, length}
use Rattle.fort_base.specs.declared.ty.Ty.{Ty}
use Rattle.fort_base.specs.declared.ty.Ty.TheOpen.{Ty-F}
use Rattle.fort_types.specs.Hierarchy.{DeclaredTypes}
use Rattle.fort_types.specs.Table.{is_set}
use Rattle.fort_meet.specs.Meets.{IsCommon}

-- Some declared type is below both.
abbrev pub HasCommon : DeclaredTypes → ℕ → ℕ → Type 0
HasCommon h a b = (k : ℕ) × IsCommon h a b k

-- When types with two layers are declared types with some declared type below both.
abbrev pub CommonLayer : DeclaredTypes → Ty-F Ty → Ty-F Ty → Type 0
CommonLayer h (Ty-F.Named i) (Ty-F.Named j) = HasCommon h i.0 j.0
CommonLayer h _ _ = ⊥

-- Some row has both places set.
abbrev pub HasBoth : List (List Bool) → ℕ → ℕ → Type 0
HasBoth rows a b = (k : ℕ) × (k < length rows) × IsTrue (is_set rows k a) × IsTrue (is_set rows k b)
