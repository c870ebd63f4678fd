-- The chapter "Overload rules", read by the outermost layers of two types: where arrows clash. The
-- code has a case for each of these lines.
use Rattle.std.specs.Prelude.{◌≡◌, List, length}
use Rattle.fort_base.specs.declared.ty.Ty.{Ty}
use Rattle.fort_base.specs.declared.ty.Ty.TheOpen.{Ty-F}
use Rattle.fort_types.specs.Hierarchy.{DeclaredTypes}
use Rattle.fort_types.specs.Layers.{BelowLayer}
use Rattle.fort_types_sets.specs.Applicable.{Somewhere}
use Rattle.fort_types_sets.specs.Meets.{ArrowsClash}

-- Two lists are of one length and have, in one place, arrows neither of which is below the other,
-- or tuples with such parts.
abbrev pub PartsClash : DeclaredTypes → List Ty → List Ty → Type 0
PartsClash h xs ys = (length xs ≡ length ys) × Somewhere (ArrowsClash h) xs ys

-- When the arrows of types with two layers clash.
abbrev pub ClashLayer : DeclaredTypes → Ty-F Ty → Ty-F Ty → Type 0
ClashLayer h (Ty-F.Tuple xs) (Ty-F.Tuple ys) = PartsClash h xs ys
ClashLayer h (Ty-F.Arrow p q) (Ty-F.Arrow r s) = (BelowLayer h (Ty-F.Arrow p q) (Ty-F.Arrow r s)
    → ⊥) × (BelowLayer h (Ty-F.Arrow r s) (Ty-F.Arrow p q) → ⊥)
ClashLayer h _ _ = ⊥
