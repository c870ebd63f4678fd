-- The chapter "Overload rules": which declared types are objects or leaves, as a list of truths.
-- The code reads it place by place.
use Rattle.std.specs.Prelude.{Bool, true, false, List, map}
use Rattle.fort_types.specs.declared.hierarchy.DeclaredType.{DeclaredType}
use Rattle.fort_types.specs.declared.hierarchy.TypeKind.{TypeKind}
use Rattle.fort_types.specs.declared.hierarchy.TypeKind.TheVariants as a_kind
use Rattle.fort_types.specs.Hierarchy.{DeclaredTypes}

-- whether types of a kind are objects or leaves
abbrev pub leaf_kind : TypeKind → Bool
leaf_kind a_kind.Trait = false
leaf_kind a_kind.Object = true
leaf_kind a_kind.Leaf = true

-- Whether a declared type is an object or a leaf.
abbrev pub is_leaf : DeclaredType → Bool
is_leaf d = leaf_kind d.kind

-- For each declared type, by its number, whether it is an object or a leaf.
abbrev pub leaves_of : DeclaredTypes → List Bool
leaves_of h = map is_leaf h
