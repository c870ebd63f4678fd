-- The chapter "Overload rules": what is asked of an abstract declaration. The code asks each object
-- below its type.
use Rattle.std.specs.Prelude.{◌≡◌, ◌≢◌, ℕ, slice_get, slice_set, Some}
use Rattle.fort_base.specs.declared.ids.TypeId.{TypeId}
use Rattle.fort_base.specs.declared.ty.Ty.TheVariants as a_type
use Rattle.fort_types.specs.Hierarchy.{DeclaredTypes, Leaf, Path}
use Rattle.fort_types.specs.Types.{Below}
use Rattle.fort_types_sets.specs.declared.member.Member.{Member}
use Rattle.fort_types_sets.specs.declared.member.MemberKind.TheVariants as a_kind
use Rattle.fort_types_sets.specs.declared.member.MemberSet.{MemberSet}
use Rattle.fort_types_sets.specs.Applicable.{IsApplicable, IsMoreSpecific}

-- A declaration is an abstract method of a type, which stands at a position.
abbrev pub IsAbstractOf : Member → ℕ → TypeId → Type 0
IsAbstractOf d at t = (d.kind ≡ a_kind.Abstract) × (d.owner ≡ Some (at, t))

-- An object or leaf is below a type.
abbrev pub IsObjectBelow : DeclaredTypes → TypeId → TypeId → Type 0
IsObjectBelow h o t = Leaf h o.0 × Path h o.0 t.0

-- An abstract declaration is covered for an object: some declaration of the set that isn't abstract
-- is more specific, has a result below, and is applicable to the parameters with the object at the
-- position.
abbrev pub IsCovered : DeclaredTypes → MemberSet → Member → ℕ → TypeId → Type 0
IsCovered h s d at o = (k : ℕ) × (e : Member) × (slice_get s.members k ≡ Some e)
    × (e.kind ≢ a_kind.Abstract)
    × IsMoreSpecific h e d × Below h e.result d.result
    × IsApplicable h e (slice_set d.parameters at (a_type.Named o))
