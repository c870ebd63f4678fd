-- The chapter "Overload rules": when a set keeps them. The code leaves at the first broken rule.
use Rattle.std.specs.Prelude.{◌≡◌, ◌<◌, ℕ, true, length, slice_get, Some}
use Rattle.fort_base.specs.declared.ids.TypeId.{TypeId}
use Rattle.fort_base.specs.declared.ty.Ty.{Ty, out-Ty}
use Rattle.fort_base.specs.declared.ty.Ty.TheOpen.{Ty-F}
use Rattle.fort_types.specs.Hierarchy.{DeclaredTypes}
use Rattle.fort_types.specs.Types.{IsNumbered}
use Rattle.fort_types_sets.specs.declared.member.Member.{Member}
use Rattle.fort_types_sets.specs.declared.member.MemberKind.TheVariants as a_kind
use Rattle.fort_types_sets.specs.declared.member.MemberSet.{MemberSet}
use Rattle.fort_types_sets.specs.Pairs.{Passes}
use Rattle.fort_types_sets.specs.Coverage.{IsAbstractOf, IsObjectBelow, IsCovered}

-- A declaration stands at a position of a set.
abbrev pub StandsAt : MemberSet → ℕ → Member → Type 0
StandsAt s i d = slice_get s.members i ≡ Some d

-- A declared type stands at a position of a declaration's parameters.
abbrev pub HasNamed : Member → ℕ → TypeId → Type 0
HasNamed d at t = (x : Ty) × (slice_get d.parameters at ≡ Some x) × (out-Ty x ≡ Ty-F.Named t)

-- What a set of a component's members is, whatever its declarations say.
pub record IsWellMade (h : DeclaredTypes) (s : MemberSet) : Type 0 where
  -- all its declarations have one number of parameters
  pub width : (i j : ℕ) (p q : Member) → StandsAt s i p → StandsAt s j q
      → length p.parameters ≡ length q.parameters
  -- a dotted method's first parameter is a declared type, its receiver
  pub receivers : s.dotted ≡ true → (i : ℕ) (d : Member) → StandsAt s i d
      → (t : TypeId) × HasNamed d 0 t
  -- the type of an owner stands at its position
  pub owners : (i at : ℕ) (d : Member) (t : TypeId) → StandsAt s i d → d.owner ≡ Some (at, t)
      → HasNamed d at t
  -- an abstract declaration has an owner
  pub owned : (i : ℕ) (d : Member) → StandsAt s i d → d.kind ≡ a_kind.Abstract
      → (at : ℕ) × (t : TypeId) × (d.owner ≡ Some (at, t))
  -- the declared types in parameters and results are those of the hierarchy
  pub parameters : (i k : ℕ) (d : Member) (x : Ty) → StandsAt s i d
      → slice_get d.parameters k ≡ Some x → IsNumbered (length h) x
  pub results : (i : ℕ) (d : Member) → StandsAt s i d → IsNumbered (length h) d.result

-- A set keeps the overload rules.
pub record KeepsRules (h : DeclaredTypes) (s : MemberSet) : Type 0 where
  -- each two declarations pass
  pub pairs : (i j : ℕ) (p q : Member) → StandsAt s i p → StandsAt s j q → i < j → Passes h s p q
  -- each abstract declaration is covered for each object below its type
  pub covered : (i at : ℕ) (d : Member) (t o : TypeId) → StandsAt s i d → IsAbstractOf d at t
      → IsObjectBelow h o t → IsCovered h s d at o
