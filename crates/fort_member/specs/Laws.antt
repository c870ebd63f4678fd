-- The chapter "Members", overload sets: what the sets of an accepted component are. The code asks
-- none of this.
use Rattle.std.specs.Prelude.{◌≡◌, ◌++◌, ℕ, Bool, cond, List, [], length, map, slice_get, Some}
use Rattle.fort_tree.specs.declared.declarations.Component.{Component}
use Rattle.fort_tree_type_names.specs.TypeNames.{type_names}
use Rattle.fort_hier.specs.declared.accepted.Hierarchy.{Hierarchy}
use Rattle.fort_hier.specs.Hierarchies.{declares, IsHierarchy}
use Rattle.fort_types_builtin.specs.declared.table.BuiltInDeclaration.{BuiltInDeclaration}
use Rattle.fort_types_builtin.specs.Declarations.{declarations_of}
use Rattle.fort_types_sets.specs.declared.member.Member.{Member}
use Rattle.fort_types_sets.specs.declared.member.MemberKind.TheVariants as a_kind
use Rattle.fort_types_sets.specs.declared.member.MemberSet.{MemberSet}
use Rattle.fort_types_sets.specs.declared.member.Members.{Members}
use Rattle.fort_types_sets.specs.Rules.{IsWellMade}
use Rattle.fort_member.specs.Answers.{AreMembers}
use Rattle.fort_member.specs.BuiltIn.{built_in_member}

-- Each set of a component whose types are an accepted hierarchy is well made over that hierarchy.
abbrev pub SetsAreWellMade : Type 0
SetsAreWellMade = (c : Component) (h : Hierarchy) → IsHierarchy c (type_names c) h → (m : Members)
    → AreMembers c m
    → (i : ℕ) (s : MemberSet) → slice_get m.sets i ≡ Some s → IsWellMade (declares c) s

-- The built-in declarations of a name and number of parameters, where they aren't asked of dotted
-- methods, of which none is built in.
abbrev pub built_in_of : Bool → List ℕ → ℕ → List BuiltInDeclaration
built_in_of dotted name width = cond dotted [] (declarations_of name width)

-- In a set the built-in declarations of its name and number of parameters stand first, in the order
-- of their table, and no other is built in.
pub record HasBuiltInFirst (s : MemberSet) : Type 0 where
  pub width : ℕ
  pub all_wide : (j : ℕ) (d : Member) → slice_get s.members j ≡ Some d → length d.parameters ≡ width
  pub others : List Member
  pub are : s.members ≡ map built_in_member (built_in_of s.dotted s.name width) ++ others
  pub none_built_in : (j : ℕ) (d : Member) → slice_get others j ≡ Some d → d.kind ≡ a_kind.BuiltIn
      → ⊥

-- Each set of a component is so. So a built-in declaration's place in its set is its place among
-- those of its name and number of parameters.
abbrev pub BuiltInsStandFirst : Type 0
BuiltInsStandFirst = (c : Component) (m : Members) → AreMembers c m → (i : ℕ) (s : MemberSet)
    → slice_get m.sets i ≡ Some s → HasBuiltInFirst s
