-- Chapter "Dispatch": the sets of a program and the overload sets from which they come. The
-- translation makes the first of the second, one by one.
use Rattle.std.specs.Prelude.{◌≡◌, ℕ, slice_get, Some}
use Rattle.fort_base.specs.declared.ids.DeclId.{DeclId}
use Rattle.fort_base.specs.declared.ids.SetId.{SetId}
use Rattle.fort_base.specs.declared.ids.TypeId.{TypeId}
use Rattle.fort_core.specs.declared.program.CoreBody.TheVariants as body
use Rattle.fort_core.specs.declared.program.CoreDecl.{CoreDecl}
use Rattle.fort_core.specs.declared.program.CoreSet.{CoreSet}
use Rattle.fort_core.specs.declared.program.Program.{Program}
use Rattle.fort_types.specs.Hierarchy.{DeclaredTypes, Leaf, Sound}
use Rattle.fort_types.specs.Table.{HasRows}
use Rattle.fort_types_sets.specs.declared.member.Member.{Member}
use Rattle.fort_types_sets.specs.declared.member.MemberKind.TheVariants as a_kind
use Rattle.fort_types_sets.specs.declared.member.MemberSet.{MemberSet}
use Rattle.fort_types_sets.specs.Rules.{StandsAt, IsWellMade}
use Rattle.fort_types_sets.specs.Rules as rules
use Rattle.fort_sound_typed.specs.Overloads.{IsOfValues, KeepsRules}

-- A declaration of a program is what a member of an overload set became: it has its parameters, and
-- is abstract only where that is.
pub record IsMade (p : Program) (d : DeclId) (m : Member) : Type 0 where
  pub decl : CoreDecl
  pub is_decl : slice_get p.decls d.0 ≡ Some decl
  pub parameters : decl.parameters ≡ m.parameters
  pub abstract_only : decl.body ≡ body.Abstract → m.kind ≡ a_kind.Abstract

-- A set of a program is what an overload set became, declaration by declaration, each once.
pub record ComesFrom (p : Program) (c : CoreSet) (s : MemberSet) : Type 0 where
  pub made : (i : ℕ) (m : Member) → StandsAt s i m
      → (d : DeclId) × (slice_get c.decls i ≡ Some d) × IsMade p d m
  pub makes : (i : ℕ) (d : DeclId) → slice_get c.decls i ≡ Some d → (m : Member) × StandsAt s i m
  pub once : (i j : ℕ) (d : DeclId) → slice_get c.decls i ≡ Some d → slice_get c.decls j ≡ Some d
      → i ≡ j

-- Each set of a program comes from one that keeps the rules.
abbrev pub SetsKeep : DeclaredTypes → Program → Type 0
SetsKeep h p = (set : SetId) (c : CoreSet) → slice_get p.sets set.0 ≡ Some c
    → (s : MemberSet) × IsWellMade h s × rules.KeepsRules h s × ComesFrom p c s

-- Values have declared types of their own only where these are objects or leaves of the hierarchy.
abbrev pub ValuesAreLeaves : DeclaredTypes → Program → Type 0
ValuesAreLeaves h p = (id : TypeId) → IsOfValues p id → Leaf h id.0

-- Then the program keeps the rules.
abbrev pub SetsKeepRules : Type 0
SetsKeepRules = (h : DeclaredTypes) (p : Program) → Sound h → HasRows h p.types
    → ValuesAreLeaves h p → SetsKeep h p → KeepsRules p
