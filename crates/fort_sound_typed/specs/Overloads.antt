-- Chapter "Dispatch": what the rules on overloading give, of types of values. The check finds it
-- pair by pair.
use Rattle.std.specs.Prelude.{◌≡◌, ◌≢◌, ℕ, ◌⊎◌, List, slice_get, Some}
use Rattle.fort_base.specs.declared.ids.DeclId.{DeclId}
use Rattle.fort_base.specs.declared.ids.SetId.{SetId}
use Rattle.fort_base.specs.declared.ids.TypeId.{TypeId}
use Rattle.fort_base.specs.declared.ty.Ty.{Ty, out-Ty}
use Rattle.fort_base.specs.declared.ty.Ty.TheOpen.{Ty-F}
use Rattle.fort_core.specs.declared.program.CoreBody.TheVariants as body
use Rattle.fort_core.specs.declared.program.CoreDecl.{CoreDecl}
use Rattle.fort_core.specs.declared.program.CoreShape.{CoreShape}
use Rattle.fort_core.specs.declared.program.Program.{Program}
use Rattle.fort_types.specs.Types.{Solid}
use Rattle.fort_machine.specs.Calls.{IsApplicable, IsMostSpecific}
use Rattle.fort_sound_typed.specs.Typing.{ShapeOf, Makes}
use Rattle.fort_sound_typed.specs.Sound.{Sound, Defined}
use Rattle.fort_sound_typed.specs.Goes.{IsBuiltIn}

-- Values have it as their own type where it is declared: a built-in leaf, or a type that objects
-- are made of.
abbrev pub IsOfValues : Program → TypeId → Type 0
IsOfValues p id = IsBuiltIn p id ⊎ ((s : CoreShape) × ShapeOf p id s × Makes s.kind)

-- Each type of a list is solid, and of values where it is declared.
pub record AreOfValues (p : Program) (ts : List Ty) : Type 0 where
  pub solid : (n : ℕ) (t : Ty) → slice_get ts n ≡ Some t → Solid t
  pub declared : (n : ℕ) (t : Ty) (id : TypeId) → slice_get ts n ≡ Some t → out-Ty t ≡ Ty-F.Named id
      → IsOfValues p id

-- One declaration of a set is most specific for types, and it isn't abstract.
pub record OneApplies (p : Program) (set : SetId) (ts : List Ty) : Type 0 where
  pub number : DeclId
  pub decl : CoreDecl
  pub most_specific : IsMostSpecific p set ts number decl
  pub no_other : (e : DeclId) (other : CoreDecl) → IsMostSpecific p set ts e other → e ≡ number
  pub concrete : decl.body ≢ body.Abstract

-- Where some declaration of a set is applicable to types of values, exactly one is most specific,
-- and that one isn't abstract.
abbrev pub KeepsRules : Program → Type 0
KeepsRules p = (set : SetId) (ts : List Ty) (d : DeclId) (decl : CoreDecl) → AreOfValues p ts
    → IsApplicable p set ts d decl → OneApplies p set ts

-- So calls of typed values have one definition.
abbrev pub RulesDefine : Type 0
RulesDefine = (p : Program) → Sound p → KeepsRules p → Defined p
