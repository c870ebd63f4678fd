-- Chapter "Calls": what the code asks of the declarations of a row, argument by argument. The
-- chapter's sentence is `Dispatches` of the machine's definitions, which the public contract cites;
-- these are means to meet it.
use Rattle.std.specs.Prelude.{◌≡◌, ◌==◌, ◌≤◌, ◌<◌, ℕ, zero, suc, Bool, true, false, ◌&&◌, List, length, map, Option, Some, None, slice_get}
use Rattle.fort_base.specs.declared.ids.DeclId.{DeclId}
use Rattle.fort_base.specs.declared.ty.Ty.{Ty}
use Rattle.fort_core.specs.declared.program.CoreDecl.{CoreDecl}
use Rattle.fort_core.specs.declared.program.Program.{Program}
use Rattle.fort_core.specs.declared.value.Value.{Value}
use Rattle.fort_machine.specs.Types.{all_below, has_type, type_of}

-- What is asked of a declaration that is there; of one that isn't nothing holds.
abbrev pub asked : Option CoreDecl → (CoreDecl → Bool) → Bool
asked None f = false
asked (Some decl) f = f decl

-- Whether a declaration is more specific than another one.
abbrev pub goes_before : Program → DeclId → DeclId → Bool
goes_before p d e =
    asked (slice_get p.decls d.0)
    (λ decl. asked (slice_get p.decls e.0) (λ other. all_below p decl.parameters other.parameters))

-- Whether values can be passed to a declaration.
abbrev pub applies : Program → List Value → DeclId → Bool
applies p vs d =
    asked (slice_get p.decls d.0) (λ decl. all_below p (map (type_of p) vs) decl.parameters)

-- Whether the argument in a place is there and has the parameter's type.
abbrev pub takes : Program → Option Value → Option Ty → Bool
takes p (Some v) (Some t) = has_type p v t
takes p (Some v) None = false
takes p None o = false

-- Whether there are as many arguments as parameters, and the first so many have the parameters'
-- types.
abbrev pub fits_first : Program → List Value → List Ty → ℕ → Bool
fits_first p vs ts zero = length vs == length ts
fits_first p vs ts (suc n) = fits_first p vs ts n && takes p (slice_get vs n) (slice_get ts n)

abbrev pub fits : Program → List Value → ℕ → DeclId → Bool
fits p vs n d = asked (slice_get p.decls d.0) (λ decl. fits_first p vs decl.parameters n)

-- Something holds of no declaration of a row from one place on and before another one.
abbrev pub HoldsNowhere : (DeclId → Bool) → List DeclId → ℕ → ℕ → Type 0
HoldsNowhere f row from to = (k : ℕ) (d : DeclId) → from ≤ k → k < to → slice_get row k ≡ Some d
    → f d ≡ false

-- It holds of the declaration in a place, where there is one.
abbrev pub HoldsThere : (DeclId → Bool) → List DeclId → ℕ → Type 0
HoldsThere f row at = (d : DeclId) → slice_get row at ≡ Some d → f d ≡ true

-- The first declaration of a row that is applicable.
pub record IsFirst (p : Program) (vs : List Value) (row : List DeclId) (d : DeclId) : Type 0 where
  pub place : ℕ
  pub is_there : slice_get row place ≡ Some d
  pub applicable : applies p vs d ≡ true
  pub none_before : (k : ℕ) (e : DeclId) → k < place → slice_get row k ≡ Some e
      → applies p vs e ≡ false

-- No declaration of a row is.
abbrev pub IsNone : Program → List Value → List DeclId → Type 0
IsNone p vs row = (k : ℕ) (e : DeclId) → slice_get row k ≡ Some e → applies p vs e ≡ false
