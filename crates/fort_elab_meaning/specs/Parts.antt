-- "Forms" of docs/TRANSLATION.md: what the translation of a form knows of its parts.
use Rattle.std.specs.Prelude.{ℕ, Bool, List}
use Rattle.fort_base.specs.declared.ids.NameId.{NameId}
use Rattle.fort_base.specs.declared.ids.SetId.{SetId}
use Rattle.fort_base.specs.declared.ty.Ty.{Ty}
use Rattle.fort_core.specs.declared.program.CoreShape.{CoreShape}
use Rattle.fort_elab_meaning.specs.Making.{Maker}

-- What is given for all forms of a component: its texts, what its declared types are made of, and
-- the set of `widen`.
pub record Given : Type 0 where
  pub texts : List (List ℕ)
  pub shapes : List CoreShape
  pub widen : SetId

-- What a form is beside an expression: a declaration in a block, or what can be assigned to, with
-- the types and terms of its parts.
pub data Role : Type 0 where
  expression : Role
  -- `x: T = e`: whether it is mutable, T, e
  local : NameId → Bool → Ty → Maker → Role
  -- `(x, y): (T, U) = e`
  locals : List (NameId × Ty) → Maker → Role
  -- a mutable variable in scope, and one at the top
  variable : NameId → Role
  top : ℕ → Role
  -- `o.f`, and `a[i]`
  field : Ty → Maker → NameId → Role
  element : Ty → Maker → Ty → Maker → Role

-- A form as it is known where it is a part: its type, what it becomes, and what it is.
pub record Part : Type 0 where
  pub ty : Ty
  pub maker : Maker
  pub role : Role

abbrev pub maker_of : Part → Maker
maker_of p = p.maker
