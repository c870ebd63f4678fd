-- "Forms" of docs/TRANSLATION.md: five forms and their terms. Nothing in the code is like it.
use Rattle.std.specs.Prelude.{◌≡◌, ℕ, Bool, true, false, pos, List, [], ◌∷◌, None}
use Rattle.fort_base.specs.declared.ids.NameId.{NameId}
use Rattle.fort_base.specs.declared.ids.SetId.{SetId}
use Rattle.fort_base.specs.declared.ty.Ty.{Ty}
use Rattle.fort_base.specs.declared.ty.Ty.TheVariants as a_type
use Rattle.fort_form.specs.declared.form.Parameter.{Parameter}
use Rattle.fort_types_builtin.specs.declared.types.TheConstants.{ZZ32, ZZ64, BOOLEAN}
use Rattle.fort_core.specs.declared.form.Slot.TheVariants as slot
use Rattle.fort_core.specs.declared.term.Term.{Term, Variable, Read, Let, Operator, Call, If, ReadElement, WriteElement}
use Rattle.fort_core.specs.declared.term.Term as term
use Rattle.fort_core.specs.declared.value.Value.{Small, Function}
use Rattle.fort_form_typed.specs.declared.typed_form.Chosen.{Chosen}
use Rattle.fort_form_typed.specs.declared.typed_form.TypedForm.{TypedForm}
use Rattle.fort_form_typed.specs.declared.typed_form.TypedForm.TheVariants as a_typed
use Rattle.fort_elab_meaning.specs.declared.counter.Counter.{Counter}
use Rattle.fort_elab_meaning.specs.Making.{Scope, Made}
use Rattle.fort_elab_meaning.specs.Parts.{Given}
use Rattle.fort_elab_meaning.specs.Values.{no_match}
use Rattle.fort_elab_meaning.specs.Translated.{translated}

abbrev pub zz32 : Ty
zz32 = a_type.Named ZZ32

abbrev pub zz64 : Ty
zz64 = a_type.Named ZZ64

abbrev pub boolean : Ty
boolean = a_type.Named BOOLEAN

abbrev pub name : ℕ → NameId
name n = record { 0 = n }

abbrev pub set : ℕ → SetId
set n = record { 0 = n }

-- a call of a set none of whose two arguments is widened, and one whose second one is
abbrev pub plain : ℕ → Chosen
plain n = record { set = set n; widened = false ∷ false ∷ [] }

abbrev pub widening : ℕ → Chosen
widening n = record { set = set n; widened = false ∷ true ∷ [] }

abbrev pub literal : ℕ → TypedForm
literal n = a_typed.Number zz32 n

abbrev pub small : ℕ → Term
small n = term.Value (Small (pos n))

-- A term from these numbers on, and the next number of a variable and of a function behind it.
abbrev pub from : ℕ → ℕ → Counter
from n f = record { variable = n; function = f }

abbrev pub made : Term → ℕ → ℕ → Made
made t n f = record { term = t; counter = from n f }

-- a local variable of a number, and the rest
abbrev pub local : ℕ → Ty → Term → Term → Term
local n ty t rest = Let ((n, ty) ∷ []) t rest

-- `1 < 2 <= 3`
abbrev pub chain : TypedForm
chain = a_typed.Chain boolean (set 9) (plain 7 ∷ plain 8 ∷ [])
    (literal 1 ∷ literal 2 ∷ literal 3 ∷ [])

abbrev pub chain_term : Term
chain_term = local 0 zz32 (small 1) (local 1 zz32 (small 2) (local 2 zz32 (small 3)
    (Operator (set 9)
    (Operator (set 7) (Variable 0 ∷ Variable 1 ∷ [])
    ∷ Operator (set 8) (Variable 1 ∷ Variable 2 ∷ []) ∷ []))))

-- `do x: ZZ32 = 1; y: ZZ32 = x; y end`
abbrev pub block : TypedForm
block = a_typed.Block zz32
    (a_typed.Bind (a_type.Tuple []) (name 0) false zz32 (literal 1)
    ∷ a_typed.Bind (a_type.Tuple []) (name 1) false zz32 (a_typed.Local zz32 (name 0) false)
    ∷ a_typed.Local zz32 (name 1) false ∷ [])

abbrev pub block_term : Term
block_term = local 0 zz32 (small 1) (local 1 zz32 (Variable 0) (Variable 1))

-- `a[i] += 1`, where a is the variable 4 and i the mutable variable 5
abbrev pub update : TypedForm
update = a_typed.Update (a_type.Tuple [])
    (a_typed.ReadElement zz32 (a_typed.Local (a_type.Array zz32) (name 0) false)
    (a_typed.Local zz32 (name 1) true)) (plain 7) (literal 1)

abbrev pub with_two : Scope
with_two = record { names = (name 1, 5) ∷ (name 0, 4) ∷ []; receiver = 0 }

abbrev pub update_term : Term
update_term = local 6 (a_type.Array zz32) (Variable 4) (local 7 zz32 (Read (slot.Variable 5))
    (WriteElement (Variable 6) (Variable 7)
    (Operator (set 7) (ReadElement (Variable 6) (Variable 7) ∷ small 1 ∷ []))))

-- `case n of 5 => 1 end`, where n is the variable 4, a ZZ64
abbrev pub cases : TypedForm
cases = a_typed.Case zz32 (a_typed.Local zz64 (name 0) false) (widening 7 ∷ []) (literal 5 ∷ [])
    (literal 1 ∷ []) None

abbrev pub cases_term : Given → Term
cases_term g =
    local 6 zz64 (Variable 4)
    (If (Operator (set 7) (Variable 6 ∷ Call g.widen (small 5 ∷ []) ∷ [])) (small 1) (no_match g))

-- `fn (x: ZZ32) => x`
abbrev pub identity : Parameter → TypedForm
identity x =
    a_typed.Fn (a_type.Arrow zz32 zz32) (record x { name = name 0; ty = zz32 } ∷ [])
    (a_typed.Local zz32 (name 0) false)

abbrev pub identity_term : Term
identity_term =
    term.Value
    (Function
    (record {
      number = 3;
      parameters = (0, zz32) ∷ [];
      result = zz32;
      body = Variable 0;
      held = [];
    }))

-- These forms have these terms.
abbrev pub FormsAreWorked : Type 0
FormsAreWorked = (g : Given) (s : Scope) (x : Parameter) →
    (translated g chain s (from 0 0) ≡ made chain_term 3 0)
    × (translated g block s (from 0 0) ≡ made block_term 2 0)
    × (translated g update with_two (from 6 0) ≡ made update_term 8 0)
    × (translated g cases with_two (from 6 0) ≡ made (cases_term g) 7 0)
    × (translated g (identity x) s (from 0 3) ≡ made identity_term 1 4)
