-- Chapter "Calls": each call in a term has one definition. The code finds it; that it is there is
-- what the check of a component is for.
use Rattle.std.specs.Prelude.{◌≡◌, ◌≢◌, List, [], ◌∷◌, map}
use Rattle.fort_base.specs.declared.ids.DeclId.{DeclId}
use Rattle.fort_base.specs.declared.ids.SetId.{SetId}
use Rattle.fort_core.specs.declared.program.CoreBody.TheVariants.{Abstract}
use Rattle.fort_core.specs.declared.program.CoreDecl.{CoreDecl}
use Rattle.fort_core.specs.declared.program.Program.{Program}
use Rattle.fort_core.specs.declared.term.Term.{Term, Call, Operator, ReduceHalves, out-Term}
use Rattle.fort_core.specs.declared.term.Term as term
use Rattle.fort_core.specs.declared.value.Value.{Value, out-Value}
use Rattle.fort_machine.specs.Parts.{IsOneOf, terms_in, values_in, values_of, bodies_of}
use Rattle.fort_machine.specs.Calls.{Dispatches}

-- A term stands in another one, or in a value, at any depth.
mutual
  pub data Within (u : Term) : Term → Type 0 where
    itself : {t : Term} → u ≡ t → Within u t
    in_term : {t a : Term} → IsOneOf a (terms_in (out-Term t)) → Within u a → Within u t
    in_value : {t : Term} {v : Value} → IsOneOf v (values_in (out-Term t)) → WithinValue u v
        → Within u t

  pub data WithinValue (u : Term) : Value → Type 0 where
    in_part : {v w : Value} → IsOneOf w (values_of (out-Value v)) → WithinValue u w
        → WithinValue u v
    in_body : {v : Value} {a : Term} → IsOneOf a (bodies_of (out-Value v)) → Within u a
        → WithinValue u v

-- A term is a call of a set whose arguments are values: a call, an operator's, or a reduction's of
-- both halves.
pub data IsCall (u : Term) (set : SetId) (values : List Value) : Type 0 where
  of_set : u ≡ Call set (map term.Value values) → IsCall u set values
  of_operator : u ≡ Operator set (map term.Value values) → IsCall u set values
  of_halves : (a b : Value) → values ≡ a ∷ b ∷ []
      → u ≡ ReduceHalves set (term.Value a) (term.Value b) → IsCall u set values

-- A call has one definition where one declaration is the one that it runs, and that one isn't
-- abstract.
pub record HasDefinition (p : Program) (set : SetId) (values : List Value) : Type 0 where
  pub number : DeclId
  pub decl : CoreDecl
  pub runs : Dispatches p set values number decl
  pub concrete : decl.body ≢ Abstract

-- Each call in a term whose arguments are values has one definition.
abbrev pub IsOne : Program → Term → Type 0
IsOne p t = (u : Term) (set : SetId) (values : List Value) → Within u t → IsCall u set values
    → HasDefinition p set values
