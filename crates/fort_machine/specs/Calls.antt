-- Chapter "Calls": which declaration a call runs, and what it does then. The definition asks every
-- declaration of the set; the code looks values up in tables.
use Rattle.std.specs.Prelude.{◌≡◌, ◌≢◌, ℕ, ◌+◌, List, [], ◌∷◌, ◌++◌, map, slice_get, Contains, filter_map, IsTrue, Option, Some, None}
use Rattle.fort_base.specs.declared.ids.DeclId.{DeclId}
use Rattle.fort_base.specs.declared.ids.SetId.{SetId}
use Rattle.fort_base.specs.declared.ids.TypeId.{TypeId}
use Rattle.fort_base.specs.declared.ty.Ty.{Ty}
use Rattle.fort_core.specs.declared.program.CoreBody.{CoreBody}
use Rattle.fort_core.specs.declared.program.CoreBody.TheVariants as body
use Rattle.fort_core.specs.declared.program.CoreDecl.{CoreDecl}
use Rattle.fort_core.specs.declared.program.CoreField.{CoreField}
use Rattle.fort_core.specs.declared.program.CoreSet.{CoreSet}
use Rattle.fort_core.specs.declared.program.CoreShape.{CoreShape}
use Rattle.fort_core.specs.declared.program.Program.{Program}
use Rattle.fort_core.specs.declared.term.Term.{Term}
use Rattle.fort_core.specs.declared.term.Term as term
use Rattle.fort_core.specs.declared.value.Value.{Value, Text, Object}
use Rattle.std.specs.Prelude.{length}
use Rattle.fort_machine.specs.Types.{all_below, type_of}
use Rattle.fort_machine.specs.Primitives.{Answer, gives, makes_text, throws, prints, ends, nothing, answer_of}
use Rattle.fort_machine.specs.Substitution.{substituted_all}
use Rattle.fort_machine.specs.Acts.{Act, stuck, turns, enters, makes, becomes, unit, throwing}
use Rattle.fort_machine.specs.Acts as acts

-- A declaration of a set is applicable to types where it has as many parameters and each type is
-- below its parameter.
pub record IsApplicable (p : Program) (set : SetId) (types : List Ty) (d : DeclId)
    (decl : CoreDecl) : Type 0 where
  pub members : CoreSet
  pub is_set : slice_get p.sets set.0 ≡ Some members
  pub is_member : Contains members.decls d
  pub is_decl : slice_get p.decls d.0 ≡ Some decl
  pub applies : IsTrue (all_below p types decl.parameters)

-- One declaration is more specific than another where its parameters are below the other's.
abbrev pub IsMoreSpecific : Program → CoreDecl → CoreDecl → Type 0
IsMoreSpecific p decl other = IsTrue (all_below p decl.parameters other.parameters)

-- A declaration is most specific where it is applicable, and more specific than each other
-- applicable one.
pub record IsMostSpecific (p : Program) (set : SetId) (types : List Ty) (d : DeclId)
    (decl : CoreDecl) : Type 0 where
  pub applicable : IsApplicable p set types d decl
  pub over_others : (e : DeclId) (other : CoreDecl) → IsApplicable p set types e other → e ≢ d
      → IsMoreSpecific p decl other

-- A call of values runs the one most specific declaration.
pub record Dispatches (p : Program) (set : SetId) (values : List Value) (d : DeclId)
    (decl : CoreDecl) : Type 0 where
  pub most_specific : IsMostSpecific p set (map (type_of p) values) d decl
  pub no_other : (e : DeclId) (other : CoreDecl)
      → IsMostSpecific p set (map (type_of p) values) e other → e ≡ d

-- The values of parameters, by their numbers from one on.
abbrev pub by_number : ℕ → List Value → List (ℕ × Value)
by_number n [] = []
by_number n (v ∷ vs) = (n, v) ∷ by_number (n + 1) vs

-- The answer of a built-in declaration, with its cost: 1, and the bytes of a text that it makes or
-- prints.
abbrev pub by_answer : Program → Answer → Act
by_answer p (gives v) = becomes (term.Value v)
by_answer p (makes_text s) = turns (term.Value (Text s)) [] (1 + length s)
by_answer p (throws id) = throwing p id
by_answer p (prints s) = turns (term.Value unit) s (1 + length s)
by_answer p ends = acts.ends
by_answer p nothing = stuck

-- The constants of a type's body fields, in their order.
abbrev pub constants : CoreShape → List Value
constants s = filter_map (λ (f : CoreField). f.initial) s.fields

-- A new object has a location for each field: its parameters, with the values that are passed, then
-- the fields of its body, with their constants. That as many are passed as it has parameters is no
-- part of this definition; it is so in a program as it is written (`Constructs`).
abbrev pub constructing : TypeId → List Value → Option CoreShape → Act
constructing id vs (Some s) =
    makes (vs ++ constants s) (λ l. term.Value (Object id (record { 0 = l }))) 1
constructing id vs None = stuck

-- What a declaration does that values are passed to.
abbrev pub by_body : Program → CoreBody → List Value → Act
by_body p (body.Plain t) vs = enters t (substituted_all (by_number 0 vs) t)
by_body p (body.Primitive f) vs = by_answer p (answer_of p f vs)
by_body p body.Abstract vs = stuck
by_body p (body.New id) vs = constructing id vs (slice_get p.shapes id.0)
