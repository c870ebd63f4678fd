-- The chapter "Typing": typed forms and elements whose types are those of the component.
use Rattle.std.specs.Prelude.{List}
use Rattle.std.specs.List.{AllByRecursion}
use Rattle.fort_form_typed.specs.declared.typed_form.TypedForm.{TypedForm, out-TypedForm}
use Rattle.fort_typing_known.specs.Known.{Knows}
use Rattle.fort_typing_rules.specs.declared.part.Part.{Part}
use Rattle.fort_typing_rules.specs.declared.part.Meaning.{Meaning}
use Rattle.fort_typing_rules.specs.declared.part.Meaning.TheVariants as a_meaning
use Rattle.fort_typing_rules.specs.Types.{type_of, types_of}
use Rattle.fort_typing_rules.specs.Elements.{parts_at}
use Rattle.fort_typing_law_rules.specs.Deciding.{IsType, AreTypes}

-- A typed form has a type of the component, and so have its parts where it is a tuple.
abbrev pub IsTyped : Knows → TypedForm → Type 0
IsTyped k t = IsType k (type_of t) × AreTypes k (types_of (parts_at t (out-TypedForm t)))

-- What an element is has such types.
abbrev pub MeansTyped : Knows → Meaning → Type 0
MeansTyped k (a_meaning.Value t) = IsTyped k t
MeansTyped k (a_meaning.Index t) = IsTyped k t
MeansTyped k (a_meaning.Exponent t) = IsTyped k t
MeansTyped k (a_meaning.Method at name ts) = AllByRecursion (IsTyped k) ts
MeansTyped k _ = Unit {0}

-- Elements have.
abbrev pub AreTyped : Knows → List Part → Type 0
AreTyped k ps = AllByRecursion (λ (p : Part). MeansTyped k p.meaning) ps
