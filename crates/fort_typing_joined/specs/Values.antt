-- The chapter "Typing", runs and juxtapositions: what an element has become, where it is that.
use Rattle.std.specs.Prelude.{List, Option, Some, None}
use Rattle.fort_base.specs.declared.ids.NameId.{NameId}
use Rattle.fort_form_typed.specs.declared.typed_form.TypedForm.{TypedForm}
use Rattle.fort_typing_rules.specs.declared.part.Part.{Part}
use Rattle.fort_typing_rules.specs.declared.part.Meaning.{Meaning}
use Rattle.fort_typing_rules.specs.declared.part.Meaning.TheVariants as a_meaning
use Rattle.fort_typing_rules.specs.Elements.{arguments}

-- the typed form that an element is
abbrev pub value_in : Meaning → Option TypedForm
value_in (a_meaning.Value t) = Some t
value_in _ = None

-- the name of a function set
abbrev pub name_in : Meaning → Option NameId
name_in (a_meaning.Functions name) = Some name
name_in _ = None

abbrev pub arguments_by : Part → Option TypedForm → Option (List TypedForm)
arguments_by p (Some t) = Some (arguments p t)
arguments_by p None = None

-- the arguments of a function set, where the element is a typed form
abbrev pub arguments_in : Part → Option (List TypedForm)
arguments_in p = arguments_by p (value_in p.meaning)
