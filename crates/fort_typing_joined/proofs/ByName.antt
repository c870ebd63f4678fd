-- A function set's name applied to arguments.
use Rattle.std.proofs.Common.{◌≡◌, List, length, Some, None, refl, ap, ◌∙◌}
use Rattle.fort_base.specs.declared.ids.NameId.{NameId}
use Rattle.fort_form_typed.specs.declared.typed_form.TypedForm.{TypedForm}
use Rattle.fort_typing_known.specs.Known.{Facts}
use Rattle.fort_typing_known.specs.Sets.{function_set}
use Rattle.fort_typing_rules.specs.Elements.{arguments}
use Rattle.fort_typing_rules.specs.declared.part.Part.{Part}
use Rattle.fort_typing_rules.specs.declared.part.Meaning.{Meaning}
use Rattle.fort_typing_rules.specs.declared.part.Meaning.TheVariants as a_meaning
use Rattle.fort_typing_meaning.specs.declared.frame.Made.{Made}
use Rattle.fort_typing_meaning.specs.declared.frame.Made.TheVariants as a_made
use Rattle.fort_typing_meaning.specs.Joining.{call, applied, applied_to}
use Rattle.fort_typing_joined.specs.Values.{arguments_by, arguments_in, name_in, value_in}
use Rattle.fort_typing_joined.proofs.Meanings.{is_name}

abbrev called_with : Facts → Part → NameId → List TypedForm → Made
called_with k f name ts = call k (function_set k name (length ts)) ts f.place

called_by : (k : Facts) (f a : Part) (name : NameId) (m : Meaning) (ts : List TypedForm)
    → arguments_by a (value_in m) ≡ Some ts
    → applied_to k f a (a_meaning.Functions name) m ≡ called_with k f name ts
called_by k f a name (a_meaning.Value u) ts e =
    let h : arguments a u ≡ ts = cc in ap (called_with k f name) h
called_by k f a name a_meaning.Unknown ts e = absurd cc
called_by k f a name (a_meaning.Functions x) ts e = absurd cc
called_by k f a name (a_meaning.Index v) ts e = absurd cc
called_by k f a name (a_meaning.Exponent v) ts e = absurd cc
called_by k f a name (a_meaning.Field b x) ts e = absurd cc
called_by k f a name (a_meaning.Method b x us) ts e = absurd cc

pub name_called : (k : Facts) (f a : Part) (name : NameId) (ts : List TypedForm)
    → name_in f.meaning ≡ Some name → arguments_in a ≡ Some ts
    → applied k f a ≡ call k (function_set k name (length ts)) ts f.place
unfolding applied
name_called k f a name ts e g =
    ap (λ (m : Meaning). applied_to k f a m a.meaning) (is_name f.meaning name e)
    ∙ called_by k f a name a.meaning ts g

uncalled_by : (k : Facts) (f a : Part) (name : NameId) (m : Meaning)
    → arguments_by a (value_in m) ≡ None
    → applied_to k f a (a_meaning.Functions name) m ≡ a_made.Stops
uncalled_by k f a name (a_meaning.Value u) e = absurd cc
uncalled_by k f a name a_meaning.Unknown e = refl
uncalled_by k f a name (a_meaning.Functions x) e = refl
uncalled_by k f a name (a_meaning.Index v) e = refl
uncalled_by k f a name (a_meaning.Exponent v) e = refl
uncalled_by k f a name (a_meaning.Field b x) e = refl
uncalled_by k f a name (a_meaning.Method b x us) e = refl

pub name_uncalled : (k : Facts) (f a : Part) (name : NameId) → name_in f.meaning ≡ Some name
    → arguments_in a ≡ None → applied k f a ≡ a_made.Stops
unfolding applied
name_uncalled k f a name e g =
    ap (λ (m : Meaning). applied_to k f a m a.meaning) (is_name f.meaning name e)
    ∙ uncalled_by k f a name a.meaning g
