-- What comes of two elements takes their place, by what it is.
use Rattle.std.proofs.Common.{◌≡◌, List, Option, Some, None, refl, ap}
use Rattle.fort_base.specs.declared.refusal.Place.{Place}
use Rattle.fort_form_typed.specs.declared.typed_form.TypedForm.{TypedForm}
use Rattle.fort_typing_known.specs.declared.fault.Fault.{Fault}
use Rattle.fort_typing_rules.specs.declared.part.Part.{Part}
use Rattle.fort_typing_meaning.specs.declared.frame.Made.{Made}
use Rattle.fort_typing_meaning.specs.declared.frame.Made.TheVariants as a_made
use Rattle.fort_typing_meaning.specs.Joining.{replaced}
use Rattle.fort_typing_joined.specs.Steps.{typed_of, fault_of, replaced_else}

pub typed_placed : (before : List Part) (place : Place) (after : List Part) (new : Made)
    (t : TypedForm) (found : Option Fault) → typed_of new ≡ Some t
    → replaced before place after new found ≡ replaced before place after (a_made.Gives t) found
typed_placed before place after (a_made.Gives u) t found e =
    let h : u ≡ t = cc
    in ap (λ (v : TypedForm). replaced before place after (a_made.Gives v) found) h
typed_placed before place after (a_made.Breaks x) t found e = absurd cc
typed_placed before place after a_made.Stops t found e = absurd cc

pub else_placed : (before : List Part) (place : Place) (after : List Part) (new : Made)
    (found : Option Fault) → typed_of new ≡ None
    → replaced before place after new found ≡ replaced_else before place after (fault_of new) found
else_placed before place after (a_made.Gives u) found e = absurd cc
else_placed before place after (a_made.Breaks x) found e = refl
else_placed before place after a_made.Stops found e = refl
