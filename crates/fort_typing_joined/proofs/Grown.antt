-- What comes of a grouping of two, by what came of them.
use Rattle.std.proofs.Common.{◌≡◌, Option, refl}
use Rattle.fort_base.specs.declared.refusal.Place.{Place}
use Rattle.fort_typing_known.specs.declared.fault.Fault.{Fault}
use Rattle.fort_typing_rules.specs.Elements.{made}
use Rattle.fort_typing_meaning.specs.declared.frame.Made.{Made}
use Rattle.fort_typing_meaning.specs.declared.frame.Made.TheVariants as a_made
use Rattle.fort_typing_meaning.specs.Joining.{grown}
use Rattle.fort_typing_joined.specs.Taking.{found_else, meaning_else}

pub grown_as : (place : Place) (new : Made) (found : Option Fault)
    → grown place new found
    ≡ record { part = made place (meaning_else new); found = found_else new found }
grown_as place (a_made.Gives t) found = refl
grown_as place (a_made.Breaks x) found = refl
grown_as place a_made.Stops found = refl
