-- The forms of a component that keeps the rules before typing are ready for typing, and so its
-- typing is the one that is computed.
use Rattle.fort_tree.specs.Limits.{flats}
use Rattle.fort_form_walk.specs.FormsOf.{tables_of, forms_of}
use Rattle.fort_typing_law_ready.specs.Fit.{known_of, KeepersAreAccepted}
use Rattle.fort_form_law_shapes.specs.Fits.{FormsAreFit}
use Rattle.fort_typing_law_exact.specs.Exact.{TypingIsExact, OneOfTwo}
use Rattle.fort_typing_law_ready.specs.Component.{FormsAreReady, ComponentIsExact, ComponentIsOneOfTwo}
use Rattle.fort_typing_law_ready.proofs.Declarations.{all_held, all_ready}
use Rattle.fort_typing_law_ready.proofs.Groupings.{all_shaped}
use Rattle.fort_typing_law_ready.proofs.Names.{is_known, known_numbered, known_all, placed}

pub forms_ready : KeepersAreAccepted → FormsAreFit → FormsAreReady
forms_ready accepted fits c h m groups is belong ruled grouped = record {
  accepted = accepted c h m is belong ruled;
  initials =
      all_held fits (known_of c h m) (tables_of c groups) (is_known c) (known_numbered c)
      (all_shaped (flats c) groups.list grouped) c.declarations (known_all c h is);
  bodies = all_ready fits (known_of c h m) (tables_of c groups) (is_known c) (known_numbered c)
      (all_shaped (flats c) groups.list grouped) 0 c.declarations (placed c) (known_all c h is);
}

pub component_exact : FormsAreReady → TypingIsExact → ComponentIsExact
component_exact ready exact c h m groups is belong ruled grouped =
    exact (known_of c h m) (forms_of c groups) (ready c h m groups is belong ruled grouped)

pub component_one : FormsAreReady → OneOfTwo → ComponentIsOneOfTwo
component_one ready either c h m groups is belong ruled grouped =
    either.one (known_of c h m) (forms_of c groups) (ready c h m groups is belong ruled grouped)
