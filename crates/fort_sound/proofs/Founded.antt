-- The program of a component that keeps all the rules is what the laws of runs take of a program.
use Rattle.std.specs.Prelude.{None}
use Rattle.fort_hier.specs.Hierarchies.{declares}
use Rattle.fort_sound_defined.specs.Sets.{SetsKeepRules}
use Rattle.fort_typing_law_ready.specs.Fit.{known_of}
use Rattle.fort_form_walk.specs.FormsOf.{forms_of}
use Rattle.fort_elab_law_matched.specs.Component.{ComponentIsWritten}
use Rattle.fort_typing_law_ready.specs.Component.{FormsAreReady}
use Rattle.fort_elab_meaning.specs.Programs.{given}
use Rattle.fort_sound_typed.specs.Overloads.{RulesDefine}
use Rattle.fort_sound_bodies.specs.Members.{MembersHaveBodies}
use Rattle.fort_sound_program.specs.Laws.{ProgramHasBodies, ProgramIsSound, ProgramIsComplete, ProgramSetsKeep}
use Rattle.fort_sound_program.proofs.Order.{sound, rows}
use Rattle.fort_form_law_figures.specs.Components.{FormsHaveFigures}
use Rattle.fort_sound.specs.Accepted.{KeepersAreSound}
use Rattle.fort_sound.proofs.Fits.{checked, fit_bodies}
use Rattle.fort_sound.proofs.Suited.{suited}

pub founded : ComponentIsWritten → FormsAreReady → MembersHaveBodies → ProgramHasBodies
    → ProgramIsSound → ProgramIsComplete → ProgramSetsKeep → SetsKeepRules → RulesDefine
    → FormsHaveFigures → KeepersAreSound
founded written ready members bodies is_sound is_complete sets keep define have_figures tokens c h m
    groups typed p all =
    let k = known_of c h m in
    let forms = forms_of c groups in
    let figures = have_figures tokens c groups all.tree all.numbers all.grouped in
    let ok = checked tokens c h m groups typed p all figures.0 in
    let as_written =
    written tokens c h m groups k typed p ok.apart ok.tree ok.hierarchy ok.members ok.types
    ok.program in
    let are_ready = ready c h m groups ok.hierarchy ok.members ok.ruled all.grouped in
    let have =
    members tokens c m groups k typed (given m c.texts typed) p ok.apart ok.tree ok.members
    are_ready.accepted (fit_bodies k forms.bodies are_ready.bodies figures.1) ok.types
    (suited tokens c h m groups typed p ok None) in
    let so = is_sound tokens c h m groups typed p ok as_written
    (bodies h m c.texts typed p ok.program have) in
    let from = sets tokens c h m groups typed p ok in
    record {
      sound = so;
      defined =
          define p so
          (keep (declares c) p (sound c h ok.hierarchy p ok.program.types)
          (rows c h ok.hierarchy p ok.program.types) from.0 from.1);
      complete = is_complete tokens c h m groups typed p ok as_written;
    }
