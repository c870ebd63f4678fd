-- The ending of each journal of an accepted program has a text.
use Rattle.std.proofs.Common.{ℕ, List}
use Rattle.fort_core.specs.declared.journal.Ending.{Ending}
use Rattle.fort_core.specs.declared.journal.Ending.TheVariants.{NotRun, Completed, Uncaught, OutOfFuel}
use Rattle.fort_core.specs.declared.pick.Pick.{Pick}
use Rattle.fort_core.specs.declared.program.Program.{Program}
use Rattle.fort_core.specs.declared.term.Term.{Term}
use Rattle.fort_machine.specs.Effects.{Effect, afterwards}
use Rattle.fort_machine.specs.Journals.{opening_store, Ends, IsRun}
use Rattle.fort_audit_record.specs.Text.{HasText}
use Rattle.fort_sound_typed.specs.Goes.{ThrownIsObject}
use Rattle.fort_sound_typed.specs.Sound.{RunIsTyped}
use Rattle.fort_sound_typed.specs.Typing.{unit_type}
use Rattle.fort_sound.specs.Accepted.{IsFounded, AcceptedIsSound}
use Rattle.fort_sound_never.specs.Never.{AcceptedHasText}

module _ (typed : RunIsTyped) (thrown : ThrownIsObject) (p : Program) (founded : IsFounded p) where
  ending_has_text : (fuel : ℕ) (picks : List Pick) (t : Term) (d : Effect) → IsRun p picks t d
      → (e : Ending) → Ends p fuel t d e → HasText e
  ending_has_text fuel picks t d run NotRun ends = ends
  ending_has_text fuel picks t d run Completed ends = tt
  ending_has_text fuel picks t d run (Uncaught v) ends =
      thrown p founded.sound founded.complete (afterwards d (opening_store p)) t unit_type
      (typed p founded.sound picks t d run) v ends
  ending_has_text fuel picks t d run (OutOfFuel pick) ends = tt

pub has_text : AcceptedIsSound → RunIsTyped → ThrownIsObject → AcceptedHasText
has_text sound typed thrown bytes tokens p file is j (t, (d, r)) =
    ending_has_text typed thrown p (sound bytes tokens p file is) j.fuel j.picks t d r.is_run
    j.ending r.ends
