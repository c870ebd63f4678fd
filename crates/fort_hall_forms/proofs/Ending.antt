-- How an attempt ends.
use Rattle.std.proofs.Common.{◌≡◌, Some, refl, ap, ◌∙◌}
use Rattle.fort_core.specs.declared.term.Term.{Term}
use Rattle.fort_core.specs.declared.term.Term as term
use Rattle.fort_core.specs.declared.value.Value.{Value}
use Rattle.fort_machine.specs.Attempts.{completed, failed, goes}
use Rattle.fort_machine.specs.Ends.{throw_of}
use Rattle.fort_store_effects.specs.declared.cell.Closing.TheVariants.{Completed, Failed}
use Rattle.fort_hall_forms.specs.Forms.{EndsAt}

-- at a value it is completed
pub completes : (t x : Term) → x ≡ t → ((v : Value) × (t ≡ term.Value v))
    → EndsAt t (Some (record { closing = Completed; term = x }))
completes t x e h p m body d = completed h.0 (ap goes h.1) (e ∙ h.1) refl

-- at a throw it has failed
pub fails : (t x : Term) → x ≡ t → ((v : Value) × (t ≡ throw_of v))
    → EndsAt t (Some (record { closing = Failed; term = x }))
fails t x e h p m body d = failed h.0 (ap goes h.1) (e ∙ h.1) refl
