-- What an operator of two values does.
use Rattle.std.proofs.Common.{◌≡◌, [], ◌∷◌, ap, ◌∙◌}
use Rattle.fort_base.specs.declared.ids.SetId.{SetId}
use Rattle.fort_core.specs.declared.program.Program.{Program}
use Rattle.fort_core.specs.declared.term.Term.{Operator}
use Rattle.fort_core.specs.declared.term.Term as term
use Rattle.fort_core.specs.declared.term.Term.TheVariants.{outs-Operator}
use Rattle.fort_core.specs.declared.value.Value.{Value}
use Rattle.fort_machine.specs.Acts.{calls}
use Rattle.fort_machine.specs.Forms.{act_at, act}
use Rattle.fort_threads_law_servers.proofs.Server.{after_value}

pub operator_two : (p : Program) (set : SetId) (v w : Value)
    → act p (Operator set (term.Value v ∷ term.Value w ∷ [])) ≡ calls set (v ∷ w ∷ [])
operator_two p set v w =
    ap (act_at p) (outs-Operator set (term.Value v ∷ term.Value w ∷ []))
    ∙ after_value v _ ∙ after_value w _
