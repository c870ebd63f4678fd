use Rattle.std.proofs.Common.{Option, ap, refl, ◌∙◌}
use Rattle.fort_tree.specs.declared.expr.Operand.{out-Operand}
use Rattle.fort_tree.specs.declared.expr.Prefix.{Prefix}
use Rattle.fort_form_meaning.specs.Formed.{formed_run}
use Rattle.fort_form_meaning.specs.Forming.{prefixed}
use Rattle.fort_form_meaning.proofs.FormsFlats.{operand_forms}
use Rattle.fort_form_build.proofs.Giving.{named_as, one}
use Rattle.fort_form_build.proofs.flats.unit.Goals as goal

pub returns-in_ok-take-in-None : goal.returns-in_ok-take-in-None
returns-in_ok-take-in-None c =
    λ k. named_as (one _ c.in_ok-take-in-None.ensures) refl (operand_forms k _ ∙ ap (λ
    (p : Option Prefix). prefixed p (formed_run k (out-Operand c.args.operand.now).run))
    c.in-None.is)

pub returns-in_ok-signed-in-Some : goal.returns-in_ok-signed-in-Some
returns-in_ok-signed-in-Some c =
    λ k. named_as
    (c.in_ok-signed-in-Some.ensures (formed_run k (out-Operand c.args.operand.now).run)) refl
    (operand_forms k _ ∙ ap (λ
    (p : Option Prefix). prefixed p (formed_run k (out-Operand c.args.operand.now).run))
    c.in-Some.is)
