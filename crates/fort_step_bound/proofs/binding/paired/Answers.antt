use Rattle.std.proofs.Common.{◌∙◌, length, ap, sym}
use Rattle.fort_step_bound.proofs.Pairs.{paired_apart}
use Rattle.fort_step_bound.proofs.binding.paired.Goals as goal

pub returns-then-left-right : goal.returns-then-left-right
returns-then-left-right c =
    paired_apart c.args.variables.now c.args.values.now
    (λ e. c.if-left-right.true (ap length c.as_slice-left.ensures ∙ e
    ∙ sym (ap length c.as_slice-right.ensures)))
