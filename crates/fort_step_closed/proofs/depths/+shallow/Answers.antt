use Rattle.std.proofs.Common.{◌+◌, map, ap, sym, ◌∙◌}
use Rattle.std.specs.Prelude.{nat_le}
use Rattle.fort_core.specs.declared.value.Closure.{Closure}
use Rattle.fort_machine.specs.Texts.{depth, greatest}
use Rattle.fort_step_closed.specs.Closed.{depth_of_held}
use Rattle.fort_step_closed.proofs.Shallow.{depth_function}
use Rattle.fort_step_closed.proofs.depths.+shallow.Goals as goal

pub is_shallow-returns-in-Function : goal.is_shallow-returns-in-Function
is_shallow-returns-in-Function t c =
    c.holds_shallow.ensures
    ∙ ap (λ n. nat_le n c.args.most)
    (ap (λ (f : Closure). 1 + greatest (map depth_of_held f.held)) c.get-in-Function.ensures
    ∙ sym (depth_function c.in-Function.closure) ∙ ap depth (sym c.in-Function.is))
