use Rattle.std.proofs.Common.{ap, ◌∙◌, ◌+◌}
use Rattle.fort_store_effects.specs.Levels.{text_after}
use Rattle.fort_store_effects.proofs.Closed.{merges}
use Rattle.fort_store_effects.proofs.close.merged.Goals as goal

pub returns : goal.returns
returns c =
    merges c.args.closing c.args.parent c.in_ok-whole.field-0 c.args.layer c.in_ok-printed.field-0
    (c.in_ok-whole.field-0.cost + 1 + c.args.layer.cost) c.in_ok-whole.ensures
    (c.in_ok-printed.ensures
    ∙ ap (λ o. text_after c.args.closing o c.args.layer.output)
    c.in_ok-whole.ensures.same_output)
    (ap (λ n. n + 1 + c.args.layer.cost) c.in_ok-whole.ensures.same_cost)
