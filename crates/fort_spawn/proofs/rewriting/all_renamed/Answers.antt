use Rattle.std.proofs.Common.{◌<◌, length, ap, subst, ◌∙◌}
use Rattle.fort_spawn.specs.Rewritten.{declared_as}
use Rattle.fort_spawn.proofs.Steps.{item_kept, one_changed}
use Rattle.fort_spawn.proofs.rewriting.all_renamed.Goals as goal

pub loop-declared-preserved : goal.loop-declared-preserved
loop-declared-preserved c =
    let renamed = declared_as c.args.run c.args.names.now in
    let i = c.loop-declared.declared-index in
    let within =
    subst (λ xs. i < length xs)
    (c.deref_mut-declared-items.ensures.value ∙ c.into_vec-items.ensures) c.loop-declared-test.true in
    one_changed renamed c.args.declarations c.loop-declared.declared-items i c.declared-item.result
    c.rename.new.declared within c.loop-declared.invariant
    (c.rename.ensures
    ∙ ap renamed (item_kept renamed c.args.declarations c.loop-declared.declared-items i c.declared-item.result
    within c.loop-declared.invariant))
