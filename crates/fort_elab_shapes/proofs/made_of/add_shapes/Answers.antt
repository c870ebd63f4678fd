use Rattle.std.proofs.Common.{arith}
use Rattle.fort_elab_shapes.proofs.Adding.{no_more_fields}
use Rattle.fort_elab_shapes.proofs.made_of.add_shapes.Goals as goal

pub returns-then-fields-at : goal.returns-then-fields-at
returns-then-fields-at c =
    no_more_fields c.args.texts.now c.args.initials.now c.args.sets.now c.loop-at.at c.loop-at.next
    c.loop-at.at c.args.objects.now c.args.fields.now c.loop-at.list (omega arith)
    c.loop-at.invariant
