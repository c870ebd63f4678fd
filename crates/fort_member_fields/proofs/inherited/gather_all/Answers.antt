use Rattle.std.proofs.Common.{sym, subst, arith}
use Rattle.fort_member_fields.specs.Gathering.{HasTo}
use Rattle.fort_member_fields.proofs.InheritLaws.{begins, all_known}
use Rattle.fort_member_fields.proofs.inherited.gather_all.Goals as goal

pub loop-height-init : goal.loop-height-init
loop-height-init c =
    subst (λ z. HasTo c.args.types.now c.args.own.now c.args.heights.now 0 0 z) (sym c.requires.all)
    (begins c.args.types.now c.args.own.now c.args.heights.now c.requires.own)

pub returns : goal.returns
returns c =
    all_known c.args.types.now c.args.own.now c.args.heights.now c.loop-height.height _
    c.requires.heights (let l = c.loop-height-test.false in omega arith) c.loop-height.invariant
