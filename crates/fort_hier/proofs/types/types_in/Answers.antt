use Rattle.std.proofs.Common.{refl}
use Rattle.std.proofs.lemmas.Option.{slice_get_read}
use Rattle.fort_types_builtin.specs.Types.{built_in_declared}
use Rattle.fort_hier.specs.Numbers.{declared_by}
use Rattle.fort_hier.proofs.NumberLaws.{mapped_step}
use Rattle.fort_hier.proofs.types.types_in.Goals as goal

pub loop-i-preserved : goal.loop-i-preserved
loop-i-preserved c =
    λ list h e. mapped_step (declared_by list c.args.names.now) built_in_declared _ _
    c.args.heads.now c.loop-i.i c.index-heads-i.result _
    (slice_get_read _ _ _ _ refl c.loop-i-test.true c.index-heads-i.is)
    (c.in_ok-declared.ensures list h e) c.in_ok-push.ensures.ok (c.loop-i.invariant list h e)
