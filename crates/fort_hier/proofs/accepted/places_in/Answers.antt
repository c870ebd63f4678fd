use Rattle.std.proofs.Common.{[], refl, sym, ap}
use Rattle.std.proofs.lemmas.Option.{slice_get_read}
use Rattle.fort_hier.specs.Heads.{head_place}
use Rattle.fort_hier.proofs.NumberLaws.{mapped_step, mapped_all}
use Rattle.fort_hier.proofs.accepted.places_in.Goals as goal

pub loop-i-preserved : goal.loop-i-preserved
loop-i-preserved c =
    mapped_step head_place [] _ _ c.args.heads.now c.loop-i.i c.index-heads-i.result _
    (slice_get_read _ _ _ _ refl c.loop-i-test.true c.index-heads-i.is)
    (ap head_place (sym c.index-heads-i.is)) c.in_ok-push.ensures.ok c.loop-i.invariant

pub returns : goal.returns
returns c =
    mapped_all head_place [] _ c.args.heads.now c.loop-i.i c.loop-i-test.false c.loop-i.invariant
