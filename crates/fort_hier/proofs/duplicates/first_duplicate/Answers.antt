use Rattle.std.proofs.lemmas.Option.{slice_get-get_or}
use Rattle.fort_hier.proofs.NamesWalk.{walk_none, walk_same, walk_more, walk_all}
use Rattle.fort_hier.proofs.duplicates.first_duplicate.Goals as goal

pub loop-top-init : goal.loop-top-init
loop-top-init c = walk_none _ _ _ c.in_ok-seen.ensures

pub loop-top-preserved-then-not-branch : goal.loop-top-preserved-then-not-branch
loop-top-preserved-then-not-branch c =
    walk_same _ _ _ _ _ _ _ _ _
    (slice_get-get_or c.args.tops.now c.loop-top.top-index _ c.loop-top-test.true) c.spelled.ensures
    c.if-not-branch.true c.in_ok-add.ensures.clash c.in_ok-add.ensures.held c.loop-top.invariant

pub loop-top-preserved : goal.loop-top-preserved
loop-top-preserved c =
    walk_more _ _ _ _ _ _ _ _ _ _
    (slice_get-get_or c.args.tops.now c.loop-top.top-index _ c.loop-top-test.true) c.spelled.ensures
    c.if-not-branch.false c.in_ok-add.ensures.clash c.in_ok-add.ensures.held c.earlier-best.ensures
    c.loop-top.invariant

pub returns : goal.returns
returns c = walk_all _ _ _ _ _ c.loop-top-test.false c.loop-top.invariant
