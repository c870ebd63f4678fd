use Rattle.fort_link_rules.specs.Marks.{IsStranger}
use Rattle.fort_link_rules.proofs.Gathering.{gathers_none, gathers_more_at, gathers_all}
use Rattle.fort_link_rules.proofs.imported.add_strangers.Goals as goal

pub loop-name-init : goal.loop-name-init
loop-name-init c = gathers_none (IsStranger c.args.known.now c.args.declared.now) c.args.names.now _

pub loop-name-preserved : goal.loop-name-preserved
loop-name-preserved c =
    gathers_more_at (IsStranger c.args.known.now c.args.declared.now) c.args.names.now
    c.loop-name.name-index _ _ c.loop-name.places c.add_stranger.new.places c.loop-name-test.true
    c.loop-name.invariant c.in_ok-add_stranger.ensures

pub returns : goal.returns
returns c =
    gathers_all (IsStranger c.args.known.now c.args.declared.now) c.args.names.now
    c.loop-name.name-index _ _ c.loop-name-test.false c.loop-name.invariant
