use Rattle.fort_link_rules.proofs.Gathering.{on_ok}
use Rattle.fort_link_rules.proofs.Used.{stranger_where}
use Rattle.fort_link_rules.proofs.imported.add_stranger.Goals as goal

pub returns : goal.returns
returns c =
    on_ok c.add_where.result (stranger_where c.args.known.now c.args.declared.now c.args.name
    c.is_stranger-stranger.result c.args.places.now c.add_where.new.places
    c.is_stranger-stranger.ensures) c.add_where.ensures
