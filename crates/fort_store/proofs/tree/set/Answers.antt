use Rattle.std.proofs.Common.{◌<◌, length, arith}
use Rattle.fort_store.proofs.Rows.{set_value}
use Rattle.fort_store.proofs.tree.set.Goals as goal

pub returns-clause-ok : goal.returns-clause-ok
returns-clause-ok c =
    let within : c.args.at < length c.reach.new.row.items =
    omega (arith, c.in_ok-reach.ensures.within, c.reach.new.row.ok.0) in
    set_value c.args.row.now.items c.reach.new.row.items c.args.at c.args.value
    c.in_ok-reach.ensures.same within
