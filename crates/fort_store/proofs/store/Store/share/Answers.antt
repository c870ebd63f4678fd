use Rattle.fort_store.specs.Held.{held}
use Rattle.fort_store.proofs.Shares.{shared}
use Rattle.fort_store.proofs.store.Store.share.Goals as goal

pub returns-clause-same : goal.returns-clause-same
returns-clause-same c =
    shared c.settle.new.self (record { recent = c.new.result; trees = c.in_ok-share_row.field-0 })
    (held c.args.self.now) c.in_ok-settle.ensures.ok c.new.ensures.empty c.in_ok-share_row.ensures
    c.settle.ensures.held
