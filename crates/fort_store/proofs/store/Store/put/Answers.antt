use Rattle.std.proofs.lemmas.Result.{on_ok_weaker, on_err_weaker}
use Rattle.fort_store.specs.Held.{settled, written}
use Rattle.fort_store.proofs.Shares.{put_over, same_over}
use Rattle.fort_store.proofs.store.Store.put.Goals as goal

pub returns-clause-ok : goal.returns-clause-ok
returns-clause-ok c =
    on_ok_weaker c.put_recent.result (put_over (written c.args.self.now) _
    (settled c.args.self.now.trees.items) c.args.loc.0 c.args.value) c.put_recent.ensures.ok

pub returns-clause-err : goal.returns-clause-err
returns-clause-err c =
    on_err_weaker c.put_recent.result (same_over (written c.args.self.now) _
    (settled c.args.self.now.trees.items)) c.put_recent.ensures.err
