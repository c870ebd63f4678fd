use Rattle.std.proofs.lemmas.Result.{on_ok_weaker, on_err_weaker}
use Rattle.fort_store.proofs.Shares.{put_settled, same_settled}
use Rattle.fort_store.proofs.store.put_settled.Goals as goal

pub returns-clause-ok : goal.returns-clause-ok
returns-clause-ok c =
    on_ok_weaker c.put_in_row.result (put_settled c.args.trees.now.items
    c.put_in_row.new.row.items c.args.loc c.args.value) c.put_in_row.ensures.ok

pub returns-clause-err : goal.returns-clause-err
returns-clause-err c =
    on_err_weaker c.put_in_row.result (same_settled c.args.trees.now.items
    c.put_in_row.new.row.items) c.put_in_row.ensures.err
