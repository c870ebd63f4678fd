use Rattle.std.proofs.Common.{decimal}
use Rattle.fort_bench.proofs.Pieces.{written}
use Rattle.fort_bench.proofs.text.bank.Goals as goal

pub returns : goal.returns
returns c =
    written _ _ _ _ _ _ _ (decimal c.args.accounts) (decimal c.args.transfers) _ _ _ _ _ _ _ _
    c.new-text.ensures
    c.in_ok-push_with.ensures c.in_ok-push_with-2.ensures c.in_ok-push_with-3.ensures
    c.in_ok-push_with-4.ensures c.in_ok-push_with-5.ensures c.in_ok-push_with-6.ensures
    c.in_ok-push.ensures
