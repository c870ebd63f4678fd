use Rattle.std.proofs.Common.{◌<◌, length, refl, arith}
use Rattle.std.proofs.lemmas.Result.{on_ok_weaker, on_err_weaker}
use Rattle.fort_store.specs.declared.tree.Tree.{out-Tree}
use Rattle.fort_store.proofs.Rows.{on_any_err}
use Rattle.fort_store.proofs.Trees.{puts_own, puts_below, same_tree, put_row, same_row, longer_row}
use Rattle.fort_store.proofs.tree.+put.Goals as goal

pub Tree::put-returns-then-number-lt-WAYS-clause-ok :
    goal.Tree::put-returns-then-number-lt-WAYS-clause-ok
Tree::put-returns-then-number-lt-WAYS-clause-ok t c =
    on_ok_weaker c.set.result (puts_own c.args.self.now
    (record { own = c.set.new.row; below = (out-Tree c.args.self.now).below }) c.args.number
    c.args.value c.if-number-lt-WAYS.true refl) c.set.ensures.ok

pub Tree::put-returns-then-number-lt-WAYS-clause-err :
    goal.Tree::put-returns-then-number-lt-WAYS-clause-err
Tree::put-returns-then-number-lt-WAYS-clause-err t c =
    on_err_weaker c.set.result (λ q. same_tree c.args.self.now
    (record { own = c.set.new.row; below = (out-Tree c.args.self.now).below }) q refl)
    c.set.ensures.err

pub Tree::put-returns-clause-ok : goal.Tree::put-returns-clause-ok
Tree::put-returns-clause-ok t c =
    on_ok_weaker c.put_in_row.result (puts_below c.args.self.now
    (record { own = (out-Tree c.args.self.now).own; below = c.put_in_row.new.row }) c.args.number
    c.args.value c.way.result c.rest.result c.if-number-lt-WAYS.false c.way.ensures c.rest.ensures
    refl) c.put_in_row.ensures.ok

pub Tree::put-returns-clause-err : goal.Tree::put-returns-clause-err
Tree::put-returns-clause-err t c =
    on_err_weaker c.put_in_row.result (same_tree c.args.self.now
    (record { own = (out-Tree c.args.self.now).own; below = c.put_in_row.new.row }) refl)
    c.put_in_row.ensures.err

pub put_in_row-returns-in_err-reach-clause-err : goal.put_in_row-returns-in_err-reach-clause-err
put_in_row-returns-in_err-reach-clause-err t c =
    on_any_err c.from_residual.result
    (longer_row c.args.row.now.items c.reach.new.row.items c.in_err-reach.ensures.same)

pub put_in_row-returns-clause-ok : goal.put_in_row-returns-clause-ok
put_in_row-returns-clause-ok t c =
    let within : c.args.way < length c.reach.new.row.items =
    omega (arith, c.in_ok-reach.ensures.within, c.reach.new.row.ok.0) in
    on_ok_weaker c.put_in_branch.result (put_row c.args.row.now.items c.reach.new.row.items
    c.args.way c.put_in_branch.new.tree c.index_mut.result.now c.in_ok-reach.ensures.same within
    c.index_mut.ensures.value c.args.number c.args.value) c.put_in_branch.ensures.ok

pub put_in_row-returns-clause-err : goal.put_in_row-returns-clause-err
put_in_row-returns-clause-err t c =
    let within : c.args.way < length c.reach.new.row.items =
    omega (arith, c.in_ok-reach.ensures.within, c.reach.new.row.ok.0) in
    on_err_weaker c.put_in_branch.result (same_row c.args.row.now.items c.reach.new.row.items
    c.args.way c.put_in_branch.new.tree c.index_mut.result.now c.in_ok-reach.ensures.same within
    c.index_mut.ensures.value) c.put_in_branch.ensures.err
