use Rattle.std.proofs.Common.{◌+◌, ◌*◌}
use Rattle.fort_store.proofs.tree.+put.Given as goal

abbrev pub decreases-Tree::put : goal.decreases-Tree::put
decreases-Tree::put l = 3 * l.number

abbrev pub decreases-put_in_shared : goal.decreases-put_in_shared
decreases-put_in_shared l = 3 * l.number + 1

abbrev pub decreases-put_in_branch : goal.decreases-put_in_branch
decreases-put_in_branch l = 3 * l.number + 2

abbrev pub decreases-put_in_row : goal.decreases-put_in_row
decreases-put_in_row l = 3 * l.number + 3
