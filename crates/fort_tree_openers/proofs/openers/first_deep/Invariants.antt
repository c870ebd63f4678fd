use Rattle.std.proofs.Common.{◌≡◌, ◌≤◌, take, false}
use Rattle.fort_tree.specs.Openers.{AllShallow, open_behind, ends_with_also}
use Rattle.fort_tree_openers.proofs.openers.first_deep.Given as goal

abbrev pub invariant-loop-token : goal.invariant-loop-token
invariant-loop-token l = record {
  shallow : AllShallow (take l.token-index l.tokens);
  depth : l.depth ≡ open_behind false 0 (take l.token-index l.tokens);
  also : l.behind_also ≡ ends_with_also (take l.token-index l.tokens);
  low : l.depth ≤ 101;
}
