use Rattle.std.proofs.Common.{◌≤◌, ◌∙◌, sym, subst, refl, arith}
use Rattle.fort_tree_openers.specs.Turns.{meaning_of}
use Rattle.fort_tree_openers.proofs.Deep.{also_more, deep_here, depth_more, none_shallow, shallow_here, turned-low}
use Rattle.fort_tree_openers.proofs.openers.first_deep.Goals as goal

pub loop-token-init : goal.loop-token-init
loop-token-init c = record {
  shallow = none_shallow;
  depth = refl;
  also = refl;
  low = omega arith;
}

pub returns-then-round-gt-MOST_OPENERS : goal.returns-then-round-gt-MOST_OPENERS
returns-then-round-gt-MOST_OPENERS c =
    let l = c.loop-token in
    deep_here c.args.tokens.now l.token-index _ l.depth l.behind_also
    (meaning_of c.turn_of-change.result) c.round.result c.loop-token-test.true
    l.invariant.shallow
    l.invariant.depth l.invariant.also c.turn_of-change.ensures c.round.ensures
    c.if-round-gt-MOST_OPENERS.true

pub loop-token-preserved : goal.loop-token-preserved
loop-token-preserved c =
    let l = c.loop-token in
    record {
      shallow =
          shallow_here c.args.tokens.now l.token-index _ l.depth l.behind_also
          (meaning_of c.turn_of-change.result) c.round.result c.loop-token-test.true
          l.invariant.shallow
          l.invariant.depth l.invariant.also c.turn_of-change.ensures c.round.ensures
          c.if-round-gt-MOST_OPENERS.false;
      depth = depth_more c.args.tokens.now l.token-index _ l.depth l.behind_also
          (meaning_of c.turn_of-change.result) c.behind-depth.result c.loop-token-test.true
          l.invariant.depth l.invariant.also c.turn_of-change.ensures c.behind-depth.ensures;
      also = c.is_also-behind_also.ensures
          ∙ sym (also_more c.args.tokens.now l.token-index _ c.loop-token-test.true);
      low = subst (λ n. n
          ≤ 101) (sym c.behind-depth.ensures)
          (turned-low (meaning_of c.turn_of-change.result) l.depth
          (subst (λ n. n ≤ 100) c.round.ensures c.if-round-gt-MOST_OPENERS.false));
    }
