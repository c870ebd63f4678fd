use Rattle.std.proofs.Common.{rules}
use Rattle.fort_sound_tables.proofs.CallsRun.{sole_as}
use Rattle.fort_sound_tables.proofs.check.own_body.Goals as goal

pub returns-then-is_no_throw : goal.returns-then-is_no_throw
returns-then-is_no_throw c = record {
  sole = sole_as _ _ _ _ _ _ _ (search rules) (search rules)
      (c.is_sole.ensures c.if-not-is_sole.false);
  leaves = c.leaves.ensures c.if-not-leaves.false;
  is_open = c.is_no_throw.ensures c.if-is_no_throw.true;
}
