use Rattle.std.proofs.Common.{rules}
use Rattle.fort_sound_tables.proofs.CallsRun.{primitive_as}
use Rattle.fort_sound_tables.proofs.check.runs_numbers.Goals as goal

pub returns : goal.returns
returns c ok = record {
  hash = primitive_as _ _ _ _ _ (search rules)
      (c.runs_primitive.ensures c.if-not-runs_primitive.false);
  equal = primitive_as _ _ _ _ _ (search rules)
      (c.runs_primitive-2.ensures c.if-not-runs_primitive-2.false);
  differs = c.runs_differs.ensures c.if-not-runs_differs.false;
  plus = primitive_as _ _ _ _ _ (search rules)
      (c.runs_primitive-3.ensures c.if-not-runs_primitive-3.false);
  minus = primitive_as _ _ _ _ _ (search rules)
      (c.runs_primitive-4.ensures c.if-not-runs_primitive-4.false);
  greater = primitive_as _ _ _ _ _ (search rules)
      (c.runs_primitive-5.ensures c.if-not-runs_primitive-5.false);
  abort = primitive_as _ _ _ _ _ (search rules) (c.runs_primitive-6.ensures ok);
}
