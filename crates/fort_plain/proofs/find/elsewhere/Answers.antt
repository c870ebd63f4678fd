use Rattle.std.proofs.Common.{refl, arith}
use Rattle.fort_machine.proofs.Places.{ready_open}
use Rattle.fort_plain.proofs.find.elsewhere.Goals as goal

pub aside-requires-clause-inside : goal.aside-requires-clause-inside
aside-requires-clause-inside c = record {
  is_term = refl;
  reached = c.requires.reached;
  is_open = ready_open c.args.form c.requires.ready;
  deeper = omega arith;
  same_first = c.in_common-keep.ensures.same;
}
