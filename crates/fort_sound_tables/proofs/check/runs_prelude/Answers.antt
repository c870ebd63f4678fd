use Rattle.std.proofs.Common.{rules}
use Rattle.fort_sound_tables.proofs.CallsRun.{runs_as}
use Rattle.fort_sound_tables.proofs.check.runs_prelude.Goals as goal

pub returns : goal.returns
returns c ok = record {
  serve = runs_as _ _ _ _ _ _ (search rules) (search rules)
      (c.runs_text.ensures c.if-not-runs_text.false);
  take = runs_as _ _ _ _ _ _ (search rules) (search rules)
      (c.runs_text-2.ensures c.if-not-runs_text-2.false);
  go = runs_as _ _ _ _ _ _ (search rules) (search rules)
      (c.runs_text-3.ensures c.if-not-runs_text-3.false);
  wait = runs_as _ _ _ _ _ _ (search rules) (search rules) (c.runs_text-4.ensures ok);
}
