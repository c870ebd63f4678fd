use Rattle.fort_sound_tables.proofs.check.starts_texts.Goals as goal

pub returns : goal.returns
returns c ok = record {
  main = c.in_ok-main_is_sole.ensures c.if-not-branch.false;
  run = c.in_ok-run_is_sole.ensures c.if-not-branch-2.false;
  make = c.makes_threads.ensures ok;
}
