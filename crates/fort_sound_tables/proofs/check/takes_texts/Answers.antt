use Rattle.std.proofs.Common.{rules}
use Rattle.fort_threads_law_tables.specs.Tabled.{one_thread}
use Rattle.fort_threads_law_tables.specs.Texts.{val_text}
use Rattle.fort_sound_tables.specs.Lookups.{TakesText}
use Rattle.fort_sound_tables.specs.Numbers.{names}
use Rattle.fort_sound_tables.proofs.CallsRun.{takes_as, runs_at}
use Rattle.fort_sound_tables.proofs.check.takes_texts.Goals as goal

pub returns : goal.returns
returns c ok =
    let v : TakesText c.args.program.now c.args.x.now.declarations.val
    (one_thread (names c.args.x.now)) (val_text (names c.args.x.now)) =
    takes_as _ _ _ _ _ _ (search rules) (search rules)
    (c.takes_text-3.ensures c.if-not-takes_text-3.false) in
    record {
      spawn = takes_as _ _ _ _ _ _ (search rules) (search rules)
          (c.takes_text.ensures c.if-not-takes_text.false);
      wait = takes_as _ _ _ _ _ _ (search rules) (search rules)
          (c.takes_text-2.ensures c.if-not-takes_text-2.false);
      val = v;
      ready = takes_as _ _ _ _ _ _ (search rules) (search rules)
          (c.takes_text-4.ensures c.if-not-takes_text-4.false);
      gets = runs_at _ _ _ _ _ _ (search rules) (c.runs.ensures ok v.declared v.is_decl);
    }
