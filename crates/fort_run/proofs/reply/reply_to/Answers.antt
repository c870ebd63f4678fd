use Rattle.fort_run.proofs.Meaning.{all_mean, asked_means, bounded, some_files}
use Rattle.fort_run.proofs.reply.reply_to.Goals as goal

pub link_files-requires : goal.link_files-requires
link_files-requires g c = record {
  count =
      some_files _ _ c.in-Ok-Link.names c.in-Ok-Link.workers c.in-Ok-Link.fuel
      c.in-Ok-Link.field-0-is c.in-Ok-Link.ensures.ok;
}

pub returns-in-Ok-Link-clause-means : goal.returns-in-Ok-Link-clause-means
returns-in-Ok-Link-clause-means g c =
    all_mean _ _ _ _ _ c.in-Ok-Link.names c.in-Ok-Link.workers c.in-Ok-Link.fuel
    c.link_files.result c.in-Ok-Link.field-0-is c.in-Ok-Link.ensures.ok c.link_files.ensures.means

pub returns-in-Ok-clause-means : goal.returns-in-Ok-clause-means
returns-in-Ok-clause-means g c =
    asked_means _ _ _ _ c.in-Ok.command c.asked.result c.in-Ok.ensures.ok c.asked.ensures.means

pub asked-requires-clause-bounded : goal.asked-requires-clause-bounded
asked-requires-clause-bounded g c = bounded _ c.in-Ok.command c.in-Ok.ensures.ok
