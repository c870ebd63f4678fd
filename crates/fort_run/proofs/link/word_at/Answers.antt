use Rattle.std.proofs.Common.{◌∙◌}
use Rattle.fort_run.proofs.Linked.{word_absent}
use Rattle.fort_run.proofs.link.word_at.Goals as goal

pub returns-in-None : goal.returns-in-None
returns-in-None c =
    c.new.ensures
    ∙ word_absent c.args.names.now c.args.at c.get.result c.in-None.is c.get.ensures.value
