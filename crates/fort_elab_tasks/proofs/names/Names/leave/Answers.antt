use Rattle.std.proofs.Common.{◌∙◌}
use Rattle.fort_elab_tasks.proofs.Reversed.{leaves}
use Rattle.fort_elab_tasks.proofs.names.Names.leave.Goals as goal

pub returns-else-all-count : goal.returns-else-all-count
returns-else-all-count c =
    leaves c.self.inside.bound.items c.truncate-else-all-count.new.self.items c.args.self.now
    c.len-all.result c.args.count
    c.self.view_is (c.len-all.ensures
    ∙ c.self.inside.bound.ok.0) c.if-all-count.false c.truncate-else-all-count.ensures.items
