use Rattle.std.proofs.Common.{◌≤◌, ◌∙◌, length, sym, subst, rules}
use Rattle.fort_link_table.specs.Names.{grown}
use Rattle.fort_link_table.proofs.Growing.{grown_longer}
use Rattle.fort_link_table.proofs.table.Table.joined.Goals as goal

pub returns-clause-longer : goal.returns-clause-longer
returns-clause-longer c =
    subst (λ names. length c.args.self.now.names ≤ length names) (sym (search rules))
    (grown_longer c.args.self.now.names c.args.tokens.now.names)
