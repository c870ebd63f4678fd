use Rattle.std.proofs.Common.{sym, ◌∙◌}
use Rattle.fort_tree.specs.declared.delimited.TypeClause.{TypeClause, out-TypeClause}
use Rattle.fort_parse.proofs.Ended.{ended_is, last_of}
use Rattle.fort_parse.proofs.blocks.type_ended.Goals as goal

pub returns-in-len1-up : goal.returns-in-len1-up
returns-in-len1-up c =
    c.is_some.ensures
    ∙ (ended_is (out-TypeClause c.last-item.result).semicolon
    ∙ sym (last_of (λ
    (x : TypeClause). (out-TypeClause x).semicolon) c.args.clauses.now c.last-item.result
    c.in-len1-up.len_at_least c.last-item.is))
