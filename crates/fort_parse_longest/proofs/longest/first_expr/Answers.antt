use Rattle.fort_parse_longest.proofs.Expressions.{read_longest, read_fault, not_memory}
use Rattle.fort_parse_longest.proofs.longest.first_expr.Goals as goal

pub returns-in-Ok : goal.returns-in-Ok
returns-in-Ok c =
    read_longest c.args.names.now c.args.tokens.now c.new-cursor.result c.new-cursor.ensures
    c.in-Ok.expr c.expr.new.tokens c.taken.result c.taken.ensures c.in-Ok.ensures

pub returns-in-Err-Syntax : goal.returns-in-Err-Syntax
returns-in-Err-Syntax c =
    let failed = rw c.in-Err-Syntax.field-0-is at c.in-Err-Syntax.ensures in
    read_fault c.args.names.now c.args.tokens.now c.new-cursor.result c.new-cursor.ensures
    c.expr.new.tokens c.taken-in-Err-Syntax.result c.taken-in-Err-Syntax.ensures
    (failed not_memory)
