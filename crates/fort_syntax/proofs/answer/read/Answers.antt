use Rattle.std.proofs.Common.{◌∙◌}
use Rattle.fort_syntax.proofs.Answering.{read_whole, failed_whole, not_memory}
use Rattle.fort_syntax.proofs.answer.read.Goals as goal

pub returns-in-Ok : goal.returns-in-Ok
returns-in-Ok c =
    read_whole c.args.tokens.now _ _ _ _ c.in-Ok.parsed.component _ c.as_slice.ensures
    c.as_slice-2.ensures (c.new-cursor.ensures ∙ c.as_slice-list.ensures)
    c.in-Ok.ensures

pub returns-in-Err-Syntax : goal.returns-in-Err-Syntax
returns-in-Err-Syntax c =
    let failed = rw c.in-Err-Syntax.field-0-is at c.in-Err-Syntax.ensures in
    failed_whole c.args.tokens.now _ _ _ _ _ _ _ c.place_of.result c.as_slice.ensures
    c.as_slice-2.ensures (c.new-cursor.ensures ∙ c.as_slice-list.ensures)
    c.as_slice-list.ensures c.next.ensures c.place_of.ensures (failed not_memory)
