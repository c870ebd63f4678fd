use Rattle.std.proofs.Common.{refl, ◌∙◌}
use Rattle.fort_spawn_prelude.proofs.One.{read_is, not_failed, not_deep, syntax_is_not, deep_is_not}
use Rattle.fort_spawn_prelude.proofs.reading.read.Goals as goal

pub returns-in-Ok : goal.returns-in-Ok
returns-in-Ok c =
    read_is c.args.names.now c.args.starts _ _ c.in-Ok.parsed.component _
    (c.new-cursor.ensures ∙ c.as_slice-list.ensures ∙ c.in_ok-tokens.ensures) c.in-Ok.ensures

pub unreachable-requires : goal.unreachable-requires
unreachable-requires c =
    let failed = rw c.in-Err-TooDeep.field-0-is at c.in-Err-TooDeep.ensures in
    not_deep c.args.names.now _ c.as_slice-list.result.now _ _ refl c.new-cursor.ensures
    (failed deep_is_not)

pub unreachable-requires-in-Err-Syntax : goal.unreachable-requires-in-Err-Syntax
unreachable-requires-in-Err-Syntax c =
    let failed = rw c.in-Err-Syntax.field-0-is at c.in-Err-Syntax.ensures in
    not_failed c.args.names.now c.args.starts _ _ _
    (c.new-cursor.ensures ∙ c.as_slice-list.ensures ∙ c.in_ok-tokens.ensures)
    (failed syntax_is_not)
