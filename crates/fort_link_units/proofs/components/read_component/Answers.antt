use Rattle.std.proofs.Common.{◌∙◌}
use Rattle.fort_link_units.proofs.ApiFiles.{not_memory}
use Rattle.fort_link_units.proofs.ComponentFiles.{failed_heads}
use Rattle.fort_link_units.proofs.components.read_component.Goals as goal

pub returns-in-Err-Syntax : goal.returns-in-Err-Syntax
returns-in-Err-Syntax c =
    let failed = rw c.in-Err-Syntax.field-0-is at c.in-Err-Syntax.ensures in
    failed_heads c.args.tokens.now _ _ _ _ _ c.place_of.result c.requires.own c.requires.shallow
    (c.new-cursor.ensures ∙ c.as_slice-list.ensures) c.as_slice-list.ensures c.next.ensures
    c.place_of.ensures (failed not_memory)
