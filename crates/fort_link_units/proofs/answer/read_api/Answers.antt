use Rattle.std.proofs.Common.{◌∙◌}
use Rattle.fort_link_units.proofs.ApiFiles.{read_api_is, crowded_api, failed_api, not_memory}
use Rattle.fort_link_units.proofs.answer.read_api.Goals as goal

pub returns-in-Some : goal.returns-in-Some
returns-in-Some c =
    crowded_api c.args.tokens.now _ _ _ c.in-Ok.api _ c.in-Some.place c.requires.shallow
    c.as_slice.ensures (c.new-cursor.ensures ∙ c.as_slice-list.ensures) c.in-Ok.ensures
    c.in-Some.ensures

pub returns-in-None : goal.returns-in-None
returns-in-None c =
    read_api_is c.args.tokens.now _ _ _ c.in-Ok.api _ c.requires.own c.requires.shallow
    c.as_slice.ensures (c.new-cursor.ensures ∙ c.as_slice-list.ensures) c.in-Ok.ensures
    c.in-None.ensures

pub returns-in-Err-Syntax : goal.returns-in-Err-Syntax
returns-in-Err-Syntax c =
    let failed = rw c.in-Err-Syntax.field-0-is at c.in-Err-Syntax.ensures in
    failed_api c.args.tokens.now _ _ _ _ _ _ c.place_of.result c.requires.own c.requires.shallow
    c.as_slice.ensures (c.new-cursor.ensures ∙ c.as_slice-list.ensures) c.as_slice-list.ensures
    c.next.ensures c.place_of.ensures (failed not_memory)
