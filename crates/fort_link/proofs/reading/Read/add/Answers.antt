use Rattle.std.proofs.Common.{◌≤◌, sym, subst}
use Rattle.std.specs.List.{AllByRecursion}
use Rattle.fort_lex_token.specs.declared.token.Token.{Token}
use Rattle.fort_link.proofs.Feeds.{on_its_lines}
use Rattle.fort_link.proofs.Files.{adds, breaks}
use Rattle.fort_link.proofs.reading.Read.add.Goals as goal

pub add-requires-clause-within : goal.add-requires-clause-within
add-requires-clause-within c =
    subst (λ n. AllByRecursion (λ (t : Token). t.place.line ≤ n) c.in_ok-own.own.list)
    (sym c.lines.ensures)
    (on_its_lines c.args.file.now c.in_ok-own.own c.in_ok-own.ensures.answer)

pub returns-in-Ok : goal.returns-in-Ok
returns-in-Ok c =
    adds c.args.self.now _ c.args.file.now c.as_slice.result.now c.in_ok-own.own
    c.in_ok-whole.whole c.in-Ok.unit c.lines.result c.in_ok-own.ensures.answer c.lines.ensures
    c.in_ok-whole.ensures.joined c.in_ok-whole.ensures.after c.in-Ok.ensures
    c.in_ok-push-in-Ok.ensures.ok c.as_slice.ensures c.spawns_in-spawns.ensures

pub returns-in-Err-Refused : goal.returns-in-Err-Refused
returns-in-Err-Refused c =
    let broken = rw c.in-Err-Refused.field-0-is at c.in-Err-Refused.ensures in
    breaks c.args.self.now.table c.args.file.now c.as_slice-in-Err-Refused.result.now
    c.in_ok-own.own c.in_ok-whole.whole c.in-Err-Refused.rule c.in-Err-Refused.at
    c.place_in_file-place.result c.in_ok-own.ensures.answer c.in_ok-whole.ensures.joined
    broken c.as_slice-in-Err-Refused.ensures c.place_in_file-place.ensures
