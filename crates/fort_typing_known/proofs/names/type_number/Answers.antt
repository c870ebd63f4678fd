use Rattle.std.proofs.Common.{◌∙◌, sym, arith}
use Rattle.fort_typing_known.proofs.Searched.{number_found, number_missing}
use Rattle.fort_typing_known.proofs.names.type_number.Goals as goal

pub returns-in-Some : goal.returns-in-Some
returns-in-Some c =
    let e = number_found 0 c.args.known.now.index.now.types.now c.args.spelling.now _
    (sym c.type_named.ensures ∙ c.in-Some.is) in omega arith

pub returns-in-None : goal.returns-in-None
returns-in-None c =
    number_missing 0 c.args.known.now.index.now.types.now c.args.spelling.now
    (sym c.type_named.ensures ∙ c.in-None.is)
