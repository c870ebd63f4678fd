use Rattle.std.proofs.Common.{[], refl, sym, arith}
use Rattle.std.proofs.lemmas.Option.{slice_get_read}
use Rattle.std.proofs.lemmas.List.{get_or_past}
use Rattle.fort_types_builtin.specs.Declarations.{function_spellings}
use Rattle.fort_types_builtin.proofs.DeclarationRows.{functions_long, function_within}
use Rattle.fort_types_builtin.proofs.table.function_name.Goals as goal

pub returns-then-number-ge-FUNCTION_COUNT : goal.returns-then-number-ge-FUNCTION_COUNT
returns-then-number-ge-FUNCTION_COUNT c =
    let l = functions_long in let m = c.if-number-ge-FUNCTION_COUNT.true
    in sym (get_or_past function_spellings c.args.number [] (omega arith))

pub returns-in-Some : goal.returns-in-Some
returns-in-Some c = function_within c.table.result.now c.args.number c.in-Some.row.now
    (slice_get_read c.table.result.now _ _ c.in-Some.row.now refl c.in-Some.ensures.lookup.3.0
    c.in-Some.ensures.lookup.1) c.table.ensures.rows

pub returns-in-None : goal.returns-in-None
returns-in-None c =
    let l = c.table.ensures.long in let m = c.in-None.ensures.lookup.3
    in let n = c.if-number-ge-FUNCTION_COUNT.false in absurd (omega arith)
