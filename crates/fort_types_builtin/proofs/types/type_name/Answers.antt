use Rattle.std.proofs.Common.{[], refl, sym, arith}
use Rattle.std.proofs.lemmas.Option.{slice_get_read}
use Rattle.std.proofs.lemmas.List.{get_or_past}
use Rattle.fort_types_builtin.specs.Types.{any_spelling, type_spellings}
use Rattle.fort_types_builtin.proofs.TypeRows.{name_within, names_long, any_at}
use Rattle.fort_types_builtin.proofs.types.type_name.Goals as goal

pub returns-in-Some : goal.returns-in-Some
returns-in-Some c = name_within c.table.result.now c.args.number c.in-Some.row.now
    (slice_get_read c.table.result.now _ c.args.number c.in-Some.row.now refl
    c.in-Some.ensures.lookup.3.0 c.in-Some.ensures.lookup.1) c.table.ensures.rows

pub returns-in-None : goal.returns-in-None
unfolding any_spelling
returns-in-None c = any_at c.args.number c.if-number-eq-TYPE_COUNT.true

pub returns-in-None-2 : goal.returns-in-None-2
returns-in-None-2 c =
    let l = names_long in let m = c.in-None.ensures.lookup.3 in let n = c.table.ensures.long
    in let f = c.if-number-eq-TYPE_COUNT.false in
    sym (get_or_past type_spellings c.args.number [] (omega arith))
