use Rattle.std.proofs.Common.{sym, ap, ◌∙◌}
use Rattle.fort_spawn_prelude.specs.Table.{entry_of}
use Rattle.fort_spawn_prelude.specs.Prelude.{extended}
use Rattle.fort_spawn_prelude.proofs.Rows.{all_starting, all_others}
use Rattle.fort_spawn_prelude.proofs.reading.all_names.Goals as goal

pub returns : goal.returns
returns c =
    all_starting entry_of c.args.names.now _ _ _ c.always_rows.result.now
    c.starting_rows.result.now c.in_ok-all.ensures c.in_ok-add_names.ensures
    c.always_rows.ensures.rows c.in_ok-add_names-2.ensures c.starting_rows.ensures.rows
    ∙ ap (extended c.args.names.now) (sym c.if-not-starts.false)

pub returns-then-not-starts : goal.returns-then-not-starts
returns-then-not-starts c =
    all_others entry_of c.args.names.now _ _ c.always_rows.result.now c.in_ok-all.ensures
    c.in_ok-add_names.ensures c.always_rows.ensures.rows
    ∙ ap (extended c.args.names.now) (sym c.if-not-starts.true)
