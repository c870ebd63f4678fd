use Rattle.std.proofs.Common.{◌++◌, ap, sym, ◌∙◌}
use Rattle.fort_spawn_prelude.specs.Table.{entry_of, table_end}
use Rattle.fort_spawn_prelude.specs.Prelude.{id_in, tokens_from}
use Rattle.fort_spawn_prelude.specs.declared.tokens.TheConstants.{BEHIND}
use Rattle.fort_spawn_prelude.proofs.Rows.{closed}
use Rattle.fort_spawn_prelude.proofs.tokens.close.Goals as goal

pub returns : goal.returns
returns c =
    closed entry_of (id_in c.args.names.now) c.starting_rows.result.now c.args.tokens.now _ _ _
    c.starting_rows.ensures.rows c.in_ok-add_rows.ensures c.token-2.ensures
    c.in_ok-push.ensures.ok
    ∙ ap (λ b. c.args.tokens.now ++ tokens_from (id_in c.args.names.now) BEHIND (table_end b))
    (sym c.if-not-starts.false)
