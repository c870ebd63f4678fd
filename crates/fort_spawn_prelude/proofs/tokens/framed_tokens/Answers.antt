use Rattle.fort_spawn_prelude.specs.Table.{entry_of}
use Rattle.fort_spawn_prelude.proofs.Rows.{framed_is}
use Rattle.fort_spawn_prelude.proofs.tokens.framed_tokens.Goals as goal

pub returns : goal.returns
returns c =
    framed_is entry_of c.args.names.now c.args.starts c.always_rows.result.now _ _ _ _ _ _ _ _ _
    c.new-tokens.ensures c.token.ensures c.in_ok-push.ensures.ok c.token-2.ensures
    c.in_ok-push-2.ensures.ok c.always_rows.ensures.rows c.in_ok-add_rows.ensures
    c.in_ok-close.ensures c.token-3.ensures c.in_ok-push-3.ensures.ok
