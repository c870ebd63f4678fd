use Rattle.std.proofs.Common.{[], ◌∷◌, ◌++◌, ap, ◌∙◌}
use Rattle.fort_lex_token.specs.declared.token.Token.{Token}
use Rattle.fort_spawn_prelude.specs.Table.{entry_of}
use Rattle.fort_spawn_prelude.specs.Prelude.{id_in}
use Rattle.fort_spawn_prelude.proofs.Rows.{token_added}
use Rattle.fort_spawn_prelude.proofs.tokens.add_rows.Goals as goal

pub loop-i-preserved : goal.loop-i-preserved
loop-i-preserved c =
    token_added entry_of (id_in c.args.names.now) c.args.first c.args.rows.now c.loop-i.i _ _ _ _
    c.loop-i-test.true c.loop-i.invariant
    (c.in_ok-push.ensures.ok
    ∙ ap (λ (t : Token). c.loop-i.tokens ++ t ∷ []) c.in_ok-token.ensures)
