use Rattle.fort_lex_canonical.proofs.text.push_tokens.Goals as goal

pub push_kind-requires : goal.push_kind-requires
push_kind-requires c = c.requires c.loop-token.token-index _ c.loop-token-test.true
