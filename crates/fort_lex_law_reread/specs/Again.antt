-- The chapter "Canonical text", that it is read back: what reading it gives. No code: the laws join
-- the definitions of reading and of showing.
use Rattle.std.specs.Prelude.{◌≡◌, map}
use Rattle.fort_lex_token.specs.declared.token.Tokens.{Tokens}
use Rattle.fort_lex_canonical.specs.Canonical.{without_first_gap}

-- The second tokens are the first ones, read again from their canonical text: the same kinds over
-- the same names and texts, and the same gaps, but that the first token has none before it. Places
-- are those of the new text.
pub record IsReadAgain (ts us : Tokens) : Type 0 where
  pub kinds : map (λ t. t.kind) us.list ≡ map (λ t. t.kind) ts.list
  pub gaps : map (λ t. t.gap) us.list ≡ map (λ t. t.gap) (without_first_gap ts.list)
  pub names : us.names ≡ ts.names
  pub texts : us.texts ≡ ts.texts
