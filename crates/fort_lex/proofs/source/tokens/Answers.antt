use Rattle.std.proofs.Common.{◌≡◌, sym, subst, ◌∙◌, true}
use Rattle.std.specs.Str.{IsUtf8}
use Rattle.std.proofs.Math.Utf8.{scalars}
use Rattle.std.proofs.lemmas.Str.{scalars-chars}
use Rattle.fort_lex.proofs.NumberLaws.{text_numbers}
use Rattle.fort_lex.proofs.source.tokens.Goals as goal

pub text_tokens-requires-clause-scalars : goal.text_tokens-requires-clause-scalars
text_tokens-requires-clause-scalars c =
    let cases = c.in-Ok.ensures.cases in
    subst (λ t. scalars t ≡ true) (sym (c.deref.ensures.value ∙ c.in_ok-all-in-Ok.ensures.value))
    (scalars-chars c.in-Ok.text.now (subst IsUtf8 (sym cases.0) cases.1))

pub returns-in_ok-all-in-Ok-clause-numbers : goal.returns-in_ok-all-in-Ok-clause-numbers
returns-in_ok-all-in-Ok-clause-numbers c =
    text_numbers c.deref.result.now c.text_tokens.result c.text_tokens.ensures
