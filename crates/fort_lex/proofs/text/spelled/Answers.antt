use Rattle.std.proofs.Common.{◌≡◌, ℕ, List, [], ◌∷◌, ◌++◌, ◌+◌, ◌<◌, length, take, get_or, sym, ap, ◌∙◌, arith}
use Rattle.std.specs.Prelude.{encode_utf8, encode_utf8_all}
use Rattle.std.proofs.lemmas.List.{take_more, append-nil}
use Rattle.std.proofs.lemmas.Str.{encodes-append}
use Rattle.fort_lex.proofs.text.spelled.Goals as goal

more : (w : List ℕ) (i c : ℕ) (old new : List ℕ) → i < length w → get_or w i c ≡ c
    → old ≡ encode_utf8_all (take i w) → new ≡ old ++ encode_utf8 c
    → new ≡ encode_utf8_all (take (i + 1) w)
more w i c old new l e h k =
    k ∙ ap (λ t. t ++ encode_utf8 c) h
    ∙ ap (λ t. encode_utf8_all (take i w) ++ t) (sym (append-nil (encode_utf8 c)))
    ∙ sym (encodes-append (take i w) (c ∷ []))
    ∙ ap (λ d. encode_utf8_all (take i w ++ d ∷ [])) (sym e)
    ∙ ap encode_utf8_all (sym (take_more w i c l))

pub loop-i-preserved : goal.loop-i-preserved
loop-i-preserved c =
    more c.args.word.now c.loop-i.i c.index-word-i.result _ _ (omega arith) (sym c.index-word-i.is)
    c.loop-i.invariant c.in_ok-push.ensures.bytes
