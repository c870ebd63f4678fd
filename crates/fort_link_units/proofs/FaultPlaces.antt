-- The last of some tokens.
use Rattle.std.proofs.Common.{◌≡◌, ◌+◌, ◌-◌, ◌≤◌, List, [], ◌∷◌, ◌++◌, length, take, get_or, Some, refl, sym, ap, ◌∙◌, arith}
use Rattle.std.proofs.Math.Seq.{take-length}
use Rattle.std.proofs.lemmas.List.{take_more}
use Rattle.fort_lex_token.specs.declared.token.Token.{Token}
use Rattle.fort_syntax.specs.Answer.{last_token}

ends_last : (front : List Token) (t : Token) → last_token (front ++ t ∷ []) ≡ Some t
ends_last [] t = refl
ends_last (u ∷ []) t = refl
ends_last (u ∷ v ∷ front) t = ends_last (v ∷ front) t

pub last_at : (ts : List Token) (d : Token) → 1 ≤ length ts
    → last_token ts ≡ Some (get_or ts (length ts - 1) d)
last_at ts d some =
    let at : length ts - 1 + 1 ≡ length ts = omega arith in
    let whole : ts ≡ take (length ts - 1) ts ++ get_or ts (length ts - 1) d ∷ [] =
    sym (take-length ts)
    ∙ (ap (λ n. take n ts) (sym at) ∙ take_more ts (length ts - 1) d (omega arith)) in
    ap last_token whole ∙ ends_last (take (length ts - 1) ts) (get_or ts (length ts - 1) d)
