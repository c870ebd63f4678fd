-- A list is its tokens before a number, the one with it, and those behind.
use Rattle.std.proofs.Common.{◌≡◌, ℕ, ◌+◌, ◌-◌, ◌<◌, ◌≤◌, [], ◌∷◌, ◌++◌, length, take, drop, get_or, refl, sym, ap, ◌∙◌, arith}
use Rattle.std.proofs.Math.Seq.{take-length}
use Rattle.std.proofs.lemmas.List.{take_more, drop_more, take-append-drop, length-take-le}
use Rattle.fort_base.specs.declared.refusal.Place.{Place}
use Rattle.fort_lex_token.specs.declared.token.Token.{Token}
use Rattle.fort_parse_reading.specs.Parser.{Row}
use Rattle.fort_parse_longest.specs.Parts.{IsPlaceAt, of_token, of_last}

pub token_at : (ts : Row) (at : ℕ) (d : Token) (place : Place) → at < length ts
    → (get_or ts at d).place ≡ place → IsPlaceAt ts at place
token_at ts at d place lt is =
    let whole : ts ≡ take at ts ++ get_or ts at d ∷ drop (at + 1) ts =
    sym (take-append-drop at ts) ∙ ap (λ (z : Row). take at ts ++ z) (drop_more ts at d lt) in
    of_token (take at ts) (get_or ts at d) (drop (at + 1) ts) whole
    (length-take-le at ts (omega arith)) is

pub last_at : (ts : Row) (d : Token) (place : Place) → 1 ≤ length ts
    → (get_or ts (length ts - 1) d).place ≡ place → IsPlaceAt ts (length ts) place
last_at ts d place some is =
    let at : length ts - 1 + 1 ≡ length ts = omega arith in
    let whole : ts ≡ take (length ts - 1) ts ++ get_or ts (length ts - 1) d ∷ [] =
    sym (take-length ts)
    ∙ (ap (λ (n : ℕ). take n ts) (sym at) ∙ take_more ts (length ts - 1) d (omega arith)) in
    of_last (take (length ts - 1) ts) (get_or ts (length ts - 1) d) whole refl is
