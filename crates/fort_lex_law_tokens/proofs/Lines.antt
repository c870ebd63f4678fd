-- The tokens of a file stand on lines from 1 on.
use Rattle.std.proofs.Common.{◌≡◌, ℕ, ◌+◌, ◌<◌, ◌≤◌, inl, inr, List, [], ◌∷◌, ◌++◌, sym, subst, arith}
use Rattle.std.specs.List.{AllByRecursion}
use Rattle.fort_base.specs.declared.refusal.Place.{Place}
use Rattle.fort_lex_token.specs.declared.token.Token.{Token}
use Rattle.fort_lex_scan.specs.Places.{place_after, the_start}
use Rattle.fort_lex_scan.specs.Tokens.{Piece}
use Rattle.fort_lex.specs.Files.{AreTokens, IsTokenOf, names_of, texts_after}
use Rattle.fort_lex_law_tokens.specs.Standing.{FileStandsOnLines, IsOnLine}
use Rattle.fort_lex_law_tokens.proofs.Apart.{IsUpTo, up_to_behind}

no_lower : (p q : Place) → IsUpTo p q → p.line ≤ q.line
no_lower p q (inl l) = omega arith
no_lower p q (inr r) = let l = r.0 in omega arith

behind_lines : (p : Place) (cs : List ℕ) → 1 ≤ p.line → 1 ≤ (place_after p cs).line
behind_lines p cs l =
    let m = no_lower p (place_after p cs) (up_to_behind p cs) in omega arith

on_lines : (place : Place) (words : List (List ℕ)) (texts : ℕ) (ps : List Piece) (ts : List Token)
    → 1 ≤ place.line → AreTokens words place texts ps ts → AllByRecursion IsOnLine ts
on_lines place words texts [] ts l are = subst (AllByRecursion IsOnLine) (sym are) tt
on_lines place words texts (p ∷ ps) ts l are =
    let t = are.0 in let is : IsTokenOf words place texts p t = are.3 in
    subst (AllByRecursion IsOnLine) (sym are.2) (
      subst (λ (q : Place). 1 ≤ q.line) (sym is.place_is) (behind_lines place p.gap l),
      on_lines (place_after place (p.gap ++ p.word)) words (texts_after texts p.word) ps are.1
          (behind_lines place (p.gap ++ p.word) l) are.4,
    )

pub stands_on_lines : FileStandsOnLines
stands_on_lines bytes tokens h =
    on_lines the_start (names_of h.pieces) 0 h.pieces tokens.list (omega arith) h.tokens.list
