-- The numbers of a file are ZZ64 at most.
use Rattle.std.proofs.Common.{◌≡◌, ◌≤◌, ℕ, Bool, true, false, cond, List, [], ◌∷◌, ◌++◌, chars, refl, sym, subst}
use Rattle.std.specs.Prelude.{nat_le}
use Rattle.std.specs.List.{AllByRecursion}
use Rattle.std.proofs.lemmas.Bool.{leb-true, leb-false}
use Rattle.fort_base.specs.declared.refusal.Place.{Place}
use Rattle.fort_base.specs.declared.rules.TheConstants.{NUMBER_TOO_LARGE}
use Rattle.fort_lex_token.specs.declared.token.Kind.{Kind}
use Rattle.fort_lex_token.specs.declared.token.Kind.TheVariants as kind
use Rattle.fort_lex_token.specs.declared.token.Token.{Token}
use Rattle.fort_lex_scan.specs.Chain.{Chain}
use Rattle.fort_lex_scan.specs.Gaps.{mark, body}
use Rattle.fort_lex_scan.specs.Places.{place_after, the_start}
use Rattle.fort_lex_scan.specs.Spelling.{is_name, is_number, is_text, decimal}
use Rattle.fort_lex_scan.specs.Tokens.{Piece, Stands, BreaksNone, large, IsToken, with_mark}
use Rattle.fort_lex_scan.specs.Words.{shape_of}
use Rattle.fort_lex_scan.specs.declared.word.Shape.TheVariants as shape
use Rattle.fort_lex.specs.declared.meaning.Meaning.{Meaning}
use Rattle.fort_lex.specs.declared.meaning.Meaning.TheVariants as a_meaning
use Rattle.fort_lex.specs.Meanings.{KindFor, MeansShape, Means, meaning_of}
use Rattle.fort_lex.specs.Files.{AreTokens, IsTokenOf, names_of, texts_after}
use Rattle.fort_lex_law_tokens.specs.Numerals.{FitsKind, Fits, FileNumbersFit}

-- ---- pieces

-- a number among the words is a ZZ64
abbrev IsSmall : List ℕ → Type 0
IsSmall w = is_number w ≡ true → decimal 0 w ≤ 9223372036854775807

abbrev AreSmall : List Piece → Type 0
AreSmall ps = AllByRecursion (λ (p : Piece). IsSmall p.word) ps

small : (w after : List ℕ) → Stands w (w ++ after) after → BreaksNone (w ++ after) → IsSmall w
small w after s none n = go (nat_le (decimal 0 w) 9223372036854775807) refl
  where
    go : (c : Bool) → nat_le (decimal 0 w) 9223372036854775807 ≡ c
        → decimal 0 w ≤ 9223372036854775807
    go true e = leb-true (decimal 0 w) 9223372036854775807 e
    go false e =
        absurd (none 0 NUMBER_TOO_LARGE
        (large w after refl refl s n (leb-false (decimal 0 w) 9223372036854775807 e)))

are_small : (ps : List Piece) (text last : List ℕ) → Chain IsToken ps text last → AreSmall ps
are_small [] text last h = tt
are_small (p ∷ ps) text last h =
    (small p.word h.0 h.1.piece.word h.1.sound, are_small ps h.0 last h.2)

marked_small : (m : List ℕ) (ps : List Piece) → AreSmall ps → AreSmall (with_mark m ps)
marked_small m [] h = h
marked_small m (p ∷ ps) h = h

-- ---- tokens

module _ (words : List (List ℕ)) (texts : ℕ) (w : List ℕ) where
  for_kind : (m : Meaning) (k : Kind) → KindFor words w m k → FitsKind k
  for_kind (a_meaning.Word r) k h = subst FitsKind (sym h) tt
  for_kind (a_meaning.Mark m) k h = subst FitsKind (sym h) tt
  for_kind (a_meaning.Op op) k h = subst FitsKind (sym h) tt
  for_kind a_meaning.OperatorWord k h = subst FitsKind (sym h.2) tt
  for_kind a_meaning.Name k h = subst FitsKind (sym h.2) tt

  fits : (k : Kind) → IsSmall w → Means words texts w k → FitsKind k
  fits k s h = go (is_name w) (is_number w) (is_text w) refl h
    where
      go : (a b c : Bool) → is_number w ≡ b
          → MeansShape words texts w
          (cond a shape.Name (cond b (shape.Number (decimal 0 w)) (cond c shape.Text shape.Symbol)))
          k → FitsKind k
      go true b c e q = for_kind (meaning_of w) k q
      go false true c e q = subst FitsKind (sym q) (s e)
      go false false true e q = subst FitsKind (sym q) tt
      go false false false e q = for_kind (meaning_of w) k q

all_fit : (words : List (List ℕ)) (place : Place) (texts : ℕ) (ps : List Piece) (ts : List Token)
    → AreSmall ps → AreTokens words place texts ps ts → AllByRecursion Fits ts
all_fit words place texts [] ts s are = subst (AllByRecursion Fits) (sym are) tt
all_fit words place texts (p ∷ ps) ts s are =
    let t = are.0 in let is : IsTokenOf words place texts p t = are.3 in
    subst (AllByRecursion Fits) (sym are.2) (
      fits words texts p.word t.kind s.0 is.kind,
      all_fit words (place_after place (p.gap ++ p.word)) (texts_after texts p.word) ps are.1
          s.1 are.4,
    )

pub file_numbers_fit : FileNumbersFit
file_numbers_fit bytes tokens h =
    let has = h.is.has in
    all_fit (names_of h.pieces) the_start 0 h.pieces tokens.list
    (subst AreSmall (sym has.marked)
    (marked_small (mark (chars bytes)) has.bare
    (are_small has.bare (body (chars bytes)) has.last has.tokens))) h.tokens.list
