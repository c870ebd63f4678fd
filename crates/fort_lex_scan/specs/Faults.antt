-- The chapter "Tokens", which fault of a text is reported. The code stops at the first one that it
-- meets.
use Rattle.std.specs.Prelude.{◌≡◌, ℕ, ◌≤◌, ◌+◌, List, ◌++◌, length}
use Rattle.fort_base.specs.declared.refusal.Rule.{Rule}
use Rattle.fort_base.specs.declared.refusal.Place.{Place}
use Rattle.fort_lex_scan.specs.declared.TheConstants.{MOST_TOKENS}
use Rattle.fort_lex_scan.specs.Chain.{Chain}
use Rattle.fort_lex_scan.specs.Gaps.{Gap, body}
use Rattle.fort_lex_scan.specs.Tokens.{Piece, IsPiece, Breaks, HasPieces}
use Rattle.fort_lex_scan.specs.Places.{place_at}

-- The text breaks the rule `at` characters from its front: some pieces, sound or not, a gap, and
-- then the fault.
pub record BreaksAt (text : List ℕ) (at : ℕ) (r : Rule) : Type 0 where
  pub pieces : List Piece
  pub middle : List ℕ
  pub rest : List ℕ
  pub k : ℕ
  pub before : Chain IsPiece pieces (body text) middle
  pub gap : Gap middle rest
  pub fault : Breaks rest k r
  pub place : at + length rest ≡ length text + k

-- No fault stands before it.
abbrev pub IsSoundBefore : List ℕ → ℕ → Type 0
IsSoundBefore text at = (q : ℕ) (r : Rule) → BreaksAt text q r → at ≤ q

-- The rule is broken there, and none at an earlier place.
pub record IsFirstFault (text : List ℕ) (at : ℕ) (r : Rule) : Type 0 where
  pub fault : BreaksAt text at r
  pub first : IsSoundBefore text at

-- More than n tokens stand before the earliest fault, if there is one: these n, and one more, which
-- begins there.
pub record IsTooMany (n : ℕ) (text : List ℕ) (at : ℕ) : Type 0 where
  pub pieces : List Piece
  pub piece : Piece
  pub middle : List ℕ
  pub rest : List ℕ
  pub count : length pieces ≡ n
  pub before : Chain IsPiece pieces (body text) middle
  pub next : IsPiece piece middle rest
  pub sound : (q : ℕ) (r : Rule) → BreaksAt text q r → length text ≤ q + length rest
  pub begins : at + length (piece.word ++ rest) ≡ length text

-- The text has these pieces and no others, not too many of them, and breaks no rule.
pub record IsList (text : List ℕ) (pieces : List Piece) : Type 0 where
  pub has : HasPieces text pieces
  pub few : length pieces ≤ MOST_TOKENS
  pub only : (others : List Piece) → HasPieces text others → others ≡ pieces
  pub sound : (at : ℕ) (r : Rule) → BreaksAt text at r → ⊥

-- The rule is the first of 102 to 106 that the text breaks, with no 107 before it, and the place is
-- where it does so.
pub record IsFault (text : List ℕ) (r : Rule) (place : Place) : Type 0 where
  pub at : ℕ
  pub first : IsFirstFault text at r
  pub few : (q : ℕ) → IsTooMany MOST_TOKENS text q → ⊥
  pub none : (pieces : List Piece) → HasPieces text pieces → ⊥
  pub place_is : place ≡ place_at text at

-- 107: before the earliest fault there are too many tokens, and the place is that of the first one
-- too many.
pub record IsMany (text : List ℕ) (place : Place) : Type 0 where
  pub at : ℕ
  pub many : IsTooMany MOST_TOKENS text at
  pub place_is : place ≡ place_at text at
