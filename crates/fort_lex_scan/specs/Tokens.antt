-- The chapter "Tokens", the token list of a text. The definition puts gaps and spellings together;
-- the code scans once.
use Rattle.std.specs.Prelude.{◌≡◌, ◌≢◌, ℕ, suc, ◌<◌, Bool, true, false, not, ◌&&◌, ◌||◌, ◌==◌, List, [], ◌∷◌, ◌++◌, length}
use Rattle.fort_base.specs.declared.rules.TheConstants.{BAD_CHARACTER, OPEN_COMMENT, OPEN_TEXT, BAD_ESCAPE, NUMBER_TOO_LARGE}
use Rattle.unicode_ident.specs.Ident.{is_xid_continue}
use Rattle.fort_base.specs.declared.refusal.Rule.{Rule}
use Rattle.fort_lex_scan.specs.Chain.{Chain}
use Rattle.fort_lex_scan.specs.Gaps.{Gap, IsOpenComment, opens, mark, body}
use Rattle.fort_lex_scan.specs.Spelling.{is_number, is_text, is_control, Longest, decimal}

-- a token as it stands in the text: the gap before it, and its spelling
pub record Piece : Type 0 where
  pub gap : List ℕ
  pub word : List ℕ

-- At the front of the text stands the word: no comment opens there, and it is the longest spelling
-- that fits.
pub record Stands (w text after : List ℕ) : Type 0 where
  pub whole : text ≡ w ++ after
  pub apart : opens text ≡ false
  pub longest : Longest w after

-- At the front of the text stands the piece: a gap, and then the longest spelling that fits.
pub record IsPiece (p : Piece) (text after : List ℕ) : Type 0 where
  pub whole : text ≡ p.gap ++ (p.word ++ after)
  pub gap : Gap text (p.word ++ after)
  pub word : Stands p.word (p.word ++ after) after

-- after these characters of a text, whether a `\` stands directly before that isn't itself behind
-- one
abbrev pub escapes : Bool → List ℕ → Bool
escapes b [] = b
escapes b (c ∷ cs) = escapes ((c == 92) && not b) cs

-- n, t, a quote or `\` follows
abbrev pub is_escape : List ℕ → Bool
is_escape [] = false
is_escape (c ∷ cs) = (c == 110) || ((c == 116) || ((c == 34) || (c == 92)))

-- a name's character follows
abbrev pub continues : List ℕ → Bool
continues [] = false
continues (c ∷ cs) = is_xid_continue c

-- Behind a gap the text breaks a rule of 102 to 106, k characters from there.
pub data Breaks (text : List ℕ) (k : ℕ) (r : Rule) : Type 0 where
  -- 102: a character begins no token
  nothing : (c : ℕ) (cs : List ℕ) → r ≡ BAD_CHARACTER → k ≡ 0 → text ≡ c ∷ cs → c ≢ 34
      → opens text ≡ false
      → ((w after : List ℕ) → Stands w text after → ⊥) → Breaks text k r
  -- 102: a name's character directly follows a number
  follows : (w after : List ℕ) → r ≡ BAD_CHARACTER → k ≡ length w → Stands w text after
      → is_number w ≡ true
      → continues after ≡ true → Breaks text k r
  -- 102: a control character stands in a text
  control : (w after front back : List ℕ) (c : ℕ) → r ≡ BAD_CHARACTER → k ≡ length front
      → Stands w text after
      → is_text w ≡ true → w ≡ front ++ c ∷ back → is_control c ≡ true → Breaks text k r
  -- 103: a comment isn't closed
  comment : r ≡ OPEN_COMMENT → k ≡ 0 → IsOpenComment text → Breaks text k r
  -- 104: a text meets a line feed or the end
  quote : (cs : List ℕ) → r ≡ OPEN_TEXT → k ≡ 0 → text ≡ 34 ∷ cs
      → ((w after : List ℕ) → text ≡ w ++ after → is_text w ≡ true → ⊥) → Breaks text k r
  -- 105: a `\` in a text isn't followed by n, t, a quote or `\`
  escape : (w after front back : List ℕ) → r ≡ BAD_ESCAPE → k ≡ suc (length front)
      → Stands w text after
      → is_text w ≡ true → w ≡ 34 ∷ (front ++ 92 ∷ back) → escapes false front ≡ false
      → is_escape back ≡ false
      → Breaks text k r
  -- 106: a number is above 9223372036854775807
  large : (w after : List ℕ) → r ≡ NUMBER_TOO_LARGE → k ≡ 0 → Stands w text after
      → is_number w ≡ true
      → 9223372036854775807 < decimal 0 w → Breaks text k r

-- no rule is broken behind a gap
abbrev pub BreaksNone : List ℕ → Type 0
BreaksNone text = (k : ℕ) (r : Rule) → Breaks text k r → ⊥

-- a piece that breaks no rule
pub record IsToken (p : Piece) (text after : List ℕ) : Type 0 where
  pub piece : IsPiece p text after
  pub sound : BreaksNone (p.word ++ after)

-- the pieces of a text from those behind its mark: the mark belongs to the first gap
abbrev pub with_mark : List ℕ → List Piece → List Piece
with_mark m [] = []
with_mark m (p ∷ ps) = record { gap = m ++ p.gap; word = p.word } ∷ ps

-- The text is these pieces, which break no rule, and a gap at its end.
pub record HasPieces (text : List ℕ) (pieces : List Piece) : Type 0 where
  pub bare : List Piece
  pub last : List ℕ
  pub tokens : Chain IsToken bare (body text) last
  pub gap : Gap last []
  pub marked : pieces ≡ with_mark (mark text) bare
