-- The chapter "Tokens", one step of the scan: what stands next in a text. The code reads a gap and
-- then a word.
use Rattle.std.specs.Prelude.{◌≡◌, ℕ, ◌≤◌, ◌<◌, ◌+◌, List, [], length, take, drop}
use Rattle.fort_base.specs.declared.rules.TheConstants.{BAD_CHARACTER}
use Rattle.fort_base.specs.declared.refusal.Rule.{Rule}
use Rattle.fort_lex_scan.specs.declared.word.Shape.{Shape}
use Rattle.fort_lex_scan.specs.declared.step.Step.{Step}
use Rattle.fort_lex_scan.specs.declared.step.Step.TheVariants as step
use Rattle.fort_lex_scan.specs.Gaps.{Gap}
use Rattle.fort_lex_scan.specs.Tokens.{Piece, Stands, IsPiece, IsToken, Breaks}
use Rattle.fort_lex_scan.specs.Words.{shape_of}

-- the piece of so many characters of gap and so many of word at the front of a text
abbrev pub piece_at : List ℕ → ℕ → ℕ → Piece
piece_at text gap word = record { gap = take gap text; word = take word (drop gap text) }

-- At the front stands a token of that shape.
pub record IsNext (text : List ℕ) (gap word : ℕ) (s : Shape) : Type 0 where
  pub is : IsToken (piece_at text gap word) text (drop (gap + word) text)
  pub shape : s ≡ shape_of (take word (drop gap text))
  pub some : 0 < word
  pub within : gap + word ≤ length text

-- At the front stands a number, and directly behind it a name's character; nothing is broken before
-- that.
pub record IsStuck (text : List ℕ) (gap word : ℕ) : Type 0 where
  pub is : IsPiece (piece_at text gap word) text (drop (gap + word) text)
  pub fault : Breaks (drop gap text) word BAD_CHARACTER
  pub least : (q : ℕ) (s : Rule) → Breaks (drop gap text) q s → word ≤ q
  pub some : 0 < word
  pub within : gap + word ≤ length text

-- Behind the text's gap a rule is broken, n characters from the front; no fault there is earlier,
-- and no word ends before it.
pub record IsBroken (r : Rule) (text : List ℕ) (n : ℕ) : Type 0 where
  pub rest : List ℕ
  pub k : ℕ
  pub gap : Gap text rest
  pub fault : Breaks rest k r
  pub least : (q : ℕ) (s : Rule) → Breaks rest q s → k ≤ q
  pub inside : (w after : List ℕ) → Stands w rest after → k < length w
  pub place : n + length rest ≡ length text + k
  pub within : n ≤ length text

-- The step says what stands at the front of the text.
abbrev pub StepIs : List ℕ → Step → Type 0
StepIs text step.End = Gap text []
StepIs text (step.Next gap word s) = IsNext text gap word s
StepIs text (step.Stuck gap word) = IsStuck text gap word
StepIs text (step.Broken r n) = IsBroken r text n
