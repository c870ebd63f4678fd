-- The chapter "Tokens", whole: the tokens of a file, or the rule that it breaks. The code scans the
-- file once.
use Rattle.std.specs.Prelude.{◌≡◌, ℕ, ◌+◌, cond, List, [], ◌∷◌, ◌++◌, map, take, Result, Ok, Err, encode_utf8_all, ◌<◌, length, All}
use Rattle.std.specs.Str.{chars, IsUtf8, IsValidUpTo}
use Rattle.fort_base.specs.declared.rules.TheConstants.{NOT_UTF8, TOO_MANY_TOKENS}
use Rattle.fort_base.specs.declared.refusal.Rule.{Rule}
use Rattle.fort_base.specs.declared.refusal.Place.{Place}
use Rattle.fort_base.specs.declared.refusal.CheckFault.{CheckFault}
use Rattle.fort_base.specs.declared.refusal.CheckFault.TheVariants.{Refused, Memory}
use Rattle.fort_lex_scan.specs.Lists.{same}
use Rattle.fort_lex_scan.specs.Places.{place_after, the_start, gap_kind}
use Rattle.fort_lex_scan.specs.Tokens.{Piece}
use Rattle.fort_lex_scan.specs.Faults.{IsList, IsFault, IsMany}
use Rattle.fort_ops.specs.declared.op.Op.{Op}
use Rattle.fort_ops.specs.declared.op.Op.TheVariants as an_op
use Rattle.fort_lex_token.specs.declared.token.Kind.{Kind}
use Rattle.fort_lex_token.specs.declared.token.Kind.TheVariants as kind
use Rattle.fort_lex_token.specs.declared.token.Token.{Token}
use Rattle.fort_lex_token.specs.declared.token.Tokens.{Tokens}
use Rattle.fort_lex.specs.Meanings.{has_number, is_text_word, Means, said}

-- the words that aren't w
abbrev pub without : List ℕ → List (List ℕ) → List (List ℕ)
without w [] = []
without w (v ∷ vs) = cond (same w v) (without w vs) (v ∷ without w vs)

-- each of the words once, in the order of first places
abbrev pub once : List (List ℕ) → List (List ℕ)
once [] = []
once (w ∷ ws) = w ∷ without w (once ws)

-- the names and operator words of a text, in order
abbrev pub numbered_in : List Piece → List (List ℕ)
numbered_in [] = []
numbered_in (p ∷ ps) = cond (has_number p.word) (p.word ∷ numbered_in ps) (numbered_in ps)

-- the names and operator words of a text, each once
abbrev pub names_of : List Piece → List (List ℕ)
names_of pieces = once (numbered_in pieces)

-- what the texts say, in order, as UTF-8
abbrev pub texts_of : List Piece → List (List ℕ)
texts_of [] = []
texts_of (p ∷ ps) =
    cond (is_text_word p.word) (encode_utf8_all (said p.word) ∷ texts_of ps) (texts_of ps)

-- the number of texts up to and with a word
abbrev pub texts_after : ℕ → List ℕ → ℕ
texts_after texts w = cond (is_text_word w) (texts + 1) texts

-- The token is what the piece stands for, where its gap begins at the place.
pub record IsTokenOf (words : List (List ℕ)) (place : Place) (texts : ℕ) (p : Piece)
    (t : Token) : Type 0 where
  pub kind : Means words texts p.word t.kind
  pub gap : t.gap ≡ gap_kind p.gap
  pub place_is : t.place ≡ place_after place p.gap

-- The tokens are what the pieces stand for, one after another, from the place on.
abbrev pub AreTokens : List (List ℕ) → Place → ℕ → List Piece → List Token → Type 0
AreTokens words place texts [] ts = ts ≡ []
AreTokens words place texts (p ∷ ps) ts = (t : Token) × (rest : List Token) × (ts ≡ t ∷ rest)
    × IsTokenOf words place texts p t
    × AreTokens words (place_after place (p.gap ++ p.word)) (texts_after texts p.word) ps rest

-- The tokens, names and texts are what these pieces stand for.
pub record StandsFor (pieces : List Piece) (ts : Tokens) : Type 0 where
  pub list : AreTokens (names_of pieces) the_start 0 pieces ts.list
  pub names : ts.names ≡ map encode_utf8_all (names_of pieces)
  pub texts : ts.texts ≡ texts_of pieces

-- an operator word's number is below so many names
abbrev pub IsOpWithin : ℕ → Op → Type 0
IsOpWithin names (an_op.Word n) = n < names
IsOpWithin names _ = Unit {0}

-- the numbers in a kind are below so many names and so many texts
abbrev pub IsKindWithin : ℕ → ℕ → Kind → Type 0
IsKindWithin names texts (kind.Word r) = Unit {0}
IsKindWithin names texts (kind.Name id) = id.0 < names
IsKindWithin names texts (kind.Number n) = Unit {0}
IsKindWithin names texts (kind.Text n) = n < texts
IsKindWithin names texts (kind.Op op) = IsOpWithin names op
IsKindWithin names texts (kind.Mark m) = Unit {0}

-- Each token's numbers are those of names and texts that are there.
abbrev pub HasItsNumbers : Tokens → Type 0
HasItsNumbers ts = All (λ t. IsKindWithin (length ts.names) (length ts.texts) t.kind) ts.list

-- The file has these tokens.
pub record HasTokens (bytes : List ℕ) (ts : Tokens) : Type 0 where
  pub utf8 : IsUtf8 bytes
  pub pieces : List Piece
  pub is : IsList (chars bytes) pieces
  pub tokens : StandsFor pieces ts

-- The file isn't UTF-8, and the place is that of its first character that isn't whole.
pub record IsNotUtf8 (bytes : List ℕ) (place : Place) : Type 0 where
  pub whole : ℕ
  pub up_to : IsValidUpTo bytes whole
  pub place_is : place ≡ place_after the_start (chars (take whole bytes))

-- The file breaks the rule at the place, and it is the one of 101 to 107 that is reported.
pub data BreaksRule (bytes : List ℕ) (r : Rule) (place : Place) : Type 0 where
  -- 101
  not_utf8 : r ≡ NOT_UTF8 → IsNotUtf8 bytes place → BreaksRule bytes r place
  -- 107
  too_many : r ≡ TOO_MANY_TOKENS → IsUtf8 bytes → IsMany (chars bytes) place
      → BreaksRule bytes r place
  -- 102 to 106
  fault : IsUtf8 bytes → IsFault (chars bytes) r place → BreaksRule bytes r place

-- what `tokens` answers for a file's bytes; want of memory is free
abbrev pub Answers : List ℕ → Result Tokens CheckFault → Type 0
Answers bytes (Ok ts) = HasTokens bytes ts
Answers bytes (Err (Refused r place)) = BreaksRule bytes r place
Answers bytes (Err Memory) = Unit {0}
