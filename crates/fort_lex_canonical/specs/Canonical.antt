-- The chapter "Canonical text": the one text that tokens are shown as. The code appends token after
-- token.
use Rattle.std.specs.Prelude.{ℕ, ◌==◌, if◌then◌else◌, List, [], ◌∷◌, ◌++◌, Option, Some, None, codes, get_or, encode_utf8_all, decimal}
use Rattle.std.specs.List.{flat_map}
use Rattle.fort_base.specs.declared.refusal.Gap.{Gap}
use Rattle.fort_base.specs.declared.refusal.Gap.TheVariants as gap
use Rattle.fort_ops.specs.declared.op.Op.{Op}
use Rattle.fort_ops.specs.declared.op.Op.TheVariants as an_op
use Rattle.fort_lex_token.specs.declared.token.Kind.{Kind}
use Rattle.fort_lex_token.specs.declared.token.Kind.TheVariants as kind
use Rattle.fort_lex_token.specs.declared.token.Token.{Token}
use Rattle.fort_lex_token.specs.declared.token.Tokens.{Tokens}
use Rattle.fort_lex_token.specs.declared.marks.Mark.{Mark}
use Rattle.fort_lex_token.specs.declared.reserved.Reserved.{Reserved}
use Rattle.fort_lex.specs.Spellings.{word_ascii, word_sign, mark_ascii, mark_sign}
use Rattle.fort_tree.specs.Tokens.{Spellings}

-- ---- spellings

-- the Unicode spelling, as UTF-8, where there is one, else the ASCII one
abbrev pub sign_or : Option ℕ → List ℕ → List ℕ
sign_or (Some sign) ascii = encode_utf8_all (sign ∷ [])
sign_or None ascii = ascii

-- how a reserved word is written
abbrev pub word_text : Reserved → List ℕ
word_text r = sign_or (word_sign r) (word_ascii r)

-- how another symbol is written
abbrev pub mark_text : Mark → List ℕ
mark_text m = sign_or (mark_sign m) (mark_ascii m)

-- How an operator of the table is written: by its last spelling there, which is the Unicode one
-- where it has one. Juxtaposition has none, and an operator word has its name.
abbrev pub operator_text : Op → List ℕ
operator_text an_op.Juxt = []
operator_text an_op.Times = encode_utf8_all (codes "×")
operator_text an_op.Dot = encode_utf8_all (codes "·")
operator_text an_op.Div = codes "DIV"
operator_text an_op.Rem = codes "REM"
operator_text an_op.Mod = codes "MOD"
operator_text an_op.Max = codes "MAX"
operator_text an_op.Min = codes "MIN"
operator_text an_op.Gcd = codes "GCD"
operator_text an_op.Lcm = codes "LCM"
operator_text an_op.Plus = codes "+"
operator_text an_op.Minus = codes "-"
operator_text an_op.BitAnd = codes "BITAND"
operator_text an_op.BitOr = codes "BITOR"
operator_text an_op.BitXor = codes "BITXOR"
operator_text an_op.LShift = codes "LSHIFT"
operator_text an_op.RShift = codes "RSHIFT"
operator_text an_op.Range = codes ":"
operator_text an_op.Count = codes "#"
operator_text an_op.Eq = codes "="
operator_text an_op.Ne = encode_utf8_all (codes "≠")
operator_text an_op.Lt = codes "<"
operator_text an_op.Le = encode_utf8_all (codes "≤")
operator_text an_op.Gt = codes ">"
operator_text an_op.Ge = encode_utf8_all (codes "≥")
operator_text an_op.Same = encode_utf8_all (codes "≡")
operator_text an_op.And = encode_utf8_all (codes "∧")
operator_text an_op.Or = encode_utf8_all (codes "∨")
operator_text an_op.Not = encode_utf8_all (codes "¬")
operator_text an_op.Power = codes "^"
operator_text (an_op.Word n) = []

-- how an operator is written; an operator word as its name
abbrev pub op_text : Spellings → Op → List ℕ
op_text names (an_op.Word n) = get_or names n []
op_text names op = operator_text op

-- how a byte of a text is written: a line feed, a tab, a quote and a `\` by their escapes, each
-- other one as itself
abbrev pub escaped : ℕ → List ℕ
escaped c =
    if c == 10 then 92 ∷ 110 ∷ [] else  -- \n
    if c == 9 then 92 ∷ 116 ∷ [] else  -- \t
    if c == 34 then 92 ∷ 34 ∷ [] else  -- \"
    if c == 92 then 92 ∷ 92 ∷ [] else c ∷ []

-- how a text is written: what it says, between quotes
abbrev pub quoted : List ℕ → List ℕ
quoted said = 34 ∷ (flat_map escaped said ++ 34 ∷ [])

-- how a token is written, over these names and texts
abbrev pub kind_text : Spellings → List (List ℕ) → Kind → List ℕ
kind_text names texts (kind.Word r) = word_text r
kind_text names texts (kind.Name n) = get_or names n.0 []
kind_text names texts (kind.Number n) = decimal n
kind_text names texts (kind.Text n) = quoted (get_or texts n [])
kind_text names texts (kind.Op op) = op_text names op
kind_text names texts (kind.Mark m) = mark_text m

-- ---- the text

-- how a gap is written: as nothing, as a space or as a line feed
abbrev pub gap_text : Gap → List ℕ
gap_text gap.Empty = []
gap_text gap.Space = 32 ∷ []
gap_text gap.Line = 10 ∷ []

-- a token behind its gap
abbrev pub token_text : Spellings → List (List ℕ) → Token → List ℕ
token_text names texts t = gap_text t.gap ++ kind_text names texts t.kind

-- the same tokens, where the first has no gap before it
abbrev pub without_first_gap : List Token → List Token
without_first_gap [] = []
without_first_gap (t ∷ ts) = record { kind = t.kind; gap = gap.Empty; place = t.place } ∷ ts

-- The canonical text of tokens, as UTF-8: each token behind its gap, but the first, which has none;
-- and a line feed.
abbrev pub canonical : Tokens → List ℕ
canonical tokens =
    flat_map (token_text tokens.names tokens.texts) (without_first_gap tokens.list) ++ 10 ∷ []
