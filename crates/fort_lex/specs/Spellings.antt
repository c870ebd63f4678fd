-- The chapter "Tokens", reserved words and other symbols by their spellings, and operators by the
-- table of `fort_ops`. The code compares a word with one spelling after another.
use Rattle.std.specs.Prelude.{ℕ, ◌-◌, Bool, false, cond, not, ◌&&◌, ◌||◌, ◌==◌, List, [], ◌∷◌, Option, None, Some, codes, nat_le, get_or, length}
use Rattle.fort_ops.specs.declared.op.Op.{Op}
use Rattle.fort_ops.specs.Spellings.{spellings}
use Rattle.fort_lex_token.specs.declared.reserved.Reserved.{Reserved}
use Rattle.fort_lex_token.specs.declared.reserved.Reserved.TheVariants as word
use Rattle.fort_lex_token.specs.declared.marks.Mark.{Mark}
use Rattle.fort_lex_token.specs.declared.marks.Mark.TheVariants as a_mark
use Rattle.fort_lex.specs.declared.reserved.TheConstants.{WORDS}
use Rattle.fort_lex.specs.declared.marks.TheConstants.{MARKS}
use Rattle.fort_lex_scan.specs.Lists.{every, same}

-- whether a word is a sign of one character, where there is one
abbrev pub is_sign : Option ℕ → List ℕ → Bool
is_sign None w = false
is_sign (Some c) w = same (c ∷ []) w

-- the ASCII spelling of a reserved word
abbrev pub word_ascii : Reserved → List ℕ
word_ascii word.Component = codes "component"
word_ascii word.Export = codes "export"
word_ascii word.Import = codes "import"
word_ascii word.Api = codes "api"
word_ascii word.End = codes "end"
word_ascii word.Trait = codes "trait"
word_ascii word.Object = codes "object"
word_ascii word.Extends = codes "extends"
word_ascii word.Excludes = codes "excludes"
word_ascii word.Comprises = codes "comprises"
word_ascii word.Opr = codes "opr"
word_ascii word.Self_ = codes "self"
word_ascii word.Var = codes "var"
word_ascii word.Do = codes "do"
word_ascii word.Also = codes "also"
word_ascii word.If = codes "if"
word_ascii word.Then = codes "then"
word_ascii word.Elif = codes "elif"
word_ascii word.Else = codes "else"
word_ascii word.While = codes "while"
word_ascii word.For = codes "for"
word_ascii word.Seq = codes "seq"
word_ascii word.Case = codes "case"
word_ascii word.Typecase = codes "typecase"
word_ascii word.Of = codes "of"
word_ascii word.Try = codes "try"
word_ascii word.Catch = codes "catch"
word_ascii word.Finally = codes "finally"
word_ascii word.Throw = codes "throw"
word_ascii word.Fn = codes "fn"
word_ascii word.Atomic = codes "atomic"
word_ascii word.Tryatomic = codes "tryatomic"
word_ascii word.Spawn = codes "spawn"
word_ascii word.True = codes "true"
word_ascii word.False = codes "false"
word_ascii word.Array = codes "array"
word_ascii word.Big = codes "BIG"
word_ascii word.Sum = codes "SUM"
word_ascii word.Prod = codes "PROD"

-- the Unicode spelling of a reserved word that has one
abbrev pub word_sign : Reserved → Option ℕ
word_sign word.Sum = Some 8721  -- ∑
word_sign word.Prod = Some 8719  -- ∏
word_sign _ = None

abbrev pub spells_word : Reserved → List ℕ → Bool
spells_word r w = same (word_ascii r) w || is_sign (word_sign r) w

-- the first of these reserved words that the characters spell
abbrev pub reserved_in : List Reserved → List ℕ → Option Reserved
reserved_in [] w = None
reserved_in (r ∷ rs) w = cond (spells_word r w) (Some r) (reserved_in rs w)

-- the reserved word that the characters spell
unfoldable pub reserved_named : List ℕ → Option Reserved
reserved_named w = reserved_in WORDS w

-- the ASCII spelling of another symbol
abbrev pub mark_ascii : Mark → List ℕ
mark_ascii a_mark.OpenStatic = 91 ∷ 92 ∷ []  -- [\
mark_ascii a_mark.CloseStatic = 92 ∷ 93 ∷ []  -- \]
mark_ascii a_mark.LeftArrow = codes "<-"
mark_ascii a_mark.RightArrow = codes "->"
mark_ascii a_mark.DoubleArrow = codes "=>"
mark_ascii a_mark.Becomes = codes ":="
mark_ascii a_mark.AddBecomes = codes "+="
mark_ascii a_mark.SubtractBecomes = codes "-="
mark_ascii a_mark.OpenParen = codes "("
mark_ascii a_mark.CloseParen = codes ")"
mark_ascii a_mark.OpenBracket = codes "["
mark_ascii a_mark.CloseBracket = codes "]"
mark_ascii a_mark.OpenBrace = codes "{"
mark_ascii a_mark.CloseBrace = codes "}"
mark_ascii a_mark.Comma = codes ","
mark_ascii a_mark.Semicolon = codes ";"
mark_ascii a_mark.Dot = codes "."

-- the Unicode spelling of another symbol that has one
abbrev pub mark_sign : Mark → Option ℕ
mark_sign a_mark.OpenStatic = Some 10214  -- ⟦
mark_sign a_mark.CloseStatic = Some 10215  -- ⟧
mark_sign a_mark.LeftArrow = Some 8592  -- ←
mark_sign a_mark.RightArrow = Some 8594  -- →
mark_sign a_mark.DoubleArrow = Some 8658  -- ⇒
mark_sign _ = None

abbrev pub spells_mark : Mark → List ℕ → Bool
spells_mark m w = same (mark_ascii m) w || is_sign (mark_sign m) w

-- the first of these symbols that the characters spell
abbrev pub mark_in : List Mark → List ℕ → Option Mark
mark_in [] w = None
mark_in (m ∷ ms) w = cond (spells_mark m w) (Some m) (mark_in ms w)

-- the symbol, no operator and no word, that the characters spell
unfoldable pub mark_named : List ℕ → Option Mark
mark_named w = mark_in MARKS w

-- the operator of the first of these rows whose spelling the characters are
abbrev pub operator_in : List (Op × List ℕ) → List ℕ → Option Op
operator_in [] w = None
operator_in (p ∷ ps) w = cond (same p.1 w) (Some p.0) (operator_in ps w)

-- the operator that the characters spell
unfoldable pub operator_named : List ℕ → Option Op
operator_named w = operator_in spellings w

-- a small ASCII letter
abbrev pub is_small : ℕ → Bool
is_small c = nat_le 97 c && nat_le c 122

-- an ASCII capital
abbrev pub is_capital : ℕ → Bool
is_capital c = nat_le 65 c && nat_le c 90

-- an ASCII capital or `_`
abbrev pub is_capital_or_bar : ℕ → Bool
is_capital_or_bar c = is_capital c || (c == 95)

-- a capital other than the given one stands among the characters
abbrev pub has_other : ℕ → List ℕ → Bool
has_other c [] = false
has_other c (d ∷ ds) = (is_capital d && not (d == c)) || has_other c ds

-- ASCII capitals with `_` only inside, at least two different letters
abbrev pub has_operator_form : List ℕ → Bool
has_operator_form w =
    every is_capital_or_bar w
    && (is_capital (get_or w 0 0)
    && (is_capital (get_or w (length w - 1) 0) && has_other (get_or w 0 0) w))
