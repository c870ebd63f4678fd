-- The chapter "Tokens", the spellings of tokens by their shape. The code decides by the first
-- character.
use Rattle.std.specs.Prelude.{◌≡◌, ℕ, ◌≤◌, ◌+◌, ◌*◌, ◌-◌, Bool, true, false, cond, not, ◌&&◌, ◌||◌, ◌==◌, List, [], ◌∷◌, ◌++◌, length, codes}
use Rattle.unicode_ident.specs.Ident.{is_xid_start, is_xid_continue}
use Rattle.std.specs.Char.{is_ascii_digit}
use Rattle.unicode.specs.GeneralCategory.{general_category, general_category_eq}
use Rattle.ucd_category.specs.declared.GeneralCategory.TheVariants.{Control}
use Rattle.fort_lex_scan.specs.Lists.{every, is_among, among, is_empty}

-- the characters that begin a name: XID_Start and `_`
abbrev pub begins_name : ℕ → Bool
begins_name c = is_xid_start c || (c == 95)

-- a name, or a word that has the form of one
abbrev pub is_name : List ℕ → Bool
is_name [] = false
is_name (c ∷ cs) = begins_name c && every is_xid_continue cs

-- one or more ASCII digits, of any value
abbrev pub is_number : List ℕ → Bool
is_number [] = false
is_number (c ∷ cs) = is_ascii_digit c && every is_ascii_digit cs

-- What follows the opening quote of a text, up to its closing one, on one line. After a `\`
-- (escaped) a quote doesn't close.
abbrev pub closes_text : Bool → List ℕ → Bool
closes_text escaped [] = false
closes_text true (c ∷ cs) = not (c == 10) && closes_text false cs
closes_text false (c ∷ cs) =
    cond (c == 34) (is_empty cs) (not (c == 10) && closes_text (c == 92) cs)

-- a character of the general category Cc
abbrev pub is_control : ℕ → Bool
is_control c = general_category_eq (general_category c) Control

-- a text, whatever stands between its quotes
abbrev pub is_text : List ℕ → Bool
is_text [] = false
is_text (c ∷ cs) = (c == 34) && closes_text false cs

-- the symbols of one character that begin no longer one
abbrev pub singles : List ℕ
singles = codes "()]{},;.#^×·≠≤≥≡∧∨¬⟦⟧←→⇒∑∏"

-- the symbols that begin with a character: what may follow it
abbrev pub endings : ℕ → List (List ℕ)
endings c =
    cond (c == 60) ([] ∷ codes "=" ∷ codes "-" ∷ [])  -- < <= <-
    (cond (c == 61) ([] ∷ codes "==" ∷ codes "/=" ∷ codes ">" ∷ [])  -- = === =/= =>
    (cond (c == 62) ([] ∷ codes "=" ∷ [])  -- > >=
    (cond (c == 43) ([] ∷ codes "=" ∷ [])  -- + +=
    (cond (c == 45) ([] ∷ codes "=" ∷ codes ">" ∷ [])  -- - -= ->
    (cond (c == 58) ([] ∷ codes "=" ∷ [])  -- : :=
    (cond (c == 91) ([] ∷ (92 ∷ []) ∷ [])  -- [ [\
    (cond (c == 92) (codes "]" ∷ [])  -- \]
    (cond (is_among c singles) ([] ∷ []) []))))))))

-- an operator or another symbol, no word
abbrev pub is_symbol : List ℕ → Bool
is_symbol [] = false
is_symbol (c ∷ cs) = among (endings c) cs

-- the spellings of tokens
abbrev pub is_spelling : List ℕ → Bool
is_spelling w = is_name w || (is_number w || (is_text w || is_symbol w))

-- Of the text w ++ rest, w is the longest front that is a spelling.
pub record Longest (w rest : List ℕ) : Type 0 where
  pub fits : is_spelling w ≡ true
  pub longest : (v more : List ℕ) → is_spelling v ≡ true → w ++ rest ≡ v ++ more
      → length v ≤ length w

-- the number that digits write, behind a number already read
abbrev pub decimal : ℕ → List ℕ → ℕ
decimal n [] = n
decimal n (c ∷ cs) = decimal (n * 10 + (c - 48)) cs
