-- The chapter "Tokens", the shape of a spelling; and the word that the scan finds, as a function of
-- the text, whose meaning proofs/WordLaws.antt proves.
use Rattle.std.specs.Prelude.{ℕ, ◌+◌, max, Bool, true, false, cond, not, ◌&&◌, ◌==◌, List, [], ◌∷◌, length, take, drop, get_or, Option, None, Some, nat_lt}
use Rattle.std.specs.Option.{option_map_or}
use Rattle.std.specs.List.{prefix_len}
use Rattle.std.specs.Char.{is_ascii_digit}
use Rattle.fort_base.specs.declared.rules.TheConstants.{BAD_CHARACTER, OPEN_TEXT, BAD_ESCAPE, NUMBER_TOO_LARGE}
use Rattle.unicode_ident.specs.Ident.{is_xid_continue}
use Rattle.fort_base.specs.declared.refusal.Rule.{Rule}
use Rattle.fort_lex_scan.specs.declared.word.Shape.{Shape}
use Rattle.fort_lex_scan.specs.declared.word.Shape.TheVariants as shape
use Rattle.fort_lex_scan.specs.declared.word.Read.{Read}
use Rattle.fort_lex_scan.specs.declared.word.Read.TheVariants.{Whole, Stuck, Fault}
use Rattle.fort_lex_scan.specs.Spelling.{begins_name, is_name, is_number, is_text, is_control, endings, decimal}
use Rattle.fort_lex_scan.specs.Scan.{text_end}
use Rattle.fort_lex_scan.specs.Tokens.{is_escape, continues}

-- the shape of a spelling
abbrev pub shape_of : List ℕ → Shape
shape_of w =
    cond (is_name w) shape.Name
    (cond (is_number w) (shape.Number (decimal 0 w)) (cond (is_text w) shape.Text shape.Symbol))

-- the characters stand in the text from place i on (none of them is 0)
abbrev pub stand_at : List ℕ → ℕ → List ℕ → Bool
stand_at [] i text = true
stand_at (d ∷ ds) i text = (get_or text i 0 == d) && stand_at ds (i + 1) text

-- how long the longest of the symbols is that stands at the front, whose first character does; 0
-- for none
abbrev pub longest_of : List (List ℕ) → List ℕ → ℕ
longest_of [] text = 0
longest_of (v ∷ vs) text =
    cond (stand_at v 1 text) (max (length v + 1) (longest_of vs text)) (longest_of vs text)

abbrev pub symbol_len : List ℕ → ℕ
symbol_len text = longest_of (endings (get_or text 0 0)) text

-- the first fault behind the quote of a text, from its character n on
abbrev pub text_fault : ℕ → Bool → List ℕ → Option (Rule × ℕ)
text_fault n escaped [] = None
text_fault n escaped (c ∷ cs) = cond (is_control c) (Some (BAD_CHARACTER, n))
    (cond (((c == 92) && not escaped) && not (is_escape cs)) (Some (BAD_ESCAPE, n))
    (text_fault (n + 1) ((c == 92) && not escaped) cs))

-- a number of that many digits
abbrev pub number_of : ℕ → List ℕ → Read
number_of len text =
    cond (nat_lt 9223372036854775807 (decimal 0 (take len text))) (Fault NUMBER_TOO_LARGE 0)
    (cond (continues (drop len text)) (Stuck len)
    (Whole len (shape.Number (decimal 0 (take len text)))))

abbrev pub number_word : List ℕ → Read
number_word text = number_of (prefix_len is_ascii_digit text) text

abbrev pub text_of : ℕ → Option (Rule × ℕ) → Read
text_of n None = Whole (1 + n) shape.Text
text_of n (Some p) = Fault p.0 (1 + p.1)

abbrev pub text_word : List ℕ → Read
text_word text =
    option_map_or (λ n. text_of n (text_fault 0 false (take n (drop 1 text))))
    (text_end false (drop 1 text)) (Fault OPEN_TEXT 0)

abbrev pub symbol_word : ℕ → Read
symbol_word n = cond (n == 0) (Fault BAD_CHARACTER 0) (Whole n shape.Symbol)

abbrev pub word_of : List ℕ → Read
word_of text = let c = get_or text 0 0 in
    cond (begins_name c) (Whole (1 + prefix_len is_xid_continue (drop 1 text)) shape.Name)
    (cond (is_ascii_digit c) (number_word text)
    (cond (c == 34) (text_word text) (symbol_word (symbol_len text))))
