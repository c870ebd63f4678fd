-- The chapter "Tokens", what a spelling stands for. The code keeps what it found in a map.
use Rattle.std.specs.Prelude.{◌≡◌, ℕ, Bool, true, false, cond, ◌==◌, List, [], ◌∷◌, Some, slice_get, drop}
use Rattle.std.specs.Option.{option_map_or}
use Rattle.fort_lex_scan.specs.declared.word.Shape.{Shape}
use Rattle.fort_lex_scan.specs.declared.word.Shape.TheVariants as shape
use Rattle.fort_lex_scan.specs.Words.{shape_of}
use Rattle.fort_ops.specs.declared.op.Op.TheVariants as an_op
use Rattle.fort_lex.specs.declared.meaning.Meaning.{Meaning}
use Rattle.fort_lex.specs.declared.meaning.Meaning.TheVariants as a_meaning
use Rattle.fort_lex_token.specs.declared.token.Kind.{Kind}
use Rattle.fort_lex_token.specs.declared.token.Kind.TheVariants as kind
use Rattle.fort_lex.specs.Spellings.{reserved_named, mark_named, operator_named, has_operator_form}

-- a reserved word, another symbol or an operator by its table; else an operator word by its form;
-- else a name
unfoldable pub meaning_of : List ℕ → Meaning
meaning_of w =
    option_map_or (λ r. a_meaning.Word r) (reserved_named w)
    (option_map_or (λ m. a_meaning.Mark m) (mark_named w)
    (option_map_or (λ op. a_meaning.Op op) (operator_named w)
    (cond (has_operator_form w) a_meaning.OperatorWord a_meaning.Name)))

-- names and operator words have a number
abbrev pub is_numbered : Meaning → Bool
is_numbered (a_meaning.Word r) = false
is_numbered (a_meaning.Mark m) = false
is_numbered (a_meaning.Op op) = false
is_numbered a_meaning.OperatorWord = true
is_numbered a_meaning.Name = true

abbrev pub is_numbered_shape : Shape → List ℕ → Bool
is_numbered_shape (shape.Number n) w = false
is_numbered_shape shape.Text w = false
is_numbered_shape shape.Name w = is_numbered (meaning_of w)
is_numbered_shape shape.Symbol w = is_numbered (meaning_of w)

-- a name or an operator word
abbrev pub has_number : List ℕ → Bool
has_number w = is_numbered_shape (shape_of w) w

abbrev pub is_text_shape : Shape → Bool
is_text_shape (shape.Number n) = false
is_text_shape shape.Text = true
is_text_shape shape.Name = false
is_text_shape shape.Symbol = false

-- a text
abbrev pub is_text_word : List ℕ → Bool
is_text_word w = is_text_shape (shape_of w)

-- the kind of a word with that meaning; a name's number is its place among the words that have
-- numbers
abbrev pub KindFor : List (List ℕ) → List ℕ → Meaning → Kind → Type 0
KindFor words w (a_meaning.Word r) k = k ≡ kind.Word r
KindFor words w (a_meaning.Mark m) k = k ≡ kind.Mark m
KindFor words w (a_meaning.Op op) k = k ≡ kind.Op op
KindFor words w a_meaning.OperatorWord k = (n : ℕ) × (slice_get words n ≡ Some w)
    × (k ≡ kind.Op (an_op.Word n))
KindFor words w a_meaning.Name k = (n : ℕ) × (slice_get words n ≡ Some w)
    × (k ≡ kind.Name (record { 0 = n }))

abbrev pub MeansShape : List (List ℕ) → ℕ → List ℕ → Shape → Kind → Type 0
MeansShape words texts w (shape.Number n) k = k ≡ kind.Number n
MeansShape words texts w shape.Text k = k ≡ kind.Text texts
MeansShape words texts w shape.Name k = KindFor words w (meaning_of w) k
MeansShape words texts w shape.Symbol k = KindFor words w (meaning_of w) k

-- The kind is what the spelling stands for, where these words have numbers and so many texts stand
-- before it.
abbrev pub Means : List (List ℕ) → ℕ → List ℕ → Kind → Type 0
Means words texts w k = MeansShape words texts w (shape_of w) k

-- n and t stand for line feed and tab, a quote and `\` for themselves
abbrev pub escaped_char : ℕ → ℕ
escaped_char c = cond (c == 110) 10 (cond (c == 116) 9 c)

-- what a text says, behind its opening quote, where a `\` may stand directly before
abbrev pub said_behind : Bool → List ℕ → List ℕ
said_behind escaped [] = []
said_behind true (c ∷ cs) = escaped_char c ∷ said_behind false cs
said_behind false (c ∷ cs) =
    cond (c == 34) [] (cond (c == 92) (said_behind true cs) (c ∷ said_behind false cs))

-- what a text says
abbrev pub said : List ℕ → List ℕ
said w = said_behind false (drop 1 w)
