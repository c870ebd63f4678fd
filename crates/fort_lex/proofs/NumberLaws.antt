-- The numbers in a token are those of names and texts that are there.
use Rattle.std.proofs.Common.{◌≡◌, ℕ, zero, suc, ◌+◌, ◌<◌, ◌≤◌, Bool, true, false, cond, ◌&&◌, List, [], ◌∷◌, ◌++◌, length, get_or, Option, None, Some, Result, Ok, Err, refl, sym, ap, subst, ◌∙◌, arith}
use Rattle.std.specs.Prelude.{encode_utf8_all, IfOk}
use Rattle.std.specs.Option.{option_map_or}
use Rattle.std.proofs.lemmas.Option.{slice_get_within}
use Rattle.std.proofs.lemmas.List.{length-map}
use Rattle.fort_base.specs.declared.refusal.CheckFault.{CheckFault}
use Rattle.fort_base.specs.declared.refusal.Place.{Place}
use Rattle.fort_ops.specs.declared.op.Op.{Op}
use Rattle.fort_ops.specs.declared.op.Op.TheVariants as an_op
use Rattle.fort_ops.specs.Spellings.{spellings}
use Rattle.fort_lex_scan.specs.Lists.{same}
use Rattle.fort_lex_scan.specs.Places.{place_after, the_start}
use Rattle.fort_lex_scan.specs.Tokens.{Piece}
use Rattle.fort_lex_scan.specs.declared.word.Shape.{Shape}
use Rattle.fort_lex_scan.specs.declared.word.Shape.TheVariants as shape
use Rattle.fort_lex_scan.specs.Words.{shape_of}
use Rattle.fort_lex_token.specs.declared.reserved.Reserved.{Reserved}
use Rattle.fort_lex_token.specs.declared.marks.Mark.{Mark}
use Rattle.fort_lex.specs.declared.meaning.Meaning.{Meaning}
use Rattle.fort_lex.specs.declared.meaning.Meaning.TheVariants as a_meaning
use Rattle.fort_lex_token.specs.declared.token.Kind.{Kind}
use Rattle.fort_lex_token.specs.declared.token.Token.{Token}
use Rattle.fort_lex_token.specs.declared.token.Tokens.{Tokens}
use Rattle.fort_lex.specs.Spellings.{reserved_named, mark_named, operator_in, operator_named, has_operator_form}
use Rattle.fort_lex.specs.Meanings.{meaning_of, is_text_shape, is_text_word, KindFor, MeansShape, said}
use Rattle.fort_lex.specs.Files.{names_of, texts_of, texts_after, AreTokens, StandsFor, IsOpWithin, IsKindWithin, HasItsNumbers}
use Rattle.fort_lex.specs.Building.{TextAnswers}

and_both : (p q : Bool) → (p && q) ≡ true → (p ≡ true) × (q ≡ true)
and_both true q h = (refl, h)
and_both false q h = absurd cc

-- ---- operators of the table have no number

is_plain : Op → Bool
is_plain (an_op.Word n) = false
is_plain _ = true

plain_within : (names : ℕ) (op : Op) → is_plain op ≡ true → IsOpWithin names op
unfolding is_plain
plain_within names (an_op.Word n) h = absurd cc
plain_within names _ h = tt

abbrev all_plain : List (Op × List ℕ) → Bool
all_plain [] = true
all_plain (p ∷ ps) = is_plain p.0 && all_plain ps

table_plain : all_plain spellings ≡ true
unfolding is_plain
table_plain = refl

found_plain : (ps : List (Op × List ℕ)) (w : List ℕ) (op : Op) → all_plain ps ≡ true
    → operator_in ps w ≡ Some op → is_plain op ≡ true
found_plain [] w op a h = absurd cc
found_plain (p ∷ ps) w op a h =
    let both = and_both (is_plain p.0) (all_plain ps) a
    in by (same p.1 w) h both.0 (found_plain ps w op both.1)
  where
    by : (b : Bool) → cond b (Some p.0) (operator_in ps w) ≡ Some op → is_plain p.0 ≡ true
        → (operator_in ps w ≡ Some op → is_plain op ≡ true) → is_plain op ≡ true
    by true e n ih = let is : p.0 ≡ op = cc in subst (λ o. is_plain o ≡ true) is n
    by false e n ih = ih e

named_plain : (w : List ℕ) (op : Op) → operator_named w ≡ Some op → is_plain op ≡ true
unfolding operator_named
named_plain w op h = found_plain spellings w op table_plain h

op_from : (r : Option Reserved) (m : Option Mark) (o : Option Op) (b : Bool) (op : Op)
    → option_map_or (λ r. a_meaning.Word r) r
    (option_map_or (λ m. a_meaning.Mark m) m
    (option_map_or (λ op. a_meaning.Op op) o (cond b a_meaning.OperatorWord a_meaning.Name)))
    ≡ a_meaning.Op op → o ≡ Some op
op_from (Some r) m o b op h = absurd cc
op_from None (Some m) o b op h = absurd cc
op_from None None (Some x) b op h = cc
op_from None None None true op h = absurd cc
op_from None None None false op h = absurd cc

op_named : (w : List ℕ) (op : Op) → meaning_of w ≡ a_meaning.Op op → operator_named w ≡ Some op
unfolding meaning_of
op_named w op h =
    op_from (reserved_named w) (mark_named w) (operator_named w) (has_operator_form w) op h

-- ---- a token

meaning_within : (words : List (List ℕ)) (w : List ℕ) (m : Meaning) (k : Kind) (texts : ℕ)
    → meaning_of w ≡ m → KindFor words w m k → IsKindWithin (length words) texts k
meaning_within words w (a_meaning.Word r) k texts e h =
    subst (IsKindWithin (length words) texts) (sym h) tt
meaning_within words w (a_meaning.Mark m) k texts e h =
    subst (IsKindWithin (length words) texts) (sym h) tt
meaning_within words w (a_meaning.Op op) k texts e h =
    subst (IsKindWithin (length words) texts) (sym h)
    (plain_within (length words) op (named_plain w op (op_named w op e)))
meaning_within words w a_meaning.OperatorWord k texts e h =
    subst (IsKindWithin (length words) texts) (sym h.2) (slice_get_within words h.0 w h.1)
meaning_within words w a_meaning.Name k texts e h =
    subst (IsKindWithin (length words) texts) (sym h.2) (slice_get_within words h.0 w h.1)

shape_within : (words : List (List ℕ)) (before texts : ℕ) (w : List ℕ) (s : Shape) (k : Kind)
    → (is_text_shape s ≡ true → before < texts) → MeansShape words before w s k
    → IsKindWithin (length words) texts k
shape_within words before texts w (shape.Number n) k l h =
    subst (IsKindWithin (length words) texts) (sym h) tt
shape_within words before texts w shape.Text k l h =
    subst (IsKindWithin (length words) texts) (sym h) (l refl)
shape_within words before texts w shape.Name k l h =
    meaning_within words w (meaning_of w) k texts refl h
shape_within words before texts w shape.Symbol k l h =
    meaning_within words w (meaning_of w) k texts refl h

-- ---- all tokens

abbrev AllWithin : ℕ → ℕ → List Token → Type 0
AllWithin names texts [] = Unit {0}
AllWithin names texts (t ∷ ts) = IsKindWithin names texts t.kind × AllWithin names texts ts

text_there : (before texts : ℕ) (p : Piece) (ps : List Piece)
    → before + length (texts_of (p ∷ ps)) ≤ texts → is_text_word p.word ≡ true → before < texts
text_there before texts p ps l h =
    let e : length (texts_of (p ∷ ps)) ≡ suc (length (texts_of ps)) =
    ap (λ b. length (cond b (encode_utf8_all (said p.word) ∷ texts_of ps) (texts_of ps))) h
    in omega arith

texts_left : (before texts : ℕ) (p : Piece) (ps : List Piece)
    → before + length (texts_of (p ∷ ps)) ≤ texts
    → texts_after before p.word + length (texts_of ps) ≤ texts
texts_left before texts p ps l = by (is_text_word p.word) l
  where
    by : (b : Bool)
        → before + length (cond b (encode_utf8_all (said p.word) ∷ texts_of ps) (texts_of ps))
        ≤ texts → cond b (before + 1) before + length (texts_of ps) ≤ texts
    by true l = omega arith
    by false l = l

all_within : (words : List (List ℕ)) (place : Place) (before texts : ℕ) (ps : List Piece)
    (ts : List Token) → before + length (texts_of ps) ≤ texts → AreTokens words place before ps ts
    → AllWithin (length words) texts ts
all_within words place before texts [] ts l h = subst (AllWithin (length words) texts) (sym h) tt
all_within words place before texts (p ∷ ps) ts l h =
    let first =
    shape_within words before texts p.word (shape_of p.word) h.0.kind
    (text_there before texts p ps l) h.3.kind in
    let rest =
    all_within words (place_after place (p.gap ++ p.word)) (texts_after before p.word) texts ps
    h.1 (texts_left before texts p ps l) h.4 in
    subst (AllWithin (length words) texts) (sym h.2) (first, rest)

at_each : (names texts : ℕ) (ts : List Token) → AllWithin names texts ts → (k : ℕ) (d : Token)
    → k < length ts → IsKindWithin names texts (get_or ts k d).kind
at_each names texts [] h k d l = absurd (omega arith)
at_each names texts (t ∷ ts) h zero d l = h.0
at_each names texts (t ∷ ts) h (suc k) d l = at_each names texts ts h.1 k d (omega arith)

numbers_stand : (ps : List Piece) (ts : Tokens) → StandsFor ps ts → HasItsNumbers ts
numbers_stand ps ts h =
    let t = ap length h.texts in
    let n = ap length h.names ∙ length-map (names_of ps) encode_utf8_all in
    let all = all_within (names_of ps) the_start 0 (length ts.texts) ps ts.list (omega arith) h.list
    in
    at_each (length ts.names) (length ts.texts) ts.list
    (subst (λ m. AllWithin m (length ts.texts) ts.list) (sym n) all)

pub text_numbers : (text : List ℕ) (r : Result Tokens CheckFault) → TextAnswers text r
    → IfOk r HasItsNumbers
text_numbers text (Ok ts) h = numbers_stand h.0 ts h.2
text_numbers text (Err e) h = tt
