-- A word that is written anew stands for the same.
use Rattle.std.specs.Prelude.{encode_utf8_all, slice_get}
use Rattle.std.specs.List.{flat_map}
use Rattle.std.proofs.Common.{◌≡◌, ℕ, zero, suc, ◌<◌, ◌≤◌, Bool, true, false, cond, ◌==◌, List, [], ◌∷◌, ◌++◌, map, length, get_or, drop, Option, None, Some, refl, sym, ap, subst, ◌∙◌, arith}
use Rattle.std.proofs.Math.Utf8.{scalar, scalars}
use lib.Utf8.{low_scalar}
use Rattle.std.specs.Char.{is_ascii_digit}
use Rattle.std.specs.Fmt as fmt
use Rattle.std.proofs.lemmas.Bool.Decides.{nat_tests}
use Rattle.std.proofs.lemmas.Fmt.{IsAscii-decimal}
use Rattle.std.proofs.lemmas.Str.{encodes-IsAscii, encodes-append, encode_ascii}
use Rattle.fort_lex_scan.specs.declared.word.Shape.{Shape}
use Rattle.fort_lex_scan.specs.declared.word.Shape.TheVariants as shape
use Rattle.fort_lex_scan.specs.Lists.{every}
use Rattle.fort_lex_scan.specs.Spelling.{is_name, is_number, is_text, decimal}
use Rattle.fort_lex_scan.specs.Words.{shape_of}
use Rattle.fort_lex_scan.proofs.Classes.{digit_name, no_name_34}
use Rattle.fort_lex_token.specs.declared.token.Kind.{Kind}
use Rattle.fort_lex_token.specs.declared.token.Kind.TheVariants as kind
use Rattle.fort_lex.specs.declared.meaning.Meaning.{Meaning}
use Rattle.fort_lex.specs.declared.meaning.Meaning.TheVariants as a_meaning
use Rattle.fort_lex.specs.Meanings.{meaning_of, is_numbered, is_numbered_shape, has_number, is_text_shape, is_text_word, KindFor, MeansShape, Means, escaped_char, said, said_behind}
use Rattle.fort_lex_canonical.specs.Canonical.{escaped, quoted, kind_text}
use Rattle.fort_lex_law_reread.proofs.Signs.{IsSign, is_sign, and_both, never}
use Rattle.fort_lex_law_reread.proofs.Tables.{sign_of, sign_else, shows_as, kind_any, word_written, mark_written, op_written}
use Rattle.fort_lex_law_reread.proofs.Numbers.{decimal_is}
use Rattle.fort_lex_law_reread.proofs.Texts.{written, written_closes, written_says, written_bytes}
use Rattle.fort_lex_law_reread.proofs.Written.{shown_shape, shown_word}

-- ---- characters

-- characters of Unicode, one list behind another
pub scalars-append : (xs ys : List ℕ) → scalars xs ≡ true → scalars ys ≡ true
    → scalars (xs ++ ys) ≡ true
scalars-append [] ys h k = k
scalars-append (x ∷ xs) ys h k =
    let b = and_both (scalar x) (scalars xs) h in rw b.0 (scalars-append xs ys b.1 k)

pub scalars-split : (xs ys : List ℕ) → scalars (xs ++ ys) ≡ true
    → (scalars xs ≡ true) × (scalars ys ≡ true)
scalars-split [] ys h = (refl, h)
scalars-split (x ∷ xs) ys h =
    let b = and_both (scalar x) (scalars (xs ++ ys)) h in
    let c = scalars-split xs ys b.1 in (rw b.0 c.0, c.1)

digit_scalars : (ds : List ℕ) → every is_ascii_digit ds ≡ true → scalars ds ≡ true
digit_scalars [] h = refl
digit_scalars (d ∷ ds) h =
    let b = and_both (is_ascii_digit d) (every is_ascii_digit ds) h in
    let p = b.0 in
    let small : d < 55296 = grind (arith, nat_tests) in
    rw (low_scalar d small) (digit_scalars ds b.1)

escaped_scalars : (c : ℕ) → scalar c ≡ true → scalars (escaped c) ≡ true
escaped_scalars c h = by (c == 10) (c == 9) (c == 34) (c == 92)
  where
    by : (p q r t : Bool)
        → scalars
        (cond p (92 ∷ 110 ∷ [])
        (cond q (92 ∷ 116 ∷ []) (cond r (92 ∷ 34 ∷ []) (cond t (92 ∷ 92 ∷ []) (c ∷ [])))))
        ≡ true
    by true q r t = refl
    by false true r t = refl
    by false false true t = refl
    by false false false true = refl
    by false false false false = rw h refl

written_scalars : (s : List ℕ) → scalars s ≡ true → scalars (flat_map escaped s) ≡ true
written_scalars [] h = refl
written_scalars (c ∷ s) h =
    let b = and_both (scalar c) (scalars s) h
    in scalars-append (escaped c) (flat_map escaped s) (escaped_scalars c b.0)
    (written_scalars s b.1)

escaped_char_scalar : (c : ℕ) → scalar c ≡ true → scalar (escaped_char c) ≡ true
escaped_char_scalar c h = by (c == 110) (c == 116)
  where
    by : (p q : Bool) → scalar (cond p 10 (cond q 9 c)) ≡ true
    by true q = refl
    by false true = refl
    by false false = h

-- what a text says is characters of Unicode, and so is what is written for it
said_scalars : (b : Bool) (ys : List ℕ) → scalars ys ≡ true → scalars (said_behind b ys) ≡ true
said_scalars true [] h = refl
said_scalars false [] h = refl
said_scalars true (c ∷ ys) h =
    let b = and_both (scalar c) (scalars ys) h
    in rw (escaped_char_scalar c b.0) (said_scalars false ys b.1)
said_scalars false (c ∷ ys) h =
    let b = and_both (scalar c) (scalars ys) h
    in by (c == 34) (c == 92) b.0 (said_scalars true ys b.1) (said_scalars false ys b.1)
  where
    by : (p q : Bool) → scalar c ≡ true → scalars (said_behind true ys) ≡ true
        → scalars (said_behind false ys) ≡ true
        → scalars (cond p [] (cond q (said_behind true ys) (c ∷ said_behind false ys))) ≡ true
    by true q x y z = refl
    by false true x y z = y
    by false false x y z = rw x z

rest_scalars : (w : List ℕ) → scalars w ≡ true → scalars (drop 1 w) ≡ true
rest_scalars [] h = refl
rest_scalars (c ∷ w) h = (and_both (scalar c) (scalars w) h).1

-- ---- what the word stands for

-- The word v stands for what w does, and is the bytes that canonical text has for it.
pub record Keeps (w v : List ℕ) : Type 0 where
  pub means : (words : List (List ℕ)) (texts : ℕ) (k : Kind) → Means words texts w k
      → Means words texts v k
  pub text : is_text_word v ≡ is_text_word w
  pub numbered : has_number v ≡ has_number w
  pub named : has_number w ≡ true → v ≡ w
  pub says : is_text_word w ≡ true → said v ≡ said w
  pub bytes : (words table : List (List ℕ)) (texts : ℕ) (k : Kind) → Means words texts w k
      → (is_text_word w ≡ true → get_or table texts [] ≡ encode_utf8_all (said w))
      → kind_text (map encode_utf8_all words) table k ≡ encode_utf8_all v
  pub scalars_are : scalars w ≡ true → scalars v ≡ true

-- the bytes of a name
name_at : (words : List (List ℕ)) (n : ℕ) (w : List ℕ) → slice_get words n ≡ Some w
    → get_or (map encode_utf8_all words) n [] ≡ encode_utf8_all w
name_at [] n w h = absurd cc
name_at (v ∷ words) zero w h = let is : v ≡ w = cc in ap encode_utf8_all is
name_at (v ∷ words) (suc n) w h = name_at words n w h

-- the bytes of a word of the tables, of a name or of an operator word
kind_bytes : (words table : List (List ℕ)) (w : List ℕ) (m : Meaning) (k : Kind) → meaning_of w ≡ m
    → KindFor words w m k
    → kind_text (map encode_utf8_all words) table k ≡ encode_utf8_all (sign_else (sign_of m) w)
kind_bytes words table w (a_meaning.Word r) k e h =
    ap (kind_text (map encode_utf8_all words) table) h ∙ word_written w r e
kind_bytes words table w (a_meaning.Mark m) k e h =
    ap (kind_text (map encode_utf8_all words) table) h ∙ mark_written w m e
kind_bytes words table w (a_meaning.Op op) k e h =
    ap (kind_text (map encode_utf8_all words) table) h
    ∙ op_written (map encode_utf8_all words) w op e
kind_bytes words table w a_meaning.OperatorWord k e h =
    ap (kind_text (map encode_utf8_all words) table) h.2 ∙ name_at words h.0 w h.1
kind_bytes words table w a_meaning.Name k e h =
    ap (kind_text (map encode_utf8_all words) table) h.2 ∙ name_at words h.0 w h.1

-- ---- names and symbols

-- a sign is a symbol
sign_shape : (c : ℕ) → IsSign c → shape_of (c ∷ []) ≡ shape.Symbol
sign_shape c s = rw s.name (rw s.digit (rw s.quote refl))

-- a name or a symbol, by its meaning
abbrev IsWord : List ℕ → Shape → Type 0
IsWord w s = (shape_of w ≡ s) × (is_text_shape s ≡ false)
    × ((words : List (List ℕ)) (texts : ℕ) (k : Kind) → MeansShape words texts w s k
    → KindFor words w (meaning_of w) k)
    × (is_numbered_shape s w ≡ is_numbered (meaning_of w))

-- a name or a symbol is written by its sign, or as it was
kept_as : (w : List ℕ) (s : Shape) → IsWord w s → (o : Option ℕ) → sign_of (meaning_of w) ≡ o
    → Keeps w (sign_else o w)
kept_as w s h None e =
    record {
      means = λ words texts k m. m;
      text = refl;
      numbered = refl;
      named = λ n. refl;
      says = λ t. refl;
      bytes = λ words table texts k m t.
          kind_bytes words table w (meaning_of w) k refl
          (h.2 words texts k (subst (λ z. MeansShape words texts w z k) h.0 m))
          ∙ ap (λ o. encode_utf8_all (sign_else o w)) e;
      scalars_are = λ x. x;
    }
kept_as w s h (Some c) e =
    let a = shows_as w c e in
    let g = is_sign c a.among_is in
    let shape_is = sign_shape c g in
    let plain : is_numbered (meaning_of (c ∷ [])) ≡ false = ap is_numbered a.means ∙ a.plain in
    let none : has_number w ≡ false = ap (λ z. is_numbered_shape z w) h.0 ∙ h.3 ∙ a.plain in
    record {
      means = λ words texts k m.
          let l : KindFor words w (meaning_of w) k =
          h.2 words texts k (subst (λ z. MeansShape words texts w z k) h.0 m) in
          let n : KindFor words (c ∷ []) (meaning_of (c ∷ [])) k =
          subst (λ z. KindFor words (c ∷ []) z k) (sym a.means)
          (kind_any words w (c ∷ []) (meaning_of w) k a.plain l) in
          subst (λ z. MeansShape words texts (c ∷ []) z k) (sym shape_is) n;
      text = ap is_text_shape shape_is ∙ sym (ap is_text_shape h.0 ∙ h.1);
      numbered = ap (λ z. is_numbered_shape z (c ∷ [])) shape_is ∙ plain ∙ sym none;
      named = λ n. absurd (never (has_number w) none n);
      says = λ t. absurd (never (is_text_word w) (ap is_text_shape h.0 ∙ h.1) t);
      bytes = λ words table texts k m t.
          kind_bytes words table w (meaning_of w) k refl
          (h.2 words texts k (subst (λ z. MeansShape words texts w z k) h.0 m))
          ∙ ap (λ o. encode_utf8_all (sign_else o w)) e;
      scalars_are = λ x. rw g.scalar_is refl;
    }

-- ---- numbers

-- digits are a number
number_shape : (c : ℕ) (cs : List ℕ) → every is_ascii_digit (c ∷ cs) ≡ true
    → shape_of (c ∷ cs) ≡ shape.Number (decimal 0 (c ∷ cs))
number_shape c cs h =
    let b = and_both (is_ascii_digit c) (every is_ascii_digit cs) h in
    let name : is_name (c ∷ cs) ≡ false = rw (digit_name c b.0) refl in
    rw name (rw h refl)

number_shape_of : (n : ℕ) (v : List ℕ) → every is_ascii_digit v ≡ true → 0 < length v
    → decimal 0 v ≡ n → shape_of v ≡ shape.Number n
number_shape_of n [] d s e = absurd (omega arith)
number_shape_of n (c ∷ cs) d s e = number_shape c cs d ∙ ap (λ z. shape.Number z) e

kept_number : (w : List ℕ) (n : ℕ) → shape_of w ≡ shape.Number n → n ≤ 9223372036854775807
    → Keeps w (fmt.decimal n)
kept_number w n e l =
    let d = decimal_is n (omega arith) in
    let is = number_shape_of n (fmt.decimal n) d.digits d.some d.value in
    record {
      means = λ words texts k m. subst (λ z. MeansShape words texts (fmt.decimal n) z k) (sym is)
          (subst (λ z. MeansShape words texts w z k) e m);
      text = ap is_text_shape is ∙ sym (ap is_text_shape e);
      numbered =
          ap (λ z. is_numbered_shape z (fmt.decimal n)) is
          ∙ sym (ap (λ z. is_numbered_shape z w) e);
      named = λ h. absurd (never (has_number w) (ap (λ z. is_numbered_shape z w) e) h);
      says = λ h. absurd (never (is_text_word w) (ap is_text_shape e) h);
      bytes = λ words table texts k m t. written_number words table k
          (subst (λ z. MeansShape words texts w z k) e m);
      scalars_are = λ h. digit_scalars (fmt.decimal n) d.digits;
    }
  where
    written_number : (words table : List (List ℕ)) (k : Kind) → k ≡ kind.Number n
        → kind_text (map encode_utf8_all words) table k ≡ encode_utf8_all (fmt.decimal n)
    written_number words table k h =
        ap (kind_text (map encode_utf8_all words) table) h
        ∙ sym (encodes-IsAscii (fmt.decimal n) (IsAscii-decimal n (omega arith)))

-- ---- texts

text_shape : (ys : List ℕ) → is_text (34 ∷ ys) ≡ true → shape_of (34 ∷ ys) ≡ shape.Text
text_shape ys h = rw no_name_34 (rw h refl)

quote_byte : encode_utf8_all (34 ∷ []) ≡ 34 ∷ []
quote_byte = ap (λ z. z ++ []) (encode_ascii 34 (omega arith))

-- what is said, in bytes
quoted_bytes : (s : List ℕ) → quoted (encode_utf8_all s) ≡ encode_utf8_all (34 ∷ written s)
quoted_bytes s =
    ap (λ z. 34 ∷ (z ++ 34 ∷ [])) (written_bytes s)
    ∙ ap (λ z. 34 ∷ (encode_utf8_all (flat_map escaped s) ++ z)) (sym quote_byte)
    ∙ ap (λ z. 34 ∷ z) (sym (encodes-append (flat_map escaped s) (34 ∷ [])))
    ∙ ap (λ z. z ++ encode_utf8_all (written s)) (sym (encode_ascii 34 (omega arith)))

kept_text : (w : List ℕ) → shape_of w ≡ shape.Text → Keeps w (34 ∷ written (said w))
kept_text w e =
    let v = 34 ∷ written (said w) in
    let is = text_shape (written (said w)) (written_closes (said w)) in
    record {
      means = λ words texts k m. subst (λ z. MeansShape words texts v z k) (sym is)
          (subst (λ z. MeansShape words texts w z k) e m);
      text = ap is_text_shape is ∙ sym (ap is_text_shape e);
      numbered = ap (λ z. is_numbered_shape z v) is ∙ sym (ap (λ z. is_numbered_shape z w) e);
      named = λ h. absurd (never (has_number w) (ap (λ z. is_numbered_shape z w) e) h);
      says = λ h. written_says (said w);
      bytes = λ words table texts k m t.
          let said_there = t (ap is_text_shape e) in
          ap (kind_text (map encode_utf8_all words) table)
          (subst (λ z. MeansShape words texts w z k) e m) ∙ ap quoted said_there
          ∙ quoted_bytes (said w);
      scalars_are =
          λ h. scalars-append (flat_map escaped (said w)) (34 ∷ [])
          (written_scalars (said w) (said_scalars false (drop 1 w) (rest_scalars w h))) refl;
    }

-- ---- each word

pub keeps : (w : List ℕ) → (is_number w ≡ true → decimal 0 w ≤ 9223372036854775807)
    → Keeps w (shown_word w)
keeps w l = by (is_name w) (is_number w) (is_text w) refl l
  where
    by : (n m t : Bool)
        → shape_of w
        ≡ cond n shape.Name (cond m (shape.Number (decimal 0 w)) (cond t shape.Text shape.Symbol))
        → (m ≡ true → decimal 0 w ≤ 9223372036854775807)
        → Keeps w
        (shown_shape
        (cond n shape.Name
        (cond m (shape.Number (decimal 0 w)) (cond t shape.Text shape.Symbol))) w)
    by true m t e l =
        kept_as w shape.Name (e, refl, (λ words texts k h. h), refl) (sign_of (meaning_of w)) refl
    by false true t e l = kept_number w (decimal 0 w) e (l refl)
    by false false true e l = kept_text w e
    by false false false e l =
        kept_as w shape.Symbol (e, refl, (λ words texts k h. h), refl) (sign_of (meaning_of w)) refl
