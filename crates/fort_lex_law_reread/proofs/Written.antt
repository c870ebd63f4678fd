-- What a word of the source is written as, and that it stands there.
use Rattle.std.specs.Prelude.{codes}
use Rattle.std.proofs.Common.{◌≡◌, ℕ, ◌<◌, ◌≤◌, ◌+◌, Bool, true, false, cond, not, ◌&&◌, ◌||◌, ◌==◌, List, [], ◌∷◌, ◌++◌, length, nat_lt, Option, None, Some, refl, sym, ap, subst, ◌∙◌, arith}
use Rattle.std.specs.Char.{is_ascii_digit}
use Rattle.std.specs.Fmt as fmt
use Rattle.std.proofs.lemmas.Bool.Decides.{nat_tests}
use Rattle.unicode_ident.specs.Ident.{is_xid_continue}
use Rattle.unicode_ident.proofs.Computing.{unicode_ident}
use Rattle.fort_base.specs.declared.refusal.Rule.{Rule}
use Rattle.fort_lex_scan.specs.declared.word.Shape.{Shape}
use Rattle.fort_lex_scan.specs.declared.word.Shape.TheVariants as shape
use Rattle.fort_lex_scan.specs.declared.word.Read.TheVariants.{Fault}
use Rattle.fort_lex_scan.specs.Lists.{every, among}
use Rattle.fort_lex_scan.specs.Gaps.{is_white}
use Rattle.fort_lex_scan.specs.Spelling.{begins_name, is_name, is_number, is_text, is_symbol, endings, closes_text, decimal}
use Rattle.fort_lex_scan.specs.Words.{shape_of, word_of, text_of, text_fault}
use Rattle.fort_lex_scan.specs.Tokens as tokens
use Rattle.fort_lex_scan.specs.Tokens.{Stands, BreaksNone, continues}
use Rattle.fort_lex_scan.proofs.Classes.{name_endings, digit_endings, no_name_34}
use Rattle.fort_lex_scan.proofs.Texts.{text_read}
use Rattle.fort_lex_scan.proofs.WordLaws.{WordIs, word_is}
use Rattle.std.proofs.lemmas.List.{take_at}
use Rattle.fort_lex.specs.Meanings.{meaning_of, said}
use Rattle.fort_lex_law_reread.proofs.Signs.{is_inner, IsSign, is_sign, and_both, each_of, never}
use Rattle.fort_lex_law_reread.proofs.Tables.{sign_of, sign_else, shows_as}
use Rattle.fort_lex_law_reread.proofs.Numbers.{decimal_is}
use Rattle.fort_lex_law_reread.proofs.Texts.{written, written_closes, written_sound, sayable}
use Rattle.fort_lex_law_reread.proofs.Words.{Follows, Stood, differ, digit_goes_on, name_stands, name_ends, number_stands, number_ends, text_stands, sign_stands, symbol_stands}

-- how a word of a shape is written
abbrev pub shown_shape : Shape → List ℕ → List ℕ
shown_shape (shape.Number n) w = fmt.decimal n
shown_shape shape.Text w = 34 ∷ written (said w)
shown_shape shape.Name w = sign_else (sign_of (meaning_of w)) w
shown_shape shape.Symbol w = sign_else (sign_of (meaning_of w)) w

-- how a word is written, in characters
abbrev pub shown_word : List ℕ → List ℕ
shown_word w = shown_shape (shape_of w) w

-- the ways in which a word v is written for a word w
pub data Written (w v : List ℕ) : Type 0 where
  name : (c : ℕ) (cs : List ℕ) → w ≡ c ∷ cs → v ≡ c ∷ cs → begins_name c ≡ true
      → every is_xid_continue cs ≡ true → Written w v
  symbol : (c : ℕ) (cs : List ℕ) → w ≡ c ∷ cs → v ≡ c ∷ cs → begins_name c ≡ false
      → is_ascii_digit c ≡ false → (c == 34) ≡ false
      → among (endings c) cs ≡ true → Written w v
  sign : (c : ℕ) → v ≡ c ∷ [] → IsSign c → (is_xid_continue c ≡ true → continues w ≡ true)
      → Written w v
  number : (c : ℕ) (cs : List ℕ) → v ≡ c ∷ cs → is_number w ≡ true
      → every is_ascii_digit (c ∷ cs) ≡ true → decimal 0 (c ∷ cs) ≤ 9223372036854775807
      → Written w v
  text : (ys : List ℕ) → v ≡ 34 ∷ ys → closes_text false ys ≡ true → text_fault 0 false ys ≡ None
      → Written w v

-- ---- each word is written in one of the ways

not_by : (c d : ℕ) (cs : List ℕ) (b : Bool) → (c == d) ≡ b → endings d ≡ []
    → among (endings c) cs ≡ true → b ≡ false
not_by c d cs true e n h =
    let is : c ≡ d = grind (arith, nat_tests) in
    let k = subst (λ z. among z cs ≡ true) n (subst (λ z. among (endings z) cs ≡ true) is h)
    in absurd cc
not_by c d cs false e n h = refl

-- a symbol's first character is none that begins no symbol
not_at : (c d : ℕ) (cs : List ℕ) → endings d ≡ [] → among (endings c) cs ≡ true → (c == d) ≡ false
not_at c d cs n h = not_by c d cs (c == d) refl n h

symbol_no_name : (c : ℕ) (cs : List ℕ) (b : Bool) → begins_name c ≡ b → among (endings c) cs ≡ true
    → b ≡ false
symbol_no_name c cs true e h =
    let k = subst (λ z. among z cs ≡ true) (name_endings c e) h in absurd cc
symbol_no_name c cs false e h = refl

symbol_no_digit : (c : ℕ) (cs : List ℕ) (b : Bool) → is_ascii_digit c ≡ b
    → among (endings c) cs ≡ true → b ≡ false
symbol_no_digit c cs true e h =
    let k = subst (λ z. among z cs ≡ true) (digit_endings c e) h in absurd cc
symbol_no_digit c cs false e h = refl

-- names and symbols that are written as they were
kept_name : (w : List ℕ) → is_name w ≡ true → Written w w
kept_name [] h = absurd cc
kept_name (c ∷ cs) h =
    let b = and_both (begins_name c) (every is_xid_continue cs) h in name c cs refl refl b.0 b.1

kept_symbol : (w : List ℕ) → is_symbol w ≡ true → Written w w
kept_symbol [] h = absurd cc
kept_symbol (c ∷ cs) h =
    symbol c cs refl refl (symbol_no_name c cs (begins_name c) refl h)
    (symbol_no_digit c cs (is_ascii_digit c) refl h) (not_at c 34 cs refl h) h

-- and those that have a sign
by_sign : (w : List ℕ) (o : Option ℕ) → sign_of (meaning_of w) ≡ o → Written w w
    → Written w (sign_else o w)
by_sign w (Some c) e k = let s = shows_as w c e in sign c refl (is_sign c s.among_is) s.goes_on
by_sign w None e k = k

-- a number that breaks no rule is small enough
pub number_small : (w rest : List ℕ) → is_number w ≡ true → Stands w (w ++ rest) rest
    → BreaksNone (w ++ rest) → decimal 0 w ≤ 9223372036854775807
number_small w rest n s b = by (nat_lt 9223372036854775807 (decimal 0 w)) refl
  where
    by : (c : Bool) → nat_lt 9223372036854775807 (decimal 0 w) ≡ c
        → decimal 0 w ≤ 9223372036854775807
    by true e =
        let l : 9223372036854775807 < decimal 0 w = grind (arith, nat_tests)
        in absurd (b _ _ (tokens.large w rest refl refl s n l))
    by false e = grind (arith, nat_tests)

number_by : (w v : List ℕ) → is_number w ≡ true → every is_ascii_digit v ≡ true → 0 < length v
    → decimal 0 v ≤ 9223372036854775807 → Written w v
number_by w [] n d s l = absurd (omega arith)
number_by w (c ∷ cs) n d s l = number c cs refl n d l

-- a text that breaks no rule has no fault
text_sound : (ys rest : List ℕ) → closes_text false ys ≡ true → BreaksNone (34 ∷ (ys ++ rest))
    → text_fault 0 false ys ≡ None
text_sound ys rest h b = by (text_fault 0 false ys) refl
  where
    scanned : word_of (34 ∷ (ys ++ rest)) ≡ text_of (length ys) (text_fault 0 false ys)
    scanned =
        rw no_name_34 (rw (text_read false ys rest h) (rw (take_at ys rest (length ys) refl) refl))

    by : (o : Option (Rule × ℕ)) → text_fault 0 false ys ≡ o → text_fault 0 false ys ≡ None
    by None e = e
    by (Some p) e =
        let w : WordIs (34 ∷ (ys ++ rest)) (Fault p.0 (1 + p.1)) =
        subst (WordIs (34 ∷ (ys ++ rest))) (scanned
        ∙ ap (text_of (length ys)) e) (word_is (34 ∷ (ys ++ rest)) (omega arith) refl) in
        absurd (b _ _ w.0)

text_by : (w rest : List ℕ) → is_text w ≡ true → BreaksNone (w ++ rest)
    → Written w (34 ∷ written (said w))
text_by [] rest t b = absurd cc
text_by (c ∷ ys) rest t b = by (c == 34) refl t
  where
    by : (q : Bool) → (c == 34) ≡ q → (q && closes_text false ys) ≡ true
        → Written (c ∷ ys) (34 ∷ written (said (c ∷ ys)))
    by false e h = absurd cc
    by true e h =
        let is : c ≡ 34 = grind (arith, nat_tests) in
        let none = text_sound ys rest h (subst (λ z. BreaksNone (z ∷ (ys ++ rest))) is b) in
        let s = said (c ∷ ys) in
        text (written s) refl (written_closes s) (written_sound s (sayable 0 false ys none) 0)

-- a word that stands in the source and breaks no rule is written in one of the ways
pub is_written : (w rest : List ℕ) → Stands w (w ++ rest) rest → BreaksNone (w ++ rest)
    → Written w (shown_word w)
is_written w rest s b = by (is_name w) (is_number w) (is_text w) refl refl refl s.longest.fits
  where
    by : (n m t : Bool) → is_name w ≡ n → is_number w ≡ m → is_text w ≡ t
        → (n || (m || (t || is_symbol w))) ≡ true
        → Written w
        (shown_shape
        (cond n shape.Name
        (cond m (shape.Number (decimal 0 w)) (cond t shape.Text shape.Symbol))) w)
    by true m t x y z h = by_sign w (sign_of (meaning_of w)) refl (kept_name w x)
    by false true t x y z h =
        let l = number_small w rest y s b in
        let d = decimal_is (decimal 0 w) (omega arith) in
        number_by w (fmt.decimal (decimal 0 w)) y d.digits d.some
        (subst (λ n. n ≤ 9223372036854775807) (sym d.value) l)
    by false false true x y z h = text_by w rest z b
    by false false false x y z h = by_sign w (sign_of (meaning_of w)) refl (kept_symbol w h)

-- ---- a written word stands

-- no name's character is shown where none stood
not_on : (rest shown : List ℕ) → Follows rest shown → continues rest ≡ false
    → continues shown ≡ false
not_on rest shown f e = at (continues shown) refl
  where
    at : (b : Bool) → continues shown ≡ b → b ≡ false
    at true g = let k = f.name g in absurd cc
    at false g = refl

-- what is written for a word stands where what is shown follows
pub written_stands : (w v rest shown : List ℕ) → Written w v → Stands w (w ++ rest) rest
    → BreaksNone (w ++ rest) → Follows rest shown → Stood v shown
written_stands w v rest shown (name c cs i j h k) s b f =
    let own = subst (λ z. Stands z (z ++ rest) rest) i s in
    subst (λ z. Stood z shown) (sym j)
    (name_stands c cs shown h k (not_on rest shown f (name_ends c cs rest h k own)))
written_stands w v rest shown (symbol c cs i j h k q a) s b f =
    subst (λ z. Stood z shown) (sym j)
    (symbol_stands c cs rest shown h k q (subst (λ z. Stands z (z ++ rest) rest) i s) f)
written_stands w v rest shown (sign c j g x) s b f =
    subst (λ z. Stood z shown) (sym j) (sign_stands c shown g)
written_stands w v rest shown (number c cs j n d l) s b f =
    subst (λ z. Stood z shown) (sym j)
    (number_stands c cs shown d l (not_on rest shown f (number_ends w rest n s b)))
written_stands w v rest shown (text ys j h k) s b f =
    subst (λ z. Stood z shown) (sym j) (text_stands ys shown h k)

-- ---- how a written word begins

-- The written word begins with a character that is no white space and no mark; it goes on a name
-- only where the source's word did, and it goes on a symbol only where it is that word.
pub record Begins (w v : List ℕ) : Type 0 where
  pub first : ℕ
  pub others : List ℕ
  pub is : v ≡ first ∷ others
  pub white : is_white first ≡ false
  pub mark : (first == 65279) ≡ false
  pub goes_on : is_xid_continue first ≡ true → continues w ≡ true
  pub inner : is_inner first ≡ true → v ≡ w

no_name_white : (begins_name 32 ≡ false) × (begins_name 9 ≡ false) × (begins_name 12 ≡ false)
    × (begins_name 13 ≡ false) × (begins_name 10 ≡ false) × (begins_name 65279 ≡ false)
unfolding unicode_ident
no_name_white = (refl, refl, refl, refl, refl, refl)

quote_ends : is_xid_continue 34 ≡ false
unfolding unicode_ident
quote_ends = refl

digit_white : (c : ℕ) → is_ascii_digit c ≡ true → is_white c ≡ false
digit_white c h =
    let a : (c == 32) ≡ false = grind (arith, nat_tests) in
    let b : (c == 9) ≡ false = grind (arith, nat_tests) in
    let d : (c == 12) ≡ false = grind (arith, nat_tests) in
    let e : (c == 13) ≡ false = grind (arith, nat_tests) in
    let f : (c == 10) ≡ false = grind (arith, nat_tests) in
    rw a (rw b (rw d (rw e (rw f refl))))

digit_mark : (c : ℕ) → is_ascii_digit c ≡ true → (c == 65279) ≡ false
digit_mark c h = grind (arith, nat_tests)

inner_no_digit : (c : ℕ) → is_ascii_digit c ≡ true → is_inner c ≡ true → ⊥
inner_no_digit c d h =
    let k = each_of (λ z. not (is_ascii_digit z)) c (codes "=-/>\\]*") refl h
    in absurd (both (is_ascii_digit c) d k)
  where
    both : (b : Bool) → b ≡ true → not b ≡ true → ⊥
    both true d k = absurd cc
    both false d k = absurd cc

number_on : (w : List ℕ) → is_number w ≡ true → continues w ≡ true
number_on [] h = absurd cc
number_on (c ∷ cs) h = digit_goes_on c (and_both (is_ascii_digit c) (every is_ascii_digit cs) h).0

-- each way of writing begins so
pub written_begins : (w v : List ℕ) → Written w v → Begins w v
written_begins w v (name c cs i j h k) =
    record {
      first = c;
      others = cs;
      is = j;
      white = rw (differ c 32 h no_name_white.0)
          (rw (differ c 9 h no_name_white.1)
          (rw (differ c 12 h no_name_white.2)
          (rw (differ c 13 h no_name_white.3) (rw (differ c 10 h no_name_white.4) refl))));
      mark = differ c 65279 h no_name_white.5;
      goes_on = λ x. ap continues i ∙ x;
      inner = λ x. j ∙ sym i;
    }
written_begins w v (symbol c cs i j h k q a) =
    record {
      first = c;
      others = cs;
      is = j;
      white = rw (not_at c 32 cs refl a)
          (rw (not_at c 9 cs refl a)
          (rw (not_at c 12 cs refl a)
          (rw (not_at c 13 cs refl a) (rw (not_at c 10 cs refl a) refl))));
      mark = not_at c 65279 cs refl a;
      goes_on = λ x. ap continues i ∙ x;
      inner = λ x. j ∙ sym i;
    }
written_begins w v (sign c j g x) =
    record {
      first = c;
      others = [];
      is = j;
      white = g.white;
      mark = g.mark;
      goes_on = x;
      inner = λ y. absurd (never (is_inner c) g.inner y);
    }
written_begins w v (number c cs j n d l) =
    let b = and_both (is_ascii_digit c) (every is_ascii_digit cs) d in
    record {
      first = c;
      others = cs;
      is = j;
      white = digit_white c b.0;
      mark = digit_mark c b.0;
      goes_on = λ x. number_on w n;
      inner = λ x. absurd (inner_no_digit c b.0 x);
    }
written_begins w v (text ys j h k) =
    record {
      first = 34;
      others = ys;
      is = j;
      white = refl;
      mark = refl;
      goes_on = λ x. absurd (never (is_xid_continue 34) quote_ends x);
      inner = λ x. absurd cc;
    }
