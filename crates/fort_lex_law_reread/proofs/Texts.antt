-- What a text says, written between quotes, is read as that.
use Rattle.std.proofs.Common.{◌≡◌, ◌⊎◌, ℕ, suc, ◌<◌, ◌≤◌, ◌+◌, Bool, true, false, cond, not, ◌&&◌, ◌||◌, ◌==◌, List, [], ◌∷◌, ◌++◌, length, get_or, Option, None, Some, refl, sym, ap, ◌∙◌, arith, append_assoc}
use mathlib.Core.Logic.{inl, inr}
use lib.Utf8
use lib.Utf8.{encode}
use Rattle.std.specs.Prelude.{encode_utf8_all}
use Rattle.std.specs.List.{flat_map}
use Rattle.std.proofs.lemmas.Bool.{cases_lt}
use Rattle.std.proofs.lemmas.Bool.Decides.{nat_tests}
use Rattle.std.proofs.lemmas.List.{append-nil}
use Rattle.std.proofs.lemmas.List.Concat.{flat_map-append}
use Rattle.std.proofs.lemmas.Str.{inside_one, encode_ascii, encodes-append}
use Rattle.ucd_category.proofs.Computing.{ucd_category}
use Rattle.fort_base.specs.declared.refusal.Rule.{Rule}
use Rattle.fort_lex_scan.specs.Lists.{every}
use Rattle.fort_lex_scan.specs.Spelling.{closes_text, is_control}
use Rattle.fort_lex_scan.specs.Tokens.{is_escape}
use Rattle.fort_lex_scan.specs.Words.{text_fault}
use Rattle.fort_lex.specs.Meanings.{said_behind}
use Rattle.fort_lex_canonical.specs.Canonical.{escaped}
use Rattle.fort_lex_law_reread.proofs.Signs.{and_both}

-- what is written for some characters, and the quote that ends it
abbrev pub written : List ℕ → List ℕ
written s = flat_map escaped s ++ 34 ∷ []

equal : (c d : ℕ) → (c == d) ≡ true → c ≡ d
equal c d h = grind (arith, nat_tests)

plain : (c : ℕ) → (c == 10) ≡ false → (c == 9) ≡ false → (c == 34) ≡ false → (c == 92) ≡ false
    → escaped c ≡ c ∷ []
plain c p q r t = rw p (rw q (rw r (rw t refl)))

more : (c : ℕ) (s : List ℕ) → written (c ∷ s) ≡ escaped c ++ written s
more c s = append_assoc (escaped c) (flat_map escaped s) (34 ∷ [])

-- the four escapes, or the character itself
data Escaped (c : ℕ) : Type 0 where
  feed : c ≡ 10 → escaped c ≡ 92 ∷ 110 ∷ [] → Escaped c
  tab : c ≡ 9 → escaped c ≡ 92 ∷ 116 ∷ [] → Escaped c
  quote : c ≡ 34 → escaped c ≡ 92 ∷ 34 ∷ [] → Escaped c
  stroke : c ≡ 92 → escaped c ≡ 92 ∷ 92 ∷ [] → Escaped c
  itself : (c == 10) ≡ false → (c == 9) ≡ false → (c == 34) ≡ false → (c == 92) ≡ false
      → escaped c ≡ c ∷ [] → Escaped c

escapes_of : (c : ℕ) → Escaped c
escapes_of c = by (c == 10) (c == 9) (c == 34) (c == 92) refl refl refl refl
  where
    by : (p q r t : Bool) → (c == 10) ≡ p → (c == 9) ≡ q → (c == 34) ≡ r → (c == 92) ≡ t → Escaped c
    by true q r t a b d e = feed (equal c 10 a) (rw a refl)
    by false true r t a b d e = tab (equal c 9 b) (rw a (rw b refl))
    by false false true t a b d e = quote (equal c 34 d) (rw a (rw b (rw d refl)))
    by false false false true a b d e = stroke (equal c 92 e) (rw a (rw b (rw d (rw e refl))))
    by false false false false a b d e = itself a b d e (plain c a b d e)

-- ---- it is closed

-- what is written for a character closes no text
closes_step : (c : ℕ) (rest : List ℕ) → Escaped c → closes_text false rest ≡ true
    → closes_text false (escaped c ++ rest) ≡ true
closes_step c rest (feed i e) h = rw e h
closes_step c rest (tab i e) h = rw e h
closes_step c rest (quote i e) h = rw e h
closes_step c rest (stroke i e) h = rw e h
closes_step c rest (itself a b d f e) h = rw e (rw d (rw a (rw f h)))

pub written_closes : (s : List ℕ) → closes_text false (written s) ≡ true
written_closes [] = refl
written_closes (c ∷ s) =
    ap (closes_text false) (more c s) ∙ closes_step c (written s) (escapes_of c) (written_closes s)

-- ---- it says the characters

said_step : (c : ℕ) (rest : List ℕ) → Escaped c
    → said_behind false (escaped c ++ rest) ≡ c ∷ said_behind false rest
said_step c rest (feed i e) = rw e (ap (λ z. z ∷ said_behind false rest) (sym i))
said_step c rest (tab i e) = rw e (ap (λ z. z ∷ said_behind false rest) (sym i))
said_step c rest (quote i e) = rw e (ap (λ z. z ∷ said_behind false rest) (sym i))
said_step c rest (stroke i e) = rw e (ap (λ z. z ∷ said_behind false rest) (sym i))
said_step c rest (itself a b d f e) = rw e (rw d (rw f refl))

pub written_says : (s : List ℕ) → said_behind false (written s) ≡ s
written_says [] = refl
written_says (c ∷ s) =
    ap (said_behind false) (more c s) ∙ said_step c (written s) (escapes_of c)
    ∙ ap (λ t. c ∷ t) (written_says s)

-- ---- it breaks no rule

-- a character that a text can say: no control character but a line feed and a tab
abbrev pub is_sayable : ℕ → Bool
is_sayable c = not (is_control c) || ((c == 10) || (c == 9))

no_control : (is_control 34 ≡ false) × (is_control 92 ≡ false) × (is_control 110 ≡ false)
    × (is_control 116 ≡ false)
unfolding ucd_category
no_control = (refl, refl, refl, refl)

-- the two characters of an escape
pair_sound : (n c : ℕ) (rest : List ℕ) → is_control c ≡ false → is_escape (c ∷ rest) ≡ true
    → ((m : ℕ) → text_fault m false rest ≡ None) → text_fault n false (92 ∷ c ∷ rest) ≡ None
pair_sound n c rest k e h = rw no_control.1 (rw e (rw k (rw (off (c == 92)) (h (n + 1 + 1)))))
  where
    off : (b : Bool) → (b && false) ≡ false
    off true = refl
    off false = refl

sayable_by : (p : Bool) → (not p || (false || false)) ≡ true → p ≡ false
sayable_by true h = absurd cc
sayable_by false h = refl

sound_step : (n c : ℕ) (rest : List ℕ) → Escaped c → is_sayable c ≡ true
    → ((m : ℕ) → text_fault m false rest ≡ None) → text_fault n false (escaped c ++ rest) ≡ None
sound_step n c rest (feed i e) y h = rw e (pair_sound n 110 rest no_control.2 refl h)
sound_step n c rest (tab i e) y h = rw e (pair_sound n 116 rest no_control.3 refl h)
sound_step n c rest (quote i e) y h = rw e (pair_sound n 34 rest no_control.0 refl h)
sound_step n c rest (stroke i e) y h = rw e (pair_sound n 92 rest no_control.1 refl h)
sound_step n c rest (itself a b d f e) y h =
    let k : is_control c ≡ false =
    sayable_by (is_control c)
    (sym (ap (λ z. not (is_control c) || (z || (c == 9))) a
    ∙ ap (λ z. not (is_control c) || (false || z)) b) ∙ y) in
    rw e (rw k (rw f (h (n + 1))))

pub written_sound : (s : List ℕ) → every is_sayable s ≡ true → (n : ℕ)
    → text_fault n false (written s) ≡ None
written_sound [] y n = rw no_control.0 refl
written_sound (c ∷ s) y n =
    let b = and_both (is_sayable c) (every is_sayable s) y in
    ap (text_fault n false) (more c s)
    ∙ sound_step n c (written s) (escapes_of c) b.0 (written_sound s b.1)

-- ---- what a text without faults says

none_by : (p q : Bool) (x y : Rule × ℕ) (o : Option (Rule × ℕ))
    → cond p (Some x) (cond q (Some y) o) ≡ None → (p ≡ false) × (o ≡ None)
none_by true q x y o h = absurd cc
none_by false true x y o h = absurd cc
none_by false false x y o h = (refl, h)

or_true : (b : Bool) → (b || true) ≡ true
or_true true = refl
or_true false = refl

says_by : (c : ℕ) (p q : Bool) → is_control c ≡ false → is_sayable (cond p 10 (cond q 9 c)) ≡ true
says_by c true q h = or_true (not (is_control 10))
says_by c false true h = or_true (not (is_control 9))
says_by c false false h = rw h refl

and_true : (b : Bool) → (b && true) ≡ b
and_true true = refl
and_true false = refl

and_false : (b : Bool) → (b && false) ≡ false
and_false true = refl
and_false false = refl

-- a text without faults says no control character but line feeds and tabs
pub sayable : (n : ℕ) (b : Bool) (ys : List ℕ) → text_fault n b ys ≡ None
    → every is_sayable (said_behind b ys) ≡ true
sayable n true [] h = refl
sayable n false [] h = refl
sayable n true (c ∷ cs) h =
    let k = none_by (is_control c) (((c == 92) && false)
    && not (is_escape cs)) _ _ (text_fault (n + 1) ((c == 92) && false) cs) h in
    let rest =
    sayable (n + 1) false cs (sym (ap (λ z. text_fault (n + 1) z cs) (and_false (c == 92)))
    ∙ k.1) in
    rw (says_by c (c == 110) (c == 116) k.0) rest
sayable n false (c ∷ cs) h =
    let k = none_by (is_control c) (((c == 92) && true)
    && not (is_escape cs)) _ _ (text_fault (n + 1) ((c == 92) && true) cs) h in
    let rest =
    sayable (n + 1) (c == 92) cs (sym (ap (λ z. text_fault (n + 1) z cs) (and_true (c == 92)))
    ∙ k.1) in
    by (c == 34) (c == 92) rest k.0
  where
    by : (p q : Bool) → every is_sayable (said_behind q cs) ≡ true → is_control c ≡ false
        → every is_sayable (cond p [] (cond q (said_behind true cs) (c ∷ said_behind false cs)))
        ≡ true
    by true q r k = refl
    by false true r k = r
    by false false r k = rw k r

-- ---- as bytes

-- bytes from 128 on are written as themselves, and all bytes of a character beyond ASCII are such
high : (b : ℕ) → 128 ≤ b → escaped b ≡ b ∷ []
high b h =
    plain b (grind (arith, nat_tests)) (grind (arith, nat_tests)) (grind (arith, nat_tests))
    (grind (arith, nat_tests))

all_high : (bs : List ℕ) → ((k : ℕ) → k < length bs → 128 ≤ get_or bs k 0)
    → flat_map escaped bs ≡ bs
all_high [] h = refl
all_high (b ∷ bs) h =
    rw (high b (h 0 (omega arith))) (ap (λ t. b ∷ t) (all_high bs (λ k l. h (suc k) (omega arith))))

high_bytes : (c : ℕ) → 128 ≤ c → (k : ℕ) → k < length (encode c) → 128 ≤ get_or (encode c) k 0
high_bytes c h k l = by (cases_lt (get_or (encode c) k 0) 128)
  where
    by : (get_or (encode c) k 0 < 128) ⊎ (128 ≤ get_or (encode c) k 0) → 128 ≤ get_or (encode c) k 0
    by (inl m) =
        let e = inside_one c [] (encode c) k (sym (append-nil (encode c))) l m
        in absurd (omega arith)
    by (inr m) = m

small : (c : ℕ) → c < 128 → Escaped c → encode_utf8_all (escaped c) ≡ escaped c
unfolding lib.Utf8.encode
small c h (feed i e) = rw e refl
small c h (tab i e) = rw e refl
small c h (quote i e) = rw e refl
small c h (stroke i e) = rw e refl
small c h (itself a b d f e) = rw e (ap (λ z. z ++ []) (encode_ascii c h))

one_bytes : (c : ℕ) → flat_map escaped (encode c) ≡ encode_utf8_all (escaped c)
one_bytes c = by (cases_lt c 128)
  where
    by : (c < 128) ⊎ (128 ≤ c) → flat_map escaped (encode c) ≡ encode_utf8_all (escaped c)
    by (inl h) =
        ap (flat_map escaped) (encode_ascii c h) ∙ append-nil (escaped c)
        ∙ sym (small c h (escapes_of c))
    by (inr h) =
        all_high (encode c) (high_bytes c h) ∙ sym (append-nil (encode c))
        ∙ ap encode_utf8_all (sym (high c h))

-- escaping bytes or characters is the same
pub written_bytes : (s : List ℕ)
    → flat_map escaped (encode_utf8_all s) ≡ encode_utf8_all (flat_map escaped s)
written_bytes [] = refl
written_bytes (c ∷ s) =
    flat_map-append escaped (encode c) (encode_utf8_all s)
    ∙ ap (λ z. z ++ flat_map escaped (encode_utf8_all s)) (one_bytes c)
    ∙ ap (λ z. encode_utf8_all (escaped c) ++ z) (written_bytes s)
    ∙ sym (encodes-append (escaped c) (flat_map escaped s))
