-- The word at the front of a text.
use Rattle.std.proofs.Common.{◌≡◌, ℕ, suc, ◌≤◌, ◌<◌, ◌+◌, Bool, true, false, cond, ◌==◌, List, [], ◌∷◌, ◌++◌, length, take, drop, nat_lt, Option, None, Some, refl, sym, ap, subst, ◌∙◌, arith, length-append}
use mathlib.Core.Logic.{inl, inr}
use Rattle.std.proofs.lemmas.Bool.Decides.{nat_tests}
use Rattle.std.proofs.lemmas.List.{take_at, drop_at, take-append-drop, length-take-le}
use Rattle.std.specs.List.{prefix_len}
use Rattle.std.specs.Char.{is_ascii_digit}
use Rattle.std.specs.Option.{option_map_or}
use Rattle.fort_base.specs.declared.rules.TheConstants.{BAD_CHARACTER, OPEN_TEXT, NUMBER_TOO_LARGE}
use Rattle.unicode_ident.specs.Ident.{is_xid_continue}
use Rattle.ucd_category.proofs.Computing.{ucd_category}
use Rattle.fort_base.specs.declared.refusal.Rule.{Rule}
use Rattle.fort_lex_scan.specs.declared.word.Shape.{Shape}
use Rattle.fort_lex_scan.specs.declared.word.Shape.TheVariants as shape
use Rattle.fort_lex_scan.specs.declared.word.Read.{Read}
use Rattle.fort_lex_scan.specs.declared.word.Read.TheVariants.{Whole, Stuck, Fault}
use Rattle.fort_lex_scan.specs.Gaps.{opens}
use Rattle.fort_lex_scan.specs.Scan.{text_end}
use Rattle.fort_lex_scan.specs.Spelling.{begins_name, is_name, is_number, is_text, is_control, is_spelling, endings, closes_text, decimal}
use Rattle.fort_lex_scan.specs.Words.{shape_of, word_of, number_of, text_of, text_fault, text_word, symbol_word, symbol_len}
use Rattle.fort_lex_scan.specs.Tokens as tokens
use Rattle.fort_lex_scan.specs.Tokens.{Stands, Breaks, BreaksNone, continues, escapes, is_escape}
use Rattle.fort_lex_scan.proofs.Parts.{front_passes}
use Rattle.fort_lex_scan.proofs.Pieces.{stands_once}
use Rattle.fort_lex_scan.proofs.Classes.{name_digit, name_quote, digit_name, digit_quote, spelled_name, spelled_digit, spelled_quote, spelled_symbol, run_stands, front_length, no_name_34}
use Rattle.fort_lex_scan.proofs.Texts.{text_read, text_found, Found, control_found, escape_found, IsFaulty, is_faulty, pair_first}
use Rattle.fort_lex_scan.proofs.Symbols.{symbol_found, symbol_longest, endings_zero}

abbrev pub WordIs : List ℕ → Read → Type 0
WordIs text (Whole n k) = Stands (take n text) text (drop n text) × BreaksNone text
    × (k ≡ shape_of (take n text)) × (0 < n) × (n ≤ length text)
WordIs text (Stuck n) = Stands (take n text) text (drop n text) × Breaks text n BAD_CHARACTER
    × ((q : ℕ) (s : Rule) → Breaks text q s → n ≤ q) × (0 < n) × (n ≤ length text)
WordIs text (Fault r k) = Breaks text k r × ((q : ℕ) (s : Rule) → Breaks text q s → k ≤ q)
    × ((w after : List ℕ) → Stands w text after → k < length w) × (k ≤ length text)

as_word : (text w after : List ℕ) (n : ℕ) (k : Shape) → Stands w text after → length w ≡ n → 0 < n
    → BreaksNone text → k ≡ shape_of w → WordIs text (Whole n k)
as_word text w after n k s l h b e =
    let front : take n text ≡ w = ap (take n) s.whole ∙ take_at w after n l in
    let rest : drop n text ≡ after = ap (drop n) s.whole ∙ drop_at w after n l in
    let size : length text ≡ length w + length after = ap length s.whole ∙ length-append w after in (
      subst (λ t. Stands (take n text) text t) (sym rest)
          (subst (λ t. Stands t text after) (sym front) s),
      b,
      e
          ∙ ap shape_of (sym front),
      h,
      omega arith,
    )

no_comment : (text : List ℕ) → opens text ≡ false → (x : List ℕ) → text ≡ 40 ∷ 42 ∷ x → ⊥
no_comment text h x e = let k = subst (λ t. opens t ≡ false) e h in absurd cc

never : (b : Bool) → b ≡ true → b ≡ false → ⊥
never b h k = absurd cc

same_word : (p : List ℕ → Bool) {w v text x y : List ℕ} → Stands w text x → Stands v text y
    → p v ≡ true → p w ≡ true
same_word p s t h = subst (λ z. p z ≡ true) (sym (stands_once s t).0) h

-- a word that is no number and no text breaks no rule
plain_sound : (w text after : List ℕ) → Stands w text after → is_number w ≡ false
    → is_text w ≡ false → ((cs : List ℕ) → text ≡ 34 ∷ cs → ⊥) → BreaksNone text
plain_sound w text after s n t q k r (tokens.nothing c cs a b e f g h) = h w after s
plain_sound w text after s n t q k r (tokens.follows v y a b z m c) =
    never (is_number w) (same_word is_number s z m) n
plain_sound w text after s n t q k r (tokens.control v y front back c a b z m e f) =
    never (is_text w) (same_word is_text s z m) t
plain_sound w text after s n t q k r (tokens.comment a b o) = no_comment text s.apart o.0 o.1
plain_sound w text after s n t q k r (tokens.quote cs a b e f) = q cs e
plain_sound w text after s n t q k r (tokens.escape v y front back a b z m e f g) =
    never (is_text w) (same_word is_text s z m) t
plain_sound w text after s n t q k r (tokens.large v y a b z m l) =
    never (is_number w) (same_word is_number s z m) n

no_quote : (c : ℕ) (xs : List ℕ) → (c == 34) ≡ false → (cs : List ℕ) → c ∷ xs ≡ 34 ∷ cs → ⊥
no_quote c xs h cs e =
    let is : c ≡ 34 = cc in let k = subst (λ z. (z == 34) ≡ false) is h in absurd cc

-- ---- names

name_is : (c : ℕ) (xs : List ℕ) → begins_name c ≡ true → opens (c ∷ xs) ≡ false
    → WordIs (c ∷ xs) (Whole (1 + prefix_len is_xid_continue xs) shape.Name)
name_is c xs h o =
    let n = prefix_len is_xid_continue xs in
    let w = c ∷ take n xs in
    let s = run_stands c xs is_xid_continue (λ vs. spelled_name c vs h) o in
    let l = front_length is_xid_continue xs in
    let number : is_number w ≡ false = rw (name_digit c h) refl in
    let text : is_text w ≡ false = rw (name_quote c h) refl in
    let name : shape.Name ≡ shape_of w = rw h (rw (front_passes is_xid_continue xs) refl) in
    as_word (c ∷ xs) w (drop n xs) (1 + n) shape.Name s (omega arith) (omega arith)
    (plain_sound w (c ∷ xs) (drop n xs) s number text (no_quote c xs (name_quote c h))) name

-- ---- numbers

number_fault : (w text after : List ℕ) → Stands w text after → is_text w ≡ false
    → ((cs : List ℕ) → text ≡ 34 ∷ cs → ⊥) → (9223372036854775807 < decimal 0 w → ⊥)
    → (k : ℕ) (r : Rule) → Breaks text k r → (k ≡ length w) × (continues after ≡ true)
number_fault w text after s t q l k r (tokens.nothing c cs a b e f g h) = absurd (h w after s)
number_fault w text after s t q l k r (tokens.follows v y a b z m c) =
    let both = stands_once s z
    in (b ∙ ap length (sym both.0), subst (λ u. continues u ≡ true) (sym both.1) c)
number_fault w text after s t q l k r (tokens.control v y front back c a b z m e f) =
    absurd (never (is_text w) (same_word is_text s z m) t)
number_fault w text after s t q l k r (tokens.comment a b o) =
    absurd (no_comment text s.apart o.0 o.1)
number_fault w text after s t q l k r (tokens.quote cs a b e f) = absurd (q cs e)
number_fault w text after s t q l k r (tokens.escape v y front back a b z m e f g) =
    absurd (never (is_text w) (same_word is_text s z m) t)
number_fault w text after s t q l k r (tokens.large v y a b z m g) =
    absurd (l (subst (λ u. 9223372036854775807 < decimal 0 u) (sym (stands_once s z).0) g))

number_by : (w text after : List ℕ) (len : ℕ) → Stands w text after → length w ≡ len → 0 < len
    → is_name w ≡ false → is_number w ≡ true → is_text w ≡ false
    → ((cs : List ℕ) → text ≡ 34 ∷ cs → ⊥)
    → (p q : Bool) → nat_lt 9223372036854775807 (decimal 0 w) ≡ p → continues after ≡ q
    → WordIs text
    (cond p (Fault NUMBER_TOO_LARGE 0)
    (cond q (Stuck len) (Whole len (shape.Number (decimal 0 w)))))
number_by w text after len s l h a n t c true q e f =
    let large : 9223372036854775807 < decimal 0 w = grind (arith, nat_tests) in (
      tokens.large w after refl refl s n large,
      (λ k r b. omega arith),
      (λ v y z. let m = ap length (stands_once s z).0 in omega arith),
      omega arith,
    )
number_by w text after len s l h a n t c false true e f =
    let small : 9223372036854775807 < decimal 0 w → ⊥ = (λ g. grind (arith, nat_tests)) in
    let size : length text ≡ length w + length after = ap length s.whole ∙ length-append w after in
    let front : take len text ≡ w = ap (take len) s.whole ∙ take_at w after len l in
    let rest : drop len text ≡ after = ap (drop len) s.whole ∙ drop_at w after len l in (
      subst (λ u. Stands (take len text) text u) (sym rest)
          (subst (λ u. Stands u text after) (sym front) s),
      tokens.follows w after refl (sym l) s n f,
      (λ k r b. let m = (number_fault w text after s t c small k r b).0 in omega arith),
      h,
      omega arith,
    )
number_by w text after len s l h a n t c false false e f =
    let small : 9223372036854775807 < decimal 0 w → ⊥ = (λ g. grind (arith, nat_tests)) in
    let number : shape.Number (decimal 0 w) ≡ shape_of w = rw a (rw n refl) in
    as_word text w after len (shape.Number (decimal 0 w)) s l h
    (λ k r b. never (continues after) (number_fault w text after s t c small k r b).1 f) number

number_is : (c : ℕ) (xs : List ℕ) → is_ascii_digit c ≡ true → opens (c ∷ xs) ≡ false → (len : ℕ)
    → len ≡ 1 + prefix_len is_ascii_digit xs → WordIs (c ∷ xs) (number_of len (c ∷ xs))
number_is c xs h o len e =
    let n = prefix_len is_ascii_digit xs in
    let w = c ∷ take n xs in
    let up : suc n ≡ len = omega arith in
    let s = run_stands c xs is_ascii_digit (λ vs. spelled_digit c vs h) o in
    let l = front_length is_ascii_digit xs in
    let name : is_name w ≡ false = rw (digit_name c h) refl in
    let number : is_number w ≡ true = rw h (front_passes is_ascii_digit xs) in
    let text : is_text w ≡ false = rw (digit_quote c h) refl in
    subst (λ m. WordIs (c ∷ xs) (number_of m (c ∷ xs))) up
    (number_by w (c ∷ xs) (drop n xs) (suc n) s (omega arith) (omega arith) name number text
    (no_quote c xs (digit_quote c h)) (nat_lt 9223372036854775807 (decimal 0 w))
    (continues (drop n xs)) refl refl)

-- ---- symbols

symbol_front : (c : ℕ) (xs w after : List ℕ) → begins_name c ≡ false → is_ascii_digit c ≡ false
    → (c == 34) ≡ false → c ∷ xs ≡ w ++ after → is_spelling w ≡ true
    → length w ≤ symbol_len (c ∷ xs)
symbol_front c xs [] after h k q e s = absurd cc
symbol_front c xs (d ∷ vs) after h k q e s =
    let is : d ≡ c = cc in
    let rest : xs ≡ vs ++ after = cc in
    let a = sym (spelled_symbol c vs h k q) ∙ subst (λ z. is_spelling (z ∷ vs) ≡ true) is s in
    let l = symbol_longest (endings c) vs (c ∷ xs) after a rest in omega arith

is_zero : (n : ℕ) → (n == 0) ≡ true → n ≡ 0
is_zero n h = grind (arith, nat_tests)

is_some : (n : ℕ) → (n == 0) ≡ false → 0 < n
is_some n h = grind (arith, nat_tests)

symbol_is : (c : ℕ) (xs : List ℕ) → begins_name c ≡ false → is_ascii_digit c ≡ false
    → (c == 34) ≡ false → opens (c ∷ xs) ≡ false
    → (b : Bool) → (symbol_len (c ∷ xs) == 0) ≡ b
    → WordIs (c ∷ xs) (cond b (Fault BAD_CHARACTER 0) (Whole (symbol_len (c ∷ xs)) shape.Symbol))
symbol_is c xs h k q o true e =
    let none = is_zero (symbol_len (c ∷ xs)) e in
    let no_word : (w after : List ℕ) → Stands w (c ∷ xs) after
    → ⊥ = (λ w after s. empty w after s none) in (
      tokens.nothing c xs refl refl refl (λ is. no_quote c xs q xs (ap (λ z. z ∷ xs) is)) o no_word,
      (λ n r b. omega arith),
      (λ v y z. absurd (no_word v y z)),
      omega arith,
    )
  where
    some_front : (w after : List ℕ) → Stands w (c ∷ xs) after → 0 < length w
    some_front [] after s = let f = s.longest.fits in absurd cc
    some_front (d ∷ w) after s = omega arith

    empty : (w after : List ℕ) → Stands w (c ∷ xs) after → symbol_len (c ∷ xs) ≡ 0 → ⊥
    empty w after s z =
        let l = symbol_front c xs w after h k q s.whole s.longest.fits
        in let m = some_front w after s in omega arith
symbol_is c xs h k q o false e =
    let n = symbol_len (c ∷ xs) in
    let f = symbol_found (endings c) (c ∷ xs) (endings_zero c) (is_some n e) in
    let w = c ∷ f.word in
    let after = drop (1 + length f.word) (c ∷ xs) in
    let whole : c ∷ xs ≡ w ++ after = ap (λ t. c ∷ t) f.stands in
    let size = f.size in
    let s : Stands w (c ∷ xs) after = record {
      whole = whole;
      apart = o;
      longest = record {
        fits = spelled_symbol c f.word h k q ∙ f.among_is;
        longest = λ v more g i. let l = symbol_front c xs v more h k q (whole ∙ i) g in omega arith;
      };
    } in
    let name : is_name w ≡ false = rw h refl in
    let number : is_number w ≡ false = rw k refl in
    let text : is_text w ≡ false = rw q refl in
    let means : shape.Symbol ≡ shape_of w = rw name (rw number (rw text refl)) in
    as_word (c ∷ xs) w after n shape.Symbol s (omega arith) (is_some n e)
    (plain_sound w (c ∷ xs) after s number text (no_quote c xs q)) means

-- ---- texts

quote_by : (xs v more : List ℕ) (n : ℕ) → text_end false xs ≡ Some n → is_spelling v ≡ true
    → 34 ∷ xs ≡ v ++ more → length v ≡ suc n
quote_by xs [] more n e f i = absurd cc
quote_by xs (d ∷ vs) more n e f i =
    let is : d ≡ 34 = cc in
    let rest : xs ≡ vs ++ more = cc in
    let closes = sym (spelled_quote vs) ∙ subst (λ z. is_spelling (z ∷ vs) ≡ true) is f in
    let both : ◌≡◌ {A = Option ℕ} (Some (length vs)) (Some n) =
    sym (text_read false vs more closes) ∙ ap (text_end false) (sym rest) ∙ e in
    let same : length vs ≡ n = cc in omega arith

open_text : (xs : List ℕ) → text_end false xs ≡ None → (w after : List ℕ) → 34 ∷ xs ≡ w ++ after
    → is_text w ≡ true → ⊥
open_text xs e [] after i t = absurd cc
open_text xs e (d ∷ vs) after i t =
    let is : d ≡ 34 = cc in
    let rest : xs ≡ vs ++ after = cc in
    let closes : closes_text false vs ≡ true = subst (λ z. is_text (z ∷ vs) ≡ true) is t in
    let both = sym (text_read false vs after closes) ∙ ap (text_end false) (sym rest) ∙ e
    in absurd cc

-- no word stands where a text isn't closed
open_none : (xs w after : List ℕ) → text_end false xs ≡ None → Stands w (34 ∷ xs) after → ⊥
open_none xs [] after e s = let f = s.longest.fits in absurd cc
open_none xs (d ∷ vs) after e s =
    let whole = s.whole in
    let is : d ≡ 34 = cc in
    let spelled : is_spelling (34 ∷ vs) ≡ true =
    subst (λ z. is_spelling (z ∷ vs) ≡ true) is s.longest.fits in
    open_text xs e (d ∷ vs) after s.whole
    (subst (λ z. is_text (z ∷ vs) ≡ true) (sym is) (sym (spelled_quote vs) ∙ spelled))

quote_no_control : is_control 34 ≡ false
unfolding ucd_category
quote_no_control = refl

control_in : (ys front back : List ℕ) (c : ℕ) → 34 ∷ ys ≡ front ++ c ∷ back → is_control c ≡ true
    → (at : ℕ) × (length front ≡ suc at) × Found 0 false ys at
control_in ys [] back c e h =
    let is : c ≡ 34 = cc
    in absurd (never (is_control 34) (subst (λ z. is_control z ≡ true) is h) quote_no_control)
control_in ys (d ∷ front) back c e h =
    (length front, refl, control_found 0 false ys front back c (cc) h)

-- a fault where the text stands is one that text_fault finds
text_broken : (ys after text : List ℕ) → Stands (34 ∷ ys) text after → (k : ℕ) (r : Rule)
    → Breaks text k r → (at : ℕ) × (k ≡ suc at) × Found 0 false ys at
text_broken ys after text s k r (tokens.nothing c cs a b e f g h) = absurd (h (34 ∷ ys) after s)
text_broken ys after text s k r (tokens.follows v y a b z m c) =
    let n = same_word is_number s z m in absurd cc
text_broken ys after text s k r (tokens.control v y front back c a b z m e f) =
    let t = control_in ys front back c ((stands_once s z).0 ∙ e) f in (t.0, b ∙ t.1, t.2)
text_broken ys after text s k r (tokens.comment a b o) = absurd (no_comment text s.apart o.0 o.1)
text_broken ys after text s k r (tokens.quote cs a b e f) =
    absurd (f (34 ∷ ys) after s.whole (sym (spelled_quote ys) ∙ s.longest.fits))
text_broken ys after text s k r (tokens.escape v y front back a b z m e f g) =
    let w : 34 ∷ ys ≡ 34 ∷ (front ++ 92 ∷ back) = (stands_once s z).0 ∙ e in
    let rest : ys ≡ front ++ 92 ∷ back = cc in
    (length front, b, escape_found 0 false ys front back rest f g)
text_broken ys after text s k r (tokens.large v y a b z m l) =
    let n = same_word is_number s z m in absurd cc

no_fault : (ys : List ℕ) (at : ℕ) → text_fault 0 false ys ≡ None → Found 0 false ys at → ⊥
no_fault ys at e f = let i = sym f.is ∙ e in absurd cc

same_fault : (ys : List ℕ) (at m : ℕ) (r : Rule) → text_fault 0 false ys ≡ Some (r, m)
    → Found 0 false ys at → m ≤ at
same_fault ys at m r e f =
    let p = pair_first f.r r f.m m (sym f.is ∙ e) in let l = f.early in let q = p.1 in omega arith

fault_of : (ys after text : List ℕ) (m : ℕ) (r : Rule) → Stands (34 ∷ ys) text after
    → is_text (34 ∷ ys) ≡ true → IsFaulty 0 false ys r m → Breaks text (1 + m) r
fault_of ys after text m r s t f =
    let place = f.place in
    let more : suc (length f.front) ≡ 1 + m = omega arith in
    subst (λ k. Breaks text k r) more (elim f.fault [
      | inl c ↦
          tokens.control (34 ∷ ys) after (34 ∷ f.front) f.back f.c c.0 refl s t
          (ap (λ z. 34 ∷ z) f.whole) c.1
      | inr e ↦
          tokens.escape (34 ∷ ys) after f.front f.back e.0 refl s t
          (ap (λ z. 34 ∷ z) (f.whole ∙ ap (λ z. f.front ++ z ∷ f.back) e.1)) e.2 e.3
    ])

faulty_inside : (ys : List ℕ) (m : ℕ) (r : Rule) → IsFaulty 0 false ys r m → m < length ys
faulty_inside ys m r f =
    let a = f.place in let l = ap length f.whole in let k = length-append f.front (f.c ∷ f.back)
    in omega arith

text_by : (ys after text : List ℕ) (n : ℕ) → Stands (34 ∷ ys) text after → is_text (34 ∷ ys) ≡ true
    → shape.Text ≡ shape_of (34 ∷ ys) → length ys ≡ n
    → (o : Option (Rule × ℕ)) → text_fault 0 false ys ≡ o → WordIs text (text_of n o)
text_by ys after text n s t g l None e =
    as_word text (34 ∷ ys) after (1 + n) shape.Text s (omega arith) (omega arith)
    (λ k r b. let f = text_broken ys after text s k r b in no_fault ys f.0 e f.2) g
text_by ys after text n s t g l (Some p) e =
    let f = is_faulty 0 false ys p.0 p.1 e in
    let i = faulty_inside ys p.1 p.0 f in
    let size : length text ≡ length (34 ∷ ys) + length after =
    ap length s.whole ∙ length-append (34 ∷ ys) after in (
      fault_of ys after text p.1 p.0 s t f,
      (λ k r b. let h = text_broken ys after text s k r b in let m = same_fault ys h.0 p.1 p.0 e h.2
          in let q = h.1 in omega arith),
      (λ v y z. let m = ap length (stands_once s z).0 in omega arith),
      omega arith,
    )

text_end_by : (xs : List ℕ) → opens (34 ∷ xs) ≡ false → (o : Option ℕ) → text_end false xs ≡ o
    → WordIs (34 ∷ xs)
    (option_map_or (λ n. text_of n (text_fault 0 false (take n xs))) o (Fault OPEN_TEXT 0))
text_end_by xs o None e = (
  tokens.quote xs refl refl refl (open_text xs e),
  (λ k r b. omega arith),
  (λ v y z. absurd (open_none xs v y e z)),
  omega arith,
)
text_end_by xs o (Some n) e =
    let f = text_found false xs n e in
    let ys = take n xs in
    let after = drop n xs in
    let whole : 34 ∷ xs ≡ (34 ∷ ys) ++ after = ap (λ t. 34 ∷ t) (sym (take-append-drop n xs)) in
    let size : length ys ≡ n = length-take-le n xs f.within in
    let s : Stands (34 ∷ ys) (34 ∷ xs) after = record {
      whole = whole;
      apart = o;
      longest = record {
        fits = spelled_quote ys ∙ f.closes;
        longest = λ v more g i. let l = quote_by xs v more n e g (whole ∙ i) in omega arith;
      };
    } in
    let means : shape.Text ≡ shape_of (34 ∷ ys) = rw no_name_34 (rw f.closes refl) in
    text_by ys after (34 ∷ xs) n s f.closes means size (text_fault 0 false ys) refl

text_is : (xs : List ℕ) → opens (34 ∷ xs) ≡ false → WordIs (34 ∷ xs) (text_word (34 ∷ xs))
text_is xs o = text_end_by xs o (text_end false xs) refl

by_quote : (c : ℕ) (xs : List ℕ) (b : Bool) → (c == 34) ≡ b → begins_name c ≡ false
    → is_ascii_digit c ≡ false → opens (c ∷ xs) ≡ false
    → WordIs (c ∷ xs) (cond b (text_word (c ∷ xs)) (symbol_word (symbol_len (c ∷ xs))))
by_quote c xs true e h k o =
    let is : c ≡ 34 = grind (arith, nat_tests) in
    subst (λ z. WordIs (z ∷ xs) (text_word (z ∷ xs))) (sym is)
    (text_is xs (subst (λ z. opens (z ∷ xs) ≡ false) is o))
by_quote c xs false e h k o = symbol_is c xs h k e o (symbol_len (c ∷ xs) == 0) refl

by_digit : (c : ℕ) (xs : List ℕ) (b : Bool) → is_ascii_digit c ≡ b → begins_name c ≡ false
    → opens (c ∷ xs) ≡ false
    → WordIs (c ∷ xs)
    (cond b (number_of (cond b (1 + prefix_len is_ascii_digit xs) 0) (c ∷ xs))
    (cond (c == 34) (text_word (c ∷ xs)) (symbol_word (symbol_len (c ∷ xs)))))
by_digit c xs true e h o = number_is c xs e o (1 + prefix_len is_ascii_digit xs) refl
by_digit c xs false e h o = by_quote c xs (c == 34) refl h e o

by_name : (c : ℕ) (xs : List ℕ) (b : Bool) → begins_name c ≡ b → opens (c ∷ xs) ≡ false
    → WordIs (c ∷ xs)
    (cond b (Whole (1 + prefix_len is_xid_continue xs) shape.Name)
    (cond (is_ascii_digit c) (number_of (prefix_len is_ascii_digit (c ∷ xs)) (c ∷ xs))
    (cond (c == 34) (text_word (c ∷ xs)) (symbol_word (symbol_len (c ∷ xs))))))
by_name c xs true e o = name_is c xs e o
by_name c xs false e o = by_digit c xs (is_ascii_digit c) refl e o

pub word_is : (text : List ℕ) → 0 < length text → opens text ≡ false → WordIs text (word_of text)
word_is [] h k = absurd (omega arith)
word_is (c ∷ xs) h k = by_name c xs (begins_name c) refl k
