-- What a spelling can be, by its first character.
use Rattle.std.proofs.Common.{◌≡◌, ℕ, ◌≤◌, ◌<◌, Bool, true, false, not, ◌&&◌, ◌||◌, ◌==◌, List, [], ◌∷◌, ◌++◌, length, take, drop, refl, sym, ap, subst, ◌∙◌, arith}
use Rattle.std.proofs.lemmas.Bool.Decides.{nat_tests}
use Rattle.std.proofs.lemmas.List.{take-append-drop, length-take-le}
use Rattle.std.proofs.lemmas.List.Sums.{prefix_len-le-length}
use Rattle.std.specs.Char.{is_ascii_digit, is_ascii_alphabetic}
use Rattle.std.specs.List.{prefix_len}
use Rattle.unicode_ident.specs.Ident.{is_xid_continue}
use Rattle.unicode_ident.proofs.IdentLemmas.{is_xid_start-ascii}
use Rattle.unicode_ident.proofs.Computing.{unicode_ident}
use Rattle.fort_lex_scan.specs.Gaps.{opens}
use Rattle.fort_lex_scan.specs.Lists.{every, is_among, among}
use Rattle.fort_lex_scan.specs.Spelling.{begins_name, is_spelling, endings, singles, closes_text}
use Rattle.fort_lex_scan.specs.Tokens.{Stands}
use Rattle.fort_lex_scan.proofs.Parts.{front_passes}

and_both : (p q : Bool) → (p && q) ≡ true → (p ≡ true) × (q ≡ true)
and_both true q h = (refl, h)
and_both false q h = absurd cc

-- the characters that begin symbols, and the quote, begin no name
pub no_name_34 : begins_name 34 ≡ false
unfolding unicode_ident
no_name_34 = refl

no_name_60 : begins_name 60 ≡ false
unfolding unicode_ident
no_name_60 = refl

no_name_61 : begins_name 61 ≡ false
unfolding unicode_ident
no_name_61 = refl

no_name_62 : begins_name 62 ≡ false
unfolding unicode_ident
no_name_62 = refl

no_name_43 : begins_name 43 ≡ false
unfolding unicode_ident
no_name_43 = refl

no_name_45 : begins_name 45 ≡ false
unfolding unicode_ident
no_name_45 = refl

no_name_58 : begins_name 58 ≡ false
unfolding unicode_ident
no_name_58 = refl

no_name_91 : begins_name 91 ≡ false
unfolding unicode_ident
no_name_91 = refl

no_name_92 : begins_name 92 ≡ false
unfolding unicode_ident
no_name_92 = refl

-- a character of one class is none of a list of characters of the other
none_among_by : (p : ℕ → Bool) (c d : ℕ) (ds : List ℕ) (b : Bool) → (c == d) ≡ b → p c ≡ true
    → (not (p d) && every (λ e. not (p e)) ds) ≡ true
    → (every (λ e. not (p e)) ds ≡ true → is_among c ds ≡ false) → (b || is_among c ds) ≡ false
none_among_by p c d ds true e h k ih =
    let is : c ≡ d = grind (arith, nat_tests) in
    let l = subst (λ z. p z ≡ true) is h
    in let m = (and_both (not (p d)) (every (λ e. not (p e)) ds) k).0 in let n = rw l at m
    in absurd cc
none_among_by p c d ds false e h k ih = ih (and_both (not (p d)) (every (λ e. not (p e)) ds) k).1

none_among : (p : ℕ → Bool) (c : ℕ) (ds : List ℕ) → p c ≡ true → every (λ e. not (p e)) ds ≡ true
    → is_among c ds ≡ false
none_among p c [] h k = refl
none_among p c (d ∷ ds) h k = none_among_by p c d ds (c == d) refl h k (λ l. none_among p c ds h l)

singles_no_name : every (λ d. not (begins_name d)) singles ≡ true
unfolding unicode_ident
singles_no_name = refl

singles_no_digit : every (λ d. not (is_ascii_digit d)) singles ≡ true
singles_no_digit = refl

differ_by : (c d : ℕ) (b : Bool) → (c == d) ≡ b → begins_name c ≡ true → begins_name d ≡ false
    → b ≡ false
differ_by c d true e h k =
    let is : c ≡ d = grind (arith, nat_tests) in let l = subst (λ z. begins_name z ≡ true) is h
    in absurd cc
differ_by c d false e h k = refl

differ : (c d : ℕ) → begins_name c ≡ true → begins_name d ≡ false → (c == d) ≡ false
differ c d h k = differ_by c d (c == d) refl h k

pub name_endings : (c : ℕ) → begins_name c ≡ true → endings c ≡ []
name_endings c h =
    rw (differ c 60 h no_name_60)
    (rw (differ c 61 h no_name_61) (rw (differ c 62 h no_name_62) (rw (differ c 43 h no_name_43)
    (rw (differ c 45 h no_name_45)
    (rw (differ c 58 h no_name_58)
    (rw (differ c 91 h no_name_91) (rw (differ c 92 h no_name_92)
    (rw (none_among begins_name c singles h singles_no_name) refl))))))))

pub name_quote : (c : ℕ) → begins_name c ≡ true → (c == 34) ≡ false
name_quote c h = differ c 34 h no_name_34

digit_start : (c : ℕ) → is_ascii_digit c ≡ true → is_ascii_alphabetic c ≡ false
digit_start c h = grind (arith, nat_tests)

digit_small : (c : ℕ) → is_ascii_digit c ≡ true → (47 < c) × (c < 58)
digit_small c h = (grind (arith, nat_tests), grind (arith, nat_tests))

digit_bar : (c : ℕ) → is_ascii_digit c ≡ true → (c == 95) ≡ false
digit_bar c h = grind (arith, nat_tests)

pub digit_name : (c : ℕ) → is_ascii_digit c ≡ true → begins_name c ≡ false
digit_name c h =
    let s = digit_small c h in let l = s.1 in
    rw (is_xid_start-ascii c (omega arith)) (rw (digit_start c h) (digit_bar c h))

name_digit_by : (c : ℕ) (b : Bool) → is_ascii_digit c ≡ b → begins_name c ≡ true → b ≡ false
name_digit_by c true e h = let k = digit_name c e in absurd cc
name_digit_by c false e h = refl

pub name_digit : (c : ℕ) → begins_name c ≡ true → is_ascii_digit c ≡ false
name_digit c h = name_digit_by c (is_ascii_digit c) refl h

pub digit_quote : (c : ℕ) → is_ascii_digit c ≡ true → (c == 34) ≡ false
digit_quote c h = grind (arith, nat_tests)

pub digit_endings : (c : ℕ) → is_ascii_digit c ≡ true → endings c ≡ []
digit_endings c h =
    let s = digit_small c h in let l = s.0 in let m = s.1 in
    let a : (c == 60) ≡ false = grind (arith, nat_tests) in
    let b : (c == 61) ≡ false = grind (arith, nat_tests) in
    let d : (c == 62) ≡ false = grind (arith, nat_tests) in
    let e : (c == 43) ≡ false = grind (arith, nat_tests) in
    let f : (c == 45) ≡ false = grind (arith, nat_tests) in
    let g : (c == 58) ≡ false = grind (arith, nat_tests) in
    let i : (c == 91) ≡ false = grind (arith, nat_tests) in
    let j : (c == 92) ≡ false = grind (arith, nat_tests) in
    rw a (rw b
    (rw d (rw e
    (rw f (rw g
    (rw i (rw j (rw (none_among is_ascii_digit c singles h singles_no_digit) refl))))))))

or_false : (b : Bool) → (b || false) ≡ b
or_false true = refl
or_false false = refl

-- a spelling that begins with a name's first character, a digit, a quote, or none of these
pub spelled_name : (c : ℕ) (vs : List ℕ) → begins_name c ≡ true
    → is_spelling (c ∷ vs) ≡ every is_xid_continue vs
spelled_name c vs h =
    rw h (rw (name_digit c h)
    (rw (name_quote c h) (rw (name_endings c h) (or_false (every is_xid_continue vs)))))

pub spelled_digit : (c : ℕ) (vs : List ℕ) → is_ascii_digit c ≡ true
    → is_spelling (c ∷ vs) ≡ every is_ascii_digit vs
spelled_digit c vs h =
    rw (digit_name c h)
    (rw h (rw (digit_quote c h) (rw (digit_endings c h) (or_false (every is_ascii_digit vs)))))

pub spelled_quote : (vs : List ℕ) → is_spelling (34 ∷ vs) ≡ closes_text false vs
spelled_quote vs = rw no_name_34 (or_false (closes_text false vs))

pub spelled_symbol : (c : ℕ) (vs : List ℕ) → begins_name c ≡ false → is_ascii_digit c ≡ false
    → (c == 34) ≡ false → is_spelling (c ∷ vs) ≡ among (endings c) vs
spelled_symbol c vs h k l = rw h (rw k (rw l refl))

-- ---- runs: names and numbers

run_longest : (p : ℕ → Bool) (vs xs more : List ℕ) → every p vs ≡ true → xs ≡ vs ++ more
    → length vs ≤ prefix_len p xs
run_longest p [] xs more h e = omega arith
run_longest p (v ∷ vs) [] more h e = absurd cc
run_longest p (v ∷ vs) (x ∷ xs) more h e =
    let is : x ≡ v = cc in
    let both = and_both (p v) (every p vs) h in
    let t : xs ≡ vs ++ more = cc in
    let ih = run_longest p vs xs more both.1 t in
    let px : p x ≡ true = ap p is ∙ both.0 in
    rw px (omega arith)

pub front_length : (p : ℕ → Bool) (xs : List ℕ)
    → length (take (prefix_len p xs) xs) ≡ prefix_len p xs
front_length p xs = length-take-le (prefix_len p xs) xs (prefix_len-le-length p xs)

run_by : (c : ℕ) (xs : List ℕ) (p : ℕ → Bool) (v more : List ℕ)
    → ((vs : List ℕ) → is_spelling (c ∷ vs) ≡ every p vs) → is_spelling v ≡ true
    → c ∷ xs ≡ v ++ more
    → length v ≤ length (c ∷ take (prefix_len p xs) xs)
run_by c xs p [] more spelled f e = absurd cc
run_by c xs p (d ∷ vs) more spelled f e =
    let is : d ≡ c = cc in
    let t : xs ≡ vs ++ more = cc in
    let l = run_longest p vs xs more (sym (spelled vs)
    ∙ subst (λ z. is_spelling (z ∷ vs) ≡ true) is f) t in
    let m = front_length p xs in omega arith

-- the text's first character begins a run
pub run_stands : (c : ℕ) (xs : List ℕ) (p : ℕ → Bool)
    → ((vs : List ℕ) → is_spelling (c ∷ vs) ≡ every p vs) → opens (c ∷ xs) ≡ false
    → Stands (c ∷ take (prefix_len p xs) xs) (c ∷ xs) (drop (prefix_len p xs) xs)
run_stands c xs p spelled o =
    let whole : c ∷ xs ≡ (c ∷ take (prefix_len p xs) xs) ++ drop (prefix_len p xs) xs =
    ap (λ t. c ∷ t) (sym (take-append-drop (prefix_len p xs) xs)) in
    record {
      whole = whole;
      apart = o;
      longest = record {
        fits = spelled (take (prefix_len p xs) xs) ∙ front_passes p xs;
        longest = λ v more f e. run_by c xs p v more spelled f (whole ∙ e);
      };
    }
