-- Each word stands in canonical text as it stood in the source.
use Rattle.std.proofs.Common.{◌≡◌, ◌⊎◌, ℕ, suc, ◌<◌, ◌≤◌, ◌+◌, Bool, true, false, cond, ◌&&◌, ◌||◌, ◌==◌, List, [], ◌∷◌, ◌++◌, length, take, drop, nat_lt, None, refl, sym, ap, subst, ◌∙◌, arith, append_assoc, length-append}
use mathlib.Core.Logic.{inl, inr}
use Rattle.std.specs.List.{prefix_len}
use Rattle.std.specs.Char.{is_ascii_digit}
use Rattle.std.proofs.lemmas.Bool.Decides.{nat_tests}
use Rattle.std.proofs.lemmas.List.{take_at, drop_at}
use Rattle.fort_base.specs.declared.rules.TheConstants.{BAD_CHARACTER}
use Rattle.unicode_ident.specs.Ident.{is_xid_continue}
use Rattle.unicode_ident.proofs.IdentLemmas.{is_xid_continue-ascii}
use Rattle.unicode_ident.proofs.Computing.{unicode_ident}
use Rattle.fort_lex_scan.specs.declared.word.Shape.{Shape}
use Rattle.fort_lex_scan.specs.declared.word.Shape.TheVariants as shape
use Rattle.fort_lex_scan.specs.declared.word.Read.TheVariants.{Whole, Fault}
use Rattle.fort_lex_scan.specs.Lists.{every, is_among, among, begins_with, same}
use Rattle.fort_lex_scan.specs.Gaps.{opens}
use Rattle.fort_lex_scan.specs.Spelling.{begins_name, is_number, is_spelling, endings, singles, closes_text, decimal}
use Rattle.fort_lex_scan.specs.Words.{word_of, longest_of, number_of, number_word, symbol_len, symbol_word, text_word, text_fault}
use Rattle.fort_lex_scan.specs.Tokens as tokens
use Rattle.fort_lex_scan.specs.Tokens.{Stands, BreaksNone, continues}
use Rattle.fort_lex_scan.proofs.Fronts.{same_front}
use Rattle.fort_lex_scan.proofs.Classes.{digit_name, spelled_name, spelled_symbol, no_name_34}
use Rattle.fort_lex_scan.proofs.Texts.{text_read}
use Rattle.fort_lex_scan.proofs.Symbols.{symbol_longest, same_is}
use Rattle.fort_lex_scan.proofs.WordLaws.{WordIs, word_is}
use Rattle.fort_lex_law_reread.proofs.Signs.{is_inner, IsSign, and_both}
use Rattle.fort_lex_law_reread.proofs.Numbers.{every-append}

-- ---- what stands behind a word

-- What is shown may follow wherever the source did: it goes on a name only where the source did,
-- and a symbol or an opening only as the source did.
pub record Follows (rest shown : List ℕ) : Type 0 where
  pub name : continues shown ≡ true → continues rest ≡ true
  pub inner : (x more : List ℕ) → every is_inner x ≡ true → shown ≡ x ++ more
      → (others : List ℕ) × (rest ≡ x ++ others)

-- ---- a word that the scan finds

-- The word stands at the front, and breaks no rule.
pub record Stood (v rest : List ℕ) : Type 0 where
  pub stands : Stands v (v ++ rest) rest
  pub sound : BreaksNone (v ++ rest)

-- where the scan finds the word, it stands
by_scan : (v rest : List ℕ) (k : Shape) → 0 < length v → opens (v ++ rest) ≡ false
    → word_of (v ++ rest) ≡ Whole (length v) k → Stood v rest
by_scan v rest k s o e =
    let l = length-append v rest in
    let w : WordIs (v ++ rest) (Whole (length v) k) =
    subst (WordIs (v ++ rest)) e (word_is (v ++ rest) (omega arith) o) in
    record {
      stands = subst (λ t. Stands v (v ++ rest) t) (drop_at v rest (length v) refl)
          (subst (λ t. Stands t (v ++ rest) (drop (length v) (v ++ rest)))
          (take_at v rest (length v) refl) w.0);
      sound = w.1;
    }

-- a run goes up to what doesn't pass
run_len : (p : ℕ → Bool) (cs rest : List ℕ) → every p cs ≡ true
    → ((d : ℕ) (more : List ℕ) → rest ≡ d ∷ more → p d ≡ false)
    → prefix_len p (cs ++ rest) ≡ length cs
run_len p [] [] h s = refl
run_len p [] (d ∷ rest) h s = rw (s d rest refl) refl
run_len p (c ∷ cs) rest h s =
    let b = and_both (p c) (every p cs) h in let n = run_len p cs rest b.1 s in rw b.0 (omega arith)

-- ---- names

differ_by : (c d : ℕ) (b : Bool) → (c == d) ≡ b → begins_name c ≡ true → begins_name d ≡ false
    → b ≡ false
differ_by c d true e h k =
    let is : c ≡ d = grind (arith, nat_tests) in let l = subst (λ z. begins_name z ≡ true) is h
    in absurd cc
differ_by c d false e h k = refl

-- a name's first character is none that begins no name
pub differ : (c d : ℕ) → begins_name c ≡ true → begins_name d ≡ false → (c == d) ≡ false
differ c d h k = differ_by c d (c == d) refl h k

no_name_40 : begins_name 40 ≡ false
unfolding unicode_ident
no_name_40 = refl

stops : (rest : List ℕ) → continues rest ≡ false → (d : ℕ) (more : List ℕ) → rest ≡ d ∷ more
    → is_xid_continue d ≡ false
stops rest h d more e = subst (λ t. continues t ≡ false) e h

-- a name stands before what goes on no name
pub name_stands : (c : ℕ) (cs rest : List ℕ) → begins_name c ≡ true
    → every is_xid_continue cs ≡ true → continues rest ≡ false → Stood (c ∷ cs) rest
name_stands c cs rest h k e =
    let n = run_len is_xid_continue cs rest k (stops rest e) in
    let m : 1 + prefix_len is_xid_continue (cs ++ rest) ≡ suc (length cs) = omega arith in
    by_scan (c ∷ cs) rest shape.Name (omega arith) (rw (differ c 40 h no_name_40) refl)
    (rw h (ap (λ z. Whole z shape.Name) m))

-- a name ends where no name's character follows
pub name_ends : (c : ℕ) (cs rest : List ℕ) → begins_name c ≡ true → every is_xid_continue cs ≡ true
    → Stands (c ∷ cs) (c ∷ (cs ++ rest)) rest → continues rest ≡ false
name_ends c cs [] h k s = refl
name_ends c cs (d ∷ rest) h k s = by (is_xid_continue d) refl
  where
    by : (b : Bool) → is_xid_continue d ≡ b → b ≡ false
    by true e =
        let fits : is_spelling (c ∷ (cs ++ d ∷ [])) ≡ true =
        spelled_name c (cs ++ d ∷ []) h ∙ every-append is_xid_continue cs (d ∷ []) k (rw e refl)
        in
        let l = s.longest.longest (c ∷ (cs ++ d ∷ [])) rest fits
        (ap (λ t. c ∷ t) (sym (append_assoc cs (d ∷ []) rest))) in
        let m = length-append cs (d ∷ []) in absurd (omega arith)
    by false e = refl

-- ---- numbers

-- a digit goes on a name
pub digit_goes_on : (c : ℕ) → is_ascii_digit c ≡ true → is_xid_continue c ≡ true
digit_goes_on c h =
    let s : c < 128 = grind (arith, nat_tests) in
    is_xid_continue-ascii c s ∙ grind (arith, nat_tests)

no_digit_by : (c : ℕ) (b : Bool) → is_ascii_digit c ≡ b → is_xid_continue c ≡ false → b ≡ false
no_digit_by c true e h = let k = digit_goes_on c e in absurd cc
no_digit_by c false e h = refl

-- a number ends where no name's character follows, since the rule of 102 says so
pub number_ends : (w rest : List ℕ) → is_number w ≡ true → Stands w (w ++ rest) rest
    → BreaksNone (w ++ rest) → continues rest ≡ false
number_ends w rest n s b = by (continues rest) refl
  where
    by : (c : Bool) → continues rest ≡ c → c ≡ false
    by true e = absurd (b _ _ (tokens.follows w rest refl refl s n e))
    by false e = refl

number_of_is : (v rest : List ℕ) → nat_lt 9223372036854775807 (decimal 0 v) ≡ false
    → continues rest ≡ false
    → number_of (length v) (v ++ rest) ≡ Whole (length v) (shape.Number (decimal 0 v))
number_of_is v rest a b =
    rw (take_at v rest (length v) refl) (rw (drop_at v rest (length v) refl) (rw a (rw b refl)))

no_paren : (c : ℕ) → is_ascii_digit c ≡ true → (c == 40) ≡ false
no_paren c h = grind (arith, nat_tests)

-- a number that isn't too large stands before what goes on no name
pub number_stands : (c : ℕ) (cs rest : List ℕ) → every is_ascii_digit (c ∷ cs) ≡ true
    → decimal 0 (c ∷ cs) ≤ 9223372036854775807 → continues rest ≡ false → Stood (c ∷ cs) rest
number_stands c cs rest h l e =
    let v = c ∷ cs in
    let b = and_both (is_ascii_digit c) (every is_ascii_digit cs) h in
    let n : prefix_len is_ascii_digit (v ++ rest) ≡ length v =
    run_len is_ascii_digit v rest h
    (λ d more i. no_digit_by d (is_ascii_digit d) refl (stops rest e d more i)) in
    let small : nat_lt 9223372036854775807 (decimal 0 v) ≡ false = grind (arith, nat_tests) in
    let text = c ∷ (cs ++ rest) in
    let found : word_of text ≡ Whole (length v) (shape.Number (decimal 0 v)) =
    ap (λ q. cond q (Whole (1 + prefix_len is_xid_continue (cs ++ rest)) shape.Name)
    (cond (is_ascii_digit c) (number_word text)
    (cond (c == 34) (text_word text) (symbol_word (symbol_len text))))) (digit_name c b.0)
    ∙ ap (λ q. cond q (number_word text)
    (cond (c == 34) (text_word text) (symbol_word (symbol_len text)))) b.0
    ∙ ap (λ m. number_of m text) n ∙ number_of_is v rest small e in
    by_scan v rest (shape.Number (decimal 0 v)) (omega arith) (rw (no_paren c b.0) refl) found

-- ---- texts

-- a text stands whatever follows
pub text_stands : (ys rest : List ℕ) → closes_text false ys ≡ true → text_fault 0 false ys ≡ None
    → Stood (34 ∷ ys) rest
text_stands ys rest h k =
    by_scan (34 ∷ ys) rest shape.Text (omega arith) refl
    (rw no_name_34
    (rw (text_read false ys rest h)
    (rw (take_at ys rest (length ys) refl)
    (rw k (ap (λ n. Whole n shape.Text) (omega arith))))))

-- ---- signs

-- a sign stands whatever follows
pub sign_stands : (c : ℕ) (rest : List ℕ) → IsSign c → Stood (c ∷ []) rest
sign_stands c rest s =
    by_scan (c ∷ []) rest shape.Symbol (omega arith) (rw s.paren refl)
    (rw s.name
    (rw s.digit (rw s.quote (ap (λ t. symbol_word (longest_of t (c ∷ rest))) s.ends))))

-- ---- symbols as they were

abbrev all_inner : List (List ℕ) → Bool
all_inner [] = true
all_inner (v ∷ vs) = every is_inner v && all_inner vs

-- what goes on a symbol is made of inner characters
endings_by : (a b c d e f g h i : Bool) → all_inner
    (cond a ([] ∷ (61 ∷ []) ∷ (45 ∷ []) ∷ [])
    (cond b ([] ∷ (61 ∷ 61 ∷ []) ∷ (47 ∷ 61 ∷ []) ∷ (62 ∷ []) ∷ [])
    (cond c ([] ∷ (61 ∷ []) ∷ [])
    (cond d ([] ∷ (61 ∷ []) ∷ [])
    (cond e ([] ∷ (61 ∷ []) ∷ (62 ∷ []) ∷ [])
    (cond f ([] ∷ (61 ∷ []) ∷ [])
    (cond g ([] ∷ (92 ∷ []) ∷ []) (cond h ((93 ∷ []) ∷ []) (cond i ([] ∷ []) [])))))))))
    ≡ true
endings_by true b c d e f g h i = refl
endings_by false true c d e f g h i = refl
endings_by false false true d e f g h i = refl
endings_by false false false true e f g h i = refl
endings_by false false false false true f g h i = refl
endings_by false false false false false true g h i = refl
endings_by false false false false false false true h i = refl
endings_by false false false false false false false true i = refl
endings_by false false false false false false false false true = refl
endings_by false false false false false false false false false = refl

endings_inner : (c : ℕ) → all_inner (endings c) ≡ true
endings_inner c =
    endings_by (c == 60) (c == 61) (c == 62) (c == 43) (c == 45) (c == 58) (c == 91) (c == 92)
    (is_among c singles)

among_inner : (vs : List (List ℕ)) (w : List ℕ) → all_inner vs ≡ true → among vs w ≡ true
    → every is_inner w ≡ true
among_inner [] w a h = absurd cc
among_inner (v ∷ vs) w a h =
    let b = and_both (every is_inner v) (all_inner vs) a
    in by (same v w) refl h b.0 (among_inner vs w b.1)
  where
    by : (b : Bool) → same v w ≡ b → (b || among vs w) ≡ true → every is_inner v ≡ true
        → (among vs w ≡ true → every is_inner w ≡ true) → every is_inner w ≡ true
    by true e h a ih = subst (λ t. every is_inner t ≡ true) (same_is v w e) a
    by false e h a ih = ih h

-- of two fronts of one list one begins with the other
pub fronts : (xs ys a b : List ℕ) → xs ++ a ≡ ys ++ b
    → ((z : List ℕ) × (xs ≡ ys ++ z) × (b ≡ z ++ a))
    ⊎ ((z : List ℕ) × (ys ≡ xs ++ z) × (a ≡ z ++ b))
fronts [] ys a b e = inr (ys, refl, e)
fronts (x ∷ xs) [] a b e = inl (x ∷ xs, refl, sym e)
fronts (x ∷ xs) (y ∷ ys) a b e = by (fronts xs ys a b (cc)) (cc)
  where
    by : ((z : List ℕ) × (xs ≡ ys ++ z) × (b ≡ z ++ a))
        ⊎ ((z : List ℕ) × (ys ≡ xs ++ z) × (a ≡ z ++ b)) → x ≡ y
        → ((z : List ℕ) × (x ∷ xs ≡ y ∷ (ys ++ z)) × (b ≡ z ++ a))
        ⊎ ((z : List ℕ) × (y ∷ ys ≡ x ∷ (xs ++ z)) × (a ≡ z ++ b))
    by (inl h) i = inl (h.0, ap (λ t. t ∷ xs) i ∙ ap (λ t. y ∷ t) h.1, h.2)
    by (inr h) i = inr (h.0, ap (λ t. t ∷ ys) (sym i) ∙ ap (λ t. x ∷ t) h.1, h.2)

pub every-right : (p : ℕ → Bool) (xs ys : List ℕ) → every p (xs ++ ys) ≡ true → every p ys ≡ true
every-right p [] ys h = h
every-right p (x ∷ xs) ys h = every-right p xs ys (and_both (p x) (every p (xs ++ ys)) h).1

-- no comment opens where none did
still_apart : (c : ℕ) (cs rest shown : List ℕ) → opens (c ∷ (cs ++ rest)) ≡ false
    → Follows rest shown → opens (c ∷ (cs ++ shown)) ≡ false
still_apart c (d ∷ cs) rest shown o f = o
still_apart c [] rest [] o f = and_false (c == 40)
  where
    and_false : (b : Bool) → (b && false) ≡ false
    and_false true = refl
    and_false false = refl
still_apart c [] rest (d ∷ shown) o f = by (c == 40) (d == 42) refl refl o
  where
    by : (p q : Bool) → (c == 40) ≡ p → (d == 42) ≡ q → (p && begins_with 42 rest) ≡ false
        → (p && q) ≡ false
    by false q a b o = refl
    by true false a b o = refl
    by true true a b o =
        let is : d ≡ 42 = grind (arith, nat_tests) in
        let k = f.inner (42 ∷ []) shown refl (ap (λ z. z ∷ shown) is) in
        let l = subst (λ t. begins_with 42 t ≡ false) k.1 o in absurd cc

-- no longer symbol fits where none did
not_longer : (c : ℕ) (cs rest shown v more : List ℕ) → begins_name c ≡ false
    → is_ascii_digit c ≡ false → (c == 34) ≡ false → Stands (c ∷ cs) (c ∷ (cs ++ rest)) rest
    → Follows rest shown
    → is_spelling v ≡ true → v ++ more ≡ c ∷ (cs ++ shown) → length v ≤ suc (length cs)
not_longer c cs rest shown [] more h k q s f g e = absurd cc
not_longer c cs rest shown (d ∷ vs) more h k q s f g e = by (fronts vs cs more shown (cc))
  where
    is : d ≡ c
    is = cc

    own : among (endings c) vs ≡ true
    own = sym (spelled_symbol c vs h k q) ∙ subst (λ z. is_spelling (z ∷ vs) ≡ true) is g

    by : ((z : List ℕ) × (vs ≡ cs ++ z) × (shown ≡ z ++ more))
        ⊎ ((z : List ℕ) × (cs ≡ vs ++ z) × (more ≡ z ++ shown)) → length (d ∷ vs) ≤ suc (length cs)
    by (inr z) = let l = ap length z.1 in let m = length-append vs z.0 in omega arith
    by (inl z) =
        let inside : every is_inner z.0 ≡ true =
        every-right is_inner cs z.0
        (subst (λ t. every is_inner t
        ≡ true) z.1 (among_inner (endings c) vs (endings_inner c) own)) in
        let o = f.inner z.0 more inside z.2 in
        let fits : is_spelling (c ∷ vs) ≡ true = spelled_symbol c vs h k q ∙ own in
        s.longest.longest (c ∷ vs) o.0 fits
        (ap (λ t. c ∷ t) (ap (λ t. cs ++ t) o.1 ∙ sym (append_assoc cs z.0 o.0)
        ∙ ap (λ t. t ++ o.0) (sym z.1)))

some_zero : (n : ℕ) → 0 < n → (n == 0) ≡ false
some_zero n h = grind (arith, nat_tests)

-- a symbol that is written as it was stands where what is shown follows
pub symbol_stands : (c : ℕ) (cs rest shown : List ℕ) → begins_name c ≡ false
    → is_ascii_digit c ≡ false → (c == 34) ≡ false → Stands (c ∷ cs) (c ∷ (cs ++ rest)) rest
    → Follows rest shown
    → Stood (c ∷ cs) shown
symbol_stands c cs rest shown h k q s f =
    let text = c ∷ (cs ++ shown) in
    let n = symbol_len text in
    let own : among (endings c) cs ≡ true = sym (spelled_symbol c cs h k q) ∙ s.longest.fits in
    let l = symbol_longest (endings c) cs text shown own refl in
    let found : word_of text ≡ Whole n shape.Symbol =
    rw h (rw k
    (rw q (ap (λ b. cond b (Fault BAD_CHARACTER 0) (Whole n shape.Symbol))
    (some_zero n (omega arith))))) in
    let w : WordIs text (Whole n shape.Symbol) =
    subst (WordIs text) found
    (word_is text (omega arith) (still_apart c cs rest shown s.apart f)) in
    let there : Stands (take n text) text (drop n text) = w.0 in
    let a = there.longest.longest (c ∷ cs) shown s.longest.fits (sym there.whole) in
    let b = not_longer c cs rest shown (take n text) (drop n text) h k q s f there.longest.fits
    (sym there.whole) in
    let both = same_front (take n text) (c ∷ cs) (drop n text) shown (sym there.whole) (omega arith)
    in
    record {
      stands =
          subst (λ t. Stands (c ∷ cs) text t) both.1
          (subst (λ t. Stands t text (drop n text)) both.0 there);
      sound = w.1;
    }
