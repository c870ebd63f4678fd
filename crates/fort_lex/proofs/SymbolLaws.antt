-- Every symbol stands for something: none is taken for a name.
use Rattle.std.proofs.Common.{◌≡◌, ℕ, Bool, true, false, cond, not, ◌&&◌, ◌||◌, ◌==◌, List, [], ◌∷◌, refl, sym, subst, arith}
use Rattle.std.proofs.lemmas.Bool.Decides.{nat_tests}
use Rattle.fort_lex_scan.specs.Lists.{same, among, is_among}
use Rattle.fort_lex_scan.specs.Spelling.{endings, singles, is_symbol}
use Rattle.fort_lex_scan.proofs.Symbols.{same_is}
use Rattle.fort_lex.specs.Spellings.{reserved_named, mark_named, operator_named}
use Rattle.fort_lex.specs.Meanings.{meaning_of, is_numbered}

and_both : (p q : Bool) → (p && q) ≡ true → (p ≡ true) × (q ≡ true)
and_both true q h = (refl, h)
and_both false q h = absurd cc

-- the characters that begin symbols
abbrev heads : List ℕ
heads = 60 ∷ 61 ∷ 62 ∷ 43 ∷ 45 ∷ 58 ∷ 91 ∷ 92 ∷ singles

abbrev none_named : ℕ → List (List ℕ) → Bool
none_named c [] = true
none_named c (v ∷ vs) = not (is_numbered (meaning_of (c ∷ v))) && none_named c vs

abbrev none_named_at : List ℕ → Bool
none_named_at [] = true
none_named_at (c ∷ cs) = none_named c (endings c) && none_named_at cs

all_stand : none_named_at heads ≡ true
unfolding meaning_of reserved_named mark_named operator_named
all_stand = refl

named_by : (c : ℕ) (v w : List ℕ) (vs : List (List ℕ)) (b : Bool) → same v w ≡ b
    → (b || among vs w) ≡ true → not (is_numbered (meaning_of (c ∷ v))) ≡ true
    → (among vs w ≡ true → not (is_numbered (meaning_of (c ∷ w))) ≡ true)
    → not (is_numbered (meaning_of (c ∷ w))) ≡ true
named_by c v w vs true e h n ih =
    subst (λ t. not (is_numbered (meaning_of (c ∷ t))) ≡ true) (same_is v w e) n
named_by c v w vs false e h n ih = ih h

named : (c : ℕ) (w : List ℕ) (vs : List (List ℕ)) → none_named c vs ≡ true → among vs w ≡ true
    → not (is_numbered (meaning_of (c ∷ w))) ≡ true
named c w [] n h = absurd cc
named c w (v ∷ vs) n h =
    let both = and_both (not (is_numbered (meaning_of (c ∷ v)))) (none_named c vs) n in
    named_by c v w vs (same v w) refl h both.0 (named c w vs both.1)

head_by : (c d : ℕ) (ds : List ℕ) (b : Bool) → (c == d) ≡ b → (b || is_among c ds) ≡ true
    → none_named d (endings d) ≡ true → (is_among c ds ≡ true → none_named c (endings c) ≡ true)
    → none_named c (endings c) ≡ true
head_by c d ds true e h n ih =
    let is : c ≡ d = grind (arith, nat_tests)
    in subst (λ z. none_named z (endings z) ≡ true) (sym is) n
head_by c d ds false e h n ih = ih h

head : (c : ℕ) (ds : List ℕ) → none_named_at ds ≡ true → is_among c ds ≡ true
    → none_named c (endings c) ≡ true
head c [] n h = absurd cc
head c (d ∷ ds) n h =
    let both = and_both (none_named d (endings d)) (none_named_at ds) n in
    head_by c d ds (c == d) refl h both.0 (head c ds both.1)

is_head_by : (cs : List ℕ) (e : ℕ → List (List ℕ)) (p q r s t u v w x : Bool)
    (a b c d f g h i j : List (List ℕ)) →
    among (cond p a
    (cond q b
    (cond r c (cond s d (cond t f (cond u g (cond v h (cond w i (cond x j []))))))))) cs
    ≡ true
    → (p || (q || (r || (s || (t || (u || (v || (w || x)))))))) ≡ true
is_head_by cs e true q r s t u v w x a b c d f g h i j k = refl
is_head_by cs e false true r s t u v w x a b c d f g h i j k = refl
is_head_by cs e false false true s t u v w x a b c d f g h i j k = refl
is_head_by cs e false false false true t u v w x a b c d f g h i j k = refl
is_head_by cs e false false false false true u v w x a b c d f g h i j k = refl
is_head_by cs e false false false false false true v w x a b c d f g h i j k = refl
is_head_by cs e false false false false false false true w x a b c d f g h i j k = refl
is_head_by cs e false false false false false false false true x a b c d f g h i j k = refl
is_head_by cs e false false false false false false false false true a b c d f g h i j k = refl
is_head_by cs e false false false false false false false false false a b c d f g h i j k =
    absurd cc

is_head : (c : ℕ) (cs : List ℕ) → among (endings c) cs ≡ true → is_among c heads ≡ true
is_head c cs h =
    is_head_by cs endings (c == 60) (c == 61) (c == 62) (c == 43) (c == 45) (c == 58) (c == 91)
    (c == 92) (is_among c singles) _ _ _ _ _ _ _ _ _ h

not_true : (b : Bool) → not b ≡ true → b ≡ false
not_true true h = absurd cc
not_true false h = refl

pub symbol_stands : (w : List ℕ) → is_symbol w ≡ true → is_numbered (meaning_of w) ≡ false
symbol_stands [] h = absurd cc
symbol_stands (c ∷ cs) h =
    not_true (is_numbered (meaning_of (c ∷ cs)))
    (named c cs (endings c) (head c heads all_stand (is_head c cs h)) h)
