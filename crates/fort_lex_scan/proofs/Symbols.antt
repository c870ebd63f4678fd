-- The longest symbol at the front of a text.
use Rattle.std.proofs.Common.{◌≡◌, ℕ, zero, suc, ◌≤◌, ◌<◌, ◌+◌, max, Bool, true, false, cond, not, ◌&&◌, ◌||◌, ◌==◌, ◌⊎◌, List, [], ◌∷◌, ◌++◌, length, drop, get_or, refl, sym, ap, subst, ◌∙◌, arith}
use mathlib.Core.Logic.{inl, inr}
use Rattle.std.proofs.lemmas.Bool.{cases_lt}
use Rattle.std.proofs.lemmas.Bool.Decides.{nat_tests}
use Rattle.fort_lex_scan.specs.Lists.{among, same, is_among}
use Rattle.fort_lex_scan.specs.Spelling.{endings, singles}
use Rattle.fort_lex_scan.specs.Words.{stand_at, longest_of}

and_both : (p q : Bool) → (p && q) ≡ true → (p ≡ true) × (q ≡ true)
and_both true q h = (refl, h)
and_both false q h = absurd cc

is_number : (c d : ℕ) → (c == d) ≡ true → c ≡ d
is_number c d h = grind (arith, nat_tests)

equal : (c : ℕ) → (c == c) ≡ true
equal c = grind (arith, nat_tests)

pub same_is : (v w : List ℕ) → same v w ≡ true → v ≡ w
same_is [] [] h = refl
same_is [] (d ∷ ds) h = absurd cc
same_is (c ∷ cs) [] h = absurd cc
same_is (c ∷ cs) (d ∷ ds) h =
    let b = and_both (c == d) (same cs ds) h in let is = is_number c d b.0
    in let rest = same_is cs ds b.1 in cc

pub same_refl : (v : List ℕ) → same v v ≡ true
same_refl [] = refl
same_refl (c ∷ cs) = rw (equal c) (same_refl cs)

drop_head : (i d : ℕ) (text rest : List ℕ) → drop i text ≡ d ∷ rest
    → (get_or text i 0 ≡ d) × (drop (suc i) text ≡ rest)
drop_head zero d [] rest h = absurd cc
drop_head (suc i) d [] rest h = absurd cc
drop_head zero d (x ∷ xs) rest h = (cc, cc)
drop_head (suc i) d (x ∷ xs) rest h = drop_head i d xs rest h

head_drop : (i d : ℕ) (text : List ℕ) → get_or text i 0 ≡ d → 0 < d
    → drop i text ≡ d ∷ drop (suc i) text
head_drop zero d [] h k = absurd (omega arith)
head_drop (suc i) d [] h k = absurd (omega arith)
head_drop zero d (x ∷ xs) h k = ap (λ t. t ∷ xs) h
head_drop (suc i) d (x ∷ xs) h k = head_drop i d xs h k

stand_front : (v : List ℕ) (i : ℕ) (text more : List ℕ) → drop i text ≡ v ++ more
    → stand_at v i text ≡ true
stand_front [] i text more h = refl
stand_front (d ∷ ds) i text more h =
    let t = drop_head i d text (ds ++ more) h in
    let up : suc i ≡ i + 1 = omega arith in
    rw t.0 (rw (equal d)
    (stand_front ds (i + 1) text more (subst (λ j. drop j text ≡ ds ++ more) up t.1)))

abbrev no_zero : List ℕ → Bool
no_zero [] = true
no_zero (d ∷ ds) = not (d == 0) && no_zero ds

abbrev no_zeros : List (List ℕ) → Bool
no_zeros [] = true
no_zeros (v ∷ vs) = no_zero v && no_zeros vs

some_char : (d : ℕ) → not (d == 0) ≡ true → 0 < d
some_char zero h = absurd cc
some_char (suc d) h = omega arith

stand_back : (v : List ℕ) (i : ℕ) (text : List ℕ) → no_zero v ≡ true → stand_at v i text ≡ true
    → drop i text ≡ v ++ drop (i + length v) text
stand_back [] i text n h = ap (λ j. drop j text) (omega arith)
stand_back (d ∷ ds) i text n h =
    let z = and_both (not (d == 0)) (no_zero ds) n in
    let b = and_both (get_or text i 0 == d) (stand_at ds (i + 1) text) h in
    let is = is_number (get_or text i 0) d b.0 in
    let up : suc i ≡ i + 1 = omega arith in
    let far : i + 1 + length ds ≡ i + suc (length ds) = omega arith in
    head_drop i d text is (some_char d z.0)
    ∙ ap (λ t. d ∷ t) (ap (λ j. drop j text) up ∙ stand_back ds (i + 1) text z.1 b.1
    ∙ ap (λ j. ds ++ drop j text) far)

longest_by : (table : List (List ℕ)) (v w text : List ℕ) (p q : Bool) → same v w ≡ p
    → stand_at v 1 text ≡ q → stand_at w 1 text ≡ true
    → (p || among table w) ≡ true → (among table w ≡ true → length w + 1 ≤ longest_of table text)
    → length w + 1 ≤ cond q (max (length v + 1) (longest_of table text)) (longest_of table text)
longest_by table v w text true true e f s h ih =
    let is = same_is v w e in let l = ap length is in omega arith
longest_by table v w text true false e f s h ih =
    let is = same_is v w e in let k = subst (λ t. stand_at t 1 text ≡ true) (sym is) s in absurd cc
longest_by table v w text false true e f s h ih = let l = ih h in omega arith
longest_by table v w text false false e f s h ih = ih h

-- no symbol that stands there is longer
pub symbol_longest : (table : List (List ℕ)) (w text more : List ℕ) → among table w ≡ true
    → drop 1 text ≡ w ++ more → length w + 1 ≤ longest_of table text
symbol_longest [] w text more h e = absurd cc
symbol_longest (v ∷ table) w text more h e =
    longest_by table v w text (same v w) (stand_at v 1 text) refl refl (stand_front w 1 text more e)
    h (λ k. symbol_longest table w text more k e)

larger_by : (m n : ℕ) → (m < n) ⊎ (n ≤ m) → 0 < m → (max m n ≡ m) ⊎ ((max m n ≡ n) × (0 < n))
larger_by m n (inr h) k = inl (omega arith)
larger_by m n (inl h) k = inr (omega arith, omega arith)

-- a symbol of the table that stands there, of that length
pub record Symbol (table : List (List ℕ)) (text : List ℕ) (n : ℕ) : Type 0 where
  pub word : List ℕ
  pub among_is : among table word ≡ true
  pub stands : drop 1 text ≡ word ++ drop (1 + length word) text
  pub size : length word + 1 ≡ n

or_left : (p q : Bool) → p ≡ true → (p || q) ≡ true
or_left true q h = refl
or_left false q h = absurd cc

or_right : (p q : Bool) → q ≡ true → (p || q) ≡ true
or_right true q h = refl
or_right false q h = h

later : (table : List (List ℕ)) (v text : List ℕ) (n : ℕ) → Symbol table text n
    → Symbol (v ∷ table) text n
later table v text n h =
    record {
      word = h.word;
      among_is = or_right (same v h.word) (among table h.word) h.among_is;
      stands = h.stands;
      size = h.size;
    }

this : (table : List (List ℕ)) (v text : List ℕ) (n : ℕ) → no_zero v ≡ true
    → stand_at v 1 text ≡ true → n ≡ length v + 1 → Symbol (v ∷ table) text n
this table v text n z s e =
    record {
      word = v;
      among_is = or_left (same v v) (among table v) (same_refl v);
      stands = stand_back v 1 text z s;
      size = sym e;
    }

found_by : (table : List (List ℕ)) (v text : List ℕ) (q : Bool) → stand_at v 1 text ≡ q
    → no_zero v ≡ true
    → (0 < longest_of table text → Symbol table text (longest_of table text))
    → (n : ℕ) → n ≡ cond q (max (length v + 1) (longest_of table text)) (longest_of table text)
    → 0 < n → Symbol (v ∷ table) text n
found_by table v text true e z ih n is h =
    elim (larger_by (length v + 1) (longest_of table text)
    (cases_lt (length v + 1) (longest_of table text)) (omega arith)) [
      | inl k ↦
          this table v text n z e (is ∙ k)
      | inr k ↦
          subst (Symbol (v ∷ table) text) (sym (is ∙ k.0))
          (later table v text (longest_of table text) (ih (let l = k.1 in omega arith)))
    ]
found_by table v text false e z ih n is h =
    subst (Symbol (v ∷ table) text) (sym is)
    (later table v text (longest_of table text) (ih (omega arith)))

pub symbol_found : (table : List (List ℕ)) (text : List ℕ) → no_zeros table ≡ true
    → 0 < longest_of table text → Symbol table text (longest_of table text)
symbol_found [] text z h = absurd (omega arith)
symbol_found (v ∷ table) text z h =
    let b = and_both (no_zero v) (no_zeros table) z in
    found_by table v text (stand_at v 1 text) refl b.0 (symbol_found table text b.1)
    (longest_of (v ∷ table) text) refl h

endings_by : (a b c d e f g h i : Bool) → no_zeros
    (cond a ([] ∷ (61 ∷ []) ∷ (45 ∷ []) ∷ [])
    (cond b ([] ∷ (61 ∷ 61 ∷ []) ∷ (47 ∷ 61 ∷ []) ∷ (62 ∷ []) ∷ [])
    (cond c ([] ∷ (61 ∷ []) ∷ [])
    (cond d ([] ∷ (61 ∷ []) ∷ [])
    (cond e ([] ∷ (61 ∷ []) ∷ (62 ∷ []) ∷ [])
    (cond f ([] ∷ (61 ∷ []) ∷ [])
    (cond g ([] ∷ (92 ∷ []) ∷ []) (cond h ((93 ∷ []) ∷ []) (cond i ([] ∷ []) [])))))))))
    ≡ true
endings_by true b c d e f g h i = refl
endings_by false true c d e f g h i = refl
endings_by false false true d e f g h i = refl
endings_by false false false true e f g h i = refl
endings_by false false false false true f g h i = refl
endings_by false false false false false true g h i = refl
endings_by false false false false false false true h i = refl
endings_by false false false false false false false true i = refl
endings_by false false false false false false false false true = refl
endings_by false false false false false false false false false = refl

pub endings_zero : (c : ℕ) → no_zeros (endings c) ≡ true
endings_zero c =
    endings_by (c == 60) (c == 61) (c == 62) (c == 43) (c == 45) (c == 58) (c == 91) (c == 92)
    (is_among c singles)
