-- The tokens of a file stand at places of their own.
use Rattle.std.proofs.Common.{◌≡◌, ℕ, ◌+◌, ◌<◌, ◌≤◌, ◌⊎◌, Bool, true, false, cond, ◌==◌, ◌&&◌, List, [], ◌∷◌, ◌++◌, length, chars, inl, inr, refl, sym, ap, subst, ◌∙◌, arith}
use Rattle.std.proofs.lemmas.Bool.Decides.{nat_tests}
use Rattle.fort_base.specs.declared.refusal.Place.{Place}
use Rattle.fort_lex_token.specs.declared.token.Token.{Token}
use Rattle.fort_lex_token.specs.declared.token.Tokens.{Tokens}
use Rattle.fort_lex_scan.specs.Chain.{Chain}
use Rattle.fort_lex_scan.specs.Gaps.{mark, body}
use Rattle.fort_lex_scan.specs.Tokens.{Piece, IsToken, with_mark}
use Rattle.fort_lex_scan.specs.Spelling.{is_spelling}
use Rattle.fort_lex_scan.specs.Places.{place_after, the_start}
use Rattle.fort_lex.specs.Files.{AreTokens, IsTokenOf, HasTokens, names_of, texts_after}

-- the first place stands before the second, or is it
abbrev pub IsUpTo : Place → Place → Type 0
IsUpTo p q = (p.line < q.line) ⊎ ((p.line ≡ q.line) × (p.column ≤ q.column))

-- the first place stands before the second
abbrev pub IsUnder : Place → Place → Type 0
IsUnder p q = (p.line < q.line) ⊎ ((p.line ≡ q.line) × (p.column < q.column))

-- from place to place
up_to : (p q r : Place) → IsUpTo p q → IsUpTo q r → IsUpTo p r
up_to p q r h k = grind arith

-- the same, where the first step is one
under : (p q r : Place) → IsUnder p q → IsUpTo q r → IsUnder p r
under p q r h k = grind arith

-- what stands before is up to
weaker : (p q : Place) → IsUnder p q → IsUpTo p q
weaker p q h = grind arith

-- the place behind one character
abbrev one_on : Bool → Place → Place
one_on b p =
    cond b (record { line = p.line + 1; column = 1 })
    (record { line = p.line; column = p.column + 1 })

-- One character goes on.
one_under : (b : Bool) (p : Place) → IsUnder p (one_on b p)
one_under true p = inl (omega arith)
one_under false p = inr (refl, omega arith)

-- characters go on to later places
after_up_to : (p : Place) (cs : List ℕ) → IsUpTo p (place_after p cs)
after_up_to p [] = inr (refl, omega arith)
after_up_to p (c ∷ cs) =
    up_to p (one_on (c == 10) p) _ (weaker p _ (one_under (c == 10) p))
    (after_up_to (one_on (c == 10) p) cs)

-- the same where there is a character
after_under : (p : Place) (cs : List ℕ) → 0 < length cs → IsUnder p (place_after p cs)
after_under p [] some = absurd (omega (arith, some))
after_under p (c ∷ cs) some =
    under p (one_on (c == 10) p) _ (one_under (c == 10) p) (after_up_to (one_on (c == 10) p) cs)

-- one text behind another
after_both : (p : Place) (a b : List ℕ) → place_after p (a ++ b) ≡ place_after (place_after p a) b
after_both p [] b = refl
after_both p (c ∷ a) b = after_both (one_on (c == 10) p) a b

-- whether two places are one
abbrev pub is_place : Place → Place → Bool
is_place p q = (p.line == q.line) && (p.column == q.column)

-- A place is itself.
pub is_itself : (p : Place) → is_place p p ≡ true
is_itself p = by (is_place p p) refl
  where
    by : (b : Bool) → is_place p p ≡ b → is_place p p ≡ true
    by true e = e
    by false e = absurd (grind (arith, nat_tests))

-- A place is none behind it.
is_no : (p q : Place) → IsUnder p q → is_place p q ≡ false
is_no p q h = by (is_place p q) refl
  where
    by : (b : Bool) → is_place p q ≡ b → is_place p q ≡ false
    by true e = absurd (grind (arith, nat_tests))
    by false e = e

-- no token stands at this place
abbrev pub NoneAt : Place → List Token → Type 0
NoneAt p [] = Unit {0}
NoneAt p (t ∷ ts) = (is_place p t.place ≡ false) × NoneAt p ts

-- each token stands at a place of its own
abbrev pub AreApart : List Token → Type 0
AreApart [] = Unit {0}
AreApart (t ∷ ts) = NoneAt t.place ts × AreApart ts

-- each piece has a word
abbrev HaveWords : List Piece → Type 0
HaveWords [] = Unit {0}
HaveWords (p ∷ ps) = (0 < length p.word) × HaveWords ps

-- A spelling has a character.
some_word : (w : List ℕ) → is_spelling w ≡ true → 0 < length w
some_word [] fits = absurd cc
some_word (c ∷ w) fits = omega arith

-- Pieces of a text have words.
have_words : (ps : List Piece) (text last : List ℕ) → Chain IsToken ps text last → HaveWords ps
have_words [] text last h = tt
have_words (p ∷ ps) text last h =
    (some_word p.word h.1.piece.word.longest.fits, have_words ps h.0 last h.2)

-- the same with the mark
marked_words : (m : List ℕ) (ps : List Piece) → HaveWords ps → HaveWords (with_mark m ps)
marked_words m [] h = h
marked_words m (p ∷ ps) h = h

-- tokens from a place on stand at none before it
none_before : (p place : Place) (words : List (List ℕ)) (texts : ℕ) (ps : List Piece)
    (ts : List Token) → IsUnder p place → AreTokens words place texts ps ts → NoneAt p ts
none_before p place words texts [] ts before are = subst (NoneAt p) (sym are) tt
none_before p place words texts (q ∷ ps) ts before are =
    let t = are.0 in
    let rest = are.1 in
    let is : IsTokenOf words place texts q t = are.3 in
    let here : IsUnder p t.place =
    subst (IsUnder p) (sym is.place_is)
    (under p place (place_after place q.gap) before (after_up_to place q.gap)) in
    let behind =
    none_before p (place_after place (q.gap ++ q.word)) words (texts_after texts q.word) ps rest
    (under p place (place_after place (q.gap ++ q.word)) before
    (after_up_to place (q.gap ++ q.word))) are.4 in
    subst (NoneAt p) (sym are.2) (is_no p t.place here, behind)

-- Tokens stand at places of their own.
all_apart : (place : Place) (words : List (List ℕ)) (texts : ℕ) (ps : List Piece) (ts : List Token)
    → HaveWords ps → AreTokens words place texts ps ts → AreApart ts
all_apart place words texts [] ts have are = subst AreApart (sym are) tt
all_apart place words texts (q ∷ ps) ts have are =
    let t = are.0 in
    let rest = are.1 in
    let is : IsTokenOf words place texts q t = are.3 in
    let next = place_after place (q.gap ++ q.word) in
    let behind : IsUnder t.place next =
    subst (IsUnder t.place) (sym (after_both place q.gap q.word))
    (subst (λ p. IsUnder t.place (place_after p q.word)) is.place_is
    (after_under t.place q.word have.0)) in
    subst AreApart (sym are.2) (
      none_before t.place next words (texts_after texts q.word) ps rest behind are.4,
      all_apart next words (texts_after texts q.word) ps rest have.1 are.4,
    )

-- A file's tokens stand at places of their own.
pub tokens_apart : (bytes : List ℕ) (ts : Tokens) → HasTokens bytes ts → AreApart ts.list
tokens_apart bytes ts h =
    let has = h.is.has in
    let have : HaveWords h.pieces =
    subst HaveWords (sym has.marked)
    (marked_words (mark (chars bytes)) has.bare
    (have_words has.bare (body (chars bytes)) has.last has.tokens)) in
    all_apart the_start (names_of h.pieces) 0 h.pieces ts.list have h.tokens.list
