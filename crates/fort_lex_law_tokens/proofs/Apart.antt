-- The tokens of a file stand at places of their own.
use Rattle.std.proofs.Common.{◌≡◌, ℕ, ◌+◌, ◌<◌, ◌≤◌, ◌⊎◌, inl, inr, Bool, true, false, cond, ◌==◌, ◌&&◌, List, [], ◌∷◌, ◌++◌, length, map, chars, refl, sym, ap, ◌∙◌, subst, ne_eqb, arith}
use Rattle.std.specs.Prelude.{nat_eq}
use Rattle.fort_base.specs.Places.{IsBefore}
use Rattle.fort_base.specs.declared.refusal.Place.{Place}
use Rattle.fort_lex_token.specs.declared.token.Token.{Token}
use Rattle.fort_lex_scan.specs.Chain.{Chain}
use Rattle.fort_lex_scan.specs.Gaps.{mark, body}
use Rattle.fort_lex_scan.specs.Places.{place_after, the_start}
use Rattle.fort_lex_scan.specs.Spelling.{is_spelling}
use Rattle.fort_lex_scan.specs.Tokens.{Piece, IsToken, with_mark}
use Rattle.fort_lex.specs.Files.{AreTokens, IsTokenOf, names_of, texts_after}
use Rattle.fort_elab_meaning.specs.Bodies.{same_place}
use Rattle.fort_elab_law_matched.proofs.Places.{one, same_told, places_once, standing}
use Rattle.fort_elab_law_matched.specs.Component.{token_place}
use Rattle.fort_lex_law_tokens.specs.Apart.{TokensStandApart}

-- ---- places behind characters

-- the first place stands before the second, or is it
abbrev pub IsUpTo : Place → Place → Type 0
IsUpTo p q = (p.line < q.line) ⊎ ((p.line ≡ q.line) × (p.column ≤ q.column))

through : (p q r : Place) → IsUpTo p q → IsUpTo q r → IsUpTo p r
through p q r h k = grind arith

before_through : (p q r : Place) → IsBefore p q → IsUpTo q r → IsBefore p r
before_through p q r h k = grind arith

weaker : (p q : Place) → IsBefore p q → IsUpTo p q
weaker p q h = grind arith

abbrev one_on : Bool → Place → Place
one_on b p =
    cond b (record { line = p.line + 1; column = 1 })
    (record { line = p.line; column = p.column + 1 })

one_before : (b : Bool) (p : Place) → IsBefore p (one_on b p)
one_before true p = inl (omega arith)
one_before false p = inr (refl, omega arith)

pub up_to_behind : (p : Place) (cs : List ℕ) → IsUpTo p (place_after p cs)
up_to_behind p [] = inr (refl, omega arith)
up_to_behind p (c ∷ cs) =
    let next = one_on (c == 10) p
    in through p next (place_after next cs) (weaker p next (one_before (c == 10) p))
    (up_to_behind next cs)

before_behind : (p : Place) (cs : List ℕ) → 0 < length cs → IsBefore p (place_after p cs)
before_behind p [] some = absurd (omega (arith, some))
before_behind p (c ∷ cs) some =
    let next = one_on (c == 10) p
    in before_through p next (place_after next cs) (one_before (c == 10) p) (up_to_behind next cs)

behind_both : (p : Place) (a b : List ℕ) → place_after p (a ++ b) ≡ place_after (place_after p a) b
behind_both p [] b = refl
behind_both p (c ∷ a) b = behind_both (one_on (c == 10) p) a b

never : (b : Bool) → (b && false) ≡ false
never true = refl
never false = refl

-- a place before another one isn't the same
not_same : (p q : Place) → IsBefore p q → same_place p q ≡ false
not_same p q (inl l) =
    ap (λ b. b && nat_eq p.column q.column) (ne_eqb p.line q.line (λ e. omega arith))
not_same p q (inr r) =
    let l = r.1
    in ap (λ b. nat_eq p.line q.line && b) (ne_eqb p.column q.column (λ e. omega arith))
    ∙ never (nat_eq p.line q.line)

-- ---- pieces of a text have words

abbrev HaveWords : List Piece → Type 0
HaveWords [] = Unit {0}
HaveWords (p ∷ ps) = (0 < length p.word) × HaveWords ps

some_word : (w : List ℕ) → is_spelling w ≡ true → 0 < length w
some_word [] fits = absurd cc
some_word (c ∷ w) fits = omega arith

have_words : (ps : List Piece) (text last : List ℕ) → Chain IsToken ps text last → HaveWords ps
have_words [] text last h = tt
have_words (p ∷ ps) text last h =
    (some_word p.word h.1.piece.word.longest.fits, have_words ps h.0 last h.2)

marked_words : (m : List ℕ) (ps : List Piece) → HaveWords ps → HaveWords (with_mark m ps)
marked_words m [] h = h
marked_words m (p ∷ ps) h = h

-- ---- tokens

-- what is behind a token
abbrev behind : Place → Piece → Place
behind place piece = place_after place (piece.gap ++ piece.word)

none_before : (p place : Place) (words : List (List ℕ)) (texts : ℕ) (ps : List Piece)
    (ts : List Token) → IsBefore p place → AreTokens words place texts ps ts → standing p ts ≡ 0
none_before p place words texts [] ts l are = ap (standing p) are
none_before p place words texts (x ∷ ps) ts l are =
    let t = are.0 in let rest = are.1 in let is : IsTokenOf words place texts x t = are.3 in
    let here : IsBefore p t.place =
    subst (IsBefore p) (sym is.place_is)
    (before_through p place (place_after place x.gap) l (up_to_behind place x.gap)) in
    let r = none_before p (behind place x) words (texts_after texts x.word) ps rest
    (before_through p place (behind place x) l (up_to_behind place (x.gap ++ x.word))) are.4 in
    let e : one (same_place p t.place) ≡ 0 = ap one (not_same p t.place here) in
    ap (standing p) are.2 ∙ omega arith

once_step : (p q : Place) (rest : List Token) (b : Bool) → same_place p q ≡ b → standing q rest ≡ 0
    → standing p rest ≤ 1 → one b + standing p rest ≤ 1
once_step p q rest true e none few =
    let r : standing p rest ≡ 0 = subst (λ z. standing z rest ≡ 0) (sym (same_told p q e)) none
    in omega arith
once_step p q rest false e none few = omega arith

once : (p place : Place) (words : List (List ℕ)) (texts : ℕ) (ps : List Piece) (ts : List Token)
    → HaveWords ps → AreTokens words place texts ps ts → standing p ts ≤ 1
once p place words texts [] ts have are = let e = ap (standing p) are in omega arith
once p place words texts (x ∷ ps) ts have are =
    let t = are.0 in let rest = are.1 in let is : IsTokenOf words place texts x t = are.3 in
    let l : IsBefore t.place (behind place x) =
    subst (IsBefore t.place) (sym (behind_both place x.gap x.word))
    (subst (λ z. IsBefore t.place (place_after z x.word)) is.place_is
    (before_behind t.place x.word have.0)) in
    let none = none_before t.place (behind place x) words (texts_after texts x.word) ps rest l are.4
    in
    let few = once p (behind place x) words (texts_after texts x.word) ps rest have.1 are.4 in
    subst (λ z. standing p z
    ≤ 1) (sym are.2) (once_step p t.place rest (same_place p t.place) refl none few)

pub tokens_apart : TokensStandApart
tokens_apart bytes tokens h =
    let has = h.is.has in
    let have : HaveWords h.pieces =
    subst HaveWords (sym has.marked)
    (marked_words (mark (chars bytes)) has.bare
    (have_words has.bare (body (chars bytes)) has.last has.tokens)) in
    places_once (map token_place tokens.list)
    (λ p. once p the_start (names_of h.pieces) 0 h.pieces tokens.list have h.tokens.list)
