-- The lines on which the tokens of a file stand.
use Rattle.std.proofs.Common.{◌≡◌, ◌≤◌, ℕ, ◌+◌, Bool, true, false, cond, ◌==◌, List, [], ◌∷◌, ◌++◌, length, chars, count_by, refl, sym, ap, subst, arith}
use Rattle.std.specs.List.{AllByRecursion}
use Rattle.std.specs.Str.{IsUtf8, encode_utf8_all}
use Rattle.std.proofs.Math.Utf8.{encode}
use Rattle.std.proofs.lemmas.Bool.Decides.{nat_tests}
use Rattle.std.proofs.lemmas.List.Sums.{sum_by-append, sum_by-cons, count_by-le-length}
use Rattle.std.proofs.lemmas.Str.{encodes-chars}
use Rattle.fort_base.specs.declared.refusal.Place.{Place}
use Rattle.fort_lex_token.specs.declared.token.Token.{Token}
use Rattle.fort_lex_token.specs.declared.token.Tokens.{Tokens}
use Rattle.fort_lex_scan.specs.Chain.{Chain}
use Rattle.fort_lex_scan.specs.Gaps.{mark, body}
use Rattle.fort_lex_scan.specs.Places.{place_after, the_start}
use Rattle.fort_lex_scan.specs.Tokens.{Piece, IsToken, with_mark}
use Rattle.fort_lex.specs.Files.{AreTokens, IsTokenOf, HasTokens, names_of, texts_after}
use Rattle.fort_link.specs.Lines.{lines}

abbrev one : ℕ → ℕ
one c = cond (c == 10) 1 0

-- the line feeds of characters or bytes
abbrev feeds : List ℕ → ℕ
feeds cs = count_by (λ c. c == 10) cs

feeds_cons : (c : ℕ) (cs : List ℕ) → feeds (c ∷ cs) ≡ one c + feeds cs
feeds_cons c cs = sum_by-cons one c cs

feeds_append : (xs ys : List ℕ) → feeds (xs ++ ys) ≡ feeds xs + feeds ys
feeds_append xs ys = sum_by-append one xs ys

pub feeds_few : (cs : List ℕ) → feeds cs ≤ length cs
feeds_few cs = count_by-le-length (λ c. c == 10) cs

-- ---- characters and bytes

feed_encoded : (c : ℕ) → one c ≤ feeds (encode c)
unfolding encode
feed_encoded c = at (c == 10) refl
  where
    at : (b : Bool) → (c == 10) ≡ b → cond b 1 0 ≤ feeds (encode c)
    at true e =
        let is : c ≡ 10 = grind (arith, nat_tests) in
        subst (λ n. 1 ≤ feeds (encode n)) (sym is) (omega arith)
    at false e = omega arith

feeds_encoded : (cs : List ℕ) → feeds cs ≤ feeds (encode_utf8_all cs)
feeds_encoded [] = omega arith
feeds_encoded (c ∷ cs) =
    let a = feeds_cons c cs in
    let b = feeds_append (encode c) (encode_utf8_all cs) in
    let first = feed_encoded c in let rest = feeds_encoded cs in omega arith

-- the characters of a file have no more line feeds than its bytes
feeds_chars : (bytes : List ℕ) → IsUtf8 bytes → feeds (chars bytes) ≤ feeds bytes
feeds_chars bytes h =
    subst (λ z. feeds (chars bytes) ≤ feeds z) (encodes-chars bytes h) (feeds_encoded (chars bytes))

-- ---- pieces

abbrev pieces_feeds : List Piece → ℕ
pieces_feeds [] = 0
pieces_feeds (p ∷ ps) = feeds p.gap + (feeds p.word + pieces_feeds ps)

chain_feeds : (ps : List Piece) (text last : List ℕ) → Chain IsToken ps text last
    → pieces_feeds ps ≤ feeds text
chain_feeds [] text last h = omega arith
chain_feeds (p ∷ ps) text last h =
    let rest = chain_feeds ps h.0 last h.2 in
    let a = ap feeds h.1.piece.whole in
    let b = feeds_append p.gap (p.word ++ h.0) in
    let c = feeds_append p.word h.0 in omega arith

marked_feeds : (m : List ℕ) (ps : List Piece)
    → pieces_feeds (with_mark m ps) ≤ feeds m + pieces_feeds ps
marked_feeds m [] = omega arith
marked_feeds m (p ∷ ps) = let a = feeds_append m p.gap in omega arith

mark_body : (text : List ℕ) → mark text ++ body text ≡ text
mark_body [] = refl
mark_body (c ∷ cs) = at (c == 65279)
  where
    at : (b : Bool) → cond b (c ∷ []) [] ++ cond b cs (c ∷ cs) ≡ c ∷ cs
    at true = refl
    at false = refl

-- ---- places

behind_feeds : (p : Place) (cs : List ℕ) → (place_after p cs).line ≡ p.line + feeds cs
behind_feeds p [] = omega arith
behind_feeds p (c ∷ cs) = at (c == 10) (feeds_cons c cs) (λ q. behind_feeds q cs)
  where
    at : (b : Bool) → feeds (c ∷ cs) ≡ cond b 1 0 + feeds cs
        → ((q : Place) → (place_after q cs).line ≡ q.line + feeds cs)
        → (place_after (cond b (record { line = p.line + 1; column = 1 })
        (record { line = p.line; column = p.column + 1 })) cs).line ≡ p.line + feeds (c ∷ cs)
    at true e ih = let h = ih (record { line = p.line + 1; column = 1 }) in omega arith
    at false e ih = let h = ih (record { line = p.line; column = p.column + 1 }) in omega arith

up_to : (n : ℕ) (place : Place) (words : List (List ℕ)) (texts : ℕ) (ps : List Piece)
    (ts : List Token) → place.line + pieces_feeds ps ≤ n → AreTokens words place texts ps ts
    → AllByRecursion (λ (t : Token). t.place.line ≤ n) ts
up_to n place words texts [] ts l are =
    subst (AllByRecursion (λ (t : Token). t.place.line ≤ n)) (sym are) tt
up_to n place words texts (p ∷ ps) ts l are =
    let t = are.0 in let is : IsTokenOf words place texts p t = are.3 in
    let next = place_after place (p.gap ++ p.word) in
    let g = behind_feeds place p.gap in
    let w = behind_feeds place (p.gap ++ p.word) in
    let both = feeds_append p.gap p.word in
    subst (AllByRecursion (λ (t : Token). t.place.line ≤ n)) (sym are.2) (
      subst (λ (q : Place). q.line ≤ n) (sym is.place_is) (omega arith),
      up_to n next words (texts_after texts p.word) ps are.1 (omega arith) are.4,
    )

-- a file's tokens stand on its lines
pub on_its_lines : (bytes : List ℕ) (tokens : Tokens) → HasTokens bytes tokens
    → AllByRecursion (λ (t : Token). t.place.line ≤ lines bytes) tokens.list
on_its_lines bytes tokens h =
    let has = h.is.has in
    let a = feeds_chars bytes h.utf8 in
    let b = ap feeds (mark_body (chars bytes)) in
    let c = feeds_append (mark (chars bytes)) (body (chars bytes)) in
    let d = chain_feeds has.bare (body (chars bytes)) has.last has.tokens in
    let e = marked_feeds (mark (chars bytes)) has.bare in
    let f = ap pieces_feeds has.marked in
    up_to (lines bytes) the_start (names_of h.pieces) 0 h.pieces tokens.list
    (omega arith) h.tokens.list
