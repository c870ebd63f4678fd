-- No name stands twice in a file's table.
use Rattle.std.proofs.Common.{◌≡◌, ℕ, Bool, true, false, cond, ◌&&◌, ◌==◌, List, [], ◌∷◌, ◌++◌, map, chars, refl, sym, ap, ap₂, subst, ◌∙◌}
use Rattle.std.specs.List.{AllByRecursion, IsDistinct}
use Rattle.std.specs.Str.{IsUtf8, bytes_eq, encode_utf8_all}
use Rattle.std.specs.Cmp.Lexicographic.{bytes_decides}
use Rattle.std.proofs.Math.Utf8.{scalar, scalars}
use Rattle.std.proofs.lemmas.Str.{chars_from_encodes, scalars-chars}
use Rattle.fort_lex_token.specs.declared.token.Tokens.{Tokens}
use Rattle.fort_lex_scan.specs.Chain.{Chain}
use Rattle.fort_lex_scan.specs.Gaps.{mark, body}
use Rattle.fort_lex_scan.specs.Lists.{same}
use Rattle.fort_lex_scan.specs.Tokens.{Piece, IsToken, with_mark}
use Rattle.fort_lex_scan.proofs.Symbols.{same_refl}
use Rattle.fort_lex.specs.Meanings.{has_number}
use Rattle.fort_lex.specs.Files.{HasTokens, without, once, numbered_in}
use Rattle.fort_link_table.specs.Laws.{AreOnce}

-- ---- words of characters

abbrev Scalar : List (List ℕ) → Type 0
Scalar ws = AllByRecursion (λ w. scalars w ≡ true) ws

both : (a b : Bool) → (a && b) ≡ true → (a ≡ true) × (b ≡ true)
both true b e = (refl, e)
both false b e = absurd cc

split : (xs ys : List ℕ) → scalars (xs ++ ys) ≡ true → (scalars xs ≡ true) × (scalars ys ≡ true)
split [] ys h = (refl, h)
split (x ∷ xs) ys h =
    let a = both (scalar x) (scalars (xs ++ ys)) h in let b = split xs ys a.1 in
    (ap₂ (λ p q. p && q) a.0 b.0, b.1)

abbrev Words : List Piece → Type 0
Words ps = AllByRecursion (λ (p : Piece). scalars p.word ≡ true) ps

chain_words : (ps : List Piece) (text last : List ℕ) → Chain IsToken ps text last
    → scalars text ≡ true → Words ps
chain_words [] text last h e = tt
chain_words (p ∷ ps) text last h e =
    let a = split p.gap (p.word ++ h.0) (ap scalars (sym h.1.piece.whole) ∙ e) in
    let b = split p.word h.0 a.1 in (b.0, chain_words ps h.0 last h.2 b.1)

marked_words : (m : List ℕ) (ps : List Piece) → Words ps → Words (with_mark m ps)
marked_words m [] h = h
marked_words m (p ∷ ps) h = h

body_scalars : (text : List ℕ) → scalars text ≡ true → scalars (body text) ≡ true
body_scalars [] h = h
body_scalars (c ∷ cs) h = at (c == 65279)
  where
    at : (b : Bool) → scalars (cond b cs (c ∷ cs)) ≡ true
    at true = (both (scalar c) (scalars cs) h).1
    at false = h

numbered : (ps : List Piece) → Words ps → Scalar (numbered_in ps)
numbered [] h = tt
numbered (p ∷ ps) h = at (numbered ps h.1) (has_number p.word)
  where
    at : Scalar (numbered_in ps) → (b : Bool)
        → Scalar (cond b (p.word ∷ numbered_in ps) (numbered_in ps))
    at rest true = (h.0, rest)
    at rest false = rest

-- ---- each once

fewer : (P : List ℕ → Type 0) (w : List ℕ) (vs : List (List ℕ)) → AllByRecursion P vs
    → AllByRecursion P (without w vs)
fewer P w [] h = tt
fewer P w (v ∷ vs) h = at (fewer P w vs h.1) (same w v)
  where
    at : AllByRecursion P (without w vs) → (b : Bool)
        → AllByRecursion P (cond b (without w vs) (v ∷ without w vs))
    at rest true = rest
    at rest false = (h.0, rest)

scalar_once : (ws : List (List ℕ)) → Scalar ws → Scalar (once ws)
scalar_once [] h = tt
scalar_once (w ∷ ws) h = (h.0, fewer (λ v. scalars v ≡ true) w (once ws) (scalar_once ws h.1))

-- other words have other bytes
bytes_apart : (w v : List ℕ) → scalars v ≡ true → same w v ≡ false
    → bytes_eq (encode_utf8_all w) (encode_utf8_all v) ≡ false
bytes_apart w v s e = at (bytes_eq (encode_utf8_all w) (encode_utf8_all v)) refl
  where
    at : (b : Bool) → bytes_eq (encode_utf8_all w) (encode_utf8_all v) ≡ b → b ≡ false
    at true f =
        let utf8 : IsUtf8 (encode_utf8_all v) = (v, (s, refl)) in
        let is : w ≡ v =
        chars_from_encodes w (encode_utf8_all v) utf8
        ((bytes_decides (encode_utf8_all w) (encode_utf8_all v)).0 f)
        ∙ sym (chars_from_encodes v (encode_utf8_all v) utf8 refl) in
        let same_word : same w v ≡ true = subst (λ z. same w z ≡ true) is (same_refl w) in
        absurd cc
    at false f = refl

gone : (w : List ℕ) (vs : List (List ℕ)) → Scalar vs
    → AllByRecursion (λ y. bytes_eq (encode_utf8_all w) y ≡ false)
    (map encode_utf8_all (without w vs))
gone w [] h = tt
gone w (v ∷ vs) h = at (gone w vs h.1) (same w v) refl
  where
    at : AllByRecursion (λ y. bytes_eq (encode_utf8_all w) y ≡ false)
        (map encode_utf8_all (without w vs)) → (b : Bool) → same w v ≡ b
        → AllByRecursion (λ y. bytes_eq (encode_utf8_all w) y ≡ false)
        (map encode_utf8_all (cond b (without w vs) (v ∷ without w vs)))
    at rest true e = rest
    at rest false e = (bytes_apart w v h.0 e, rest)

fewer_bytes : (P : List ℕ → Type 0) (w : List ℕ) (vs : List (List ℕ))
    → AllByRecursion P (map encode_utf8_all vs)
    → AllByRecursion P (map encode_utf8_all (without w vs))
fewer_bytes P w [] h = tt
fewer_bytes P w (v ∷ vs) h = at (fewer_bytes P w vs h.1) (same w v)
  where
    at : AllByRecursion P (map encode_utf8_all (without w vs)) → (b : Bool)
        → AllByRecursion P (map encode_utf8_all (cond b (without w vs) (v ∷ without w vs)))
    at rest true = rest
    at rest false = (h.0, rest)

fewer_once : (w : List ℕ) (vs : List (List ℕ)) → AreOnce (map encode_utf8_all vs)
    → AreOnce (map encode_utf8_all (without w vs))
unfolding IsDistinct
fewer_once w [] h = tt
fewer_once w (v ∷ vs) h = at (fewer_once w vs h.1) (same w v)
  where
    at : AreOnce (map encode_utf8_all (without w vs)) → (b : Bool)
        → AreOnce (map encode_utf8_all (cond b (without w vs) (v ∷ without w vs)))
    at rest true = rest
    at rest false = (fewer_bytes (λ y. bytes_eq (encode_utf8_all v) y ≡ false) w vs h.0, rest)

are_once : (ws : List (List ℕ)) → Scalar ws → AreOnce (map encode_utf8_all (once ws))
unfolding IsDistinct
are_once [] h = tt
are_once (w ∷ ws) h =
    (gone w (once ws) (scalar_once ws h.1), fewer_once w (once ws) (are_once ws h.1))

pub names_once : (bytes : List ℕ) (tokens : Tokens) → HasTokens bytes tokens
    → AreOnce tokens.names
names_once bytes tokens h =
    let has = h.is.has in
    let words : Words h.pieces =
    subst Words (sym has.marked)
    (marked_words (mark (chars bytes)) has.bare
    (chain_words has.bare (body (chars bytes)) has.last has.tokens
    (body_scalars (chars bytes) (scalars-chars bytes h.utf8)))) in
    subst AreOnce (sym h.tokens.names)
    (are_once (numbered_in h.pieces) (numbered h.pieces words))
