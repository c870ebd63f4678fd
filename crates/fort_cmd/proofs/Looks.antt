-- What a word looks like to the parser.
use Rattle.std.proofs.Common.{◌≡◌, ℕ, Bool, true, false, refl, ap, sym, ◌∙◌, subst, inl, inr, [], ◌∷◌, ◌==◌}
use Rattle.std.specs.Prelude.{codes, Some, None, slice_get}
use Rattle.std.specs.Str.{bytes_eq, IsUtf8, chars, encode_utf8_all}
use Rattle.std.proofs.lemmas.Bool.{eqb-true, eqb-false, ne_eqb}
use Rattle.std.proofs.lemmas.Str.{encodes-chars}
use Rattle.clap.specs.Lexer.{long_of, name_and_value, short_of}
use Rattle.clap.specs.Walk.{Text}
use Rattle.fort_cmd.specs.Words.{NamesFile}

-- The parser takes the word for no flag.
pub record IsPlain (word : Text) : Type 0 where
  pub no_mark : bytes_eq word (codes "--") ≡ false
  pub no_long : long_of word ≡ None
  pub no_short : short_of word ≡ None

-- What a word is.
pub data Look (word : Text) : Type 0 where
  Plain : NamesFile word → IsPlain word → Look word
  Mark : word ≡ codes "--" → Look word
  Short : (flag : ℕ) (flags : Text) → word ≡ 45 ∷ flag ∷ flags → bytes_eq word (codes "--") ≡ false
      → long_of word ≡ None → short_of word ≡ Some (flag ∷ flags) → Look word
  Long : (letter : ℕ) (letters : Text) → word ≡ 45 ∷ 45 ∷ letter ∷ letters
      → bytes_eq word (codes "--") ≡ false
      → long_of word ≡ Some (name_and_value (letter ∷ letters)) → Look word

unlike_hyphen : (x : ℕ) (xs : Text) → (x == 45) ≡ false → IsPlain (x ∷ xs)
unlike_hyphen x xs e = record { no_mark = rw e refl; no_long = rw e refl; no_short = rw e refl }

unlike_file : (x : ℕ) (xs : Text) → (x == 45) ≡ false → NamesFile (x ∷ xs)
unlike_file x xs e = inr (rw (ne_eqb 45 x (λ q. eqb-false x 45 e (sym q))) refl)

pub look : (word : Text) → Look word
look [] = Plain (inr refl) (record { no_mark = refl; no_long = refl; no_short = refl })
look (x ∷ xs) = go (x == 45) refl
  where
    short : (b : Bool) (y : ℕ) (ys : Text) → (y == 45) ≡ b → Look (45 ∷ y ∷ ys)
    short true y [] e = Mark (ap (λ z. 45 ∷ z ∷ []) (eqb-true y 45 e))
    short true y (z ∷ zs) e =
        Long z zs (ap (λ w. 45 ∷ w ∷ z ∷ zs) (eqb-true y 45 e)) (rw e refl) (rw e refl)
    short false y ys e = Short y ys refl (rw e refl) (rw e refl) (rw e refl)

    hyphen : (ys : Text) → Look (45 ∷ ys)
    hyphen [] = Plain (inl refl) (record { no_mark = refl; no_long = refl; no_short = refl })
    hyphen (y ∷ ys) = short (y == 45) y ys refl

    go : (b : Bool) → (x == 45) ≡ b → Look (x ∷ xs)
    go true e = subst (λ z. Look (z ∷ xs)) (sym (eqb-true x 45 e)) (hyphen xs)
    go false e = Plain (unlike_file x xs e) (unlike_hyphen x xs e)

-- A flag of a word that is a text is a character.
pub flag_there : (flag : ℕ) (flags : Text) → IsUtf8 (45 ∷ flag ∷ flags)
    → slice_get (chars (flag ∷ flags)) 0 ≡ None → ⊥
unfolding chars lib.Utf8.encode
flag_there flag flags u none = go (chars (flag ∷ flags)) refl none
  where
    go : (cs : Text) → chars (flag ∷ flags) ≡ cs → slice_get cs 0 ≡ None → ⊥
    go [] e q =
        let all : chars (45 ∷ flag ∷ flags) ≡ 45 ∷ [] = ap (λ cs. 45 ∷ cs) e in
        let same : 45 ∷ [] ≡ 45 ∷ flag ∷ flags =
        ap encode_utf8_all (sym all) ∙ encodes-chars (45 ∷ flag ∷ flags) u in cc
    go (c ∷ cs) e q = cc
