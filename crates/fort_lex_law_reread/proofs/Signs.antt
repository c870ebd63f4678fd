-- The signs that canonical text is written with: characters that are words of their own, whatever
-- follows.
use Rattle.std.specs.Prelude.{codes}
use Rattle.std.proofs.Common.{◌≡◌, ℕ, Bool, true, false, not, ◌&&◌, ◌||◌, ◌==◌, List, [], ◌∷◌, refl, sym, subst, arith}
use Rattle.std.proofs.Math.Utf8.{scalar}
use Rattle.std.proofs.lemmas.Bool.Decides.{nat_tests}
use Rattle.std.specs.Char.{is_ascii_digit}
use Rattle.unicode_ident.proofs.Computing.{unicode_ident}
use Rattle.fort_lex_scan.specs.Lists.{every, is_among}
use Rattle.fort_lex_scan.specs.Gaps.{is_white}
use Rattle.fort_lex_scan.specs.Spelling.{begins_name, endings}

-- the characters that go on a symbol of more than one, and the `*` that opens a comment
abbrev pub is_inner : ℕ → Bool
is_inner c = is_among c (codes "=-/>\\]*")

-- the signs
abbrev pub signs : List ℕ
signs = codes "∑∏⟦⟧←→⇒×·≠≤≥≡∧∨¬"

pub and_both : (p q : Bool) → (p && q) ≡ true → (p ≡ true) × (q ≡ true)
and_both true q h = (refl, h)
and_both false q h = absurd cc

pub never : (b : Bool) → b ≡ false → b ≡ true → ⊥
never b h k = absurd cc

pub not_true : (b : Bool) → not b ≡ true → b ≡ false
not_true true h = absurd cc
not_true false h = refl

-- what each of some characters passes
pub each_of : (p : ℕ → Bool) (c : ℕ) (ds : List ℕ) → every p ds ≡ true → is_among c ds ≡ true
    → p c ≡ true
each_of p c [] h k = absurd cc
each_of p c (d ∷ ds) h k =
    let b = and_both (p d) (every p ds) h in by (c == d) refl k b.0 (each_of p c ds b.1)
  where
    by : (b : Bool) → (c == d) ≡ b → (b || is_among c ds) ≡ true → p d ≡ true
        → (is_among c ds ≡ true → p c ≡ true) → p c ≡ true
    by true e k h ih =
        let is : c ≡ d = grind (arith, nat_tests) in subst (λ z. p z ≡ true) (sym is) h
    by false e k h ih = ih k

-- what the signs are not, and that they are characters
none_names : every (λ c. not (begins_name c)) signs ≡ true
unfolding unicode_ident
none_names = refl

none_digits : every (λ c. not (is_ascii_digit c)) signs ≡ true
none_digits = refl

none_plain : every (λ c. not (is_white c)
    && (not (c == 34) && (not (c == 40) && (not (c == 65279) && not (is_inner c))))) signs
    ≡ true
none_plain = refl

all_scalars : every scalar signs ≡ true
all_scalars = refl

abbrev is_alone : List (List ℕ) → Bool
is_alone [] = false
is_alone ([] ∷ []) = true
is_alone ([] ∷ (v ∷ vs)) = false
is_alone ((c ∷ cs) ∷ vs) = false

alone : (vs : List (List ℕ)) → is_alone vs ≡ true → vs ≡ [] ∷ []
alone [] h = absurd cc
alone ([] ∷ []) h = refl
alone ([] ∷ (v ∷ vs)) h = absurd cc
alone ((c ∷ cs) ∷ vs) h = absurd cc

-- a sign begins no longer symbol
all_alone : every (λ c. is_alone (endings c)) signs ≡ true
all_alone = refl

-- what is known of a sign
pub record IsSign (c : ℕ) : Type 0 where
  pub name : begins_name c ≡ false
  pub digit : is_ascii_digit c ≡ false
  pub white : is_white c ≡ false
  pub quote : (c == 34) ≡ false
  pub paren : (c == 40) ≡ false
  pub mark : (c == 65279) ≡ false
  pub inner : is_inner c ≡ false
  pub scalar_is : scalar c ≡ true
  pub ends : endings c ≡ [] ∷ []

-- each of the signs is one
pub is_sign : (c : ℕ) → is_among c signs ≡ true → IsSign c
is_sign c h =
    let a = and_both (not (is_white c)) (not (c == 34)
    && (not (c == 40) && (not (c == 65279) && not (is_inner c))))
    (each_of (λ c. not (is_white c)
    && (not (c == 34) && (not (c == 40) && (not (c == 65279) && not (is_inner c))))) c signs
    none_plain h) in
    let b = and_both (not (c == 34)) (not (c == 40) && (not (c == 65279) && not (is_inner c))) a.1
    in
    let d = and_both (not (c == 40)) (not (c == 65279) && not (is_inner c)) b.1 in
    let e = and_both (not (c == 65279)) (not (is_inner c)) d.1 in
    record {
      name = not_true (begins_name c) (each_of (λ c. not (begins_name c)) c signs none_names h);
      digit = not_true (is_ascii_digit c)
          (each_of (λ c. not (is_ascii_digit c)) c signs none_digits h);
      white = not_true (is_white c) a.0;
      quote = not_true (c == 34) b.0;
      paren = not_true (c == 40) d.0;
      mark = not_true (c == 65279) e.0;
      inner = not_true (is_inner c) e.1;
      scalar_is = each_of scalar c signs all_scalars h;
      ends = alone (endings c) (each_of (λ c. is_alone (endings c)) c signs all_alone h);
    }
