-- Environments.
use Rattle.std.proofs.Common.{◌≡◌, ℕ, true, false, ◌==◌, if◌then◌else◌, List, [], ◌∷◌, ◌++◌, Some, None, inl, inr, refl, ap, sym, ◌∙◌}
use Rattle.std.proofs.lemmas.Bool.Decides.{eqb_tells}
use mathlib.Core.Path.{fun_ext}
use Rattle.fort_sound_typed.specs.Envs.{Sort, Env, none, bind, binds, Fresh}

-- equal, or told apart
pub data Tells (x z : ℕ) : Type 0 where
  alike : x ≡ z → (x == z) ≡ true → Tells x z
  apart : (x == z) ≡ false → (z == x) ≡ false → Tells x z

pub tells : (x z : ℕ) → Tells x z
tells x z =
    elim (eqb_tells x z) [
      | inl e ↦ alike e.1 e.0
      | inr e ↦ elim (eqb_tells z x) [ inl f ↦ absurd (e.1 (sym f.1)) | inr f ↦ apart e.0 f.0 ]
    ]

pub self_same : (z : ℕ) → (z == z) ≡ true
self_same z = elim (eqb_tells z z) [ inl f ↦ f.0 | inr f ↦ absurd (f.1 refl) ]

pub flip : (x y : ℕ) → (x == y) ≡ false → (y == x) ≡ false
flip x y e = elim (tells x y) [ alike q b ↦ absurd cc | apart b c ↦ c ]

pub bind_at : (x : ℕ) (A : Sort) (G : Env) (z : ℕ) → x ≡ z → bind x A G z ≡ Some A
bind_at x A G z e = ap (λ b. if b then Some A else G z) (ap (λ w. x == w) (sym e) ∙ self_same x)

pub bind_other : (x : ℕ) (A : Sort) (G : Env) (z : ℕ) → (x == z) ≡ false → bind x A G z ≡ G z
bind_other x A G z e = ap (λ b. if b then Some A else G z) e

pub bind_same : (x : ℕ) (A : Sort) (G D : Env) (z : ℕ) → D z ≡ G z → bind x A D z ≡ bind x A G z
bind_same x A G D z e = ap (λ w. if x == z then Some A else w) e

pub binds_same : (H : List (ℕ × Sort)) (G D : Env) (z : ℕ) → D z ≡ G z → binds H D z ≡ binds H G z
binds_same [] G D z e = e
binds_same (h ∷ H) G D z e = bind_same h.0 h.1 (binds H G) (binds H D) z (binds_same H G D z e)

pub binds_skip : (H : List (ℕ × Sort)) (G : Env) (z : ℕ) → binds H none z ≡ None → binds H G z ≡ G z
binds_skip [] G z e = refl
binds_skip (h ∷ H) G z e =
    elim (tells h.0 z) [
      | alike q b ↦ let r = bind_at h.0 h.1 (binds H none) z q in absurd cc
      | apart b c ↦
          bind_other h.0 h.1 (binds H G) z b
          ∙ binds_skip H G z (sym (bind_other h.0 h.1 (binds H none) z b) ∙ e)
    ]

pub binds_append : (H K : List (ℕ × Sort)) (G : Env) → binds (H ++ K) G ≡ binds H (binds K G)
binds_append [] K G = refl
binds_append (h ∷ H) K G = ap (bind h.0 h.1) (binds_append H K G)

-- the second is the first without x
pub record Less (x : ℕ) (A : Sort) (G D : Env) : Type 0 where
  pub has : G x ≡ Some A
  pub lacks : D x ≡ None
  pub same : (z : ℕ) → (x == z) ≡ false → D z ≡ G z

module _ (x : ℕ) (A : Sort) where
  -- what the first binds is no x
  pub less_some : (G D : Env) (z : ℕ) (B : Sort) → Less x A G D → D z ≡ Some B → (x == z) ≡ false
  less_some G D z B l e =
      elim (tells x z) [
        | alike q b ↦ let r : D x ≡ D z = ap D q in let h = l.lacks in absurd cc
        | apart b c ↦ b
      ]

  pub less_kept : (G D : Env) (z : ℕ) (B : Sort) → Less x A G D → D z ≡ Some B → G z ≡ Some B
  less_kept G D z B l e = sym (l.same z (less_some G D z B l e)) ∙ e

  pub less_fresh : (H : List (ℕ × Sort)) (G D : Env) → Less x A G D → Fresh H G → Fresh H D
  less_fresh H G D l n z B e = n z B (less_kept G D z B l e)

  pub less_binds : (H : List (ℕ × Sort)) (G D : Env) → Less x A G D → Fresh H G
      → Less x A (binds H G) (binds H D)
  less_binds H G D l n = let e = n x A l.has in
      record {
        has = binds_skip H G x e ∙ l.has;
        lacks = binds_skip H D x e ∙ l.lacks;
        same = λ z d. binds_same H G D z (l.same z d);
      }

-- one variable, before others
pub less_first : (x : ℕ) (A : Sort) (G : Env) → G x ≡ None → Less x A (bind x A G) G
less_first x A G n =
    record { has = bind_at x A G x refl; lacks = n; same = λ z e. sym (bind_other x A G z e) }

-- two bindings change places
pub bind_swap : (x y : ℕ) (A B : Sort) (G : Env) → (x == y) ≡ false
    → bind x A (bind y B G) ≡ bind y B (bind x A G)
bind_swap x y A B G e = fun_ext λ z. elim (tells x z) [
  | alike q b ↦
      bind_at x A (bind y B G) z q
      ∙ sym (bind_other y B (bind x A G) z (ap (λ w. y == w) (sym q) ∙ flip x y e) ∙ bind_at x A G z q)
  | apart b c ↦
      bind_other x A (bind y B G) z b ∙ bind_same y B (bind x A G) G z (sym (bind_other x A G z b))
]

-- G binds x, and D is G without it: x bound again in D
pub less_again : (x : ℕ) (A : Sort) (G D : Env) → Less x A G D → bind x A D ≡ G
less_again x A G D l =
    fun_ext λ z. elim (tells x z) [
      | alike q b ↦ bind_at x A D z q ∙ sym (ap G (sym q) ∙ l.has)
      | apart b c ↦ bind_other x A D z b ∙ l.same z b
    ]
