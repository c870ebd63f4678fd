-- The first of some faults, one more after another.
use Rattle.std.proofs.Common.{◌≡◌, Bool, true, false, cond, Option, Some, None, ◌⊎◌, inl, inr, refl, sym, ◌∙◌, subst, arith}
use Rattle.std.proofs.lemmas.Bool.Decides.{nat_tests}
use Rattle.fort_typing_known.specs.declared.fault.Fault.{Fault}
use Rattle.fort_typing_meaning.specs.Faults.{goes_first, with_fault}
use Rattle.fort_typing_law_rules.specs.Exact.{IsFirst}

irreflexive : (a : Fault) → goes_first a a ≡ false
unfolding goes_first
irreflexive a = grind (arith, nat_tests)

chains : (a b c : Fault) → goes_first b a ≡ false → goes_first c b ≡ false → goes_first c a ≡ false
unfolding goes_first
chains a b c h g = grind (arith, nat_tests)

asymmetric : (a b : Fault) → goes_first a b ≡ true → goes_first b a ≡ false
unfolding goes_first
asymmetric a b h = grind (arith, nat_tests)

same : {a b : Fault} → Some a ≡ Some b → a ≡ b
same e = cc

some-is : {A : Type 0} {a : Fault} → None ≡ Some a → A
some-is e = absurd cc

module _ (found : Option Fault) (P : Fault → Type 0) where
  pub no_more : ((f : Fault) → P f → ⊥) → IsFirst found P found
  no_more none_is =
      record { some = λ f e. inl e; none = λ e. (e, none_is); first = λ f g e h. by f g e h } where
        by : (f g : Fault) → found ≡ Some f → (found ≡ Some g) ⊎ P g → goes_first g f ≡ false
        by f g e (inl d) = subst (λ x. goes_first x f ≡ false) (same (sym e ∙ d)) (irreflexive f)
        by f g e (inr p) = absurd (none_is g p)

  pub alike : (Q : Fault → Type 0) (new : Option Fault) → ((f : Fault) → P f → Q f)
      → ((f : Fault) → Q f → P f) → IsFirst found P new → IsFirst found Q new
  alike Q new to from h =
      record {
        some = λ f e. there f (h.some f e);
        none = λ e. ((h.none e).0, λ f q. (h.none e).1 f (from f q));
        first = λ f g e d. h.first f g e (back g d);
      } where
        there : (f : Fault) → (found ≡ Some f) ⊎ P f → (found ≡ Some f) ⊎ Q f
        there f (inl e) = inl e
        there f (inr p) = inr (to f p)

        back : (f : Fault) → (found ≡ Some f) ⊎ Q f → (found ≡ Some f) ⊎ P f
        back f (inl e) = inl e
        back f (inr q) = inr (from f q)

-- one fault more
pub one_more : (x : Fault) (found : Option Fault) → IsFirst found (λ f. f ≡ x) (with_fault x found)
one_more x None =
    record {
      some = λ f e. inr (sym (same e));
      none = λ e. absurd cc;
      first = λ f g e h. by f g e h;
    } where
      by : (f g : Fault) → Some x ≡ Some f → (None ≡ Some g) ⊎ (g ≡ x) → goes_first g f ≡ false
      by f g e (inl d) = some-is d
      by f g e (inr d) = subst (λ y. goes_first g y ≡ false) (d ∙ same e) (irreflexive g)
one_more x (Some y) = at (goes_first x y) refl where
  at : (b : Bool) → goes_first x y ≡ b → IsFirst (Some y) (λ f. f ≡ x) (Some (cond b x y))
  at true t =
      record {
        some = λ f e. inr (sym (same e));
        none = λ e. absurd cc;
        first = λ f g e h. by f g e h;
      } where
        by : (f g : Fault) → Some x ≡ Some f → (Some y ≡ Some g) ⊎ (g ≡ x) → goes_first g f ≡ false
        by f g e (inl d) =
            subst (λ z. goes_first g z
            ≡ false) (same e) (subst (λ z. goes_first z x ≡ false) (same d) (asymmetric x y t))
        by f g e (inr d) = subst (λ z. goes_first g z ≡ false) (d ∙ same e) (irreflexive g)
  at false t =
      record { some = λ f e. inl e; none = λ e. absurd cc; first = λ f g e h. by f g e h } where
        by : (f g : Fault) → Some y ≡ Some f → (Some y ≡ Some g) ⊎ (g ≡ x) → goes_first g f ≡ false
        by f g e (inl d) = subst (λ z. goes_first z f ≡ false) (same (sym e ∙ d)) (irreflexive f)
        by f g e (inr d) =
            subst (λ z. goes_first g z ≡ false) (same e) (subst (λ z. goes_first z y ≡ false) (sym d) t)

-- the faults of one part and then of another
pub both : (found mid new : Option Fault) (P Q : Fault → Type 0) → IsFirst found P mid
    → IsFirst mid Q new → IsFirst found (λ f. P f ⊎ Q f) new
both found None new P Q h g =
    record {
      some = λ f e. some f (g.some f e);
      none = λ e. ((h.none refl).0, λ f d. not_any f e d);
      first = λ f x e d. by f x e d;
    } where
      some : (f : Fault) → (None ≡ Some f) ⊎ Q f → (found ≡ Some f) ⊎ (P f ⊎ Q f)
      some f (inl e) = some-is e
      some f (inr q) = inr (inr q)

      not_any : (f : Fault) → new ≡ None → P f ⊎ Q f → ⊥
      not_any f e (inl p) = (h.none refl).1 f p
      not_any f e (inr q) = (g.none e).1 f q

      by : (f x : Fault) → new ≡ Some f → (found ≡ Some x) ⊎ (P x ⊎ Q x) → goes_first x f ≡ false
      by f x e (inl d) = some-is (sym (h.none refl).0 ∙ d)
      by f x e (inr (inl p)) = absurd ((h.none refl).1 x p)
      by f x e (inr (inr q)) = g.first f x e (inr q)
both found (Some m) new P Q h g =
    record {
      some = λ f e. some f (g.some f e);
      none = λ e. some-is (sym (g.none e).0);
      first = λ f x e d. by f x e d;
    } where
      some : (f : Fault) → (Some m ≡ Some f) ⊎ Q f → (found ≡ Some f) ⊎ (P f ⊎ Q f)
      some f (inr q) = inr (inr q)
      some f (inl e) = old (h.some f e) where
        old : (found ≡ Some f) ⊎ P f → (found ≡ Some f) ⊎ (P f ⊎ Q f)
        old (inl d) = inl d
        old (inr p) = inr (inl p)

      by : (f x : Fault) → new ≡ Some f → (found ≡ Some x) ⊎ (P x ⊎ Q x) → goes_first x f ≡ false
      by f x e (inl d) = chains f m x (g.first f m e (inl refl)) (h.first m x refl (inl d))
      by f x e (inr (inl p)) = chains f m x (g.first f m e (inl refl)) (h.first m x refl (inr p))
      by f x e (inr (inr q)) = g.first f x e (inr q)
