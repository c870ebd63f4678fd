-- The widest type of several, as the judge computes it.
use Rattle.std.proofs.Common.{◌≡◌, ◌≤◌, ℕ, zero, suc, Bool, true, false, cond, List, [], ◌∷◌, slice_get, Some, None, refl, arith, ap, ◌∙◌, sym, subst}
use Rattle.fort_base.specs.declared.ty.Ty.{Ty}
use Rattle.fort_typing_known.specs.Known.{Knows}
use Rattle.fort_typing_known.specs.Below.{is_below}
use Rattle.fort_typing_rules.specs.Types.{IsBelow, AreAllBelow, IsWidest, HasNoWidest}
use Rattle.fort_typing_meaning.specs.Tests.{all_below, first_widest, widest}
use Rattle.fort_typing_law_rules.specs.Deciding.{IsType, AreTypes, IsAccepted, Decides}
use Rattle.fort_typing_law_rules.proofs.Deciding.{is_decided}
use Rattle.fort_typing_law_rules.specs.Laws.{WidestIsComputed}

refuted : {A : Type 0} (c : Bool) → (c ≡ true → A) → (A → ⊥) → c ≡ false
refuted true f n = absurd (n (f refl))
refuted false f n = refl

first_true : (c d : Bool) → cond c d false ≡ true → c ≡ true
first_true true d h = refl
first_true false d h = absurd cc

second_true : (c d : Bool) → cond c d false ≡ true → d ≡ true
second_true true d h = h
second_true false d h = absurd cc

pub unlike : (k : Knows) → IsAccepted k → (a b : Ty) → IsType k a → IsType k b → (IsBelow k a b → ⊥)
    → is_below k.facts a b ≡ false
unlike k A a b T U n = refuted (is_below k.facts a b) ((is_decided k A).told a b T U) n

module _ (k : Knows) (A : IsAccepted k) where
  D : Decides k
  D = is_decided k A

  all_true : (types : List Ty) (t : Ty) → AreTypes k types → IsType k t → AreAllBelow k types t
      → all_below k.facts types t ≡ true
  all_true [] t T U h = refl
  all_true (x ∷ xs) t T U h =
      ap (λ c. cond c (all_below k.facts xs t) false) (D.below x t T.0 U (h zero x refl))
      ∙ all_true xs t T.1 U (λ j y e. h (suc j) y e)

  pub all_told : (types : List Ty) (t : Ty) → AreTypes k types → IsType k t
      → all_below k.facts types t ≡ true → AreAllBelow k types t
  all_told [] t T U h j x e = absurd cc
  all_told (y ∷ ys) t T U h zero x e =
      let same : y ≡ x = cc
      in subst (λ
      (z : Ty). IsBelow k z t) same
      (D.told y t T.0 U (first_true (is_below k.facts y t) (all_below k.facts ys t) h))
  all_told (y ∷ ys) t T U h (suc j) x e =
      all_told ys t T.1 U (second_true (is_below k.facts y t) (all_below k.facts ys t) h) j x e

  found : (all : List Ty) → AreTypes k all → (t : Ty) → AreAllBelow k all t → (ts : List Ty)
      → AreTypes k ts → (at : ℕ) → slice_get ts at ≡ Some t
      → ((j : ℕ) (x : Ty) → slice_get ts j ≡ Some x → AreAllBelow k all x → at ≤ j)
      → first_widest k.facts all ts ≡ Some t
  found all T t over [] U at is first = absurd cc
  found all T t over (x ∷ xs) U zero is first =
      let same : x ≡ t = cc in
      ap (λ c. cond c (Some x) (first_widest k.facts all xs)) (ap (all_below k.facts all) same
      ∙ all_true all t T (subst (IsType k) same U.0) over) ∙ ap (λ (y : Ty). Some y) same
  found all T t over (x ∷ xs) U (suc at) is first =
      ap (λ c. cond c (Some x) (first_widest k.facts all xs))
      (refuted (all_below k.facts all x) (all_told all x T U.0) (λ a. let l =
      first zero x refl a in omega arith))
      ∙ found all T t over xs U.1 at is (λ j y e a. let l = first (suc j) y e a in omega arith)

  none : (all : List Ty) → AreTypes k all → (ts : List Ty) → AreTypes k ts
      → ((j : ℕ) (x : Ty) → slice_get ts j ≡ Some x → AreAllBelow k all x → ⊥)
      → first_widest k.facts all ts ≡ None
  none all T [] U n = refl
  none all T (x ∷ xs) U n =
      ap (λ c. cond c (Some x) (first_widest k.facts all xs))
      (refuted (all_below k.facts all x) (all_told all x T U.0) (n zero x refl))
      ∙ none all T xs U.1 (λ j y e. n (suc j) y e)

one_is : (k : Knows) → IsAccepted k → (types : List Ty) → AreTypes k types → (t : Ty)
    → IsWidest k types t → widest k.facts types ≡ Some t
unfolding widest
one_is k A types T t h = found k A types T t h.over types T h.at h.is h.first

none_is : (k : Knows) → IsAccepted k → (types : List Ty) → AreTypes k types → HasNoWidest k types
    → widest k.facts types ≡ None
unfolding widest
none_is k A types T h = none k A types T types T h

-- ---- from what is computed

told_at : (k : Knows) (A : IsAccepted k) (all ts : List Ty) (x t : Ty) → AreTypes k all → (c : Bool)
    → all_below k.facts all x ≡ c → cond c (Some x) (first_widest k.facts all ts) ≡ Some t
    → IsType k x
    → (first_widest k.facts all ts ≡ Some t
    → (at : ℕ) × (slice_get ts at ≡ Some t) × AreAllBelow k all t
    × ((j : ℕ) (y : Ty) → slice_get ts j ≡ Some y → AreAllBelow k all y → at ≤ j))
    → (at : ℕ) × (slice_get (x ∷ ts) at ≡ Some t) × AreAllBelow k all t
    × ((j : ℕ) (y : Ty) → slice_get (x ∷ ts) j ≡ Some y → AreAllBelow k all y → at ≤ j)
told_at k A all ts x t T true e q U rest =
    let same : x ≡ t = cc
    in (0, q, subst (AreAllBelow k all) same (all_told k A all x T U e), λ j y f a. omega arith)
told_at k A all ts x t T false e q U rest = let r = rest q in (suc r.0, r.1, r.2, later r.0 r.3)
  where
    later : (at : ℕ) → ((j : ℕ) (y : Ty) → slice_get ts j ≡ Some y → AreAllBelow k all y → at ≤ j)
        → (j : ℕ) (y : Ty) → slice_get (x ∷ ts) j ≡ Some y → AreAllBelow k all y → suc at ≤ j
    later at f zero y g a = absurd
        (let same : x ≡ y = cc
        in let n : true ≡ false =
        sym (all_true k A all x T U (subst (AreAllBelow k all) (sym same) a)) ∙ e in cc)
    later at f (suc j) y g a = let l = f j y g a in omega arith

first_told : (k : Knows) (A : IsAccepted k) (all : List Ty) → AreTypes k all → (ts : List Ty)
    → AreTypes k ts → (t : Ty) → first_widest k.facts all ts ≡ Some t
    → (at : ℕ) × (slice_get ts at ≡ Some t) × AreAllBelow k all t
    × ((j : ℕ) (y : Ty) → slice_get ts j ≡ Some y → AreAllBelow k all y → at ≤ j)
first_told k A all T [] U t e = absurd cc
first_told k A all T (x ∷ xs) U t e =
    told_at k A all xs x t T (all_below k.facts all x) refl e U.0
    (λ f. first_told k A all T xs U.1 t f)

pub widest_told : (k : Knows) (A : IsAccepted k) (types : List Ty) → AreTypes k types → (t : Ty)
    → widest k.facts types ≡ Some t → IsWidest k types t
unfolding widest
widest_told k A types T t e =
    let f = first_told k A types T types T t e
    in record { at = f.0; is = f.1; over = f.2; first = f.3 }

none_at : (k : Knows) (A : IsAccepted k) (all ts : List Ty) (x : Ty) → AreTypes k all → (c : Bool)
    → all_below k.facts all x ≡ c → cond c (Some x) (first_widest k.facts all ts) ≡ None
    → IsType k x
    → (all_below k.facts all x ≡ false) × (first_widest k.facts all ts ≡ None)
none_at k A all ts x T true e q U = absurd cc
none_at k A all ts x T false e q U = (e, q)

none_first : (k : Knows) (A : IsAccepted k) (all : List Ty) → AreTypes k all → (ts : List Ty)
    → AreTypes k ts → first_widest k.facts all ts ≡ None → (j : ℕ) (y : Ty)
    → slice_get ts j ≡ Some y → AreAllBelow k all y → ⊥
none_first k A all T [] U e j y f a = absurd cc
none_first k A all T (x ∷ xs) U e zero y f a =
    let n = none_at k A all xs x T (all_below k.facts all x) refl e U.0 in
    let same : x ≡ y = cc in
    let z : true ≡ false =
    sym (all_true k A all x T U.0 (subst (AreAllBelow k all) (sym same) a)) ∙ n.0 in absurd cc
none_first k A all T (x ∷ xs) U e (suc j) y f a =
    none_first k A all T xs U.1 (none_at k A all xs x T (all_below k.facts all x) refl e U.0).1 j y
    f a

pub none_told : (k : Knows) (A : IsAccepted k) (types : List Ty) → AreTypes k types
    → widest k.facts types ≡ None → HasNoWidest k types
unfolding widest
none_told k A types T e = none_first k A types T types T e

pub widest_is_computed : WidestIsComputed
widest_is_computed = record { one = one_is; none = none_is }
