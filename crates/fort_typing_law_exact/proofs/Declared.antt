-- Declarations, one after another: the rows of what has a type, and the first of the rules that are
-- broken.
use Rattle.std.proofs.Common.{◌≡◌, ◌⊎◌, inl, inr, ℕ, zero, suc, List, [], ◌∷◌, ◌++◌, length, slice_get, Option, Some, None, refl, ap, ◌∙◌, sym, subst, arith}
use Rattle.std.specs.List.{AllByRecursion}
use Rattle.fort_form_typed.specs.declared.typed_form.TypedForm.{TypedForm}
use Rattle.fort_typing_known.specs.declared.fault.Fault.{Fault}
use Rattle.fort_typing_meaning.specs.declared.frame.Valued.{Valued}
use Rattle.fort_typing_law_rules.specs.Exact.{IsFirst}
use Rattle.fort_typing_law_rules.proofs.Firsts.{no_more, both}

-- What a declaration answers: it has a type, or breaks a rule; and the first broken rule is found.
pub data Told (Has : TypedForm → Type 0) (Breaks : Fault → Type 0) (found : Option Fault)
    (v : Valued) : Type 0 where
  has_type : (t : TypedForm) → v.node ≡ Some t → Has t → IsFirst found Breaks v.found
      → Told Has Breaks found v
  has_none : (x : Fault) → v.node ≡ None → Breaks x → IsFirst found Breaks v.found
      → Told Has Breaks found v

nothing-behind : {X : Type 0} (xs : List X) → xs ≡ xs ++ []
nothing-behind [] = refl
nothing-behind (x ∷ xs) = ap (λ zs. x ∷ zs) (nothing-behind xs)

one-behind : {X : Type 0} (xs ys : List X) (x : X) → (xs ++ x ∷ []) ++ ys ≡ xs ++ x ∷ ys
one-behind [] ys x = refl
one-behind (z ∷ xs) ys x = ap (λ zs. z ∷ zs) (one-behind xs ys x)

module _ {D X : Type 0} (row : D → TypedForm → X) (Has : D → TypedForm → Type 0)
    (Breaks : D → Fault → Type 0) where
  -- the row of a declaration
  abbrev pub IsRow : D → X → Type 0
  IsRow d x = (t : TypedForm) × Has d t × (x ≡ row d t)

  abbrev pub AreRows : List D → List X → Type 0
  AreRows [] [] = Unit {0}
  AreRows [] (x ∷ xs) = ⊥
  AreRows (d ∷ ds) [] = ⊥
  AreRows (d ∷ ds) (x ∷ xs) = IsRow d x × AreRows ds xs

  abbrev pub SomeBreaks : List D → Fault → Type 0
  SomeBreaks [] f = ⊥
  SomeBreaks (d ∷ ds) f = Breaks d f ⊎ SomeBreaks ds f

  -- what declarations answer, with the rows before and behind them
  pub data Walked (ds : List D) (before behind : List X) (found new : Option Fault) : Type 0 where
    all_have : (rows : List X) → behind ≡ before ++ rows → AreRows ds rows
        → IsFirst found (SomeBreaks ds) new → Walked ds before behind found new
    one_lacks : (f : Fault) → SomeBreaks ds f → IsFirst found (SomeBreaks ds) new
        → Walked ds before behind found new

  pub none-walked : (before : List X) (found : Option Fault) → Walked [] before before found found
  none-walked before found =
      all_have [] (nothing-behind before) tt (no_more found (SomeBreaks []) (λ f b. b))

  pub one-walked : (d : D) (ds : List D) (before mid behind : List X) (found new : Option Fault)
      (v : Valued) → Told (Has d) (Breaks d) found v
      → ((t : TypedForm) → v.node ≡ Some t → mid ≡ before ++ row d t ∷ [])
      → Walked ds mid behind v.found new → Walked (d ∷ ds) before behind found new
  one-walked d ds before mid behind found new v (has_type t e h i) kept (all_have rows q R j) =
      all_have (row d t ∷ rows) (q ∙ ap (λ zs. zs ++ rows) (kept t e)
      ∙ one-behind before rows (row d t)) ((t, h, refl), R)
      (both found v.found new (Breaks d) (SomeBreaks ds) i j)
  one-walked d ds before mid behind found new v (has_type t e h i) kept (one_lacks f b j) =
      one_lacks f (inr b) (both found v.found new (Breaks d) (SomeBreaks ds) i j)
  one-walked d ds before mid behind found new v (has_none x e b i) kept (all_have rows q R j) =
      one_lacks x (inl b) (both found v.found new (Breaks d) (SomeBreaks ds) i j)
  one-walked d ds before mid behind found new v (has_none x e b i) kept (one_lacks f c j) =
      one_lacks x (inl b) (both found v.found new (Breaks d) (SomeBreaks ds) i j)

  -- ---- by numbers

  pub broken-at : (ds : List D) (n : ℕ) (d : D) (f : Fault) → slice_get ds n ≡ Some d → Breaks d f
      → SomeBreaks ds f
  broken-at [] n d f e b = absurd cc
  broken-at (c ∷ ds) zero d f e b = inl
      (let q : c ≡ d = cc in subst (λ (z : D). Breaks z f) (sym q) b)
  broken-at (c ∷ ds) (suc n) d f e b = inr (broken-at ds n d f e b)

  pub broken-of : (ds : List D) (f : Fault) → SomeBreaks ds f
      → (n : ℕ) × (d : D) × (slice_get ds n ≡ Some d) × Breaks d f
  broken-of [] f b = absurd b
  broken-of (d ∷ ds) f (inl b) = (0, d, refl, b)
  broken-of (d ∷ ds) f (inr b) = let r = broken-of ds f b in (suc r.0, r.1, r.2, r.3)

  pub rows-long : (ds : List D) (xs : List X) → AreRows ds xs → length xs ≡ length ds
  rows-long [] [] R = refl
  rows-long [] (x ∷ xs) R = absurd R
  rows-long (d ∷ ds) [] R = absurd R
  rows-long (d ∷ ds) (x ∷ xs) R = ap suc (rows-long ds xs R.1)

  pub row-at : (ds : List D) (xs : List X) → AreRows ds xs → (n : ℕ) (d : D)
      → slice_get ds n ≡ Some d → (t : TypedForm) × Has d t × (slice_get xs n ≡ Some (row d t))
  row-at [] xs R n d e = absurd cc
  row-at (c ∷ ds) [] R n d e = absurd R
  row-at (c ∷ ds) (x ∷ xs) R zero d e =
      let q : c ≡ d = cc in
      let r = R.0 in (
        r.0,
        subst (λ (z : D). Has z r.0) q r.1,
        ap (λ
            (y : X). Some y) (r.2 ∙ ap (λ (z : D). row z r.0) q),
      )
  row-at (c ∷ ds) (x ∷ xs) R (suc n) d e = row-at ds xs R.1 n d e

  some-row : {a b : X} → Some a ≡ Some b → a ≡ b
  some-row e = cc

  pub rows-of : (ds : List D) (xs : List X) → length xs ≡ length ds
      → ((n : ℕ) (d : D) → slice_get ds n ≡ Some d
      → (t : TypedForm) × Has d t × (slice_get xs n ≡ Some (row d t))) → AreRows ds xs
  rows-of [] [] l h = tt
  rows-of [] (x ∷ xs) l h = absurd (omega arith)
  rows-of (d ∷ ds) [] l h = absurd (omega arith)
  rows-of (d ∷ ds) (x ∷ xs) l h =
      (first (h 0 d refl), rows-of ds xs (omega arith) (λ n c e. h (suc n) c e))
    where
      first : (t : TypedForm) × Has d t × (Some x ≡ Some (row d t)) → IsRow d x
      first (t, g, e) = (t, g, some-row e)

  -- ---- what has a type has one, and breaks no rule

  module _ (Ready : D → Type 0)
      (once : (d : D) → Ready d → (t u : TypedForm) → Has d t → Has d u → t ≡ u)
      (never : (d : D) → Ready d → (t : TypedForm) → Has d t → (f : Fault) → Breaks d f → ⊥) where
    pub rows-once : (ds : List D) (xs ys : List X) → AllByRecursion Ready ds → AreRows ds xs
        → AreRows ds ys → xs ≡ ys
    rows-once [] [] [] G R S = refl
    rows-once [] [] (y ∷ ys) G R S = absurd S
    rows-once [] (x ∷ xs) ys G R S = absurd R
    rows-once (d ∷ ds) [] ys G R S = absurd R
    rows-once (d ∷ ds) (x ∷ xs) [] G R S = absurd S
    rows-once (d ∷ ds) (x ∷ xs) (y ∷ ys) G R S =
        let same : x ≡ y = R.0.2 ∙ ap (row d) (once d G.0 R.0.0 S.0.0 R.0.1 S.0.1) ∙ sym S.0.2 in
        ap (λ z. z ∷ xs) same ∙ ap (λ zs. y ∷ zs) (rows-once ds xs ys G.1 R.1 S.1)

    pub rows-never : (ds : List D) (xs : List X) → AllByRecursion Ready ds → AreRows ds xs
        → (f : Fault) → SomeBreaks ds f → ⊥
    rows-never [] xs G R f b = b
    rows-never (d ∷ ds) [] G R f b = R
    rows-never (d ∷ ds) (x ∷ xs) G R f (inl b) = never d G.0 R.0.0 R.0.1 f b
    rows-never (d ∷ ds) (x ∷ xs) G R f (inr b) = rows-never ds xs G.1 R.1 f b
