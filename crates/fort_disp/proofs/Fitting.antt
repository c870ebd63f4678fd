-- Arguments fit a declaration, one after another, exactly where it is applicable to them.
use Rattle.std.proofs.Common.{◌≡◌, ℕ, zero, suc, ◌+◌, ◌<◌, ◌≤◌, Bool, true, false, List, [], ◌∷◌, length, map, get_or, Option, Some, None, ◌⊎◌, inl, inr, refl, sym, ap, ◌∙◌, subst, arith}
use Rattle.std.specs.Prelude.{slice_get, MatchOption}
use Rattle.std.proofs.lemmas.Bool.{cases_lt}
use Rattle.std.proofs.lemmas.Bool.Decides.{Decides-eqb}
use Rattle.std.proofs.lemmas.Option.{slice_get_within, slice_get-get_or}
use Rattle.fort_base.specs.declared.ids.DeclId.{DeclId}
use Rattle.fort_base.specs.declared.ty.Ty.{Ty}
use Rattle.fort_core.specs.declared.program.Program.{Program}
use Rattle.fort_core.specs.declared.value.Value.{Value}
use Rattle.fort_machine.specs.Types.{all_below, has_type, type_of}
use Rattle.fort_disp.specs.Fits.{applies, takes, fits_first, fits, HoldsNowhere, HoldsThere, IsFirst, IsNone}
use Rattle.fort_disp.proofs.Bools.{left_true, right_true, both_true, left_false, untrue, clash, asked_fails, asked_same}

module _ (p : Program) where
  abbrev TakesEach : List Value → List Ty → ℕ → Type 0
  TakesEach vs ts n = (k : ℕ) → k < n → takes p (slice_get vs k) (slice_get ts k) ≡ true

  -- place by place, and all at once
  all_from : (vs : List Value) (ts : List Ty) → length vs ≡ length ts → TakesEach vs ts (length vs)
      → all_below p (map (type_of p) vs) ts ≡ true
  all_from [] [] e h = refl
  all_from [] (t ∷ ts) e h = absurd (omega (arith, e))
  all_from (v ∷ vs) [] e h = absurd (omega (arith, e))
  all_from (v ∷ vs) (t ∷ ts) e h =
      both_true (has_type p v t) (all_below p (map (type_of p) vs) ts) (h 0 (omega arith))
      (all_from vs ts (omega (arith, e)) (λ k l. h (suc k) (omega arith)))

  lengths : (vs : List Value) (ts : List Ty) → all_below p (map (type_of p) vs) ts ≡ true
      → length vs ≡ length ts
  lengths [] [] e = refl
  lengths [] (t ∷ ts) e = absurd cc
  lengths (v ∷ vs) [] e = absurd cc
  lengths (v ∷ vs) (t ∷ ts) e =
      ap suc (lengths vs ts (right_true (has_type p v t) (all_below p (map (type_of p) vs) ts) e))

  all_at : (vs : List Value) (ts : List Ty) → all_below p (map (type_of p) vs) ts ≡ true
      → TakesEach vs ts (length vs)
  all_at [] ts e k h = absurd (omega arith)
  all_at (v ∷ vs) [] e k h = absurd cc
  all_at (v ∷ vs) (t ∷ ts) e zero h =
      left_true (has_type p v t) (all_below p (map (type_of p) vs) ts) e
  all_at (v ∷ vs) (t ∷ ts) e (suc k) h =
      all_at vs ts (right_true (has_type p v t) (all_below p (map (type_of p) vs) ts) e) k
      (omega arith)

  fits_from : (vs : List Value) (ts : List Ty) (n : ℕ) → length vs ≡ length ts → TakesEach vs ts n
      → fits_first p vs ts n ≡ true
  fits_from vs ts zero e h = (Decides-eqb (length vs) (length ts)).1 e
  fits_from vs ts (suc n) e h =
      both_true (fits_first p vs ts n) (takes p (slice_get vs n) (slice_get ts n))
      (fits_from vs ts n e (λ k l. h k (omega arith))) (h n (omega arith))

  fits_lengths : (vs : List Value) (ts : List Ty) (n : ℕ) → fits_first p vs ts n ≡ true
      → length vs ≡ length ts
  fits_lengths vs ts zero e = (Decides-eqb (length vs) (length ts)).0 e
  fits_lengths vs ts (suc n) e =
      fits_lengths vs ts n
      (left_true (fits_first p vs ts n) (takes p (slice_get vs n) (slice_get ts n)) e)

  fits_at : (vs : List Value) (ts : List Ty) (n : ℕ) → fits_first p vs ts n ≡ true
      → TakesEach vs ts n
  fits_at vs ts zero e k h = absurd (omega arith)
  fits_at vs ts (suc n) e k h =
      go (fits_at vs ts n
      (left_true (fits_first p vs ts n) (takes p (slice_get vs n) (slice_get ts n)) e))
      (cases_lt k n)
    where
      go : TakesEach vs ts n → (k < n) ⊎ (n ≤ k) → takes p (slice_get vs k) (slice_get ts k) ≡ true
      go f (inl l) = f k l
      go f (inr l) = let same : n ≡ k = omega arith in
          subst (λ i. takes p (slice_get vs i) (slice_get ts i)
          ≡ true) same
          (right_true (fits_first p vs ts n) (takes p (slice_get vs n) (slice_get ts n)) e)

  -- a declaration that all arguments fit is applicable, and the other way round
  fits_all : (vs : List Value) (ts : List Ty)
      → fits_first p vs ts (length vs) ≡ all_below p (map (type_of p) vs) ts
  fits_all vs ts = go (all_below p (map (type_of p) vs) ts) refl
    where
      go : (b : Bool) → all_below p (map (type_of p) vs) ts ≡ b → fits_first p vs ts (length vs) ≡ b
      go true e = fits_from vs ts (length vs) (lengths vs ts e) (all_at vs ts e)
      go false e =
          untrue (fits_first p vs ts (length vs))
          (λ f. clash (all_below p (map (type_of p) vs) ts)
          (all_from vs ts (fits_lengths vs ts (length vs) f) (fits_at vs ts (length vs) f)) e)

  pub fits_applies : (vs : List Value) (d : DeclId) → fits p vs (length vs) d ≡ applies p vs d
  fits_applies vs d =
      asked_same (slice_get p.decls d.0) (λ decl. fits_first p vs decl.parameters (length vs))
      (λ decl. all_below p (map (type_of p) vs) decl.parameters)
      (λ decl. fits_all vs decl.parameters)

  -- no argument fits where it isn't so, whatever comes later
  pub short : (vs : List Value) (ts : List Ty) (n : ℕ) → (length vs ≡ length ts → ⊥)
      → false ≡ fits_first p vs ts n
  short vs ts n f = sym (untrue (fits_first p vs ts n) (λ e. f (fits_lengths vs ts n e)))

  pub broken : (vs : List Value) (ts : List Ty) (n k : ℕ) → k < n
      → false ≡ takes p (slice_get vs k) (slice_get ts k) → false ≡ fits_first p vs ts n
  broken vs ts n k h e =
      sym (untrue (fits_first p vs ts n)
      (λ f. clash (takes p (slice_get vs k) (slice_get ts k)) (fits_at vs ts n f k h) (sym e)))

  -- an argument more
  pub no_more : (vs : List Value) (n : ℕ) (d : DeclId) → fits p vs n d ≡ false
      → fits p vs (suc n) d ≡ false
  no_more vs n d e =
      asked_fails (slice_get p.decls d.0) (λ decl. fits_first p vs decl.parameters n)
      (λ decl. fits_first p vs decl.parameters (suc n))
      (λ decl f. left_false (fits_first p vs decl.parameters n)
      (takes p (slice_get vs n) (slice_get decl.parameters n)) f) e

  -- what fits none up to one place and none from there on fits none
  none_more : (vs : List Value) (n : ℕ) (row : List DeclId) (a b : ℕ)
      → HoldsNowhere (fits p vs n) row 0 a → HoldsNowhere (fits p vs (suc n)) row a b
      → HoldsNowhere (fits p vs (suc n)) row 0 b
  none_more vs n row a b f g k d h l e = go (cases_lt k a)
    where
      go : (k < a) ⊎ (a ≤ k) → fits p vs (suc n) d ≡ false
      go (inl m) = no_more vs n d (f k d (omega arith) m e)
      go (inr m) = g k d m l e

  pub none_after : (vs : List Value) (n : ℕ) (row : List DeclId) (a b : ℕ)
      → HoldsNowhere (fits p vs n) row 0 a → HoldsNowhere (fits p vs (n + 1)) row a b
      → HoldsNowhere (fits p vs (n + 1)) row 0 b
  none_after vs n row a b f g = let e : n + 1 ≡ suc n = omega arith in
      subst (λ m. HoldsNowhere (fits p vs m) row 0 b) (sym e)
      (none_more vs n row a b f (subst (λ m. HoldsNowhere (fits p vs m) row a b) e g))

  -- the answer of the whole search
  pub first_is : (vs : List Value) (row : List DeclId) (a : ℕ) (d : DeclId)
      → HoldsNowhere (fits p vs (length vs)) row 0 a → HoldsThere (fits p vs (length vs)) row a
      → slice_get row a ≡ Some d → IsFirst p vs row d
  first_is vs row a d f g e = record {
    place = a;
    is_there = e;
    applicable = sym (fits_applies vs d) ∙ g d e;
    none_before = λ k x h q. sym (fits_applies vs x) ∙ f k x (omega arith) h q;
  }

  pub none_is : (vs : List Value) (row : List DeclId) (a : ℕ)
      → HoldsNowhere (fits p vs (length vs)) row 0 a → slice_get row a ≡ None → IsNone p vs row
  none_is vs row a f e k x q =
      sym (fits_applies vs x) ∙ f k x (omega arith) (go (cases_lt a (length row))) q
    where
      go : (a < length row) ⊎ (length row ≤ a) → k < a
      go (inl l) =
          let z : None ≡ Some (get_or row a x) = sym e ∙ slice_get-get_or row a x l in absurd cc
      go (inr l) = let h : k < length row = slice_get_within row k x q in omega arith

  pub answered : (vs : List Value) (row : List DeclId) (a : ℕ)
      → HoldsNowhere (fits p vs (length vs)) row 0 a → HoldsThere (fits p vs (length vs)) row a
      → (o : Option DeclId) → o ≡ slice_get row a
      → MatchOption o (IsNone p vs row) (IsFirst p vs row)
  answered vs row a f g None e = none_is vs row a f (sym e)
  answered vs row a f g (Some d) e = first_is vs row a d f g (sym e)
