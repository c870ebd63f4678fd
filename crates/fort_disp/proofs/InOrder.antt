-- A row with one declaration more is in order, and the rows of sets are found by their numbers.
use Rattle.std.proofs.Common.{◌≡◌, ℕ, zero, suc, ◌<◌, true, false, List, [], ◌∷◌, ◌++◌, Some, ◌⊎◌, inl, inr, refl, sym, ◌∙◌, subst, arith}
use Rattle.std.specs.Prelude.{Contains, slice_get}
use Rattle.std.specs.List.{insert}
use Rattle.std.proofs.lemmas.List.Elements.{Contains-append_left, Contains-append_right, Contains-append_cases}
use Rattle.fort_base.specs.declared.ids.DeclId.{DeclId}
use Rattle.fort_core.specs.declared.program.CoreDecl.{CoreDecl}
use Rattle.fort_core.specs.declared.program.CoreSet.{CoreSet}
use Rattle.fort_core.specs.declared.program.Program.{Program}
use Rattle.fort_machine.specs.Calls.{IsMoreSpecific}
use Rattle.fort_disp.specs.Rows.{GoesThrough, MayPrecede, IsInOrder, IsRow, AreRows}
use Rattle.fort_disp.specs.Fits.{goes_before, HoldsNowhere, HoldsThere}
use Rattle.fort_disp.proofs.Bools.{clash, one_some}
use Rattle.fort_disp.proofs.Places.{member, none_in, first_or_later, inserted, newest, older}
use Rattle.fort_disp.proofs.Asking.{each_through, before_is, specific_before}

module _ (p : Program) where
  -- of one number there is one declaration
  one : (d : DeclId) (a b : CoreDecl) → slice_get p.decls d.0 ≡ Some a
      → slice_get p.decls d.0 ≡ Some b → a ≡ b
  one d a b e f = one_some a b (sym e ∙ f)

  -- a declaration may stand before one than which it is more specific, and before those before
  -- which that one may stand
  before : (d e : DeclId) → goes_before p d e ≡ true → MayPrecede p d e
  before d e g decl other a b s =
      let w = before_is p d e g in
      subst (λ x. IsMoreSpecific p x other) (one d w.0 decl w.1 a)
      (subst (λ y. IsMoreSpecific p w.0 y) (one e w.2 other w.3 b) w.4)

  beyond : GoesThrough p → (d y e : DeclId) → goes_before p d y ≡ true → MayPrecede p y e
      → MayPrecede p d e
  beyond t d y e g m decl other a b s =
      let w = before_is p d y g in
      let i : IsMoreSpecific p decl w.2 =
      subst (λ x. IsMoreSpecific p x w.2) (one d w.0 decl w.1 a) w.4 in
      let j = m w.2 other w.3 b
      (each_through p t other.parameters decl.parameters w.2.parameters s i) in
      each_through p t decl.parameters w.2.parameters other.parameters i j

  -- and before one that doesn't go before it
  unless : (d y : DeclId) → goes_before p d y ≡ false → MayPrecede p y d
  unless d y g decl other a b s =
      absurd (clash (goes_before p d y) (specific_before p d y other decl b a s) g)

  pub in_order : GoesThrough p → (d : DeclId) (row : List DeclId) (k : ℕ) → IsInOrder p row
      → HoldsNowhere (goes_before p d) row 0 k → HoldsThere (goes_before p d) row k
      → IsInOrder p (insert row k d)
  in_order t d [] zero o f g = ((λ e c. absurd (none_in e c)), tt)
  in_order t d [] (suc k) o f g = ((λ e c. absurd (none_in e c)), tt)
  in_order t d (y ∷ ys) zero o f g = ((λ e c. go e (first_or_later y ys e c)), o)
    where
      go : (e : DeclId) → (e ≡ y) ⊎ Contains ys e → MayPrecede p d e
      go e (inl s) = subst (MayPrecede p d) (sym s) (before d y (g y refl))
      go e (inr c) = beyond t d y e (g y refl) (o.0 e c)
  in_order t d (y ∷ ys) (suc k) o f g = (
    (λ e c. go e (inserted ys k d e c)),
    in_order t d ys k o.1 (λ n e a h c. f (suc n) e (omega arith) (omega arith) c) g,
  )
    where
      go : (e : DeclId) → (e ≡ d) ⊎ Contains ys e → MayPrecede p y e
      go e (inl s) =
          subst (MayPrecede p y) (sym s) (unless d y (f 0 y (omega arith) (omega arith) refl))
      go e (inr c) = o.0 e c

  -- the row of no declarations, and that of one more
  pub no_row : IsRow p [] []
  no_row = record { all = λ d c. c; only = λ d c. c; in_order = λ t. tt }

  pub next_row : (ms row : List DeclId) (d : DeclId) (k : ℕ) → IsRow p ms row
      → HoldsNowhere (goes_before p d) row 0 k → HoldsThere (goes_before p d) row k
      → IsRow p (ms ++ d ∷ []) (insert row k d)
  next_row ms row d k r f g = record {
    all = λ e c. there e (Contains-append_cases ms (d ∷ []) e c);
    only = λ e c. back e (inserted row k d e c);
    in_order = λ t. in_order t d row k (r.in_order t) f g;
  }
    where
      there : (e : DeclId) → Contains ms e ⊎ Contains (d ∷ []) e → Contains (insert row k d) e
      there e (inl a) = older row k d e (r.all e a)
      there e (inr b) = alone (first_or_later d [] e b)
        where
          alone : (e ≡ d) ⊎ Contains [] e → Contains (insert row k d) e
          alone (inl s) = subst (Contains (insert row k d)) (sym s) (newest row k d)
          alone (inr c) = absurd (none_in e c)

      back : (e : DeclId) → (e ≡ d) ⊎ Contains row e → Contains (ms ++ d ∷ []) e
      back e (inl s) =
          subst (Contains (ms ++ d ∷ [])) (sym s)
          (Contains-append_right ms (d ∷ []) d (0, omega arith, refl))
      back e (inr c) = Contains-append_left ms (d ∷ []) e (r.only e c)

  -- in a row in order each declaration may stand before a later one
  pub precedes : (row : List DeclId) (i j : ℕ) (d e : DeclId) → IsInOrder p row → i < j
      → slice_get row i ≡ Some d → slice_get row j ≡ Some e → MayPrecede p d e
  precedes [] i j d e o h a b = absurd cc
  precedes (y ∷ ys) i zero d e o h a b = absurd (omega arith)
  precedes (y ∷ ys) zero (suc j) d e o h a b =
      subst (λ z. MayPrecede p z e) (one_some y d a) (o.0 e (member ys j e b))
  precedes (y ∷ ys) (suc i) (suc j) d e o h a b = precedes ys i j d e o.1 (omega arith) a b

  -- rows stand where their sets do
  pub rows_last : (sets : List CoreSet) (rows : List (List DeclId)) (s : CoreSet)
      (row : List DeclId) → AreRows p sets rows → IsRow p s.decls row
      → AreRows p (sets ++ s ∷ []) (rows ++ row ∷ [])
  rows_last [] [] s row a r = (r, tt)
  rows_last [] (x ∷ xs) s row a r = absurd a
  rows_last (y ∷ ys) [] s row a r = absurd a
  rows_last (y ∷ ys) (x ∷ xs) s row a r = (a.0, rows_last ys xs s row a.1 r)

  pub row_at : (sets : List CoreSet) (rows : List (List DeclId)) (n : ℕ) (s : CoreSet)
      → AreRows p sets rows → slice_get sets n ≡ Some s
      → (row : List DeclId) × (slice_get rows n ≡ Some row) × IsRow p s.decls row
  row_at [] rows n s a e = absurd cc
  row_at (y ∷ ys) [] n s a e = absurd a
  row_at (y ∷ ys) (x ∷ xs) zero s a e =
      (x, refl, subst (λ (z : CoreSet). IsRow p z.decls x) (one_some y s e) a.0)
  row_at (y ∷ ys) (x ∷ xs) (suc n) s a e = row_at ys xs n s a.1 e

  pub set_at : (sets : List CoreSet) (rows : List (List DeclId)) (n : ℕ) (row : List DeclId)
      → AreRows p sets rows → slice_get rows n ≡ Some row
      → (s : CoreSet) × (slice_get sets n ≡ Some s) × IsRow p s.decls row
  set_at sets [] n row a e = absurd cc
  set_at [] (x ∷ xs) n row a e = absurd a
  set_at (y ∷ ys) (x ∷ xs) zero row a e = (y, refl, subst (IsRow p y.decls) (one_some x row e) a.0)
  set_at (y ∷ ys) (x ∷ xs) (suc n) row a e = set_at ys xs n row a.1 e
