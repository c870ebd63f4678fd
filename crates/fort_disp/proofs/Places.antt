-- Members of lists, their places, and one member more.
use Rattle.std.proofs.Common.{◌≡◌, ℕ, zero, suc, ◌<◌, List, [], ◌∷◌, ◌++◌, length, take, drop, slice_index_or, Some, ◌⊎◌, inl, inr, refl, sym, subst, arith}
use Rattle.std.specs.Prelude.{Contains, slice_get}
use Rattle.std.specs.List.{insert}
use Rattle.std.proofs.lemmas.List.{take-append-drop}
use Rattle.std.proofs.lemmas.List.Elements.{Contains-append_left, Contains-append_right, Contains-append_cases}
use Rattle.std.proofs.lemmas.Option.{slice_get_within, slice_get_read, get_or_from_slice_get}

module _ {A : Type 0} where
  -- a member has a place, and what has a place is a member
  pub has_place : (xs : List A) (x : A) → Contains xs x → (k : ℕ) × (slice_get xs k ≡ Some x)
  has_place xs x c = (c.0, slice_get_read xs (length xs) c.0 x refl c.1 (sym c.2))

  pub member : (xs : List A) (k : ℕ) (x : A) → slice_get xs k ≡ Some x → Contains xs x
  member xs k x e = (k, slice_get_within xs k x e, get_or_from_slice_get xs k x x e)

  pub none_in : (x : A) → Contains [] x → ⊥
  none_in x c = omega (arith, c.1)

  pub later : (y : A) (xs : List A) (x : A) → Contains xs x → Contains (y ∷ xs) x
  later y xs x c = Contains-append_right (y ∷ []) xs x c

  alone : (y x : A) → Contains (y ∷ []) x → x ≡ y
  alone y x c = go c.0 c.1 c.2
    where
      go : (k : ℕ) → k < 1 → slice_index_or (y ∷ []) k x ≡ x → x ≡ y
      go zero h e = sym e
      go (suc k) h e = absurd (omega arith)

  pub first_or_later : (y : A) (xs : List A) (x : A) → Contains (y ∷ xs) x → (x ≡ y) ⊎ Contains xs x
  first_or_later y xs x c = go (Contains-append_cases (y ∷ []) xs x c)
    where
      go : Contains (y ∷ []) x ⊎ Contains xs x → (x ≡ y) ⊎ Contains xs x
      go (inl a) = inl (alone y x a)
      go (inr b) = inr b

  -- the members with one more are that one and the others
  pub inserted : (xs : List A) (k : ℕ) (d x : A) → Contains (insert xs k d) x
      → (x ≡ d) ⊎ Contains xs x
  inserted xs k d x c = go (Contains-append_cases (take k xs) (d ∷ drop k xs) x c)
    where
      back : Contains (take k xs ++ drop k xs) x → Contains xs x
      back = subst (λ z. Contains z x) (take-append-drop k xs)

      right : (x ≡ d) ⊎ Contains (drop k xs) x → (x ≡ d) ⊎ Contains xs x
      right (inl e) = inl e
      right (inr b) = inr (back (Contains-append_right (take k xs) (drop k xs) x b))

      go : Contains (take k xs) x ⊎ Contains (d ∷ drop k xs) x → (x ≡ d) ⊎ Contains xs x
      go (inl a) = inr (back (Contains-append_left (take k xs) (drop k xs) x a))
      go (inr b) = right (first_or_later d (drop k xs) x b)

  pub newest : (xs : List A) (k : ℕ) (d : A) → Contains (insert xs k d) d
  newest xs k d = Contains-append_right (take k xs) (d ∷ drop k xs) d (0, omega arith, refl)

  pub older : (xs : List A) (k : ℕ) (d x : A) → Contains xs x → Contains (insert xs k d) x
  older xs k d x c =
      go (Contains-append_cases (take k xs) (drop k xs) x
      (subst (λ z. Contains z x) (sym (take-append-drop k xs)) c))
    where
      go : Contains (take k xs) x ⊎ Contains (drop k xs) x → Contains (insert xs k d) x
      go (inl a) = Contains-append_left (take k xs) (d ∷ drop k xs) x a
      go (inr b) = Contains-append_right (take k xs) (d ∷ drop k xs) x (later d (drop k xs) x b)
