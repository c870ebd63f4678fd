-- What is so of each part is so of parts that may be left out, and of lists of parts.
use Rattle.std.proofs.Common.{◌≡◌, List, [], ◌∷◌, Option, Some, None, map, refl, sym, ◌∙◌, ◌++◌}
use Rattle.std.specs.Prelude.{option_map}
use Rattle.std.specs.List.{flat_map}
use Rattle.std.proofs.lemmas.List.{map-append}

module _ {T A : Type 0} (k : T → A) (m : T → T) (h : A → A) where
  -- a part, of which it is so
  abbrev pub Met : Type 0
  Met = (t : T) × (k (m t) ≡ h (k t))

  -- a list of parts
  pub each_met : (es : List Met)
      → map k (map m (map (λ (e : Met). e.0) es)) ≡ map h (map k (map (λ (e : Met). e.0) es))
  each_met [] = refl
  each_met (e ∷ es) = λ i. e.1 i ∷ each_met es i

-- a map of each element, moved, is the map of each, moved
pub lists_move : {A B : Type 0} (k : A → B) (m : A → A) (h : B → B) → ((a : A) → k (m a) ≡ h (k a))
    → (xs : List A) → map k (map m xs) ≡ map h (map k xs)
lists_move k m h each [] = refl
lists_move k m h each (x ∷ xs) = λ i. each x i ∷ lists_move k m h each xs i

-- the same where it may be left out
pub options_move : {A B : Type 0} (k : A → B) (m : A → A) (h : B → B)
    → ((a : A) → k (m a) ≡ h (k a)) → (o : Option A)
    → option_map k (option_map m o) ≡ option_map h (option_map k o)
options_move k m h each None = refl
options_move k m h each (Some x) = λ i. Some (each x i)

-- the same where each gives a list
pub joined_move : {A B : Type 0} (k : A → List B) (m : A → A) (h : B → B)
    → ((a : A) → k (m a) ≡ map h (k a)) → (xs : List A)
    → flat_map k (map m xs) ≡ map h (flat_map k xs)
joined_move k m h each [] = refl
joined_move k m h each (x ∷ xs) =
    (λ i. each x i ++ joined_move k m h each xs i) ∙ sym (map-append h (k x) (flat_map k xs))
