-- Names without one that stands twice.
use Rattle.std.proofs.Common.{◌≡◌, ◌<◌, ◌⊎◌, ℕ, zero, suc, Bool, true, false, cond, List, [], ◌∷◌, ◌++◌, length, Some, inl, inr, refl, sym, ap, subst, ◌∙◌, arith, append_assoc}
use Rattle.std.specs.Prelude.{slice_get}
use Rattle.std.specs.List.{AllByRecursion, IsDistinct}
use Rattle.std.specs.Str.{bytes_eq}
use Rattle.std.specs.Cmp.Lexicographic.{bytes_decides}
use Rattle.std.proofs.lemmas.List.{append-nil}
use Rattle.fort_link_table.specs.Names.{Spelling, number_in, with_spelling, grown}
use Rattle.fort_link_table.specs.Laws.{AreOnce}
use Rattle.fort_link_table.proofs.Growing.{with_known, with_new, number_cases}

-- none of the names is spelled so
abbrev Not : Spelling → List Spelling → Type 0
Not s names = AllByRecursion (λ y. bytes_eq y s ≡ false) names

other_way : (s y : Spelling) → bytes_eq s y ≡ false → bytes_eq y s ≡ false
other_way s y e = at (bytes_eq y s) refl
  where
    at : (b : Bool) → bytes_eq y s ≡ b → bytes_eq y s ≡ false
    at true f =
        let g : bytes_eq s y ≡ true = (bytes_decides s y).1 (sym ((bytes_decides y s).0 f))
        in absurd cc
    at false f = f

number_not : (names : List Spelling) (s : Spelling) → Not s names → number_in names s ≡ length names
number_not [] s h = refl
number_not (x ∷ names) s h =
    ap (λ b. cond b 0 (suc (number_in names s))) (other_way x s h.0)
    ∙ ap suc (number_not names s h.1)

not_number : (names : List Spelling) (s : Spelling) → number_in names s ≡ length names → Not s names
not_number [] s e = tt
not_number (x ∷ names) s e = at (not_number names s) (bytes_eq s x) refl e
  where
    at : (number_in names s ≡ length names → Not s names) → (b : Bool) → bytes_eq s x ≡ b
        → cond b 0 (suc (number_in names s)) ≡ suc (length names)
        → (bytes_eq x s ≡ false) × Not s names
    at ih true f e = absurd (omega arith)
    at ih false f e = (other_way s x f, ih (omega arith))

all_last : (P : Spelling → Type 0) (names : List Spelling) (s : Spelling)
    → AllByRecursion P names → P s → AllByRecursion P (names ++ s ∷ [])
all_last P [] s h p = (p, tt)
all_last P (x ∷ names) s h p = (h.0, all_last P names s h.1 p)

once_last : (names : List Spelling) (s : Spelling) → AreOnce names → Not s names
    → AreOnce (names ++ s ∷ [])
unfolding IsDistinct
once_last [] s h n = (tt, tt)
once_last (x ∷ names) s h n =
    (all_last (λ y. bytes_eq x y ≡ false) names s h.0 n.0, once_last names s h.1 n.1)

with_once : (names : List Spelling) (s : Spelling) → AreOnce names → AreOnce (with_spelling names s)
with_once names s h = at (number_cases names s)
  where
    at : (number_in names s < length names) ⊎ (number_in names s ≡ length names)
        → AreOnce (with_spelling names s)
    at (inl l) = subst AreOnce (sym (with_known names s l)) h
    at (inr e) =
        subst AreOnce (sym (with_new names s e)) (once_last names s h (not_number names s e))

pub stay_once : (names more : List Spelling) → AreOnce names → AreOnce (grown names more)
stay_once names [] h = h
stay_once names (s ∷ more) h = stay_once (with_spelling names s) more (with_once names s h)

-- ---- names that grow from none

-- the one behind the front isn't among it
first_not : (front : List Spelling) (s : Spelling) (back : List Spelling)
    → AreOnce (front ++ s ∷ back) → Not s front
unfolding IsDistinct
first_not [] s back h = tt
first_not (x ∷ front) s back h = (of front h.0, first_not front s back h.1)
  where
    of : (front : List Spelling) → AllByRecursion (λ y. bytes_eq x y ≡ false) (front ++ s ∷ back)
        → bytes_eq x s ≡ false
    of [] h = h.0
    of (z ∷ front) h = of front h.1

pub grown_once : (front back : List Spelling) → AreOnce (front ++ back)
    → grown front back ≡ front ++ back
grown_once front [] h = sym (append-nil front)
grown_once front (s ∷ back) h =
    let e = with_new front s (number_not front s (first_not front s back h)) in
    let a = append_assoc front (s ∷ []) back in
    ap (λ z. grown z back) e
    ∙ (grown_once (front ++ s ∷ []) back (subst AreOnce (sym a) h) ∙ a)

-- each of them has its place as its number
pub number_once : (names : List Spelling) (n : ℕ) (s : Spelling) → AreOnce names
    → slice_get names n ≡ Some s → number_in names s ≡ n
unfolding IsDistinct
number_once [] n s h e = absurd cc
number_once (x ∷ names) zero s h e =
    let is : s ≡ x = cc in
    ap (λ b. cond b 0 (suc (number_in names s))) ((bytes_decides s x).1 is)
number_once (x ∷ names) (suc n) s h e =
    ap (λ b. cond b 0 (suc (number_in names s))) (other_way x s (at names n h.0 e))
    ∙ ap suc (number_once names n s h.1 e)
  where
    at : (names : List Spelling) (n : ℕ) → AllByRecursion (λ y. bytes_eq x y ≡ false) names
        → slice_get names n ≡ Some s → bytes_eq x s ≡ false
    at [] n h e = absurd cc
    at (y ∷ names) zero h e = let is : y ≡ s = cc in subst (λ z. bytes_eq x z ≡ false) is h.0
    at (y ∷ names) (suc n) h e = at names n h.1 e
