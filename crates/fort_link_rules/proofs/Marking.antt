-- Marks on names.
use Rattle.std.proofs.Common.{◌≡◌, ◌<◌, ◌+◌, ◌++◌, [], ◌∷◌, ℕ, zero, suc, Bool, true, false, ◌||◌, List, length, get_or, set, take, refl, sym, ap, ◌∙◌, subst, append_assoc, inl, inr}
use Rattle.std.specs.Prelude.{◌==◌, if◌then◌else◌, map, nat_lt}
use Rattle.std.specs.List.{flat_map}
use Rattle.std.proofs.lemmas.Bool.{cases_eq, eq-eqb, ne_eqb}
use Rattle.std.proofs.lemmas.List.{get_or-set_same, get_or-set_other, map-append}
use Rattle.std.proofs.lemmas.List.Folds.{list_any-append}
use Rattle.fort_tree.specs.declared.spot.Name.{Name}
use Rattle.fort_link_rules.specs.declared.marks.Marks.{Marks}
use Rattle.fort_link_rules.specs.Marks.{mark_of, Sets, is_marked, MarksNames, HasMarks}
use Rattle.fort_link_rules.specs.Units.{has_name, is_same}
use Rattle.fort_link_rules.proofs.Steps.{parts_more, taken}

or_false : (b : Bool) → b ≡ (b || false)
or_false true = refl
or_false false = refl

or_assoc : (a b c : Bool) → ((a || b) || c) ≡ (a || (b || c))
or_assoc true b c = refl
or_assoc false b c = refl

-- ---- one mark

pub get_or_zero : (xs : List ℕ) (k : ℕ) → get_or (xs ++ 0 ∷ []) k 0 ≡ get_or xs k 0
get_or_zero [] zero = refl
get_or_zero [] (suc k) = refl
get_or_zero (x ∷ xs) zero = refl
get_or_zero (x ∷ xs) (suc k) = get_or_zero xs k

pub set_at : (xs : List ℕ) (at k v : ℕ) → at < length xs
    → get_or (set xs at v) k 0 ≡ (if at == k then v else get_or xs k 0)
set_at xs at k v lt = elim (cases_eq at k) as (λ _. get_or (set xs at v) k 0
    ≡ (if at == k then v else get_or xs k 0)) [
      | inl e ↦ rw (eq-eqb at k e) (subst (λ j. get_or (set xs at v) j 0 ≡ v) e
          (get_or-set_same xs at v 0 lt))
      | inr n ↦ rw (ne_eqb at k n) (get_or-set_other xs at k v 0 (λ e. n (sym e)))
    ]

one_marked : (b : Bool) (m : ℕ) → nat_lt 0 (if b then 1 else m) ≡ (nat_lt 0 m || (b || false))
one_marked true m = one (nat_lt 0 m)
  where
    one : (c : Bool) → true ≡ (c || (true || false))
    one true = refl
    one false = refl
one_marked false m = or_false (nat_lt 0 m)

pub marks_one : (name : Name) (old new : Marks) → Sets name.id 1 old new
    → MarksNames (name ∷ []) old new
marks_one name old new s n =
    ap (λ m. nat_lt 0 m) (s n.id) ∙ one_marked (is_same name n) (mark_of old n.id)

-- ---- several names

pub marks_none : (old : Marks) → MarksNames [] old old
marks_none old n = or_false (is_marked old n)

pub marks_both : (xs ys : List Name) (old mid new : Marks) → MarksNames xs old mid
    → MarksNames ys mid new → MarksNames (xs ++ ys) old new
marks_both xs ys old mid new f g n =
    g n ∙ ap (λ b. b || has_name ys n) (f n)
    ∙ or_assoc (is_marked old n) (has_name xs n) (has_name ys n)
    ∙ ap (λ b. is_marked old n || b) (sym (list_any-append (λ x. is_same x n) xs ys))

pub has_more : (xs ys : List Name) (old new : Marks) → HasMarks xs old → MarksNames ys old new
    → HasMarks (xs ++ ys) new
has_more xs ys old new f g n =
    g n ∙ ap (λ b. b || has_name ys n) (f n)
    ∙ sym (list_any-append (λ x. is_same x n) xs ys)

pub has_none : (m : Marks) → m.marks ≡ [] → HasMarks [] m
has_none m e n = ap (λ xs. nat_lt 0 (get_or xs n.id.0 0)) e

-- ---- a walk over items

pub marks_step : {A : Type 0} (f : A → List Name) (xs : List A) (i : ℕ) (x : A)
    (old at new : Marks) → i < length xs → x ≡ get_or xs i x
    → MarksNames (flat_map f (take i xs)) old at → MarksNames (f x) at new
    → MarksNames (flat_map f (take (i + 1) xs)) old new
marks_step f xs i x old at new lt is m step =
    subst (λ l. MarksNames l old new) (sym (parts_more f xs i x lt is))
    (marks_both (flat_map f (take i xs)) (f x) old at new m step)

pub marks_step_mapped : {A : Type 0} (f : A → Name) (xs : List A) (i : ℕ) (x : A)
    (old at new : Marks) → i < length xs → x ≡ get_or xs i x
    → MarksNames (map f (take i xs)) old at → MarksNames (f x ∷ []) at new
    → MarksNames (map f (take (i + 1) xs)) old new
marks_step_mapped f xs i x old at new lt is m step =
    subst (λ l. MarksNames l old new) (sym (ap (map f) (taken xs i x lt is)
    ∙ map-append f (take i xs) (x ∷ [])))
    (marks_both (map f (take i xs)) (f x ∷ []) old at new m step)

pub has_step : {A : Type 0} (before : List Name) (f : A → List Name) (xs : List A) (i : ℕ) (x : A)
    (at new : Marks) → i < length xs → x ≡ get_or xs i x
    → HasMarks (before ++ flat_map f (take i xs)) at → MarksNames (f x) at new
    → HasMarks (before ++ flat_map f (take (i + 1) xs)) new
has_step before f xs i x at new lt is m step =
    subst (λ l. HasMarks l new) (append_assoc before (flat_map f (take i xs)) (f x)
    ∙ ap (λ l. before ++ l) (sym (parts_more f xs i x lt is)))
    (has_more (before ++ flat_map f (take i xs)) (f x) at new m step)
