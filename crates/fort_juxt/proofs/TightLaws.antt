-- What the code finds is the next rewriting.
use Rattle.std.proofs.Common.{◌≡◌, ℕ, zero, suc, ◌+◌, ◌-◌, ◌<◌, true, false, List, [], ◌∷◌, ◌++◌, length, take, drop, get_or, Result, Ok, Err, refl, sym, ap, ◌∙◌, arith}
use Rattle.std.proofs.lemmas.List.{length-take-le, length-drop, take_all, take_more}
use Rattle.fort_base.specs.declared.rules.TheConstants.{FUNCTION_AS_VALUE, TIGHT_ARGUMENT}
use Rattle.fort_base.specs.declared.refusal.CheckFault.{CheckFault}
use Rattle.fort_base.specs.declared.refusal.CheckFault.TheVariants as a_fault
use Rattle.fort_juxt.specs.declared.elements.Element.{Element}
use Rattle.fort_juxt.specs.declared.elements.Tight.{Tight}
use Rattle.fort_juxt.specs.declared.elements.Tight.TheVariants as a_rewriting
use Rattle.fort_juxt.specs.First.{IsFirst}
use Rattle.fort_juxt.specs.Tight.{takes, postfix_first, is_argument, Rewrites, applies, no_argument, applies_postfix, postfix_of_name, joins, first_is_name, second_is_name, whole}
use Rattle.fort_juxt.specs.Walks.{IsAt, IsUnmet}
use Rattle.fort_juxt.proofs.FirstLaws.{at_first, at_nowhere, drop_one, drop_two}

takes_two : (es : List Element) → takes es ≡ true → 1 < length es
takes_two [] e = absurd cc
takes_two (f ∷ []) e = absurd cc
takes_two (f ∷ a ∷ es) e = omega arith

pub at_takes : (es : List Element) (at : ℕ) → IsAt takes es at → at + 1 < length es
at_takes es at h = let t = takes_two (drop at es) h.met in let l = length-drop at es in omega arith

-- the length of the front
front : (es : List Element) (at : ℕ) → at < length es → at ≡ length (take at es)
front es at h = sym (length-take-le at es (omega arith))

taken_first : (es : List Element) (at : ℕ) (d : Element) → IsAt takes es at
    → IsFirst takes es (take at es) (get_or es at d ∷ get_or es (at + 1) d ∷ drop (at + 2) es)
taken_first es at d h = at_first takes es at _ h (drop_two es at d (at_takes es at h))

-- what stands from a number on, as the code takes it
tail : (es : List Element) (n : ℕ) → take (length es - n) (drop n es) ≡ drop n es
tail es n = take_all (length es - n) (drop n es) (let l = length-drop n es in omega arith)

pub takes_argument : (es : List Element) (at : ℕ) (d : Element) → IsAt takes es at
    → is_argument (get_or es (at + 1) d) (take (length es - (at + 2)) (drop (at + 2) es)) ≡ true
    → Rewrites es (Ok (a_rewriting.Apply at))
takes_argument es at d h i =
    applies (take at es) (drop (at + 2) es) (get_or es at d) (get_or es (at + 1) d)
    (taken_first es at d h)
    (ap (is_argument (get_or es (at + 1) d)) (sym (tail es (at + 2)))
    ∙ i) (ap (λ n. Ok (a_rewriting.Apply n)) (front es at h.within))

pub refuses_argument : (es : List Element) (at : ℕ) (d : Element) → IsAt takes es at
    → is_argument (get_or es (at + 1) d) (take (length es - (at + 2)) (drop (at + 2) es)) ≡ false
    → Rewrites es (Err (a_fault.Refused TIGHT_ARGUMENT (get_or es (at + 1) d).place))
refuses_argument es at d h i =
    no_argument (take at es) (drop (at + 2) es) (get_or es at d) (get_or es (at + 1) d)
    (taken_first es at d h)
    (ap (is_argument (get_or es (at + 1) d)) (sym (tail es (at + 2))) ∙ i) refl

-- ---- a postfix

-- the element before a number
last_before : (es : List Element) (at : ℕ) (d : Element) → 0 < at → at < length es
    → take at es ≡ take (at - 1) es ++ get_or es (at - 1) d ∷ []
last_before es at d p h = ap (λ n. take n es)
    (let e : at ≡ at - 1 + 1 = omega arith in e) ∙ take_more es (at - 1) d (omega arith)

fixed_first : (es : List Element) (at : ℕ) (d : Element) → IsAt postfix_first es at → 0 < at
    → IsFirst postfix_first es (take (at - 1) es ++ get_or es (at - 1) d ∷ [])
    (get_or es at d ∷ drop (at + 1) es)
fixed_first es at d h p =
    rw (← last_before es at d p h.within)
    (at_first postfix_first es at _ h (drop_one es at d h.within))

pub fixes : (es : List Element) (at : ℕ) (d : Element) → IsUnmet takes es → IsAt postfix_first es at
    → 0 < at → (get_or es (at - 1) d).named ≡ false → Rewrites es (Ok (a_rewriting.Postfix at))
fixes es at d n h p m =
    applies_postfix (at_nowhere takes es refl n) (take (at - 1) es) (drop (at + 1) es)
    (get_or es (at - 1) d) (get_or es at d) (fixed_first es at d h p) m
    (ap (λ n. Ok (a_rewriting.Postfix n)) (front es at h.within
    ∙ ap length (last_before es at d p h.within)))

pub refuses_fixed : (es : List Element) (at : ℕ) (d : Element) → IsUnmet takes es
    → IsAt postfix_first es at → 0 < at → (get_or es (at - 1) d).named ≡ true
    → Rewrites es (Err (a_fault.Refused FUNCTION_AS_VALUE (get_or es (at - 1) d).place))
refuses_fixed es at d n h p m =
    postfix_of_name (at_nowhere takes es refl n) (take (at - 1) es) (drop (at + 1) es)
    (get_or es (at - 1) d) (get_or es at d) (fixed_first es at d h p) m refl

-- a postfix doesn't stand first
pub not_first : (es : List Element) (at : ℕ) → IsAt postfix_first es at → postfix_first es ≡ false
    → 0 < at
not_first es at h p = omega (arith, away es at h.met p)
  where
    away : (es : List Element) (at : ℕ) → postfix_first (drop at es) ≡ true
        → postfix_first es ≡ false → 0 < at
    away es zero m p = let e : true ≡ false = sym m ∙ p in absurd cc
    away es (suc at) m p = omega arith

-- ---- neighbours

module _ (es : List Element) (d : Element) (n : IsUnmet takes es)
    (o : IsUnmet postfix_first es) where
  pub joins_two : 1 < length es → (get_or es 0 d).named ≡ false → (get_or es 1 d).named ≡ false
      → Rewrites es (Ok a_rewriting.Left)
  joins_two l i j =
      joins (at_nowhere takes es refl n) (at_nowhere postfix_first es refl o) _ _ _
      (drop_two es 0 d l) i j refl

  pub refuses_first : 1 < length es → (get_or es 0 d).named ≡ true
      → Rewrites es (Err (a_fault.Refused FUNCTION_AS_VALUE (get_or es 0 d).place))
  refuses_first l i =
      first_is_name (at_nowhere takes es refl n) (at_nowhere postfix_first es refl o) _ _ _
      (drop_two es 0 d l) i refl

  pub refuses_second : 1 < length es → (get_or es 0 d).named ≡ false → (get_or es 1 d).named ≡ true
      → Rewrites es (Err (a_fault.Refused FUNCTION_AS_VALUE (get_or es 1 d).place))
  refuses_second l i j =
      second_is_name (at_nowhere takes es refl n) (at_nowhere postfix_first es refl o) _ _ _
      (drop_two es 0 d l) i j refl

pub is_whole : (es : List Element) → 0 < length es → length es < 2
    → Rewrites es (Ok a_rewriting.Whole)
is_whole [] h l = absurd (omega arith)
is_whole (x ∷ []) h l = whole x refl refl
is_whole (x ∷ y ∷ es) h l = absurd (omega arith)

-- no answer is want of memory
pub never_memory : (es : List Element) (r : Result Tight CheckFault) → Rewrites es r
    → (fault : CheckFault) → r ≡ Err fault → fault ≡ a_fault.Memory → ⊥
never_memory es r (applies b s f a h i q) fault p e = absurd cc
never_memory es r (no_argument b s f a h i q) fault p e = absurd cc
never_memory es r (applies_postfix n b s x y h m q) fault p e = absurd cc
never_memory es r (postfix_of_name n b s x y h m q) fault p e = absurd cc
never_memory es r (joins n o x y s f i j q) fault p e = absurd cc
never_memory es r (first_is_name n o x y s f i q) fault p e = absurd cc
never_memory es r (second_is_name n o x y s f i j q) fault p e = absurd cc
never_memory es r (whole x f q) fault p e = absurd cc
