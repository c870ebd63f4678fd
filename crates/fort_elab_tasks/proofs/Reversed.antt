-- Lists from their other end.
use Rattle.std.proofs.Common.{◌≡◌, ℕ, suc, ◌+◌, ◌-◌, ◌<◌, ◌≤◌, List, [], ◌∷◌, ◌++◌, drop, take, length, get_or, sym, ap, ◌∙◌, arith}
use Rattle.std.specs.Prelude.{reverse, cond, nat_eq}
use Rattle.fort_base.specs.declared.ids.NameId.{NameId}
use Rattle.fort_elab_meaning.specs.Making.{number_of}
use Rattle.std.proofs.lemmas.List.{reverse-append, reverse-reverse, length-reverse, take-append-drop, length-drop, drop_all, take_all}
use Rattle.std.proofs.Math.Seq.{take-suc, take-append_seam, drop-append_seam}

module _ {A : Type 0} where
  halves : (m : ℕ) (xs : List A) → reverse xs ≡ reverse (drop m xs) ++ reverse (take m xs)
  halves m xs =
      sym (ap (λ (ys : List A). reverse ys) (take-append-drop m xs))
      ∙ reverse-append (take m xs) (drop m xs)

  as_many : (xs : List A) (n : ℕ) → n ≤ length xs → length (reverse (drop (length xs - n) xs)) ≡ n
  as_many xs n le =
      let e : length xs - (length xs - n) ≡ n = omega arith
      in length-reverse (drop (length xs - n) xs) ∙ length-drop (length xs - n) xs ∙ e

  -- what is left behind the newest ones
  pub left_behind : (xs : List A) (n : ℕ) → n ≤ length xs
      → drop n (reverse xs) ≡ reverse (take (length xs - n) xs)
  left_behind xs n le = let m = length xs - n in
      ap (λ (ys : List A). drop n ys) (halves m xs)
      ∙ ap (λ (k : ℕ). drop k (reverse (drop m xs) ++ reverse (take m xs))) (sym (as_many xs n le))
      ∙ drop-append_seam (reverse (drop m xs)) (reverse (take m xs))

  pub none_left : (xs : List A) (n : ℕ) → length xs ≤ n → drop n (reverse xs) ≡ []
  none_left xs n le =
      let e : length (reverse xs) ≤ n = omega (arith, length-reverse xs, le)
      in drop_all n (reverse xs) e

  -- the newest ones, the oldest of them first
  pub last_ones : (xs : List A) (n : ℕ) → n ≤ length xs
      → reverse (take n (reverse xs)) ≡ drop (length xs - n) xs
  last_ones xs n le =
      let m = length xs - n in let a = reverse (drop m xs) in let b = reverse (take m xs) in
      ap (λ (ys : List A). reverse (take n ys)) (halves m xs)
      ∙ ap (λ (k : ℕ). reverse (take k (a ++ b))) (sym (as_many xs n le))
      ∙ ap (λ (ys : List A). reverse ys) (take-append_seam a b)
      ∙ reverse-reverse (drop m xs)

  pub all_ones : (xs : List A) (n : ℕ) → length xs ≤ n → reverse (take n (reverse xs)) ≡ xs
  all_ones xs n le = let e : length (reverse xs) ≤ n = omega (arith, length-reverse xs, le) in
      ap (λ (ys : List A). reverse ys) (take_all n (reverse xs) e) ∙ reverse-reverse xs

  -- one more
  pub one_more : (xs : List A) (n : ℕ) (d : A) → n < length xs
      → reverse (take (n + 1) xs) ≡ get_or xs n d ∷ reverse (take n xs)
  one_more xs n d lt = let e : n + 1 ≡ suc n = omega arith in
      ap (λ (k : ℕ). reverse (take k xs)) e ∙ ap (λ
      (ys : List A). reverse ys) (take-suc xs n d lt)
      ∙ reverse-append (take n xs) (get_or xs n d ∷ [])

  -- a list whose last items are taken off
  pub leaves : (xs ys zs : List A) (all n : ℕ) → reverse xs ≡ zs → all ≡ length xs → n < all
      → ys ≡ take (all - n) xs → reverse ys ≡ drop n zs
  leaves xs ys zs all n view len lt is = let le : n ≤ length xs = omega arith in
      ap (λ (us : List A). reverse us) is ∙ ap (λ
      (k : ℕ). reverse (take (k - n) xs)) len ∙ sym (left_behind xs n le) ∙ ap (λ
      (us : List A). drop n us) view

-- ---- names

-- the innermost of the bindings that are left to be looked at
pub last_binding : (xs : List (NameId × ℕ)) (name : NameId) (back : ℕ) (d : NameId × ℕ)
    → back < length xs
    → number_of (reverse (take (length xs - back) xs)) name
    ≡ cond (nat_eq (get_or xs (length xs - back - 1) d).0.0 name.0)
    (get_or xs (length xs - back - 1) d).1
    (number_of (reverse (take (length xs - (back + 1)) xs)) name)
last_binding xs name back d lt =
    let n = length xs - back - 1 in let e : length xs - back ≡ n + 1 = omega arith
    in let f : n ≡ length xs - (back + 1) = omega arith in let h : n < length xs = omega arith in
    ap (λ (k : ℕ). number_of (reverse (take k xs)) name) e
    ∙ ap (λ (ys : List (NameId × ℕ)). number_of ys name) (one_more xs n d h)
    ∙ ap (λ (k : ℕ). cond (nat_eq (get_or xs n d).0.0 name.0) (get_or xs n d).1
    (number_of (reverse (take k xs)) name)) f
