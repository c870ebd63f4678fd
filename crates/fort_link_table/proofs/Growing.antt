-- The numbers of spellings, and names that grow.
use Rattle.std.proofs.Common.{◌≡◌, ◌<◌, ◌≤◌, ◌⊎◌, ℕ, zero, suc, Bool, true, false, cond, List, [], ◌∷◌, ◌++◌, length, take, drop, ◌-◌, Some, inl, inr, refl, sym, ap, subst, ◌∙◌, arith, append_assoc}
use Rattle.std.specs.Prelude.{nat_lt, slice_get}
use Rattle.std.specs.Str.{bytes_eq}
use Rattle.std.specs.Cmp.Lexicographic.{bytes_decides}
use Rattle.std.proofs.lemmas.Bool.{ltb-true, ltb-false, lt-ltb}
use Rattle.std.proofs.lemmas.List.{append-nil, length-drop, take_all}
use Rattle.std.proofs.Math.Seq.{drop-append_seam}
use Rattle.std.proofs.Math.ListN.{length-append}
use Rattle.fort_link_table.specs.Names.{Spelling, number_in, with_spelling, grown}

-- ---- a spelling's number

pub number_most : (names : List Spelling) (s : Spelling) → number_in names s ≤ length names
number_most [] s = omega arith
number_most (x ∷ names) s = at (number_most names s) (bytes_eq s x)
  where
    at : number_in names s ≤ length names → (b : Bool)
        → cond b 0 (suc (number_in names s)) ≤ suc (length names)
    at h true = omega arith
    at h false = omega arith

pub number_kept : (names more : List Spelling) (s : Spelling) → number_in names s < length names
    → number_in (names ++ more) s ≡ number_in names s
number_kept [] more s h = absurd (omega arith)
number_kept (x ∷ names) more s h = at (number_kept names more s) (bytes_eq s x) h
  where
    at : (number_in names s < length names → number_in (names ++ more) s ≡ number_in names s)
        → (b : Bool) → cond b 0 (suc (number_in names s)) < suc (length names)
        → cond b 0 (suc (number_in (names ++ more) s)) ≡ cond b 0 (suc (number_in names s))
    at ih true h = refl
    at ih false h = ap suc (ih (omega arith))

past_head : (x : Spelling) (names : List Spelling) (s : Spelling)
    → number_in (x ∷ names) s ≡ suc (length names)
    → (bytes_eq s x ≡ false) × (number_in names s ≡ length names)
past_head x names s e = at (bytes_eq s x) refl e
  where
    at : (b : Bool) → bytes_eq s x ≡ b → cond b 0 (suc (number_in names s)) ≡ suc (length names)
        → (bytes_eq s x ≡ false) × (number_in names s ≡ length names)
    at true f e = absurd (omega arith)
    at false f e = (f, omega arith)

pub found_new : (names : List Spelling) (s : Spelling) → number_in names s ≡ length names
    → number_in (names ++ s ∷ []) s ≡ length names
found_new [] s e = ap (λ z. cond z 0 1) ((bytes_decides s s).1 refl)
found_new (x ∷ names) s e =
    let p = past_head x names s e
    in ap (λ z. cond z 0 (suc (number_in (names ++ s ∷ []) s))) p.0 ∙ ap suc (found_new names s p.1)

pub found_none : (names : List Spelling) (s y : Spelling) → number_in names s ≡ length names
    → bytes_eq s y ≡ false → number_in (names ++ y ∷ []) s ≡ length (names ++ y ∷ [])
found_none [] s y e n = ap (λ z. cond z 0 1) n
found_none (x ∷ names) s y e n =
    let p = past_head x names s e
    in ap (λ z. cond z 0 (suc (number_in (names ++ y ∷ []) s))) p.0
    ∙ ap suc (found_none names s y p.1 n)

pub longer : (names : List Spelling) (y : Spelling) → length (names ++ y ∷ []) ≡ suc (length names)
longer names y = let a = length-append names (y ∷ []) in omega arith

-- ---- one spelling more

pub with_known : (names : List Spelling) (s : Spelling) → number_in names s < length names
    → with_spelling names s ≡ names
with_known names s h =
    ap (λ b. cond b names (names ++ s ∷ [])) (lt-ltb (number_in names s) (length names) h)

pub with_new : (names : List Spelling) (s : Spelling) → number_in names s ≡ length names
    → with_spelling names s ≡ names ++ s ∷ []
with_new names s e = at (nat_lt (number_in names s) (length names)) refl
  where
    at : (b : Bool) → nat_lt (number_in names s) (length names) ≡ b
        → cond b names (names ++ s ∷ []) ≡ names ++ s ∷ []
    at true f =
        let h = ltb-true (number_in names s) (length names) f in absurd (omega arith)
    at false f = refl

with_on : (names : List Spelling) (s : Spelling)
    → (added : List Spelling) × (with_spelling names s ≡ names ++ added)
with_on names s = at (nat_lt (number_in names s) (length names))
  where
    at : (b : Bool) → (added : List Spelling) × (cond b names (names ++ s ∷ []) ≡ names ++ added)
    at true = ([], sym (append-nil names))
    at false = (s ∷ [], refl)

with_in : (names : List Spelling) (s : Spelling)
    → number_in (with_spelling names s) s < length (with_spelling names s)
with_in names s = at (nat_lt (number_in names s) (length names)) refl
  where
    at : (b : Bool) → nat_lt (number_in names s) (length names) ≡ b
        → number_in (cond b names (names ++ s ∷ [])) s < length (cond b names (names ++ s ∷ []))
    at true f = ltb-true (number_in names s) (length names) f
    at false f =
        let most = number_most names s in
        let past = ltb-false (number_in names s) (length names) f in
        let e : number_in names s ≡ length names = omega arith in
        let n = found_new names s e in let l = longer names s in omega arith

pub number_cases : (names : List Spelling) (s : Spelling)
    → (number_in names s < length names) ⊎ (number_in names s ≡ length names)
number_cases names s = at (nat_lt (number_in names s) (length names)) refl
  where
    at : (b : Bool) → nat_lt (number_in names s) (length names) ≡ b
        → (number_in names s < length names) ⊎ (number_in names s ≡ length names)
    at true f = inl (ltb-true (number_in names s) (length names) f)
    at false f =
        let most = number_most names s in
        let past = ltb-false (number_in names s) (length names) f in inr (omega arith)

-- ---- more names

pub go_on : (names more : List Spelling)
    → (added : List Spelling) × (grown names more ≡ names ++ added)
go_on names [] = ([], sym (append-nil names))
go_on names (s ∷ more) =
    let first = with_on names s in let rest = go_on (with_spelling names s) more in (
      first.0 ++ rest.0,
      rest.1 ∙ ap (λ z. z ++ rest.0) first.1 ∙ append_assoc names first.0 rest.0,
    )

-- the names so far, and behind them those that came
pub grown_behind : (names more : List Spelling)
    → names ++ drop (length names) (grown names more) ≡ grown names more
grown_behind names more =
    let on = go_on names more in
    ap (λ z. names ++ drop (length names) z) on.1 ∙ ap (λ z. names ++ z) (drop-append_seam names on.0)
    ∙ sym on.1

-- a slice from a place on, as the code takes it
pub rest_is : (n : ℕ) (names : List Spelling)
    → take (length names - n) (drop n names) ≡ drop n names
rest_is n names =
    let l = length-drop n names in
    take_all (length names - n) (drop n names) (omega arith)

pub grown_longer : (names more : List Spelling) → length names ≤ length (grown names more)
grown_longer names more =
    let on = go_on names more in let l = length-append names on.0 in
    subst (λ z. length names ≤ length z) (sym on.1) (omega arith)

stays_in : (names more : List Spelling) (s : Spelling) → number_in names s < length names
    → number_in (grown names more) s < length (grown names more)
stays_in names more s h =
    let on = go_on names more in
    subst (λ z. number_in z s < length z) (sym on.1)
    (let e = number_kept names on.0 s h in let l = length-append names on.0 in omega arith)

-- each spelling of the further names has a number
pub is_in : (names more : List Spelling) (n : ℕ) (s : Spelling) → slice_get more n ≡ Some s
    → number_in (grown names more) s < length (grown names more)
is_in names [] n s e = absurd cc
is_in names (x ∷ more) zero s e =
    let is : x ≡ s = cc in
    subst (λ z. number_in (grown (with_spelling names x) more) z
    < length (grown (with_spelling names x) more)) is
    (stays_in (with_spelling names x) more x (with_in names x))
is_in names (x ∷ more) (suc n) s e = is_in (with_spelling names x) more n s e

pub grown_append : (names xs ys : List Spelling)
    → grown names (xs ++ ys) ≡ grown (grown names xs) ys
grown_append names [] ys = refl
grown_append names (x ∷ xs) ys = grown_append (with_spelling names x) xs ys
