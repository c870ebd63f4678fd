-- The next pick of an attempt, and of a journal.
use Rattle.std.proofs.Common.{◌≡◌, ℕ, zero, suc, ◌+◌, ◌==◌, Bool, List, [], ◌∷◌, ◌++◌, length, length-append, take, Some, None, ne_eqb, refl, ap, sym, ◌∙◌, subst, arith}
use Rattle.std.specs.Prelude.{slice_get}
use Rattle.fort_core.specs.declared.pick.Pick.{Pick}
use Rattle.fort_plain.specs.Within.{IsHere, is_none}
use Rattle.fort_plain.specs.declared.take.Within.{Within}

past : (xs ys : List Pick) → slice_get (xs ++ ys) (length xs) ≡ slice_get ys 0
past [] ys = refl
past (x ∷ xs) ys = past xs ys

count : (xs ys : List Pick) → length (xs ++ ys) ≡ length xs + length ys
count xs ys = length-append xs ys

append_nil : (xs : List Pick) → xs ++ [] ≡ xs
append_nil [] = refl
append_nil (x ∷ xs) = ap (λ ys. x ∷ ys) (append_nil xs)

one_more : (xs : List Pick) (n : ℕ) (x : Pick) → slice_get xs n ≡ Some x
    → take (suc n) xs ≡ take n xs ++ x ∷ []
one_more [] n x e = absurd cc
one_more (y ∷ ys) zero x e = let z : y ≡ x = cc in ap (λ w. w ∷ []) z
one_more (y ∷ ys) (suc n) x e = ap (λ zs. y ∷ zs) (one_more ys n x e)

-- the first picks of a journal, and the next one
pub next_of : (xs : List Pick) (n : ℕ) (x : Pick) → slice_get xs n ≡ Some x
    → take (n + 1) xs ≡ take n xs ++ x ∷ []
next_of xs n x e =
    let next : suc n ≡ n + 1 = omega arith
    in subst (λ m. take m xs ≡ take n xs ++ x ∷ []) next (one_more xs n x e)

-- what an attempt has left
pub counted : (picks before left : List Pick) → picks ≡ before ++ left
    → length picks ≡ length before + length left
counted picks before left e = ap length e ∙ count before left

one_left : (x : Pick) (xs : List Pick) → (suc (length xs) == 1) ≡ is_none xs
one_left x [] = refl
one_left x (y ∷ ys) = ne_eqb (suc (suc (length ys))) 1 (λ e. omega (arith, e))

here : (w : Within) (pick : Pick) (last : Bool) (left : List Pick) (n : ℕ)
    → w.source.picks.now ≡ w.going.course.picks ++ left → slice_get left 0 ≡ Some pick
    → n ≡ length left → last ≡ (n == 1) → IsHere w pick last
here w pick last [] n e g l q = absurd cc
here w pick last (x ∷ xs) n e g l q =
    let z : x ≡ pick = cc
    in record {
      behind = xs;
      next = e ∙ ap (λ y. w.going.course.picks ++ y ∷ xs) z;
      last = q ∙ ap (λ m. m == 1) l ∙ one_left x xs;
    }

pub next_here : (w : Within) (pick : Pick) (last : Bool) (left : List Pick) (n : ℕ)
    → w.source.picks.now ≡ w.going.course.picks ++ left
    → slice_get w.source.picks.now (length w.going.course.picks) ≡ Some pick
    → n + length w.going.course.picks ≡ length w.source.picks.now → last ≡ (n == 1)
    → IsHere w pick last
next_here w pick last left n e g l q =
    let all = counted w.source.picks.now w.going.course.picks left e in
    here w pick last left n e (sym (past w.going.course.picks left)
    ∙ ap (λ ps. slice_get ps (length w.going.course.picks)) (sym e)
    ∙ g) (omega (arith, l, all)) q

none_left : (left : List Pick) → slice_get left 0 ≡ None → left ≡ []
none_left [] e = refl
none_left (x ∷ xs) e = absurd cc

pub over_here : (picks before left : List Pick) → picks ≡ before ++ left
    → slice_get picks (length before) ≡ None → picks ≡ before
over_here picks before left e g =
    e ∙ ap (λ ps. before ++ ps)
    (none_left left (sym (past before left) ∙ ap (λ ps. slice_get ps (length before)) (sym e) ∙ g))
    ∙ append_nil before
