-- Numbers in a row: those of binders and of functions, from one number to another.
use Rattle.std.proofs.Common.{◌≡◌, ◌≤◌, ◌<◌, ℕ, ◌+◌, false, ◌||◌, List, [], ◌∷◌, ◌++◌, length, arith, refl, ◌∙◌, ap}
use Rattle.std.specs.Prelude.{◌==◌}
use Rattle.std.specs.List.{list_any}
use Rattle.std.proofs.lemmas.Bool.{ne_eqb}
use Rattle.std.proofs.lemmas.List.Folds.{list_any-append}
use Rattle.fort_base.specs.declared.ids.NameId.{NameId}
use Rattle.fort_base.specs.declared.ty.Ty.{Ty}
use Rattle.fort_machine.specs.Scopes.{is_among, variables}
use Rattle.fort_machine.specs.Written.{AreApart, StandOnce}
use Rattle.fort_elab_meaning.specs.Items.{typed_variables}

-- Each number of a list is one from lo on, before hi.
pub data Between (lo hi : ℕ) : List ℕ → Type 0 where
  no_number : Between lo hi []
  number : {n : ℕ} {ns : List ℕ} → lo ≤ n → n < hi → Between lo hi ns → Between lo hi (n ∷ ns)

pub widened : {lo hi lo1 hi1 : ℕ} {ns : List ℕ} → lo1 ≤ lo → hi ≤ hi1 → Between lo hi ns
    → Between lo1 hi1 ns
widened a b no_number = no_number
widened a b (number l k h) = number (omega arith) (omega arith) (widened a b h)

pub appended : {lo hi : ℕ} {ns ms : List ℕ} → Between lo hi ns → Between lo hi ms
    → Between lo hi (ns ++ ms)
appended no_number k = k
appended (number l u h) k = number l u (appended h k)

-- neither the first number nor one of the others
neither : (n m : ℕ) (ns : List ℕ) → (n ≡ m → ⊥) → is_among n ns ≡ false
    → is_among n (m ∷ ns) ≡ false
neither n m ns d i = ap (λ b. b || is_among n ns) (ne_eqb n m d) ∙ i

-- a number outside is none of them
pub below : {lo hi n : ℕ} (ns : List ℕ) → Between lo hi ns → n < lo → is_among n ns ≡ false
below [] no_number l = refl
below {lo} {hi} {n} (m ∷ ns) (number k u h) l = neither n m ns (λ e. omega arith) (below ns h l)

pub above : {lo hi n : ℕ} (ns : List ℕ) → Between lo hi ns → hi ≤ n → is_among n ns ≡ false
above [] no_number l = refl
above {lo} {hi} {n} (m ∷ ns) (number u k h) l = neither n m ns (λ e. omega arith) (above ns h l)

-- those before a number stand apart from those after it
pub apart : {lo mid hi : ℕ} (ns ms : List ℕ) → Between lo mid ns → Between mid hi ms
    → AreApart ns ms
apart [] ms no_number k = refl
apart (n ∷ ns) ms (number l u h) k =
    ap (λ b. b || list_any (λ n. is_among n ms) ns) (below ms k u) ∙ apart ns ms h k

-- among neither of two lists
pub in_neither : (n : ℕ) (ns ms : List ℕ) → is_among n ns ≡ false → is_among n ms ≡ false
    → is_among n (ns ++ ms) ≡ false
in_neither n ns ms i j = list_any-append (λ y. n == y) ns ms ∙ ap (λ b. b || is_among n ms) i ∙ j

-- two lists of which one is before the other
pub once_before : {lo mid hi : ℕ} (ns ms : List ℕ) → Between lo mid ns → Between mid hi ms
    → StandOnce ns → StandOnce ms → StandOnce (ns ++ ms)
once_before [] ms no_number k a b = b
once_before (n ∷ ns) ms (number l u h) k a b =
    (in_neither n ns ms a.0 (below ms k u), once_before ns ms h k a.1 b)

pub once_behind : {lo mid hi : ℕ} (ns ms : List ℕ) → Between mid hi ns → Between lo mid ms
    → StandOnce ns → StandOnce ms → StandOnce (ns ++ ms)
once_behind [] ms no_number k a b = b
once_behind (n ∷ ns) ms (number l u h) k a b =
    (in_neither n ns ms a.0 (above ms k l), once_behind ns ms h k a.1 b)

-- variables that get numbers one after another
pub in_a_row : (n : ℕ) (xs : List (NameId × Ty))
    → Between n (n + length xs) (variables (typed_variables n xs))
in_a_row n [] = no_number
in_a_row n (x ∷ xs) =
    number (omega arith) (omega arith) (widened (omega arith) (omega arith) (in_a_row (n + 1) xs))

pub each_once : (n : ℕ) (xs : List (NameId × Ty)) → StandOnce (variables (typed_variables n xs))
each_once n [] = tt
each_once n (x ∷ xs) = (
  below (variables (typed_variables (n + 1) xs)) (in_a_row (n + 1) xs) (omega arith),
  each_once (n + 1) xs,
)
