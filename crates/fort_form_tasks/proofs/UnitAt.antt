-- The unit of a number of a flat expression.
use Rattle.std.proofs.Common.{◌≡◌, ℕ, zero, suc, ◌-◌, List, [], ◌∷◌, Some, None, map, get_or, refl, ap, subst, arith}
use Rattle.std.specs.Prelude.{slice_get}
use Rattle.fort_form.specs.declared.form.Form.{Form}
use Rattle.fort_tree.specs.declared.expr.FlatPart.{FlatPart}
use Rattle.fort_form_meaning.specs.Source.{Source}
use Rattle.fort_form_meaning.specs.Formed.{formed_flat_part}
use Rattle.fort_form_meaning.specs.Forming.{unit_at}

-- what is made of the item at a place
got : {A B : Type 0} (f : A → B) (xs : List A) (n : ℕ) (none : B) (x : A) → slice_get xs n ≡ Some x
    → get_or (map f xs) n none ≡ f x
got f [] n none x e = absurd cc
got f (y ∷ ys) zero none x e = ap f cc
got f (y ∷ ys) (suc n) none x e = got f ys n none x e

-- nothing is there
missed : {A B : Type 0} (f : A → B) (xs : List A) (n : ℕ) (none : B) → slice_get xs n ≡ None
    → get_or (map f xs) n none ≡ none
missed f [] n none e = refl
missed f (y ∷ ys) zero none e = absurd cc
missed f (y ∷ ys) (suc n) none e = missed f ys n none e

pub unit_there : (k : Source) (first : Form) (rest : List FlatPart) (n : ℕ) (part : FlatPart)
    → (n ≡ 0 → ⊥) → slice_get rest (n - 1) ≡ Some part
    → unit_at first (map (formed_flat_part k) rest) n ≡ formed_flat_part k part
unit_there k first rest zero part some e = absurd (some refl)
unit_there k first rest (suc n) part some e =
    let one_less : suc n - 1 ≡ n = omega arith in
    got (formed_flat_part k) rest n first part
    (subst (λ m. slice_get rest m ≡ Some part) one_less e)

pub unit_missing : (k : Source) (first : Form) (rest : List FlatPart) (n : ℕ) → (n ≡ 0 → ⊥)
    → slice_get rest (n - 1) ≡ None
    → unit_at first (map (formed_flat_part k) rest) n ≡ first
unit_missing k first rest zero some e = absurd (some refl)
unit_missing k first rest (suc n) some e =
    let one_less : suc n - 1 ≡ n = omega arith in
    missed (formed_flat_part k) rest n first (subst (λ m. slice_get rest m ≡ None) one_less e)
