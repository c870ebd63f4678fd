-- Lists of one item and of two.
use Rattle.std.proofs.Common.{◌≡◌, List, [], ◌∷◌, length, get_or, sym, ap, ◌∙◌, arith}

pub one_item : {A : Type 0} (xs : List A) (x : A) → length xs ≡ 1 → x ≡ get_or xs 0 x → xs ≡ x ∷ []
one_item [] x e h = absurd (omega (arith, e))
one_item (y ∷ []) x e h = ap (λ z. z ∷ []) (sym h)
one_item (y ∷ z ∷ zs) x e h = absurd (omega (arith, e))

pub two_items : {A : Type 0} (xs : List A) (x y : A) → length xs ≡ 2 → x ≡ get_or xs 0 x
    → y ≡ get_or xs 1 y → xs ≡ x ∷ y ∷ []
two_items [] x y e h k = absurd (omega (arith, e))
two_items (a ∷ []) x y e h k = absurd (omega (arith, e))
two_items (a ∷ b ∷ []) x y e h k = ap (λ z. z ∷ b ∷ []) (sym h) ∙ ap (λ z. x ∷ z ∷ []) (sym k)
two_items (a ∷ b ∷ c ∷ cs) x y e h k = absurd (omega (arith, e))
