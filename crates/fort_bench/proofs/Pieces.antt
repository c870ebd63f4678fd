-- Pieces put at the end of a text, one behind another.
use Rattle.std.proofs.Common.{◌≡◌, ℕ, List, [], ◌++◌, ap, ◌∙◌}

pub written : (h f o m n p q a t : List ℕ) (t0 t1 t2 t3 t4 t5 t6 t7 : List ℕ) → t0 ≡ []
    → t1 ≡ t0 ++ h ++ a → t2 ≡ t1 ++ f ++ a → t3 ≡ t2 ++ o ++ t → t4 ≡ t3 ++ m ++ a
    → t5 ≡ t4 ++ n ++ a → t6 ≡ t5 ++ p ++ a → t7 ≡ t6 ++ q
    → t7 ≡ h ++ a ++ f ++ a ++ o ++ t ++ m ++ a ++ n ++ a ++ p ++ a ++ q
written h f o m n p q a t t0 t1 t2 t3 t4 t5 t6 t7 e0 e1 e2 e3 e4 e5 e6 e7 =
    e7 ∙ ap (λ x. x ++ q) (e6
    ∙ ap (λ x. x ++ p ++ a) (e5 ∙ ap (λ x. x ++ n ++ a) (e4 ∙ ap (λ x. x ++ m ++ a)
    (e3 ∙ ap (λ x. x ++ o ++ t) (e2 ∙ ap (λ x. x ++ f ++ a) (e1 ∙ ap (λ x. x ++ h ++ a) e0))))))
