use Rattle.std.proofs.Common.{◌≡◌, ℕ, List, [], ◌∷◌, refl, subst, sym, ◌++◌, length, drop, take, ◌-◌, ◌<◌, length-drop, arith}
use Rattle.std.proofs.lemmas.List.{take_all}
use Rattle.fort_lex_scan.specs.Chain.{Chain}

-- one more part at the end of a chain
pub chain_more : {A : Type 0} (Step : A → List ℕ → List ℕ → Type 0) (parts : List A) (a : A)
    (text mid after : List ℕ)
    → Chain Step parts text mid → Step a mid after → Chain Step (parts ++ a ∷ []) text after
chain_more Step [] a text mid after h s = (after, subst (λ t. Step a t after) (sym h) s, refl)
chain_more Step (p ∷ parts) a text mid after h s =
    (h.0, h.1, chain_more Step parts a h.0 mid after h.2 s)

-- what is left of a text, as the code's slices have it
pub rest_is : (n : ℕ) (text : List ℕ) → take (length text - n) (drop n text) ≡ drop n text
rest_is n text =
    take_all (length text - n) (drop n text) (let l = length-drop n text in omega arith)

pub rest_some : (n : ℕ) (text : List ℕ) → n < length text → 0 < length (drop n text)
rest_some n text h = let l = length-drop n text in omega arith
