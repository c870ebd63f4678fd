-- The position of `self` among parameters.
use Rattle.std.proofs.Common.{◌≡◌, ◌≤◌, ◌+◌, ℕ, suc, true, false, cond, List, drop, length, Some, ap, ◌∙◌, arith}
use Rattle.std.specs.List.{slice_get}
use Rattle.fort_tree.specs.declared.declarations.NextMethodParameter.{NextMethodParameter}
use Rattle.fort_hier.specs.Tops.{is_self}
use Rattle.fort_hier.proofs.Lists.{rest_of, rest_none}
use Rattle.fort_member.specs.Declarations.{self_among}

pub self_more : (others : List NextMethodParameter) (i p : ℕ) (x : NextMethodParameter)
    → slice_get others i ≡ Some x → is_self x.parameter ≡ false
    → p + self_among (drop i others) ≡ 1 + self_among others
    → (p + 1) + self_among (drop (i + 1) others) ≡ 1 + self_among others
self_more others i p x e n h =
    let r : self_among (drop i others) ≡ suc (self_among (drop (i + 1) others)) =
    ap self_among (rest_of others i x e)
    ∙ ap (λ b. cond b 0 (suc (self_among (drop (i + 1) others)))) n in omega arith

pub self_here : (others : List NextMethodParameter) (i p : ℕ) (x : NextMethodParameter)
    → slice_get others i ≡ Some x → is_self x.parameter ≡ true
    → p + self_among (drop i others) ≡ 1 + self_among others → p ≡ 1 + self_among others
self_here others i p x e n h = let r : self_among (drop i others) ≡ 0 =
    ap self_among (rest_of others i x e)
    ∙ ap (λ b. cond b 0 (suc (self_among (drop (i + 1) others)))) n in omega arith

pub self_none : (others : List NextMethodParameter) (i p : ℕ) → length others ≤ i
    → p + self_among (drop i others) ≡ 1 + self_among others → p ≡ 1 + self_among others
self_none others i p l h =
    let r : self_among (drop i others) ≡ 0 = ap self_among (rest_none others i l) in omega arith
