-- The flat expressions of several trees.
use Rattle.std.proofs.Common.{◌≡◌, ℕ, ◌+◌, ◌<◌, List, [], ◌∷◌, ◌++◌, length, get_or, take, refl, sym, ap, ◌∙◌, append_assoc}
use Rattle.std.specs.Prelude.{map}
use Rattle.std.proofs.lemmas.List.{take_more, map-append, append-nil}
use Rattle.fort_tree.specs.declared.expr.FlatPart.{FlatPart}
use Rattle.fort_tree.specs.declared.grouped.Row.{Row}
use Rattle.fort_tree.specs.Measured.{Measured, Joined, all_flats, block_measured}
use Rattle.fort_tree.specs.Measuring.{measured_flat_part}

pub joined : (xs ys : List Measured) → all_flats (xs ++ ys) ≡ all_flats xs ++ all_flats ys
joined [] ys = refl
joined (x ∷ xs) ys =
    ap (λ (u : List Row). x.flats ++ u) (joined xs ys)
    ∙ sym (append_assoc x.flats (all_flats xs) (all_flats ys))

pub last : (a : Measured) → all_flats (a ∷ []) ≡ a.flats
last a = append-nil a.flats

pub two : (a b : Measured) → all_flats (a ∷ b ∷ []) ≡ a.flats ++ b.flats
two a b = ap (λ (u : List Row). a.flats ++ u) (last b)

pub three : (a b c : Measured) → all_flats (a ∷ b ∷ c ∷ []) ≡ a.flats ++ (b.flats ++ c.flats)
three a b c = ap (λ (u : List Row). a.flats ++ u) (two b c)

-- a block has those of its items
pub block_of : (ms : List Measured) → all_flats (block_measured ms) ≡ all_flats ms
block_of [] = refl
block_of (m ∷ ms) = append-nil (all_flats (m ∷ ms))

units : (parts : List FlatPart)
    → map (λ (p : Joined). p.unit) (map measured_flat_part parts) ≡ map (λ
    (p : FlatPart). (measured_flat_part p).unit) parts
units [] = refl
units (part ∷ parts) =
    ap (λ (ms : List Measured). (measured_flat_part part).unit ∷ ms) (units parts)

-- a step of a walk over trees
pub one_more : {A : Type 0} (f : A → Measured) (xs : List A) (i : ℕ) (x : A) (old at new : List Row)
    → i < length xs → x ≡ get_or xs i x
    → at ≡ old ++ all_flats (map f (take i xs)) → new ≡ at ++ (f x).flats
    → new ≡ old ++ all_flats (map f (take (i + 1) xs))
one_more f xs i x old at new lt is so_far step =
    let more : all_flats (map f (take (i + 1) xs)) ≡ all_flats (map f (take i xs)) ++ (f x).flats =
    ap (λ ys. all_flats (map f ys)) (take_more xs i x lt ∙ ap (λ y. take i xs ++ y ∷ []) (sym is))
    ∙ ap all_flats (map-append f (take i xs) (x ∷ [])) ∙ joined (map f (take i xs)) (f x ∷ [])
    ∙ ap (λ (u : List Row). all_flats (map f (take i xs)) ++ u) (last (f x)) in
    step ∙ ap (λ
    (u : List Row). u ++ (f x).flats) so_far
    ∙ append_assoc old (all_flats (map f (take i xs))) (f x).flats ∙ ap (λ
    (u : List Row). old ++ u) (sym more)

-- the same of the further units of a flat expression
pub one_more_unit : (parts : List FlatPart) (i : ℕ) (part : FlatPart) (old at new : List Row)
    → i < length parts → part ≡ get_or parts i part
    → at ≡ old ++ all_flats (map (λ (p : Joined). p.unit) (map measured_flat_part (take i parts)))
    → new ≡ at ++ (measured_flat_part part).unit.flats
    → new ≡ old
    ++ all_flats (map (λ (p : Joined). p.unit) (map measured_flat_part (take (i + 1) parts)))
one_more_unit parts i part old at new lt is so_far step =
    one_more (λ
    (p : FlatPart). (measured_flat_part p).unit) parts i part old at new lt is (so_far
    ∙ ap (λ (ms : List Measured). old ++ all_flats ms) (units (take i parts))) step
    ∙ ap (λ (ms : List Measured). old ++ all_flats ms) (sym (units (take (i + 1) parts)))
