-- A walk that puts what comes of one item after another at the end of a list, where the names of
-- types are numbered.
use Rattle.std.proofs.Common.{◌≡◌, ◌<◌, ◌+◌, ℕ, List, [], ◌∷◌, ◌++◌, get_or, take, length, map, sym, ap, ◌∙◌, append_assoc}
use Rattle.std.specs.List.{flat_map}
use Rattle.std.proofs.lemmas.List.{take_more, append-nil, map-append}
use Rattle.std.proofs.lemmas.Grind.{flat_map-append}

-- a step of a walk over the items of a list, each of which gives a list
pub flat_more : {X Y : Type 0} (f : X → List Y) (xs : List X) (i : ℕ) (x : X) (old at new : List Y)
    → i < length xs → x ≡ get_or xs i x
    → at ≡ old ++ flat_map f (take i xs) → new ≡ at ++ f x
    → new ≡ old ++ flat_map f (take (i + 1) xs)
flat_more f xs i x old at new lt is so_far step =
    let more : flat_map f (take (i + 1) xs) ≡ flat_map f (take i xs) ++ f x =
    ap (flat_map f) (take_more xs i x lt ∙ ap (λ y. take i xs ++ y ∷ []) (sym is))
    ∙ flat_map-append f (take i xs) (x ∷ [])
    ∙ ap (λ u. flat_map f (take i xs) ++ u) (append-nil (f x)) in
    step ∙ ap (λ u. u ++ f x) so_far ∙ append_assoc old (flat_map f (take i xs)) (f x)
    ∙ ap (λ u. old ++ u) (sym more)

-- the same where each gives one
pub map_more : {X Y : Type 0} (f : X → Y) (xs : List X) (i : ℕ) (x : X) (v : Y)
    (old at new : List Y) → i < length xs → x ≡ get_or xs i x → v ≡ f x
    → at ≡ old ++ map f (take i xs) → new ≡ at ++ v ∷ [] → new ≡ old ++ map f (take (i + 1) xs)
map_more f xs i x v old at new lt is says so_far step =
    let more : map f (take (i + 1) xs) ≡ map f (take i xs) ++ f x ∷ [] =
    ap (map f) (take_more xs i x lt ∙ ap (λ y. take i xs ++ y ∷ []) (sym is))
    ∙ map-append f (take i xs) (x ∷ []) in
    step ∙ ap (λ u. at ++ u ∷ []) says ∙ ap (λ u. u ++ f x ∷ []) so_far
    ∙ append_assoc old (map f (take i xs)) (f x ∷ []) ∙ ap (λ u. old ++ u) (sym more)
