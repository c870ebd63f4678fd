-- Lists that a loop builds.
use Rattle.std.proofs.Common.{◌≡◌, ◌≤◌, ◌+◌, ℕ, zero, suc, List, [], ◌∷◌, ◌++◌, false, ◌||◌, length, drop, map, Some, refl, sym, ap, ◌∙◌, append_assoc, add-one, arith}
use Rattle.std.specs.List.{slice_get, flat_map}
use Rattle.std.proofs.lemmas.List.{append-nil}
use Rattle.fort_tree.specs.declared.declarations.Declared.{Declared}
use Rattle.fort_hier.specs.declared.heads.TypeHead.{TypeHead}
use Rattle.fort_hier.specs.Heads.{head_of, heads_from}
use Rattle.fort_hier.specs.Tops.{is_self, has_self}
use Rattle.fort_tree.specs.declared.declarations.NextMethodParameter.{NextMethodParameter}

-- the rest of a list from a place that it has
rest_suc : {X : Type 0} (xs : List X) (i : ℕ) (x : X) → slice_get xs i ≡ Some x
    → drop i xs ≡ x ∷ drop (suc i) xs
rest_suc [] i x e = absurd cc
rest_suc (y ∷ xs) zero x e = let s : y ≡ x = cc in ap (λ z. z ∷ xs) s
rest_suc (y ∷ xs) (suc i) x e = rest_suc xs i x e

pub rest_of : {X : Type 0} (xs : List X) (i : ℕ) (x : X) → slice_get xs i ≡ Some x
    → drop i xs ≡ x ∷ drop (i + 1) xs
rest_of xs i x e = rest_suc xs i x e ∙ ap (λ n. x ∷ drop n xs) (sym (add-one i))

pub rest_none : {X : Type 0} (xs : List X) (i : ℕ) → length xs ≤ i → drop i xs ≡ []
rest_none [] zero l = refl
rest_none [] (suc i) l = refl
rest_none (x ∷ xs) zero l = absurd (omega arith)
rest_none (x ∷ xs) (suc i) l = rest_none xs i (omega arith)

-- a mapped list that is built at its end
pub map_step : {X Y : Type 0} (f : X → Y) (base done new : List Y) (xs : List X) (i : ℕ) (x : X)
    → slice_get xs i ≡ Some x → done ++ map f (drop i xs) ≡ base ++ map f xs
    → new ≡ done ++ f x ∷ []
    → new ++ map f (drop (i + 1) xs) ≡ base ++ map f xs
map_step f base done new xs i x e h n =
    ap (λ l. l ++ map f (drop (i + 1) xs)) n
    ∙ append_assoc done (f x ∷ []) (map f (drop (i + 1) xs))
    ∙ ap (λ l. done ++ map f l) (sym (rest_of xs i x e)) ∙ h

pub map_all : {X Y : Type 0} (f : X → Y) (base done : List Y) (xs : List X) (i : ℕ) → length xs ≤ i
    → done ++ map f (drop i xs) ≡ base ++ map f xs → done ≡ base ++ map f xs
map_all f base done xs i l h =
    sym (append-nil done) ∙ ap (λ z. done ++ map f z) (sym (rest_none xs i l)) ∙ h

-- heads
pub heads_step : (ds : List Declared) (done new : List TypeHead) (i : ℕ) (d : Declared)
    → slice_get ds i ≡ Some d → done ++ heads_from i (drop i ds) ≡ heads_from 0 ds
    → new ≡ done ++ head_of i d.declaration
    → new ++ heads_from (i + 1) (drop (i + 1) ds) ≡ heads_from 0 ds
heads_step ds done new i d e h n =
    ap (λ l. l ++ heads_from (i + 1) (drop (i + 1) ds)) n
    ∙ append_assoc done (head_of i d.declaration) (heads_from (i + 1) (drop (i + 1) ds))
    ∙ ap (λ l. done ++ heads_from i l) (sym (rest_of ds i d e)) ∙ h

pub heads_all : (ds : List Declared) (done : List TypeHead) (i : ℕ) → length ds ≤ i
    → done ++ heads_from i (drop i ds) ≡ heads_from 0 ds → done ≡ heads_from 0 ds
heads_all ds done i l h =
    sym (append-nil done) ∙ ap (λ z. done ++ heads_from i z) (sym (rest_none ds i l)) ∙ h

-- a list of lists, joined, that is built at its end
pub flat_step : {X Y : Type 0} (f : X → List Y) (base done new : List Y) (xs : List X) (i : ℕ)
    (x : X) → slice_get xs i ≡ Some x → done ++ flat_map f (drop i xs) ≡ base ++ flat_map f xs
    → new ≡ done ++ f x
    → new ++ flat_map f (drop (i + 1) xs) ≡ base ++ flat_map f xs
flat_step f base done new xs i x e h n =
    ap (λ l. l ++ flat_map f (drop (i + 1) xs)) n
    ∙ append_assoc done (f x) (flat_map f (drop (i + 1) xs))
    ∙ ap (λ l. done ++ flat_map f l) (sym (rest_of xs i x e)) ∙ h

pub flat_all : {X Y : Type 0} (f : X → List Y) (base done : List Y) (xs : List X) (i : ℕ)
    → length xs ≤ i → done ++ flat_map f (drop i xs) ≡ base ++ flat_map f xs
    → done ≡ base ++ flat_map f xs
flat_all f base done xs i l h =
    sym (append-nil done) ∙ ap (λ z. done ++ flat_map f z) (sym (rest_none xs i l)) ∙ h

pub self_step : (others : List NextMethodParameter) (i : ℕ) (x : NextMethodParameter)
    → slice_get others i ≡ Some x → is_self x.parameter ≡ false
    → has_self (drop i others) ≡ has_self others → has_self (drop (i + 1) others) ≡ has_self others
self_step others i x e n h =
    sym (ap (λ b. b || has_self (drop (i + 1) others)) n) ∙ sym (ap has_self (rest_of others i x e))
    ∙ h
