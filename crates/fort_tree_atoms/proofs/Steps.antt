-- A walk that puts the names of one part after another at the end of a list.
use Rattle.std.proofs.Common.{◌≡◌, ℕ, ◌+◌, ◌<◌, List, [], ◌∷◌, ◌++◌, get_or, take, length, sym, ap, ◌∙◌, append_assoc}
use Rattle.std.specs.Prelude.{map}
use Rattle.std.specs.List.{flat_map}
use Rattle.std.proofs.lemmas.List.{take_more, append-nil, map-append}
use Rattle.std.proofs.lemmas.Grind.{flat_map-append}
use Rattle.fort_tree.specs.declared.spot.Name.{Name}
use Rattle.fort_tree_atoms.specs.Gathered.{all_atoms}

-- the same part by another name
pub by : {A : Type 0} (f : A → List Name) {x y : A} (old : List Name) {new : List Name} → x ≡ y
    → new ≡ old ++ f x → new ≡ old ++ f y
by f old e step = step ∙ ap (λ v. old ++ f v) e

pub nothing_added : (old : List Name) {all : List Name} → all ≡ [] → old ≡ old ++ all
nothing_added old e = sym (append-nil old) ∙ ap (λ (u : List Name). old ++ u) (sym e)

pub one_added : (old : List Name) {new a all : List Name} → new ≡ old ++ a → all ≡ a
    → new ≡ old ++ all
one_added old p e = p ∙ ap (λ (u : List Name). old ++ u) (sym e)

both : (old a b : List Name) {mid new : List Name} → mid ≡ old ++ a → new ≡ mid ++ b
    → new ≡ old ++ (a ++ b)
both old a b p q = q ∙ ap (λ (u : List Name). u ++ b) p ∙ append_assoc old a b

pub two_added : (old a b : List Name) {mid new all : List Name} → mid ≡ old ++ a → new ≡ mid ++ b
    → all ≡ a ++ b → new ≡ old ++ all
two_added old a b p q e = one_added old (both old a b p q) e

pub three_added : (old a b c : List Name) {mid mid' new all : List Name} → mid ≡ old ++ a
    → mid' ≡ mid ++ b → new ≡ mid' ++ c → all ≡ a ++ (b ++ c) → new ≡ old ++ all
three_added old a b c {mid = mid} p q r e =
    one_added old (both old a (b ++ c) p (both mid b c q r)) e

pub four_added : (old a b c d : List Name) {mid mid' mid'' new all : List Name} → mid ≡ old ++ a
    → mid' ≡ mid ++ b → mid'' ≡ mid' ++ c → new ≡ mid'' ++ d → all ≡ a ++ (b ++ (c ++ d))
    → new ≡ old ++ all
four_added old a b c d {mid = mid} {mid' = mid'} p q r s e =
    one_added old (both old a (b ++ (c ++ d)) p (both mid b (c ++ d) q (both mid' c d r s))) e

-- a step of a walk over the parts of a list
pub one_more : {A : Type 0} (f : A → List Name) (xs : List A) (i : ℕ) (x : A)
    (old at new : List Name) → i < length xs → x ≡ get_or xs i x
    → at ≡ old ++ flat_map f (take i xs) → new ≡ at ++ f x
    → new ≡ old ++ flat_map f (take (i + 1) xs)
one_more f xs i x old at new lt is so_far step =
    let more : flat_map f (take (i + 1) xs) ≡ flat_map f (take i xs) ++ f x =
    ap (flat_map f) (take_more xs i x lt ∙ ap (λ y. take i xs ++ y ∷ []) (sym is))
    ∙ flat_map-append f (take i xs) (x ∷ [])
    ∙ ap (λ (u : List Name). flat_map f (take i xs) ++ u) (append-nil (f x)) in
    step ∙ ap (λ
    (u : List Name). u ++ f x) so_far ∙ append_assoc old (flat_map f (take i xs)) (f x)
    ∙ ap (λ (u : List Name). old ++ u) (sym more)

-- the same over the names of the parts
pub one_more_of : {A : Type 0} (f : A → List Name) (xs : List A) (i : ℕ) (x : A)
    (old at new : List Name) → i < length xs → x ≡ get_or xs i x
    → at ≡ old ++ all_atoms (map f (take i xs)) → new ≡ at ++ f x
    → new ≡ old ++ all_atoms (map f (take (i + 1) xs))
one_more_of f xs i x old at new lt is so_far step =
    let more : all_atoms (map f (take (i + 1) xs)) ≡ all_atoms (map f (take i xs)) ++ f x =
    ap (λ ys. all_atoms (map f ys)) (take_more xs i x lt
    ∙ ap (λ y. take i xs ++ y ∷ []) (sym is))
    ∙ ap all_atoms (map-append f (take i xs) (x ∷ []))
    ∙ flat_map-append (λ (part : List Name). part) (map f (take i xs)) (f x ∷ []) ∙ ap (λ
    (u : List Name). all_atoms (map f (take i xs)) ++ u) (append-nil (f x)) in
    step ∙ ap (λ
    (u : List Name). u ++ f x) so_far
    ∙ append_assoc old (all_atoms (map f (take i xs))) (f x) ∙ ap (λ
    (u : List Name). old ++ u) (sym more)
