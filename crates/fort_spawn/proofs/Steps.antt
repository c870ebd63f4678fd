-- What the code does to a component, step by step.
use Rattle.std.proofs.Common.{◌≡◌, ◌<◌, ◌≤◌, ◌+◌, ℕ, suc, Bool, true, false, ◌||◌, List, [], ◌∷◌, ◌++◌, length, map, take, drop, get_or, set, refl, sym, ap, ap₂, subst, ◌∙◌, arith, add-one, drop-cons}
use Rattle.std.specs.List.{list_any}
use Rattle.std.proofs.Math.Seq.{set-append_seam}
use Rattle.std.proofs.lemmas.List.{get_or_at, take_more, map-append, length-map, length-take-le, append-nil, take_all, drop_all}
use Rattle.fort_tree.specs.declared.declarations.Component.{Component}
use Rattle.fort_tree.specs.declared.declarations.Declared.{Declared}
use Rattle.fort_tree.specs.Tokens.{Spellings}
use Rattle.fort_spawn_prelude.specs.Prelude.{IsPrelude, extended}
use Rattle.fort_spawn.specs.Starts.{starts}
use Rattle.fort_spawn.specs.Rewritten.{IsRewritten, WithPrelude, spawns, names_with, renamed_over, renamed}

-- ---- lists

-- one further item changed in its place
pub one_changed : {A : Type 0} (f : A → A) (xs now : List A) (i : ℕ) (d y : A) → i < length xs
    → now ≡ map f (take i xs) ++ drop i xs → y ≡ f (get_or xs i d)
    → set now i y ≡ map f (take (i + 1) xs) ++ drop (i + 1) xs
one_changed f xs now i d y h e g =
    let front = map f (take i xs) in
    let long : length front ≡ i = length-map (take i xs) f ∙ length-take-le i xs (omega arith) in
    let whole : now ≡ front ++ get_or xs i d ∷ drop (suc i) xs =
    e ∙ ap (λ z. front ++ z) (drop-cons xs i d h) in
    ap (λ z. set z i y) whole
    ∙ (ap (λ k. set (front ++ get_or xs i d ∷ drop (suc i) xs) k y) (sym long)
    ∙ (set-append_seam front (get_or xs i d) (drop (suc i) xs) y
    ∙ (ap₂ (λ a b. front ++ a ∷ drop b xs) g (sym (add-one i))
    ∙ (sym (append_one front (f (get_or xs i d)) (drop (i + 1) xs))
    ∙ ap (λ z. z ++ drop (i + 1) xs)
    (sym (ap (map f) (take_more xs i d h) ∙ map-append f (take i xs) (get_or xs i d ∷ [])))))))
  where
    append_one : {A : Type 0} (xs : List A) (y : A) (ys : List A)
        → (xs ++ y ∷ []) ++ ys ≡ xs ++ y ∷ ys
    append_one [] y ys = refl
    append_one (x ∷ xs) y ys = ap (λ z. x ∷ z) (append_one xs y ys)

-- the next item is still as it was
pub item_kept : {A : Type 0} (f : A → A) (xs now : List A) (i : ℕ) (d : A) → i < length xs
    → now ≡ map f (take i xs) ++ drop i xs → get_or now i d ≡ get_or xs i d
item_kept f xs now i d h e =
    let long : length (map f (take i xs)) ≡ i =
    length-map (take i xs) f ∙ length-take-le i xs (omega arith) in
    ap (λ z. get_or z i d) (e ∙ ap (λ z. map f (take i xs) ++ z) (drop-cons xs i d h))
    ∙ get_or_at (map f (take i xs)) (get_or xs i d) (drop (suc i) xs) d i long

pub all_changed : {A : Type 0} (f : A → A) (xs now : List A) (i : ℕ) → length xs ≤ i
    → now ≡ map f (take i xs) ++ drop i xs → now ≡ map f xs
all_changed f xs now i h e =
    e ∙ (ap₂ (λ a b. map f a ++ b) (take_all i xs h) (drop_all i xs h) ∙ append-nil (map f xs))

-- none of the first ones, and then this one or not
pub any_at : {A : Type 0} (test : A → Bool) (xs : List A) (i : ℕ) (d : A) (b : Bool)
    → i < length xs → b ≡ test (get_or xs i d)
    → list_any test (drop i xs) ≡ (b || list_any test (drop (i + 1) xs))
any_at test xs i d b h e =
    ap (list_any test) (drop-cons xs i d h)
    ∙ ap₂ (λ a k. a || list_any test (drop k xs)) (sym e) (sym (add-one i))

pub found_at : {A : Type 0} (test : A → Bool) (xs : List A) (i : ℕ) (d : A) → i < length xs
    → true ≡ test (get_or xs i d) → list_any test xs ≡ list_any test (drop i xs)
    → true ≡ list_any test xs
found_at test xs i d h e f = sym (f ∙ any_at test xs i d true h e)

pub not_at : {A : Type 0} (test : A → Bool) (xs : List A) (i : ℕ) (d : A) → i < length xs
    → false ≡ test (get_or xs i d) → list_any test xs ≡ list_any test (drop i xs)
    → list_any test xs ≡ list_any test (drop (i + 1) xs)
not_at test xs i d h e f = f ∙ any_at test xs i d false h e

pub none_found : {A : Type 0} (test : A → Bool) (xs : List A) (i : ℕ) → length xs ≤ i
    → list_any test xs ≡ list_any test (drop i xs) → false ≡ list_any test xs
none_found test xs i h f = sym (f ∙ ap (list_any test) (drop_all i xs h))

-- ---- the component

-- a component with other declarations and names
abbrev pub with_both : Component → List Declared → Spellings → Component
with_both c declarations names = record {
  component = c.component;
  name = c.name;
  export = c.export;
  declarations = declarations;
  end = c.end;
  names = names;
  texts = c.texts;
}

pub rewritten_is : (c : Component) (b : Bool) (names : Spellings) (prelude own all : List Declared)
    → spawns c ≡ true → b ≡ starts c → names ≡ extended c.names b
    → IsPrelude (extended c.names b) b prelude
    → own ≡ renamed_over b names c.names c.declarations → all ≡ prelude ++ own
    → IsRewritten c (with_both c all names)
rewritten_is c b names prelude own all has s n h o a =
    let n' : names ≡ names_with c = n ∙ ap (extended c.names) s in
    let o' : own ≡ renamed c =
    o ∙ ap₂ (λ x y. renamed_over x y c.names c.declarations) s n' in
    WithPrelude has prelude (subst (λ x. IsPrelude (extended c.names x) x prelude) s h)
    (ap₂ (with_both c) (a ∙ ap (λ z. prelude ++ z) o') n')
