-- Lists that are gone through place by place.
use Rattle.std.proofs.Common.{◌≡◌, ◌≢◌, ℕ, suc, ◌+◌, ◌<◌, ◌≤◌, ◌==◌, Bool, true, false, ◌&&◌, List, [], ◌∷◌, ◌++◌, map, length, take, Some, slice_get, get_or, codes, if◌then◌else◌, refl, arith, ap, ◌∙◌, sym}
use Rattle.std.proofs.lemmas.List.{append_assoc, map-append, length-map, length-take-le, take_more}
use Rattle.std.proofs.lemmas.Bool.Decides.{Decides-eqb}
use Rattle.std.proofs.lemmas.Option.{slice_get_within, get_or_from_slice_get}
use Rattle.fort_base.specs.declared.ty.Ty.{Ty}
use Rattle.fort_types.specs.Relation.{Relation, each_below}
use Rattle.fort_machine.specs.Texts.{with_commas, each_same}

and-false : (b c : Bool) → false ≡ c → false ≡ (b && c)
and-false true c e = e
and-false false c e = refl

-- of two lists of two lengths the first isn't below the second
pub each_below-apart : (rs : List Relation) (up : Bool) (bs : List Ty) → length rs ≢ length bs
    → false ≡ each_below rs up bs
each_below-apart [] up [] n = absurd (n refl)
each_below-apart [] up (b ∷ bs) n = refl
each_below-apart (r ∷ rs) up [] n = refl
each_below-apart (r ∷ rs) up (b ∷ bs) n =
    and-false (r up b) (each_below rs up bs) (each_below-apart rs up bs (λ e. n (omega (arith, e))))

-- nor are they the same
pub each_same-apart : {A B : Type 0} (f : A → B → Bool) (xs : List A) (ys : List B)
    → length xs ≢ length ys → false ≡ each_same f xs ys
each_same-apart f [] [] n = absurd (n refl)
each_same-apart f [] (y ∷ ys) n = refl
each_same-apart f (x ∷ xs) [] n = refl
each_same-apart f (x ∷ xs) (y ∷ ys) n =
    and-false (f x y) (each_same f xs ys) (each_same-apart f xs ys (λ e. n (omega (arith, e))))

-- what stands before a text in a row, by how many go before it
abbrev pub comma : ℕ → List ℕ
comma n = if n == 0 then [] else codes ", "

comma-later : (n : ℕ) → comma (suc n) ≡ codes ", "
comma-later n =
    ap (λ b. if b then []
    else codes ", ")
    (unless (suc n == 0) (λ e. let k : suc n ≡ 0 = (Decides-eqb (suc n) 0).0 e in omega (arith, k)))
  where
    unless : (b : Bool) → (b ≡ true → ⊥) → b ≡ false
    unless true f = absurd (f refl)
    unless false f = refl

-- one text more in a row
pub with_commas-last : (ss : List (List ℕ)) (s : List ℕ)
    → with_commas (ss ++ s ∷ []) ≡ with_commas ss ++ (comma (length ss) ++ s)
with_commas-last [] s = refl
with_commas-last (a ∷ []) s = refl
with_commas-last (a ∷ b ∷ ss) s =
    let here : comma (length (b ∷ ss)) ≡ codes ", " = comma-later (length ss) in
    let there : comma (length (a ∷ b ∷ ss)) ≡ codes ", " = comma-later (length (b ∷ ss)) in
    let more : List ℕ = comma (length (a ∷ b ∷ ss)) ++ s in
    ap (λ t. a ++ (codes ", " ++ t)) (with_commas-last (b ∷ ss) s
    ∙ ap (λ t. with_commas (b ∷ ss) ++ (t ++ s)) (here ∙ sym there))
    ∙ ap (λ t. a ++ t) (sym (append_assoc (codes ", ") (with_commas (b ∷ ss)) more))
    ∙ sym (append_assoc a (codes ", " ++ with_commas (b ∷ ss)) more)

-- one part more in a row
pub row_more : {A : Type 0} (f : A → List ℕ) (xs : List A) (k : ℕ) (x : A) → slice_get xs k ≡ Some x
    → with_commas (map f (take (k + 1) xs)) ≡ with_commas (map f (take k xs)) ++ (comma k ++ f x)
row_more f xs k x e =
    let lt : k < length xs = slice_get_within xs k x e in
    let g : get_or xs k x ≡ x = get_or_from_slice_get xs k x x e in
    let more : take (k + 1) xs ≡ take k xs ++ x ∷ [] =
    take_more xs k x lt ∙ ap (λ y. take k xs ++ y ∷ []) g in
    let le : k ≤ length xs = omega (arith, lt) in
    let many : length (map f (take k xs)) ≡ k = length-map (take k xs) f ∙ length-take-le k xs le in
    ap (λ ys. with_commas (map f ys)) more
    ∙ ap with_commas (map-append f (take k xs) (x ∷ []))
    ∙ with_commas-last (map f (take k xs)) (f x)
    ∙ ap (λ n. with_commas (map f (take k xs)) ++ (comma n ++ f x)) many

-- one part more in a text that goes on from another
pub row_step : {A : Type 0} (f : A → List ℕ) (xs : List A) (k : ℕ) (x : A)
    (front before behind after : List ℕ)
    → before ≡ front ++ with_commas (map f (take k xs)) → behind ≡ before ++ comma k
    → after ≡ behind ++ f x → slice_get xs k ≡ Some x
    → after ≡ front ++ with_commas (map f (take (k + 1) xs))
row_step f xs k x front before behind after p q r e =
    r
    ∙ ap (λ t. t ++ f x) (q ∙ ap (λ t. t ++ comma k) p)
    ∙ append_assoc (front ++ with_commas (map f (take k xs))) (comma k) (f x)
    ∙ append_assoc front (with_commas (map f (take k xs))) (comma k ++ f x)
    ∙ ap (λ t. front ++ t) (sym (row_more f xs k x e))
