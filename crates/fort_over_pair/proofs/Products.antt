-- All ways to take one of each list: which they are, how many, and none twice.
use Rattle.std.proofs.Common.{◌≡◌, ◌≢◌, ◌<◌, ◌+◌, ◌*◌, inl, inr, ◌↔◌, ℕ, zero, suc, List, [], ◌∷◌, ◌++◌, length, map, take, get_or, Some, refl, sym, ap, ◌∙◌, subst, arith}
use Rattle.std.specs.List.{slice_get, Contains, AllPairs, flat_map}
use Rattle.std.proofs.lemmas.List.{length-append, length-map, flat_map_more}
use Rattle.std.proofs.Math.Seq.{take-suc}
use Rattle.std.proofs.lemmas.List.Concat.{flat_map-cons}
use Rattle.std.proofs.Math.Nat.{zero-mul, suc-mul}
use Rattle.fort_base.specs.declared.ty.Ty.{Ty}
use Rattle.fort_types.specs.Hierarchy.{DeclaredTypes}
use Rattle.fort_types_sets.specs.Meets.{Meet, IsChoice, HasMeets, choices_of}
use Rattle.fort_over_pair.specs.Choices.{HasAll, HaveAll, products}
use Rattle.fort_over_pair.proofs.Members.{in_none, here, either, in_map, of_map, in_flat, of_flat, head_apart, tail_apart, apart_cons, apart_append, apart_map, as_many}

-- one of each list
abbrev pub OneOfEach : List (List Ty) → List Ty → Type 0
OneOfEach [] ms = ms ≡ []
OneOfEach (l ∷ ls) [] = ⊥
OneOfEach (l ∷ ls) (m ∷ ms) = Contains l m × OneOfEach ls ms

pub in_products : (lists : List (List Ty)) (ms : List Ty) → OneOfEach lists ms
    → Contains (products lists) ms
in_products [] ms e = subst (Contains ([] ∷ [])) (sym e) (here [] [])
in_products (l ∷ ls) [] w = absurd w
in_products (l ∷ ls) (m ∷ ms) w =
    in_flat (λ m. map (λ rest. m ∷ rest) (products ls)) l m (m ∷ ms) w.0
    (in_map (λ rest. m ∷ rest) (products ls) ms (in_products ls ms w.1))

pub of_products : (lists : List (List Ty)) (ms : List Ty) → Contains (products lists) ms
    → OneOfEach lists ms
of_products [] ms w =
    elim (either [] [] ms w) as (λ _. ms ≡ []) [ inl e ↦ sym e | inr v ↦ absurd (in_none ms v) ]
of_products (l ∷ ls) ms w =
    let u = of_flat (λ m. map (λ rest. m ∷ rest) (products ls)) l ms w
    in let v = of_map (λ rest. u.0 ∷ rest) (products ls) ms u.2 in
    subst (OneOfEach (l ∷ ls)) v.2 (u.1, of_products ls v.0 v.1)

-- the ways that begin with the first ones of a list, and with one more
pub ways_more : (rests : List (List Ty)) (firsts : List Ty) (i : ℕ) (x : Ty)
    (old new : List (List Ty)) → i < length firsts → x ≡ get_or firsts i x
    → old ≡ flat_map (λ m. map (λ rest. m ∷ rest) rests) (take i firsts)
    → new ≡ old ++ map (λ rest. x ∷ rest) rests
    → new ≡ flat_map (λ m. map (λ rest. m ∷ rest) rests) (take (i + 1) firsts)
ways_more rests firsts i x old new l e f g =
    let ways : Ty → List (List Ty) = λ m. map (λ rest. m ∷ rest) rests in
    let q : i + 1 ≡ suc i = omega arith in
    let a : take (i + 1) firsts ≡ take i firsts ++ x ∷ [] =
    ap (λ n. take n firsts) q ∙ take-suc firsts i x l ∙ ap (λ
    (z : Ty). take i firsts ++ z ∷ []) (sym e) in
    let b : flat_map ways (take i firsts) ++ ways x ≡ flat_map ways (take i firsts ++ x ∷ []) =
    flat_map_more ways [] (take i firsts) x in
    g ∙ ap (λ z. z ++ ways x) f ∙ b ∙ ap (flat_map ways) (sym a)

long_flat : (all : List (List Ty)) (l : List Ty)
    → length (flat_map (λ m. map (λ rest. m ∷ rest) all) l) ≡ length l * length all
long_flat all [] = sym (zero-mul (length all))
long_flat all (m ∷ l) =
    let f : Ty → List (List Ty) = λ m. map (λ rest. m ∷ rest) all in
    let a : length (flat_map f (m ∷ l)) ≡ length (f m ++ flat_map f l) =
    ap length (flat_map-cons f m l) in
    let b : length (f m ++ flat_map f l) ≡ length (f m) + length (flat_map f l) =
    length-append (f m) (flat_map f l) in
    let c : length (f m) ≡ length all = length-map all (λ rest. m ∷ rest) in
    let d = long_flat all l
    in let e : length (m ∷ l) * length all ≡ length l * length all + length all =
    suc-mul (length l) (length all) in omega arith

pub long_products : (lists : List (List Ty)) → length (products lists) ≡ choices_of lists
long_products [] = refl
long_products (l ∷ ls) = long_flat (products ls) l ∙ ap (λ n. length l * n) (long_products ls)

same_tail : (m : Ty) (a b : List Ty) → m ∷ a ≡ m ∷ b → a ≡ b
same_tail m a b e = cc

flat_apart : (all : List (List Ty)) (l : List Ty) → AllPairs (λ (x y : List Ty). x ≢ y) all
    → AllPairs (λ (x y : Ty). x ≢ y) l
    → AllPairs (λ (x y : List Ty). x ≢ y) (flat_map (λ m. map (λ rest. m ∷ rest) all) l)
flat_apart all [] p q = λ i j d a b. absurd (omega arith)
flat_apart all (m ∷ l) p q = let f : Ty → List (List Ty) = λ m. map (λ rest. m ∷ rest) all in
    subst (AllPairs (λ (x y : List Ty). x ≢ y)) (sym (flat_map-cons f m l))
    (apart_append (f m) (flat_map f l) (apart_map (λ rest. m ∷ rest) all (same_tail m) p)
    (flat_apart all l p (tail_apart m l q))
    (λ x y a b e. let u = of_map (λ rest. m ∷ rest) all x a in let v = of_flat f l y b
    in let w = of_map (λ rest. v.0 ∷ rest) all y v.2 in
    head_apart m l q v.0 v.1 (heads m v.0 u.0 w.0 (u.2 ∙ e ∙ sym w.2))))
  where
    heads : (m n : Ty) (a b : List Ty) → m ∷ a ≡ n ∷ b → m ≡ n
    heads m n a b e = cc

pub products_apart : (lists : List (List Ty))
    → ((k : ℕ) (l : List Ty) → slice_get lists k ≡ Some l → AllPairs (λ (x y : Ty). x ≢ y) l)
    → AllPairs (λ (x y : List Ty). x ≢ y) (products lists)
products_apart [] p =
    apart_cons [] [] (λ z w. absurd (in_none z w)) (λ i j d a b. absurd (omega arith))
products_apart (l ∷ ls) p =
    flat_apart (products ls) l (products_apart ls (λ k m e. p (suc k) m e)) (p 0 l refl)

-- ---- with the lists of the meets at each place these ways are the choices

abbrev Each : DeclaredTypes → List Ty → List Ty → List (List Ty) → Type 0
Each h xs ys lists = (k : ℕ) (x y : Ty) (list : List Ty) → slice_get xs k ≡ Some x
    → slice_get ys k ≡ Some y → slice_get lists k ≡ Some list → HasAll (Meet h x y) list

picks : (h : DeclaredTypes) (xs ys : List Ty) (lists : List (List Ty)) (ms : List Ty)
    → length xs ≡ length ys → length lists ≡ length xs → Each h xs ys lists
    → OneOfEach lists ms ↔ IsChoice h xs ys ms
picks h [] ys [] [] n l e = (λ o. (refl, λ k x y m f. absurd cc), λ c. refl)
picks h [] ys [] (m ∷ ms) n l e = (λ o. absurd cc, λ c. absurd (let f = c.0 in omega arith))
picks h [] ys (z ∷ zs) ms n l e = absurd (omega arith)
picks h (x ∷ xs) [] lists ms n l e = absurd (omega arith)
picks h (x ∷ xs) (y ∷ ys) [] ms n l e = absurd (omega arith)
picks h (x ∷ xs) (y ∷ ys) (z ∷ zs) [] n l e =
    (λ o. absurd o, λ c. absurd (let f = c.0 in omega arith))
picks h (x ∷ xs) (y ∷ ys) (z ∷ zs) (m ∷ ms) n l e =
    let one : HasAll (Meet h x y) z = e 0 x y z refl refl refl in
    let more =
    picks h xs ys zs ms (omega arith) (omega arith) (λ k a b c f g i. e (suc k) a b c f g i)
    in (
      λ o. (
        let f = (more.0 o.1).0
            in omega arith,
        places x y m xs ys ms ((one m).0 o.0) (more.0 o.1).1,
      ),
      λ c. (
        (one m).1 (c.1 0 x y m refl refl refl),
        more.1 (let f = c.0 in omega arith, λ k a b d f g i. c.1 (suc k) a b d f g i),
      ),
    )
  where
    places : (x y m : Ty) (xs ys ms : List Ty) → Meet h x y m
        → ((k : ℕ) (a b d : Ty) → slice_get xs k ≡ Some a → slice_get ys k ≡ Some b
        → slice_get ms k ≡ Some d → Meet h a b d)
        → (k : ℕ) (a b d : Ty) → slice_get (x ∷ xs) k ≡ Some a → slice_get (y ∷ ys) k ≡ Some b
        → slice_get (m ∷ ms) k ≡ Some d → Meet h a b d
    places x y m xs ys ms w q zero a b d f g i =
        let r : x ≡ a = cc in let s : y ≡ b = cc in let t : m ≡ d = cc in
        subst (λ (z : Ty). Meet h z b d) r (subst (λ
        (z : Ty). Meet h x z d) s (subst (λ (z : Ty). Meet h x y z) t w))
    places x y m xs ys ms w q (suc k) a b d f g i = q k a b d f g i

pub choices_listed : (h : DeclaredTypes) (xs ys : List Ty) (lists : List (List Ty))
    → length xs ≡ length ys → HaveAll h xs ys lists (length xs)
    → HasAll (IsChoice h xs ys) (products lists)
choices_listed h xs ys lists n a ms = let w = picks h xs ys lists ms n a.long a.each_has in
    (λ c. w.0 (of_products lists ms c), λ c. in_products lists ms (w.1 c))

-- ---- however the meets are listed, there are as many choices

abbrev Once : DeclaredTypes → List Ty → List Ty → List (List Ty) → Type 0
Once h xs ys lists = (k : ℕ) (x y : Ty) (list : List Ty) → slice_get xs k ≡ Some x
    → slice_get ys k ≡ Some y → slice_get lists k ≡ Some list → HasMeets h x y list

pub same_count : (h : DeclaredTypes) (xs ys : List Ty) (ls ms : List (List Ty))
    → length xs ≡ length ys → length ls ≡ length xs → length ms ≡ length xs
    → Once h xs ys ls → Once h xs ys ms → choices_of ls ≡ choices_of ms
same_count h [] ys [] [] n l m e f = refl
same_count h [] ys (a ∷ ls) ms n l m e f = absurd (omega arith)
same_count h [] ys [] (b ∷ ms) n l m e f = absurd (omega arith)
same_count h (x ∷ xs) [] ls ms n l m e f = absurd (omega arith)
same_count h (x ∷ xs) (y ∷ ys) [] ms n l m e f = absurd (omega arith)
same_count h (x ∷ xs) (y ∷ ys) (a ∷ ls) [] n l m e f = absurd (omega arith)
same_count h (x ∷ xs) (y ∷ ys) (a ∷ ls) (b ∷ ms) n l m e f =
    let p : HasMeets h x y a = e 0 x y a refl refl refl
    in let q : HasMeets h x y b = f 0 x y b refl refl refl in
    let r : length a ≡ length b =
    as_many a b p.once q.once (λ z w. (q.exactly z).1 ((p.exactly z).0 w))
    (λ z w. (p.exactly z).1 ((q.exactly z).0 w)) in
    let s = same_count h xs ys ls ms (omega arith) (omega arith) (omega arith)
    (λ k u v z g i j. e (suc k) u v z g i j) (λ k u v z g i j. f (suc k) u v z g i j) in
    ap (λ i. i * choices_of ls) r ∙ ap (λ i. length b * i) s
