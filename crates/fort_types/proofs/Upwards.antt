-- The way up from a type: what is marked, and what is left.
use Rattle.std.proofs.Common.{◌≡◌, ◌<◌, ◌≤◌, ◌+◌, ◌⊎◌, inl, inr, ℕ, zero, suc, Bool, true, false, List, [], ◌∷◌, ◌++◌, length, get_or, Option, Some, refl, sym, ap, ◌∙◌, subst, arith}
use Rattle.std.specs.List.{slice_get, slice_set, Contains}
use Rattle.std.proofs.lemmas.Option.{slice_get_within, slice_get-get_or}
use Rattle.std.proofs.lemmas.List.Sums.{sum_by-cons}
use Rattle.std.proofs.lemmas.List.Elements.{Contains-push, Contains-push_cases, Contains-append_left}
use Rattle.fort_types.specs.declared.hierarchy.DeclaredType.{DeclaredType}
use Rattle.fort_types.specs.Hierarchy.{DeclaredTypes, Path, stop, along}
use Rattle.fort_types.specs.Table.{is_set, IsExact}
use Rattle.fort_types.specs.Square.{open_bit, falses, blank_row}
use Rattle.fort_types.specs.Supertypes.{mark, IsMarked, Reaches, known, fresh, ReachesEach, Found, IsRow, AreRows}
use Rattle.fort_types.proofs.Bits.{length-same}
use Rattle.fort_types.proofs.Paths.{joined}

-- a mark more
marked_here : (row : List Bool) (b : ℕ) → b < length row → IsMarked (slice_set row b true) b
marked_here [] b l = absurd (omega arith)
marked_here (x ∷ row) zero l = refl
marked_here (x ∷ row) (suc b) l = marked_here row b (omega arith)

marked_kept : (row : List Bool) (b j : ℕ) → IsMarked row j → IsMarked (slice_set row b true) j
marked_kept [] b j e = e
marked_kept (x ∷ row) zero zero e = refl
marked_kept (x ∷ row) zero (suc j) e = e
marked_kept (x ∷ row) (suc b) zero e = e
marked_kept (x ∷ row) (suc b) (suc j) e = marked_kept row b j e

marked_source : (row : List Bool) (b j : ℕ) → IsMarked (slice_set row b true) j
    → IsMarked row j ⊎ (b ≡ j)
marked_source [] b j e = inl e
marked_source (x ∷ row) zero zero e = inr refl
marked_source (x ∷ row) zero (suc j) e = inl e
marked_source (x ∷ row) (suc b) zero e = inl e
marked_source (x ∷ row) (suc b) (suc j) e =
    elim (marked_source row b j e) as (λ _. IsMarked row j
    ⊎ (suc b ≡ suc j)) [ inl f ↦ inl f | inr f ↦ inr (ap suc f) ]

marked_count : (row : List Bool) (b : ℕ) → b < length row → mark row b ≡ false
    → falses (slice_set row b true) + 1 ≡ falses row
marked_count [] b l e = absurd (omega arith)
marked_count (true ∷ row) zero l e = absurd cc
marked_count (false ∷ row) zero l e =
    let f = sum_by-cons open_bit false row in let g = sum_by-cons open_bit true row in omega arith
marked_count (x ∷ row) (suc b) l e =
    let f = marked_count row b (omega arith) e in
    let g = sum_by-cons open_bit x row in let k = sum_by-cons open_bit x (slice_set row b true)
    in omega arith

marked_long : (row : List Bool) (b : ℕ) → length (slice_set row b true) ≡ length row
marked_long [] b = refl
marked_long (x ∷ row) zero = refl
marked_long (x ∷ row) (suc b) = let e = marked_long row b in omega arith

marked_inside : (row : List Bool) (j : ℕ) → IsMarked row j → j < length row
marked_inside [] j e = absurd (let f : false ≡ true = e in cc)
marked_inside (x ∷ row) zero e = omega arith
marked_inside (x ∷ row) (suc j) e = let l = marked_inside row j e in omega arith

unmarked : (n j : ℕ) → IsMarked (blank_row n) j → ⊥
unmarked zero j e = let f : false ≡ true = e in cc
unmarked (suc n) zero e = let f : false ≡ true = e in cc
unmarked (suc n) (suc j) e = unmarked n j e

-- an element more at the end of a list
front : (xs : List ℕ) (y k x : ℕ) → slice_get xs k ≡ Some x → slice_get (xs ++ y ∷ []) k ≡ Some x
front [] y k x e = absurd cc
front (z ∷ xs) y zero x e = e
front (z ∷ xs) y (suc k) x e = front xs y k x e

long : (xs : List ℕ) (y : ℕ) → length (xs ++ y ∷ []) ≡ length xs + 1
long [] y = refl
long (x ∷ xs) y = let e = long xs y in omega arith

-- the element of a place stands in the list, and the other way round
pub contains_at : (xs : List ℕ) (k x : ℕ) → slice_get xs k ≡ Some x → Contains xs x
contains_at xs k x e = (k, slice_get_within xs k x e, at xs k x e)
  where
    at : (xs : List ℕ) (k x : ℕ) → slice_get xs k ≡ Some x → get_or xs k x ≡ x
    at [] k x e = absurd cc
    at (y ∷ xs) zero x e = cc
    at (y ∷ xs) (suc k) x e = at xs k x e

pub place_of : (xs : List ℕ) (x : ℕ) → Contains xs x → (k : ℕ) × (slice_get xs k ≡ Some x)
place_of xs x w =
    (w.0, slice_get-get_or xs w.0 x w.1 ∙ ap (λ (z : ℕ). let y : Option ℕ = Some z in y) w.2)

-- a look that finds nothing new, and one that does
pub is_known : (b : ℕ) (row : List Bool) (found : List ℕ) → (b < length row → IsMarked row b)
    → Reaches b row row found found
is_known b row found e = known e refl refl

pub is_fresh : (b : ℕ) (row : List Bool) (found : List ℕ) → b < length row → mark row b ≡ false
    → Reaches b row (slice_set row b true) found (found ++ b ∷ [])
is_fresh b row found l e = fresh l e refl refl

-- before the first look, and one look more
pub none_reached : (xs : List ℕ) (row : List Bool) (found : List ℕ)
    → ReachesEach xs 0 row row found found
none_reached xs row found = record {
  long = refl;
  kept = λ j e. e;
  front = λ k x e. e;
  count = refl;
  each = λ k b l. absurd (omega arith);
  source = λ j e. inl e;
  listed = λ j e. inl e;
  marked = λ b w. inl w;
}

near : (j n : ℕ) → j < n + 1 → (j < n) ⊎ (j ≡ n)
near j n b = grind arith

pub one_reached : (xs : List ℕ) (n b : ℕ) (row mid new : List Bool) (found some more : List ℕ)
    → slice_get xs n ≡ Some b
    → ReachesEach xs n row mid found some → Reaches b mid new some more
    → ReachesEach xs (n + 1) row new found more
one_reached xs n b row mid new found some more e r (known k p q) = record {
  long = ap length p ∙ r.long;
  kept = λ j m. subst (λ l. IsMarked l j) (sym p) (r.kept j m);
  front = λ i x m. subst (λ l. slice_get l i ≡ Some x) (sym q) (r.front i x m);
  count = ap (λ l. falses l + length more) p ∙ ap (λ
      (l : List ℕ). falses mid + length l) q ∙ r.count;
  each = λ i c l m o. elim (near i n l) as (λ _. IsMarked new c) [
    | inl u ↦ subst (λ l. IsMarked l c) (sym p) (r.each i c u m o)
    | inr u ↦
        (let f : slice_get xs i ≡ slice_get xs n = ap (slice_get xs) u in let g : b ≡ c = cc
        in let h = r.long in
        subst (λ l. IsMarked l c) (sym p) (subst (IsMarked mid) g (k
        (let t : b ≡ c = g in omega arith))))
  ];
  source = λ j m. r.source j (subst (λ l. IsMarked l j) p m);
  listed = λ j m. elim (r.listed j (subst (λ l. IsMarked l j) p m)) as (λ _. IsMarked row j
      ⊎ Contains more j) [ inl u ↦ inl u | inr u ↦ inr (subst (λ l. Contains l j) (sym q) u) ];
  marked = λ c m. elim (r.marked c (subst (λ l. Contains l c) q m)) as (λ _. Contains found c
      ⊎ IsMarked new c) [ inl u ↦ inl u | inr u ↦ inr (subst (λ l. IsMarked l c) (sym p) u) ];
}
one_reached xs n b row mid new found some more e r (fresh k f p q) = record {
  long = ap length p ∙ marked_long mid b ∙ r.long;
  kept = λ j m. kept_on j (r.kept j m);
  front = λ i x m. subst (λ l. slice_get l i ≡ Some x) (sym q) (front some b i x (r.front i x m));
  count = let s = marked_count mid b k f in let t = long some b in let u = r.count
      in let v : falses new ≡ falses (slice_set mid b true) = ap falses p in
      let w : length more ≡ length (some ++ b ∷ []) = ap length q in omega arith;
  each = λ i c l m o. elim (near i n l) as (λ _. IsMarked new c) [
    | inl u ↦ kept_on c (r.each i c u m o)
    | inr u ↦
        (let g : slice_get xs i ≡ slice_get xs n = ap (slice_get xs) u in let h : b ≡ c = cc
        in subst (IsMarked new) h here)
  ];
  source = λ j m. elim (marked_source mid b j (subst (λ l. IsMarked l j) p m)) as
      (λ _. IsMarked row j ⊎ Contains xs j)
      [ inl u ↦ r.source j u | inr u ↦ inr (subst (Contains xs) u (contains_at xs n b e)) ];
  listed = λ j m. elim (marked_source mid b j (subst (λ l. IsMarked l j) p m)) as
      (λ _. IsMarked row j ⊎ Contains more j) [
        | inl u ↦
            (elim (r.listed j u) as (λ _. IsMarked row j
            ⊎ Contains more j) [
              | inl v ↦ inl v
              | inr v ↦
                  inr (subst (λ l. Contains l j) (sym q) (Contains-append_left some (b ∷ []) j v))
            ])
        | inr u ↦
            inr (subst (λ l. Contains l j) (sym q)
            (subst (Contains (some ++ b ∷ [])) u (Contains-push some b)))
      ];
  marked = λ c m. elim (Contains-push_cases some b c (subst (λ l. Contains l c) q m)) as
      (λ _. Contains found c ⊎ IsMarked new c) [
        | inl u ↦
            (elim (r.marked c u) as (λ _. Contains found c
            ⊎ IsMarked new c) [ inl v ↦ inl v | inr v ↦ inr (kept_on c v) ])
        | inr u ↦ inr (subst (IsMarked new) u here)
      ];
}
  where
    kept_on : (j : ℕ) → IsMarked mid j → IsMarked new j
    kept_on j m = subst (λ l. IsMarked l j) (sym p) (marked_kept mid b j m)

    here : IsMarked new b
    here = subst (λ l. IsMarked l b) (sym p) (marked_here mid b k)

-- at the start the type itself is marked
pub found_first : (h : DeclaredTypes) (a : ℕ) (row : List Bool) (found : List ℕ) → a < length h
    → row ≡ slice_set (blank_row (length h)) a true → found ≡ a ∷ [] → Found h a row found 0
found_first h a row found l e f = record {
  long = ap length e ∙ marked_long (blank_row (length h)) a ∙ length-same (length h) false;
  start = start;
  sound = λ j m. subst (Path h a) (is_a j m) stop;
  listed = λ j m. subst (λ z. Contains z j) (sym f)
      (subst (Contains (a ∷ [])) (is_a j m) (Contains-push [] a));
  marked = λ b m. elim (Contains-push_cases [] a b (subst (λ z. Contains z b) f m)) as
      (λ _. IsMarked row b) [
        | inl u ↦ absurd (let v = u.1 in omega arith)
        | inr u ↦ subst (IsMarked row) u start
      ];
  closed = λ k c b n. absurd (omega arith);
}
  where
    start : IsMarked row a
    start = subst (λ z. IsMarked z a) (sym e)
        (marked_here (blank_row (length h)) a (let n = length-same (length h) false in omega arith))

    is_a : (j : ℕ) → IsMarked row j → a ≡ j
    is_a j m =
        elim (marked_source (blank_row (length h)) a j (subst (λ z. IsMarked z j) e m)) as (λ _. a
        ≡ j) [ inl u ↦ absurd (unmarked (length h) j u) | inr u ↦ u ]

-- the numbers of the list are the hierarchy's
pub found_inside : (h : DeclaredTypes) (a : ℕ) (row : List Bool) (found : List ℕ) (done k c : ℕ)
    → Found h a row found done → slice_get found k ≡ Some c → c < length h
found_inside h a row found done k c f e =
    let l = marked_inside row c (f.marked c (contains_at found k c e)) in let m = f.long
    in omega arith

pub index_inside : (h : DeclaredTypes) (a : ℕ) (row : List Bool) (found list : List ℕ) (done : ℕ)
    → Found h a row found done → list ≡ found → done < length found → get_or list done 0 < length h
index_inside h a row found list done f e l =
    found_inside h a row found done done (get_or list done 0) f
    (slice_get-get_or found done 0 l ∙ ap (λ
    (z : List ℕ). let y : Option ℕ = Some (get_or z done 0) in y) (sym e))

pub next_read : (found list : List ℕ) (done : ℕ) → list ≡ found → done < length found
    → slice_get found done ≡ Some (get_or list done 0)
next_read found list done e l =
    slice_get-get_or found done 0 l ∙ ap (λ
    (z : List ℕ). let y : Option ℕ = Some (get_or z done 0) in y) (sym e)

-- the next of the list has been looked at
pub found_more : (h : DeclaredTypes) (a at done : ℕ) (d : DeclaredType) (xs : List ℕ)
    (row new : List Bool) (found more : List ℕ) → Found h a row found done
    → slice_get found done ≡ Some at
    → slice_get h at ≡ Some d → xs ≡ d.extends → ReachesEach xs (length xs) row new found more
    → Found h a new more (done + 1)
found_more h a at done d xs row new found more f e g q r = record {
  long = r.long ∙ f.long;
  start = r.kept a f.start;
  sound = λ j m. elim (r.source j m) as (λ _. Path h a j) [
    | inl u ↦ f.sound j u
    | inr u ↦ joined h (f.sound at (f.marked at (contains_at found done at e)))
        (along (
          d,
          g,
          subst (λ z. Contains z j) q u,
          let l = marked_inside new j m in let n = r.long
              in let o = f.long in omega arith,
        ) stop)
  ];
  listed = λ j m. elim (r.listed j m) as (λ _. Contains more j) [
    | inl u ↦
        (let w = place_of found j (f.listed j u)
        in contains_at more w.0 j (r.front w.0 j w.1))
    | inr u ↦ u
  ];
  marked = λ b m. elim (r.marked b m) as (λ _. IsMarked new b) [
    | inl u ↦ r.kept b (f.marked b u)
    | inr u ↦ u
  ];
  closed = λ k c b l m x. elim (near k done l) as (λ _. IsMarked new b) [
    | inl u ↦
        (let w = place_of found c (listed_before k c m u)
        in r.kept b (f.closed k c b u (before k c m u) x))
    | inr u ↦
        (let s : slice_get more k ≡ slice_get more done = ap (slice_get more) u
        in let t : slice_get more done ≡ Some at = r.front done at e in
        let v : at ≡ c = cc
        in let y : slice_get h c ≡ Some d = subst (λ z. slice_get h z ≡ Some d) v g
        in let z : x.0 ≡ d = cc in
        let i : Contains xs b =
        subst (λ l. Contains l b) (sym q) (subst (λ
        (n : DeclaredType). Contains n.extends b) z x.2) in
        let w = place_of xs b i
        in r.each w.0 b (slice_get_within xs w.0 b w.1) w.1 (let n = f.long in let o = x.3
        in omega arith))
  ];
}
  where
    inside : done < length found
    inside = slice_get_within found done at e

    before : (k c : ℕ) → slice_get more k ≡ Some c → k < done → slice_get found k ≡ Some c
    before k c m l =
        let w : slice_get found k ≡ Some (get_or found k c) =
        slice_get-get_or found k c (let i = inside in omega arith) in
        let v : slice_get more k ≡ Some (get_or found k c) = r.front k (get_or found k c) w
        in let same : get_or found k c ≡ c = cc
        in w ∙ ap (λ (z : ℕ). let y : Option ℕ = Some z in y) same

    listed_before : (k c : ℕ) → slice_get more k ≡ Some c → k < done → Contains found c
    listed_before k c m l = contains_at found k c (before k c m l)

-- once the whole list has been looked at, the row is that of the type
pub found_all : (h : DeclaredTypes) (a : ℕ) (row : List Bool) (found : List ℕ) (done : ℕ)
    → Found h a row found done → length found ≤ done → IsRow (Path h a) (length h) row
found_all h a row found done f n =
    record { long = f.long; marks = λ j l. (λ m. f.sound j m, λ p. reached a f.start j p) }
  where
    reached : (c : ℕ) → IsMarked row c → (j : ℕ) → Path h c j → IsMarked row j
    reached c m j stop = m
    reached c m j (along {b = b} x p) = let w = place_of found c (f.listed c m) in
        let l = slice_get_within found w.0 c w.1
        in reached b (f.closed w.0 c b (omega arith) w.1 x) j p

-- one row more
pub one_row : (h : DeclaredTypes) (rows : List (List Bool)) (row : List Bool) (a : ℕ)
    → length rows ≡ a → AreRows h rows → IsRow (Path h a) (length h) row
    → AreRows h (rows ++ row ∷ [])
one_row h rows row a n r e = record {
  each = λ i x g. elim (last rows row i x g) as (λ _. IsRow (Path h i) (length h) x) [
    | inl u ↦ r.each i x u
    | inr u ↦
        (let s : i ≡ a = u.0 ∙ n
        in subst (λ z. IsRow (Path h z) (length h) x) (sym s)
        (subst (IsRow (Path h a) (length h)) (sym u.1) e))
  ];
}
  where
    last : (xs : List (List Bool)) (y : List Bool) (k : ℕ) (x : List Bool)
        → slice_get (xs ++ y ∷ []) k ≡ Some x
        → (slice_get xs k ≡ Some x) ⊎ ((k ≡ length xs) × (x ≡ y))
    last [] y zero x e = inr (refl, cc)
    last [] y (suc k) x e = absurd cc
    last (z ∷ xs) y zero x e = inl e
    last (z ∷ xs) y (suc k) x e =
        elim (last xs y k x e) as (λ _. (slice_get xs k ≡ Some x)
        ⊎ ((suc k ≡ suc (length xs)) × (x ≡ y)))
        [ inl u ↦ inl u | inr u ↦ inr (ap suc u.0, u.1) ]

pub no_rows : (h : DeclaredTypes) → AreRows h []
no_rows h = record { each = λ i row e. absurd cc }

-- all rows
pub all_rows : (h : DeclaredTypes) (rows : List (List Bool)) → length rows ≡ length h
    → AreRows h rows → IsExact (Path h) (length h) rows
all_rows h rows n r = record {
  high = n;
  wide = λ i row e. (r.each i row e).long;
  sets = λ i j k l. let e : slice_get rows i ≡ Some (get_or rows i []) =
      slice_get-get_or rows i [] (omega arith) in
      let w = (r.each i (get_or rows i []) e).marks j l
      in let m = set_mark rows i j (get_or rows i []) e
      in (λ t. w.0 (sym m ∙ t), λ p. m ∙ w.1 p);
}
  where
    set_mark : (rows : List (List Bool)) (i j : ℕ) (row : List Bool) → slice_get rows i ≡ Some row
        → is_set rows i j ≡ mark row j
    set_mark [] i j row e = absurd cc
    set_mark (x ∷ rows) zero j row e = let s : x ≡ row = cc in ap (λ l. mark l j) s
    set_mark (x ∷ rows) (suc i) j row e = set_mark rows i j row e
