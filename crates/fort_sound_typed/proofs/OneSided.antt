-- The truth computed from the rows is that of below, where one of the two types is numbered.
use Rattle.std.proofs.Common.{◌≡◌, ◌≢◌, ◌<◌, ℕ, zero, suc, Bool, true, false, ◌&&◌, IsTrue, List, [], ◌∷◌, map, length, Some, ◌↔◌, refl, sym, ap, ◌∙◌, subst, arith}
use Rattle.std.specs.Prelude.{slice_get}
use Rattle.fort_base.specs.declared.table.TypeTable.{TypeTable}
use Rattle.fort_base.specs.declared.ty.Ty.{Ty, out-Ty, map-Ty, fold_out-Ty}
use Rattle.fort_base.specs.declared.ty.Ty.TheOpen.{Ty-F}
use Rattle.fort_types.specs.Hierarchy.{DeclaredTypes, Sound, Path}
use Rattle.fort_types.specs.Types.{Below, declared, parts, function, elements, shape_of, IsNumbered, no_name, name, in_parts, in_sides, in_element}
use Rattle.fort_types.specs.Layers.{Along, BelowLayer}
use Rattle.fort_types.specs.Table.{HasRows}
use Rattle.fort_types.specs.Relation.{Relation, each_below, below_at, relation}
use Rattle.fort_types.proofs.ByParts.{Each, Parts, by_parts}
use Rattle.fort_types.proofs.ByLayers.{layers_of_below, below_of_layers}
use Rattle.fort_types.proofs.Orders.{itself}
use Rattle.fort_types.proofs.Antisymmetry.{same}
use Rattle.fort_types.proofs.Paths.{start_inside, end_inside}
use Rattle.fort_sound_typed.specs.Hierarchies.{RelationFromOne}
use Rattle.fort_sound_typed.proofs.Rows.{inside}

-- the numbers of a layer's parts are below `n`
abbrev NumberedLayer : ℕ → Ty-F Ty → Type 0
NumberedLayer n (Ty-F.Named i) = i.0 < n
NumberedLayer n (Ty-F.Tuple xs) = Each (IsNumbered n) xs
NumberedLayer n (Ty-F.Arrow p q) = IsNumbered n p × IsNumbered n q
NumberedLayer n (Ty-F.Array e) = IsNumbered n e
NumberedLayer n _ = Unit {0}

nameless : (n : ℕ) (x : Ty-F Ty) → shape_of x ≢ declared → shape_of x ≢ parts
    → shape_of x ≢ function → shape_of x ≢ elements → NumberedLayer n x
nameless n Ty-F.Nothing a b c d = tt
nameless n Ty-F.Any a b c d = tt
nameless n (Ty-F.Named i) a b c d = absurd (a refl)
nameless n (Ty-F.Tuple xs) a b c d = absurd (b refl)
nameless n (Ty-F.Arrow p q) a b c d = absurd (c refl)
nameless n (Ty-F.Array e) a b c d = absurd (d refl)

numbered : (n : ℕ) {t : Ty} → IsNumbered n t → NumberedLayer n (out-Ty t)
numbered n (no_name {t = t} a b c d) = nameless n (out-Ty t) a b c d
numbered n (name e l) = subst (NumberedLayer n) (sym e) l
numbered n (in_parts e q) = subst (NumberedLayer n) (sym e) q
numbered n (in_sides e p q) = subst (NumberedLayer n) (sym e) (p, q)
numbered n (in_element e q) = subst (NumberedLayer n) (sym e) q

both_true : (a b : Bool) → IsTrue (a && b) ↔ (IsTrue a × IsTrue b)
both_true true b = (λ t. (refl, t), λ w. w.1)
both_true false b = (λ t. absurd (let f : false ≡ true = t in cc), λ w. w.0)

yes : IsTrue true ↔ Unit {0}
yes = (λ t. tt, λ u. refl)

never : IsTrue false ↔ ⊥
never = (λ t. let f : false ≡ true = t in cc, λ w. absurd w)

-- lists go place by place
pub lists : (f : Ty → Relation) (up : Bool) (R : Ty → Ty → Type 0) (xs ys : List Ty)
    → ((k : ℕ) (x y : Ty) → slice_get xs k ≡ Some x → slice_get ys k ≡ Some y → IsTrue (f x up y)
    ↔ R x y) → IsTrue (each_below (map f xs) up ys) ↔ Along R xs ys
lists f up R [] [] w = (λ t. (refl, λ k x y e. absurd cc), λ u. refl)
lists f up R [] (y ∷ ys) w =
    (λ t. absurd (let f : false ≡ true = t in cc), λ u. absurd (let n = u.0 in omega arith))
lists f up R (x ∷ xs) [] w =
    (λ t. absurd (let f : false ≡ true = t in cc), λ u. absurd (let n = u.0 in omega arith))
lists f up R (x ∷ xs) (y ∷ ys) w =
    let one = w 0 x y refl refl in let more = lists f up R xs ys (λ k u v a b. w (suc k) u v a b)
    in let two = both_true (f x up y) (each_below (map f xs) up ys) in (
      λ t. let p = two.0 t in let m = more.0 p.1
          in (let n = m.0 in omega arith, places (one.0 p.0) m.1),
      λ u. two.1 (
        one.1 (u.1 0 x y refl refl),
        more.1 (let n = u.0 in omega arith, λ k a b c d. u.1 (suc k) a b c d),
      ),
    )
  where
    places : R x y
        → ((k : ℕ) (a b : Ty) → slice_get xs k ≡ Some a → slice_get ys k ≡ Some b → R a b)
        → (k : ℕ) (a b : Ty) → slice_get (x ∷ xs) k ≡ Some a → slice_get (y ∷ ys) k ≡ Some b → R a b
    places r m zero a b e f =
        let p : x ≡ a = cc in let q : y ≡ b = cc in subst (λ z. R z b) p (subst (R x) q r)
    places r m (suc k) a b e f = m k a b e f

turned : (R : Ty → Ty → Type 0) (xs ys : List Ty) → Along (λ x y. R y x) xs ys ↔ Along R ys xs
turned R xs ys =
    (λ w. (sym w.0, λ k x y e f. w.1 k y x f e), λ w. (sym w.0, λ k x y e f. w.1 k y x f e))

through : (A B C : Type 0) → A ↔ B → B ↔ C → A ↔ C
through A B C p q = (λ a. q.0 (p.0 a), λ c. p.1 (q.1 c))

module _ (h : DeclaredTypes) (table : TypeTable) (sound : Sound h) (rows : HasRows h table) where
  -- what is known of a type, both ways round
  abbrev Asked : Ty → Type 0
  Asked a = (b : Ty) → IsNumbered (length h) a
      → (IsTrue (relation table.below a true b) ↔ Below h a b)
      × (IsTrue (relation table.below a false b) ↔ Below h b a)

  abbrev Both : Ty-F Ty → Ty-F Ty → Type 0
  Both x y = (IsTrue (below_at table.below (map-Ty Ty Relation (relation table.below) x) true y)
      ↔ BelowLayer h x y)
      × (IsTrue (below_at table.below (map-Ty Ty Relation (relation table.below) x) false y)
      ↔ BelowLayer h y x)

  arrays : (x y : Ty) → Asked x → IsNumbered (length h) x → Both (Ty-F.Array x) (Ty-F.Array y)
  arrays x y p k = let w = p y k in
      let one = both_true (relation table.below x true y) (relation table.below x false y) in
      let two = both_true (relation table.below x false y) (relation table.below x true y) in (
        (
          λ t. let u = one.0 t in same h sound x y (w.0.0 u.0) (w.1.0 u.1),
          λ e. one.1 (
            w.0.1 (subst (Below h x) e (itself h x)),
            w.1.1 (subst (λ z. Below h z x) e (itself h x)),
          ),
        ),
        (
          λ t. let u = two.0 t in same h sound y x (w.1.0 u.0) (w.0.0 u.1),
          λ e. two.1 (
            w.1.1 (subst (λ z. Below h z x) (sym e) (itself h x)),
            w.0.1 (subst (Below h x) (sym e) (itself h x)),
          ),
        ),
      )

  arrows : (p q r s : Ty) → Asked p → Asked q → IsNumbered (length h) p → IsNumbered (length h) q
      → Both (Ty-F.Arrow p q) (Ty-F.Arrow r s)
  arrows p q r s a b k l = let u = a r k in let v = b s l in
      let one = both_true (relation table.below p false r) (relation table.below q true s) in
      let two = both_true (relation table.below p true r) (relation table.below q false s) in (
        (λ t. let w = one.0 t in (u.1.0 w.0, v.0.0 w.1), λ w. one.1 (u.1.1 w.0, v.0.1 w.1)),
        (λ t. let w = two.0 t in (u.0.0 w.0, v.1.0 w.1), λ w. two.1 (u.0.1 w.0, v.1.1 w.1)),
      )

  tuples : (xs ys : List Ty) → Each Asked xs → Each (IsNumbered (length h)) xs
      → Both (Ty-F.Tuple xs) (Ty-F.Tuple ys)
  tuples xs ys p k = (
    lists (relation table.below) true (Below h) xs ys (λ i x y e f. (p i x e y (k i x e)).0),
    through _ _ _
        (lists (relation table.below) false (λ x y. Below h y x) xs ys
        (λ i x y e f. (p i x e y (k i x e)).1)) (turned (Below h) xs ys),
  )

  by_layers : (x y : Ty-F Ty) → Parts Asked x → NumberedLayer (length h) x → Both x y
  by_layers Ty-F.Nothing Ty-F.Nothing p k = (yes, yes)
  by_layers Ty-F.Nothing y p k = (yes, never)
  by_layers Ty-F.Any Ty-F.Any p k = (yes, yes)
  by_layers Ty-F.Any y p k = (never, yes)
  by_layers x Ty-F.Any p k = (yes, never)
  by_layers x Ty-F.Nothing p k = (never, yes)
  by_layers (Ty-F.Named i) (Ty-F.Named j) p k = (
    (
      λ t. let x = inside (Path h) (length h) table.below rows.below i.0 j.0 t
          in (rows.below.sets i.0 j.0 x.0 x.1).0 t,
      λ w. (rows.below.sets i.0 j.0 k (end_inside h i.0 j.0 w k)).1 w,
    ),
    (
      λ t. let x = inside (Path h) (length h) table.below rows.below j.0 i.0 t
          in (rows.below.sets j.0 i.0 x.0 x.1).0 t,
      λ w. (rows.below.sets j.0 i.0 (start_inside h j.0 i.0 w k) k).1 w,
    ),
  )
  by_layers (Ty-F.Tuple xs) (Ty-F.Tuple ys) p k = tuples xs ys p k
  by_layers (Ty-F.Arrow a b) (Ty-F.Arrow c d) p k = arrows a b c d p.0 p.1 k.0 k.1
  by_layers (Ty-F.Array a) (Ty-F.Array b) p k = arrays a b p k
  by_layers x y p k = (never, never)

  asked : (a : Ty) → Parts Asked (out-Ty a) → Asked a
  asked a p b k = let w = by_layers (out-Ty a) (out-Ty b) p (numbered (length h) k) in
      let e = fold_out-Ty Relation (λ layer up c. below_at table.below layer up (out-Ty c)) a in (
        (
          λ t. below_of_layers h a b (w.0.0 (sym (ap (λ (f : Relation). f true b) e) ∙ t)),
          λ r. ap (λ (f : Relation). f true b) e ∙ w.0.1 (layers_of_below h r),
        ),
        (
          λ t. below_of_layers h b a (w.1.0 (sym (ap (λ (f : Relation). f false b) e) ∙ t)),
          λ r. ap (λ (f : Relation). f false b) e ∙ w.1.1 (layers_of_below h r),
        ),
      )

pub relation_from_one : RelationFromOne
relation_from_one h table sound rows a b =
    by_parts (Asked h table sound rows) (asked h table sound rows) a b
