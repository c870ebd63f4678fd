-- A solid type below two that don't clash as arrows is below a meet of the two.
use Rattle.std.proofs.Common.{◌≡◌, ◌<◌, ℕ, zero, suc, inl, inr, List, [], ◌∷◌, length, Some, refl, sym, ap, ◌∙◌, subst, arith}
use Rattle.std.specs.List.{slice_get}
use Rattle.std.proofs.lemmas.Option.{slice_get_within}
use Rattle.fort_base.specs.declared.ids.TypeId.{TypeId}
use Rattle.fort_base.specs.declared.table.TypeTable.{TypeTable}
use Rattle.fort_base.specs.declared.ty.Ty.{Ty, out-Ty, roll-Ty, out-roll-Ty}
use Rattle.fort_base.specs.declared.ty.Ty.TheOpen.{Ty-F}
use Rattle.fort_types.specs.Hierarchy.{DeclaredTypes, Path, stop, along, Sound}
use Rattle.fort_types.specs.Types.{Below, nothing, any, named, tuple, array, arrow, Solid}
use Rattle.fort_types.specs.Table.{HasRows}
use Rattle.fort_types.proofs.ByParts.{Parts, by_parts, part_of}
use Rattle.fort_types.proofs.Orders.{declared_as, is_declared}
use Rattle.fort_types.proofs.BelowTwo.{not_bottom, solid_part}
use Rattle.fort_types_sets.specs.Meets.{Meet, lesser, greater, highest, each, ArrowsClash, arrows, inner}
use Rattle.fort_types_sets.proofs.Decided.{decide}
use Rattle.fort_types_sets.proofs.Highest.{climb}

tuple_of : List Ty → Ty
tuple_of xs = roll-Ty (Ty-F.Tuple xs)

is_tuple : (xs : List Ty) → out-Ty (tuple_of xs) ≡ Ty-F.Tuple xs
unfolding tuple_of
is_tuple xs = out-roll-Ty (Ty-F.Tuple xs)

module _ (h : DeclaredTypes) (table : TypeTable) (sound : Sound h) (rows : HasRows h table) where
  -- what is below two that aren't ordered is the hierarchy's
  in_table : (i j k : ℕ) → Path h k i → Path h k j → (Path h i j → ⊥) → k < length h
  in_table i j k stop q n = absurd (n q)
  in_table i j k (along e p) q n = slice_get_within h k e.0 e.1

  pub record Under (v a b : Ty) : Type 0 where
    pub meet : Ty
    pub is : Meet h a b meet
    pub below : Below h v meet

  -- a meet at each place of two lists
  pub record UnderAll (vs xs ys : List Ty) : Type 0 where
    pub meets : List Ty
    pub long : length xs ≡ length meets
    pub is : (k : ℕ) (x y m : Ty) → slice_get xs k ≡ Some x → slice_get ys k ≡ Some y
        → slice_get meets k ≡ Some m → Meet h x y m
    pub below : (k : ℕ) (v m : Ty) → slice_get vs k ≡ Some v → slice_get meets k ≡ Some m
        → Below h v m

  pub under_all : (vs xs ys : List Ty) → length vs ≡ length xs → length vs ≡ length ys
      → ((k : ℕ) (v x y : Ty) → slice_get vs k ≡ Some v → slice_get xs k ≡ Some x
      → slice_get ys k ≡ Some y → Under v x y) → UnderAll vs xs ys
  under_all [] [] [] n m f =
      record {
        meets = [];
        long = refl;
        is = λ k x y m p q r. absurd cc;
        below = λ k v m p q. absurd cc;
      }
  under_all [] [] (y ∷ ys) n m f = absurd (omega arith)
  under_all [] (x ∷ xs) ys n m f = absurd (omega arith)
  under_all (v ∷ vs) [] ys n m f = absurd (omega arith)
  under_all (v ∷ vs) (x ∷ xs) [] n m f = absurd (omega arith)
  under_all (v ∷ vs) (x ∷ xs) (y ∷ ys) n m f =
      let one : Under v x y = f 0 v x y refl refl refl in
      let rest : UnderAll vs xs ys =
      under_all vs xs ys (omega arith) (omega arith) (λ k a b c p q r. f (suc k) a b c p q r) in
      record {
        meets = one.meet ∷ rest.meets;
        long = let l = rest.long in omega arith;
        is = is_all v x y vs xs ys one rest;
        below = below_all v x y vs xs ys one rest;
      }
    where
      is_all : (v x y : Ty) (vs xs ys : List Ty) (one : Under v x y) (rest : UnderAll vs xs ys)
          (k : ℕ) (a b m : Ty)
          → slice_get (x ∷ xs) k ≡ Some a → slice_get (y ∷ ys) k ≡ Some b
          → slice_get (one.meet ∷ rest.meets) k ≡ Some m → Meet h a b m
      is_all v x y vs xs ys one rest zero a b m p q r =
          let e : x ≡ a = cc in let f : y ≡ b = cc in let g : one.meet ≡ m = cc in
          subst (λ z. Meet h z b m) e
          (subst (λ z. Meet h x z m) f (subst (λ z. Meet h x y z) g one.is))
      is_all v x y vs xs ys one rest (suc k) a b m p q r = rest.is k a b m p q r

      below_all : (v x y : Ty) (vs xs ys : List Ty) (one : Under v x y) (rest : UnderAll vs xs ys)
          (k : ℕ) (a m : Ty)
          → slice_get (v ∷ vs) k ≡ Some a → slice_get (one.meet ∷ rest.meets) k ≡ Some m
          → Below h a m
      below_all v x y vs xs ys one rest zero a m p r =
          let e : v ≡ a = cc in let g : one.meet ≡ m = cc in
          subst (λ z. Below h z m) e (subst (λ z. Below h v z) g one.below)
      below_all v x y vs xs ys one rest (suc k) a m p r = rest.below k a m p r

  abbrev Covers : Ty → Type 0
  Covers v = (a b : Ty) → Solid v → (ArrowsClash h a b → ⊥) → Below h v a → Below h v b
      → Under v a b

  -- neither of the two is below the other
  unordered : (v : Ty) → Parts Covers (out-Ty v) → (a b : Ty) → Solid v → (ArrowsClash h a b → ⊥)
      → Below h v a → Below h v b
      → (Below h a b → ⊥) → (Below h b a → ⊥) → Under v a b
  unordered v w a b s c (nothing e) q n m = absurd (not_bottom v s e)
  unordered v w a b s c p (nothing e) n m = absurd (not_bottom v s e)
  unordered v w a b s c (any e) q n m = absurd (m (any e))
  unordered v w a b s c p (any e) n m = absurd (n (any e))
  unordered v w a b s c (named {i = i1} {j = j1} e f p) (named {i = i2} {j = j2} g k q) n m =
      let same_id : i2 ≡ i1 = cc in
      let q2 = subst (λ (z : TypeId). Path h z.0 j2.0) same_id q in
      let z = climb h table sound rows j1.0 j2.0 i1.0
      (in_table j1.0 j2.0 i1.0 p q2 (λ w. n (named f k w))) p q2 in
      record {
        meet = declared_as z.0;
        is = highest f k (is_declared z.0) z.1;
        below = named e (is_declared z.0) z.2;
      }
  unordered v w a b s c (tuple {xs = vs} {ys = xs} e f l p) (tuple {xs = us} {ys = ys} g k o q) n
      m =
      let twin : us ≡ vs = cc in
      let o2 : length vs ≡ length ys = ap length (sym twin) ∙ o in
      let all : UnderAll vs xs ys = under_all vs xs ys l o2 (λ i x y z d r t.
      part_of Covers v vs w e i x d y z (solid_part v vs s e i x d)
      (λ u. c (inner i f k (sym l ∙ o2) r t u)) (p i x y d r)
      (q i x z (subst (λ t. slice_get t i ≡ Some x) (sym twin) d) t)) in
      record {
        meet = tuple_of all.meets;
        is = each f k (is_tuple all.meets) (sym l ∙ o2) all.long all.is;
        below = tuple e (is_tuple all.meets) (l ∙ all.long) all.below;
      }
  unordered v w a b s c (array {e = x} e f) (array {e = y} g k) n m = absurd (n (array f (cc)))
  unordered v w a b s c (arrow e f p r) (arrow g k q t) n m = absurd (c (arrows f k n m))
  unordered v w a b s c (named e f p) (tuple g k l q) n m = absurd cc
  unordered v w a b s c (named e f p) (array g k) n m = absurd cc
  unordered v w a b s c (named e f p) (arrow g k q r) n m = absurd cc
  unordered v w a b s c (tuple e f l p) (named g k q) n m = absurd cc
  unordered v w a b s c (tuple e f l p) (array g k) n m = absurd cc
  unordered v w a b s c (tuple e f l p) (arrow g k q r) n m = absurd cc
  unordered v w a b s c (array e f) (named g k q) n m = absurd cc
  unordered v w a b s c (array e f) (tuple g k l q) n m = absurd cc
  unordered v w a b s c (array e f) (arrow g k q r) n m = absurd cc
  unordered v w a b s c (arrow e f p r) (named g k q) n m = absurd cc
  unordered v w a b s c (arrow e f p r) (tuple g k l q) n m = absurd cc
  unordered v w a b s c (arrow e f p r) (array g k) n m = absurd cc

  cover_step : (v : Ty) → Parts Covers (out-Ty v) → (a b : Ty) → Solid v → (ArrowsClash h a b → ⊥)
      → Below h v a → Below h v b → Under v a b
  cover_step v w a b s c p q = elim (decide h table sound rows a b) as (λ _. Under v a b) [
    | inl l ↦ record { meet = a; is = lesser l; below = p }
    | inr n ↦ elim (decide h table sound rows b a) as (λ _. Under v a b) [
      | inl g ↦ record { meet = b; is = greater g; below = q }
      | inr m ↦ unordered v w a b s c p q n m
    ]
  ]

  pub cover : (v a b : Ty) → Solid v → (ArrowsClash h a b → ⊥) → Below h v a → Below h v b
      → Under v a b
  cover = by_parts Covers cover_step
