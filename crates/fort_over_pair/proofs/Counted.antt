-- Numbers that stand for others, and what they say of meets.
use Rattle.std.proofs.Common.{◌≡◌, ◌≢◌, ◌<◌, ◌≤◌, ◌+◌, ◌*◌, ◌⊎◌, inl, inr, ◌↔◌, ℕ, zero, suc, List, [], ◌∷◌, ◌++◌, length, map, Some, refl, sym, ap, ◌∙◌, subst, arith}
use Rattle.std.specs.List.{slice_get, Contains, AllPairs}
use Rattle.std.proofs.lemmas.List.{length-map}
use Rattle.std.proofs.Math.Nat.{le-mul_of_pos_right, mul-le-mul_left, mul_comm, mul_assoc, zero-mul, mul-zero, mul-one, one-mul}
use Rattle.fort_base.specs.declared.ids.TypeId.{TypeId}
use Rattle.fort_base.specs.declared.table.TypeTable.{TypeTable}
use Rattle.fort_base.specs.declared.ty.Ty.{Ty, out-Ty, out-roll-Ty}
use Rattle.fort_base.specs.declared.ty.Ty.TheVariants.{Named, Tuple, rolls-Named, rolls-Tuple}
use Rattle.fort_base.specs.declared.ty.Ty.TheOpen.{Ty-F}
use Rattle.fort_types.specs.Hierarchy.{DeclaredTypes, Sound}
use Rattle.fort_types.specs.Types.{Below}
use Rattle.fort_types.specs.Table.{HasRows}
use Rattle.fort_types.proofs.ByParts.{same_layers}
use Rattle.fort_meet.specs.Meets.{AreMeets}
use Rattle.fort_types_sets.specs.Applicable.{Somewhere}
use Rattle.fort_types_sets.specs.Meets.{Meet, lesser, greater, IsChoice, HasMeets, HasNone, AreTooMany, choices_of}
use Rattle.fort_over_pair.specs.Choices.{HasAll, HaveAll, MeetLayer, Counts, CountsTo, CountsLayer, ListsLayer, Stands, products}
use Rattle.fort_over_pair.proofs.Members.{in_none, here, either, in_map, of_map, apart_cons, apart_map}
use Rattle.fort_over_pair.proofs.Meeting.{of_lesser, of_greater, by_layers}
use Rattle.fort_over_pair.proofs.Products.{long_products, products_apart, choices_listed, same_count}

-- ---- products of numbers that stand for others

big : (r p : ℕ) → r ≤ 4097 → Stands r p → 4097 ≤ p → r ≡ 4097
big r p l (inl e) m = omega arith
big r p l (inr w) m = w.0

grows : (a b : ℕ) → 0 < b → a ≤ a * b
grows a b l = le-mul_of_pos_right a l

grows_left : (a b : ℕ) → 0 < a → b ≤ a * b
grows_left a b l = let w = le-mul_of_pos_right b l in let e = mul_comm a b in omega arith

none_or_some : (n : ℕ) → (n ≡ 0) ⊎ (0 < n)
none_or_some n = grind arith

first_big : (n m a b r : ℕ) → r ≤ 4097 → Stands r (n * m) → n ≡ 4097 → 4097 ≤ a → (m ≡ 0 → b ≡ 0)
    → (0 < m → 0 < b) → Stands r (a * b)
first_big n m a b r l s e g o p = elim (none_or_some m) as (λ _. Stands r (a * b)) [
  | inl z ↦
      (let f : n * m ≡ 0 = ap (λ k. n * k) z ∙ mul-zero n
      in let i : a * b ≡ 0 = ap (λ k. a * k) (o z) ∙ mul-zero a in nought r (n * m) (a * b) f i s)
  | inr z ↦
      (let f : n ≤ n * m = grows n m z in let i : a ≤ a * b = grows a b (p z)
      in inr (big r (n * m) l s (omega arith), omega arith))
]
  where
    nought : (r p q : ℕ) → p ≡ 0 → q ≡ 0 → Stands r p → Stands r q
    nought r p q e f (inl g) = inl (omega arith)
    nought r p q e f (inr w) = let l = w.1 in absurd (omega arith)

second_big : (n m a b r : ℕ) → r ≤ 4097 → Stands r (n * m) → m ≡ 4097 → 4097 ≤ b → n ≡ a
    → Stands r (a * b)
second_big n m a b r l s e g o =
    subst (Stands r) (mul_comm b a)
    (first_big m n b a r l (subst (Stands r) (mul_comm n m) s) e g (λ z. omega arith)
    (λ z. omega arith))

pub stands_times : (n m r : ℕ) → r ≤ 4097 → Stands r (n * m) → (a b : ℕ) → Stands n a → Stands m b
    → Stands r (a * b)
stands_times n m r l s a b (inl e) (inl f) =
    subst (Stands r) (ap (λ k. k * m) e ∙ ap (λ k. a * k) f) s
stands_times n m r l s a b (inr w) (inl f) =
    first_big n m a b r l s w.0 w.1 (λ z. omega arith) (λ z. omega arith)
stands_times n m r l s a b (inl e) (inr w) = second_big n m a b r l s w.0 w.1 e
stands_times n m r l s a b (inr v) (inr w) =
    let i = w.1 in let j = w.0
    in first_big n m a b r l s v.0 v.1 (λ z. omega arith) (λ z. omega arith)

pub few_times : (n m : ℕ) → n ≤ 4097 → m ≤ 4097 → n * m ≤ 16785409
few_times n m l k = let a : n * m ≤ n * 4097 = mul-le-mul_left n k in omega arith

-- ---- one meet

alone : (a : Ty) → AllPairs (λ (x y : Ty). x ≢ y) (a ∷ [])
alone a = apart_cons a [] (λ z w. absurd (in_none z w)) (λ i j d l m. absurd (omega arith))

only_one : (P : Ty → Type 0) (a : Ty) → P a → ((m : Ty) → P m → m ≡ a) → HasAll P (a ∷ [])
only_one P a p q m = (
  λ w. elim (either a [] m w) as (λ _. P m) [ inl e ↦ subst P e p | inr v ↦ absurd (in_none m v) ],
  λ w. subst (Contains (a ∷ [])) (sym (q m w)) (here a []),
)

pub lesser_listed : (h : DeclaredTypes) → Sound h → (a b : Ty) → Below h a b
    → HasAll (Meet h a b) (a ∷ [])
lesser_listed h s a b w = only_one (Meet h a b) a (lesser w) (λ m v. of_lesser h s v w)

pub greater_listed : (h : DeclaredTypes) → Sound h → (a b : Ty) → Below h b a
    → HasAll (Meet h a b) (b ∷ [])
greater_listed h s a b w = only_one (Meet h a b) b (greater w) (λ m v. of_greater h s v w)

pub lesser_counted : (h : DeclaredTypes) → Sound h → (a b : Ty) → Below h a b → Counts h a b 1
lesser_counted h s a b w =
    record {
      list = a ∷ [];
      has = record { exactly = lesser_listed h s a b w; once = alone a };
      stands = inl refl;
    }

pub greater_counted : (h : DeclaredTypes) → Sound h → (a b : Ty) → Below h b a → Counts h a b 1
greater_counted h s a b w =
    record {
      list = b ∷ [];
      has = record { exactly = greater_listed h s a b w; once = alone b };
      stands = inl refl;
    }

-- ---- meets by the layers

out_named : (k : TypeId) → out-Ty (Named k) ≡ Ty-F.Named k
out_named k = ap out-Ty (sym (rolls-Named k)) ∙ out-roll-Ty (Ty-F.Named k)

out_tuple : (zs : List Ty) → out-Ty (Tuple zs) ≡ Ty-F.Tuple zs
out_tuple zs = ap out-Ty (sym (rolls-Tuple zs)) ∙ out-roll-Ty (Ty-F.Tuple zs)

named_apart : (i j : TypeId) → Named i ≡ Named j → i ≡ j
named_apart i j e =
    let f : Ty-F.Named i ≡ Ty-F.Named j = sym (out_named i) ∙ ap out-Ty e ∙ out_named j in cc

tuple_apart : (xs ys : List Ty) → Tuple xs ≡ Tuple ys → xs ≡ ys
tuple_apart xs ys e =
    let f : Ty-F.Tuple xs ≡ Ty-F.Tuple ys = sym (out_tuple xs) ∙ ap out-Ty e ∙ out_tuple ys in cc

named_listed : (h : DeclaredTypes) (i j : TypeId) (ids : List TypeId) → AreMeets h i.0 j.0 ids
    → HasAll (MeetLayer h (Ty-F.Named i) (Ty-F.Named j)) (map Named ids)
named_listed h i j ids a m = (
  λ w. let u = of_map Named ids m w
      in (u.0, ap out-Ty (sym u.2) ∙ out_named u.0, (a.exactly u.0).0 u.1),
  λ w. let e : Named w.0 ≡ m = same_layers (Named w.0) m (out_named w.0 ∙ sym w.1) in
      subst (Contains (map Named ids)) e (in_map Named ids w.0 ((a.exactly w.0).1 w.2)),
)

tuples_listed : (h : DeclaredTypes) (xs ys : List Ty) (rows : List (List Ty))
    → length xs ≡ length ys → HasAll (IsChoice h xs ys) rows
    → HasAll (MeetLayer h (Ty-F.Tuple xs) (Ty-F.Tuple ys)) (map Tuple rows)
tuples_listed h xs ys rows n a m = (
  λ w. let u = of_map Tuple rows m w
      in (u.0, ap out-Ty (sym u.2) ∙ out_tuple u.0, n, (a u.0).0 u.1),
  λ w. let e : Tuple w.0 ≡ m = same_layers (Tuple w.0) m (out_tuple w.0 ∙ sym w.1) in
      subst (Contains (map Tuple rows)) e (in_map Tuple rows w.0 ((a w.0).1 w.3)),
)

nothing_listed : (P : Ty → Type 0) → ((m : Ty) → P m → ⊥) → HasAll P []
nothing_listed P n m = (λ w. absurd (in_none m w), λ w. absurd (n m w))

listed_at : (h : DeclaredTypes) (x y : Ty-F Ty) (list : List Ty) → ListsLayer h x y list
    → HasAll (MeetLayer h x y) list
listed_at h (Ty-F.Named i) (Ty-F.Named j) list w =
    subst (HasAll (MeetLayer h (Ty-F.Named i) (Ty-F.Named j))) (sym w.2)
    (named_listed h i j w.0 w.1)
listed_at h (Ty-F.Tuple xs) (Ty-F.Tuple ys) list (inl w) =
    subst (HasAll (MeetLayer h (Ty-F.Tuple xs) (Ty-F.Tuple ys))) (sym w.1)
    (nothing_listed (MeetLayer h (Ty-F.Tuple xs) (Ty-F.Tuple ys)) (λ m v. w.0 v.2))
listed_at h (Ty-F.Tuple xs) (Ty-F.Tuple ys) list (inr w) =
    subst (HasAll (MeetLayer h (Ty-F.Tuple xs) (Ty-F.Tuple ys))) (sym w.3)
    (tuples_listed h xs ys w.1 w.0 w.2)
listed_at h x y list w =
    subst (HasAll (MeetLayer h x y)) (sym w) (nothing_listed (MeetLayer h x y) (λ m v. v))

through_all : (P Q : Ty → Type 0) (list : List Ty) → ((m : Ty) → P m ↔ Q m) → HasAll P list
    → HasAll Q list
through_all P Q list e a m = (λ w. (e m).0 ((a m).0 w), λ w. (a m).1 ((e m).1 w))

pub layer_listed : (h : DeclaredTypes) (a b : Ty) (list : List Ty) → (Below h a b → ⊥)
    → (Below h b a → ⊥) → ListsLayer h (out-Ty a) (out-Ty b) list → HasAll (Meet h a b) list
layer_listed h a b list s t w =
    through_all (MeetLayer h (out-Ty a) (out-Ty b)) (Meet h a b) list (by_layers h a b s t)
    (listed_at h (out-Ty a) (out-Ty b) list w)

-- ---- counts by the layers

record CountsAll (P : Ty → Type 0) (n : ℕ) : Type 0 where
  list : List Ty
  exactly : HasAll P list
  once : AllPairs (λ (x y : Ty). x ≢ y) list
  stands : Stands n (length list)

nothing_counted : (P : Ty → Type 0) (n : ℕ) → n ≡ 0 → ((m : Ty) → P m → ⊥) → CountsAll P n
nothing_counted P n e q =
    record {
      list = [];
      exactly = nothing_listed P q;
      once = λ i j d l m. absurd (omega arith);
      stands = inl e;
    }

rising_once : (ids : List TypeId) → AllPairs (λ (x y : TypeId). x.0 < y.0) ids
    → AllPairs (λ (x y : TypeId). x ≢ y) ids
rising_once ids r i j d l m e =
    let w = r i j d l m in let f = ap (λ (z : TypeId). z.0) e in omega arith

lists_once : (h : DeclaredTypes) (xs ys : List Ty) (lists : List (List Ty)) → length xs ≡ length ys
    → length lists ≡ length xs
    → ((k : ℕ) (x y : Ty) (list : List Ty) → slice_get xs k ≡ Some x → slice_get ys k ≡ Some y
    → slice_get lists k ≡ Some list → HasMeets h x y list)
    → (k : ℕ) (l : List Ty) → slice_get lists k ≡ Some l → AllPairs (λ (x y : Ty). x ≢ y) l
lists_once h xs ys lists n m e k l f =
    let x = partner_of lists xs k l f m in let y = partner_of xs ys k x.0 x.1 n
    in (e k x.0 y.0 l x.1 y.1 f).once
  where
    partner_of : {A : Type 0} (us : List A) (vs : List Ty) (k : ℕ) (u : A) → slice_get us k ≡ Some u
        → length us ≡ length vs → (v : Ty) × (slice_get vs k ≡ Some v)
    partner_of [] vs k u e n = absurd cc
    partner_of (u ∷ us) [] k w e n = absurd (omega arith)
    partner_of (u ∷ us) (v ∷ vs) zero w e n = (v, refl)
    partner_of (u ∷ us) (v ∷ vs) (suc k) w e n = partner_of us vs k w e (omega arith)

tuples_counted : (h : DeclaredTypes) (xs ys : List Ty) (n : ℕ) → length xs ≡ length ys
    → CountsTo h xs ys (length xs) n → CountsAll (MeetLayer h (Ty-F.Tuple xs) (Ty-F.Tuple ys)) n
tuples_counted h xs ys n e c = record {
  list = map Tuple (products c.lists);
  exactly =
      tuples_listed h xs ys (products c.lists) e
      (choices_listed h xs ys c.lists e
      (record {
        long = c.long;
        each_has = λ k x y l f g m. (c.each_has k x y l f g m).exactly;
      }));
  once = apart_map Tuple (products c.lists) tuple_apart
      (products_apart c.lists (lists_once h xs ys c.lists e c.long c.each_has));
  stands = subst (Stands n) (sym (length-map (products c.lists) Tuple ∙ long_products c.lists))
      c.stands;
}

counted_at : (h : DeclaredTypes) (x y : Ty-F Ty) (n : ℕ) → CountsLayer h x y n
    → CountsAll (MeetLayer h x y) n
counted_at h (Ty-F.Named i) (Ty-F.Named j) n w = record {
  list = map Named w.0;
  exactly = named_listed h i j w.0 w.1;
  once = apart_map Named w.0 named_apart (rising_once w.0 w.1.rising);
  stands = subst (Stands n) (sym (length-map w.0 Named)) w.2;
}
counted_at h (Ty-F.Tuple xs) (Ty-F.Tuple ys) n (inl w) =
    nothing_counted (MeetLayer h (Ty-F.Tuple xs) (Ty-F.Tuple ys)) n w.1 (λ m v. w.0 v.2)
counted_at h (Ty-F.Tuple xs) (Ty-F.Tuple ys) n (inr w) = tuples_counted h xs ys n w.0 w.1
counted_at h x y n w = nothing_counted (MeetLayer h x y) n w (λ m v. v)

pub layer_counted : (h : DeclaredTypes) (a b : Ty) (n : ℕ) → (Below h a b → ⊥) → (Below h b a → ⊥)
    → CountsLayer h (out-Ty a) (out-Ty b) n → Counts h a b n
layer_counted h a b n s t w = let c = counted_at h (out-Ty a) (out-Ty b) n w in
    record {
      list = c.list;
      has = record {
        exactly =
            through_all (MeetLayer h (out-Ty a) (out-Ty b)) (Meet h a b) c.list
            (by_layers h a b s t) c.exactly;
        once = c.once;
      };
      stands = c.stands;
    }

-- ---- place after place

pub choices_push : (ls : List (List Ty)) (l : List Ty)
    → choices_of (ls ++ l ∷ []) ≡ choices_of ls * length l
choices_push [] l = mul-one (length l) ∙ sym (one-mul (length l))
choices_push (x ∷ ls) l =
    ap (λ k. length x * k) (choices_push ls l)
    ∙ sym (mul_assoc (length x) (choices_of ls) (length l))

long_push : (ls : List (List Ty)) (l : List Ty) → length (ls ++ l ∷ []) ≡ length ls + 1
long_push [] l = refl
long_push (x ∷ ls) l = let e = long_push ls l in omega arith

got : (ls : List (List Ty)) (l : List Ty) (k : ℕ) (z : List Ty)
    → slice_get (ls ++ l ∷ []) k ≡ Some z → (slice_get ls k ≡ Some z) ⊎ ((k ≡ length ls) × (l ≡ z))
got [] l zero z e = inr (refl, cc)
got [] l (suc k) z e = absurd cc
got (x ∷ ls) l zero z e = inl e
got (x ∷ ls) l (suc k) z e =
    elim (got ls l k z e) as (λ _. (slice_get (x ∷ ls) (suc k) ≡ Some z)
    ⊎ ((suc k ≡ length (x ∷ ls)) × (l ≡ z))) [
      | inl f ↦ inl f
      | inr w ↦ inr (let q = w.0 in omega arith, w.1)
    ]

-- at each of the first places and the next one
next_place : (P : Ty → Ty → List Ty → Type 0) (xs ys : List Ty) (x y : Ty) (ls : List (List Ty))
    (l : List Ty) (i : ℕ) → length ls ≡ i → slice_get xs i ≡ Some x → slice_get ys i ≡ Some y
    → P x y l
    → ((k : ℕ) (u v : Ty) (z : List Ty) → slice_get xs k ≡ Some u → slice_get ys k ≡ Some v
    → slice_get ls k ≡ Some z → P u v z)
    → (k : ℕ) (u v : Ty) (z : List Ty) → slice_get xs k ≡ Some u → slice_get ys k ≡ Some v
    → slice_get (ls ++ l ∷ []) k ≡ Some z → P u v z
next_place P xs ys x y ls l i n e f p q k u v z a b c = elim (got ls l k z c) as (λ _. P u v z) [
  | inl d ↦ q k u v z a b d
  | inr w ↦
      (let m : k ≡ i = w.0 ∙ n in let g : slice_get xs k ≡ slice_get xs i = ap (slice_get xs) m
      in let o : slice_get ys k ≡ slice_get ys i = ap (slice_get ys) m in
      let r : x ≡ u = cc in let s : y ≡ v = cc
      in subst (λ (t : Ty). P t v z) r (subst (λ (t : Ty). P x t z) s (subst (P x y) w.1 p)))
]

-- a number stands for that of the choices so far, for each hierarchy whose rows these are
pub record CountsSoFar (table : TypeTable) (xs ys : List Ty) (to n : ℕ) : Type 0 where
  pub each : (h : DeclaredTypes) → Sound h → HasRows h table → CountsTo h xs ys to n

pub counted_none : (table : TypeTable) (xs ys : List Ty) → CountsSoFar table xs ys 0 1
counted_none table xs ys =
    record {
      each =
          λ h s t. record {
            lists = [];
            long = refl;
            each_has = λ k x y l e f g. absurd cc;
            stands = inl refl;
          };
    }

pub counted_more : (table : TypeTable) (xs ys : List Ty) (x y : Ty) (i n m r : ℕ)
    → slice_get xs i ≡ Some x → slice_get ys i ≡ Some y
    → ((h : DeclaredTypes) → Sound h → HasRows h table → Counts h x y m)
    → ((a b : ℕ) → Stands n a → Stands m b → Stands r (a * b))
    → CountsSoFar table xs ys i n → CountsSoFar table xs ys (i + 1) r
counted_more table xs ys x y i n m r e f c p a = record {
  each = λ h s t. let d = a.each h s t in let g = c h s t in record {
    lists = d.lists ++ g.list ∷ [];
    long = let k = long_push d.lists g.list in let l = d.long in omega arith;
    each_has = next_place (HasMeets h) xs ys x y d.lists g.list i d.long e f g.has d.each_has;
    stands = subst (Stands r) (sym (choices_push d.lists g.list))
        (p (choices_of d.lists) (length g.list) d.stands g.stands);
  };
}

pub counted_done : (table : TypeTable) (xs ys : List Ty) (i n : ℕ) → i ≡ length xs
    → CountsSoFar table xs ys i n → (h : DeclaredTypes) → Sound h → HasRows h table
    → CountsTo h xs ys (length xs) n
counted_done table xs ys i n e a h s t = subst (λ k. CountsTo h xs ys k n) e (a.each h s t)

-- the lists so far, for each hierarchy whose rows these are
pub record ListsSoFar (table : TypeTable) (xs ys : List Ty) (to : ℕ)
    (lists : List (List Ty)) : Type 0 where
  pub each : (h : DeclaredTypes) → Sound h → HasRows h table → HaveAll h xs ys lists to

pub listed_none : (table : TypeTable) (xs ys : List Ty) → ListsSoFar table xs ys 0 []
listed_none table xs ys =
    record { each = λ h s t. record { long = refl; each_has = λ k x y l e f g. absurd cc } }

pub listed_more : (table : TypeTable) (xs ys : List Ty) (x y : Ty) (i : ℕ)
    (lists new : List (List Ty)) (list : List Ty) → slice_get xs i ≡ Some x
    → slice_get ys i ≡ Some y
    → ((h : DeclaredTypes) → Sound h → HasRows h table → HasAll (Meet h x y) list)
    → new ≡ lists ++ list ∷ []
    → ListsSoFar table xs ys i lists → ListsSoFar table xs ys (i + 1) new
listed_more table xs ys x y i lists new list e f c q a =
    subst (ListsSoFar table xs ys (i + 1)) (sym q) (record {
      each = λ h s t. let d = a.each h s t in record {
        long = let k = long_push lists list in let l = d.long in omega arith;
        each_has =
            next_place (λ u v z. HasAll (Meet h u v) z) xs ys x y lists list i d.long e f (c h s t)
            d.each_has;
      };
    })

pub listed_done : (table : TypeTable) (xs ys : List Ty) (i : ℕ) (lists : List (List Ty))
    → i ≡ length xs → ListsSoFar table xs ys i lists
    → (h : DeclaredTypes) → Sound h → HasRows h table → HaveAll h xs ys lists (length xs)
listed_done table xs ys i lists e a h s t = subst (HaveAll h xs ys lists) e (a.each h s t)

-- ---- what a count says

has_empty : (ls : List (List Ty)) → choices_of ls ≡ 0 → (k : ℕ) × (slice_get ls k ≡ Some [])
has_empty [] e = absurd (omega arith)
has_empty ([] ∷ ls) e = (0, refl)
has_empty ((z ∷ l) ∷ ls) e =
    let a : choices_of ls ≤ length (z ∷ l) * choices_of ls =
    grows_left (length (z ∷ l)) (choices_of ls) (omega arith) in
    let w = has_empty ls (omega arith) in (suc w.0, w.1)

empty_none : (ls : List (List Ty)) (k : ℕ) → slice_get ls k ≡ Some [] → choices_of ls ≡ 0
empty_none [] k e = absurd cc
empty_none (l ∷ ls) zero e =
    let f : l ≡ [] = cc
    in ap (λ (z : List Ty). length z * choices_of ls) f ∙ zero-mul (choices_of ls)
empty_none (l ∷ ls) (suc k) e = ap (λ n. length l * n) (empty_none ls k e) ∙ mul-zero (length l)

stands_nought : (n all : ℕ) → Stands n all → (n ≡ 0) ↔ (all ≡ 0)
stands_nought n all (inl e) = (λ f. omega arith, λ f. omega arith)
stands_nought n all (inr w) =
    let a = w.0 in let b = w.1 in (λ f. absurd (omega arith), λ f. absurd (omega arith))

at_place : {A B : Type 0} (us : List A) (vs : List B) (k : ℕ) (u : A) → slice_get us k ≡ Some u
    → length us ≡ length vs → (v : B) × (slice_get vs k ≡ Some v)
at_place [] vs k u e n = absurd cc
at_place (u ∷ us) [] k w e n = absurd (omega arith)
at_place (u ∷ us) (v ∷ vs) zero w e n = (v, refl)
at_place (u ∷ us) (v ∷ vs) (suc k) w e n = at_place us vs k w e (omega arith)

no_element : (l : List Ty) → ((m : Ty) → Contains l m → ⊥) → l ≡ []
no_element [] n = refl
no_element (x ∷ l) n = absurd (n x (here x l))

module _ (h : DeclaredTypes) (xs ys : List Ty) (n : ℕ) (alike : length xs ≡ length ys)
    (c : CountsTo h xs ys (length xs) n) where
  pub none_somewhere : n ≡ 0 → Somewhere (HasNone h) xs ys
  none_somewhere e =
      let w = has_empty c.lists ((stands_nought n (choices_of c.lists) c.stands).0 e) in
      let x = at_place c.lists xs w.0 [] w.1 c.long in let y = at_place xs ys w.0 x.0 x.1 alike in (
        w.0,
        x.0,
        y.0,
        x.1,
        y.1,
        λ m v. in_none m (((c.each_has w.0 x.0 y.0 [] x.1 y.1 w.1).exactly m).1 v),
      )

  pub each_somewhere : (n ≡ 0 → ⊥) → Somewhere (HasNone h) xs ys → ⊥
  each_somewhere q w = let l = at_place xs c.lists w.0 w.1 w.3 (sym c.long) in
      let e : l.0 ≡ [] =
      no_element l.0 (λ m v. w.5 m (((c.each_has w.0 w.1 w.2 l.0 w.3 w.4 l.1).exactly m).0 v))
      in
      q ((stands_nought n (choices_of c.lists) c.stands).1
      (empty_none c.lists w.0 (l.1 ∙ ap (λ (z : List Ty). Some z) e)))

  pub too_many : 4096 < n → AreTooMany h xs ys
  too_many l = (
    c.lists,
    record { long = c.long; each_has = c.each_has },
    above n (choices_of c.lists) l c.stands,
  )
    where
      above : (n all : ℕ) → 4096 < n → Stands n all → 4096 < all
      above n all l (inl e) = omega arith
      above n all l (inr w) = let b = w.1 in omega arith

  pub not_too_many : (4096 < n → ⊥) → AreTooMany h xs ys → ⊥
  not_too_many q w =
      let e = same_count h xs ys c.lists w.0 alike c.long w.1.long c.each_has w.1.each_has in
      q (below n (choices_of c.lists) (choices_of w.0) e w.2 c.stands)
    where
      below : (n all other : ℕ) → all ≡ other → 4096 < other → Stands n all → 4096 < n
      below n all other e l (inl f) = omega arith
      below n all other e l (inr v) = let a = v.0 in omega arith
