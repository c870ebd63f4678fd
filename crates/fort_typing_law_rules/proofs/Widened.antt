-- Widening, position by position, as it is computed.
use Rattle.std.proofs.Common.{◌≡◌, ◌↔◌, ◌⊎◌, inl, inr, ℕ, zero, suc, nat_eq, Bool, true, false, cond, not, ◌&&◌, ◌||◌, IsTrue, List, [], ◌∷◌, length, Some, refl, ap, ◌∙◌, sym, subst, arith}
use Rattle.std.specs.Prelude.{get_or}
use Rattle.std.specs.List.{slice_get}
use Rattle.std.proofs.lemmas.Bool.{eq-eqb, eqb-true}
use Rattle.fort_base.specs.declared.ids.TypeId.{TypeId}
use Rattle.fort_base.specs.declared.ty.Ty.{Ty, out-Ty}
use Rattle.fort_base.specs.declared.ty.Ty.TheOpen.{Ty-F}
use Rattle.fort_types.proofs.ByParts.{same_layers}
use Rattle.fort_types_sets.specs.Applicable.{Along}
use Rattle.fort_typing_rules.specs.Widening.{IsWidened, Suits, WidenedAmong, AllKept, StandsFor, AllWidened}
use Rattle.fort_typing_known.specs.Known.{Knows}
use Rattle.fort_typing_known.specs.Below.{is_below}
use Rattle.fort_typing_call.specs.Fitting.{is_widened_at, is_widened, all_suit, contained, positions, widened_types}
use Rattle.fort_types_builtin.specs.declared.types.TheConstants.{ZZ32, ZZ64}
use Rattle.fort_typing_rules.specs.Types.{zz64}
use Rattle.fort_typing_rules.specs.Calls.{to_zz64}
use Rattle.fort_typing_law_rules.specs.Deciding.{IsType, AreTypes, IsAccepted}
use Rattle.fort_typing_law_rules.proofs.Types.{below_is, built_in_type, out_named}

-- ---- truths

and_is : (a b : Bool) → IsTrue (a && b) ↔ (IsTrue a × IsTrue b)
and_is true b = (λ t. (refl, t), λ w. w.1)
and_is false b = (λ t. absurd (let f : false ≡ true = t in cc), λ w. w.0)

or_is : (a b : Bool) → IsTrue (a || b) ↔ (IsTrue a ⊎ IsTrue b)
or_is true b = (λ t. inl refl, λ w. refl)
or_is false b = (λ t. inr t, λ w. right w)
  where
    right : (IsTrue false ⊎ IsTrue b) → IsTrue b
    right (inl f) = absurd (let g : false ≡ true = f in cc)
    right (inr t) = t

number_is : (m n : ℕ) → IsTrue (nat_eq m n) ↔ (m ≡ n)
number_is m n = (λ t. eqb-true m n t, λ e. eq-eqb m n e)

same_truth : (a b : Bool) → IsTrue a ↔ IsTrue b → a ≡ b
same_truth true b w = sym (w.0 refl)
same_truth false true w = w.1 refl
same_truth false false w = refl

-- ---- one position

id_is : (i : TypeId) (n : ℕ) → i.0 ≡ n → i ≡ record { 0 = n }
id_is i n e = ap (λ (m : ℕ). let t : TypeId = record { 0 = m } in t) e

widened_at : (a b : Ty-F Ty) → IsTrue (is_widened_at a b)
    ↔ ((a ≡ Ty-F.Named ZZ32) × (b ≡ Ty-F.Named ZZ64))
widened_at (Ty-F.Named i) (Ty-F.Named j) = (
  λ t. let p = (and_is (nat_eq i.0 2) (nat_eq j.0 3)).0 t
      in (
        ap (λ (x : TypeId). Ty-F.Named x) (id_is i 2 ((number_is i.0 2).0 p.0)),
        ap (λ
            (x : TypeId). Ty-F.Named x) (id_is j 3 ((number_is j.0 3).0 p.1)),
      ),
  λ w. (and_is (nat_eq i.0 2) (nat_eq j.0 3)).1 (
    (number_is i.0 2).1 (let e : i ≡ ZZ32 = (let q = w.0 in cc) in ap (λ (x : TypeId). x.0) e),
    (number_is j.0 3).1 (let e : j ≡ ZZ64 = (let q = w.1 in cc) in ap (λ (x : TypeId). x.0) e),
  ),
)
widened_at (Ty-F.Named i) Ty-F.Nothing =
    (λ t. absurd (let f : false ≡ true = t in cc), λ w. absurd (let q = w.1 in cc))
widened_at (Ty-F.Named i) Ty-F.Any =
    (λ t. absurd (let f : false ≡ true = t in cc), λ w. absurd (let q = w.1 in cc))
widened_at (Ty-F.Named i) (Ty-F.Tuple ts) =
    (λ t. absurd (let f : false ≡ true = t in cc), λ w. absurd (let q = w.1 in cc))
widened_at (Ty-F.Named i) (Ty-F.Arrow p q) =
    (λ t. absurd (let f : false ≡ true = t in cc), λ w. absurd (let q = w.1 in cc))
widened_at (Ty-F.Named i) (Ty-F.Array e) =
    (λ t. absurd (let f : false ≡ true = t in cc), λ w. absurd (let q = w.1 in cc))
widened_at Ty-F.Nothing b =
    (λ t. absurd (let f : false ≡ true = t in cc), λ w. absurd (let q = w.0 in cc))
widened_at Ty-F.Any b =
    (λ t. absurd (let f : false ≡ true = t in cc), λ w. absurd (let q = w.0 in cc))
widened_at (Ty-F.Tuple ts) b =
    (λ t. absurd (let f : false ≡ true = t in cc), λ w. absurd (let q = w.0 in cc))
widened_at (Ty-F.Arrow p q) b =
    (λ t. absurd (let f : false ≡ true = t in cc), λ w. absurd (let q = w.0 in cc))
widened_at (Ty-F.Array e) b =
    (λ t. absurd (let f : false ≡ true = t in cc), λ w. absurd (let q = w.0 in cc))

pub widened_is : (x p : Ty) → IsTrue (is_widened x p) ↔ IsWidened to_zz64 x p
unfolding is_widened
widened_is x p = widened_at (out-Ty x) (out-Ty p)

-- positions of one declaration's parameters
abbrev pub Among : List Ty → List Ty → ℕ → Type 0
Among parameters types n = WidenedAmong to_zz64 parameters types n

none_among : (types : List Ty) (n : ℕ) → Among [] types n → ⊥
none_among types n m = let e = m.3 in cc

none_of : (parameters : List Ty) (n : ℕ) → Among parameters [] n → ⊥
none_of parameters n m = let e = m.2 in cc

head_among : (x p : Ty) (xs ps : List Ty) → Among (p ∷ ps) (x ∷ xs) 0 → IsTrue (is_widened x p)
head_among x p xs ps (y, q, e, f, w) = let s : x ≡ y = cc in let r : p ≡ q = cc in
    (widened_is x p).1
    (subst (λ z. IsWidened to_zz64 z p) (sym s) (subst (IsWidened to_zz64 y) (sym r) w))

among_head : (x p : Ty) (xs ps : List Ty) → IsTrue (is_widened x p) → Among (p ∷ ps) (x ∷ xs) 0
among_head x p xs ps t = (x, p, refl, refl, (widened_is x p).0 t)

-- ---- positions contained in others

not_true : (b : Bool) → (b ≡ true → ⊥) → b ≡ false
not_true true n = absurd (n refl)
not_true false n = refl

unset : (c r : Bool) → IsTrue (cond c false r) ↔ ((c ≡ false) × IsTrue r)
unset true r = (λ t. absurd (let f : false ≡ true = t in cc), λ w. absurd (let f = w.0 in cc))
unset false r = (λ t. (refl, t), λ w. w.1)

only_if : (a b : Bool) → (a && not b ≡ false) → a ≡ true → b ≡ true
only_if true true e f = refl
only_if true false e f = absurd cc
only_if false b e f = absurd cc

as_well : (a b : Bool) → (a ≡ true → b ≡ true) → a && not b ≡ false
as_well true b f = ap not (f refl)
as_well false b f = refl

pub contained_is : (xs ps qs : List Ty) → IsTrue (contained xs ps qs) ↔ AllKept to_zz64 xs ps qs
contained_is [] ps qs = (λ t j m. absurd (none_of ps j m), λ a. refl)
contained_is (x ∷ xs) [] qs = (λ t j m. absurd (none_among (x ∷ xs) j m), λ a. refl)
contained_is (x ∷ xs) (p ∷ ps) [] =
    let more = contained_is xs ps [] in
    let two = unset (is_widened x p) (contained xs ps []) in (
      λ t. let w = two.0 t in keep w.0 (more.0 w.1),
      λ a. two.1 (
        not_true (is_widened x p) (λ t. none_among (x ∷ xs) 0 (a 0 (among_head x p xs ps t))),
        more.1 (λ j m. absurd (none_among (x ∷ xs) (suc j) (a (suc j) m))),
      ),
    )
  where
    keep : is_widened x p ≡ false → AllKept to_zz64 xs ps [] → AllKept to_zz64 (x ∷ xs) (p ∷ ps) []
    keep f m zero a = absurd
        (let t : is_widened x p ≡ true = head_among x p xs ps a in let g : true ≡ false = sym t ∙ f
        in cc)
    keep f m (suc j) a = absurd (none_among xs j (m j a))
contained_is (x ∷ xs) (p ∷ ps) (q ∷ qs) =
    let more = contained_is xs ps qs in
    let two = unset (is_widened x p && not (is_widened x q)) (contained xs ps qs) in (
      λ t. let w = two.0 t in keep w.0 (more.0 w.1),
      λ a. two.1 (
        as_well (is_widened x p) (is_widened x q)
            (λ t. head_among x q xs qs (a 0 (among_head x p xs ps t))),
        more.1 (λ j m. a (suc j) m),
      ),
    )
  where
    keep : is_widened x p && not (is_widened x q) ≡ false → AllKept to_zz64 xs ps qs
        → AllKept to_zz64 (x ∷ xs) (p ∷ ps) (q ∷ qs)
    keep f m zero a =
        among_head x q xs qs (only_if (is_widened x p) (is_widened x q) f (head_among x p xs ps a))
    keep f m (suc j) a = m j a

-- ---- the positions that are widened

pub positions_long : (xs ps : List Ty) → length (positions xs ps) ≡ length xs
positions_long [] ps = refl
positions_long (x ∷ xs) [] = ap suc (positions_long xs [])
positions_long (x ∷ xs) (p ∷ ps) = ap suc (positions_long xs ps)

pub positions_are : (xs ps : List Ty) (n : ℕ) → IsTrue (get_or (positions xs ps) n false)
    ↔ Among ps xs n
positions_are [] ps n = (λ t. absurd (let f : false ≡ true = t in cc), λ m. absurd (none_of ps n m))
positions_are (x ∷ xs) [] zero =
    (λ t. absurd (let f : false ≡ true = t in cc), λ m. absurd (none_among (x ∷ xs) 0 m))
positions_are (x ∷ xs) [] (suc n) = (
  λ t. absurd (none_among xs n ((positions_are xs [] n).0 t)),
  λ m. absurd (none_among (x ∷ xs) (suc n) m),
)
positions_are (x ∷ xs) (p ∷ ps) zero = (λ t. among_head x p xs ps t, λ m. head_among x p xs ps m)
positions_are (x ∷ xs) (p ∷ ps) (suc n) = positions_are xs ps n

pub positions_once : (xs ps : List Ty) (ws : List Bool) → length ws ≡ length xs
    → ((n : ℕ) → IsTrue (get_or ws n false) ↔ Among ps xs n) → ws ≡ positions xs ps
positions_once [] ps [] l w = refl
positions_once [] ps (b ∷ ws) l w = absurd (omega arith)
positions_once (x ∷ xs) ps [] l w = absurd (omega arith)
positions_once (x ∷ xs) [] (b ∷ ws) l w =
    let first : b ≡ false = not_true b (λ t. none_among (x ∷ xs) 0 ((w 0).0 t)) in
    let rest : ws ≡ positions xs [] =
    positions_once xs [] ws (omega arith)
    (λ n. (
      λ t. absurd (none_among (x ∷ xs) (suc n) ((w (suc n)).0 t)),
      λ m. absurd (none_among xs n m),
    )) in
    ap (λ c. c ∷ ws) first ∙ ap (λ cs. false ∷ cs) rest
positions_once (x ∷ xs) (p ∷ ps) (b ∷ ws) l w =
    let first : b ≡ is_widened x p =
    same_truth b (is_widened x p) (
      λ t. head_among x p xs ps ((w 0).0 t),
      λ t. (w 0).1 (among_head x p xs ps t),
    ) in
    let rest : ws ≡ positions xs ps = positions_once xs ps ws (omega arith) (λ n. w (suc n)) in
    ap (λ c. c ∷ ws) first ∙ ap (λ cs. is_widened x p ∷ cs) rest

-- ---- the types of a call that is widened

pub wide_long : (xs ps : List Ty) → length (widened_types xs ps) ≡ length xs
wide_long [] ps = refl
wide_long (x ∷ xs) [] = ap suc (wide_long xs [])
wide_long (x ∷ xs) (p ∷ ps) = ap suc (wide_long xs ps)

stands_one : (x p : Ty) (xs ps : List Ty) (t : Ty) (c : Bool) → is_widened x p ≡ c
    → cond c zz64 x ≡ t → StandsFor to_zz64 (p ∷ ps) (x ∷ xs) 0 t
stands_one x p xs ps t true e is =
    (λ m. ap out-Ty (sym is) ∙ out_named ZZ64, λ n. absurd (n (among_head x p xs ps e)))
stands_one x p xs ps t false e is = (
  λ m. absurd
      (let f : is_widened x p ≡ true = head_among x p xs ps m in let g : true ≡ false = sym f ∙ e
      in cc),
  λ n. ap (λ (y : Ty). Some y) is,
)

pub wide_each : (xs ps : List Ty) (n : ℕ) (t : Ty) → slice_get (widened_types xs ps) n ≡ Some t
    → StandsFor to_zz64 ps xs n t
wide_each [] ps n t e = absurd cc
wide_each (x ∷ xs) [] zero t e = (λ m. absurd (none_among (x ∷ xs) 0 m), λ n. e)
wide_each (x ∷ xs) [] (suc n) t e = (
  λ m. absurd (none_among (x ∷ xs) (suc n) m),
  λ f. (wide_each xs [] n t e).1 (λ m. none_among xs n m),
)
wide_each (x ∷ xs) (p ∷ ps) zero t e = stands_one x p xs ps t (is_widened x p) refl cc
wide_each (x ∷ xs) (p ∷ ps) (suc n) t e = wide_each xs ps n t e

pub are_wide : (xs ps : List Ty) → AllWidened to_zz64 ps xs (widened_types xs ps)
are_wide xs ps = record { long = wide_long xs ps; each = wide_each xs ps }

wide_one : (x p y : Ty) (xs ps : List Ty) (c : Bool) → is_widened x p ≡ c
    → StandsFor to_zz64 (p ∷ ps) (x ∷ xs) 0 y → y ≡ cond c zz64 x
wide_one x p y xs ps true e s =
    same_layers y zz64 (s.0 (among_head x p xs ps e) ∙ sym (out_named ZZ64))
wide_one x p y xs ps false e s =
    let f : Some x ≡ Some y =
    s.1 (λ m. let t : is_widened x p ≡ true = head_among x p xs ps m
    in let g : true ≡ false = sym t ∙ e in cc) in cc

pub wide_once : (xs ps list : List Ty) → length list ≡ length xs
    → ((n : ℕ) (t : Ty) → slice_get list n ≡ Some t → StandsFor to_zz64 ps xs n t)
    → list ≡ widened_types xs ps
wide_once [] ps [] l w = refl
wide_once [] ps (y ∷ ys) l w = absurd (omega arith)
wide_once (x ∷ xs) ps [] l w = absurd (omega arith)
wide_once (x ∷ xs) [] (y ∷ ys) l w =
    let first : Some x ≡ Some y = (w 0 y refl).1 (λ m. none_among (x ∷ xs) 0 m) in
    let same : y ≡ x = cc in
    let rest : ys ≡ widened_types xs [] =
    wide_once xs [] ys (omega arith)
    (λ n t e. (
      λ m. absurd (none_among xs n m),
      λ f. (w (suc n) t e).1 (λ m. none_among (x ∷ xs) (suc n) m),
    )) in
    ap (λ z. z ∷ ys) same ∙ ap (λ zs. x ∷ zs) rest
wide_once (x ∷ xs) (p ∷ ps) (y ∷ ys) l w =
    let first : y ≡ cond (is_widened x p) zz64 x =
    wide_one x p y xs ps (is_widened x p) refl (w 0 y refl) in
    let rest : ys ≡ widened_types xs ps = wide_once xs ps ys (omega arith) (λ n t e. w (suc n) t e)
    in
    ap (λ z. z ∷ ys) first ∙ ap (λ zs. cond (is_widened x p) zz64 x ∷ zs) rest

-- ---- with below

module _ (k : Knows) (A : IsAccepted k) where
  wide_type : (c : Bool) (x : Ty) → IsType k x → IsType k (cond c zz64 x)
  wide_type true x h = built_in_type k A 3 (omega arith)
  wide_type false x h = h

  pub wide_types : (xs ps : List Ty) → AreTypes k xs → AreTypes k (widened_types xs ps)
  wide_types [] ps h = tt
  wide_types (x ∷ xs) [] h = (h.0, wide_types xs [] h.1)
  wide_types (x ∷ xs) (p ∷ ps) h = (wide_type (is_widened x p) x h.0, wide_types xs ps h.1)

  suits_is : (x p : Ty) → IsType k x → IsType k p → IsTrue (is_below k.facts x p || is_widened x p)
      ↔ Suits k.declared to_zz64 x p
  suits_is x p h i = (
    λ t. there ((or_is (is_below k.facts x p) (is_widened x p)).0 t),
    λ s. (or_is (is_below k.facts x p) (is_widened x p)).1 (back s),
  )
    where
      there : (IsTrue (is_below k.facts x p) ⊎ IsTrue (is_widened x p))
          → Suits k.declared to_zz64 x p
      there (inl t) = inl ((below_is k A x p h i).0 t)
      there (inr t) = inr ((widened_is x p).0 t)

      back : Suits k.declared to_zz64 x p → IsTrue (is_below k.facts x p) ⊎ IsTrue (is_widened x p)
      back (inl b) = inl ((below_is k A x p h i).1 b)
      back (inr w) = inr ((widened_is x p).1 w)

  both_are : (c d : Bool) → IsTrue (cond c d false) ↔ (IsTrue c × IsTrue d)
  both_are true d = (λ t. (refl, t), λ w. w.1)
  both_are false d = (λ t. absurd (let f : false ≡ true = t in cc), λ w. w.0)

  pub suit_is : (xs ps : List Ty) → AreTypes k xs → AreTypes k ps → IsTrue (all_suit k.facts xs ps)
      ↔ Along (Suits k.declared to_zz64) xs ps
  suit_is [] [] h i = (λ t. (refl, λ n x y e. absurd cc), λ u. refl)
  suit_is [] (p ∷ ps) h i =
      (λ t. absurd (let f : false ≡ true = t in cc), λ u. absurd (let n = u.0 in omega arith))
  suit_is (x ∷ xs) [] h i =
      (λ t. absurd (let f : false ≡ true = t in cc), λ u. absurd (let n = u.0 in omega arith))
  suit_is (x ∷ xs) (p ∷ ps) h i =
      let one = suits_is x p h.0 i.0 in
      let more = suit_is xs ps h.1 i.1 in
      let two = both_are (is_below k.facts x p || is_widened x p) (all_suit k.facts xs ps) in (
        λ t. let w = two.0 t in let m = more.0 w.1
            in (let n = m.0 in omega arith, places (one.0 w.0) m.1),
        λ u. two.1 (
          one.1 (u.1 0 x p refl refl),
          more.1 (let n = u.0 in omega arith, λ j a b c d. u.1 (suc j) a b c d),
        ),
      )
    where
      places : Suits k.declared to_zz64 x p
          → ((n : ℕ) (a b : Ty) → slice_get xs n ≡ Some a → slice_get ps n ≡ Some b
          → Suits k.declared to_zz64 a b)
          → (n : ℕ) (a b : Ty) → slice_get (x ∷ xs) n ≡ Some a → slice_get (p ∷ ps) n ≡ Some b
          → Suits k.declared to_zz64 a b
      places r m zero a b e f =
          let s : x ≡ a = cc in let q : p ≡ b = cc
          in subst (λ z. Suits k.declared to_zz64 z b) s (subst (Suits k.declared to_zz64 x) q r)
      places r m (suc n) a b e f = m n a b e f
