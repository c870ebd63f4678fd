-- Where rows of below are at hand, what is asked of below is so or isn't so.
use Rattle.std.proofs.Common.{◌≡◌, ◌≢◌, ◌<◌, ◌⊎◌, inl, inr, ℕ, zero, suc, Bool, true, false, IsTrue, List, [], ◌∷◌, ◌↔◌, length, Some, refl, sym, ap, ◌∙◌, subst, arith}
use Rattle.std.specs.List.{slice_get, slice_set}
use Rattle.std.proofs.lemmas.Option.{slice_get_within}
use Rattle.fort_base.specs.declared.ids.TypeId.{TypeId}
use Rattle.fort_base.specs.declared.table.TypeTable.{TypeTable}
use Rattle.fort_base.specs.declared.ty.Ty.{Ty, out-Ty, out-roll-Ty}
use Rattle.fort_base.specs.declared.ty.Ty.TheOpen.{Ty-F}
use Rattle.fort_base.specs.declared.ty.Ty.TheVariants as a_type
use Rattle.fort_base.specs.declared.ty.Ty.TheVariants.{rolls-Named}
use Rattle.fort_types.specs.Hierarchy.{DeclaredTypes, Sound}
use Rattle.fort_types.specs.Laws.{RelationIsBelow}
use Rattle.fort_types.specs.Relation.{relation}
use Rattle.fort_types.specs.Table.{HasRows}
use Rattle.fort_types.specs.Types.{Below, shape_of, IsNumbered, no_name, name, in_parts, in_sides, in_element}
use Rattle.fort_types_sets.specs.declared.member.Member.{Member}
use Rattle.fort_types_sets.specs.declared.member.MemberKind.{MemberKind}
use Rattle.fort_types_sets.specs.declared.member.MemberKind.TheVariants as a_kind
use Rattle.fort_types_sets.specs.declared.member.MemberSet.{MemberSet}
use Rattle.fort_types_sets.specs.Applicable.{Along}
use Rattle.fort_types_sets.specs.Coverage.{IsObjectBelow, IsCovered}
use Rattle.fort_types_sets.specs.Meets.{Meet, lesser, greater, highest, each, IsChoice}
use Rattle.fort_types_sets.specs.Pairs.{AreCovered}
use Rattle.fort_types_sets.specs.Rules.{StandsAt, IsWellMade}
use Rattle.fort_front_law_decided.proofs.Items.{item_at}

-- A claim holds or doesn't.
abbrev pub Decided : Type 0 → Type 0
Decided P = P ⊎ (P → ⊥)

both_or : (P Q : Type 0) → Decided P → Decided Q → Decided (P × Q)
both_or P Q (inl p) (inl q) = inl (p, q)
both_or P Q (inl p) (inr n) = inr (λ w. n w.1)
both_or P Q (inr n) d = inr (λ w. n w.0)

decided_as : (P Q : Type 0) → (P → Q) → (Q → P) → Decided P → Decided Q
decided_as P Q f g (inl p) = inl (f p)
decided_as P Q f g (inr n) = inr (λ q. n (g q))

-- ---- some item of a list

abbrev SomeOf : {X : Type 0} → (X → Type 0) → List X → Type 0
SomeOf {X} P xs = (k : ℕ) × (x : X) × (slice_get xs k ≡ Some x) × P x

none_of : {X : Type 0} (P : X → Type 0) → SomeOf P [] → ⊥
none_of P w = let e = w.2 in absurd cc

not_some : {X : Type 0} (P : X → Type 0) (x : X) (xs : List X) → (P x → ⊥) → (SomeOf P xs → ⊥)
    → (k : ℕ) (y : X) → slice_get (x ∷ xs) k ≡ Some y → P y → ⊥
not_some P x xs n m zero y e p = let q : x ≡ y = cc in n (subst P (sym q) p)
not_some P x xs n m (suc k) y e p = m (k, y, e, p)

some_step : {X : Type 0} (P : X → Type 0) (x : X) (xs : List X) → Decided (P x)
    → Decided (SomeOf P xs) → Decided (SomeOf P (x ∷ xs))
some_step P x xs (inl p) d = inl (0, x, refl, p)
some_step P x xs (inr n) (inl w) = inl (suc w.0, w.1, w.2, w.3)
some_step P x xs (inr n) (inr m) = inr (λ w. not_some P x xs n m w.0 w.1 w.2 w.3)

some_or : {X : Type 0} (P : X → Type 0) (xs : List X)
    → ((k : ℕ) (x : X) → slice_get xs k ≡ Some x → Decided (P x)) → Decided (SomeOf P xs)
some_or P [] d = inr (none_of P)
some_or P (x ∷ xs) d = some_step P x xs (d 0 x refl) (some_or P xs (λ k. d (suc k)))

-- ---- types

out_named : (o : TypeId) → out-Ty (a_type.Named o) ≡ Ty-F.Named o
out_named o = ap out-Ty (sym (rolls-Named o)) ∙ out-roll-Ty (Ty-F.Named o)

-- The types of a list are numbered.
abbrev pub AreNumbered : ℕ → List Ty → Type 0
AreNumbered n types = (k : ℕ) (x : Ty) → slice_get types k ≡ Some x → IsNumbered n x

-- the parts of a numbered tuple are
parts_of : (n : ℕ) {t : Ty} {xs : List Ty} → IsNumbered n t → out-Ty t ≡ Ty-F.Tuple xs
    → AreNumbered n xs
parts_of n {t} {xs} (no_name a b c d) e = absurd (b (ap shape_of e))
parts_of n {t} {xs} (name f l) e = absurd cc
parts_of n {t} {xs} (in_parts {xs = ys} f each_) e =
    let q : ys ≡ xs = cc in subst (AreNumbered n) q each_
parts_of n {t} {xs} (in_sides f p q) e = absurd cc
parts_of n {t} {xs} (in_element f p) e = absurd cc

meet_numbered : (h : DeclaredTypes) {a b m : Ty} → Meet h a b m → IsNumbered (length h) a
    → IsNumbered (length h) b → IsNumbered (length h) m
meet_numbered h (lesser l) p q = p
meet_numbered h (greater l) p q = q
meet_numbered h (highest e f g w) p q = name g w.common.0
meet_numbered h (each {xs = xs} {ys = ys} e f g l o w) p q =
    in_parts g (λ k z i. let m = slice_get_within _ k z i in
    let x = item_at xs k (omega arith) in let y = item_at ys k (omega arith) in
    meet_numbered h (w k x.0 y.0 z x.1 y.1 i) (parts_of (length h) p e k x.0 x.1)
    (parts_of (length h) q f k y.0 y.1))

module _ (asked : RelationIsBelow) (h : DeclaredTypes) (table : TypeTable) (sound : Sound h)
    (rows : HasRows h table) where
  by_truth : (P : Type 0) (b : Bool) → IsTrue b ↔ P → Decided P
  by_truth P true w = inl (w.0 refl)
  by_truth P false w = inr (λ p. let e : false ≡ true = w.1 p in absurd cc)

  pub below_or : (a b : Ty) → IsNumbered (length h) a → IsNumbered (length h) b
      → Decided (Below h a b)
  below_or a b p q =
      by_truth (Below h a b) (relation table.below a true b) (asked h table sound rows a b p q).0

  along_step : (x y : Ty) (xs ys : List Ty) → Decided (Below h x y)
      → Decided (Along (Below h) xs ys) → Decided (Along (Below h) (x ∷ xs) (y ∷ ys))
  along_step x y xs ys (inl p) (inl w) = inl ((let e = w.0 in omega arith), at)
    where
      at : (k : ℕ) (a b : Ty) → slice_get (x ∷ xs) k ≡ Some a → slice_get (y ∷ ys) k ≡ Some b
          → Below h a b
      at zero a b e f = let q : x ≡ a = cc in let r : y ≡ b = cc in
          subst (λ z. Below h z b) q (subst (Below h x) r p)
      at (suc k) a b e f = w.1 k a b e f
  along_step x y xs ys (inl p) (inr n) =
      inr (λ w. n ((let e = w.0 in omega arith), λ k. w.1 (suc k)))
  along_step x y xs ys (inr n) d = inr (λ w. n (w.1 0 x y refl refl))

  pub along_or : (xs ys : List Ty) → AreNumbered (length h) xs → AreNumbered (length h) ys
      → Decided (Along (Below h) xs ys)
  along_or [] [] p q = inl (refl, λ k x y e f. absurd cc)
  along_or [] (y ∷ ys) p q = inr (λ w. let e = w.0 in omega arith)
  along_or (x ∷ xs) [] p q = inr (λ w. let e = w.0 in omega arith)
  along_or (x ∷ xs) (y ∷ ys) p q =
      along_step x y xs ys (below_or x y (p 0 x refl) (q 0 y refl))
      (along_or xs ys (λ k. p (suc k)) (λ k. q (suc k)))

  -- ---- declarations of a set

  module _ (s : MemberSet) (made : IsWellMade h s) where
    parameters_of : (i : ℕ) (d : Member) → StandsAt s i d → AreNumbered (length h) d.parameters
    parameters_of i d st k x e = made.parameters i k d x st e

    pub specific_or : (i j : ℕ) (p q : Member) → StandsAt s i p → StandsAt s j q
        → Decided (Along (Below h) p.parameters q.parameters)
    specific_or i j p q st su =
        along_or p.parameters q.parameters (parameters_of i p st) (parameters_of j q su)

    pub result_or : (i j : ℕ) (p q : Member) → StandsAt s i p → StandsAt s j q
        → Decided (Below h p.result q.result)
    result_or i j p q st su = below_or p.result q.result (made.results i p st) (made.results j q su)

    -- what is asked of a declaration that covers two, and of one that covers another
    abbrev CoversTwo : Member → Member → List Ty → Member → Type 0
    CoversTwo p q types r = Along (Below h) r.parameters p.parameters
        × (Along (Below h) r.parameters q.parameters × Along (Below h) types r.parameters)

    abbrev CoversOne : Member → List Ty → Member → Type 0
    CoversOne d types e = (e.kind ≢ a_kind.Abstract)
        × (Along (Below h) e.parameters d.parameters
        × (Below h e.result d.result × Along (Below h) types e.parameters))

    -- Types are covered for two declarations or aren't.
    pub covered_or : (i j : ℕ) (p q : Member) → StandsAt s i p → StandsAt s j q → (types : List Ty)
        → AreNumbered (length h) types → Decided (AreCovered h s.members p q types)
    covered_or i j p q st su types n =
        decided_as (SomeOf (CoversTwo p q types) s.members) (AreCovered h s.members p q types)
        (λ w. (w.0, w.1, w.2, w.3.0, w.3.1.0, w.3.1.1))
        (λ w. (w.0, w.1, w.2, (w.3, (w.4, w.5))))
        (some_or (CoversTwo p q types) s.members
        (λ k r e. both_or (Along (Below h) r.parameters p.parameters)
        (Along (Below h) r.parameters q.parameters × Along (Below h) types r.parameters)
        (specific_or k i r p e st) (both_or (Along (Below h) r.parameters q.parameters)
        (Along (Below h) types r.parameters) (specific_or k j r q e su)
        (along_or types r.parameters n (parameters_of k r e)))))

    -- The types of a choice are numbered.
    pub choice_numbered : (i j : ℕ) (p q : Member) → StandsAt s i p → StandsAt s j q
        → (types : List Ty) → IsChoice h p.parameters q.parameters types
        → AreNumbered (length h) types
    choice_numbered i j p q st su types choice k m e =
        let l = slice_get_within types k m e in let w = made.width i j p q st su in
        let c = choice.0 in
        let x = item_at p.parameters k (omega arith) in
        let y = item_at q.parameters k (omega arith) in
        meet_numbered h (choice.1 k x.0 y.0 m x.1 y.1 e) (parameters_of i p st k x.0 x.1)
        (parameters_of j q su k y.0 y.1)

    concrete_or : (k : MemberKind) → Decided (k ≢ a_kind.Abstract)
    concrete_or a_kind.BuiltIn = inl (λ e. absurd cc)
    concrete_or (a_kind.Constructor t) = inl (λ e. absurd cc)
    concrete_or a_kind.Concrete = inl (λ e. absurd cc)
    concrete_or a_kind.Abstract = inr (λ n. n refl)

    put_numbered : (types : List Ty) (at : ℕ) (o : TypeId) → AreNumbered (length h) types
        → o.0 < length h → AreNumbered (length h) (slice_set types at (a_type.Named o))
    put_numbered [] at o n l k x e = absurd cc
    put_numbered (y ∷ types) zero o n l zero x e =
        let q : a_type.Named o ≡ x = cc in
        subst (IsNumbered (length h)) q (name (out_named o) l)
    put_numbered (y ∷ types) zero o n l (suc k) x e = n (suc k) x e
    put_numbered (y ∷ types) (suc at) o n l zero x e = n 0 x e
    put_numbered (y ∷ types) (suc at) o n l (suc k) x e =
        put_numbered types at o (λ j. n (suc j)) l k x e

    -- A declaration is covered for an object or isn't.
    pub object_or : (i at : ℕ) (d : Member) (t o : TypeId) → StandsAt s i d → IsObjectBelow h o t
        → Decided (IsCovered h s d at o)
    object_or i at d t o st b =
        let put = slice_set d.parameters at (a_type.Named o) in
        let n = put_numbered d.parameters at o (parameters_of i d st)
        (slice_get_within h o.0 b.0.0 b.0.1) in
        decided_as (SomeOf (CoversOne d put) s.members) (IsCovered h s d at o)
        (λ w. (w.0, w.1, w.2, w.3.0, w.3.1.0, w.3.1.1.0, w.3.1.1.1))
        (λ w. (w.0, w.1, w.2, (w.3, (w.4, (w.5, w.6)))))
        (some_or (CoversOne d put) s.members
        (λ k e f. both_or (e.kind ≢ a_kind.Abstract) (Along (Below h) e.parameters d.parameters
        × (Below h e.result d.result × Along (Below h) put e.parameters)) (concrete_or e.kind)
        (both_or (Along (Below h) e.parameters d.parameters)
        (Below h e.result d.result × Along (Below h) put e.parameters) (specific_or k i e d f st)
        (both_or (Below h e.result d.result) (Along (Below h) put e.parameters)
        (result_or k i e d f st) (along_or put e.parameters n (parameters_of k e f))))))
