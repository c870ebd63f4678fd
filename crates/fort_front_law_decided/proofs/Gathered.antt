-- The fields of all types of a hierarchy can't fail to be there.
use Rattle.std.proofs.Common.{◌≡◌, ◌≢◌, ◌≤◌, ◌+◌, ℕ, zero, suc, List, [], ◌∷◌, ◌++◌, length, Some, sym, subst, arith, append_assoc}
use Rattle.std.specs.List.{slice_get, slice_set, flat_map}
use Rattle.std.proofs.lemmas.List.{append-nil}
use Rattle.fort_types.specs.declared.hierarchy.DeclaredType.{DeclaredType}
use Rattle.fort_types.specs.declared.hierarchy.TypeKind.TheVariants as a_kind
use Rattle.fort_types.specs.Hierarchy.{DeclaredTypes}
use Rattle.fort_types_sets.specs.declared.field.Field.{Field}
use Rattle.fort_member_fields.specs.Gathering.{HasTo, HasAll}
use Rattle.fort_member_fields.specs.Walks.{SomeIn, HasFieldNamed, IsLike, Gathers, AreHeights, fields_of}
use Rattle.fort_member_fields.proofs.GatherLaws.{gathers_own, gathers_declared, gathers_known, gathers_new}
use Rattle.fort_member_fields.proofs.InheritLaws.{gathered_has, begins, passed_by, put_in, known_above, next_height, all_known}
use Rattle.fort_front_law_decided.proofs.Claims.{CantFail}
use Rattle.fort_front_law_decided.proofs.Items.{item_at}

-- ---- one trait

abbrev CanGather : List Field → List Field → Type 0
CanGather own further = (fs : List Field) × Gathers own further fs

one_more : (own further fs : List Field) (x : Field) → Gathers own further fs
    → CantFail (CanGather own (further ++ x ∷ []))
one_more own further fs x g none =
    let declared : HasFieldNamed own x.name → ⊥ = λ d.
    none (fs, gathers_declared own further fs x d g) in
    let known : SomeIn (IsLike x) fs → ⊥ = λ k. none (fs, gathers_known own further fs x k g) in
    none (fs ++ x ∷ [], gathers_new own further fs x declared known g)

gather_on : (own further more fs : List Field) → Gathers own further fs
    → CantFail (CanGather own (further ++ more))
gather_on own further [] fs g none =
    none (fs, subst (λ z. Gathers own z fs) (sym (append-nil further)) g)
gather_on own further (x ∷ more) fs g none =
    one_more own further fs x g (λ r.
    gather_on own (further ++ x ∷ []) more r.0 r.1 (λ q.
    none (q.0, subst (λ z. Gathers own z q.0) (append_assoc further (x ∷ []) more) q.1)))

can_gather : (own further : List Field) → CantFail (CanGather own further)
can_gather own further = gather_on own [] further own (gathers_own own)

-- ---- all types

module _ (h : DeclaredTypes) (own : List (List Field)) (heights : List ℕ)
    (fall : AreHeights h heights) (long : length own ≡ length h) where
  abbrev Known : ℕ → ℕ → Type 0
  Known height before = (all : List (List Field)) × HasTo h own heights height before all

  -- one type of those of a height
  one_type : (height i : ℕ) (all : List (List Field)) (d : DeclaredType) → slice_get h i ≡ Some d
      → HasTo h own heights height i all → CantFail (Known height (i + 1))
  one_type height i all d e t none = leaf (λ k. other (λ q. of_trait k q))
    where
      leaf : (d.kind ≢ a_kind.Trait) → ⊥
      leaf n = none (all, passed_by h own heights height i all (λ _. (d, e, n)) t)

      other : (slice_get heights i ≡ Some height → ⊥) → ⊥
      other n = none (all, passed_by h own heights height i all (λ q. absurd (n q)) t)

      of_trait : d.kind ≡ a_kind.Trait → slice_get heights i ≡ Some height → ⊥
      of_trait k q =
          can_gather (fields_of own i) (flat_map (fields_of all) d.extends) (λ g.
          none (
            slice_set all i g.0,
            put_in h own heights height i all g.0
                (gathered_has h own all i d g.0 e k long t.number
                (known_above h own heights height i all fall q t) g.1) t,
          ))

  -- the first ones of a height
  level : (height i : ℕ) (all : List (List Field)) → i ≤ length h
      → HasTo h own heights height 0 all → CantFail (Known height i)
  level height zero all l t none = none (all, t)
  level height (suc i) all l t none =
      level height i all (omega arith) t (λ r. let d = item_at h i (omega arith) in
      one_type height i r.0 d.0 d.1 r.1 (λ s.
      none (
        s.0,
        subst (λ z. HasTo h own heights height z s.0) (let e : i + 1 ≡ suc i = omega arith
            in e) s.1,
      )))

  levels : (height : ℕ) → CantFail (Known height 0)
  levels zero none = none (own, begins h own heights long)
  levels (suc height) none =
      levels height (λ r. level height (length h) r.0 (omega arith) r.1 (λ s.
      none (
        s.0,
        subst (λ z. HasTo h own heights z 0 s.0) (let e : height + 1 ≡ suc height =
            omega arith in e) (next_height h own heights height (length h) s.0 (omega arith) s.1),
      )))

  -- The lists of all types.
  pub can_have_all : CantFail ((all : List (List Field)) × HasAll h own all)
  can_have_all none =
      levels (suc (length h)) (λ r.
      none (r.0, all_known h own heights (suc (length h)) r.0 fall (omega arith) r.1))
