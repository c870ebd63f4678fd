-- An object has each field of the types above it, at its type or below.
use Rattle.std.proofs.Common.{◌≡◌, ◌⊎◌, inl, inr, ℕ, zero, suc, ◌+◌, ◌==◌, Bool, true, false, if◌then◌else◌, List, [], ◌∷◌, Option, Some, None, refl, sym, ap, ◌∙◌, arith}
use Rattle.std.specs.Prelude.{option_map}
use Rattle.std.specs.List.{slice_get}
use Rattle.fort_base.specs.declared.ids.NameId.{NameId}
use Rattle.fort_types.specs.declared.hierarchy.DeclaredType.{DeclaredType}
use Rattle.fort_types.specs.declared.hierarchy.TypeKind.{TypeKind}
use Rattle.fort_types.specs.declared.hierarchy.TypeKind.TheVariants as a_kind
use Rattle.fort_types.specs.Hierarchy.{DeclaredTypes, Path, stop, along, Trait, Leaf}
use Rattle.fort_core.specs.declared.program.CoreField.{CoreField}
use Rattle.fort_machine.specs.Forms.{place_of}
use Rattle.fort_types_sets.specs.declared.field.Field.{Field}
use Rattle.fort_member_fields.specs.Inherited.{Declares, Has, declared, inherited, IsListed, of_leaf, of_trait}
use Rattle.fort_sound_typed.proofs.Bind.{alike, apart, tells, self_same}

-- ---- the place of a field

same_number : (x z : ℕ) → (x == z) ≡ true → x ≡ z
same_number x z e = elim (tells x z) [ alike q b ↦ q | apart b c ↦ absurd cc ]

told_number : (x z : ℕ) → x ≡ z → (x == z) ≡ true
told_number x z e = ap (λ n. x == n) (sym e) ∙ self_same x

place_step : (c : CoreField) (f : NameId) (cs : List CoreField) (b : Bool) (n : ℕ)
    → (c.name.0 == f.0) ≡ b
    → ((k : ℕ) → place_of f cs ≡ Some k
    → (d : CoreField) × (slice_get cs k ≡ Some d) × (d.name.0 ≡ f.0))
    → (if b then Some 0 else option_map (λ k. k + 1) (place_of f cs)) ≡ Some n
    → (d : CoreField) × (slice_get (c ∷ cs) n ≡ Some d) × (d.name.0 ≡ f.0)
place_step c f cs true n q rest e =
    let z : 0 ≡ n = cc in (c, ap (slice_get (c ∷ cs)) (sym z), same_number c.name.0 f.0 q)
place_step c f cs false n q rest e = go (place_of f cs) refl e
  where
    go : (o : Option ℕ) → place_of f cs ≡ o → option_map (λ k. k + 1) o ≡ Some n
        → (d : CoreField) × (slice_get (c ∷ cs) n ≡ Some d) × (d.name.0 ≡ f.0)
    go None r e = absurd cc
    go (Some k) r e =
        let z : k + 1 ≡ n = cc in let w = rest k r
        in (w.0, ap (slice_get (c ∷ cs)) (let y : n ≡ suc k = omega (arith, z) in y) ∙ w.1, w.2)

-- the field at the place of a name has it
pub at_place : (f : NameId) (cs : List CoreField) (n : ℕ) → place_of f cs ≡ Some n
    → (d : CoreField) × (slice_get cs n ≡ Some d) × (d.name.0 ≡ f.0)
at_place f [] n e = absurd cc
at_place f (c ∷ cs) n e = place_step c f cs (c.name.0 == f.0) n refl (at_place f cs) e

none_step : (c : CoreField) (f : NameId) (cs : List CoreField) (b : Bool) (i : ℕ) (d : CoreField)
    → (c.name.0 == f.0) ≡ b
    → (place_of f cs ≡ None → (i : ℕ) → slice_get cs i ≡ Some d → d.name.0 ≡ f.0 → ⊥)
    → (if b then Some 0 else option_map (λ k. k + 1) (place_of f cs)) ≡ None
    → slice_get (c ∷ cs) i ≡ Some d → d.name.0 ≡ f.0 → ⊥
none_step c f cs true i d q rest e g n = absurd cc
none_step c f cs false zero d q rest e g n =
    let same : c ≡ d = cc
    in let z : (c.name.0 == f.0) ≡ true =
    told_number c.name.0 f.0 (ap (λ (z : CoreField). z.name.0) same ∙ n) in absurd cc
none_step c f cs false (suc i) d q rest e g n = go (place_of f cs) refl e
  where
    go : (o : Option ℕ) → place_of f cs ≡ o → option_map (λ k. k + 1) o ≡ None → ⊥
    go None r e = rest r i g n
    go (Some k) r e = absurd cc

-- where there is no place no field has the name
pub no_place : (f : NameId) (cs : List CoreField) → place_of f cs ≡ None → (i : ℕ) (d : CoreField)
    → slice_get cs i ≡ Some d → d.name.0 ≡ f.0 → ⊥
no_place f [] e i d g n = absurd cc
no_place f (c ∷ cs) e i d g n =
    none_step c f cs (c.name.0 == f.0) i d refl (λ r j h k. no_place f cs r j d h k) e g n

-- ---- fields that types have

module _ (h : DeclaredTypes) (own : List (List Field)) where
  -- some type above declares it
  pub declared_above : {a : ℕ} {f : Field} → Has h own a f → (t : ℕ) × Path h a t × Declares own t f
  declared_above {a} (declared d) = (a, stop, d)
  declared_above (inherited t none e has) = let w = declared_above has in (w.0, along e w.1, w.2)

  -- a leaf has those that it declares
  pub of_leaf_alone : (a : ℕ) (fs : List Field) → Leaf h a → IsListed h own a fs
      → slice_get own a ≡ Some fs
  of_leaf_alone a fs l (of_leaf k g) = g
  of_leaf_alone a fs l (of_trait d ds further g t p r q) =
      let s : Some d ≡ Some l.0 = sym g ∙ l.1 in let same : d ≡ l.0 = cc
      in absurd (l.2 (ap (λ (z : DeclaredType). z.kind) (sym same) ∙ t))

kind_or : (h : DeclaredTypes) (a : ℕ) (d : DeclaredType) → slice_get h a ≡ Some d
    → Trait h a ⊎ Leaf h a
kind_or h a d e = go d.kind refl
  where
    go : (k : TypeKind) → d.kind ≡ k → Trait h a ⊎ Leaf h a
    go a_kind.Trait q = inl (d, e, q)
    go a_kind.Object q = inr (d, e, λ t. let z : a_kind.Object ≡ a_kind.Trait = sym q ∙ t in cc)
    go a_kind.Leaf q = inr (d, e, λ t. let z : a_kind.Leaf ≡ a_kind.Trait = sym q ∙ t in cc)

pub which_kind : (h : DeclaredTypes) (a : ℕ) (d : DeclaredType) → slice_get h a ≡ Some d
    → Trait h a ⊎ Leaf h a
which_kind = kind_or
