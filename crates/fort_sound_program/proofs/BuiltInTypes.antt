-- The built-in types: no path leads out of them, they have no fields, and the five leaves are
-- leaves.
use Rattle.std.proofs.Common.{◌≡◌, inl, inr, ℕ, zero, suc, ◌+◌, ◌<◌, List, [], ◌∷◌, length, map, replicate, Some, refl, sym, ap, ◌∙◌, arith}
use Rattle.std.specs.List.{slice_get, flat_map}
use Rattle.std.proofs.Math.ListN.{length-append}
use Rattle.std.proofs.lemmas.List.{length-replicate}
use Rattle.fort_types.specs.declared.hierarchy.DeclaredType.{DeclaredType}
use Rattle.fort_types.specs.declared.hierarchy.TypeKind.TheVariants as a_kind
use Rattle.fort_types.specs.Hierarchy.{Path, stop, along, Leaf}
use Rattle.fort_tree.specs.declared.declarations.Component.{Component}
use Rattle.fort_types_builtin.specs.declared.types.TheConstants.{TYPE_COUNT}
use Rattle.fort_types_builtin.specs.Types.{built_in_declared}
use Rattle.fort_types_builtin.proofs.PlainTypes.{plain_at, built_in_count}
use Rattle.fort_hier.specs.Heads.{heads_of}
use Rattle.fort_hier.specs.Hierarchies.{declares}
use Rattle.fort_hier.specs.Numbers.{all_types, declared_by}
use Rattle.fort_hier.proofs.NamesWalk.{as_long}
use Rattle.fort_types_sets.specs.declared.field.Field.{Field}
use Rattle.fort_member_fields.proofs.Items.{get_left, one}
use Rattle.fort_member_fields.specs.Inherited.{Declares, Has, declared, inherited}
use Rattle.fort_member_fields.specs.Own.{own_fields, declared_own, types_of}
use Rattle.fort_sound_program.proofs.Placed.{either_side}

pub there : {X : Type 0} (xs : List X) (i : ℕ) → i < length xs → (x : X) × (slice_get xs i ≡ Some x)
there [] i l = absurd (omega arith)
there (x ∷ xs) zero l = (x, refl)
there (x ∷ xs) (suc i) l = there xs i (omega arith)

-- an item of a front of equal ones
pub same_item : {X : Type 0} (n : ℕ) (x : X) (k : ℕ) (y : X) → slice_get (replicate n x) k ≡ Some y
    → x ≡ y
same_item zero x k y e = absurd cc
same_item (suc n) x zero y e = cc
same_item (suc n) x (suc k) y e = same_item n x k y e

module _ (c : Component) where
  own_types : List DeclaredType
  own_types = map (declared_by (all_types c.names (heads_of c)) c.names) (heads_of c)

  -- how many types there are
  pub counted : length (declares c) ≡ TYPE_COUNT + length (heads_of c)
  counted =
      let e = length-append built_in_declared
      (map (declared_by (all_types c.names (heads_of c)) c.names) (heads_of c))
      in let f = built_in_count in
      let g = as_long (declared_by (all_types c.names (heads_of c)) c.names) (heads_of c)
      in omega arith

  -- the declaration of a built-in number is built in
  pub built_in_at : (a : ℕ) (d : DeclaredType) → a < TYPE_COUNT → slice_get (declares c) a ≡ Some d
      → slice_get built_in_declared a ≡ Some d
  unfolding own_types
  built_in_at a d l e =
      let n = built_in_count in
      let w = there built_in_declared a (omega arith) in
      let f = get_left built_in_declared own_types a w.0 w.1 in
      w.1 ∙ ap Some (one (declares c) a d w.0 e f)

  -- a path from a built-in type stays among them
  pub stays : (a b : ℕ) → Path (declares c) a b → a < TYPE_COUNT → b < TYPE_COUNT
  stays a b stop l = l
  stays a b (along {b = x} e p) l =
      let u = (plain_at a e.0 (built_in_at a e.0 l e.1)).upwards x e.2 in stays x b p (omega arith)

  -- built-in types declare no field
  none_declared : (a : ℕ) (f : Field) → a < TYPE_COUNT → Declares (own_fields c) a f → ⊥
  none_declared a f l (fs, e, w) =
      elim (either_side (replicate TYPE_COUNT [])
      (flat_map (declared_own (types_of c) c.names) c.declarations) a fs e) as (λ _. ⊥) [
        | inl g ↦
            (let q : [] ≡ fs = same_item TYPE_COUNT [] a fs g in let r : length fs ≡ 0 = ap length (sym q)
            in let k = w.1 in omega arith)
        | inr v ↦
            (let n = length-replicate {A = List Field} TYPE_COUNT [] in let k = v.1 in omega arith)
      ]

  pub no_field : (a : ℕ) (f : Field) → a < TYPE_COUNT → Has (declares c) (own_fields c) a f → ⊥
  no_field a f l (declared d) = none_declared a f l d
  no_field a f l (inherited {b = b} t none e has) =
      no_field b f (let u = (plain_at a e.0 (built_in_at a e.0 l e.1)).upwards b e.2
      in omega arith) has

  -- the leaves
  abbrev IsLeafAt : ℕ → Type 0
  IsLeafAt n = (d : DeclaredType) × (slice_get built_in_declared n ≡ Some d)
      × (d.kind ≡ a_kind.Leaf)

  no_trait : a_kind.Leaf ≡ a_kind.Trait → ⊥
  no_trait e = absurd cc

  leaf_by : (n : ℕ) → IsLeafAt n → Leaf (declares c) n
  unfolding own_types
  leaf_by n (d, e, k) = (d, get_left built_in_declared own_types n d e, λ t. no_trait (sym k ∙ t))
