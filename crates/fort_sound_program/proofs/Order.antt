-- The order of the program of a component is that of its declared types.
use Rattle.std.proofs.Common.{◌≡◌, ◌<◌, ℕ, true, IsTrue, length, sym, ◌∙◌, subst}
use Rattle.fort_base.specs.declared.ids.TypeId.{TypeId}
use Rattle.fort_base.specs.declared.ty.Ty.{Ty}
use Rattle.fort_core.specs.declared.program.Program.{Program}
use Rattle.fort_types.specs.Hierarchy.{DeclaredTypes, Path, Leaf}
use Rattle.fort_types.specs.Hierarchy as hierarchy
use Rattle.fort_types.specs.Table.{is_set, HasRows}
use Rattle.fort_types.specs.Types.{IsNumbered}
use Rattle.fort_types.specs.Types as types
use Rattle.fort_types.specs.Relation.{relation}
use Rattle.fort_tree.specs.declared.declarations.Component.{Component}
use Rattle.fort_tree_type_names.specs.TypeNames.{type_names}
use Rattle.fort_hier.specs.declared.accepted.Hierarchy.{Hierarchy}
use Rattle.fort_hier.specs.Hierarchies.{declares, IsHierarchy}
use Rattle.fort_hier.proofs.AcceptedLaws.{accepted_sound}
use Rattle.fort_sound_typed.specs.Typing.{Below, is_told}
use Rattle.fort_sound_typed.specs.Sound.{RowsThrough}
use Rattle.fort_sound_typed.proofs.Computed.{turns}
use Rattle.fort_sound_typed.proofs.OneSided.{relation_from_one}
use Rattle.fort_sound_typed.proofs.Rows.{inside, rows_of_hierarchy}

abbrev pub type_number : ℕ → TypeId
type_number n = record { 0 = n }

module _ (c : Component) (h : Hierarchy) (is : IsHierarchy c (type_names c) h) (p : Program)
    (same : p.types ≡ h.table) where
  pub sound : hierarchy.Sound (declares c)
  sound = accepted_sound c (type_names c) h is

  pub rows : HasRows (declares c) p.types
  rows = subst (HasRows (declares c)) (sym same) is.rows

  pub rows_through : RowsThrough p.types.below
  rows_through = (rows_of_hierarchy (declares c) p.types sound rows).0

  pub only_itself : (i j : ℕ) → Leaf (declares c) j → IsTrue (is_set p.types.below i j) → i ≡ j
  only_itself = (rows_of_hierarchy (declares c) p.types sound rows).1

  -- of a numbered type and any other one
  pub computed : (a b : Ty) → IsNumbered (length (declares c)) a → types.Below (declares c) a b
      → IsTrue (relation p.types.below a true b)
  computed a b n w = (relation_from_one (declares c) p.types sound rows a b n).0.1 w

  pub below : (a b : Ty) → IsNumbered (length (declares c)) a → types.Below (declares c) a b
      → Below p a b
  below a b n w = is_told (computed a b n w)

  pub told : (a b : Ty) → IsNumbered (length (declares c)) a
      → IsTrue (relation p.types.below a true b) → types.Below (declares c) a b
  told a b n w = (relation_from_one (declares c) p.types sound rows a b n).0.0 w

  pub told_above : (a b : Ty) → IsNumbered (length (declares c)) b
      → IsTrue (relation p.types.below a true b) → types.Below (declares c) a b
  told_above a b n w =
      (relation_from_one (declares c) p.types sound rows b a n).1.0
      (sym (turns p.types.below a b true) ∙ w)

  -- the rows and the paths
  pub path : (i j : ℕ) → IsTrue (is_set p.types.below i j) → Path (declares c) i j
  path i j e =
      let x = inside (Path (declares c)) (length (declares c)) p.types.below rows.below i j e
      in (rows.below.sets i j x.0 x.1).0 e

  pub path_set : (i j : ℕ) → i < length (declares c) → j < length (declares c)
      → Path (declares c) i j → IsTrue (is_set p.types.below i j)
  path_set i j x y w = (rows.below.sets i j x y).1 w
