-- The chapter "Grammar", trees apart from places: a moved type measures what the type measures,
-- moved.
use Rattle.std.proofs.Common.{◌≡◌, [], ◌∷◌, Option, Some, None, map, length, refl}
use Rattle.std.specs.Prelude.{option_map}
use Rattle.fort_base.specs.declared.refusal.Place.{Place}
use Rattle.fort_tree.specs.declared.declarations.NextParameter.{NextParameter}
use Rattle.fort_tree.specs.declared.declarations.Parameters.{Parameters}
use Rattle.fort_tree.specs.declared.types.TypeTree.{TypeTree}
use Rattle.fort_tree.specs.declared.types.SimpleType.TheOpen.{SimpleType-F, TypeTree-F, NextType-F, TypeList-F}
use Rattle.fort_tree.specs.declared.types.SimpleType.TheFolds.{map-SimpleType, map-TypeTree, map-NextType, map-TypeList}
use Rattle.fort_tree.specs.Types.{parameter_count}
use Rattle.fort_tree.specs.Measured.{Measured, Listed, listed_parts, over, most_tuple_parts}
use Rattle.fort_tree.specs.Measures.{measure_simple_type, measure_type_tree, measure_next_type, measure_type_list, measured_type, measured_parameters}
use Rattle.fort_tree_law_moved.specs.TypesMoved.{simple_type_level, type_level, next_type_level, type_list_level, moved_type, moved_next_parameter, moved_parameters}
use Rattle.fort_tree_law_moved.proofs.Parts.{lists_move}
use Rattle.fort_tree_law_moved.proofs.MeasuredMoved.{moved_measured, moved_listed, listed_moves, listed_length, one_more, over_moves, made_type_moves}
use Rattle.fort_tree_law_moved.proofs.TypeFolds.{fold_moved_type}

module _ (g : Place → Place) where
  -- one level of a simple type
  meets_simple_type : (l : SimpleType-F Measured Measured Measured Listed)
      → measure_simple_type
      (simple_type_level g
      (map-SimpleType Measured Measured Measured Listed Measured Measured Measured Listed
      (moved_measured g) (moved_measured g) (moved_measured g) (moved_listed g) l))
      ≡ moved_measured g (measure_simple_type l)
  meets_simple_type (SimpleType-F.Named n) = refl
  meets_simple_type (SimpleType-F.Array array left element comma index right) =
      made_type_moves g array.spot [] (element ∷ []) refl refl refl
  meets_simple_type (SimpleType-F.Parts left None right) =
      made_type_moves g left (over most_tuple_parts (length (listed_parts None)) left.place)
      (listed_parts None) refl
      (over_moves g most_tuple_parts left.place (listed_length g None) refl) (listed_moves g None)
  meets_simple_type (SimpleType-F.Parts left (Some parts) right) =
      made_type_moves g left (over most_tuple_parts (length (listed_parts (Some parts))) left.place)
      (listed_parts (Some parts)) refl
      (over_moves g most_tuple_parts left.place (listed_length g (Some parts)) refl)
      (listed_moves g (Some parts))

  -- one level of a type
  meets_type : (l : TypeTree-F Measured Measured Measured Listed)
      → measure_type_tree
      (type_level g
      (map-TypeTree Measured Measured Measured Listed Measured Measured Measured Listed
      (moved_measured g) (moved_measured g) (moved_measured g) (moved_listed g) l))
      ≡ moved_measured g (measure_type_tree l)
  meets_type (TypeTree-F.Simple simple) = refl
  meets_type (TypeTree-F.Arrow domain arrow result) =
      made_type_moves g domain.spot [] (domain ∷ result ∷ []) refl refl refl

  -- one level of a further type of a list
  meets_next_type : (l : NextType-F Measured Measured Measured Listed)
      → measure_next_type
      (next_type_level g
      (map-NextType Measured Measured Measured Listed Measured Measured Measured Listed
      (moved_measured g) (moved_measured g) (moved_measured g) (moved_listed g) l))
      ≡ moved_measured g (measure_next_type l)
  meets_next_type l = refl

  -- one level of a list of types
  meets_type_list : (l : TypeList-F Measured Measured Measured Listed)
      → measure_type_list
      (type_list_level g
      (map-TypeList Measured Measured Measured Listed Measured Measured Measured Listed
      (moved_measured g) (moved_measured g) (moved_measured g) (moved_listed g) l))
      ≡ moved_listed g (measure_type_list l)
  meets_type_list l = refl

  -- A moved type measures what the type measures, moved.
  pub measured_type_moves : (t : TypeTree)
      → measured_type (moved_type g t) ≡ moved_measured g (measured_type t)
  unfolding measured_type
  measured_type_moves =
      fold_moved_type g Measured Measured Measured Listed measure_simple_type measure_type_tree
      measure_next_type measure_type_list (moved_measured g) (moved_measured g) (moved_measured g)
      (moved_listed g) meets_simple_type meets_type meets_next_type meets_type_list

  -- ---- parameters

  -- as many parameters as before
  pub parameters_counted : (o : Option Parameters)
      → parameter_count (option_map (moved_parameters g) o) ≡ parameter_count o
  parameters_counted None = refl
  parameters_counted (Some list) = one_more g (moved_next_parameter g) list.others

  -- what the types of parameters measure
  pub measured_parameters_move : (o : Option Parameters)
      → measured_parameters (option_map (moved_parameters g) o)
      ≡ map (moved_measured g) (measured_parameters o)
  measured_parameters_move None = refl
  measured_parameters_move (Some list) = λ i. measured_type_moves list.first.ty i
      ∷ lists_move (λ
      (n : NextParameter). measured_type n.parameter.ty) (moved_next_parameter g)
      (moved_measured g) (λ n. measured_type_moves n.parameter.ty) list.others i
