-- The flat expressions of each declaration stand in its bodies and initials.
use Rattle.std.proofs.Common.{◌≡◌, List, [], ◌∷◌, ◌++◌, ap, ◌∙◌}
use Rattle.fort_tree.specs.declared.declarations.Function.{Function}
use Rattle.fort_tree.specs.declared.declarations.Method.{Method}
use Rattle.fort_tree.specs.declared.declarations.Object.{Object}
use Rattle.fort_tree.specs.declared.grouped.Row.{Row}
use Rattle.fort_tree.specs.declared.types.TypeTree.{TypeTree}
use Rattle.fort_tree.specs.Limits.{measured_function, measured_method, measured_method_parameters, measured_body, measured_object, measured_object_parameters, object_members}
use Rattle.fort_tree.specs.Measured.{all_flats}
use Rattle.fort_tree.specs.Measures.{measured_type, measured_parameters}
use Rattle.fort_tree.specs.Measuring.{measured_expr}
use Rattle.fort_tree_flats.proofs.Lists.{joined, last}
use Rattle.fort_tree_flats.proofs.Types.{none_in_type, none_in_parameters, none_in_method_parameters, none_in_object_parameters, behind_type}

pub function_flats : (f : Function) → (measured_function f).flats ≡ (measured_expr f.body).flats
function_flats f =
    joined (measured_parameters f.parameters) (measured_type f.result ∷ measured_expr f.body ∷ [])
    ∙ ap (λ (u : List Row). u ++ all_flats (measured_type f.result ∷ measured_expr f.body ∷ []))
    (none_in_parameters f.parameters) ∙ behind_type f.result (measured_expr f.body)

pub method_flats : (m : Method) → (measured_method m).flats ≡ all_flats (measured_body m.body)
method_flats m =
    joined (measured_method_parameters m.parameters) (measured_type m.result ∷ measured_body m.body)
    ∙ ap (λ (u : List Row). u ++ all_flats (measured_type m.result ∷ measured_body m.body))
    (none_in_method_parameters m.parameters)
    ∙ ap (λ (u : List Row). u ++ all_flats (measured_body m.body)) (none_in_type m.result)

pub object_flats : (o : Object) → (measured_object o).flats ≡ all_flats (object_members o)
object_flats o =
    joined (measured_object_parameters o.parameters) (object_members o)
    ∙ ap (λ (u : List Row). u ++ all_flats (object_members o))
    (none_in_object_parameters o.parameters)

pub field_flats : (ty : TypeTree) → all_flats (measured_type ty ∷ []) ≡ []
field_flats ty = last (measured_type ty) ∙ none_in_type ty
