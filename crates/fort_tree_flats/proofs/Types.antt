-- No flat expression stands in a type.
use Rattle.std.proofs.Common.{◌≡◌, List, [], ◌∷◌, ◌++◌, Option, Some, None, refl, ap, ◌∙◌}
use Rattle.std.specs.Prelude.{map}
use Rattle.std.specs.List.{flat_map}
use Rattle.fort_tree.specs.declared.declarations.MethodParameter.{MethodParameter}
use Rattle.fort_tree.specs.declared.declarations.MethodParameter.TheVariants as method_parameter
use Rattle.fort_tree.specs.declared.declarations.MethodParameters.{MethodParameters}
use Rattle.fort_tree.specs.declared.declarations.NextMethodParameter.{NextMethodParameter}
use Rattle.fort_tree.specs.declared.declarations.NextObjectParameter.{NextObjectParameter}
use Rattle.fort_tree.specs.declared.declarations.NextParameter.{NextParameter}
use Rattle.fort_tree.specs.declared.declarations.ObjectParameterList.{ObjectParameterList}
use Rattle.fort_tree.specs.declared.declarations.ObjectParameters.{ObjectParameters}
use Rattle.fort_tree.specs.declared.declarations.Parameters.{Parameters}
use Rattle.fort_tree.specs.declared.grouped.Row.{Row}
use Rattle.fort_tree.specs.declared.types.SimpleType.{SimpleType}
use Rattle.fort_tree.specs.declared.types.TypeTree.{TypeTree}
use Rattle.fort_tree.specs.Limits.{measured_method_parameter, measured_method_parameters, measured_object_parameter_list, measured_object_parameters}
use Rattle.fort_tree.specs.Measured.{Measured, all_flats}
use Rattle.fort_tree.specs.Measures.{measured_simple_type, measured_type, measured_parameters}
use Rattle.fort_tree.proofs.CasesTypes.{cases_type, cases_simple_type}
use Rattle.fort_tree.proofs.MeasuresTypes.{measures-Simple, measures-Arrow, measures-Named, measures-Array, measures-Parts}
use Rattle.fort_tree_flats.proofs.Lists.{joined, two}

none_in_simple : (t : SimpleType) → (measured_simple_type t).flats ≡ []
none_in_simple = cases_simple_type (λ t. (measured_simple_type t).flats ≡ [])
    (λ name. ap (λ (m : Measured). m.flats) (measures-Named name))
    (λ array left element comma index right. ap (λ
    (m : Measured). m.flats) (measures-Array array left element comma index right))
    (λ left parts right. ap (λ (m : Measured). m.flats) (measures-Parts left parts right))

pub none_in_type : (t : TypeTree) → (measured_type t).flats ≡ []
none_in_type = cases_type (λ t. (measured_type t).flats ≡ [])
    (λ simple. ap (λ (m : Measured). m.flats) (measures-Simple simple) ∙ none_in_simple simple)
    (λ domain arrow result. ap (λ (m : Measured). m.flats) (measures-Arrow domain arrow result))

-- what stands behind a type has them all
pub behind_type : (t : TypeTree) (m : Measured) → all_flats (measured_type t ∷ m ∷ []) ≡ m.flats
behind_type t m = two (measured_type t) m ∙ ap (λ (u : List Row). u ++ m.flats) (none_in_type t)

-- two lists of no items make one
nothing : (xs ys : List Row) → xs ≡ [] → ys ≡ [] → xs ++ ys ≡ []
nothing xs ys e f = ap (λ (u : List Row). u ++ ys) e ∙ f

none_in_others : (others : List NextParameter)
    → all_flats (map (λ (next : NextParameter). measured_type next.parameter.ty) others) ≡ []
none_in_others [] = refl
none_in_others (next ∷ others) =
    nothing _ _ (none_in_type next.parameter.ty) (none_in_others others)

pub none_in_parameters : (list : Option Parameters) → all_flats (measured_parameters list) ≡ []
none_in_parameters None = refl
none_in_parameters (Some list) =
    nothing _ _ (none_in_type list.first.ty) (none_in_others list.others)

none_in_method_parameter : (p : MethodParameter) → all_flats (measured_method_parameter p) ≡ []
none_in_method_parameter (method_parameter.Parameter p) = nothing _ _ (none_in_type p.ty) refl
none_in_method_parameter (method_parameter.Self_ s) = refl

none_in_next : (others : List NextMethodParameter)
    → all_flats (flat_map (λ
    (next : NextMethodParameter). measured_method_parameter next.parameter) others) ≡ []
none_in_next [] = refl
none_in_next (next ∷ others) =
    joined (measured_method_parameter next.parameter) _
    ∙ nothing _ _ (none_in_method_parameter next.parameter) (none_in_next others)

pub none_in_method_parameters : (list : Option MethodParameters)
    → all_flats (measured_method_parameters list) ≡ []
none_in_method_parameters None = refl
none_in_method_parameters (Some list) =
    joined (measured_method_parameter list.first) _
    ∙ nothing _ _ (none_in_method_parameter list.first) (none_in_next list.others)

none_in_next_object : (others : List NextObjectParameter)
    → all_flats (map (λ (next : NextObjectParameter). measured_type next.parameter.ty) others) ≡ []
none_in_next_object [] = refl
none_in_next_object (next ∷ others) =
    nothing _ _ (none_in_type next.parameter.ty) (none_in_next_object others)

none_in_object_list : (list : Option ObjectParameterList)
    → all_flats (measured_object_parameter_list list) ≡ []
none_in_object_list None = refl
none_in_object_list (Some list) =
    nothing _ _ (none_in_type list.first.ty) (none_in_next_object list.others)

pub none_in_object_parameters : (p : Option ObjectParameters)
    → all_flats (measured_object_parameters p) ≡ []
none_in_object_parameters None = refl
none_in_object_parameters (Some p) = none_in_object_list p.parameters
