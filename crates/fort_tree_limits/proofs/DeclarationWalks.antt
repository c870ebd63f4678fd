-- The chapter "Grammar", limits: what a walk over each declaration finds.
use Rattle.std.proofs.Common.{◌≡◌, ℕ, ◌+◌, ◌<◌, List, [], ◌∷◌, ◌++◌, Option, get_or, take, length, sym, ap, ◌∙◌}
use Rattle.std.specs.List.{flat_map}
use Rattle.std.proofs.lemmas.List.{take_more, append-nil}
use Rattle.std.proofs.lemmas.Grind.{flat_map-append}
use Rattle.fort_base.specs.declared.refusal.Place.{Place}
use Rattle.fort_tree.specs.declared.spot.Name.{Name}
use Rattle.fort_tree.specs.declared.spot.Spot.{Spot}
use Rattle.fort_tree.specs.declared.types.TypeTree.{TypeTree}
use Rattle.fort_tree.specs.declared.declarations.Function.{Function}
use Rattle.fort_tree.specs.declared.declarations.Method.{Method}
use Rattle.fort_tree.specs.declared.declarations.Object.{Object}
use Rattle.fort_tree.specs.declared.declarations.Trait.{Trait}
use Rattle.fort_tree.specs.declared.declarations.TraitMember.TheVariants as trait_member
use Rattle.fort_tree.specs.Types.{parameter_count}
use Rattle.fort_tree.specs.Declarations.{name_first, method_parameter_count}
use Rattle.fort_tree.specs.Measured.{Measured, all_crowded, most_names, most_parameters, over}
use Rattle.fort_tree.specs.Measures.{spot_of, measured_type, measured_parameters}
use Rattle.fort_tree.specs.Measuring.{measured_expr}
use Rattle.fort_tree.specs.Limits.{comprises_count, excludes_count, extends_count, measured_body, measured_function, measured_method, measured_method_parameters, measured_object, measured_object_parameters, measured_trait, measured_trait_member, object_members, trait_members}
use Rattle.fort_tree_limits.specs.Earliest.{earliest}
use Rattle.fort_tree_limits.proofs.EarliestLaws.{all_crowded-append, earliest_append, earliest_none}

pub function_walks : (found : Option Place) (f : Function)
    → earliest found (measured_function f).crowded
    ≡ earliest
    (earliest
    (earliest
    (earliest found
    (over most_parameters (parameter_count f.parameters) (spot_of (name_first f.name)).place))
    (all_crowded (measured_parameters f.parameters))) (measured_type f.result).crowded)
    (measured_expr f.body).crowded
function_walks found f = simp (all_crowded-append, earliest_append, earliest_none)

pub method_walks : (found : Option Place) (m : Method)
    → earliest found (measured_method m).crowded
    ≡ earliest
    (earliest
    (earliest
    (earliest found
    (over most_parameters (method_parameter_count m.parameters)
    (spot_of (name_first m.name)).place))
    (all_crowded (measured_method_parameters m.parameters))) (measured_type m.result).crowded)
    (all_crowded (measured_body m.body))
method_walks found m = simp (all_crowded-append, earliest_append)

pub field_walks : (found : Option Place) (name : Name) (colon : Spot) (ty : TypeTree)
    → earliest found (measured_trait_member (trait_member.Field name colon ty)).crowded
    ≡ earliest found (measured_type ty).crowded
field_walks found name colon ty = simp (earliest_append, earliest_none)

pub trait_walks : (found : Option Place) (t : Trait)
    → earliest found (measured_trait t).crowded
    ≡ earliest
    (earliest
    (earliest (earliest found (over most_names (extends_count t.extends) t.trait_.place))
    (over most_names (excludes_count t.excludes) t.trait_.place))
    (over most_names (comprises_count t.comprises) t.trait_.place))
    (all_crowded (trait_members t))
trait_walks found t = simp earliest_append

pub object_walks : (found : Option Place) (o : Object)
    → earliest found (measured_object o).crowded
    ≡ earliest
    (earliest
    (earliest
    (earliest found
    (over most_parameters (length (measured_object_parameters o.parameters)) o.object.place))
    (over most_names (extends_count o.extends) o.object.place))
    (all_crowded (measured_object_parameters o.parameters))) (all_crowded (object_members o))
object_walks found o = simp (all_crowded-append, earliest_append)

-- the walk over one more item of a list, by the trees of each
pub one_more_of_all : {A : Type 0} (of : A → List Measured) (xs : List A) (i : ℕ) (x : A)
    (found at new : Option Place) → i < length xs → x ≡ get_or xs i x
    → at ≡ earliest found (all_crowded (flat_map of (take i xs)))
    → new ≡ earliest at (all_crowded (of x))
    → new ≡ earliest found (all_crowded (flat_map of (take (i + 1) xs)))
one_more_of_all of xs i x found at new lt is so_far step =
    let more : flat_map of (take (i + 1) xs) ≡ flat_map of (take i xs) ++ of x =
    ap (flat_map of) (take_more xs i x lt ∙ ap (λ y. take i xs ++ y ∷ []) (sym is))
    ∙ flat_map-append of (take i xs) (x ∷ []) ∙ ap (λ
    (u : List Measured). flat_map of (take i xs) ++ u) (append-nil (of x)) in
    step ∙ ap (λ (u : Option Place). earliest u (all_crowded (of x))) so_far
    ∙ sym (ap (λ ms. earliest found (all_crowded ms)) more
    ∙ simp (all_crowded-append, earliest_append))
