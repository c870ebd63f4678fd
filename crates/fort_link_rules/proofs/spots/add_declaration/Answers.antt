use Rattle.std.proofs.Common.{◌++◌, [], ◌∷◌, List, map, ap, ◌∙◌}
use Rattle.fort_base.specs.declared.refusal.Place.{Place}
use Rattle.fort_tree.specs.Limits.{measured_object_member, measured_trait_member}
use Rattle.fort_tree.specs.declared.declarations.ObjectEntry.{ObjectEntry}
use Rattle.fort_tree.specs.declared.declarations.TraitEntry.{TraitEntry}
use Rattle.fort_link_rules.proofs.Gathering.{on_ok}
use Rattle.fort_link_rules.proofs.SpotLaws.{of_variable, of_function, of_trait, of_object, own_place}
use Rattle.fort_link_rules.proofs.Steps.{by, one_added, two_added}
use Rattle.fort_link_rules.proofs.spots.add_declaration.Goals as goal

pub returns-in-Variable : goal.returns-in-Variable
returns-in-Variable c =
    one_added c.args.places.now (c.in_ok-push.ensures.ok ∙ ap (λ
    (p : Place). c.args.places.now ++ p ∷ []) c.place_of_declaration.ensures)
    (of_variable c.args.declared.now _ c.in-Variable.is)

pub returns-in-Function : goal.returns-in-Function
returns-in-Function c =
    one_added c.args.places.now (c.in_ok-push.ensures.ok ∙ ap (λ
    (p : Place). c.args.places.now ++ p ∷ []) c.place_of_declaration.ensures)
    (of_function c.args.declared.now _ c.in-Function.is)

pub returns-in-Trait : goal.returns-in-Trait
returns-in-Trait c =
    on_ok c.add_trait_members.result (λ e. two_added c.args.places.now
    (own_place c.args.declared.now ∷ [])
    (map (λ (e : TraitEntry). (measured_trait_member e.member).spot.place) c.in-Trait.tr.members)
    (c.in_ok-push.ensures.ok ∙ ap (λ
    (p : Place). c.args.places.now ++ p ∷ []) c.place_of_declaration.ensures) (by (λ
    (l : List TraitEntry). map (λ (e : TraitEntry). (measured_trait_member e.member).spot.place) l)
    _ c.as_slice.ensures e) (of_trait c.args.declared.now _ c.in-Trait.is))
    c.add_trait_members.ensures

pub returns-in-Object : goal.returns-in-Object
returns-in-Object c =
    on_ok c.add_object_members.result (λ e. two_added c.args.places.now
    (own_place c.args.declared.now ∷ [])
    (map (λ (e : ObjectEntry). (measured_object_member e.member).spot.place)
    c.in-Object.object.members)
    (c.in_ok-push.ensures.ok ∙ ap (λ
    (p : Place). c.args.places.now ++ p ∷ []) c.place_of_declaration.ensures) (by (λ
    (l : List ObjectEntry). map (λ (e : ObjectEntry). (measured_object_member e.member).spot.place)
    l) _ c.as_slice-in-Object.ensures e) (of_object c.args.declared.now _ c.in-Object.is))
    c.add_object_members.ensures
