-- How the units of a flat expression stand to one another.
use Rattle.std.proofs.Common.{◌≡◌, ℕ, ◌+◌, ◌<◌, List, [], ◌∷◌, ◌++◌, length, get_or, take, sym, ap, ◌∙◌}
use Rattle.std.specs.Prelude.{map}
use Rattle.std.proofs.lemmas.List.{take_more, map-append}
use Rattle.fort_base.specs.declared.refusal.Place.{Place}
use Rattle.fort_tree.specs.declared.expr.Flat.{Flat, out-Flat}
use Rattle.fort_tree.specs.declared.expr.FlatPart.{FlatPart}
use Rattle.fort_tree.specs.declared.grouped.Joint.{Joint}
use Rattle.fort_tree.specs.declared.grouped.Row.{Row}
use Rattle.fort_tree.specs.Measured.{Joined}
use Rattle.fort_tree.specs.Measuring.{measured_flat_part, measured_operand, row_of}

stands-append : (xs : List FlatPart) (x : FlatPart)
    → map (λ (part : Joined). part.joint) (map measured_flat_part (xs ++ x ∷ [])) ≡ map (λ
    (part : Joined). part.joint) (map measured_flat_part xs) ++ (measured_flat_part x).joint
    ∷ []
stands-append xs x =
    ap (map (λ (part : Joined). part.joint)) (map-append measured_flat_part xs (x ∷ []))
    ∙ map-append (λ
    (part : Joined). part.joint) (map measured_flat_part xs) (measured_flat_part x ∷ [])

pub one_more : (parts : List FlatPart) (i : ℕ) (part : FlatPart) (at new : List Joint)
    (joint : Joint) → i < length parts → part ≡ get_or parts i part
    → at ≡ map (λ (part : Joined). part.joint) (map measured_flat_part (take i parts))
    → new ≡ at ++ joint ∷ [] → joint ≡ (measured_flat_part part).joint
    → new ≡ map (λ (part : Joined). part.joint) (map measured_flat_part (take (i + 1) parts))
one_more parts i part at new joint lt is so_far step own =
    step ∙ ap (λ (js : List Joint). js ++ joint ∷ []) so_far ∙ ap (λ
    (j : Joint). map (λ
    (part : Joined). part.joint) (map measured_flat_part (take i parts)) ++ j ∷ []) own
    ∙ sym (stands-append (take i parts) part)
    ∙ ap (λ (ps : List FlatPart). map (λ
    (part : Joined). part.joint) (map measured_flat_part ps))
    (sym (take_more parts i part lt ∙ ap (λ (p : FlatPart). take i parts ++ p ∷ []) (sym is)))

row_with : Place → List Joint → Row
row_with place joints = record { place = place; joints = joints }

pub laid : (flat : Flat) (place : Place) (joints : List Joint)
    → place ≡ (measured_operand (out-Flat flat).first).spot.place
    → joints ≡ map (λ (part : Joined). part.joint) (map measured_flat_part (out-Flat flat).rest)
    → (record { place = place; joints = joints }) ≡ row_of flat
unfolding row_with
laid flat place joints e f =
    ap (λ (p : Place). row_with p joints) e ∙ ap (λ
    (js : List Joint). row_with (measured_operand (out-Flat flat).first).spot.place js) f
