-- Flat expressions have one list of groupings.
use Rattle.std.proofs.Common.{◌≡◌, List, [], ◌∷◌, refl, sym, ap, ◌∙◌}
use Rattle.fort_base.specs.declared.refusal.Place.{Place}
use Rattle.fort_tree.specs.declared.grouped.FlatGrouping.{FlatGrouping}
use Rattle.fort_tree.specs.declared.grouped.Grouped.{Grouped}
use Rattle.fort_tree.specs.declared.grouped.Row.{Row}
use Rattle.fort_group.specs.Components.{HasGroups}
use Rattle.fort_front_law_phases.specs.Phases.{OneGrouping}

abbrev grouping : Place → Grouped → FlatGrouping
grouping p g = record { place = p; grouped = g }

same : (x y : FlatGrouping) → x.place ≡ y.place → x.grouped ≡ y.grouped → x ≡ y
same x y p g = ap (λ z. grouping z x.grouped) p ∙ ap (λ z. grouping y.place z) g

pub groupings_once : OneGrouping
groupings_once [] [] [] h k = refl
groupings_once [] [] (y ∷ b) h k = absurd k
groupings_once [] (x ∷ a) b h k = absurd h
groupings_once (row ∷ rows) [] b h k = absurd h
groupings_once (row ∷ rows) (x ∷ a) [] h k = absurd k
groupings_once (row ∷ rows) (x ∷ a) (y ∷ b) h k =
    ap (λ z. z ∷ a) (same x y (h.0 ∙ sym k.0) (h.1.only.1 y.grouped k.1.only.0))
    ∙ ap (λ z. y ∷ z) (groupings_once rows a b h.2 k.2)
