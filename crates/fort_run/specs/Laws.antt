-- The chapter "Components and APIs": linked files are one component, and then no rule of linking is
-- broken.
use Rattle.std.specs.Prelude.{◌≡◌, ℕ, List}
use Rattle.fort_base.specs.declared.refusal.Rule.{Rule}
use Rattle.fort_tree.specs.declared.declarations.Component.{Component}
use Rattle.fort_link.specs.Answer.{BreaksLink, IsLinked}
use Rattle.fort_link.specs.declared.answer.Spot.{Spot}

-- Files are at most one component, linked.
abbrev pub OneWhole : Type 0
OneWhole = (files : List (List ℕ)) (a b : Component) → IsLinked files a → IsLinked files b → a ≡ b

-- No files are a component, linked, and break a rule of linking.
abbrev pub LinkedOrBroken : Type 0
LinkedOrBroken = (files : List (List ℕ)) (c : Component) (rule : Rule) (spot : Spot)
    → IsLinked files c → BreaksLink files rule spot → ⊥
