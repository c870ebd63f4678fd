-- The chapter "Types", the rules of a hierarchy: which broken sentence is reported. The code asks
-- them in the order of their numbers.
use Rattle.std.specs.Prelude.{◌≤◌, ℕ, List, Option, Some, None}
use Rattle.fort_base.specs.declared.rules.TheConstants.{CYCLIC_EXTENDS, EXTENDS_OBJECT, EXTENDS_EXCLUDED, NOT_COMPRISED, COMPRISED_NOT_BELOW}
use Rattle.fort_base.specs.declared.refusal.Place.{Place}
use Rattle.fort_types.specs.Hierarchy.{DeclaredTypes}
use Rattle.fort_hier.specs.declared.lowest.BrokenSentence.{BrokenSentence}
use Rattle.fort_hier.specs.declared.sentences.Sentence.{Sentence}
use Rattle.fort_hier.specs.declared.sentences.Sentence.TheVariants as sentence
use Rattle.fort_base.specs.Places.{IsEarliest}
use Rattle.fort_hier.specs.Sentences.{BreaksAt}

-- The number by which a broken sentence is refused.
abbrev pub rule_number : Sentence → ℕ
rule_number sentence.Cyclic = CYCLIC_EXTENDS.0
rule_number sentence.ExtendsObject = EXTENDS_OBJECT.0
rule_number sentence.ExtendsExcluded = EXTENDS_EXCLUDED.0
rule_number sentence.NotComprised = NOT_COMPRISED.0
rule_number sentence.ComprisedNotBelow = COMPRISED_NOT_BELOW.0

-- A sentence is broken at this place and at no earlier one, its number is not below a bound, and no
-- broken sentence from the bound on has a lower number.
pub record IsLowest (h : DeclaredTypes) (places : List Place) (bound : ℕ)
    (b : BrokenSentence) : Type 0 where
  pub earliest : IsEarliest (BreaksAt b.sentence h places) b.place
  pub above : bound ≤ rule_number b.sentence
  pub lowest : (t : Sentence) (place : Place) → bound ≤ rule_number t → BreaksAt t h places place
      → rule_number b.sentence ≤ rule_number t

-- The broken sentence of the lowest number from a bound on, or none where no such sentence is
-- broken.
abbrev pub IsLowestFrom : DeclaredTypes → List Place → ℕ → Option BrokenSentence → Type 0
IsLowestFrom h places bound None = (t : Sentence) (place : Place) → bound ≤ rule_number t
    → BreaksAt t h places place → ⊥
IsLowestFrom h places bound (Some b) = IsLowest h places bound b
