-- From one sentence on to the next.
use Rattle.std.proofs.Common.{◌≡◌, ◌≤◌, ◌+◌, ◌⊎◌, inl, inr, ℕ, List, Option, Some, None, refl, sym, ◌∙◌, subst, arith}
use Rattle.fort_base.specs.declared.refusal.Place.{Place}
use Rattle.fort_types.specs.Hierarchy.{DeclaredTypes}
use Rattle.fort_hier.specs.declared.lowest.BrokenSentence.{BrokenSentence}
use Rattle.fort_hier.specs.declared.sentences.Sentence.{Sentence}
use Rattle.fort_hier.specs.declared.sentences.Sentence.TheVariants as sentence
use Rattle.fort_base.specs.Places.{IsEarliest}
use Rattle.fort_hier.specs.Sentences.{BreaksAt}
use Rattle.fort_hier.specs.Lowest.{rule_number, IsLowest, IsLowestFrom}

-- a sentence by its number
pub only : (s t : Sentence) → rule_number s ≡ rule_number t → s ≡ t
only sentence.Cyclic sentence.Cyclic e = refl
only sentence.Cyclic sentence.ExtendsObject e = absurd (omega arith)
only sentence.Cyclic sentence.ExtendsExcluded e = absurd (omega arith)
only sentence.Cyclic sentence.NotComprised e = absurd (omega arith)
only sentence.Cyclic sentence.ComprisedNotBelow e = absurd (omega arith)
only sentence.ExtendsObject sentence.Cyclic e = absurd (omega arith)
only sentence.ExtendsObject sentence.ExtendsObject e = refl
only sentence.ExtendsObject sentence.ExtendsExcluded e = absurd (omega arith)
only sentence.ExtendsObject sentence.NotComprised e = absurd (omega arith)
only sentence.ExtendsObject sentence.ComprisedNotBelow e = absurd (omega arith)
only sentence.ExtendsExcluded sentence.Cyclic e = absurd (omega arith)
only sentence.ExtendsExcluded sentence.ExtendsObject e = absurd (omega arith)
only sentence.ExtendsExcluded sentence.ExtendsExcluded e = refl
only sentence.ExtendsExcluded sentence.NotComprised e = absurd (omega arith)
only sentence.ExtendsExcluded sentence.ComprisedNotBelow e = absurd (omega arith)
only sentence.NotComprised sentence.Cyclic e = absurd (omega arith)
only sentence.NotComprised sentence.ExtendsObject e = absurd (omega arith)
only sentence.NotComprised sentence.ExtendsExcluded e = absurd (omega arith)
only sentence.NotComprised sentence.NotComprised e = refl
only sentence.NotComprised sentence.ComprisedNotBelow e = absurd (omega arith)
only sentence.ComprisedNotBelow sentence.Cyclic e = absurd (omega arith)
only sentence.ComprisedNotBelow sentence.ExtendsObject e = absurd (omega arith)
only sentence.ComprisedNotBelow sentence.ExtendsExcluded e = absurd (omega arith)
only sentence.ComprisedNotBelow sentence.NotComprised e = absurd (omega arith)
only sentence.ComprisedNotBelow sentence.ComprisedNotBelow e = refl

last : (t : Sentence) → rule_number t ≤ 407
last sentence.Cyclic = omega arith
last sentence.ExtendsObject = omega arith
last sentence.ExtendsExcluded = omega arith
last sentence.NotComprised = omega arith
last sentence.ComprisedNotBelow = omega arith

cases : (a b : ℕ) → a ≤ b → (a ≡ b) ⊎ (a + 1 ≤ b)
cases a b l = grind arith

-- the sentence of the bound is broken
pub found : (h : DeclaredTypes) (places : List Place) (bound : ℕ) (s : Sentence) (place : Place)
    → rule_number s ≡ bound → IsEarliest (BreaksAt s h places) place
    → IsLowest h places bound (record { sentence = s; place = place })
found h places bound s place e f =
    record { earliest = f; above = omega arith; lowest = λ t at l w. omega arith }

-- it isn't, so that what holds from the next on holds from it on
pub passed : (h : DeclaredTypes) (places : List Place) (bound : ℕ) (s : Sentence)
    (r : Option BrokenSentence) → rule_number s ≡ bound
    → ((place : Place) → BreaksAt s h places place → ⊥)
    → IsLowestFrom h places (bound + 1) r → IsLowestFrom h places bound r
passed h places bound s None e n f =
    λ t place l w. elim (cases bound (rule_number t) l) as (λ _. ⊥) [
      | inl q ↦ n place
          (let o : t ≡ s = only t s (sym q ∙ sym e) in subst (λ z. BreaksAt z h places place) o w)
      | inr m ↦ f t place m w
    ]
passed h places bound s (Some b) e n f = record {
  earliest = f.earliest;
  above = let l = f.above in omega arith;
  lowest = λ t place l w. elim (cases bound (rule_number t) l) as (λ _. rule_number b.sentence
      ≤ rule_number t) [
        | inl q ↦ absurd (n place
            (let o : t ≡ s = only t s (sym q ∙ sym e) in subst (λ z. BreaksAt z h places place) o w))
        | inr m ↦ f.lowest t place m w
      ];
}

-- behind the last sentence there is none
pub none_left : (h : DeclaredTypes) (places : List Place) → IsLowestFrom h places 408 None
none_left h places t place l w = let m = last t in omega arith
