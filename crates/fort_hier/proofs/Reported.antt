-- From the first broken one of the rules 401 to 407 to what is reported.
use Rattle.std.proofs.Common.{◌≡◌, ◌≤◌, ℕ, List, None, sym, ◌∙◌, subst, arith}
use Rattle.fort_base.specs.declared.refusal.CheckFault.{CheckFault}
use Rattle.fort_base.specs.declared.refusal.CheckFault.TheVariants as a_fault
use Rattle.fort_base.specs.declared.refusal.Place.{Place}
use Rattle.fort_tree.specs.declared.declarations.Component.{Component}
use Rattle.fort_tree.specs.declared.spot.Name.{Name}
use Rattle.fort_hier.specs.declared.sentences.Sentence.{Sentence}
use Rattle.fort_hier.specs.declared.sentences.Sentence.TheVariants as sentence
use Rattle.fort_base.specs.Places.{IsFirst}
use Rattle.fort_hier.specs.Heads.{heads_of}
use Rattle.fort_hier.specs.Tops.{tops_of}
use Rattle.fort_hier.specs.Names.{all_called, IsDuplicate}
use Rattle.fort_hier.specs.Numbers.{all_types, IsUnknown}
use Rattle.fort_hier.specs.Sentences.{BreaksAt}
use Rattle.fort_hier.specs.Lowest.{rule_number, IsLowestFrom}
use Rattle.fort_hier.specs.Hierarchies.{declares, places_of, Broken, duplicate, unknown, sentence, IsFault, IsRefusal, IsSentenceRefusal}
use Rattle.fort_hier.proofs.LowestLaws.{only}

first : (s : Sentence) → 403 ≤ rule_number s
first sentence.Cyclic = omega arith
first sentence.ExtendsObject = omega arith
first sentence.ExtendsExcluded = omega arith
first sentence.NotComprised = omega arith
first sentence.ComprisedNotBelow = omega arith

module _ (c : Component) (mentioned : List Name) where
  abbrev Clashes : Place → Type 0
  Clashes = IsDuplicate (all_called c.names (tops_of c))

  abbrev Unknown : Place → Type 0
  Unknown = IsUnknown (all_types c.names (heads_of c)) c.names mentioned

  -- no broken rule has a number below 401; without clashes none below 402; without unknown names
  -- none below 403
  from_401 : (rule : ℕ) (place : Place) → Broken c mentioned rule place → 401 ≤ rule
  from_401 rule place (duplicate e w) = omega arith
  from_401 rule place (unknown e w) = omega arith
  from_401 rule place (sentence s e w) = let l = first s in omega arith

  from_402 : IsFirst Clashes None → (rule : ℕ) (place : Place) → Broken c mentioned rule place
      → 402 ≤ rule
  from_402 n rule place (duplicate e w) = absurd (n place w)
  from_402 n rule place (unknown e w) = omega arith
  from_402 n rule place (sentence s e w) = let l = first s in omega arith

  -- what breaks a rule by its number
  as_401 : (rule : ℕ) (place : Place) → rule ≡ 401 → Broken c mentioned rule place → Clashes place
  as_401 rule place q (duplicate e w) = w
  as_401 rule place q (unknown e w) = absurd (omega arith)
  as_401 rule place q (sentence s e w) = let l = first s in absurd (omega arith)

  as_402 : (rule : ℕ) (place : Place) → rule ≡ 402 → Broken c mentioned rule place → Unknown place
  as_402 rule place q (duplicate e w) = absurd (omega arith)
  as_402 rule place q (unknown e w) = w
  as_402 rule place q (sentence s e w) = let l = first s in absurd (omega arith)

  as_sentence : IsFirst Clashes None → IsFirst Unknown None
      → (s : Sentence) (rule : ℕ) (place : Place) → rule ≡ rule_number s
      → Broken c mentioned rule place → BreaksAt s (declares c) (places_of c) place
  as_sentence n u s rule place q (duplicate e w) = absurd (n place w)
  as_sentence n u s rule place q (unknown e w) = absurd (u place w)
  as_sentence n u s rule place q (sentence t e w) =
      subst (λ z. BreaksAt z (declares c) (places_of c) place) (only t s (sym e ∙ q)) w

  pub duplicate_reported : (fault : CheckFault) → IsRefusal 401 Clashes fault
      → IsFault c mentioned fault
  duplicate_reported (a_fault.Refused rule place) w = record {
    earliest =
        record {
          breaks = duplicate w.0 w.1.breaks;
          none_before = λ other b. w.1.none_before other (as_401 rule.0 other w.0 b);
        };
    lowest = λ other at b. let l = from_401 other at b in let e = w.0 in omega arith;
  }
  duplicate_reported a_fault.Memory w = w

  pub unknown_reported : IsFirst Clashes None → (fault : CheckFault) → IsRefusal 402 Unknown fault
      → IsFault c mentioned fault
  unknown_reported n (a_fault.Refused rule place) w = record {
    earliest =
        record {
          breaks = unknown w.0 w.1.breaks;
          none_before = λ other b. w.1.none_before other (as_402 rule.0 other w.0 b);
        };
    lowest = λ other at b. let l = from_402 n other at b in let e = w.0 in omega arith;
  }
  unknown_reported n a_fault.Memory w = w

  pub sentence_reported : IsFirst Clashes None → IsFirst Unknown None → (fault : CheckFault)
      → IsSentenceRefusal (declares c) (places_of c) fault → IsFault c mentioned fault
  sentence_reported n u (a_fault.Refused rule place) w = record {
    earliest = record {
      breaks = sentence w.0 w.1 w.2.earliest.breaks;
      none_before =
          λ other b. w.2.earliest.none_before other (as_sentence n u w.0 rule.0 other w.1 b);
    };
    lowest = λ other at b. lowest other at b;
  }
    where
      lowest : (other : ℕ) (at : Place) → Broken c mentioned other at → rule.0 ≤ other
      lowest other at (duplicate e v) = absurd (n at v)
      lowest other at (unknown e v) = absurd (u at v)
      lowest other at (sentence t e v) =
          let l = w.2.lowest t at (first t) v in let f = w.1 in omega arith
  sentence_reported n u a_fault.Memory w = w

  -- no rule is broken where none of the three kinds is
  pub none_broken : IsFirst Clashes None → IsFirst Unknown None
      → IsLowestFrom (declares c) (places_of c) 403 None → (rule : ℕ) (place : Place)
      → Broken c mentioned rule place → ⊥
  none_broken n u l rule place (duplicate e w) = n place w
  none_broken n u l rule place (unknown e w) = u place w
  none_broken n u l rule place (sentence s e w) = l s place (first s) w
