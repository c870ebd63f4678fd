-- The chapter "Types", the rules of a hierarchy: which rule a component breaks, which one is
-- reported, and what an accepted component has. The code asks one rule after another and leaves at
-- the first that is broken.
use Rattle.std.specs.Prelude.{◌≡◌, ◌≤◌, ◌^◌, ◌++◌, ℕ, List, None, map, length, replicate}
use Rattle.fort_base.specs.declared.rules.TheConstants.{DUPLICATE_NAME, UNKNOWN_TYPE, CYCLIC_EXTENDS}
use Rattle.fort_base.specs.declared.refusal.CheckFault.{CheckFault}
use Rattle.fort_base.specs.declared.refusal.CheckFault.TheVariants as a_fault
use Rattle.fort_base.specs.declared.refusal.Place.{Place}
use Rattle.fort_tree.specs.declared.declarations.Component.{Component}
use Rattle.fort_tree.specs.declared.spot.Name.{Name}
use Rattle.fort_types.specs.Hierarchy.{DeclaredTypes}
use Rattle.fort_types.specs.Table.{HasRows}
use Rattle.fort_types_builtin.specs.declared.types.TheConstants.{TYPE_COUNT}
use Rattle.fort_hier.specs.declared.accepted.Hierarchy.{Hierarchy}
use Rattle.fort_hier.specs.declared.sentences.Sentence.{Sentence}
use Rattle.fort_base.specs.Places.{IsEarliest}
use Rattle.fort_hier.specs.Heads.{heads_of, head_place, head_body}
use Rattle.fort_hier.specs.Tops.{tops_of}
use Rattle.fort_hier.specs.Names.{all_called, IsDuplicate}
use Rattle.fort_hier.specs.Numbers.{declared_types, all_types, hierarchy_of, IsUnknown}
use Rattle.fort_hier.specs.Sentences.{BreaksAt}
use Rattle.fort_hier.specs.Lowest.{rule_number, IsLowest}

-- The declared types of a component, by their numbers.
abbrev pub declares : Component → DeclaredTypes
declares c = hierarchy_of c.names (heads_of c)

-- The places of the names of a component's types.
abbrev pub places_of : Component → List Place
places_of c = map head_place (heads_of c)

-- A component in which these names stand as types breaks a rule at a place.
pub data Broken (c : Component) (mentioned : List Name) (rule : ℕ) (place : Place) : Type 0 where
  duplicate : rule ≡ DUPLICATE_NAME.0 → IsDuplicate (all_called c.names (tops_of c)) place
      → Broken c mentioned rule place
  unknown : rule ≡ UNKNOWN_TYPE.0
      → IsUnknown (all_types c.names (heads_of c)) c.names mentioned place
      → Broken c mentioned rule place
  sentence : (s : Sentence) → rule ≡ rule_number s → BreaksAt s (declares c) (places_of c) place
      → Broken c mentioned rule place

-- A component breaks a rule, there at the earliest, and no rule of a lower number.
pub record IsReported (c : Component) (mentioned : List Name) (rule : ℕ)
    (place : Place) : Type 0 where
  pub earliest : IsEarliest (Broken c mentioned rule) place
  pub lowest : (other : ℕ) (at : Place) → Broken c mentioned other at → rule ≤ other

-- A refusal names the reported rule and its place; want of memory needs no cause.
abbrev pub IsFault : Component → List Name → CheckFault → Type 0
IsFault c mentioned (a_fault.Refused rule place) = IsReported c mentioned rule.0 place
IsFault c mentioned a_fault.Memory = Unit {0}

-- What an accepted component has: it breaks no rule; the table has the rows of its declared types,
-- whose names and declarations are these; and there are at most as many as there are numbers.
pub record IsHierarchy (c : Component) (mentioned : List Name) (h : Hierarchy) : Type 0 where
  pub kept : (rule : ℕ) (place : Place) → Broken c mentioned rule place → ⊥
  pub rows : HasRows (declares c) h.table
  pub names : h.names ≡ declared_types c.names (heads_of c)
  pub bodies : h.bodies ≡ replicate TYPE_COUNT None ++ map head_body (heads_of c)
  pub few : length (declares c) ≤ 2 ^ 32

-- ---- one rule alone

-- A refusal by this rule, at the earliest place that breaks it.
abbrev pub IsRefusal : ℕ → (Place → Type 0) → CheckFault → Type 0
IsRefusal number Breaks (a_fault.Refused rule place) = (rule.0 ≡ number) × IsEarliest Breaks place
IsRefusal number Breaks a_fault.Memory = Unit {0}

-- A refusal by the broken sentence of the lowest number, at its earliest place.
abbrev pub IsSentenceRefusal : DeclaredTypes → List Place → CheckFault → Type 0
IsSentenceRefusal h places (a_fault.Refused rule place) = (s : Sentence) × (rule.0 ≡ rule_number s)
    × IsLowest h places CYCLIC_EXTENDS.0 (record { sentence = s; place = place })
IsSentenceRefusal h places a_fault.Memory = Unit {0}
