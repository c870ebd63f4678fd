-- The chapter "Overload rules": what an answer for two declarations says. The code asks one case
-- after another.
use Rattle.std.specs.Prelude.{◌≡◌, ◌⊎◌, true, Bool, false, List, Option, Some, None, Contains}
use Rattle.fort_base.specs.declared.rules.TheConstants.{RESULT_NOT_BELOW}
use Rattle.fort_base.specs.declared.refusal.Rule.{Rule}
use Rattle.fort_base.specs.declared.ty.Ty.{Ty}
use Rattle.fort_types.specs.Hierarchy.{DeclaredTypes}
use Rattle.fort_types.specs.Types.{Below}
use Rattle.fort_types_sets.specs.declared.member.Member.{Member}
use Rattle.fort_types_sets.specs.declared.member.MemberSet.{MemberSet}
use Rattle.fort_types_sets.specs.Applicable.{IsApplicable, IsMoreSpecific}
use Rattle.fort_types_sets.specs.Pairs.{AreStrangers, AreCovered, AreUnordered, Passes, Breaks}

-- An answer for two declarations: no rule where they pass, else the rule that they break.
abbrev pub Judges : DeclaredTypes → MemberSet → Member → Member → Option Rule → Type 0
Judges h s p q None = Passes h s p q
Judges h s p q (Some rule) = Breaks h s p q rule.0

-- The declarations are dotted methods, and no declared type is below both receivers.
abbrev pub AreAside : DeclaredTypes → MemberSet → Member → Member → Type 0
AreAside h s p q = (s.dotted ≡ true) × AreStrangers h p.parameters q.parameters

-- An answer for two declarations the first of which is more specific: by the results.
abbrev pub JudgesResults : DeclaredTypes → MemberSet → Member → Member → Option Rule → Type 0
JudgesResults h s p q None = Below h p.result q.result ⊎ AreAside h s p q
JudgesResults h s p q (Some rule) = (rule.0 ≡ RESULT_NOT_BELOW.0) × (Below h p.result q.result → ⊥)
    × (AreAside h s p q → ⊥)

-- An answer for two declarations of which the first three cases say nothing.
abbrev pub JudgesMeets : DeclaredTypes → MemberSet → Member → Member → Option Rule → Type 0
JudgesMeets h s p q rule = AreUnordered h s p q → Judges h s p q rule

-- A declaration is more specific than two others and applicable to types.
abbrev pub Covers : DeclaredTypes → Member → Member → Member → List Ty → Type 0
Covers h r p q types = IsMoreSpecific h r p × IsMoreSpecific h r q × IsApplicable h r types

-- Each of a list of choices is covered or, where the answer is no, one isn't.
pub record CoversAll (h : DeclaredTypes) (members : List Member) (p q : Member)
    (choices : List (List Ty)) (good : Bool) : Type 0 where
  pub all : good ≡ true → (types : List Ty) → Contains choices types
      → AreCovered h members p q types
  pub some : good ≡ false
      → (types : List Ty) × Contains choices types × (AreCovered h members p q types → ⊥)
