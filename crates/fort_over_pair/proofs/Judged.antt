-- The cases of two declarations, put together.
use Rattle.std.proofs.Common.{◌≡◌, ◌≢◌, ◌<◌, inl, inr, ℕ, true, false, List, length, Option, Some, None, Result, Ok, Err, IfOk, refl}
use Rattle.fort_base.specs.declared.rules.TheConstants.{SAME_PARAMETERS, NO_MEET, MEET_NOT_DECLARED, ARROW_OVERLAP, TOO_WIDE}
use Rattle.fort_base.specs.declared.refusal.Rule.{Rule}
use Rattle.fort_base.specs.declared.ty.Ty.{Ty}
use Rattle.fort_base.specs.declared.refusal.Memory.{Memory}
use Rattle.fort_base.specs.declared.table.TypeTable.{TypeTable}
use Rattle.fort_types.specs.Hierarchy.{DeclaredTypes, Sound}
use Rattle.fort_types.specs.Table.{HasRows}
use Rattle.fort_types.specs.Types.{Apart}
use Rattle.fort_types_sets.specs.declared.member.Member.{Member}
use Rattle.fort_types_sets.specs.declared.member.MemberSet.{MemberSet}
use Rattle.fort_types_sets.specs.Applicable.{Somewhere, IsMoreSpecific}
use Rattle.fort_types_sets.specs.Meets.{ArrowsClash, IsChoice}
use Rattle.fort_types_sets.specs.Pairs.{NeverMeet, apart, strangers, AreUnordered, aside, ordered, reversed, met, same_parameters, first_result, second_result, arrow_overlap, no_meet, too_wide, not_declared}
use Rattle.fort_over_pair.specs.Clashes.{PartsClash}
use Rattle.fort_over_pair.specs.Choices.{HasAll, CountsTo}
use Rattle.fort_over_pair.specs.Judges.{Judges, AreAside, JudgesResults, JudgesMeets, CoversAll}
use Rattle.fort_over_pair.proofs.Counted.{none_somewhere, each_somewhere, too_many, not_too_many}

module _ (h : DeclaredTypes) (s : MemberSet) (p q : Member) where
  turned : AreAside h s q p → AreAside h s p q
  turned w = (w.0, λ x y i j e f g m k c. w.1 y x j i f e m g k (c.0, c.2, c.1))

  never : (Somewhere (Apart h) p.parameters q.parameters → ⊥) → (AreAside h s p q → ⊥)
      → NeverMeet h s p q → ⊥
  never m n (apart w) = m w
  never m n (strangers d w) = n (d, w)

  pub alike : p.parameters ≡ q.parameters → Judges h s p q (Some SAME_PARAMETERS)
  alike e = same_parameters refl e

  pub set_apart : p.parameters ≢ q.parameters → Somewhere (Apart h) p.parameters q.parameters
      → Judges h s p q None
  set_apart n w = aside n (apart w)

  pub set_aside : p.parameters ≢ q.parameters → AreAside h s p q → Judges h s p q None
  set_aside n w = aside n (strangers w.0 w.1)

  pub first_lower : p.parameters ≢ q.parameters
      → (Somewhere (Apart h) p.parameters q.parameters → ⊥) → IsMoreSpecific h p q
      → (rule : Option Rule) → JudgesResults h s p q rule → Judges h s p q rule
  first_lower n m l None (inl w) = ordered n l w
  first_lower n m l None (inr w) = set_aside n w
  first_lower n m l (Some rule) w = first_result w.0 n (never m w.2) l w.1

  pub second_lower : p.parameters ≢ q.parameters
      → (Somewhere (Apart h) p.parameters q.parameters → ⊥) → IsMoreSpecific h q p
      → (rule : Option Rule) → JudgesResults h s q p rule → Judges h s p q rule
  second_lower n m l None (inl w) = reversed n l w
  second_lower n m l None (inr w) = set_aside n (turned w)
  second_lower n m l (Some rule) w = second_result w.0 n (never m (λ a. w.2 (turned_back a))) l w.1
    where
      turned_back : AreAside h s p q → AreAside h s q p
      turned_back w = (w.0, λ x y i j e f g m k c. w.1 y x j i f e m g k (c.0, c.2, c.1))

  pub unordered : p.parameters ≢ q.parameters → (Somewhere (Apart h) p.parameters q.parameters → ⊥)
      → (IsMoreSpecific h p q → ⊥) → (IsMoreSpecific h q p → ⊥)
      → (AreAside h s p q → ⊥) → AreUnordered h s p q
  unordered n m l k a = record { unequal = n; may_meet = never m a; not_first = l; not_second = k }

  pub overlap : PartsClash h p.parameters q.parameters → JudgesMeets h s p q (Some ARROW_OVERLAP)
  overlap w u = arrow_overlap refl u w.1

  module _ (long : length p.parameters ≡ length q.parameters) (n : ℕ)
      (c : CountsTo h p.parameters q.parameters (length p.parameters) n)
      (none : PartsClash h p.parameters q.parameters → ⊥) where
    no_clash : Somewhere (ArrowsClash h) p.parameters q.parameters → ⊥
    no_clash w = none (long, w)

    pub meetless : n ≡ 0 → JudgesMeets h s p q (Some NO_MEET)
    meetless e u = no_meet refl u no_clash (none_somewhere h p.parameters q.parameters n long c e)

    pub too_wide_at : (n ≡ 0 → ⊥) → 4096 < n → JudgesMeets h s p q (Some TOO_WIDE)
    too_wide_at e l u =
        too_wide refl u no_clash (each_somewhere h p.parameters q.parameters n long c e)
        (too_many h p.parameters q.parameters n long c l)

    module _ (some : n ≡ 0 → ⊥) (few : 4096 < n → ⊥) (choices : List (List Ty))
        (all : HasAll (IsChoice h p.parameters q.parameters) choices) where
      pub uncovered : CoversAll h s.members p q choices false
          → JudgesMeets h s p q (Some MEET_NOT_DECLARED)
      uncovered w u =
          let v = w.some refl
          in not_declared refl u no_clash (each_somewhere h p.parameters q.parameters n long c some)
          (not_too_many h p.parameters q.parameters n long c few) v.0 ((all v.0).0 v.1) v.2

      pub covered : CoversAll h s.members p q choices true → JudgesMeets h s p q None
      covered w u =
          met u no_clash (each_somewhere h p.parameters q.parameters n long c some)
          (not_too_many h p.parameters q.parameters n long c few)
          (λ types v. w.all refl types ((all types).1 v))

pub judged_result : (table : TypeTable) (s : MemberSet) (p q : Member)
    (r : Result (Option Rule) Memory)
    → ((h : DeclaredTypes) → HasRows h table → AreUnordered h s p q)
    → IfOk r (λ rule. (h : DeclaredTypes) → Sound h → HasRows h table → JudgesMeets h s p q rule)
    → IfOk r (λ rule. (h : DeclaredTypes) → Sound h → HasRows h table
    → length p.parameters ≡ length q.parameters → Judges h s p q rule)
judged_result table s p q (Ok rule) u w = λ h d t n. w h d t (u h t)
judged_result table s p q (Err m) u w = tt
