-- Two declarations that pass break no rule.
use Rattle.std.proofs.Common.{◌≡◌, ℕ}
use Rattle.fort_types.specs.Hierarchy.{DeclaredTypes, Sound}
use Rattle.fort_types.proofs.Antisymmetry.{same_lists, same}
use Rattle.fort_types_sets.specs.declared.member.Member.{Member}
use Rattle.fort_types_sets.specs.declared.member.MemberSet.{MemberSet}
use Rattle.fort_types_sets.specs.Applicable.{IsMoreSpecific}
use Rattle.fort_types_sets.specs.Pairs.{NeverMeet, AreUnordered, Passes, aside, ordered, reversed, met, Breaks, same_parameters, first_result, second_result, arrow_overlap, no_meet, too_wide, not_declared}

module _ (h : DeclaredTypes) (sound : Sound h) (s : MemberSet) where
  -- two that are more specific than each other have the same parameters
  both_ways : (p q : Member) → IsMoreSpecific h p q → IsMoreSpecific h q p
      → p.parameters ≡ q.parameters
  both_ways p q a b =
      same_lists p.parameters q.parameters a.0
      (λ k x y e f. same h sound x y (a.1 k x y e f) (b.1 k y x f e))

  -- three cases that say nothing of two declarations are not one of these
  unordered_aside : (p q : Member) → AreUnordered h s p q → NeverMeet h s p q → ⊥
  unordered_aside p q u n = u.may_meet n

  pub passes_not_breaks : (p q : Member) (rule : ℕ) → Passes h s p q → Breaks h s p q rule → ⊥
  passes_not_breaks p q rule (aside u n) (same_parameters r e) = u e
  passes_not_breaks p q rule (aside u n) (first_result r v m o b) = m n
  passes_not_breaks p q rule (aside u n) (second_result r v m o b) = m n
  passes_not_breaks p q rule (aside u n) (arrow_overlap r v w) = v.may_meet n
  passes_not_breaks p q rule (aside u n) (no_meet r v w x) = v.may_meet n
  passes_not_breaks p q rule (aside u n) (too_wide r v w x y) = v.may_meet n
  passes_not_breaks p q rule (aside u n) (not_declared r v w x y types z b) = v.may_meet n
  passes_not_breaks p q rule (ordered u o b) (same_parameters r e) = u e
  passes_not_breaks p q rule (ordered u o b) (first_result r v m w c) = c b
  passes_not_breaks p q rule (ordered u o b) (second_result r v m w c) = u (both_ways p q o w)
  passes_not_breaks p q rule (ordered u o b) (arrow_overlap r v w) = v.not_first o
  passes_not_breaks p q rule (ordered u o b) (no_meet r v w x) = v.not_first o
  passes_not_breaks p q rule (ordered u o b) (too_wide r v w x y) = v.not_first o
  passes_not_breaks p q rule (ordered u o b) (not_declared r v w x y types z c) = v.not_first o
  passes_not_breaks p q rule (reversed u o b) (same_parameters r e) = u e
  passes_not_breaks p q rule (reversed u o b) (first_result r v m w c) = u (both_ways p q w o)
  passes_not_breaks p q rule (reversed u o b) (second_result r v m w c) = c b
  passes_not_breaks p q rule (reversed u o b) (arrow_overlap r v w) = v.not_second o
  passes_not_breaks p q rule (reversed u o b) (no_meet r v w x) = v.not_second o
  passes_not_breaks p q rule (reversed u o b) (too_wide r v w x y) = v.not_second o
  passes_not_breaks p q rule (reversed u o b) (not_declared r v w x y types z c) = v.not_second o
  passes_not_breaks p q rule (met u a b t c) (same_parameters r e) = u.unequal e
  passes_not_breaks p q rule (met u a b t c) (first_result r v m w d) = u.not_first w
  passes_not_breaks p q rule (met u a b t c) (second_result r v m w d) = u.not_second w
  passes_not_breaks p q rule (met u a b t c) (arrow_overlap r v w) = a w
  passes_not_breaks p q rule (met u a b t c) (no_meet r v w x) = b x
  passes_not_breaks p q rule (met u a b t c) (too_wide r v w x y) = t y
  passes_not_breaks p q rule (met u a b t c) (not_declared r v w x y types z d) = d (c types z)
