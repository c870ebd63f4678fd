-- A component whose overload sets keep the rules breaks none.
use Rattle.std.proofs.Common.{◌≡◌, inl, inr, ℕ, sym, ap, ◌∙◌}
use Rattle.std.specs.List.{slice_get}
use Rattle.fort_base.specs.declared.refusal.Place.{Place}
use Rattle.fort_types.specs.Hierarchy.{DeclaredTypes, Sound}
use Rattle.fort_types_sets.specs.declared.member.Members.{Members}
use Rattle.fort_over.specs.Answers.{KeepAllRules, IsReported}
use Rattle.fort_over.proofs.PairLaws.{passes_not_breaks}

-- members whose sets keep the rules break none, and neither do others with these sets
pub none_reported : (h : DeclaredTypes) → Sound h → (kept m : Members) (rule : ℕ) (place : Place)
    → m.sets ≡ kept.sets → KeepAllRules h kept → IsReported h m rule place → ⊥
none_reported h sound kept m rule place e keep (inl (spot, at, first)) =
    passes_not_breaks h sound first.s first.p first.q rule
    ((keep spot.number first.s (sym (ap (λ sets. slice_get sets spot.number) e)
    ∙ first.asked.0)).pairs spot.earlier spot.later first.p first.q
    first.asked.1.earlier first.asked.1.later first.asked.1.in_order) first.breaks
none_reported h sound kept m rule place e keep (inr (is, none, earliest)) =
    let b = earliest.breaks in
    b.uncovered
    ((keep b.n b.s (sym (ap (λ sets. slice_get sets b.n) e) ∙ b.set_is)).covered b.i b.at b.d
    b.t b.o b.stands b.is_abstract b.is_below)
