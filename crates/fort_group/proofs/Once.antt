-- At most one grouping.
use Rattle.std.proofs.Common.{◌≡◌, ℕ, zero, suc, ◌+◌, ◌<◌, Some, List, inl, inr, arith, subst}
use Rattle.std.proofs.lemmas.Bool.{cases_lt}
use Rattle.fort_tree.specs.declared.grouped.Joint.{Joint}
use Rattle.fort_tree.specs.declared.grouped.Grouped.{Grouped}
use Rattle.fort_group.specs.Grouping.{IsGrouping}
use Rattle.fort_group.specs.Joining.{Joins}
use Rattle.fort_group.specs.Answers.{OneAtMost}
use Rattle.fort_group.proofs.Least.{least}
use Rattle.fort_group.proofs.Whole.{one_unit}
use Rattle.fort_group.proofs.Split.{split, split_at}

module _ (joints : List Joint) where
  once : (n i j : ℕ) (g h : Grouped) → j < i + n → IsGrouping joints i j g → IsGrouping joints i j h
      → g ≡ h
  once zero i j g h lt a b = let d = (least joints i j g a).0 in absurd (omega arith)
  once (suc n) i j g h lt a b = elim (cases_lt i j) as (λ z. g ≡ h) [
    | inl c ↦ (
        let p = split joints i j g a c in
        let q = split_at joints i j h p.at p.sign b p.weakest p.signed in
        let w = p.weakest.from in
        let w' = p.weakest.to in
        let x = once n i p.at p.halves.left q.left (omega arith) p.halves.groups_left q.groups_left
        in
        let y = once n (p.at + 1) j p.halves.right q.right (omega arith) p.halves.groups_right
        q.groups_right in
        let m = subst (λ v. Joins p.sign q.left v (Some g)) y
        (subst (λ v. Joins p.sign v p.halves.right (Some g)) x p.halves.joined) in
        let z = q.joins (Some g) m in
        cc)
    | inr c ↦ (let d = (least joints i j g a).0 in let e : i ≡ j = omega arith in
        let x = (one_unit joints i j e).only g a in let y = (one_unit joints i j e).only h b in cc)
  ]

pub one_at_most : OneAtMost
one_at_most joints i j g h a b = once joints (suc j) i j g h (omega arith) a b
