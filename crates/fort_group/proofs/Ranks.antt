-- What is over another group has the larger rank.
use Rattle.std.proofs.Common.{◌≡◌, ℕ, ◌<◌, ◌≤◌, Option, Some, None, IsTrue, inl, inr, sym, ap, ◌∙◌, arith}
use Rattle.fort_ops.specs.declared.op.Op.{Op}
use Rattle.fort_ops.specs.declared.precedence.Group.{Group}
use Rattle.fort_ops.specs.declared.precedence.Group.TheVariants.{Adjacent}
use Rattle.fort_tree.specs.declared.grouped.Grouped.{Grouped, out-Grouped}
use Rattle.fort_tree.specs.declared.grouped.Grouped.TheOpen.{Grouped-F}
use Rattle.fort_ops.proofs.Ranks.{rank_falls}
use Rattle.fort_ops.specs.Precedence.{group_of, rank}
use Rattle.fort_group.specs.Grouping.{root_at, root, fits, FitsLeft, Continues}

-- a unit counts as stronger than all
abbrev pub rank_over : Option Group → ℕ
rank_over None = 9
rank_over (Some g) = rank g

below_nine : (g : Group) → rank g < 9
below_nine Adjacent = omega arith
below_nine _ = omega arith

pub fits_rank : (o : Option Group) (g : Group) → IsTrue (fits o g) → rank g < rank_over o
fits_rank None g e = below_nine g
fits_rank (Some c) g e = rank_falls c g e

continues_rank : (t : Grouped-F Grouped) (op : Op) → Continues t op
    → rank (group_of op) ≤ rank_over (root_at t)
continues_rank (Grouped-F.Binary other l r) op (inl e) =
    let h : rank (group_of other) ≡ rank (group_of op) = ap (λ o. rank (group_of o)) e
    in omega arith
continues_rank (Grouped-F.Binary other l r) op (inr e) =
    let h : rank (group_of other) ≡ rank (group_of op) = ap rank (e.0 ∙ sym e.1) in omega arith
continues_rank (Grouped-F.Unit n) op e = absurd e
continues_rank (Grouped-F.Chain ops parts) op e = absurd e
continues_rank (Grouped-F.Juxt units) op e = absurd e

pub left_rank : (t : Grouped) (op : Op) → FitsLeft t op → rank (group_of op) ≤ rank_over (root t)
left_rank t op (inl e) = let h = fits_rank (root t) (group_of op) e in omega arith
left_rank t op (inr e) = continues_rank (out-Grouped t) op e
