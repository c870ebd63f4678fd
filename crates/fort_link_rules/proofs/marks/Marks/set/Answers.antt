use Rattle.std.proofs.Common.{ℕ, List, length, get_or, refl, ap, ◌∙◌, arith}
use Rattle.std.specs.Prelude.{◌==◌, if◌then◌else◌}
use Rattle.std.proofs.lemmas.List.{length_push}
use Rattle.fort_link_rules.proofs.Marking.{get_or_zero, set_at}
use Rattle.fort_link_rules.proofs.marks.Marks.set.Goals as goal

pub grow-init : goal.grow-init
grow-init c = λ k. refl

pub grow-preserved : goal.grow-preserved
grow-preserved c =
    λ k. ap (λ (xs : List ℕ). get_or xs k 0) c.in_ok-push.ensures.ok
    ∙ (get_or_zero c.grow.self.marks k ∙ c.grow.invariant k)

pub grow-smaller : goal.grow-smaller
grow-smaller c =
    let e = ap (λ (xs : List ℕ). length xs) c.in_ok-push.ensures.ok
    ∙ length_push c.grow.self.marks 0 in omega arith

pub returns : goal.returns
returns c =
    λ other. ap (λ (xs : List ℕ). get_or xs other.0 0) c.set.ensures
    ∙ (set_at c.grow.self.marks c.args.id.0 other.0 c.args.mark (omega arith)
    ∙ ap (λ (m : ℕ). if c.args.id.0 == other.0 then c.args.mark else m) (c.grow.invariant other.0))
