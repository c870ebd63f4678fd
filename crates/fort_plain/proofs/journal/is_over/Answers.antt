use Rattle.std.proofs.Common.{◌≡◌, ◌<◌, ◌≤◌, ◌^◌, refl, sym, subst, arith}
use Rattle.std.proofs.lemmas.Bool.{ltb-true, lt-ltb}
use Rattle.fort_plain.specs.Takes.{IsCost}
use Rattle.fort_plain.proofs.journal.is_over.Goals as goal

pub returns-in-None : goal.returns-in-None
returns-in-None c = λ n h.
    let high : 2 ^ 64 ≤ n = subst (IsCost n) c.in-None.is h in (
      λ e. omega (arith, high),
      λ k. refl,
    )

pub returns-in-Some : goal.returns-in-Some
returns-in-Some c = λ n h.
    let same : c.in-Some.cost ≡ n = subst (IsCost n) c.in-Some.is h in (
      λ e. subst (λ x. c.args.fuel < x) same (ltb-true c.args.fuel c.in-Some.cost e),
      λ k. lt-ltb c.args.fuel c.in-Some.cost (subst (λ x. c.args.fuel < x) (sym same) k),
    )
