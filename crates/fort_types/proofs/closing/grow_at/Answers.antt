use Rattle.std.proofs.Common.{◌≡◌, true, false, refl}
use Rattle.fort_types.proofs.Closure.{no_step, adds_holds}
use Rattle.fort_types.proofs.closing.grow_at.Goals as goal

pub returns-then-not-parted-clause-progress : goal.returns-then-not-parted-clause-progress
returns-then-not-parted-clause-progress c =
    no_step _ _ (λ p. let f : false ≡ true = c.if-not-parted.ensures.1 p in absurd cc)

pub returns-clause-holds : goal.returns-clause-holds
returns-clause-holds c =
    adds_holds _ _ _ _ _ c.requires.column c.set.ensures c.requires.holds
    (c.if-not-parted.ensures.0 refl)
