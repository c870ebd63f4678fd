use Rattle.std.proofs.Common.{◌≡◌, ◌≤◌, length, true, false, refl, sym, ◌∙◌, arith}
use Rattle.fort_machine.specs.Effects.{afterwards}
use Rattle.fort_store_effects.specs.Levels.{effect_of, levels_of, seen}
use Rattle.fort_store_effects.proofs.Taken.{suits_all, suits_one}
use Rattle.fort_store_effects.proofs.layer.Layer.admits.Goals as goal

pub returns-then-not-admits_at : goal.returns-then-not-admits_at
returns-then-not-admits_at c =
    let store = afterwards (effect_of c.args.self.now) (seen (levels_of c.args.below.now)) in (
      λ e. let z : false ≡ true = e in absurd cc,
      λ h. sym c.if-not-admits_at.true
          ∙ c.admits_at.ensures.1
          (suits_one c.args.next.now store c.loop-i.i c.len-i-end.ensures.unique h),
    )

pub returns : goal.returns
returns c =
    let store = afterwards (effect_of c.args.self.now) (seen (levels_of c.args.below.now)) in
    let end : length c.args.next.now.cells.entries ≤ c.loop-i.i =
    omega (arith, c.loop-i-test.false, c.len-i-end.ensures.len) in (
      λ e. suits_all c.args.next.now store c.loop-i.i end c.loop-i.invariant,
      λ h. refl,
    )
