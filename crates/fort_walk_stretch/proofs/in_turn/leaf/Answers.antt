use Rattle.std.proofs.Common.{◌∙◌, subst}
use Rattle.fort_store_effects.specs.Levels.{levels_of, seen}
use Rattle.fort_walk_stretch.specs.Goes.{Goes}
use Rattle.fort_walk_stretch.specs.Stretches.{Follows, IsFirst}
use Rattle.fort_walk_stretch.proofs.Turning.{begins}
use Rattle.fort_walk_stretch.proofs.in_turn.leaf.Goals as goal

pub loop-turn-init : goal.loop-turn-init
loop-turn-init c =
    let x = c.new-stretch.result in
    let first : IsFirst c.args.part c.args.room.from x =
    subst (λ t. IsFirst t c.args.room.from x) c.in_ok-share.ensures c.new-stretch.ensures in (
      begins c.args.tables.now.program.now c.args.inner (seen (levels_of c.args.view.now))
          c.args.room x c.args.part c.of-state.result first (c.of-state.ensures x.clock)
          c.requires.reach,
      first.first,
    )

pub turned-requires-clause-on : goal.turned-requires-clause-on
turned-requires-clause-on c = c.loop-turn.invariant.0

pub returns-in-Ends : goal.returns-in-Ends
returns-in-Ends c =
    let p = c.args.tables.now.program.now in
    let s = seen (levels_of c.args.view.now) in
    subst (λ t. Goes p c.args.inner s t c.args.room c.in-Ends.leg) c.loop-turn.invariant.1
    (subst (Follows p c.args.inner s c.loop-turn.stretch.first c.args.room) c.in-Ends.is
    c.in_ok-next.ensures)

pub loop-turn-preserved : goal.loop-turn-preserved
loop-turn-preserved c =
    let h = subst (Follows c.args.tables.now.program.now c.args.inner
    (seen (levels_of c.args.view.now)) c.loop-turn.stretch.first c.args.room) c.in-Goes.is
    c.in_ok-next.ensures in
    (h.0, h.1 ∙ c.loop-turn.invariant.1)
