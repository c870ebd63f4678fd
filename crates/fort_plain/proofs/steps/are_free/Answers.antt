use Rattle.std.proofs.Common.{◌≡◌, true, false, sym, ◌∙◌}
use Rattle.fort_store_effects.specs.Levels.{levels_of, seen}
use Rattle.fort_plain.proofs.Testing.{free_none, free_more, free_one, free_rest}
use Rattle.fort_plain.proofs.steps.are_free.Goals as goal

pub loop-at-init : goal.loop-at-init
loop-at-init c = free_none c.args.loc.0 (seen (levels_of c.args.course.now.layers))

pub loop-at-preserved : goal.loop-at-preserved
loop-at-preserved c =
    free_more c.args.loc.0 c.loop-at.«at» (seen (levels_of c.args.course.now.layers))
    c.loop-at.invariant (c.is_free.ensures.0 c.if-not-is_free.false)

pub returns-then-not-is_free : goal.returns-then-not-is_free
returns-then-not-is_free c = (
  λ e. let z : false ≡ true = e in absurd cc,
  λ h. sym c.if-not-is_free.true
      ∙ c.is_free.ensures.1
      (free_one c.args.loc.0 c.args.count c.loop-at.«at» (seen (levels_of c.args.course.now.layers))
      c.loop-at-test.true h),
)

pub returns-then-is_behind : goal.returns-then-is_behind
returns-then-is_behind c = (
  λ e. free_rest c.args.loc.0 c.args.count c.loop-at.«at» c.args.course.now.fresh
      (seen (levels_of c.args.course.now.layers)) c.loop-at.invariant c.requires
      (c.is_behind.ensures.0 c.if-is_behind.true) (c.have_numbers.ensures.0 e),
  λ h. c.have_numbers.ensures.1 h.0,
)
