use Rattle.std.proofs.Common.{◌≡◌, ◌+◌, ◌<◌, ◌≤◌, ◌^◌, true, false, sym, ◌∙◌, subst}
use Rattle.fort_machine.specs.Effects.{making}
use Rattle.fort_store_effects.specs.Calls.{AreFree}
use Rattle.fort_store_effects.specs.Levels.{levels_of, seen}
use Rattle.fort_walk_course.specs.Calls.{MayStep}
use Rattle.fort_step_deal.specs.Deals.{making_cost, made_by, new_values}
use Rattle.fort_frames_moves.specs.Turns.{ready_term}
use Rattle.fort_plain.specs.Takes.{IsCost}
use Rattle.fort_plain.proofs.Stepping.{makes_wrong, makes_last, makes_passes, may_make, free_all, bound_all, went_on}
use Rattle.fort_plain.proofs.Testing.{too_dear}
use Rattle.fort_plain.proofs.steps.makes_some.Goals as goal

pub are_free-requires : goal.are_free-requires
are_free-requires c = c.requires.only.thread.stands.course.nothing

pub returns-then-not-are_free : goal.returns-then-not-are_free
returns-then-not-are_free c =
    let s = seen (levels_of c.args.course.layers) in
    makes_wrong c.args.program.now c.args.course c.args.place (ready_term c.args.ready.now)
    (new_values c.args.makes) (λ l. made_by c.args.makes l) (making_cost c.args.makes)
    c.args.turn c.args.loc.0 c.requires.only
    (λ h. let z : false ≡ true =
    sym c.if-not-are_free.true
    ∙ c.are_free.ensures.1 (subst (λ n. (c.args.loc.0 + n ≤ 2 ^ 64)
    × AreFree c.args.loc.0 n s) (sym c.makes_count.ensures) h) in cc)

pub returns-then-turn : goal.returns-then-turn
returns-then-turn c =
    let s = seen (levels_of c.args.course.layers) in
    makes_last c.args.program.now c.args.course c.args.place (ready_term c.args.ready.now)
    (new_values c.args.makes) (λ l. made_by c.args.makes l) (making_cost c.args.makes)
    c.args.loc.0 c.cost_with-all.result c.args.turn c.requires.only
    (subst (λ n. (c.args.loc.0 + n ≤ 2 ^ 64)
    × AreFree c.args.loc.0 n s) c.makes_count.ensures
    (c.are_free.ensures.0 c.if-not-are_free.false)) c.if-turn.true c.requires.turn
    (subst (λ n. IsCost (c.args.course.spent + n) c.cost_with-all.result) c.cost-cost.ensures
    c.cost_with-all.ensures)

pub returns-then-not-affords : goal.returns-then-not-affords
returns-then-not-affords c =
    makes_passes c.args.program.now c.args.course c.args.place (ready_term c.args.ready.now)
    (new_values c.args.makes) (λ l. made_by c.args.makes l) (making_cost c.args.makes)
    c.args.turn c.args.loc.0 c.requires.only
    (subst (λ n. c.args.course.fuel < c.args.course.spent + n) c.cost-cost.ensures
    (too_dear c.args.course.spent c.cost-cost.result c.args.course.fuel c.affords.result
    c.affords.ensures c.if-not-affords.true))

pub make_at-requires-clause-may : goal.make_at-requires-clause-may
make_at-requires-clause-may c =
    subst (λ n. MayStep c.args.program.now c.args.course c.args.place c.args.loc.0 c.in_ok-next.next
    (making c.args.loc.0 c.in_ok-values.values n)) (sym c.cost-cost.ensures)
    (may_make c.args.program.now c.args.course c.args.place (ready_term c.args.ready.now)
    (new_values c.args.makes) c.in_ok-values.values (λ l. made_by c.args.makes l)
    (making_cost c.args.makes) c.args.loc.0 c.in_ok-next.next c.requires.only
    c.in_ok-next.ensures c.in_ok-values.ensures)

pub make_at-requires-clause-free : goal.make_at-requires-clause-free
make_at-requires-clause-free c =
    free_all c.args.loc.0 c.makes_count.result c.in_ok-values.values (new_values c.args.makes)
    (seen (levels_of c.args.course.layers)) c.in_ok-values.ensures c.makes_count.ensures
    (c.are_free.ensures.0 c.if-not-are_free.false)

pub make_at-requires-clause-bounded : goal.make_at-requires-clause-bounded
make_at-requires-clause-bounded c =
    bound_all c.args.loc.0 c.makes_count.result c.in_ok-values.values (new_values c.args.makes)
    (seen (levels_of c.args.course.layers)) c.in_ok-values.ensures c.makes_count.ensures
    (c.are_free.ensures.0 c.if-not-are_free.false)

pub returns : goal.returns
returns c =
    went_on c.args.program.now c.args.course c.in_ok-course.course c.args.place
    (ready_term c.args.ready.now) c.in_ok-next.next c.args.turn c.args.loc.0
    c.in_ok-course.ensures.stands c.in_ok-course.ensures.fuel c.in_ok-course.ensures.picks
    c.if-turn.false
