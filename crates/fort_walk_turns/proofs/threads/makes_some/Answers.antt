use Rattle.std.proofs.Common.{◌≡◌, ℕ, ◌+◌, ◌<◌, ◌≤◌, ◌^◌, length, ap, arith, subst, sym}
use Rattle.fort_machine.specs.Effects.{making}
use Rattle.fort_machine.specs.Steps.{or_unit}
use Rattle.fort_walk_course.specs.Calls.{MayStep}
use Rattle.fort_step_deal.specs.Deals.{making_cost, made_by, new_values}
use Rattle.fort_frames_moves.specs.Turns.{ready_term}
use Rattle.fort_walk_turns.proofs.Taking.{makes_on, makes_passes, too_dear, follows_by}
use Rattle.fort_walk_turns.proofs.Growing.{step_on}
use Rattle.fort_walk_turns.proofs.threads.makes_some.Goals as goal

pub overflow_cast-loc : goal.overflow_cast-loc
overflow_cast-loc c =
    let less = c.has_room.ensures c.if-not-has_room.false in omega (arith, less)

pub make-requires-clause-first : goal.make-requires-clause-first
make-requires-clause-first c =
    let less = rw c.fresh-fresh.ensures at (c.has_room.ensures c.if-not-has_room.false) in
    omega (arith, less)

pub make-requires-clause-bounded : goal.make-requires-clause-bounded
make-requires-clause-bounded c =
    let less =
    subst (λ (n : ℕ). c.args.course.fresh + n < 2 ^ 64) c.makes_count-count.ensures
    (rw c.fresh-fresh.ensures at (c.has_room.ensures c.if-not-has_room.false)) in
    let same : length c.in_ok-values.values ≡ length (or_unit (new_values c.args.makes)) =
    ap length c.in_ok-values.ensures in
    omega (arith, less, same)

pub out_at-requires : goal.out_at-requires
out_at-requires c =
    let bound : c.args.course.fresh + length (or_unit (new_values c.args.makes)) ≤ 2 ^ 64 =
    (let less =
    subst (λ n. c.args.course.fresh + n
    < 2 ^ 64) c.makes_count-count.ensures
    (rw c.fresh-fresh.ensures at (c.has_room.ensures c.if-not-has_room.false))
    in omega (arith, less)) in
    rw c.fresh-fresh.ensures
    (makes_passes c.args.program.now c.args.course c.args.place (ready_term c.args.ready)
    (new_values c.args.makes) (λ l. made_by c.args.makes l) (making_cost c.args.makes)
    c.requires.thread.0.stands c.requires.acts bound
    (subst (λ n. c.args.course.fuel < c.args.course.spent + n) c.cost-cost.ensures
    (too_dear c.args.course.spent c.cost-cost.result c.args.course.fuel c.affords.result
    c.affords.ensures c.if-not-affords.true)))

pub make-requires-clause-may : goal.make-requires-clause-may
make-requires-clause-may c =
    subst (λ n. MayStep c.args.program.now c.args.course c.args.place c.args.course.fresh
    c.in_ok-next.next (making c.args.course.fresh c.in_ok-values.values n))
    (sym c.cost-cost.ensures)
    (makes_on c.args.program.now c.args.course c.args.place (ready_term c.args.ready)
    (new_values c.args.makes) c.in_ok-values.values (λ l. made_by c.args.makes l)
    (making_cost c.args.makes) c.in_ok-next.next
    c.requires.thread.0.stands c.requires.acts (rw c.fresh-fresh.ensures at c.in_ok-next.ensures)
    c.in_ok-values.ensures)

pub returns-clause-follows : goal.returns-clause-follows
returns-clause-follows c =
    follows_by c.args.program.now c.args.course.fuel c.in_ok-course.course.fuel c.picked.result
    c.in_ok-course.ensures.fuel c.picked.ensures.follows

pub returns-clause-grows : goal.returns-clause-grows
returns-clause-grows c =
    step_on c.args.program.now c.args.course c.in_ok-course.course c.args.place
    (ready_term c.args.ready) c.in_ok-next.next c.args.course.fresh c.picked.result c.requires.thread.0.stands
    c.in_ok-course.ensures.stands c.in_ok-course.ensures.picks c.picked.ensures.grows
