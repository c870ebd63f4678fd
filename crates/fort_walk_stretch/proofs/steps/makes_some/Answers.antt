use Rattle.std.proofs.Common.{◌+◌, ◌≤◌, ◌^◌, length, rules}
use Rattle.fort_machine.specs.Steps.{or_unit}
use Rattle.fort_step_deal.specs.Deals.{new_values}
use Rattle.fort_store_effects.specs.Levels.{levels_of, seen}
use Rattle.fort_walk_stretch.proofs.Stepping.{makes_takes}
use Rattle.fort_walk_stretch.proofs.steps.makes_some.Goals as goal

pub returns : goal.returns
returns c =
    let a = c.args in
    let bound : a.stretch.fresh + length (or_unit (new_values a.makes)) ≤ 2 ^ 64 =
    search (rules, c.requires.numbers) in
    makes_takes a.program.now a.inner (seen (levels_of a.view.now)) a.room a.stretch
    c.in_ok-stretch.stretch a.place a.makes c.in_ok-next.next c.in_ok-values.values
    c.cost-cost.result c.makes_count-count.result c.make.new.self c.requires.on c.requires.affords
    bound c.requires.free c.cost-cost.ensures c.makes_count-count.ensures c.in_ok-values.ensures
    c.in_ok-next.ensures c.in_ok-make.ensures c.in_ok-stretch.ensures
