use Rattle.std.proofs.Common.{sym, ap, ◌∙◌}
use Rattle.std.specs.Prelude.{Some}
use Rattle.fort_store_effects.specs.Levels.{levels_of, seen}
use Rattle.fort_frames_moves.specs.Turns.{ready_term}
use Rattle.fort_step_deal.specs.Deals.{next_by}
use Rattle.fort_walk_stretch.proofs.Taking.{asks_on}
use Rattle.fort_walk_stretch.proofs.steps.asks.Goals as goal

pub reads_by-requires-clause-may : goal.reads_by-requires-clause-may
reads_by-requires-clause-may c =
    let a = c.args in
    λ next is. asks_on a.program.now a.inner (seen (levels_of a.view.now)) a.room a.stretch a.place
    (ready_term a.ready) a.loc.0 (λ v. next_by a.goes v) c.in_ok-value-in-Some.value
    next c.requires.on c.requires.acts is

pub reads_by-requires-clause-there : goal.reads_by-requires-clause-there
reads_by-requires-clause-there c =
    sym c.in-Some.ensures ∙ ap Some (sym c.in_ok-value-in-Some.ensures)
