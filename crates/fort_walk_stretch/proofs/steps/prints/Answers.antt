use Rattle.std.proofs.Common.{refl}
use Rattle.fort_machine.specs.Effects.{printed}
use Rattle.fort_store_effects.specs.Levels.{levels_of, seen}
use Rattle.fort_walk_stretch.proofs.Taking.{prints_adds, takes}
use Rattle.fort_walk_stretch.proofs.steps.prints.Goals as goal

pub returns : goal.returns
returns c =
    let a = c.args in
    let s = seen (levels_of a.view.now) in
    takes a.program.now a.inner s a.room a.stretch (record a.stretch { done = c.print.new.self })
    c.in_ok-stretch.stretch a.place 0 a.next (printed a.text a.cost) c.requires.may
    (prints_adds a.room a.stretch s a.text a.cost c.requires.affords) c.in_ok-print.ensures refl
    refl refl c.in_ok-stretch.ensures
