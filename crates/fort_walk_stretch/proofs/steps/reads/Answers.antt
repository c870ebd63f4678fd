use Rattle.std.proofs.Common.{refl}
use Rattle.fort_machine.specs.Effects.{reading}
use Rattle.fort_store_effects.specs.Levels.{levels_of, seen}
use Rattle.fort_walk_stretch.proofs.Taking.{reads_adds, takes}
use Rattle.fort_walk_stretch.proofs.steps.reads.Goals as goal

pub returns : goal.returns
returns c =
    let a = c.args in
    let s = seen (levels_of a.view.now) in
    takes a.program.now a.inner s a.room a.stretch (record a.stretch { done = c.read.new.self })
    c.in_ok-stretch.stretch a.place 0 a.next (reading a.loc.0 a.value) c.requires.may
    (reads_adds a.room a.stretch s a.loc.0 a.value c.requires.there c.requires.affords)
    c.in_ok-read.ensures refl refl refl c.in_ok-stretch.ensures
