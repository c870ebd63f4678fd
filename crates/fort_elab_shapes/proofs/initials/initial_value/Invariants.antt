use Rattle.std.proofs.Common.{◌≡◌, drop}
use Rattle.fort_elab_meaning.specs.Shapes.{initial}
use Rattle.fort_elab_shapes.proofs.initials.initial_value.Given as goal

abbrev pub invariant-loop-one : goal.invariant-loop-one
invariant-loop-one l =
    initial l.texts l.initials l.owner l.name
    ≡ initial l.texts (drop l.one-index l.initials) l.owner l.name
