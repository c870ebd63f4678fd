use Rattle.std.proofs.Common.{◌≡◌, drop}
use Rattle.fort_elab_meaning.specs.Shapes.{has_constructor}
use Rattle.fort_elab_shapes.proofs.made_of.has_constructor.Given as goal

abbrev pub invariant-loop-set : goal.invariant-loop-set
invariant-loop-set l = has_constructor l.sets l.id ≡ has_constructor (drop l.set-index l.sets) l.id
