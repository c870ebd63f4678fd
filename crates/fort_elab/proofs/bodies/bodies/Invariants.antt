use Rattle.std.proofs.Common.{◌≡◌, ◌++◌, drop}
use Rattle.fort_elab_meaning.specs.Bodies.{bodies}
use Rattle.fort_elab_meaning.specs.Read.{given_of}
use Rattle.fort_elab.proofs.bodies.bodies.Given as goal

abbrev pub invariant-loop-body : goal.invariant-loop-body
invariant-loop-body l =
    l.terms ++ bodies (given_of l.known) l.next (drop l.body-index l.list)
    ≡ bodies (given_of l.known) 0 l.list
