use Rattle.std.proofs.Common.{◌≡◌, drop}
use Rattle.fort_elab_meaning.specs.Bodies.{body_at}
use Rattle.fort_elab.proofs.bodies.body_at.Given as goal

abbrev pub invariant-loop-one : goal.invariant-loop-one
invariant-loop-one l = body_at l.terms l.place ≡ body_at (drop l.one-index l.terms) l.place
