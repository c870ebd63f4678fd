use Rattle.std.proofs.Common.{◌≡◌, take}
use Rattle.std.specs.List.{flat_map}
use Rattle.fort_form_walk.specs.FormsOf.{declared_bodies}
use Rattle.fort_form_walk.specs.Reading.{tables}
use Rattle.fort_form_walk.proofs.bodies.bodies.Given as goal

abbrev pub invariant-loop-declared : goal.invariant-loop-declared
invariant-loop-declared l =
    l.made ≡ flat_map (declared_bodies (tables l.lookup)) (take l.declared-index l.declarations)
