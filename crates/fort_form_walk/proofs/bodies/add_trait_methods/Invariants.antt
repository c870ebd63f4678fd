use Rattle.std.proofs.Common.{◌≡◌, ◌++◌, take}
use Rattle.std.specs.List.{flat_map}
use Rattle.fort_form_walk.specs.FormsOf.{trait_body}
use Rattle.fort_form_walk.specs.Reading.{tables}
use Rattle.fort_form_walk.proofs.bodies.add_trait_methods.Given as goal

abbrev pub invariant-loop-entry : goal.invariant-loop-entry
invariant-loop-entry l =
    l.made ≡ l.fn.made
    ++ flat_map (trait_body (tables l.lookup) l.id) (take l.entry-index l.members)
