use Rattle.std.proofs.Common.{◌≡◌, ◌++◌, take}
use Rattle.std.specs.List.{flat_map}
use Rattle.fort_form_walk.specs.FormsOf.{next_named_parameter}
use Rattle.fort_form_walk.specs.Reading.{tables}
use Rattle.fort_form_walk.proofs.methods.add_others.Given as goal

abbrev pub invariant-loop-next : goal.invariant-loop-next
invariant-loop-next l =
    l.made ≡ l.fn.made
    ++ flat_map (next_named_parameter (tables l.lookup)) (take l.next-index l.others)
