use Rattle.std.proofs.Common.{◌≡◌, ◌++◌, take}
use Rattle.std.specs.List.{flat_map}
use Rattle.fort_form_walk.specs.FormsOf.{entry_initial}
use Rattle.fort_form_walk.specs.Reading.{tables}
use Rattle.fort_form_walk.proofs.initials.add_fields.Given as goal

abbrev pub invariant-loop-entry : goal.invariant-loop-entry
invariant-loop-entry l =
    l.made ≡ l.fn.made
    ++ flat_map (entry_initial (tables l.lookup) l.id) (take l.entry-index l.members)
