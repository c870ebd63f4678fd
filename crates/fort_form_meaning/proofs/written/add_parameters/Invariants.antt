use Rattle.std.proofs.Common.{◌≡◌, ◌++◌, take}
use Rattle.std.specs.Prelude.{map}
use Rattle.fort_form_meaning.specs.Forming.{next_parameter}
use Rattle.fort_form_meaning.proofs.written.add_parameters.Given as goal

abbrev pub invariant-loop-next : goal.invariant-loop-next
invariant-loop-next g l =
    l.made ≡ l.fn.made
    ++ map (next_parameter (g.L.Lookup.source l.lookup)) (take l.next-index l.others)
