use Rattle.std.proofs.Common.{◌≡◌, drop}
use Rattle.fort_parse_first.specs.Plain.{next_names}
use Rattle.fort_parse_first.proofs.Names.{with_names}
use Rattle.fort_parse_first.proofs.plain.next_names.Given as goal

abbrev pub invariant-loop-next : goal.invariant-loop-next
invariant-loop-next l =
    with_names l.found (next_names (drop l.next-index l.exprs)) ≡ next_names l.exprs
