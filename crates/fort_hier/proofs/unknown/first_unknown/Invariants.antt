use Rattle.std.proofs.Common.{List}
use Rattle.fort_base.specs.Places.{IsFirst}
use Rattle.fort_hier.specs.Names.{Spelling}
use Rattle.fort_hier.specs.Numbers.{HoldsNumbers}
use Rattle.fort_hier.proofs.First.{Among}
use Rattle.fort_hier.proofs.NumberLaws.{UnknownAt}
use Rattle.fort_hier.proofs.unknown.first_unknown.Given as goal

abbrev pub invariant-loop-name : goal.invariant-loop-name
invariant-loop-name l = (list : List Spelling) → HoldsNumbers list l.numbers
    → IsFirst (Among (UnknownAt list l.names l.mentioned) l.name-index) l.best
