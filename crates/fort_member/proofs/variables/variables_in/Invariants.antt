use Rattle.std.proofs.Common.{◌≡◌, List, length, take}
use Rattle.std.specs.List.{flat_map}
use Rattle.fort_hier.specs.Names.{Spelling}
use Rattle.fort_hier.specs.Numbers.{HoldsNumbers}
use Rattle.fort_member_fields.specs.Own.{declared_variables}
use Rattle.fort_member.proofs.variables.variables_in.Given as goal

abbrev pub invariant-loop-declared : goal.invariant-loop-declared
invariant-loop-declared l = (list : List Spelling) → HoldsNumbers list l.numbers
    → length list ≡ l.size
    → l.variables
    ≡ flat_map (declared_variables list l.names) (take l.declared-index l.declarations)
