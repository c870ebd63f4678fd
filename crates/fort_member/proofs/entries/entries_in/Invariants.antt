use Rattle.std.proofs.Common.{◌≡◌, ◌++◌, List, length, take}
use Rattle.std.specs.List.{flat_map}
use Rattle.fort_hier.specs.Names.{Spelling}
use Rattle.fort_hier.specs.Numbers.{HoldsNumbers}
use Rattle.fort_member.specs.Declarations.{declared_entries}
use Rattle.fort_member.specs.BuiltIn.{built_in_entries}
use Rattle.fort_member.proofs.entries.entries_in.Given as goal

abbrev pub invariant-loop-declared : goal.invariant-loop-declared
invariant-loop-declared l = (list : List Spelling) → HoldsNumbers list l.numbers
    → length list ≡ l.size
    → l.entries
    ≡ built_in_entries
    ++ flat_map (declared_entries list l.names) (take l.declared-index l.declarations)
