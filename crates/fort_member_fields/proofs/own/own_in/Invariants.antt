use Rattle.std.proofs.Common.{◌≡◌, ◌++◌, [], List, length, take}
use Rattle.std.specs.Prelude.{replicate}
use Rattle.std.specs.List.{flat_map}
use Rattle.fort_hier.specs.Names.{Spelling}
use Rattle.fort_hier.specs.Numbers.{HoldsNumbers}
use Rattle.fort_types_builtin.specs.declared.types.TheConstants.{TYPE_COUNT}
use Rattle.fort_member_fields.specs.Own.{declared_own}
use Rattle.fort_member_fields.proofs.own.own_in.Given as goal

abbrev pub invariant-loop-declared : goal.invariant-loop-declared
invariant-loop-declared l = (list : List Spelling) → HoldsNumbers list l.numbers
    → length list ≡ l.size
    → l.own ≡ replicate TYPE_COUNT []
    ++ flat_map (declared_own list l.names) (take l.declared-index l.declarations)
