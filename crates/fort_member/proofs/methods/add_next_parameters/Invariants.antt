use Rattle.std.proofs.Common.{◌≡◌, ◌++◌, List, length, map, take}
use Rattle.fort_hier.specs.Names.{Spelling}
use Rattle.fort_hier.specs.Numbers.{HoldsNumbers}
use Rattle.fort_base.specs.declared.ty.Ty.TheVariants as a_type
use Rattle.fort_member.specs.Declarations.{next_method_parameter_type}
use Rattle.fort_member.proofs.methods.add_next_parameters.Given as goal

abbrev pub invariant-loop-next : goal.invariant-loop-next
invariant-loop-next l = (list : List Spelling) → HoldsNumbers list l.numbers → length list ≡ l.size
    → l.types
    ≡ l.initial.types
    ++ map (next_method_parameter_type list l.names (a_type.Named l.id))
    (take l.next-index l.others)
