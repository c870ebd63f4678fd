use Rattle.std.proofs.Common.{List}
use Rattle.fort_types.specs.declared.hierarchy.DeclaredType.{DeclaredType}
use Rattle.fort_types.specs.Table.{HasRows}
use Rattle.fort_member_fields.specs.Walks.{IsWiderThan}
use Rattle.fort_member_fields.proofs.Searches.{NoneTo}
use Rattle.fort_member_fields.proofs.lacking.any_wider.Given as goal

abbrev pub invariant-loop-other : goal.invariant-loop-other
invariant-loop-other l = (h : List DeclaredType) → HasRows h l.table
    → NoneTo (IsWiderThan h l.field) l.own l.other-index
