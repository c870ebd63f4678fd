use Rattle.std.proofs.Common.{List}
use Rattle.fort_types.specs.declared.hierarchy.DeclaredType.{DeclaredType}
use Rattle.fort_types.specs.Table.{HasRows}
use Rattle.fort_member_fields.specs.Walks.{Lacks}
use Rattle.fort_member_fields.proofs.Searches.{NoneTo}
use Rattle.fort_member_fields.proofs.lacking.lacks_any.Given as goal

abbrev pub invariant-loop-field : goal.invariant-loop-field
invariant-loop-field l = (h : List DeclaredType) → HasRows h l.table
    → NoneTo (Lacks h l.must l.own) l.fields l.field-index
