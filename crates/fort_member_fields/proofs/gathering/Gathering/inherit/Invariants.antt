use Rattle.std.proofs.Common.{List, ◌++◌, take}
use Rattle.fort_types_sets.specs.declared.field.Field.{Field}
use Rattle.fort_member_fields.specs.Walks.{KnowsNames, Gathers}
use Rattle.fort_member_fields.proofs.gathering.Gathering.inherit.Given as goal

abbrev pub invariant-loop-field : goal.invariant-loop-field
invariant-loop-field l = KnowsNames l.self
    × ((further : List Field) → Gathers l.own further l.initial.self.fields
    → Gathers l.own (further ++ take l.field-index l.fields) l.self.fields)
