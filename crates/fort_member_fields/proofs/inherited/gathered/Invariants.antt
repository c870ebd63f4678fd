use Rattle.std.proofs.Common.{take}
use Rattle.std.specs.List.{flat_map}
use Rattle.fort_member_fields.specs.Walks.{KnowsNames, Gathers, fields_of}
use Rattle.fort_member_fields.proofs.inherited.gathered.Given as goal

abbrev pub invariant-loop-b : goal.invariant-loop-b
invariant-loop-b l = KnowsNames l.gathering
    × Gathers l.own (flat_map (fields_of l.all) (take l.b-index l.b-items)) l.gathering.fields
