use Rattle.std.proofs.Common.{arith}
use Rattle.fort_hier.specs.Numbers.{all_types, IsUnknown}
use Rattle.fort_hier.proofs.FirstFound.{first_by}
use Rattle.fort_hier.proofs.NumberLaws.{all_long}
use Rattle.fort_hier.proofs.refusals.known_types.Goals as goal

pub returns-clause-types : goal.returns-clause-types
returns-clause-types c =
    c.in_ok-types.ensures (all_types c.args.names.now c.args.heads.now) c.in_ok-numbers.ensures
    (let e = all_long c.args.names.now c.args.heads.now in omega arith)

pub returns-clause-ok : goal.returns-clause-ok
returns-clause-ok c =
    first_by (IsUnknown (all_types c.args.names.now c.args.heads.now) c.args.names.now
    c.args.mentioned.now) c.in_default.is
    (c.first_unknown.ensures (all_types c.args.names.now c.args.heads.now) c.in_ok-numbers.ensures)
