use Rattle.fort_hier.specs.Numbers.{all_types}
use Rattle.fort_form_walk.proofs.written.written_by.Goals as goal

pub returns : goal.returns
returns c =
    c.in_ok-ty.ensures (all_types c.args.tables.now.names.now c.args.tables.now.heads.now)
    c.args.tables.now.holds c.args.tables.now.sized
