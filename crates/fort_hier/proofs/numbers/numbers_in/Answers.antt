use Rattle.fort_hier.proofs.NumberLaws.{any_last}
use Rattle.fort_hier.proofs.numbers.numbers_in.Goals as goal

pub returns : goal.returns
returns c =
    any_last c.args.names.now c.args.heads.now _ _ _ c.type_name.ensures c.in_ok-add.ensures
    c.in_ok-add_heads.ensures
