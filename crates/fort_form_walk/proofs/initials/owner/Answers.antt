use Rattle.std.proofs.Common.{ap, ◌∙◌}
use Rattle.fort_hier.specs.Numbers.{all_types, number_of}
use Rattle.fort_member.specs.Declarations.{type_id}
use Rattle.fort_form_walk.proofs.initials.owner.Goals as goal

pub returns : goal.returns
returns c =
    let list = all_types c.args.lookup.now.names.now c.args.lookup.now.heads.now in
    c.in_ok-id.ensures
    ∙ ap type_id (c.number-found.ensures list c.args.lookup.now.holds c.args.lookup.now.sized
    ∙ ap (number_of list) c.spelled-spelling.ensures)
