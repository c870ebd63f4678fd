use Rattle.fort_member.proofs.OverLaws.{over_component}
use Rattle.fort_member.proofs.checked.members.Goals as goal

pub returns-clause-ok : goal.returns-clause-ok
returns-clause-ok c =
    over_component c.args.component.now c.as_slice-names.result.now c.in_ok-heads.heads _
    c.as_slice-declarations.result.now c.in_ok-fields.fields _
    c.as_slice-names.ensures c.as_slice.ensures c.in_ok-heads.ensures
    c.as_slice-declarations.ensures c.in_ok-fields.ensures.ok c.in_ok-members.ensures
