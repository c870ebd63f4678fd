use Rattle.fort_member_fields.proofs.SeenLaws.{stood_told, names_more}
use Rattle.fort_member_fields.proofs.repeats.add_name.Goals as goal

pub returns-clause-stood : goal.returns-clause-stood
returns-clause-stood c =
    λ before h. stood_told before c.args.seen.now c.args.name c.in_ok-is_new.is_new
    c.in_ok-is_new.ensures.added h

pub returns-clause-held : goal.returns-clause-held
returns-clause-held c =
    λ before f h e. names_more before f c.args.name c.args.seen.now _
    c.in_ok-is_new.ensures.updates.0 e h
