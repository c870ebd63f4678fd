use Rattle.std.proofs.Common.{refl}
use Rattle.fort_run.proofs.Audited.{of_one_file, both_mean}
use Rattle.fort_run.proofs.Meaning.{read_means}
use Rattle.fort_run.proofs.reply.judged.Goals as goal

pub one_file-requires-clause-one : goal.one_file-requires-clause-one
one_file-requires-clause-one g c = of_one_file
    (g.F.Shelf.holding c.args.shelf.now) c.args.command c.args.text.now c.requires.is_text
    c.in_default.not-Audit

pub returns-in_ok-audit_file-in-Audit-clause-means : goal.returns-in_ok-audit_file-in-Audit-clause-means
returns-in_ok-audit_file-in-Audit-clause-means g c =
    both_mean (g.F.Shelf.holding c.args.shelf.now) _ _ c.args.command c.in-Audit.name
    c.in-Audit.kept c.args.text.now _ c.in-Audit.is c.requires.is_text
    c.requires.within c.in_ok-audit_file-in-Audit.ensures.means

pub returns-in_default-clause-means : goal.returns-in_default-clause-means
returns-in_default-clause-means g c =
    read_means (g.F.Shelf.holding c.args.shelf.now) _ _ c.args.command c.args.text.now
    c.one_file.result c.requires.is_text c.requires.within refl c.one_file.ensures
