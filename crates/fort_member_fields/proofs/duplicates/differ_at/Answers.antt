use Rattle.std.proofs.Common.{◌↔◌, IsTrue, subst}
use Rattle.fort_member_fields.specs.Walks.{Differ, fields_of}
use Rattle.fort_member_fields.proofs.DuplicateLaws.{differ_told}
use Rattle.fort_member_fields.proofs.duplicates.differ_at.Goals as goal

pub returns-then-b-c : goal.returns-then-b-c
returns-then-b-c c =
    differ_told c.args.own.now c.args.all.now c.args.b c.args.c c.differ.result c.if-b-c.true
    (subst (λ z. IsTrue c.differ.result
    ↔ Differ c.args.own.now (fields_of c.args.all.now c.args.b) z)
    c.fields_at-then-b-c.ensures
    (subst (λ z. IsTrue c.differ.result
    ↔ Differ c.args.own.now z c.fields_at-then-b-c.result.now) c.fields_at.ensures
    c.differ.ensures))
