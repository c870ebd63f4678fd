use Rattle.std.proofs.Common.{◌↔◌, IsTrue, refl, sym, ap, ◌∙◌, subst}
use Rattle.fort_types.specs.Table.{is_set}
use Rattle.fort_member_fields.specs.Walks.{SomeIn, Lacks, fields_of}
use Rattle.fort_member_fields.proofs.LackLaws.{lacks_told}
use Rattle.fort_member_fields.proofs.lacking.lacks_of.Goals as goal

pub returns : goal.returns
returns c =
    λ h r. lacks_told h c.args.table.now.below c.args.must c.args.own.now c.args.a
    c.args.declared.now c.args.t c.lacks_any.result (c.if-not-is_trait.ensures.0 refl)
    (sym (c.if-not-set_at.ensures ∙ ap (λ z. is_set z c.args.a c.args.t) c.as_slice.ensures))
    (subst (λ z. IsTrue c.lacks_any.result
    ↔ SomeIn (Lacks h c.args.must z) (fields_of c.args.own.now c.args.t))
    c.fields_at.ensures (subst (λ z. IsTrue c.lacks_any.result
    ↔ SomeIn (Lacks h c.args.must c.fields_at.result.now) z) c.fields_at-2.ensures
    (c.lacks_any.ensures h r)))
