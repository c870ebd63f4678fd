use Rattle.std.proofs.Common.{◌↔◌, IsTrue, None, refl, subst}
use Rattle.std.proofs.lemmas.Option.{slice_get-get_or}
use Rattle.fort_base.specs.Places.{IsFirst}
use Rattle.fort_member_fields.specs.Rules.{IsRepeated}
use Rattle.fort_member_fields.specs.Walks.{SomeDiffer, fields_of}
use Rattle.fort_member_fields.proofs.DuplicateLaws.{gets_none, gets_told, kind_at}
use Rattle.fort_member_fields.proofs.duplicates.gets_two.Goals as goal

pub returns-in-None : goal.returns-in-None
returns-in-None c =
    gets_none c.args.types.now c.args.own.now c.args.all.now c.args.a c.requires.all
    c.requires.inside
    (subst (λ z. IsFirst (IsRepeated z) None) c.fields_at.ensures
    (subst (IsFirst (IsRepeated c.fields_at.result.now)) c.in-None.is
    c.in_ok-first_repeated.ensures))

pub returns-in-Some : goal.returns-in-Some
returns-in-Some c =
    let e = slice_get-get_or c.args.types.now c.args.a c.index-types-a.result c.requires.inside in
    let f = slice_get-get_or c.args.types.now c.args.a c.index-types-a-in-Some.result
    c.requires.inside in
    gets_told c.args.types.now c.args.own.now c.args.all.now c.args.a _ c.any_differ.result
    c.requires.all f
    (kind_at c.args.types.now c.args.a _ _ e f (c.if-not-is_trait.ensures.0 refl))
    (subst (λ z. IsTrue c.any_differ.result
    ↔ SomeDiffer (fields_of c.args.own.now c.args.a) c.args.all.now z) c.as_slice.ensures
    (subst (λ z. IsTrue c.any_differ.result
    ↔ SomeDiffer z c.args.all.now c.as_slice.result.now) c.fields_at-in-Some.ensures
    c.any_differ.ensures))
