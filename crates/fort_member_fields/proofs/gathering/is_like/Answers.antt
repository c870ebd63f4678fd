use Rattle.std.proofs.Common.{refl}
use Rattle.std.proofs.lemmas.Option.{slice_get_read}
use Rattle.fort_member_fields.proofs.GatherLaws.{like_some, like_none}
use Rattle.fort_member_fields.proofs.gathering.is_like.Goals as goal

pub returns-in-Some : goal.returns-in-Some
returns-in-Some c =
    like_some c.args.fields.now c.args.at c.args.field.now c.in-Some.other.now c.same_field.result
    (slice_get_read c.args.fields.now _ c.args.at c.in-Some.other.now refl
    c.in-Some.ensures.lookup.3.0 c.in-Some.ensures.lookup.1) c.same_field.ensures

pub returns-in-None : goal.returns-in-None
returns-in-None c =
    like_none c.args.fields.now c.args.at c.args.field.now c.in-None.ensures.lookup.3
