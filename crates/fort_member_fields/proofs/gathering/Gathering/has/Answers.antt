use Rattle.std.proofs.Common.{◌↔◌, IsTrue, subst}
use Rattle.fort_member_fields.specs.Walks.{SomeIn, IsLike, LikeAt}
use Rattle.fort_member_fields.proofs.GatherLaws.{has_like}
use Rattle.fort_member_fields.proofs.gathering.Gathering.has.Goals as goal

pub returns-then-is_like : goal.returns-then-is_like
returns-then-is_like c =
    has_like c.args.self.now.fields c.in-Some.at.now c.args.field.now c.is_like.result
    c.if-is_like.true
    (subst (λ z. LikeAt z c.in-Some.at.now c.args.field.now) c.as_slice.ensures
    (c.is_like.ensures.0 c.if-is_like.true))

pub returns-else-is_like : goal.returns-else-is_like
returns-else-is_like c = subst (λ z. IsTrue c.any_like.result
    ↔ SomeIn (IsLike c.args.field.now) z) c.as_slice-else-is_like.ensures c.any_like.ensures
