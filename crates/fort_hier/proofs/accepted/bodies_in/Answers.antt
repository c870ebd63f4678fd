use Rattle.std.proofs.Common.{None, Some, refl, sym, ap, ◌∙◌}
use Rattle.std.specs.Prelude.{replicate}
use Rattle.std.proofs.lemmas.Option.{slice_get_read}
use Rattle.fort_hier.specs.declared.heads.TypeHead.{TypeHead}
use Rattle.fort_types_builtin.specs.declared.types.TheConstants.{TYPE_COUNT}
use Rattle.fort_hier.specs.Heads.{head_body}
use Rattle.fort_hier.proofs.NumberLaws.{mapped_step, mapped_all}
use Rattle.fort_hier.proofs.accepted.bodies_in.Goals as goal

pub loop-i-preserved : goal.loop-i-preserved
loop-i-preserved c =
    mapped_step head_body (replicate TYPE_COUNT None) _ _ c.args.heads.now c.loop-i.i
    c.index-heads-i.result _
    (slice_get_read _ _ _ _ refl c.loop-i-test.true c.index-heads-i.is)
    (ap Some (c.in_ok-numbered.ensures ∙ ap (λ (z : TypeHead). z.body) (sym c.index-heads-i.is)))
    c.in_ok-push.ensures.ok c.loop-i.invariant

pub returns : goal.returns
returns c =
    mapped_all head_body (replicate TYPE_COUNT None) _ c.args.heads.now c.loop-i.i
    c.loop-i-test.false c.loop-i.invariant
