use Rattle.std.proofs.Common.{refl, sym, ap, ◌∙◌}
use Rattle.std.proofs.lemmas.Option.{slice_get_read}
use Rattle.fort_hier.specs.declared.heads.TypeHead.{TypeHead}
use Rattle.fort_types_builtin.specs.Types.{declared_spellings}
use Rattle.fort_hier.specs.Names.{spelling}
use Rattle.fort_hier.specs.Numbers.{head_spelling}
use Rattle.fort_hier.proofs.NumberLaws.{mapped_step, mapped_all}
use Rattle.fort_hier.proofs.accepted.names_in.Goals as goal

pub loop-i-preserved : goal.loop-i-preserved
loop-i-preserved c =
    mapped_step (head_spelling c.args.names.now) declared_spellings _ _ c.args.heads.now c.loop-i.i
    c.index-heads-i.result _
    (slice_get_read _ _ _ _ refl c.loop-i-test.true c.index-heads-i.is)
    (c.in_ok-from_slice.ensures ∙ c.spelled.ensures ∙ ap (λ
    (z : TypeHead). spelling c.args.names.now z.name) (sym c.index-heads-i.is))
    c.in_ok-push.ensures.ok c.loop-i.invariant

pub returns : goal.returns
returns c =
    mapped_all (head_spelling c.args.names.now) declared_spellings _ c.args.heads.now c.loop-i.i
    c.loop-i-test.false c.loop-i.invariant
