use Rattle.std.proofs.Common.{refl, sym, ap, ◌∙◌}
use Rattle.std.proofs.lemmas.Option.{slice_get_read}
use Rattle.fort_hier.specs.declared.heads.TypeHead.{TypeHead}
use Rattle.fort_hier.specs.Names.{spelling}
use Rattle.fort_hier.proofs.NumberLaws.{heads_start, heads_next, heads_done}
use Rattle.fort_hier.proofs.numbers.add_heads.Goals as goal

pub loop-i-init : goal.loop-i-init
loop-i-init c = heads_start c.args.names.now c.args.heads.now _ c.requires.built_in

pub loop-i-preserved : goal.loop-i-preserved
loop-i-preserved c =
    heads_next _ _ _ _ _ c.index-heads-i.result _
    (slice_get_read _ _ _ _ refl c.loop-i-test.true c.index-heads-i.is)
    (c.spelled.ensures ∙ ap (λ
    (z : TypeHead). spelling c.args.names.now z.name) (sym c.index-heads-i.is))
    c.in_ok-add.ensures c.loop-i.invariant

pub returns : goal.returns
returns c = heads_done _ _ _ _ c.loop-i-test.false c.loop-i.invariant
