use Rattle.fort_form_meaning.specs.Source.{Source}
use Rattle.fort_form_meaning.specs.Formed.{formed_next_generator}
use Rattle.std.proofs.Common.{refl}
use Rattle.fort_form_meaning.proofs.FormsBlocks.{next_generator_forms}
use Rattle.fort_form_tasks.specs.Tasks.{next_source}
use Rattle.fort_form_build.proofs.Giving.{none_yet, one_more, all_made, named_as}
use Rattle.fort_form_build.proofs.expressions.further_generators.Goals as goal

pub loop-next-init : goal.loop-next-init
loop-next-init c =
    λ k. none_yet (next_source k) (formed_next_generator k) c.args.others.now _ c.new-made.ensures

pub loop-next-preserved : goal.loop-next-preserved
loop-next-preserved c =
    λ k. one_more (next_source k) (formed_next_generator k) c.args.others.now c.loop-next.next-index
    c.next-item.result c.loop-next-test.true c.next-item.is (c.loop-next.invariant k)
    (named_as (c.in_ok-generator.ensures k) refl (next_generator_forms k c.next-item.result))
    c.in_ok-push.ensures.ok

pub returns : goal.returns
returns c =
    λ k. all_made (next_source k) (formed_next_generator k) c.args.others.now c.loop-next.next-index
    c.loop-next-test.false (c.loop-next.invariant k)
