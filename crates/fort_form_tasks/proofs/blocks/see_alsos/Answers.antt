use Rattle.std.proofs.Common.{List, [], ◌∷◌, ap}
use Rattle.fort_tree.specs.declared.delimited.BlockItem.{BlockItem}
use Rattle.fort_tree.specs.declared.delimited.Also.{out-Also}
use Rattle.fort_form_meaning.specs.Formed.{formed_also}
use Rattle.fort_form_meaning.proofs.FormsBlocks.{also_forms}
use Rattle.fort_form_tasks.specs.Tasks.{formed_block}
use Rattle.fort_form_tasks.proofs.Steps.{by, one_seen, one_more}
use Rattle.fort_form_tasks.proofs.blocks.see_alsos.Goals as goal

pub loop-also-preserved : goal.loop-also-preserved
loop-also-preserved c =
    λ k. one_more k (formed_also k) c.args.others.now c.loop-also.also-index c.also-item.result
    c.loop-also-test.true c.also-item.is (c.loop-also.invariant k)
    (one_seen k (by k (λ
    (l : List BlockItem). formed_block k (out-Also c.also-item.result).do_ l ∷ [])
    c.as_slice.ensures (c.in_ok-see.ensures k))
    (ap (λ u. u ∷ []) (also_forms k c.also-item.result)))
