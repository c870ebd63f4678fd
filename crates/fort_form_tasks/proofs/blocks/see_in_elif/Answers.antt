use Rattle.std.proofs.Common.{List, [], ◌∷◌, refl}
use Rattle.fort_tree.specs.declared.delimited.BlockItem.{BlockItem}
use Rattle.fort_tree.specs.declared.delimited.Elif.{out-Elif}
use Rattle.fort_form_tasks.specs.Tasks.{formed_block}
use Rattle.fort_form_tasks.proofs.Steps.{by, two_seen}
use Rattle.fort_form_tasks.proofs.blocks.see_in_elif.Goals as goal

pub returns : goal.returns
returns c =
    λ k. two_seen k _ _ (c.in_ok-see.ensures k) (by k (λ
    (l : List BlockItem). formed_block k (out-Elif c.args.elif.now).then l ∷ [])
    c.as_slice.ensures (c.in_ok-see-2.ensures k)) refl
