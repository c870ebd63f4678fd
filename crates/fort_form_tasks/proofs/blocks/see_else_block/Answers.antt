use Rattle.std.proofs.Common.{List, Option, [], ◌∷◌, ap, ◌∙◌}
use Rattle.fort_tree.specs.declared.delimited.BlockItem.{BlockItem}
use Rattle.fort_tree.specs.declared.delimited.ElseBlock.{ElseBlock, out-ElseBlock}
use Rattle.fort_form_meaning.proofs.FormsBlocks.{else_block_forms}
use Rattle.fort_form_tasks.specs.Tasks.{inside_else_block, formed_block}
use Rattle.fort_form_tasks.proofs.Steps.{by, one_seen}
use Rattle.fort_form_tasks.proofs.blocks.see_else_block.Goals as goal

pub returns-in_ok-see : goal.returns-in_ok-see
returns-in_ok-see c =
    λ k. one_seen k (by k (λ
    (l : List BlockItem). formed_block k (out-ElseBlock c.in-Some.otherwise).else_ l ∷ [])
    c.as_slice.ensures (c.in_ok-see.ensures k)) (ap (λ
    (o : Option ElseBlock). inside_else_block k o) c.in-Some.is
    ∙ ap (λ u. u ∷ []) (else_block_forms k c.in-Some.otherwise))
