use Rattle.std.proofs.Common.{List, Option, [], ◌∷◌, ap, ◌∙◌}
use Rattle.fort_tree.specs.declared.delimited.BlockItem.{BlockItem}
use Rattle.fort_tree.specs.declared.delimited.Finally.{Finally, out-Finally}
use Rattle.fort_form_meaning.proofs.FormsBlocks.{finally_forms}
use Rattle.fort_form_tasks.specs.Tasks.{inside_finally, formed_block}
use Rattle.fort_form_tasks.proofs.Steps.{by, one_seen}
use Rattle.fort_form_tasks.proofs.blocks.see_finally.Goals as goal

pub returns-in_ok-see : goal.returns-in_ok-see
returns-in_ok-see c =
    λ k. one_seen k (by k (λ
    (l : List BlockItem). formed_block k (out-Finally c.in-Some.finally).finally l ∷ [])
    c.as_slice.ensures (c.in_ok-see.ensures k)) (ap (λ
    (o : Option Finally). inside_finally k o) c.in-Some.is
    ∙ ap (λ u. u ∷ []) (finally_forms k c.in-Some.finally))
