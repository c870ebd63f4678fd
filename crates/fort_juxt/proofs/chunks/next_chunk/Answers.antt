use Rattle.std.proofs.Common.{sym, ap, ◌∙◌, ◌∷◌, arith}
use Rattle.fort_juxt.specs.Walks.{groups_from}
use Rattle.fort_juxt.proofs.Steps.{with_operands, with_functions}
use Rattle.fort_juxt.proofs.chunks.next_chunk.Goals as goal
use Rattle.fort_juxt.proofs.chunks.next_chunk.Goals.{then-middle-end+in_ok-argument+in_ok-grouping, else-middle-end+in_ok-grouping-2}

pub returns-clause-grouped : goal.returns-clause-grouped
returns-clause-grouped c = elim c.if-middle-end.branch [
  | then-middle-end+in_ok-argument+in_ok-grouping w ↦
      with_operands c.args.elements.now c.args.from c.run_end-middle.result c.run_end-end.result
      c.requires c.run_end-middle.ensures c.run_end-end.ensures
      w.in_ok-argument.argument w.in_ok-grouping.grouping w.in_ok-argument.ensures
      w.in_ok-grouping.ensures
      ∙ ap (λ g. g ∷ groups_from c.args.elements.now c.run_end-end.result) (sym w.grouping-is)
  | else-middle-end+in_ok-grouping-2 w ↦
      with_functions c.args.elements.now c.args.from c.run_end-middle.result c.run_end-end.result
      c.requires c.run_end-middle.ensures c.run_end-end.ensures
      w.in_ok-grouping-2.grouping (let f = w.if-middle-end.false
      in omega arith) w.in_ok-grouping-2.ensures
      ∙ ap (λ g. g ∷ groups_from c.args.elements.now c.run_end-end.result) (sym w.grouping-is)
]
