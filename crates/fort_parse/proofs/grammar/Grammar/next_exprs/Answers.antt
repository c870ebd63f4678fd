use Rattle.std.proofs.Common.{◌≡◌, ◌-◌, ◌++◌, ◌∷◌, [], true, sym, arith, refl, ◌∙◌}
use Rattle.fort_lex_token.specs.declared.marks.Mark.TheVariants as mark
use Rattle.fort_lex_token.specs.declared.reserved.Reserved.TheVariants as reserved
use Rattle.fort_tree.specs.declared.delimited.BlockItem.{out-BlockItem}
use Rattle.fort_tree.specs.declared.delimited.CaseClause.{out-CaseClause}
use Rattle.fort_tree.specs.declared.delimited.TypeClause.{out-TypeClause}
use Rattle.fort_parse_reading.specs.Parser.{next_of}
use Rattle.fort_parse_reading.specs.Words.{sees, is_mark, is_word}
use Rattle.fort_parse_first.specs.Beginnings.{begins_flat_part, begins_run_part, begins_item, begins_case_clause, begins_type_clause}
use Rattle.fort_parse.specs.Flats.{flat_part, flat_parts, next_expr, next_exprs}
use Rattle.fort_parse.specs.Blocks.{is_ended, block, block_item, case_clause, case_list, type_clause, type_clause_list, also_block, also_blocks, elif, elifs, next_generator, next_generators}
use Rattle.fort_parse.specs.Runs.{run_at, run_part, run_parts}
use Rattle.fort_parse_reading.proofs.Loops.{no_front, goes_on}
use Rattle.fort_parse.proofs.grammar.Grammar.next_exprs.Goals as goal

pub loop-turn-init : goal.loop-turn-init
unfolding next_exprs
loop-turn-init g c =
    let k : c.args.self.now.depth - 0 ≡ c.args.self.now.depth = omega arith
    in rw (c.new-found.ensures, k) (no_front _)

pub loop-turn-preserved : goal.loop-turn-preserved
loop-turn-preserved g c =
    let l = c.loop-turn in
    let e : sees (is_mark mark.Comma) (next_of l.tokens) ≡ true = grind arith in
    rw c.in_ok-add.ensures.ok
    (goes_on (λ state. sees (is_mark mark.Comma)) (λ state x. state)
    (λ state. next_expr c.args.self.now.names.now
    (run_at c.args.self.now.names.now c.args.self.now.depth)) l.found c.args.self.now.depth
    l._turn true l.tokens _ c.in_ok-next_expr.field-0 c.next_expr.new.tokens (omega arith) e
    c.in_ok-next_expr.ensures l.invariant)
