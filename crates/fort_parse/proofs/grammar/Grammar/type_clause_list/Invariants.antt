use Rattle.std.proofs.Common.{◌≡◌, ◌-◌, true}
use Rattle.fort_lex_token.specs.declared.marks.Mark.TheVariants as mark
use Rattle.fort_lex_token.specs.declared.reserved.Reserved.TheVariants as reserved
use Rattle.fort_tree.specs.declared.delimited.BlockItem.{out-BlockItem}
use Rattle.fort_tree.specs.declared.delimited.CaseClause.{out-CaseClause}
use Rattle.fort_tree.specs.declared.delimited.TypeClause.{out-TypeClause}
use Rattle.fort_parse_reading.specs.Parser.{many_run}
use Rattle.fort_parse_reading.specs.Words.{sees, is_mark, is_word}
use Rattle.fort_parse_first.specs.Beginnings.{begins_flat_part, begins_run_part, begins_item, begins_case_clause, begins_type_clause}
use Rattle.fort_parse.specs.Flats.{flat_part, flat_parts, next_expr, next_exprs}
use Rattle.fort_parse.specs.Blocks.{is_ended, block, block_item, case_clause, case_list, type_clause, type_clause_list, also_block, also_blocks, elif, elifs, next_generator, next_generators}
use Rattle.fort_parse.specs.Runs.{run_at, run_part, run_parts}
use Rattle.fort_parse_reading.proofs.Loops.{with_front}
use Rattle.fort_parse.proofs.grammar.Grammar.type_clause_list.Given as goal

abbrev pub invariant-loop-turn : goal.invariant-loop-turn
invariant-loop-turn g l =
    with_front l.found
    (many_run begins_type_clause (λ ready c. is_ended (out-TypeClause c).semicolon)
    (λ state. type_clause l.self.names.now (run_at l.self.names.now l.self.depth))
    (l._turn-end - l._turn) l.ready l.tokens)
    ≡ (type_clause_list l.self.names.now (run_at l.self.names.now l.self.depth)).run l.fn.tokens
