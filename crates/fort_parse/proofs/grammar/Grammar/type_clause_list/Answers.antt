use Rattle.std.proofs.Common.{◌≡◌, ◌-◌, ◌++◌, ◌∷◌, [], true, sym, arith, refl, ◌∙◌}
use Rattle.fort_lex_token.specs.declared.marks.Mark.TheVariants as mark
use Rattle.fort_lex_token.specs.declared.reserved.Reserved.TheVariants as reserved
use Rattle.fort_tree.specs.declared.delimited.BlockItem.{out-BlockItem}
use Rattle.fort_tree.specs.declared.delimited.CaseClause.{out-CaseClause}
use Rattle.fort_tree.specs.declared.delimited.TypeClause.{out-TypeClause}
use Rattle.fort_parse_reading.specs.Parser.{next_of}
use Rattle.fort_parse_reading.specs.Words.{sees, is_mark, is_word}
use Rattle.fort_parse_first.specs.Beginnings.{begins_flat_part, begins_run_part, begins_item, begins_case_clause, begins_type_clause}
use Rattle.fort_parse.specs.Flats.{flat_part, flat_parts, next_expr, next_exprs}
use Rattle.fort_parse.specs.Blocks.{is_ended, block, block_item, case_clause, case_list, type_clause, type_clause_list, also_block, also_blocks, elif, elifs, next_generator, next_generators}
use Rattle.fort_parse.specs.Runs.{run_at, run_part, run_parts}
use Rattle.fort_parse_reading.proofs.Loops.{no_front, goes_on}
use Rattle.fort_parse.proofs.Ended.{ended_is}
use Rattle.fort_parse.proofs.grammar.Grammar.type_clause_list.Goals as goal

pub loop-turn-init : goal.loop-turn-init
unfolding type_clause_list
loop-turn-init g c =
    let k : c.args.self.now.depth - 0 ≡ c.args.self.now.depth = omega arith
    in rw (c.new-found.ensures, k) (no_front _)

pub loop-turn-preserved : goal.loop-turn-preserved
loop-turn-preserved g c =
    let l = c.loop-turn in
    let e : begins_type_clause l.ready (next_of l.tokens) ≡ true = grind arith in
    let x = c.in_ok-clause.clause in
    let r : c.is_some-ready.result ≡ is_ended x.semicolon =
    c.is_some-ready.ensures ∙ ended_is x.semicolon in
    rw (c.in_ok-add.ensures.ok, r)
    (goes_on begins_type_clause (λ ready c. is_ended (out-TypeClause c).semicolon)
    (λ state. type_clause c.args.self.now.names.now
    (run_at c.args.self.now.names.now c.args.self.now.depth)) l.found c.args.self.now.depth
    l._turn l.ready l.tokens _ x c.type_clause.new.tokens (omega arith) e
    c.in_ok-clause.ensures l.invariant)
