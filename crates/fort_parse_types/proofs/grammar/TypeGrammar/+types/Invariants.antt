use Rattle.std.proofs.Common.{◌≡◌, ◌-◌, ◌+◌, ◌*◌, true}
use Rattle.fort_lex_token.specs.declared.marks.Mark.TheVariants as mark
use Rattle.fort_parse_reading.specs.Parser.{many_run}
use Rattle.fort_parse_reading.specs.Words.{is_mark, sees}
use Rattle.fort_parse_reading.proofs.Loops.{with_front}
use Rattle.fort_parse_types.specs.Types.{type_tree, next_type, next_types}
use Rattle.fort_parse_types.proofs.grammar.TypeGrammar.+types.Given as goal

abbrev pub decreases-type_tree : goal.decreases-type_tree
decreases-type_tree l = 20 * l.self.now.depth + 0

abbrev pub decreases-array_type : goal.decreases-array_type
decreases-array_type l = 20 * l.self.now.depth + 1

abbrev pub decreases-next_type : goal.decreases-next_type
decreases-next_type l = 20 * l.self.now.depth + 1

abbrev pub decreases-next_types : goal.decreases-next_types
decreases-next_types l = 20 * l.self.now.depth + 2

abbrev pub decreases-type_list : goal.decreases-type_list
decreases-type_list l = 20 * l.self.now.depth + 3

abbrev pub decreases-maybe_types : goal.decreases-maybe_types
decreases-maybe_types l = 20 * l.self.now.depth + 4

abbrev pub decreases-type_parts : goal.decreases-type_parts
decreases-type_parts l = 20 * l.self.now.depth + 5

abbrev pub decreases-named_type : goal.decreases-named_type
decreases-named_type l = 20 * l.self.now.depth + 5

abbrev pub decreases-simple_type : goal.decreases-simple_type
decreases-simple_type l = 20 * l.self.now.depth + 6

abbrev pub decreases-arrow_from : goal.decreases-arrow_from
decreases-arrow_from l = 20 * l.self.now.depth + 7

abbrev pub decreases-type_level : goal.decreases-type_level
decreases-type_level l = 20 * l.self.now.depth + 8

abbrev pub invariant-next_types-loop-turn : goal.invariant-next_types-loop-turn
invariant-next_types-loop-turn l =
    with_front l.found
    (many_run (λ state. sees (is_mark mark.Comma)) (λ state x. state)
    (λ state. next_type l.self.names.now (type_tree l.self.names.now l.self.depth))
    (l._turn-end - l._turn) true l.tokens)
    ≡ (next_types l.self.names.now (type_tree l.self.names.now l.self.depth)).run l.fn.tokens
