use Rattle.std.proofs.Common.{◌≡◌, ◌-◌, true}
use Rattle.fort_lex_token.specs.declared.marks.Mark.TheVariants as mark
use Rattle.fort_parse_reading.specs.Parser.{many_run}
use Rattle.fort_parse_reading.specs.Words.{is_mark, sees}
use Rattle.fort_parse_reading.proofs.Loops.{with_front}
use Rattle.fort_parse_declarations.specs.Names.{next_object_parameter, next_object_parameters}
use Rattle.fort_parse_declarations.proofs.syntax.Syntax.next_object_parameters.Given as goal

abbrev pub invariant-loop-turn : goal.invariant-loop-turn
invariant-loop-turn l =
    with_front l.found
    (many_run (λ state. sees (is_mark mark.Comma)) (λ state x. state)
    (λ state. next_object_parameter l.self.names.now l.self.depth) (l._turn-end - l._turn)
    true l.tokens)
    ≡ (next_object_parameters l.self.names.now l.self.depth).run l.fn.tokens
