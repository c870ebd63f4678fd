use Rattle.std.proofs.Common.{◌≡◌, ◌-◌, ◌||◌}
use Rattle.fort_lex_token.specs.declared.marks.Mark.TheVariants as mark
use Rattle.fort_parse_reading.specs.Parser.{many_run}
use Rattle.fort_parse_reading.specs.Words.{is_mark, sees}
use Rattle.fort_parse_reading.proofs.Loops.{with_front}
use Rattle.fort_parse_declarations.specs.Methods.{is_self, next_method_parameter, next_method_parameters}
use Rattle.fort_parse_declarations.proofs.syntax.Syntax.next_method_parameters.Given as goal

abbrev pub invariant-loop-turn : goal.invariant-loop-turn
invariant-loop-turn l =
    with_front l.found
    (many_run (λ seen. sees (is_mark mark.Comma)) (λ seen next. seen
    || is_self next.parameter) (next_method_parameter l.self.names.now l.self.depth)
    (l._turn-end - l._turn) l.behind l.tokens)
    ≡ (next_method_parameters l.self.names.now l.self.depth l.seen).run l.fn.tokens
