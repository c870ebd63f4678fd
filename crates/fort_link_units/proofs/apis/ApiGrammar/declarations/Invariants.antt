use Rattle.std.proofs.Common.{◌≡◌, ◌-◌}
use Rattle.fort_parse_reading.specs.Parser.{many_run}
use Rattle.fort_parse_reading.proofs.Loops.{with_front}
use Rattle.fort_parse.specs.Blocks.{is_ended}
use Rattle.fort_link_units.specs.Apis.{begins_declared, declared, declarations}
use Rattle.fort_link_units.proofs.apis.ApiGrammar.declarations.Given as goal

abbrev pub invariant-loop-turn : goal.invariant-loop-turn
invariant-loop-turn l =
    with_front l.found
    (many_run begins_declared (λ ready e. is_ended e.semicolon)
    (λ ready. declared l.self.names.now l.self.depth) (l._turn-end - l._turn) l.ready
    l.tokens)
    ≡ (declarations l.self.names.now l.self.depth).run l.fn.tokens
