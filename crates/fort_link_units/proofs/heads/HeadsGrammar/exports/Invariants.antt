use Rattle.std.proofs.Common.{◌≡◌, ◌-◌, true}
use Rattle.fort_lex_token.specs.declared.reserved.Reserved.TheVariants as reserved
use Rattle.fort_parse_reading.specs.Parser.{many_run}
use Rattle.fort_parse_reading.specs.Words.{is_word, sees}
use Rattle.fort_parse_reading.proofs.Loops.{with_front}
use Rattle.fort_link_units.specs.Heads.{export_, exports}
use Rattle.fort_link_units.proofs.heads.HeadsGrammar.exports.Given as goal

abbrev pub invariant-loop-turn : goal.invariant-loop-turn
invariant-loop-turn l =
    with_front l.found
    (many_run (λ state. sees (is_word reserved.Export)) (λ state x. state)
    (λ state. export_ l.self.depth) (l._turn-end - l._turn) true
    l.tokens)
    ≡ (exports l.self.depth).run l.fn.tokens
