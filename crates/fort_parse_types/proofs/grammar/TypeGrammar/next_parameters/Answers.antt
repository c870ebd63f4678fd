use Rattle.std.proofs.Common.{◌≡◌, ◌-◌, true, arith}
use Rattle.fort_lex_token.specs.declared.marks.Mark.TheVariants as mark
use Rattle.fort_parse_reading.specs.Parser.{next_of}
use Rattle.fort_parse_reading.specs.Words.{is_mark, sees}
use Rattle.fort_parse_reading.proofs.Loops.{no_front, goes_on}
use Rattle.fort_parse_types.specs.Types.{next_parameter, next_parameters}
use Rattle.fort_parse_types.proofs.grammar.TypeGrammar.next_parameters.Goals as goal

pub loop-turn-init : goal.loop-turn-init
unfolding next_parameters
loop-turn-init c =
    let k : c.args.self.now.depth - 0 ≡ c.args.self.now.depth = omega arith
    in rw (c.new-found.ensures, k) (no_front _)

pub loop-turn-preserved : goal.loop-turn-preserved
loop-turn-preserved c =
    let l = c.loop-turn in
    let e : sees (is_mark mark.Comma) (next_of l.tokens) ≡ true = grind arith in
    rw c.in_ok-add.ensures.ok
    (goes_on (λ state. sees (is_mark mark.Comma)) (λ state x. state)
    (λ state. next_parameter c.args.self.now.names.now c.args.self.now.depth) l.found
    c.args.self.now.depth l._turn true l.tokens _ c.in_ok-next_parameter.field-0
    c.next_parameter.new.tokens (omega arith) e c.in_ok-next_parameter.ensures l.invariant)
