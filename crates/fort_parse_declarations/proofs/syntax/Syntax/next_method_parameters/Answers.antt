use Rattle.std.proofs.Common.{◌≡◌, ◌-◌, ◌||◌, true, arith}
use Rattle.fort_lex_token.specs.declared.marks.Mark.TheVariants as mark
use Rattle.fort_parse_reading.specs.Parser.{next_of}
use Rattle.fort_parse_reading.specs.Words.{is_mark, sees}
use Rattle.fort_parse_reading.proofs.Loops.{no_front, goes_on}
use Rattle.fort_parse_declarations.specs.Methods.{is_self, next_method_parameter, next_method_parameters}
use Rattle.fort_parse_declarations.proofs.syntax.Syntax.next_method_parameters.Goals as goal

pub loop-turn-init : goal.loop-turn-init
unfolding next_method_parameters
loop-turn-init c =
    let k : c.args.self.now.depth - 0 ≡ c.args.self.now.depth = omega arith
    in rw (c.new-found.ensures, k) (no_front _)

pub loop-turn-preserved : goal.loop-turn-preserved
loop-turn-preserved c =
    let l = c.loop-turn in
    let e : sees (is_mark mark.Comma) (next_of l.tokens) ≡ true = grind arith in
    let x = c.in_ok-next.next in
    rw (c.in_ok-add.ensures.ok, c.has_self-behind.ensures)
    (goes_on (λ seen. sees (is_mark mark.Comma)) (λ seen next. seen
    || is_self next.parameter)
    (next_method_parameter c.args.self.now.names.now c.args.self.now.depth) l.found
    c.args.self.now.depth l._turn l.behind l.tokens _ x c.next_method_parameter.new.tokens
    (omega arith) e c.in_ok-next.ensures l.invariant)
