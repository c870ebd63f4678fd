use Rattle.std.proofs.Common.{◌≡◌, ◌-◌, true, ◌∙◌, arith}
use Rattle.fort_parse_reading.specs.Parser.{next_of}
use Rattle.fort_parse_reading.proofs.Loops.{no_front, goes_on}
use Rattle.fort_parse.specs.Blocks.{is_ended}
use Rattle.fort_parse.proofs.Ended.{ended_is}
use Rattle.fort_link_units.specs.Apis.{begins_declared, declared, declarations}
use Rattle.fort_link_units.proofs.apis.ApiGrammar.declarations.Goals as goal

pub loop-turn-init : goal.loop-turn-init
unfolding declarations
loop-turn-init c =
    let k : c.args.self.now.depth - 0 ≡ c.args.self.now.depth = omega arith
    in rw (c.new-found.ensures, k) (no_front _)

pub loop-turn-preserved : goal.loop-turn-preserved
loop-turn-preserved c =
    let l = c.loop-turn in
    let e : begins_declared l.ready (next_of l.tokens) ≡ true = grind arith in
    let x = c.in_ok-declared.declared in
    let r : c.is_some-ready.result ≡ is_ended x.semicolon =
    c.is_some-ready.ensures ∙ ended_is x.semicolon in
    rw (c.in_ok-add.ensures.ok, r)
    (goes_on begins_declared (λ ready e. is_ended e.semicolon)
    (λ ready. declared c.args.self.now.names.now c.args.self.now.depth) l.found
    c.args.self.now.depth l._turn l.ready l.tokens _ x c.declared.new.tokens (omega arith) e
    c.in_ok-declared.ensures l.invariant)
