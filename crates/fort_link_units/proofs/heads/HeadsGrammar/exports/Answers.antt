use Rattle.std.proofs.Common.{◌≡◌, ◌-◌, true, arith}
use Rattle.fort_lex_token.specs.declared.reserved.Reserved.TheVariants as reserved
use Rattle.fort_parse_reading.specs.Parser.{next_of}
use Rattle.fort_parse_reading.specs.Words.{is_word, sees}
use Rattle.fort_parse_reading.proofs.Loops.{no_front, goes_on}
use Rattle.fort_link_units.specs.Heads.{export_, exports}
use Rattle.fort_link_units.proofs.heads.HeadsGrammar.exports.Goals as goal

pub loop-turn-init : goal.loop-turn-init
unfolding exports
loop-turn-init c =
    let k : c.args.self.now.depth - 0 ≡ c.args.self.now.depth = omega arith
    in rw (c.new-found.ensures, k) (no_front _)

pub loop-turn-preserved : goal.loop-turn-preserved
loop-turn-preserved c =
    let l = c.loop-turn in
    let e : sees (is_word reserved.Export) (next_of l.tokens) ≡ true = grind arith in
    rw c.in_ok-add.ensures.ok
    (goes_on (λ state. sees (is_word reserved.Export)) (λ state x. state)
    (λ state. export_ c.args.self.now.depth) l.found
    c.args.self.now.depth l._turn true l.tokens _ c.in_ok-export.field-0
    c.export.new.tokens (omega arith) e c.in_ok-export.ensures l.invariant)
