use Rattle.fort_lex_token.specs.declared.token.Token.{Token}
use Rattle.fort_link_rules.proofs.Steps.{one_more_mapped_at}
use Rattle.fort_link_rules.proofs.whole.add_places.Goals as goal

pub loop-token-preserved : goal.loop-token-preserved
loop-token-preserved c =
    one_more_mapped_at (λ (t : Token). t.place) c.args.tokens.now c.loop-token.token-index _
    c.args.places.now c.loop-token.places c.push.new.self c.loop-token-test.true
    c.loop-token.invariant c.in_ok-push.ensures.ok
