use Rattle.std.proofs.Common.{◌-◌, List, length, take, drop, ap, ◌∙◌}
use Rattle.fort_lex_token.specs.declared.token.Token.{Token}
use Rattle.fort_link_rules.proofs.WholeLaws.{without_frame_is}
use Rattle.fort_link_rules.proofs.whole.without_frame.Goals as goal

pub returns : goal.returns
returns c =
    ap (λ (ts : List Token). take (length ts - 1 - c.head_length-head.result)
    (drop c.head_length-head.result ts)) c.requires
    ∙ without_frame_is c.args.component.now c.head_length-head.result c.head_length-head.ensures
