use Rattle.std.proofs.Common.{◌≡◌, take}
use Rattle.std.specs.Prelude.{map}
use Rattle.fort_link_units.specs.Answer.{plain}
use Rattle.fort_link_units.proofs.openers.plain_tokens.Given as goal

abbrev pub invariant-loop-token : goal.invariant-loop-token
invariant-loop-token l = l.found ≡ map plain (take l.token-index l.tokens)
