use Rattle.std.proofs.Common.{sym}
use Rattle.fort_typing_elements.proofs.Juxtaposing.{rewriting_is_computed}
use Rattle.fort_typing_elements.proofs.rewritings.rewriting.Goals as goal

pub returns : goal.returns
returns c = sym (rewriting_is_computed c.args.elements.now c.tight.result c.tight.ensures.rewrites)
