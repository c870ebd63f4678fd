use Rattle.std.proofs.Common.{◌∙◌}
use Rattle.fort_form_build.proofs.Parts.{maybe_taken, maybe_none}
use Rattle.fort_form_build.proofs.blocks.maybe.Goals as goal

pub returns-then-is : goal.returns-then-is
returns-then-is c = λ last e. maybe_taken last (e ∙ c.if-is.true) c.in_ok-last.ensures

pub returns : goal.returns
returns c = λ last e. maybe_none last (e ∙ c.if-is.false)
