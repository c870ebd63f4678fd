use Rattle.std.proofs.Common.{sym, ◌∙◌}
use Rattle.fort_plain.proofs.Sources.{step_is_none}
use Rattle.fort_plain.proofs.take.within_of.Goals as goal

pub unreachable-requires : goal.unreachable-requires
unreachable-requires c = step_is_none _ _ _ _ (sym c.in-Step.is ∙ c.requires.is)
