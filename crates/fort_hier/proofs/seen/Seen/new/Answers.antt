use Rattle.std.proofs.Common.{rules}
use Rattle.fort_hier.proofs.SeenLaws.{held_none}
use Rattle.fort_hier.proofs.seen.Seen.new.Goals as goal

pub returns : goal.returns
returns c = held_none _ (λ v. search rules)
