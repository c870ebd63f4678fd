use Rattle.fort_types.proofs.BelowTwo.{never_below_two}
use Rattle.fort_hier.specs.Hierarchies.{declares}
use Rattle.fort_hier.proofs.AcceptedLaws.{accepted_sound}
use Rattle.fort_hier.proofs.laws.no_type_below_two.Goals as goal

pub returns : goal.returns
returns c =
    λ component mentioned h k a b x r w p q. never_below_two (declares component)
    (accepted_sound component mentioned h k) r x w p q
