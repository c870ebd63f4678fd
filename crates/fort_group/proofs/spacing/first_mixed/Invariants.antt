use Rattle.std.proofs.Common.{◌≡◌, drop}
use Rattle.fort_group.specs.Spacing.{first_mixed}
use Rattle.fort_group.proofs.spacing.first_mixed.Given as goal

abbrev pub invariant-loop-joint : goal.invariant-loop-joint
invariant-loop-joint l = first_mixed l.joints ≡ first_mixed (drop l.joint-index l.joints)
