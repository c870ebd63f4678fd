use Rattle.fort_types.proofs.laws.no_type_below_two.Goals as goal
use Rattle.fort_types.proofs.BelowTwo.{never_below_two}

pub returns : goal.returns
returns c = λ h s a b x r w p q. never_below_two h s r x w p q
