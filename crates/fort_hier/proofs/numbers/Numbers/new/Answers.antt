use Rattle.std.proofs.Common.{rules}
use Rattle.fort_hier.proofs.NumberLaws.{numbers_none}
use Rattle.fort_hier.proofs.numbers.Numbers.new.Goals as goal

pub returns : goal.returns
returns c = numbers_none _ (λ v. search rules)
