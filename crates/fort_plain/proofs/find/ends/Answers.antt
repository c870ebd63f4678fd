use Rattle.fort_plain.proofs.Finding.{value_none, throw_none}
use Rattle.fort_plain.proofs.find.ends.Goals as goal

pub returns-in-Value : goal.returns-in-Value
returns-in-Value c = λ clock path. value_none c.args.«at» c.in-Value._value path c.in-Value.is

pub returns-in-Throw : goal.returns-in-Throw
returns-in-Throw c = λ clock path. throw_none c.args.«at» c.in-Throw._value path c.in-Throw.is
