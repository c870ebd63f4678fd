use Rattle.fort_prim.proofs.PowerLaws.{steep_power}
use Rattle.std.proofs.Common.{arith}
use Rattle.fort_prim.proofs.powers.steep_power.Goals as goal

pub returns-then-exponent-gt63 : goal.returns-then-exponent-gt63
returns-then-exponent-gt63 c = steep_power c.args.a c.args.exponent c.requires (omega arith)
