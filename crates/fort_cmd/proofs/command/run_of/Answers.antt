use Rattle.std.proofs.Common.{refl}
use Rattle.fort_cmd.proofs.Matched.{run_is}
use Rattle.fort_cmd.proofs.command.run_of.Goals as goal

pub returns-clause-ok : goal.returns-clause-ok
returns-clause-ok c = λ behind r. record {
  behind = behind;
  words_are = refl;
  asks = run_is behind _ c.in_ok-file.file c.workers_of.result c.fuel_of.result r
      c.in_ok-file.ensures.ok c.workers_of.ensures c.fuel_of.ensures;
}
