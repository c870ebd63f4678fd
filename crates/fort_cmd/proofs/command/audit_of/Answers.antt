use Rattle.std.proofs.Common.{refl}
use Rattle.fort_cmd.proofs.Matched.{files_are}
use Rattle.fort_cmd.proofs.command.audit_of.Goals as goal

pub returns-clause-ok : goal.returns-clause-ok
returns-clause-ok c = λ behind r. record {
  behind = behind;
  words_are = refl;
  asks = files_are behind _ c.in_ok-file.file c.in_ok-kept.kept r c.in_ok-file.ensures.ok
      c.in_ok-kept.ensures.ok;
}
