use Rattle.std.proofs.Common.{refl}
use Rattle.fort_cmd.proofs.Matched.{file_is}
use Rattle.fort_cmd.proofs.command.show_of.Goals as goal

pub returns-clause-ok : goal.returns-clause-ok
returns-clause-ok c = λ behind r. record {
  behind = behind;
  words_are = refl;
  asks = file_is behind _ c.in_ok-word_of.field-0 r c.in_ok-word_of.ensures.ok;
}
