use Rattle.fort_cmd.proofs.Commands.{one_command}
use Rattle.fort_cmd.proofs.laws.one_command.Goals as goal

pub returns : goal.returns
returns c = one_command
