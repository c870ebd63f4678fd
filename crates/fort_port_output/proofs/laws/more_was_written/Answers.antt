use Rattle.fort_port_output.proofs.Growing.{more_written}
use Rattle.fort_port_output.proofs.laws.more_was_written.Goals as goal

pub returns : goal.returns
returns g c out sink text more p written = more_written sink text more p written
