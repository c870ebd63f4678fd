use Rattle.fort_port_output.proofs.Growing.{parts_written}
use Rattle.fort_port_output.proofs.laws.parts_were_written.Goals as goal

pub returns : goal.returns
returns g c before after was is end first mid last text more p q r = parts_written was is end first mid last text more p q r
