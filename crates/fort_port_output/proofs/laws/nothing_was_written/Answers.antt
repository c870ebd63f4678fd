use Rattle.fort_port_output.proofs.Growing.{none_written}
use Rattle.fort_port_output.proofs.laws.nothing_was_written.Goals as goal

pub returns : goal.returns
returns g c out is faults text p ready calm none = none_written is faults text p ready calm none
