-- What the call that reads a whole component ensures, as `Reads` of fort_parse_reading has it.
use Rattle.std.specs.Prelude.{◌≡◌, ◌≢◌, Result, Ok, Err}
use Rattle.fort_tree.specs.declared.declarations.Component.{Component}
use Rattle.fort_parse_reading.specs.declared.fault.Fault.{Fault}
use Rattle.fort_parse_reading.specs.declared.fault.Fault.TheVariants.{Memory}
use Rattle.fort_parse_reading.specs.Parser.{Row, Outcome, Read, Failed}
use Rattle.fort_parse_declarations.specs.declared.parsed.Parsed.{Parsed}

-- The outcome, unless memory fails. After a fault the tokens that are left begin there.
abbrev pub ReadsWhole : Outcome Component → Result Parsed Fault → Row → Type 0
ReadsWhole outcome (Ok parsed) new = outcome ≡ Read parsed.component new
ReadsWhole outcome (Err e) new = e ≢ Memory → outcome ≡ Failed e new
