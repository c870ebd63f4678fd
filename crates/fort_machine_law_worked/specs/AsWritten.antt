-- Chapter "Programs as written": the programs of the worked runs are so. Nothing in the code is
-- like it.
use Rattle.fort_machine.specs.Worked.{hello}
use Rattle.fort_machine.specs.Written.{WrittenProgram}
use Rattle.fort_machine_law_worked.specs.Overflow.{overflowing}
use Rattle.fort_machine_law_worked.specs.TwoThreads.{two_threads}
use Rattle.fort_machine_law_worked.specs.Failing.{failing}
use Rattle.fort_machine_law_worked.specs.Sleeping.{sleeping}
use Rattle.fort_machine_law_worked.specs.Passing.{passing}

-- The six programs are as they are written.
abbrev pub WorkedAreWritten : Type 0
WorkedAreWritten = WrittenProgram hello × WrittenProgram overflowing × WrittenProgram two_threads
    × WrittenProgram failing × WrittenProgram sleeping × WrittenProgram passing
