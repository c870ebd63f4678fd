-- The notes. It restates the chapter "Statuses and notes" of docs/LANGUAGE.md, and the names of the
-- rules are those of its table of rules.
use Rattle.std.specs.Prelude.{ℕ, ◌==◌, List, [], ◌++◌, codes, decimal, if◌then◌else◌}
use Rattle.fort_base.specs.declared.refusal.Rule.{Rule}
use Rattle.fort_base.specs.declared.refusal.Place.{Place}
use Rattle.fort_base.specs.Rules.{rule_name}
use Rattle.fort_core.specs.declared.program.Program.{Program}
use Rattle.fort_core.specs.declared.value.Value.{Value}
use Rattle.fort_machine.specs.Texts.{text}

-- ---- the notes that are the same at each call

abbrev pub usage : List ℕ
usage = codes
    "usage: fortress check FILE | show FILE | run FILE [--workers N] [--fuel N] | bench N | record FILE [--workers N] [--fuel N] | audit FILE RECORD | link FILE... [--workers N] [--fuel N]\n"

abbrev pub read_fault : List ℕ
read_fault = codes "read fault\n"

abbrev pub write_fault : List ℕ
write_fault = codes "write fault\n"

abbrev pub out_of_fuel : List ℕ
out_of_fuel = codes "out of fuel\n"

abbrev pub want_of_memory : List ℕ
want_of_memory = codes "want of memory\n"

abbrev pub too_large : List ℕ
too_large = codes "file too large\n"

-- the note of a status that always has the same; none for others
abbrev pub fixed : ℕ → List ℕ
fixed status =
    if status == 2 then usage else
    if status == 3 then read_fault else
    if status == 4 then write_fault else
    if status == 6 then out_of_fuel else
    if status == 7 then want_of_memory else
    if status == 8 then too_large else []

-- ---- a refusal

-- FILE:LINE:COLUMN: rule NUMBER NAME
abbrev pub refusal : List ℕ → Rule → Place → List ℕ
refusal file rule place =
    file ++ codes ":" ++ decimal place.line ++ codes ":" ++ decimal place.column ++ codes ": rule "
    ++ decimal rule.0
    ++ codes " " ++ rule_name rule ++ codes "\n"

-- ---- an exception that nothing caught, by its text, which is its type's name

abbrev pub uncaught : Program → Value → List ℕ
uncaught program value = codes "uncaught exception " ++ text program value ++ codes "\n"
