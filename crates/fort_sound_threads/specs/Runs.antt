-- Chapter "The machine with threads": what the tables of a program are worth: each of its runs is one
-- of the machine with threads.
use Rattle.std.specs.Prelude.{List}
use Rattle.fort_core.specs.declared.pick.Pick.{Pick}
use Rattle.fort_core.specs.declared.program.Program.{Program}
use Rattle.fort_core.specs.declared.term.Term.{Term}
use Rattle.fort_machine.specs.Effects.{Effect}
use Rattle.fort_machine.specs.Journals as machine
use Rattle.fort_sound_typed.specs.Goes.{Complete}
use Rattle.fort_sound_typed.specs.Sound.{Sound}
use Rattle.fort_threads.specs.Known.{Known}
use Rattle.fort_threads_law_whole.specs.Whole.{IsThreadedRun}
use Rattle.fort_sound_tables.specs.Threads.{HasThreads}

-- Each run of a program is one of the machine with threads, by what is known of the prelude.
abbrev pub RunsAreThreaded : Program → Known → Type 0
RunsAreThreaded p k = (picks : List Pick) (t : Term) (d : Effect) → machine.IsRun p picks t d
    → IsThreadedRun p k t d

-- So it is in a program that is sound and complete, as that of each accepted component is, and whose
-- tables have the prelude and keep its own names to it; by the declarations, the type and the object
-- that these tables have as the prelude's.
abbrev pub SoundRunsAreThreaded : Type 0
SoundRunsAreThreaded = (p : Program) → Sound p → Complete p → (h : HasThreads p)
    → RunsAreThreaded p h.shared
