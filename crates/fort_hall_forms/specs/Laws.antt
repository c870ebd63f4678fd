-- The chapter "Books" of docs/THREADS.md: parts in which forms may be sought.
use Rattle.std.specs.Prelude.{◌≡◌, Bool, false}
use Rattle.fort_core.specs.declared.program.Program.{Program}
use Rattle.fort_core.specs.declared.term.Term.{Term}
use Rattle.fort_machine.specs.Effects.{Store}
use Rattle.fort_machine.specs.Ends.{has_stepped}
use Rattle.fort_walk_legs.specs.Legs.{IsInReach}
use Rattle.fort_hall_forms.specs.Forms.{IsPartOfRun}

-- A part of which a leg may be taken stands in a term of a run.
abbrev pub PartOfRun : Type 0
PartOfRun = (p : Program) (inner : Bool) (s : Store) (t : Term)
    → IsInReach p inner s t → has_stepped t ≡ false → IsPartOfRun p t
