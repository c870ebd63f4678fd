-- The chapter "Books" of docs/THREADS.md: a form of a program whose threads go on in a hall.
use Rattle.std.specs.Prelude.{◌≡◌, ℕ, Bool, []}
use Rattle.fort_core.specs.declared.program.Program.{Program}
use Rattle.fort_core.specs.declared.term.Term.{Term}
use Rattle.fort_machine.specs.Written.{WrittenProgram}
use Rattle.fort_disp.specs.Rows.{MayPick}
use Rattle.fort_disp.specs.declared.rows.Tables.{Tables}
use Rattle.fort_store_effects.specs.Levels.{levels_of, seen}
use Rattle.fort_store_effects.specs.declared.layers.Layers.{Layers}
use Rattle.fort_walk_turns.specs.Defined.{AlwaysOne}
use Rattle.fort_hall_law_books.specs.Books.{Origin}
use Rattle.fort_hall_program.specs.States.{StandsIn}

-- A form of a program as it is written, in whose runs each call has its one definition; its tables;
-- where the root's book begins, which stands in a term of a run, with no attempt open; and what all
-- legs together may cost.
pub record IsMachine (p : Program) (start : Origin) (most : ℕ) (tables : Tables) (inner : Bool)
    (view : Layers) (first : Term) (bound : ℕ) : Type 0 where
  pub is_program : tables.program.now ≡ p
  pub written : WrittenProgram p
  pub may_pick : MayPick tables
  pub one : AlwaysOne p
  pub is_start : start ≡ record { inner = inner; store = seen (levels_of view); first = first }
  pub stands : StandsIn p start
  pub alone : (levels_of view).attempts ≡ []
  pub is_bound : bound ≡ most
