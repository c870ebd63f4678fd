use Rattle.std.proofs.Common.{sym, subst}
use Rattle.fort_disp.specs.Rows.{AreRows, GoesThrough}
use Rattle.fort_machine.specs.Written.{WrittenProgram}
use Rattle.fort_walk_turns.specs.Defined.{AlwaysOne}
use Rattle.fort_walk_turns.specs.Stops.{StopsShort}
use Rattle.fort_run.proofs.run.run_program.Goals as goal

pub walk-requires-clause-written : goal.walk-requires-clause-written
walk-requires-clause-written g c =
    subst WrittenProgram (sym c.in_ok-tables.ensures.program) c.requires.may.written

pub walk-requires-clause-tables : goal.walk-requires-clause-tables
walk-requires-clause-tables g c = record {
  rows = subst (λ p. AreRows p p.sets c.in_ok-tables.tables.rows)
      (sym c.in_ok-tables.ensures.program) c.in_ok-tables.ensures.rows;
  through = subst GoesThrough (sym c.in_ok-tables.ensures.program) c.requires.may.through;
}

pub walk-requires-clause-one : goal.walk-requires-clause-one
walk-requires-clause-one g c =
    subst AlwaysOne (sym c.in_ok-tables.ensures.program) c.requires.may.one

pub walk-requires-clause-never : goal.walk-requires-clause-never
walk-requires-clause-never g c stops =
    c.requires.may.never (subst StopsShort c.in_ok-tables.ensures.program stops)

pub walk_side_by_side-requires-clause-written : goal.walk_side_by_side-requires-clause-written
walk_side_by_side-requires-clause-written g c κs within =
    subst WrittenProgram (sym c.in_ok-tables.ensures.program) c.requires.may.written

pub walk_side_by_side-requires-clause-tables : goal.walk_side_by_side-requires-clause-tables
walk_side_by_side-requires-clause-tables g c κs within = record {
  rows = subst (λ p. AreRows p p.sets c.in_ok-tables.tables.rows)
      (sym c.in_ok-tables.ensures.program) c.in_ok-tables.ensures.rows;
  through = subst GoesThrough (sym c.in_ok-tables.ensures.program) c.requires.may.through;
}

pub walk_side_by_side-requires-clause-one : goal.walk_side_by_side-requires-clause-one
walk_side_by_side-requires-clause-one g c κs within =
    subst AlwaysOne (sym c.in_ok-tables.ensures.program) c.requires.may.one

pub walk_side_by_side-requires-clause-never : goal.walk_side_by_side-requires-clause-never
walk_side_by_side-requires-clause-never g c κs within stops =
    c.requires.may.never (subst StopsShort c.in_ok-tables.ensures.program stops)
