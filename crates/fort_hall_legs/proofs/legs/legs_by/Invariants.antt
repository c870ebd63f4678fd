use Rattle.fort_hall_legs.specs.Made.{form_origin}
use Rattle.fort_hall_legs.proofs.legs.legs_by.Given as goal

-- the tables' program, from where the form stands, for what it may cost
abbrev pub ghosts-legs_of : goal.ghosts-legs_of
ghosts-legs_of g a = record {
  program = a.tables.now.program.now;
  start = form_origin a.work.form;
  most = a.work.form.most;
}
