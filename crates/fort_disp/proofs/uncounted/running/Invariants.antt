use Rattle.fort_disp.proofs.uncounted.running.Given as goal

abbrev pub ghosts-picked : goal.ghosts-picked
ghosts-picked a = record { name = a.blank.name; parts = a.blank.parts }
