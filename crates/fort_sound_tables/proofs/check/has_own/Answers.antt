use Rattle.fort_sound_tables.proofs.check.has_own.Goals as goal

pub returns-in-Some : goal.returns-in-Some
returns-in-Some c ok = (_, c.in-Some.ensures)
