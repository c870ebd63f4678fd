use Rattle.fort_hall_parts.proofs.find.+find.Given as goal

abbrev pub decreases-part_at : goal.decreases-part_at
decreases-part_at l = l.depth
