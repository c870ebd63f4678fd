use Rattle.fort_parse.proofs.runs.+run.Given as goal

abbrev pub decreases-run : goal.decreases-run
decreases-run l = l.depth
