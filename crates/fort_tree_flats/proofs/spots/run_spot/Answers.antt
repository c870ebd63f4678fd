use Rattle.std.proofs.Common.{sym, ap, ◌∙◌}
use Rattle.fort_tree.specs.Measured.{Measured}
use Rattle.fort_tree.proofs.MeasuresFlats.{run_measures}
use Rattle.fort_tree_flats.proofs.spots.run_spot.Goals as goal

pub returns : goal.returns
returns c = c.atom_spot.ensures ∙ sym (ap (λ (m : Measured). m.spot) (run_measures c.args.run.now))
