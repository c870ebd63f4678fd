-- Where each type begins, as one level of it.
use Rattle.fort_tree.proofs.MeasuresTypes.{measures-Simple, measures-Arrow, measures-Named, measures-Array, measures-Parts}

pub ruleset type_places =
    (measures-Simple, measures-Arrow, measures-Named, measures-Array, measures-Parts)
