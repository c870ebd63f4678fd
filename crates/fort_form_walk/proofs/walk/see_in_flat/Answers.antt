use Rattle.std.proofs.Common.{[], ◌∷◌, sym, ap}
use Rattle.fort_form_tasks.proofs.Steps.{one_seen}
use Rattle.fort_form_walk.proofs.Walking.{flat_grouped, flat_alone}
use Rattle.fort_form_walk.proofs.walk.see_in_flat.Goals as goal

pub returns-in_ok-see-in-Some : goal.returns-in_ok-see-in-Some
returns-in_ok-see-in-Some g c =
    let k = g.L.Lookup.source c.args.lookup.now in
    one_seen k (c.in_ok-see-in-Some.ensures k)
    (ap (λ u. u ∷ [])
    (flat_grouped k c.args.flat.now c.unit_place.result c.in-Some.grouped.now
    (c.unit_place.ensures k) (sym c.in-Some.ensures)))

pub returns-in_ok-see-in-None : goal.returns-in_ok-see-in-None
returns-in_ok-see-in-None g c =
    let k = g.L.Lookup.source c.args.lookup.now in
    one_seen k (c.in_ok-see-in-None.ensures k)
    (ap (λ u. u ∷ [])
    (flat_alone k c.args.flat.now c.unit_place.result (c.unit_place.ensures k)
    (sym c.in-None.ensures)))
