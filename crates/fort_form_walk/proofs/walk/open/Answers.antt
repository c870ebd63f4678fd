use Rattle.fort_form_walk.proofs.Walking.{opened}
use Rattle.fort_form_walk.proofs.walk.open.Goals as goal

pub returns : goal.returns
returns g c =
    opened (g.L.Lookup.source c.args.lookup.now) c.args.part c.in_ok-push.ensures
    c.in_ok-see_in.ensures
