use Rattle.fort_typing_known.specs.Read.{facts}
use Rattle.fort_typing_walk.proofs.Wanted.{is_typed_below}
use Rattle.fort_typing_walk.proofs.elements.typed_below.Goals as goal

pub returns : goal.returns
returns c =
    is_typed_below (facts c.args.known.now) c.args.ty.now c.args.place c.args.typed c.args.found
    c.type_of.result.now c.is_below-fits.result c.if_fitting.result
    c.type_of.ensures c.is_below-fits.ensures c.if_fitting.ensures
