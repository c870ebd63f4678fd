use Rattle.fort_typing_walk.proofs.Wanted.{is_typed_element}
use Rattle.fort_typing_walk.proofs.elements.typed_element.Goals as goal

pub returns : goal.returns
returns c =
    is_typed_element c.args.place c.args.typed c.args.found c.type_of.result.now
    c.is_nothing-bars.result c.if_nothing.result
    c.type_of.ensures c.is_nothing-bars.ensures c.if_nothing.ensures
