use Rattle.std.proofs.Common.{ap}
use Rattle.fort_tree.specs.Limits.{type_places}
use Rattle.fort_tree.specs.declared.declarations.Declaration.{Declaration}
use Rattle.fort_link_rules.proofs.Gathering.{on_ok}
use Rattle.fort_link_rules.proofs.Steps.{nothing_added, one_added}
use Rattle.fort_link_rules.proofs.spots.add_type.Goals as goal

pub returns-in-Variable : goal.returns-in-Variable
returns-in-Variable c =
    nothing_added c.args.places.now (ap (λ (d : Declaration). type_places d) c.in-Variable.is)

pub returns-in-Function : goal.returns-in-Function
returns-in-Function c =
    nothing_added c.args.places.now (ap (λ (d : Declaration). type_places d) c.in-Function.is)

pub returns-in-Trait : goal.returns-in-Trait
returns-in-Trait c =
    on_ok c.push.result (λ e. one_added c.args.places.now e
    (ap (λ (d : Declaration). type_places d) c.in-Trait.is)) c.push.ensures.ok

pub returns-in-Object : goal.returns-in-Object
returns-in-Object c =
    on_ok c.push-in-Object.result (λ e. one_added c.args.places.now e
    (ap (λ (d : Declaration). type_places d) c.in-Object.is)) c.push-in-Object.ensures.ok
