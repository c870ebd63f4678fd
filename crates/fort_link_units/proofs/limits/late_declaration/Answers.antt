use Rattle.fort_tree.specs.Measured.{most_declarations}
use Rattle.fort_link_units.specs.declared.unit.ApiDeclared.{ApiDeclared}
use Rattle.fort_link_units.specs.Limits.{measured_api_declaration}
use Rattle.fort_link_units.proofs.ApiLimits.{late_some, late_none}
use Rattle.fort_link_units.proofs.limits.late_declaration.Goals as goal

pub returns-in-Some : goal.returns-in-Some
returns-in-Some c =
    late_some (λ (d : ApiDeclared). (measured_api_declaration d.declaration).spot.place)
    most_declarations c.args.declarations.now c.in-Some.late.now c.place_of_declaration.result
    c.in-Some.ensures.value c.place_of_declaration.ensures

pub returns-in-None : goal.returns-in-None
returns-in-None c =
    late_none (λ (d : ApiDeclared). (measured_api_declaration d.declaration).spot.place)
    most_declarations c.args.declarations.now c.in-None.ensures.value
