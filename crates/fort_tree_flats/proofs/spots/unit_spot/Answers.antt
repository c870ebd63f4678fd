use Rattle.std.proofs.Common.{sym, ap, ◌∙◌, Option}
use Rattle.fort_tree.specs.declared.expr.Operand.{out-Operand}
use Rattle.fort_tree.specs.declared.expr.Prefix.{Prefix}
use Rattle.fort_tree.specs.Measured.{Measured}
use Rattle.fort_tree.specs.Measures.{prefix_spot}
use Rattle.fort_tree.specs.Measuring.{measured_run}
use Rattle.fort_tree.proofs.MeasuresFlats.{operand_measures}
use Rattle.fort_tree_flats.proofs.spots.unit_spot.Goals as goal

pub returns-in-None : goal.returns-in-None
returns-in-None c =
    c.run_spot.ensures
    ∙ sym (ap (λ (m : Measured). m.spot) (operand_measures c.args.unit.now) ∙ ap (λ
    (p : Option Prefix). prefix_spot p (measured_run (out-Operand c.args.unit.now).run).spot)
    c.in-None.is)

pub returns-in-Some : goal.returns-in-Some
returns-in-Some c =
    sym (ap (λ (m : Measured). m.spot) (operand_measures c.args.unit.now) ∙ ap (λ
    (p : Option Prefix). prefix_spot p
    (measured_run (out-Operand c.args.unit.now).run).spot) c.in-Some.is
    ∙ c.prefix_spot.ensures (measured_run (out-Operand c.args.unit.now).run).spot)
