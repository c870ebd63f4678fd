use Rattle.std.proofs.Common.{sym}
use Rattle.fort_form_tasks.specs.Tasks.{formed_part, inside}
use Rattle.fort_form_build.proofs.Giving.{by, one}
use Rattle.fort_form_walk.proofs.walk.build.Goals as goal

pub returns-in_ok-expression-in-Expr : goal.returns-in_ok-expression-in-Expr
returns-in_ok-expression-in-Expr g c =
    let k = g.L.Lookup.source c.args.lookup.now in
    by (inside k) (formed_part k) (sym c.in-Expr.is) (c.in_ok-expression-in-Expr.ensures)

pub returns-in_ok-take-in-Flat : goal.returns-in_ok-take-in-Flat
returns-in_ok-take-in-Flat g c =
    let k = g.L.Lookup.source c.args.lookup.now in
    by (inside k) (formed_part k) (sym c.in-Flat.is) (one _ c.in_ok-take-in-Flat.ensures)

pub returns-in_ok-group-in-Group : goal.returns-in_ok-group-in-Group
returns-in_ok-group-in-Group g c =
    let k = g.L.Lookup.source c.args.lookup.now in
    by (inside k) (formed_part k) (sym c.in-Group.is) (c.in_ok-group-in-Group.ensures k)

pub returns-in_ok-unit-in-Unit : goal.returns-in_ok-unit-in-Unit
returns-in_ok-unit-in-Unit g c =
    let k = g.L.Lookup.source c.args.lookup.now in
    by (inside k) (formed_part k) (sym c.in-Unit.is) (c.in_ok-unit-in-Unit.ensures k)

pub returns-in_ok-run-in-Run : goal.returns-in_ok-run-in-Run
returns-in_ok-run-in-Run g c =
    let k = g.L.Lookup.source c.args.lookup.now in
    by (inside k) (formed_part k) (sym c.in-Run.is) (c.in_ok-run-in-Run.ensures k)

pub returns-in_ok-atom-in-Atom : goal.returns-in_ok-atom-in-Atom
returns-in_ok-atom-in-Atom g c =
    let k = g.L.Lookup.source c.args.lookup.now in
    by (inside k) (formed_part k) (sym c.in-Atom.is) (c.in_ok-atom-in-Atom.ensures)

pub returns-in_ok-postfix-in-Postfix : goal.returns-in_ok-postfix-in-Postfix
returns-in_ok-postfix-in-Postfix g c =
    let k = g.L.Lookup.source c.args.lookup.now in
    by (inside k) (formed_part k) (sym c.in-Postfix.is) (c.in_ok-postfix-in-Postfix.ensures k)

pub returns-in_ok-delimited-in-Form : goal.returns-in_ok-delimited-in-Form
returns-in_ok-delimited-in-Form g c =
    let k = g.L.Lookup.source c.args.lookup.now in
    by (inside k) (formed_part k) (sym c.in-Form.is) (c.in_ok-delimited-in-Form.ensures)

pub returns-in_ok-block-in-Block : goal.returns-in_ok-block-in-Block
returns-in_ok-block-in-Block g c =
    let k = g.L.Lookup.source c.args.lookup.now in
    by (inside k) (formed_part k) (sym c.in-Block.is) (c.in_ok-block-in-Block.ensures)
