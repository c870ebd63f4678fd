use Rattle.std.proofs.Common.{sym}
use Rattle.fort_form_tasks.specs.Tasks.{inside}
use Rattle.fort_form_tasks.proofs.Steps.{by}
use Rattle.fort_form_walk.proofs.walk.see_in.Goals as goal

pub returns-in_ok-see_in_expr-in-Expr : goal.returns-in_ok-see_in_expr-in-Expr
returns-in_ok-see_in_expr-in-Expr g c =
    let k = g.L.Lookup.source c.args.lookup.now in
    by k (inside k) (sym c.in-Expr.is) (c.in_ok-see_in_expr-in-Expr.ensures k)

pub returns-in_ok-see_in_flat-in-Flat : goal.returns-in_ok-see_in_flat-in-Flat
returns-in_ok-see_in_flat-in-Flat g c =
    let k = g.L.Lookup.source c.args.lookup.now in
    by k (inside k) (sym c.in-Flat.is) (c.in_ok-see_in_flat-in-Flat.ensures)

pub returns-in_ok-see_in_group-in-Group : goal.returns-in_ok-see_in_group-in-Group
returns-in_ok-see_in_group-in-Group g c =
    let k = g.L.Lookup.source c.args.lookup.now in
    by k (inside k) (sym c.in-Group.is) (c.in_ok-see_in_group-in-Group.ensures k)

pub returns-in_ok-see-in-Unit : goal.returns-in_ok-see-in-Unit
returns-in_ok-see-in-Unit g c =
    let k = g.L.Lookup.source c.args.lookup.now in
    by k (inside k) (sym c.in-Unit.is) (c.in_ok-see-in-Unit.ensures k)

pub returns-in_ok-see_in_run-in-Run : goal.returns-in_ok-see_in_run-in-Run
returns-in_ok-see_in_run-in-Run g c =
    let k = g.L.Lookup.source c.args.lookup.now in
    by k (inside k) (sym c.in-Run.is) (c.in_ok-see_in_run-in-Run.ensures k)

pub returns-in_ok-see_in_atom-in-Atom : goal.returns-in_ok-see_in_atom-in-Atom
returns-in_ok-see_in_atom-in-Atom g c =
    let k = g.L.Lookup.source c.args.lookup.now in
    by k (inside k) (sym c.in-Atom.is) (c.in_ok-see_in_atom-in-Atom.ensures k)

pub returns-in_ok-see_in_postfix-in-Postfix : goal.returns-in_ok-see_in_postfix-in-Postfix
returns-in_ok-see_in_postfix-in-Postfix g c =
    let k = g.L.Lookup.source c.args.lookup.now in
    by k (inside k) (sym c.in-Postfix.is) (c.in_ok-see_in_postfix-in-Postfix.ensures k)

pub returns-in_ok-see_in_form-in-Form : goal.returns-in_ok-see_in_form-in-Form
returns-in_ok-see_in_form-in-Form g c =
    let k = g.L.Lookup.source c.args.lookup.now in
    by k (inside k) (sym c.in-Form.is) (c.in_ok-see_in_form-in-Form.ensures k)

pub returns-in_ok-see_items-in-Block : goal.returns-in_ok-see_items-in-Block
returns-in_ok-see_items-in-Block g c =
    let k = g.L.Lookup.source c.args.lookup.now in
    by k (inside k) (sym c.in-Block.is) (c.in_ok-see_items-in-Block.ensures k)
