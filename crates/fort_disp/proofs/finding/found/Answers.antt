use Rattle.std.proofs.Common.{sym, subst, map}
use Rattle.std.specs.Prelude.{MatchOption}
use Rattle.fort_machine.specs.Types.{type_of}
use Rattle.fort_disp.specs.Fits.{IsFirst, IsNone}
use Rattle.fort_disp.proofs.Picked.{no_row, row_runs, row_applies}
use Rattle.fort_disp.proofs.finding.found.Goals as goal

pub returns-in-None-clause-runs : goal.returns-in-None-clause-runs
returns-in-None-clause-runs g c = λ d decl w.
    absurd (no_row c.args.tables.now.program.now c.args.tables.now.rows c.requires.rows c.args.set
    (sym c.in-None.ensures.value)
    (map (type_of c.args.tables.now.program.now) c.args.values.now) d decl
    w.most_specific.applicable)

pub returns-in-None-clause-applicable : goal.returns-in-None-clause-applicable
returns-in-None-clause-applicable g c = λ d decl o.
    no_row c.args.tables.now.program.now c.args.tables.now.rows c.requires.rows c.args.set
    (sym c.in-None.ensures.value)
    (map (type_of c.args.tables.now.program.now) c.args.values.now) d decl o

pub returns-in-Some-clause-runs : goal.returns-in-Some-clause-runs
returns-in-Some-clause-runs g c =
    row_runs c.args.tables.now.program.now c.args.tables.now.rows c.requires.rows c.args.set
    c.args.values.now c.in-Some.row.now (sym c.in-Some.ensures.value) c.requires.through
    c.first.result
    (subst (λ r. MatchOption c.first.result
    (IsNone c.args.tables.now.program.now c.args.values.now r)
    (IsFirst c.args.tables.now.program.now c.args.values.now r)) c.as_slice.ensures
    c.first.ensures.first)

pub returns-in-Some-clause-applicable : goal.returns-in-Some-clause-applicable
returns-in-Some-clause-applicable g c =
    row_applies c.args.tables.now.program.now c.args.tables.now.rows c.requires.rows c.args.set
    c.args.values.now c.in-Some.row.now (sym c.in-Some.ensures.value) c.first.result
    (subst (λ r. MatchOption c.first.result
    (IsNone c.args.tables.now.program.now c.args.values.now r)
    (IsFirst c.args.tables.now.program.now c.args.values.now r)) c.as_slice.ensures
    c.first.ensures.first)
