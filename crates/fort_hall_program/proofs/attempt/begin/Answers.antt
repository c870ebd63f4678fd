use Rattle.std.proofs.Common.{rules, ◌≡◌, true, refl, ap, sym, ◌∙◌}
use Rattle.std.specs.Prelude.{IfOk}
use Rattle.fort_core.specs.declared.term.Term.{Term, Stepped}
use Rattle.fort_machine.specs.Ends.{has_stepped}
use Rattle.fort_hall_program.specs.States.{IsNewBook}
use Rattle.fort_hall_program.proofs.Attempting.{never_marked, opened}
use Rattle.fort_hall_program.proofs.attempt.begin.Goals as goal

pub unreachable-requires : goal.unreachable-requires
unreachable-requires c =
    let k : (a : Term) × (c.get.result.now ≡ Stepped a) = c.if-is_mark.ensures.inner refl in
    never_marked c.args.program.now c.args.most c.args.state.now c.args.form.now k.0
    c.requires.written c.requires.good c.requires.form (sym c.get.ensures ∙ k.1)

pub returns-clause-keeps : goal.returns-clause-keeps
returns-clause-keeps c =
    let own = c.saturating_sub-own.result in
    let new : IfOk c.new.result (IsNewBook true c.in_ok-view.view c.in_ok-body.body own) =
    search rules in
    opened c.args.program.now c.args.most c.args.state.now c.args.form.now own
    c.in_ok-view.view c.in_ok-body.body c.new.result c.requires.good c.requires.form
    (ap has_stepped (sym c.get.ensures) ∙ sym c.if-is_mark.ensures.mark) c.in_ok-view.ensures
    c.in_ok-body.ensures c.saturating_sub-own.ensures new
