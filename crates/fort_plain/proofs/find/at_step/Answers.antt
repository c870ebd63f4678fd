use Rattle.std.proofs.Common.{◌≡◌, true, false, sym, ◌∙◌, subst}
use Rattle.fort_machine.specs.Attempts.{Ready}
use Rattle.fort_frames.specs.Frames.{Reaches, frames}
use Rattle.fort_frames_moves.specs.Turns.{ready_term}
use Rattle.fort_plain.proofs.Finding.{form_sought}
use Rattle.fort_plain.proofs.find.at_step.Goals as goal

pub returns-then-same : goal.returns-then-same
returns-then-same c = (c.requires, c.same.ensures.0 c.if-same.true)

pub elsewhere-requires-clause-reached : goal.elsewhere-requires-clause-reached
elsewhere-requires-clause-reached c =
    subst (Reaches c.args.clock (frames c.args.place.stack)) (sym c.in_ok-form.ensures)
    c.requires.thread.is_at.reached

pub elsewhere-requires-clause-ready : goal.elsewhere-requires-clause-ready
elsewhere-requires-clause-ready c = subst Ready (sym c.in_ok-form.ensures) c.requires.thread.ready

pub elsewhere-requires-clause-other : goal.elsewhere-requires-clause-other
elsewhere-requires-clause-other c = λ e. let z : true ≡ false =
    sym (c.same.ensures.1 e) ∙ c.if-same.false in cc

pub returns : goal.returns
returns c =
    form_sought c.args.clock c.args.place (ready_term c.args.ready) c.in_ok-form.form
    c.args.path.now c.elsewhere.result c.in_ok-form.ensures c.elsewhere.ensures
