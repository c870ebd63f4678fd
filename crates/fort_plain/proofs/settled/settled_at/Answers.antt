use Rattle.std.proofs.Common.{IfOk, ap, sym, ◌∙◌, subst}
use Rattle.fort_core.specs.declared.term.Term.{Term}
use Rattle.fort_frames.specs.States.{term_at}
use Rattle.fort_plain.specs.Paths.{IsSettled}
use Rattle.fort_plain.proofs.settled.settled_at.Goals as goal

pub returns-in-Form : goal.returns-in-Form
returns-in-Form c =
    subst (λ (t : Term). IfOk c.settled_term.result (IsSettled t))
    (c.get.ensures ∙ sym (ap term_at c.in-Form.is)) c.settled_term.ensures

pub returns-in-Left : goal.returns-in-Left
returns-in-Left c =
    subst (λ (t : Term). IfOk c.settled_term-in-Left.result (IsSettled t))
    (c.get-in-Left.ensures ∙ sym (ap term_at c.in-Left.is)) c.settled_term-in-Left.ensures
