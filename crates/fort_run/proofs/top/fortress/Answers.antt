use Rattle.std.proofs.Common.{◌≤◌, length, subst, sym}
use Rattle.fort_run.proofs.Apart.{Fronts}
use Rattle.fort_run.proofs.Meaning.{delivered}
use Rattle.fort_run.proofs.Written.{same_text, still_ready, within_text}
use Rattle.fort_run.proofs.top.fortress.Goals as goal

pub deliver-status-requires-clause-out : goal.deliver-status-requires-clause-out
deliver-status-requires-clause-out g c e =
    still_ready _ _ c.in-Ok.progress c.in-Ok.ensures.written e

pub deliver-status-requires-clause-within : goal.deliver-status-requires-clause-within
deliver-status-requires-clause-within g c e =
    subst (λ t. c.in-Ok.progress.bytes ≤ length t) (sym c.text.ensures)
    (within_text _ _ c.in-Ok.progress c.in-Ok.ensures.written e)

pub returns-in-Ok-clause-answers : goal.returns-in-Ok-clause-answers
returns-in-Ok-clause-answers g c =
    let laws : Fronts =
    record {
      apart = c.never_both.ensures.tokens;
      grammar = c.never_both_in_grammar.ensures;
      one = c.one_program.ensures.tokens;
      whole_apart = c.never_both.ensures.component;
      one_of_whole = c.one_program.ensures.component;
      linked_apart = c.one_whole.ensures.apart;
      one_whole = c.one_whole.ensures.one;
      one_record = c.one_record.ensures;
      one_answer = c.one_answer.ensures;
    } in
    delivered laws _ c.in-Ok.answer _ c.status.result c.text.result.now c.note.result.now
    c.in-Ok.ensures.means c.status.ensures c.text.ensures c.note.ensures
    (c.deliver-status.ensures _ _
    (same_text _ _ _ _ c.text.ensures c.in-Ok.ensures.written))
    c.into_journal.ensures
