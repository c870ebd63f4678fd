use Rattle.std.proofs.Common.{ℕ, List, Err, subst}
use Rattle.fort_lex.specs.Files.{Answers, HasTokens}
use Rattle.fort_run.specs.Reply.{RunSays}
use Rattle.fort_run.specs.Tasks.{writing_of}
use Rattle.fort_run.proofs.Leads.{leads_on_if}
use Rattle.fort_run.proofs.Refused.{tokens_refused}
use Rattle.fort_run.proofs.run.run_file.Goals as goal

pub formed-requires-clause-may : goal.formed-requires-clause-may
formed-requires-clause-may c =
    let has = rw c.as_slice.ensures at c.in-Ok.ensures.answer in
    λ p is. record {
      written =
          c.accepted_is_written.ensures.tokens c.in-Ok.tokens p
          (c.file_is_in_order.ensures c.args.file.now c.in-Ok.tokens has) is;
      never = c.accepted_never_stops.ensures c.args.file.now c.in-Ok.tokens p has is;
      one =
          λ inner s t reached. (c.accepted_runs_well.ensures c.args.file.now c.in-Ok.tokens p has is
          inner s t reached).one;
      through = c.accepted_goes_through.ensures c.args.file.now c.in-Ok.tokens p has is;
    }

pub formed-requires-clause-texts : goal.formed-requires-clause-texts
formed-requires-clause-texts c =
    let has = rw c.as_slice.ensures at c.in-Ok.ensures.answer in
    λ p is. c.accepted_has_text.ensures c.args.file.now c.in-Ok.tokens p has is

pub returns-in-Ok : goal.returns-in-Ok
returns-in-Ok c =
    leads_on_if
    (λ reply. (file : List ℕ) → HasTokens file c.in-Ok.tokens
    → RunSays (writing_of c.args.writes) c.args.name file c.args.fuel reply)
    (RunSays (writing_of c.args.writes) c.args.name c.args.file.now c.args.fuel) c.formed.result
    (λ reply says. says c.args.file.now (rw c.as_slice.ensures at c.in-Ok.ensures.answer))
    c.formed.ensures

pub returns-in_ok-refused_by-in-Err : goal.returns-in_ok-refused_by-in-Err
returns-in_ok-refused_by-in-Err c =
    tokens_refused (writing_of c.args.writes) c.args.name c.args.file.now c.args.fuel
    c.in-Err.fault _
    (subst (λ x. Answers x (Err c.in-Err.fault)) c.as_slice.ensures c.in-Err.ensures.answer)
    c.in_ok-refused_by-in-Err.ensures
