-- A file that breaks a rule is refused by it.
use Rattle.std.proofs.Common.{ℕ, List, Err, ap, refl}
use Rattle.fort_base.specs.declared.refusal.CheckFault.{CheckFault}
use Rattle.fort_base.specs.declared.refusal.CheckFault.TheVariants as a_fault
use Rattle.fort_lex_token.specs.declared.token.Tokens.{Tokens}
use Rattle.fort_lex.specs.Files.{Answers, HasTokens}
use Rattle.fort_front.specs.Front as front
use Rattle.fort_port.specs.Outside.{Holding}
use Rattle.fort_run.specs.Reply.{Writing, RunSays, Refuses, AuditMeans, OfNone, in_text, behind, CheckSays, AcceptsNone, ShowSays, ShowsNone, in_tokens, in_grammar}
use Rattle.fort_run.specs.Said.{said, RefusedBy}
use Rattle.fort_run.specs.declared.answer.Answer.{Answer}

-- A file to run that breaks a rule of its tokens.
pub tokens_refused : (writes : Writing) (name file : List ℕ) (fuel : ℕ) (fault : CheckFault) (answer : Answer)
    → Answers file (Err fault) → RefusedBy name fault answer
    → RunSays writes name file fuel (said answer)
tokens_refused writes name file fuel (a_fault.Refused rule place) answer broken e =
    Refuses rule place (in_text broken) (ap said e)
tokens_refused writes name file fuel a_fault.Memory answer broken e = absurd e

-- A file to run whose tokens break a rule behind those of tokens.
pub form_refused : (writes : Writing) (name file : List ℕ) (fuel : ℕ) (tokens : Tokens) (fault : CheckFault)
    (answer : Answer) → HasTokens file tokens
    → front.Checks tokens (Err fault) → RefusedBy name fault answer
    → RunSays writes name file fuel (said answer)
form_refused writes name file fuel tokens (a_fault.Refused rule place) answer has broken e =
    Refuses rule place (behind tokens has broken) (ap said e)
form_refused writes name file fuel tokens a_fault.Memory answer has broken e = absurd e

-- A file to show that breaks a rule of its tokens.
pub tokens_unshown : (name file : List ℕ) (fault : CheckFault) (answer : Answer)
    → Answers file (Err fault) → RefusedBy name fault answer
    → ShowSays name file (said answer)
tokens_unshown name file (a_fault.Refused rule place) answer broken e =
    ShowsNone rule place (in_tokens broken) (ap said e)
tokens_unshown name file a_fault.Memory answer broken e = absurd e

-- A file to show whose tokens break a rule of the grammar.
pub grammar_unshown : (name file : List ℕ) (tokens : Tokens) (fault : CheckFault) (answer : Answer)
    → HasTokens file tokens
    → front.GrammarAnswers tokens (Err fault) → RefusedBy name fault answer
    → ShowSays name file (said answer)
grammar_unshown name file tokens (a_fault.Refused rule place) answer has broken e =
    ShowsNone rule place (in_grammar tokens has broken) (ap said e)
grammar_unshown name file tokens a_fault.Memory answer has broken e = absurd e

-- A file to check that breaks a rule of its tokens.
pub tokens_unaccepted : (name file : List ℕ) (fault : CheckFault) (answer : Answer)
    → Answers file (Err fault) → RefusedBy name fault answer
    → CheckSays name file (said answer)
tokens_unaccepted name file (a_fault.Refused rule place) answer broken e =
    AcceptsNone rule place (in_text broken) (ap said e)
tokens_unaccepted name file a_fault.Memory answer broken e = absurd e

-- A file to check whose tokens break a rule behind those of tokens.
pub form_unaccepted : (name file : List ℕ) (tokens : Tokens) (fault : CheckFault) (answer : Answer)
    → HasTokens file tokens
    → front.Checks tokens (Err fault) → RefusedBy name fault answer
    → CheckSays name file (said answer)
form_unaccepted name file tokens (a_fault.Refused rule place) answer has broken e =
    AcceptsNone rule place (behind tokens has broken) (ap said e)
form_unaccepted name file tokens a_fault.Memory answer has broken e = absurd e

-- A file to audit a record against that breaks a rule of its tokens.
pub tokens_unaudited : (name file : List ℕ) (holding : Holding) (faults : ℕ) (fault : CheckFault)
    (answer : Answer) → Answers file (Err fault) → RefusedBy name fault answer
    → AuditMeans name file holding faults faults (said answer)
tokens_unaudited name file holding faults (a_fault.Refused rule place) answer broken e =
    OfNone rule place (in_text broken) refl (ap said e)
tokens_unaudited name file holding faults a_fault.Memory answer broken e = absurd e

-- A file to audit a record against whose tokens break a rule behind those of tokens.
pub form_unaudited : (name file : List ℕ) (holding : Holding) (faults : ℕ) (tokens : Tokens)
    (fault : CheckFault) (answer : Answer) → HasTokens file tokens
    → front.Checks tokens (Err fault) → RefusedBy name fault answer
    → AuditMeans name file holding faults faults (said answer)
form_unaudited name file holding faults tokens (a_fault.Refused rule place) answer has broken e =
    OfNone rule place (behind tokens has broken) refl (ap said e)
form_unaudited name file holding faults tokens a_fault.Memory answer has broken e = absurd e
