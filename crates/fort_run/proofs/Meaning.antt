-- What the code finds out is what a call means to say.
use Rattle.std.proofs.Common.{◌≡◌, ℕ, ◌≤◌, List, length, Result, IfOk, subst, inr}
use Rattle.fort_base.specs.declared.refusal.Memory.{Memory}
use Rattle.fort_port.specs.Outside.{Holding}
use Rattle.fort_cmd.specs.declared.command.Command.{Command}
use Rattle.fort_cmd.specs.declared.command.Command.TheVariants.{Check, Show, Run, Bench, Record, Audit, Link}
use Rattle.fort_cmd.specs.Words.{IsCommand, most_files}
use Rattle.fort_run.specs.Reply.{IsText, IsBounded, CommandSays, LinkMeans, Means, Judged, JudgedAll, file_limit, no_run}
use Rattle.fort_run.specs.Said.{said}
use Rattle.fort_diag.specs.Notes.{want_of_memory}
use Rattle.fort_port_output.specs.Written.{TakesOrFails}
use Rattle.fort_run.specs.Delivery.{Delivers}
use Rattle.fort_run.specs.Outcome.{Outside, MeansToSay, Said, WantsMemory, Answers}
use Rattle.fort_run.specs.Tasks.{LeadsTo}
use Rattle.fort_run.specs.declared.answer.Answer.{Answer}
use Rattle.fort_run.specs.declared.meant.Meant.{Meant}
use Rattle.fort_run.specs.declared.top.Finish.{Finish}
use Rattle.fort_run.proofs.Apart.{Fronts}
use Rattle.fort_run.proofs.Complete.{answers}
use Rattle.fort_run.proofs.Leads.{leads_on_if}

-- What is meant to say is the same from where the shelf stood before its first file was read.
pub from_before : (held holding : List ℕ → Holding) (mid before after : ℕ) (command : Command)
    (r : Result Meant Memory) → held ≡ holding → mid ≡ before
    → IfOk r (LeadsTo (λ reply. (words : List (List ℕ)) → IsCommand words command
    → Means words held mid after reply))
    → IfOk r (LeadsTo (λ reply. (words : List (List ℕ)) → IsCommand words command
    → Means words holding before after reply))
from_before held holding mid before after command r e f means =
    leads_on_if
    (λ reply. (words : List (List ℕ)) → IsCommand words command
    → Means words held mid after reply)
    (λ reply. (words : List (List ℕ)) → IsCommand words command
    → Means words holding before after reply) r
    (λ reply means words is. subst (λ h. Means words h before after reply) e
    (subst (λ n. Means words held n after reply) f (means words is))) means

-- What a command says of a text that was read whole is what the call means to say.
pub read_means : (holding : List ℕ → Holding) (before after : ℕ) (command : Command) (text : List ℕ)
    (r : Result Meant Memory)
    → IsText holding command text → length text ≤ file_limit → after ≡ before
    → IfOk r (LeadsTo (CommandSays command text))
    → IfOk r (LeadsTo (λ reply. (words : List (List ℕ)) → IsCommand words command
    → Means words holding before after reply))
read_means holding before after command text r read within calm says =
    leads_on_if (CommandSays command text)
    (λ reply. (words : List (List ℕ)) → IsCommand words command
    → Means words holding before after reply) r
    (λ reply says words is. Judged command text is read within calm says) says

-- What is meant for all words of a command is meant for these.
pub asked_means : (words : List (List ℕ)) (holding : List ℕ → Holding) (before after : ℕ)
    (command : Command) (r : Result Meant Memory) → IsCommand words command
    → IfOk r (LeadsTo (λ reply. (words : List (List ℕ)) → IsCommand words command
    → Means words holding before after reply))
    → IfOk r (LeadsTo (Means words holding before after))
asked_means words holding before after command r is means =
    leads_on_if
    (λ reply. (words : List (List ℕ)) → IsCommand words command
    → Means words holding before after reply)
    (Means words holding before after) r (λ reply means. means words is) means

-- What was meant was delivered.
pub delivered : Fronts
    → (o : Outside) (answer : Answer) (finish : Finish) (meant : ℕ) (out note : List ℕ)
    → MeansToSay o (said answer)
    → meant ≡ (said answer).status → out ≡ (said answer).out → note ≡ (said answer).note
    → Delivers meant out note o.out o.notes finish.status → finish.journal ≡ (said answer).journal
    → Answers o finish
delivered laws o answer finish meant out note means e f g d j =
    answers laws o finish (Said (said answer) means
    (subst (λ x. Delivers (said answer).status (said answer).out x o.out o.notes finish.status) g
    (subst (λ x. Delivers (said answer).status x note o.out o.notes finish.status) f
    (subst (λ x. Delivers x out note o.out o.notes finish.status) e d))) j)

-- Memory was wanting.
pub memory_wanted : (o : Outside) (finish : Finish) → TakesOrFails o.notes want_of_memory
    → finish.status ≡ 7 → finish.journal ≡ no_run → Answers o finish
memory_wanted o finish notes s j = record {
  ends = WantsMemory notes s j;
  complete = λ c. record {
    no_command = λ none. inr s;
    runs = λ command file fuel writes program asks goes within is. inr s;
    refused = λ command file rule place asks all within broken. inr s;
    accepts = λ name file program asks within is. inr s;
    shown = λ name file text asks within is. inr s;
    no_component = λ name file rule place asks within none. inr s;
    too_large = λ command file asks long. inr s;
    audits = λ p bytes output asks within keeps. inr s;
    audits_none = λ p bytes asks within none. inr s;
    record_too_large = λ p bytes asks long. inr s;
    links = λ names files fuel program asks within is. inr s;
    links_none = λ names files fuel rule spot asks within broken. inr s;
    files_too_large = λ first rest files fuel asks long. inr s;
  };
}

-- A command of words has a number of accounts that words may give.
pub bounded : (words : List (List ℕ)) (command : Command) → IsCommand words command
    → IsBounded command
bounded words (Check name) is = tt
bounded words (Show name) is = tt
bounded words (Run name workers fuel) is = tt
bounded words (Bench accounts) is = is.asks.is.within
bounded words (Record name workers fuel) is = tt
bounded words (Audit name kept) is = tt
bounded words (Link names workers fuel) is = tt

-- What is meant to say of the files of a link is what the call means to say.
pub all_mean : (words : List (List ℕ)) (holding : List ℕ → Holding) (before after : ℕ)
    (command : Command) (names : List (List ℕ)) (workers fuel : ℕ) (r : Result Meant Memory)
    → command ≡ Link names workers fuel → IsCommand words command
    → IfOk r (LeadsTo (LinkMeans names fuel holding before after))
    → IfOk r (LeadsTo (Means words holding before after))
all_mean words holding before after command names workers fuel r e is means =
    leads_on_if (LinkMeans names fuel holding before after) (Means words holding before after) r
    (λ reply means. JudgedAll names workers fuel (subst (IsCommand words) e is) means) means

-- The files of a link are from 1 to the most.
pub some_files : (words : List (List ℕ)) (command : Command) (names : List (List ℕ))
    (workers fuel : ℕ) → command ≡ Link names workers fuel → IsCommand words command
    → (1 ≤ length names) × (length names ≤ most_files)
some_files words command names workers fuel e is =
    let link = subst (IsCommand words) e is in (link.asks.some, link.asks.within)
