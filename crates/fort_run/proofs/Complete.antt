-- Where no count rose, the words and the file decide the status, want of memory aside.
use Rattle.std.proofs.Common.{◌≡◌, ℕ, ◌<◌, ◌≤◌, List, [], ◌++◌, length, ap, ◌∙◌, sym, subst, arith, inl, inr, append-nil}
use Rattle.std.specs.Prelude.{◌⊎◌}
use Rattle.fort_base.specs.declared.refusal.Rule.{Rule}
use Rattle.fort_base.specs.declared.refusal.Place.{Place}
use Rattle.fort_core.specs.declared.program.Program.{Program}
use Rattle.fort_core.specs.declared.journal.Journal.{Journal}
use Rattle.fort_machine.specs.Journals.{Records}
use Rattle.fort_cmd.specs.declared.command.Command.{Command}
use Rattle.fort_cmd.specs.declared.command.Command.TheVariants.{Check, Show, Run, Bench, Record, Audit, Link}
use Rattle.fort_run.specs.declared.top.Finish.{Finish}
use Rattle.fort_cmd.specs.Words.{IsCommand, IsNoCommand}
use Rattle.fort_link.specs.declared.answer.Spot.{Spot}
use Rattle.fort_port.specs.Outside.{Held, Rose}
use Rattle.fort_audit.specs.Audits.{Prints}
use Rattle.fort_audit.specs.declared.answer.Audited.TheVariants.{Yes, NotARun, OtherOutput}
use Rattle.fort_run.specs.Reply.{Reply, IsFile, IsText, IsAcceptedAs, BreaksOne, Writing, Writes, its_output, its_record, TellsEnding, TellsRun, RunSays, Runs, Refuses, CheckSays, Accepts, AcceptsNone, accepted, bench_name, bench_fuel, IsShownAs, IsNoComponent, ShowSays, Shows, ShowsNone, AuditMeans, OfProgram, OfNone, RecordMeans, RecordRead, RecordUnread, RecordTooLarge, RecordSays, IsKept, Formless, audited, record_limit, size_of, IsOfOneFile, IsOfText, CommandSays, AreAcceptedAs, BreakOne, LinkSays, RunsWhole, RefusesWhole, LinkMeans, FilesRead, FilesUnread, FilesTooLarge, Judged, JudgedBoth, JudgedAll, NoCommand, Unread, TooLarge, file_limit}
use Rattle.fort_port_output.specs.Written.{Takes}
use Rattle.fort_run.specs.Delivery.{Whole, OutFailed, NotesFailed}
use Rattle.fort_run.specs.Outcome.{Outside, MeansToSay, Ends, Said, WantsMemory, IsCalm, IsAbout, Asks, RunsWith, AsksAll, IsWhole, AsksAudit, AsksLink, Keeps, Answers}
use Rattle.fort_run.proofs.Apart.{Fronts, accepted_apart, one_program_of, one_program_together, shown_apart, together_apart}
use Rattle.fort_run.proofs.Linked.{as_long, held_files, no_larger}
use Rattle.fort_cmd.proofs.Commands.{one_command}

-- What was meant was said, or memory was wanting.
settled : (o : Outside) (finish : Finish) → IsCalm o → Ends o finish
    → ((reply : Reply) × MeansToSay o reply × Takes o.out reply.out × (finish.status ≡ reply.status)
    × Takes o.notes reply.note × (finish.journal ≡ reply.journal)) ⊎ (finish.status ≡ 7)
settled o finish calm (Said reply means (Whole out notes e) j) =
    inl (reply, means, out, e, notes, j)
settled o finish calm (Said reply means (OutFailed out notes e) j) = absurd (calm.out out.rose)
settled o finish calm (Said reply means (NotesFailed out notes e) j) =
    absurd (calm.notes notes.rose)
settled o finish calm (WantsMemory notes e j) = inr e

-- What was read is the text that the command is about.
same_text_of : (o : Outside) (command : Command) (file found : List ℕ)
    → IsAbout o.holding command file → IsText o.holding command found → found ≡ file
same_text_of o (Check name) file found about is = subst (λ h. IsFile h found) about is
same_text_of o (Show name) file found about is = subst (λ h. IsFile h found) about is
same_text_of o (Run name workers fuel) file found about is = subst (λ h. IsFile h found) about is
same_text_of o (Bench accounts) file found about is = is ∙ sym about
same_text_of o (Record name workers fuel) file found about is = subst (λ h. IsFile h found) about is
same_text_of o (Audit name kept) file found about is = subst (λ h. IsFile h found) about is
same_text_of o (Link names workers fuel) file found about is = absurd about

same_file : (o : Outside) (a b : Command) (file found : List ℕ) → Asks o a file
    → IsCommand o.words b → IsText o.holding b found → found ≡ file
same_file o a b file found asks q is =
    same_text_of o a file found asks.about
    (subst (λ c. IsText o.holding c found) (one_command o.words b a q asks.is) is)

-- What is said of a file within the limit is what its command says of it.
judged : (o : Outside) (reply : Reply) (command : Command) (file : List ℕ) → IsOfOneFile command
    → IsCalm o → Asks o command file → length file ≤ file_limit → MeansToSay o reply
    → CommandSays command file reply
judged o reply command file one c asks within (JudgedBoth name kept file' is read within' means) =
    absurd (subst IsOfOneFile (one_command o.words command (Audit name kept) asks.is is) one)
judged o reply command file one c asks within (JudgedAll names workers fuel is means) =
    absurd
    (subst IsOfOneFile (one_command o.words command (Link names workers fuel) asks.is is) one)
judged o reply command file one c asks within (Judged command' file' is read within' calm says) =
    subst (λ x. CommandSays command x reply) (same_file o command command' file file' asks is read)
    (subst (λ x. CommandSays x file' reply) (one_command o.words command' command is asks.is) says)
judged o reply command file one c asks within (NoCommand none calm e) =
    absurd (none command asks.is)
judged o reply command file one c asks within (Unread command' is rose e) = absurd (c.shelf rose)
judged o reply command file one c asks within (TooLarge command' file' is read long calm e) =
    absurd (let same : length file' ≡ length file =
    ap length (same_file o command command' file file' asks is read) in omega arith)

-- What is meant to say of the files of an audit.
audit_of : (o : Outside) (reply : Reply) (name kept file : List ℕ) → IsCalm o
    → Asks o (Audit name kept) file → length file ≤ file_limit → MeansToSay o reply
    → AuditMeans name file (o.holding kept) o.faults_were o.faults_are reply
audit_of o reply name kept file c asks within (Judged command' file' is read within' calm says) =
    absurd (subst (λ x. CommandSays x file' reply)
    (one_command o.words command' (Audit name kept) is asks.is) says)
audit_of o reply name kept file c asks within (JudgedBoth name' kept' file' is read within' means) =
    let same : Audit name' kept' ≡ Audit name kept =
    one_command o.words (Audit name' kept') (Audit name kept) is asks.is in
    let n : name' ≡ name = cc in
    let k : kept' ≡ kept = cc in
    let f : file' ≡ file = same_file o (Audit name kept) (Audit name' kept') file file' asks is read
    in
    subst (λ x. AuditMeans x file (o.holding kept) o.faults_were o.faults_are reply) n
    (subst (λ x. AuditMeans name' x (o.holding kept) o.faults_were o.faults_are reply) f
    (subst (λ x. AuditMeans name' file' (o.holding x) o.faults_were o.faults_are reply) k means))
audit_of o reply name kept file c asks within (JudgedAll names workers fuel is means) = absurd
    (subst IsOfText
    (one_command o.words (Audit name kept) (Link names workers fuel) asks.is is) tt)
audit_of o reply name kept file c asks within (NoCommand none calm e) =
    absurd (none (Audit name kept) asks.is)
audit_of o reply name kept file c asks within (Unread command' is rose e) = absurd (c.shelf rose)
audit_of o reply name kept file c asks within (TooLarge command' file' is read long calm e) =
    absurd (let same : length file' ≡ length file =
    ap length (same_file o (Audit name kept) command' file file' asks is read)
    in omega arith)

-- What is said of an accepted file tells a run of its program.
run_of : Fronts → (writes : Writing) (name file : List ℕ) (fuel : ℕ) (p : Program) (reply : Reply)
    → IsAcceptedAs file p → RunSays writes name file fuel reply → TellsRun writes p fuel reply
run_of laws writes name file fuel p reply is (Runs q accepted says) =
    subst (λ x. TellsRun writes x fuel reply) (one_program_of laws file q p accepted is) says
run_of laws writes name file fuel p reply is (Refuses rule place broken e) =
    absurd (accepted_apart laws file p rule place is broken)

refused : Fronts
    → (writes : Writing) (name file : List ℕ) (fuel : ℕ) (rule : Rule) (place : Place)
    (reply : Reply) → BreaksOne file rule place → RunSays writes name file fuel reply
    → reply.status ≡ 1
refused laws writes name file fuel rule place reply b (Runs p is says) =
    absurd (accepted_apart laws file p rule place is b)
refused laws writes name file fuel rule place reply b (Refuses rule' place' broken e) =
    ap (λ (x : Reply). x.status) e

-- A run that was told is whole.
whole : (o : Outside) (finish : Finish) (writes : Writing) (p : Program) (fuel : ℕ) (reply : Reply)
    → TellsRun writes p fuel reply → Takes o.out reply.out → Takes o.notes reply.note
    → finish.status ≡ reply.status → finish.journal ≡ reply.journal → IsWhole o finish writes p fuel
whole o finish writes p fuel reply tells out note status journal = record {
  term = tells.term;
  effect = tells.effect;
  records = subst (λ j. Records p j tells.term tells.effect) (sym journal) tells.records;
  is_fuel = ap (λ (j : Journal). j.fuel) journal ∙ tells.is_fuel;
  written = reply.out;
  is_of_run =
      subst (λ j. Writes writes j tells.effect.output reply.out) (sym journal) tells.is_written;
  is_written = out;
  note = reply.note;
  is_noted = note;
  tells = subst (λ j. TellsEnding p j.ending finish.status reply.note) (sym journal)
      (subst (λ n. TellsEnding p reply.journal.ending n reply.note) (sym status) tells.tells);
}

shown : Fronts → (name file text : List ℕ) (reply : Reply) → IsShownAs file text
    → ShowSays name file reply → reply.status ≡ 0
shown laws name file text reply s (Shows text' shown' e) = ap (λ (x : Reply). x.status) e
shown laws name file text reply s (ShowsNone rule place none e) =
    absurd (shown_apart laws file text rule place s none)

accepts : Fronts → (name file : List ℕ) (program : Program) (reply : Reply)
    → IsAcceptedAs file program → CheckSays name file reply
    → (reply.status ≡ 0) × (reply.out ≡ accepted)
accepts laws name file program reply is (Accepts p a e) =
    (ap (λ (x : Reply). x.status) e, ap (λ (x : Reply). x.out) e)
accepts laws name file program reply is (AcceptsNone rule place b e) =
    absurd (accepted_apart laws file program rule place is b)

accepts_none : Fronts → (name file : List ℕ) (rule : Rule) (place : Place) (reply : Reply)
    → BreaksOne file rule place → CheckSays name file reply → reply.status ≡ 1
accepts_none laws name file rule place reply b (Accepts program a e) =
    absurd (accepted_apart laws file program rule place a b)
accepts_none laws name file rule place reply b (AcceptsNone rule' place' b' e) =
    ap (λ (x : Reply). x.status) e

-- What a command that runs its text says of it.
runs : (command : Command) (file : List ℕ) (fuel : ℕ) (writes : Writing) (reply : Reply)
    → RunsWith command fuel writes → CommandSays command file reply
    → (name : List ℕ) × RunSays writes name file fuel reply
runs (Check name) file fuel writes reply w says = absurd w
runs (Show name) file fuel writes reply w says = absurd w
runs (Run name workers given) file fuel writes reply w says = (
  name,
  subst (λ x. RunSays x name file fuel reply) (sym w.1)
      (subst (λ n. RunSays its_output name file n reply) (sym w.0) says),
)
runs (Bench accounts) file fuel writes reply w says = (
  bench_name,
  subst (λ x. RunSays x bench_name file fuel reply) (sym w.1)
      (subst (λ n. RunSays its_output bench_name file n reply) (sym w.0) says),
)
runs (Record name workers given) file fuel writes reply w says = (
  name,
  subst (λ x. RunSays x name file fuel reply) (sym w.1)
      (subst (λ n. RunSays its_record name file n reply) (sym w.0) says),
)
runs (Audit name kept) file fuel writes reply w says = absurd w
runs (Link names workers given) file fuel writes reply w says = absurd w

runs_one : (command : Command) (fuel : ℕ) (writes : Writing) → RunsWith command fuel writes
    → IsOfOneFile command
runs_one (Check name) fuel writes w = tt
runs_one (Show name) fuel writes w = tt
runs_one (Run name workers given) fuel writes w = tt
runs_one (Bench accounts) fuel writes w = tt
runs_one (Record name workers given) fuel writes w = tt
runs_one (Audit name kept) fuel writes w = absurd w
runs_one (Link names workers given) fuel writes w = absurd w

-- What is said of a file that breaks a rule, where all rules are asked of it.
audit_refused : Fronts
    → (o : Outside) (name kept file : List ℕ) (rule : Rule) (place : Place) (reply : Reply)
    → BreaksOne file rule place
    → AuditMeans name file (o.holding kept) o.faults_were o.faults_are reply → reply.status ≡ 1
audit_refused laws o name kept file rule place reply b (OfProgram p is means) =
    absurd (accepted_apart laws file p rule place is b)
audit_refused laws o name kept file rule place reply b (OfNone rule' place' b' calm e) =
    ap (λ (x : Reply). x.status) e

all_refused : Fronts
    → (o : Outside) (reply : Reply) (command : Command) (file : List ℕ) (rule : Rule)
    (place : Place) → IsCalm o → Asks o command file → AsksAll command
    → length file ≤ file_limit → BreaksOne file rule place → MeansToSay o reply → reply.status ≡ 1
all_refused laws o reply (Check name) file rule place c asks all within b m =
    accepts_none laws name file rule place reply b
    (judged o reply (Check name) file tt c asks within m)
all_refused laws o reply (Show name) file rule place c asks all within b m = absurd all
all_refused laws o reply (Run name workers fuel) file rule place c asks all within b m =
    refused laws its_output name file fuel rule place reply b
    (judged o reply (Run name workers fuel) file tt c asks within m)
all_refused laws o reply (Bench accounts) file rule place c asks all within b m =
    refused laws its_output bench_name file bench_fuel rule place reply b
    (judged o reply (Bench accounts) file tt c asks within m)
all_refused laws o reply (Record name workers fuel) file rule place c asks all within b m =
    refused laws its_record name file fuel rule place reply b
    (judged o reply (Record name workers fuel) file tt c asks within m)
all_refused laws o reply (Audit name kept) file rule place c asks all within b m =
    audit_refused laws o name kept file rule place reply b
    (audit_of o reply name kept file c asks within m)
all_refused laws o reply (Link names workers fuel) file rule place c asks all within b m =
    absurd asks.about

-- ---- audits

-- What is meant to say of the record that an audit is about.
record_of : Fronts → (o : Outside) (reply : Reply) (p : Program) (bytes : List ℕ) → IsCalm o
    → AsksAudit o p bytes → MeansToSay o reply
    → RecordMeans p (Held bytes) o.faults_were o.faults_are reply
record_of laws o reply p bytes c a m =
    go (audit_of o reply a.name a.kept a.file c a.asks a.within m)
  where
    go : AuditMeans a.name a.file (o.holding a.kept) o.faults_were o.faults_are reply
        → RecordMeans p (Held bytes) o.faults_were o.faults_are reply
    go (OfProgram q is means) =
        subst (λ x. RecordMeans x (Held bytes) o.faults_were o.faults_are reply)
        (one_program_of laws a.file q p is a.accepted)
        (subst (λ h. RecordMeans q h o.faults_were o.faults_are reply) a.held means)
    go (OfNone rule place broken calm e) =
        absurd (accepted_apart laws a.file p rule place a.accepted broken)

says_yes : Fronts → (p : Program) (bytes output : List ℕ) (reply : Reply) → Keeps p bytes output
    → RecordSays p bytes reply → (reply.status ≡ 0) × (reply.out ≡ output)
says_yes laws p bytes output reply k (IsKept r answer text found e) =
    let same = laws.one_record bytes k.journal r.journal output r.output k.is_text text in
    let prints : Prints p r.journal r.output =
    subst (λ j. Prints p j r.output) same.0 (subst (λ x. Prints p k.journal x) same.1 k.prints)
    in
    let yes : answer ≡ Yes = laws.one_answer p r answer Yes found prints in
    let is : reply ≡ audited r Yes = e ∙ ap (audited r) yes in
    (ap (λ (x : Reply). x.status) is, ap (λ (x : Reply). x.out) is ∙ sym same.1)
says_yes laws p bytes output reply k (Formless at fault e) =
    absurd (fault.no_record k.journal output k.is_text)

says_no : (p : Program) (bytes : List ℕ) (reply : Reply)
    → ((output : List ℕ) → Keeps p bytes output → ⊥) → RecordSays p bytes reply → reply.status ≡ 9
says_no p bytes reply none (IsKept r Yes text found e) =
    absurd (none r.output (record { journal = r.journal; is_text = text; prints = found }))
says_no p bytes reply none (IsKept r (NotARun n) text found e) = ap (λ (x : Reply). x.status) e
says_no p bytes reply none (IsKept r (OtherOutput n) text found e) = ap (λ (x : Reply). x.status) e
says_no p bytes reply none (Formless at fault e) = ap (λ (x : Reply). x.status) e

-- What is said of a record within its limit, and of one behind it.
read_record : (p : Program) (bytes : List ℕ) (before after : ℕ) (reply : Reply)
    → (Rose before after → ⊥) → length bytes ≤ record_limit
    → RecordMeans p (Held bytes) before after reply
    → RecordSays p bytes reply
read_record p bytes before after reply calm within (RecordRead found is w same says) =
    subst (λ x. RecordSays p x reply) is says
read_record p bytes before after reply calm within (RecordUnread rose e) = absurd (calm rose)
read_record p bytes before after reply calm within (RecordTooLarge found is long same e) = absurd
    (let l : length found ≡ length bytes = ap length is in omega arith)

long_record : (p : Program) (bytes : List ℕ) (before after : ℕ) (reply : Reply)
    → (Rose before after → ⊥) → record_limit < length bytes
    → RecordMeans p (Held bytes) before after reply
    → reply.status ≡ 8
long_record p bytes before after reply calm long (RecordRead found is w same says) = absurd
    (let l : length found ≡ length bytes = ap length is in omega arith)
long_record p bytes before after reply calm long (RecordUnread rose e) = absurd (calm rose)
long_record p bytes before after reply calm long (RecordTooLarge found is l same e) =
    ap (λ (x : Reply). x.status) e

-- ---- links

-- What is meant to say of the files of a link.
link_of : (o : Outside) (reply : Reply) (first rest files : List (List ℕ)) (fuel : ℕ) → IsCalm o
    → AsksLink o first rest files fuel → MeansToSay o reply
    → LinkMeans (first ++ rest) fuel o.holding o.faults_were o.faults_are reply
link_of o reply first rest files fuel c a (Judged command file is read within calm says) = absurd
    (subst (λ x. CommandSays x file reply)
    (one_command o.words command (Link (first ++ rest) a.workers fuel) is a.is) says)
link_of o reply first rest files fuel c a (JudgedBoth name kept file is read within means) = absurd
    (subst IsOfText
    (one_command o.words (Audit name kept) (Link (first ++ rest) a.workers fuel) is a.is) tt)
link_of o reply first rest files fuel c a (JudgedAll names workers given is means) =
    let same : Link names workers given ≡ Link (first ++ rest) a.workers fuel =
    one_command o.words (Link names workers given) (Link (first ++ rest) a.workers fuel) is a.is in
    let n : names ≡ first ++ rest = cc in
    let f : given ≡ fuel = cc in
    subst (λ x. LinkMeans x fuel o.holding o.faults_were o.faults_are reply) n
    (subst (λ x. LinkMeans names x o.holding o.faults_were o.faults_are reply) f means)
link_of o reply first rest files fuel c a (NoCommand none calm e) =
    absurd (none (Link (first ++ rest) a.workers fuel) a.is)
link_of o reply first rest files fuel c a (Unread command is rose e) = absurd (c.shelf rose)
link_of o reply first rest files fuel c a (TooLarge command file is read long calm e) = absurd
    (subst (λ x. IsText o.holding x file)
    (one_command o.words command (Link (first ++ rest) a.workers fuel) is a.is) read)

-- What is said of files within the limit.
files_judged : (o : Outside) (reply : Reply) (names files : List (List ℕ)) (fuel : ℕ) → IsCalm o
    → AsksLink o names [] files fuel → size_of files ≤ file_limit → MeansToSay o reply
    → LinkSays names files fuel reply
files_judged o reply names files fuel c a within m =
    go (subst (λ x. LinkMeans x fuel o.holding o.faults_were o.faults_are reply)
    (append-nil names) (link_of o reply names [] files fuel c a m))
  where
    go : LinkMeans names fuel o.holding o.faults_were o.faults_are reply
        → LinkSays names files fuel reply
    go (FilesRead read are w calm says) =
        subst (λ x. LinkSays names x fuel reply) (held_files o.holding names files read a.held are)
        says
    go (FilesUnread rose e) = absurd (c.shelf rose)
    go (FilesTooLarge large calm e) =
        absurd (no_larger o.holding names files a.held within large)

-- Files that go on behind the limit together.
files_long : (o : Outside) (reply : Reply) (first rest files : List (List ℕ)) (fuel : ℕ)
    → IsCalm o → AsksLink o first rest files fuel → file_limit < size_of files
    → MeansToSay o reply → reply.status ≡ 8
files_long o reply first rest files fuel c a long m =
    go (link_of o reply first rest files fuel c a m)
  where
    go : LinkMeans (first ++ rest) fuel o.holding o.faults_were o.faults_are reply
        → reply.status ≡ 8
    go (FilesRead read are w calm says) =
        absurd (let l : size_of files ≤ size_of read =
        as_long o.holding first rest files read a.held are in omega arith)
    go (FilesUnread rose e) = absurd (c.shelf rose)
    go (FilesTooLarge large calm e) = ap (λ (x : Reply). x.status) e

-- What is said of accepted files tells a run of the whole's program.
run_of_link : Fronts → (names files : List (List ℕ)) (fuel : ℕ) (p : Program) (reply : Reply)
    → AreAcceptedAs files p → LinkSays names files fuel reply → TellsRun its_output p fuel reply
run_of_link laws names files fuel p reply is (RunsWhole q accepted says) =
    subst (λ x. TellsRun its_output x fuel reply)
    (one_program_together laws files q p accepted is) says
run_of_link laws names files fuel p reply is (RefusesWhole rule spot broken e) =
    absurd (together_apart laws files p rule spot is broken)

link_refused : Fronts → (names files : List (List ℕ)) (fuel : ℕ) (rule : Rule) (spot : Spot)
    (reply : Reply) → BreakOne files rule spot → LinkSays names files fuel reply
    → reply.status ≡ 1
link_refused laws names files fuel rule spot reply b (RunsWhole p is says) =
    absurd (together_apart laws files p rule spot is b)
link_refused laws names files fuel rule spot reply b (RefusesWhole rule' spot' broken e) =
    ap (λ (x : Reply). x.status) e

no_component : Fronts → (name file : List ℕ) (rule : Rule) (place : Place) (reply : Reply)
    → IsNoComponent file rule place → ShowSays name file reply → reply.status ≡ 1
no_component laws name file rule place reply n (Shows text s e) =
    absurd (shown_apart laws file text rule place s n)
no_component laws name file rule place reply n (ShowsNone rule' place' none e) =
    ap (λ (x : Reply). x.status) e

no_command : (o : Outside) (reply : Reply) → IsNoCommand o.words → MeansToSay o reply
    → reply.status ≡ 2
no_command o reply none (Judged command file is read within calm says) = absurd (none command is)
no_command o reply none (JudgedBoth name kept file is read within means) =
    absurd (none (Audit name kept) is)
no_command o reply none (JudgedAll names workers fuel is means) =
    absurd (none (Link names workers fuel) is)
no_command o reply none (NoCommand out calm e) = ap (λ (x : Reply). x.status) e
no_command o reply none (Unread command is rose e) = absurd (none command is)
no_command o reply none (TooLarge command file is read long calm e) = absurd (none command is)

too_large : (o : Outside) (reply : Reply) (command : Command) (file : List ℕ) → IsCalm o
    → Asks o command file → file_limit < length file → MeansToSay o reply
    → reply.status ≡ 8
too_large o reply command file c asks long (Judged command' file' is read within calm says) =
    absurd (let same : length file' ≡ length file =
    ap length (same_file o command command' file file' asks is read) in omega arith)
too_large o reply command file c asks long (JudgedBoth name kept file' is read within means) =
    absurd (let same : length file' ≡ length file =
    ap length (same_file o command (Audit name kept) file file' asks is read)
    in omega arith)
too_large o reply command file c asks long (JudgedAll names workers fuel is means) = absurd
    (subst (λ x. IsAbout o.holding x file)
    (one_command o.words command (Link names workers fuel) asks.is is) asks.about)
too_large o reply command file c asks long (NoCommand none calm e) = absurd (none command asks.is)
too_large o reply command file c asks long (Unread command' is rose e) = absurd (c.shelf rose)
too_large o reply command file c asks long (TooLarge command' file' is read long' calm e) =
    ap (λ (x : Reply). x.status) e

-- What was said says which status it was, and what is on standard output.
either : (o : Outside) (finish : Finish) (n : ℕ) → IsCalm o → Ends o finish
    → ((reply : Reply) → MeansToSay o reply → reply.status ≡ n)
    → (finish.status ≡ n) ⊎ (finish.status ≡ 7)
either o finish n c ends k =
    elim (settled o finish c ends) [ inl w ↦ inl (w.3 ∙ k w.0 w.1) | inr e ↦ inr e ]

either_with : (o : Outside) (finish : Finish) (n : ℕ) (out : List ℕ) → IsCalm o → Ends o finish
    → ((reply : Reply) → MeansToSay o reply → (reply.status ≡ n) × (reply.out ≡ out))
    → ((finish.status ≡ n) × Takes o.out out) ⊎ (finish.status ≡ 7)
either_with o finish n out c ends k =
    elim (settled o finish c ends) [
      | inl w ↦
          inl (w.3 ∙ (k w.0 w.1).0, subst (λ x. Takes o.out x) (k w.0 w.1).1 w.2)
      | inr e ↦ inr e
    ]

pub answers : Fronts → (o : Outside) (finish : Finish) → Ends o finish → Answers o finish
answers laws o finish ends = record {
  ends = ends;
  complete = λ c. record {
    no_command = λ none. either o finish 2 c ends (λ r m. no_command o r none m);
    runs = λ command file fuel writes program asks goes within is. elim (settled o finish c ends) [
      | inl w ↦ let says =
          runs command file fuel writes w.0 goes
          (judged o w.0 command file (runs_one command fuel writes goes) c asks within w.1) in
          inl (whole o finish writes program fuel w.0
          (run_of laws writes says.0 file fuel program w.0 is says.1) w.2 w.4 w.3 w.5)
      | inr e ↦ inr e
    ];
    refused = λ command file rule place asks all within broken.
        either o finish 1 c ends
        (λ r m. all_refused laws o r command file rule place c asks all within broken m);
    accepts = λ name file program asks within is.
        either_with o finish 0 accepted c ends
        (λ r m. accepts laws name file program r is
        (judged o r (Check name) file tt c asks within m));
    shown = λ name file text asks within is. either o finish 0 c ends
        (λ r m. shown laws name file text r is (judged o r (Show name) file tt c asks within m));
    no_component =
        λ name file rule place asks within none. either o finish 1 c ends
        (λ r m. no_component laws name file rule place r none
        (judged o r (Show name) file tt c asks within m));
    too_large =
        λ command file asks long. either o finish 8 c ends
        (λ r m. too_large o r command file c asks long m);
    audits = λ p bytes output asks within keeps.
        either_with o finish 0 output c ends (λ r m.
        says_yes laws p bytes output r keeps
        (read_record p bytes o.faults_were o.faults_are r c.shelf within
        (record_of laws o r p bytes c asks m)));
    audits_none = λ p bytes asks within none.
        either o finish 9 c ends
        (λ r m. says_no p bytes r none
        (read_record p bytes o.faults_were o.faults_are r c.shelf within
        (record_of laws o r p bytes c asks m)));
    record_too_large = λ p bytes asks long.
        either o finish 8 c ends
        (λ r m. long_record p bytes o.faults_were o.faults_are r c.shelf long
        (record_of laws o r p bytes c asks m));
    links = λ names files fuel program asks within is. elim (settled o finish c ends) [
      | inl w ↦ inl (whole o finish its_output program fuel w.0
          (run_of_link laws names files fuel program w.0 is
          (files_judged o w.0 names files fuel c asks within w.1)) w.2 w.4 w.3 w.5)
      | inr e ↦ inr e
    ];
    links_none = λ names files fuel rule spot asks within broken.
        either o finish 1 c ends
        (λ r m. link_refused laws names files fuel rule spot r broken
        (files_judged o r names files fuel c asks within m));
    files_too_large = λ first rest files fuel asks long.
        either o finish 8 c ends
        (λ r m. files_long o r first rest files fuel c asks long m);
  };
}
