-- The parser's walk over all words: the first names a command, and the rest is read by it.
use Rattle.std.proofs.Common.{◌≡◌, ℕ, Bool, true, false, refl, ap, ap₂, sym, ◌∙◌, ◌≤◌, subst, List, [], ◌∷◌, ◌++◌, length, append_assoc}
use Rattle.std.specs.Prelude.{codes, find, fold, unwrap_or, Option, Some, None, slice_get}
use Rattle.std.specs.Str.{IsUtf8, bytes_eq, chars}
use Rattle.std.proofs.lemmas.Slice.Eq.{bytes_eq-Decides}
use Rattle.clap.specs.Lexer.{long_of, short_of}
use Rattle.clap.specs.Walk.{Names, Row, Text, Walk, answers_to, idle, nothing_held, subcommand_met, walk, walk_from, walked}
use Rattle.clap.specs.Simple.{label_of, names_of, subcommand_of}
use Rattle.clap.specs.Faults.{defaults_fault, fault_of, flags_fault, turn_fault, walk_fault, word_fault}
use Rattle.clap.specs.Kinds.{Kinds, or_else}
use Rattle.clap.specs.declared.error.kind.ErrorKind.TheVariants as kind
use Rattle.clap.proofs.FaultLemmas.{stopped_fault}
use Rattle.fort_cmd.specs.declared.command.Command.{Command}
use Rattle.fort_cmd.specs.declared.command.Command.TheVariants.{Check, Show, Run, Bench, Record, Audit, Link}
use Rattle.fort_cmd.specs.Words.{Given, Gives, IsCommand, IsNoCommand, nothing, only}
use Rattle.fort_cmd.specs.Line.{AsMany, Kind, OfFile, OfRun, OfAudit, OfLink, IsOf, CheckIsOf, ShowIsOf, RunIsOf, BenchIsOf, RecordIsOf, AuditIsOf, LinkIsOf, Reads, TakesOptions, line}
use Rattle.fort_cmd.proofs.Files.{Idle, place, rests, within_none}
use Rattle.fort_cmd.proofs.Leaves.{above, leaf, whole_line}
use Rattle.fort_cmd.proofs.Looks.{Look, Plain, Mark, Short, Long, flag_there, look}
use Rattle.fort_cmd.proofs.Rows.{append_nil, none_found, some_none}
use Rattle.fort_cmd.proofs.Turns.{at, finish, left_none, or_else_none, whole}
use Rattle.fort_cmd.proofs.Complete.{all_taken}
use Rattle.fort_cmd.proofs.Sound.{AllText, Result, all_read}

abbrev names : Names
names = names_of whole_line

abbrev start : Walk
start = walk_from nothing_held

-- the walk that has met a command's name, and the words behind it
abbrev met : Text → List Text → Walk
met name behind = record start { stopped = Some (name, behind) }

-- the walk behind a command's name, before its words
abbrev begins : Walk
begins = at [] None idle 1 false

-- ---- a command's name

of_name : (P : Kind → Text → Type 0) → P OfFile (codes "check") → P OfFile (codes "show")
    → P OfRun (codes "run") → P OfFile (codes "bench") → P OfRun (codes "record")
    → P OfAudit (codes "audit") → P OfLink (codes "link") → (kind : Kind) (name : Text) → IsOf kind name → P kind name
of_name P check show run bench record' audit link OfFile name (CheckIsOf e) =
    subst (P OfFile) (sym e) check
of_name P check show run bench record' audit link OfFile name (ShowIsOf e) =
    subst (P OfFile) (sym e) show
of_name P check show run bench record' audit link OfRun name (RunIsOf e) = subst (P OfRun) (sym e) run
of_name P check show run bench record' audit link OfFile name (BenchIsOf e) =
    subst (P OfFile) (sym e) bench
of_name P check show run bench record' audit link OfRun name (RecordIsOf e) =
    subst (P OfRun) (sym e) record'
of_name P check show run bench record' audit link OfAudit name (AuditIsOf e) =
    subst (P OfAudit) (sym e) audit
of_name P check show run bench record' audit link OfLink name (LinkIsOf e) =
    subst (P OfLink) (sym e) link

name_walked : (kind : Kind) (name : Text) → IsOf kind name
    → walked [] names start name ≡ met name []
unfolding walked
name_walked =
    of_name (λ kind name. walked [] names start name ≡ met name []) refl refl refl refl refl refl
    refl

name_faultless : (kind : Kind) (name : Text) → IsOf kind name
    → turn_fault above names start name ≡ []
name_faultless =
    of_name (λ kind name. turn_fault above names start name ≡ []) refl refl refl refl refl refl
    refl

name_found : (kind : Kind) (name : Text) → IsOf kind name
    → find (λ s. answers_to name (label_of s)) whole_line.subs ≡ Some (leaf kind name)
name_found =
    of_name (λ kind name. find (λ s. answers_to name (label_of s)) whole_line.subs
    ≡ Some (leaf kind name)) refl refl refl refl refl refl refl

met_stays : (name : Text) (behind more : List Text)
    → fold (walked [] names) (met name behind) more ≡ met name (behind ++ more)
unfolding walked
met_stays name behind [] = ap (met name) (sym (append_nil behind))
met_stays name behind (x ∷ more) =
    met_stays name (behind ++ x ∷ []) more ∙ ap (met name) (append_assoc behind (x ∷ []) more)

module _ (kind : Kind) (name : Text) (is : IsOf kind name) (behind : List Text) where
  walk_is : walk [] names nothing_held (name ∷ behind) ≡ met name behind
  walk_is =
      ap (λ w. fold (walked [] names) w behind) (name_walked kind name is)
      ∙ met_stays name [] behind

  above_faultless : walk_fault above names start (name ∷ behind) ≡ []
  unfolding walk_fault
  above_faultless =
      ap₂ or_else (name_faultless kind name is)
      (ap (λ w. walk_fault above names w behind) (name_walked kind name is)
      ∙ stopped_fault above names start (name, []) behind)

  pub name_fault : fault_of line (name ∷ behind) ≡ whole kind name begins behind
  unfolding defaults_fault
  name_fault =
      rw (walk_is, above_faultless, name_found kind name is)
      (or_else_none (whole kind name begins behind))

  pub name_entered : subcommand_of line (name ∷ behind)
      ≡ Some (name, finish kind begins behind)
  name_entered = rw (walk_is, name_found kind name is) refl

-- ---- words of a command

-- What stands behind a command's own word.
record Behind (ws : List Text) : Type 0 where
  kind : Kind
  name : Text
  is : IsOf kind name
  behind : List Text
  words_are : ws ≡ name ∷ behind
  given : Given
  gives : Gives behind nothing given
  as_many : AsMany kind (length given.files)
  options : TakesOptions kind given

behind_of : (ws : List Text) (c : Command) → IsCommand ws c → Behind ws
behind_of ws (Check file) i = record {
  kind = OfFile;
  name = codes "check";
  is = CheckIsOf refl;
  behind = i.behind;
  words_are = i.words_are;
  given = only (file ∷ []);
  gives = i.asks;
  as_many = refl;
  options = (refl, refl);
}
behind_of ws (Show file) i = record {
  kind = OfFile;
  name = codes "show";
  is = ShowIsOf refl;
  behind = i.behind;
  words_are = i.words_are;
  given = only (file ∷ []);
  gives = i.asks;
  as_many = refl;
  options = (refl, refl);
}
behind_of ws (Run file workers fuel) i = record {
  kind = OfRun;
  name = codes "run";
  is = RunIsOf refl;
  behind = i.behind;
  words_are = i.words_are;
  given = i.asks.given;
  gives = i.asks.gives;
  as_many = ap length i.asks.files_are;
  options = tt;
}
behind_of ws (Bench n) i = record {
  kind = OfFile;
  name = codes "bench";
  is = BenchIsOf refl;
  behind = i.behind;
  words_are = i.words_are;
  given = only (i.asks.number ∷ []);
  gives = i.asks.gives;
  as_many = refl;
  options = (refl, refl);
}
behind_of ws (Record file workers fuel) i = record {
  kind = OfRun;
  name = codes "record";
  is = RecordIsOf refl;
  behind = i.behind;
  words_are = i.words_are;
  given = i.asks.given;
  gives = i.asks.gives;
  as_many = ap length i.asks.files_are;
  options = tt;
}
behind_of ws (Audit file kept) i = record {
  kind = OfAudit;
  name = codes "audit";
  is = AuditIsOf refl;
  behind = i.behind;
  words_are = i.words_are;
  given = only (file ∷ kept ∷ []);
  gives = i.asks;
  as_many = refl;
  options = (refl, refl);
}
behind_of ws (Link files workers fuel) i = record {
  kind = OfLink;
  name = codes "link";
  is = LinkIsOf refl;
  behind = i.behind;
  words_are = i.words_are;
  given = i.asks.given;
  gives = i.asks.gives;
  as_many = subst (λ fs. 1 ≤ length fs) (sym i.asks.files_are) i.asks.some;
  options = tt;
}

-- The walk begins with no file, whatever the kind.
begins_is : (kind : Kind) → at [] None (rests Idle) (place kind 0) false ≡ begins
begins_is OfFile = refl
begins_is OfRun = refl
begins_is OfAudit = refl
begins_is OfLink = refl

pub command_taken : (ws : List Text) (c : Command) → IsCommand ws c → fault_of line ws ≡ []
command_taken ws c i =
    let b = behind_of ws c i in
    ap (fault_of line) b.words_are ∙ name_fault b.kind b.name b.is b.behind
    ∙ sym (ap (λ w. whole b.kind b.name w b.behind) (begins_is b.kind))
    ∙ all_taken b.kind b.name b.behind nothing b.given b.gives [] None Idle refl
    (none_found b.kind) b.as_many b.options

pub no_name : (ws : List Text) → subcommand_of line ws ≡ None → IsNoCommand ws
no_name ws e c i =
    let b = behind_of ws c i in
    some_none (b.name, finish b.kind begins b.behind)
    (sym (ap (subcommand_of line) b.words_are ∙ name_entered b.kind b.name b.is b.behind) ∙ e)

-- ---- words that are taken

-- The first word is a command's own, or the parser takes it for none.
data Head (word : Text) : Type 0 where
  IsName : (kind : Kind) → IsOf kind word → Head word
  IsNone : subcommand_met names idle word ≡ None → Head word

head : (word : Text) → Head word
head word =
    go (bytes_eq (codes "check") word) (bytes_eq (codes "show") word) (bytes_eq (codes "run") word)
    (bytes_eq (codes "bench") word) (bytes_eq (codes "record") word)
    (bytes_eq (codes "audit") word) (bytes_eq (codes "link") word) refl refl refl refl refl refl refl
  where
    same : (name : Text) → bytes_eq name word ≡ true → word ≡ name
    same name e = sym ((bytes_eq-Decides name word).0 e)

    go : (a b c d e f g : Bool) → bytes_eq (codes "check") word ≡ a
        → bytes_eq (codes "show") word ≡ b
        → bytes_eq (codes "run") word ≡ c → bytes_eq (codes "bench") word ≡ d
        → bytes_eq (codes "record") word ≡ e → bytes_eq (codes "audit") word ≡ f
        → bytes_eq (codes "link") word ≡ g → Head word
    go true b c d e f g p q r s t u v = IsName OfFile (CheckIsOf (same (codes "check") p))
    go false true c d e f g p q r s t u v = IsName OfFile (ShowIsOf (same (codes "show") q))
    go false false true d e f g p q r s t u v = IsName OfRun (RunIsOf (same (codes "run") r))
    go false false false true e f g p q r s t u v =
        IsName OfFile (BenchIsOf (same (codes "bench") s))
    go false false false false true f g p q r s t u v =
        IsName OfRun (RecordIsOf (same (codes "record") t))
    go false false false false false true g p q r s t u v =
        IsName OfAudit (AuditIsOf (same (codes "audit") u))
    go false false false false false false true p q r s t u v =
        IsName OfLink (LinkIsOf (same (codes "link") v))
    go false false false false false false false p q r s t u v =
        IsNone (rw (p, q, r, s, t, u, v) refl)

abbrev behind_mark : Walk
behind_mark = record start { is_trailing = true }

mark_stays : (more : List Text) → fold (walked [] names) behind_mark more ≡ behind_mark
unfolding walked
mark_stays [] = refl
mark_stays (x ∷ more) = mark_stays more

mark_meets : (rest : List Text) → subcommand_of line (codes "--" ∷ rest) ≡ None
unfolding walked
mark_meets rest = rw (mark_stays rest) refl

first_turn : (word : Text) (rest : List Text) → fault_of line (word ∷ rest) ≡ []
    → turn_fault above names start word ≡ []
unfolding walk_fault
first_turn word rest e =
    left_none (turn_fault above names start word) _
    (left_none (walk_fault above names start (word ∷ rest)) _ e)

unknown : (word : Text) (more : Kinds)
    → turn_fault above names start word ≡ kind.UnknownArgument ∷ more
    → turn_fault above names start word ≡ [] → ⊥
unknown word more q turn = let z : kind.UnknownArgument ∷ more ≡ [] = sym q ∙ turn in cc

no_flag : (word : Text) (flag : ℕ) (flags : Text) → subcommand_met names idle word ≡ None
    → bytes_eq word (codes "--") ≡ false → long_of word ≡ None
    → short_of word ≡ Some (flag ∷ flags) → (slice_get (chars (flag ∷ flags)) 0 ≡ None → ⊥)
    → turn_fault above names start word ≡ [] → ⊥
unfolding flags_fault
no_flag word flag flags none no_mark no_long short there turn =
    go (slice_get (chars (flag ∷ flags)) 0) refl
  where
    go : (o : Option ℕ) → slice_get (chars (flag ∷ flags)) 0 ≡ o → ⊥
    go None q = there q
    go (Some x) q =
        let w : word_fault above names false idle word nothing_held ≡ kind.UnknownArgument ∷ [] =
        rw (none, no_mark, no_long, short, q) refl in
        let z : kind.UnknownArgument ∷ [] ≡ [] =
        sym w ∙ left_none (word_fault above names false idle word nothing_held) _ turn in cc

-- No flag, and no word without one, is taken above the commands.
none_taken : (word : Text) (rest : List Text) → IsUtf8 word → Look word
    → subcommand_met names idle word ≡ None → fault_of line (word ∷ rest) ≡ []
    → (name : Text) (rows : List Row)
    → subcommand_of line (word ∷ rest) ≡ Some (name, rows) → ⊥
none_taken word rest u (Plain file plain) none e name rows entered =
    unknown word (kind.InvalidSubcommand ∷ [])
    (rw (none, plain.no_mark, plain.no_long, plain.no_short) refl) (first_turn word rest e)
none_taken word rest u (Mark q) none e name rows entered =
    some_none (name, rows) (sym entered ∙ ap (λ w. subcommand_of line (w ∷ rest)) q
    ∙ mark_meets rest)
none_taken word rest u (Short flag flags q no_mark no_long short) none e name rows entered =
    no_flag word flag flags none no_mark no_long short (flag_there flag flags (subst IsUtf8 q u))
    (first_turn word rest e)
none_taken word rest u (Long letter letters q no_mark long) none e name rows entered =
    unknown word [] (rw (none, no_mark, long) refl) (first_turn word rest e)

-- What was taken, by the name of the command that was met.
pub record Taken (ws : List Text) (name : Text) (rows : List Row) : Type 0 where
  pub kind : Kind
  pub behind : List Text
  pub is : IsOf kind name
  pub words_are : ws ≡ name ∷ behind
  pub reads : Reads kind behind rows

none_given : (kind : Kind) → TakesOptions kind nothing
none_given OfRun = tt
none_given OfLink = tt
none_given OfFile = (refl, refl)
none_given OfAudit = (refl, refl)

-- Words that are taken from the first on give what the matches have.
read_from : (kind : Kind) (name : Text) (rest : List Text) → AllText rest
    → whole kind name begins rest ≡ [] → Result kind (finish kind begins rest) rest nothing
read_from kind name rest u e =
    let from : at [] None (rests Idle) (place kind 0) false ≡ begins = begins_is kind in
    subst (λ w. Result kind (finish kind w rest) rest nothing) from
    (all_read kind name rest nothing u [] None Idle (ap (λ w. whole kind name w rest) from ∙ e)
    (λ z. none_found kind) (within_none kind) (none_given kind))

named_taken : (kind : Kind) (word : Text) (is : IsOf kind word) (rest : List Text) → AllText rest
    → fault_of line (word ∷ rest) ≡ [] → (name : Text) (rows : List Row)
    → subcommand_of line (word ∷ rest) ≡ Some (name, rows) → Taken (word ∷ rest) name rows
named_taken kind word is rest u e name rows entered =
    let now : List Row = finish kind begins rest in
    let r = read_from kind word rest u (sym (name_fault kind word is rest) ∙ e) in
    let same : (word, now) ≡ (name, rows) =
    ap (λ o. unwrap_or o (name, rows)) (sym (name_entered kind word is rest) ∙ entered) in
    let taken : Taken (word ∷ rest) word now = record {
      kind = kind;
      behind = rest;
      is = is;
      words_are = refl;
      reads = record {
        given = r.given;
        gives = r.gives;
        found = r.found;
        files = r.as_many;
        options = r.options;
      };
    } in
    subst (λ (p : Text × List Row). Taken (word ∷ rest) p.0 p.1) same taken

pub all_words : (ws : List Text) → AllText ws → fault_of line ws ≡ []
    → (name : Text) (rows : List Row) → subcommand_of line ws ≡ Some (name, rows)
    → Taken ws name rows
all_words [] u e name rows entered = absurd (some_none (name, rows) (sym entered))
all_words (x ∷ rest) u e name rows entered = go (head x)
  where
    go : Head x → Taken (x ∷ rest) name rows
    go (IsName kind is) = named_taken kind x is rest u.1 e name rows entered
    go (IsNone none) = absurd (none_taken x rest u.0 (look x) none e name rows entered)
