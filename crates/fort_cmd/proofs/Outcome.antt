-- What a parse of all words answers.
use Rattle.std.proofs.Common.{◌≡◌, ◌↔◌, refl, ap, sym, subst, inl, inr, false, List, [], ◌∷◌, map, string_bytes, Result, IfOk, IfErr}
use Rattle.std.specs.Prelude.{String, Option, Some, None, is_some, option_map, unwrap_or}
use Rattle.std.specs.Box.{box_value}
use Rattle.std.proofs.lemmas.Str.{IsUtf8-string_bytes}
use Rattle.clap.specs.Walk.{Row, Text, rows_of}
use Rattle.clap.specs.Matches.{found_of, has_subcommand, subcommand_name_of}
use Rattle.clap.specs.Simple.{subcommand_rows_of}
use Rattle.clap.specs.Faults.{fault_of}
use Rattle.clap.specs.Kinds.{HasKind}
use Rattle.clap.specs.Values.{kind_of}
use Rattle.clap.specs.declared.error.Error.{Error}
use Rattle.clap.specs.declared.error.kind.ErrorKind.TheVariants as kind
use Rattle.clap.specs.declared.parser.matches.ArgMatches.{ArgMatches}
use Rattle.clap.specs.declared.parser.matches.ArgMatches.TheViews.{out-ArgMatches, out-SubCommand}
use Rattle.fort_cmd.specs.declared.command.CmdFault.{CmdFault}
use Rattle.fort_cmd.specs.declared.command.CmdFault.TheVariants.{Memory, NotACommand}
use Rattle.fort_cmd.specs.declared.command.Command.{Command}
use Rattle.fort_cmd.specs.Words.{Explains, IsCommand}
use Rattle.fort_cmd.specs.Line.{IsOf, Kind, Reads, line}
use Rattle.fort_cmd.proofs.Rows.{some_none}
use Rattle.fort_cmd.proofs.Sound.{AllText}
use Rattle.fort_cmd.proofs.Top.{Taken, command_taken}

pub all_text : {Z : Type 0} (words : List (String Z)) → AllText (map string_bytes words)
all_text [] = tt
all_text (w ∷ words) = (IsUtf8-string_bytes w, all_text words)

pub refused : (ws : List Text) (fault : CmdFault) (e : Error)
    → ((kind_of e ≡ kind.OutOfMemory → ⊥) ↔ (fault ≡ NotACommand)) → HasKind (fault_of line ws) e
    → Explains ws fault
refused ws Memory e iff has = tt
refused ws NotACommand e iff has = λ c is. go (subst (λ k. HasKind k e) (command_taken ws c is) has)
  where
    go : HasKind [] e → ⊥
    go (inl q) = iff.1 refl q
    go (inr q) = q

abbrev pair : {X A B : Type 0} → (X → A) → (X → B) → X → A × B
pair f g x = (f x, g x)

both_of : {X A B : Type 0} (f : X → A) (g : X → B) (o : Option X) (a : A) (b : B)
    → Some a ≡ option_map f o → Some b ≡ option_map (λ (p : A × B). p.1) (option_map (pair f g) o)
    → option_map (pair f g) o ≡ Some (pair (λ (x : A × B). x.0) (λ (x : A × B). x.1) (a, b))
both_of f g None a b e q = absurd (some_none a e)
both_of f g (Some x) a b e q =
    let first : a ≡ f x = ap (λ o. unwrap_or o a) e in
    let second : b ≡ g x = ap (λ o. unwrap_or o b) q in (λ i. Some (sym first i, sym second i))

pub entered : (m : ArgMatches) (name : Text) (rows : List Row) → Some name ≡ subcommand_name_of m
    → Some rows ≡ option_map (λ p. p.1) (subcommand_rows_of m)
    → subcommand_rows_of m ≡ Some (name, rows)
entered m name rows e q =
    both_of (λ b. (out-SubCommand (box_value b)).name.now)
    (λ b. rows_of (found_of (out-SubCommand (box_value b)).matches))
    (out-ArgMatches m).subcommand name rows e q

none_of : {X Y : Type 0} (f : X → Y) (o : Option X) → false ≡ is_some o → option_map f o ≡ None
none_of f None e = refl
none_of f (Some x) e = cc

pub not_entered : (m : ArgMatches) → false ≡ has_subcommand m → subcommand_rows_of m ≡ None
not_entered m e =
    none_of (λ b. (
      (out-SubCommand (box_value b)).name.now,
      rows_of (found_of (out-SubCommand (box_value b)).matches),
    )) (out-ArgMatches m).subcommand e

-- The command that was met is the words' own.
pub met_ok : (r : Result Command CmdFault) (ws : List Text) (name : Text) (rows : List Row)
    → Taken ws name rows
    → ((kind : Kind) (behind : List Text) → IsOf kind name → Reads kind behind rows
    → IfOk r (IsCommand (name ∷ behind))) → IfOk r (IsCommand ws)
met_ok r ws name rows t ok =
    subst (λ w. IfOk r (IsCommand w)) (sym t.words_are) (ok t.kind t.behind t.is t.reads)

pub met_cause : (r : Result Command CmdFault) (ws : List Text) (name : Text) (rows : List Row)
    → Taken ws name rows
    → ((kind : Kind) (behind : List Text) → IsOf kind name → Reads kind behind rows
    → IfErr r (Explains (name ∷ behind))) → IfErr r (Explains ws)
met_cause r ws name rows t cause =
    subst (λ w. IfErr r (Explains w)) (sym t.words_are) (cause t.kind t.behind t.is t.reads)
