use Rattle.std.proofs.Common.{◌≡◌, ◌∙◌, sym, ap, subst, map, string_bytes, List, []}
use Rattle.std.specs.Prelude.{Some}
use Rattle.clap.specs.Walk.{Text, rows_of}
use Rattle.clap.specs.Matches.{found_of}
use Rattle.clap.specs.Simple.{App, is_simple, subcommand_of, subcommand_rows_of}
use Rattle.clap.specs.Faults.{fault_of, is_simple_and_free}
use Rattle.clap.specs.Kinds.{HasKind}
use Rattle.fort_cmd.specs.Line.{line}
use Rattle.fort_cmd.proofs.Leaves.{line_free, line_simple}
use Rattle.fort_cmd.proofs.Outcome.{all_text, entered, met_cause, met_ok, not_entered, refused}
use Rattle.fort_cmd.proofs.Top.{Taken, all_words, no_name}
use Rattle.fort_cmd.proofs.command.command_of.Goals as goal

pub returns-in-Err-clause-cause : goal.returns-in-Err-clause-cause
returns-in-Err-clause-cause c =
    let ws : List Text = map string_bytes c.args.words.now in
    let has : HasKind (fault_of line ws) c.in-Err.error =
    subst (λ (a : App). HasKind (fault_of a ws) c.in-Err.error) c.in_ok-line.ensures
    (c.in-Err.ensures.kinds (ap is_simple_and_free c.in_ok-line.ensures ∙ line_free)) in
    refused ws c.fault_of.result c.in-Err.error c.fault_of.ensures has

pub returns-in-Some-clause-ok : goal.returns-in-Some-clause-ok
returns-in-Some-clause-ok c =
    let ws : List Text = map string_bytes c.args.words.now in
    let faultless : fault_of line ws ≡ [] =
    subst (λ (a : App). fault_of a ws
    ≡ []) c.in_ok-line.ensures
    (c.in-Ok.ensures.kinds (ap is_simple_and_free c.in_ok-line.ensures ∙ line_free)) in
    let rows : subcommand_rows_of c.in-Ok.matches ≡ subcommand_of line ws =
    (c.in-Ok.ensures.matches (ap is_simple c.in_ok-line.ensures ∙ line_simple)).1 ∙ ap (λ
    (a : App). subcommand_of a ws) c.in_ok-line.ensures in
    let met : subcommand_of line ws
    ≡ Some (c.in-Some.name.now, rows_of (found_of c.in-Some.given.now)) =
    sym rows ∙ entered c.in-Ok.matches c.in-Some.name.now (rows_of (found_of c.in-Some.given.now))
    c.in-Some.ensures.name c.in-Some.ensures.rows in
    let taken : Taken ws c.in-Some.name.now (rows_of (found_of c.in-Some.given.now)) =
    all_words ws (all_text c.args.words.now) faultless c.in-Some.name.now
    (rows_of (found_of c.in-Some.given.now)) met in
    met_ok c.named.result ws c.in-Some.name.now (rows_of (found_of c.in-Some.given.now)) taken
    c.named.ensures.ok

pub returns-in-Some-clause-cause : goal.returns-in-Some-clause-cause
returns-in-Some-clause-cause c =
    let ws : List Text = map string_bytes c.args.words.now in
    let faultless : fault_of line ws ≡ [] =
    subst (λ (a : App). fault_of a ws
    ≡ []) c.in_ok-line.ensures
    (c.in-Ok.ensures.kinds (ap is_simple_and_free c.in_ok-line.ensures ∙ line_free)) in
    let rows : subcommand_rows_of c.in-Ok.matches ≡ subcommand_of line ws =
    (c.in-Ok.ensures.matches (ap is_simple c.in_ok-line.ensures ∙ line_simple)).1 ∙ ap (λ
    (a : App). subcommand_of a ws) c.in_ok-line.ensures in
    let met : subcommand_of line ws
    ≡ Some (c.in-Some.name.now, rows_of (found_of c.in-Some.given.now)) =
    sym rows ∙ entered c.in-Ok.matches c.in-Some.name.now (rows_of (found_of c.in-Some.given.now))
    c.in-Some.ensures.name c.in-Some.ensures.rows in
    let taken : Taken ws c.in-Some.name.now (rows_of (found_of c.in-Some.given.now)) =
    all_words ws (all_text c.args.words.now) faultless c.in-Some.name.now
    (rows_of (found_of c.in-Some.given.now)) met in
    met_cause c.named.result ws c.in-Some.name.now (rows_of (found_of c.in-Some.given.now)) taken
    c.named.ensures.cause

pub returns-clause-cause : goal.returns-clause-cause
returns-clause-cause c =
    let ws : List Text = map string_bytes c.args.words.now in
    let rows : subcommand_rows_of c.in-Ok.matches ≡ subcommand_of line ws =
    (c.in-Ok.ensures.matches (ap is_simple c.in_ok-line.ensures ∙ line_simple)).1 ∙ ap (λ
    (a : App). subcommand_of a ws) c.in_ok-line.ensures in
    no_name ws (sym rows ∙ not_entered c.in-Ok.matches c.in-None.ensures.variant)
