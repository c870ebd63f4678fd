use Rattle.std.proofs.Common.{◌≡◌, ◌∙◌, sym, rules}
use Rattle.std.specs.Prelude.{Some}
use Rattle.clap.specs.Matches.{first_value, found_of}
use Rattle.clap.specs.Walk.{rows_of}
use Rattle.clap.proofs.WalkLemmas.{first_value-rows}
use Rattle.fort_cmd.proofs.Matched.{first_is}
use Rattle.fort_cmd.proofs.Rows.{some_injective, some_none}
use Rattle.fort_cmd.proofs.command.word_of.Goals as goal

pub returns-in_ok-from_slice-in-Some-clause-ok : goal.returns-in_ok-from_slice-in-Some-clause-ok
returns-in_ok-from_slice-in-Some-clause-ok c = λ word e.
    let value : first_value (found_of c.args.given.now) c.args.id.now ≡ Some word =
    first_value-rows (found_of c.args.given.now) c.args.id.now
    ∙ first_is c.args.id.now word (rows_of (found_of c.args.given.now)) e in
    let same : c.in-Some.word.now ≡ word =
    some_injective c.in-Some.word.now word (c.in-Some.ensures ∙ value) in
    let copied : c.in_ok-from_slice-in-Some.field-0 ≡ c.in-Some.word.now = search rules in
    copied ∙ same

pub returns-in-None-clause-cause : goal.returns-in-None-clause-cause
returns-in-None-clause-cause c = λ word e.
    absurd (some_none word
    (sym (first_value-rows (found_of c.args.given.now) c.args.id.now
    ∙ first_is c.args.id.now word (rows_of (found_of c.args.given.now)) e)
    ∙ sym c.in-None.ensures))
