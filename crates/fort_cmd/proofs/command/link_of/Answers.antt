use Rattle.std.proofs.Common.{◌≡◌, ◌∙◌, arith, ap, sym}
use Rattle.clap.specs.Matches.{found_of}
use Rattle.clap.specs.Walk.{texts}
use Rattle.fort_cmd.proofs.Rows.{some_injective}
use Rattle.fort_cmd.proofs.Matched.{as_many_words, link_is, no_link, words_found, words_there}
use Rattle.fort_cmd.proofs.command.link_of.Goals.{in_default-via-in-Some+else-words-le-MOST_FILES, in_default-via-in_default}
use Rattle.fort_cmd.proofs.command.link_of.Goals as goal

pub returns-in_ok-files-in-Some-clause-ok : goal.returns-in_ok-files-in-Some-clause-ok
returns-in_ok-files-in-Some-clause-ok c = λ behind r.
    let many =
    as_many_words c.in-Some.words.now c.in_ok-files-in-Some.files c.in_ok-files-in-Some.ensures in
    link_is behind (found_of c.args.given.now) r c.in_ok-files-in-Some.files c.workers_of.result
    c.fuel_of.result
    (words_found c.get_strs.result c.in-Some.words c.in_ok-files-in-Some.files _ c.in-Some.is
    c.in_ok-files-in-Some.ensures c.get_strs.ensures)
    (omega (arith, many, c.if-words-le-MOST_FILES.true)) c.workers_of.ensures c.fuel_of.ensures

pub returns-in_default-clause-cause : goal.returns-in_default-clause-cause
returns-in_default-clause-cause c = λ behind r.
    no_link behind (found_of c.args.given.now) r _ c.get_strs.ensures
    (λ files e l. let t = words_there c.get_strs.result files e in elim c.in_default.branch [
      | in_default-via-in-Some+else-words-le-MOST_FILES w ↦
          let same : w.in-Some.words ≡ t.0 =
          some_injective w.in-Some.words t.0 (sym w.in-Some.is ∙ t.1) in
          let many = as_many_words w.in-Some.words.now files (t.2 ∙ ap (λ s. texts s.now) (sym same))
          in omega (arith, l, many, w.if-words-le-MOST_FILES.false)
      | in_default-via-in_default w ↦ w.in_default.not-Some t.0 t.1
    ])
