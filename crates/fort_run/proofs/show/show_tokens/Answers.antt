use Rattle.std.proofs.Common.{refl}
use Rattle.std.proofs.lemmas.Result.{IfOk-weaker}
use Rattle.fort_lex_canonical.proofs.Showing.{numbered}
use Rattle.fort_run.specs.Reply.{Shows}
use Rattle.fort_run.proofs.Refused.{grammar_unshown}
use Rattle.fort_run.proofs.show.show_tokens.Goals as goal

pub shown-requires : goal.shown-requires
shown-requires c = numbered c.args.tokens.now c.requires

pub returns-in_ok-shown-in-Ok : goal.returns-in_ok-shown-in-Ok
returns-in_ok-shown-in-Ok c file has =
    Shows _ (record {
      tokens = c.args.tokens.now;
      has = has;
      grammatical = c.in-Ok.ensures;
      shown = c.in_ok-shown-in-Ok.ensures;
    }) refl

pub returns-in-Err : goal.returns-in-Err
returns-in-Err c =
    IfOk-weaker c.refused_by.result _ _
    (λ a e file has. grammar_unshown c.args.name file c.args.tokens.now c.in-Err.fault a has
    c.in-Err.ensures e)
    c.refused_by.ensures
