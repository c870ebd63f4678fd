use Rattle.fort_typing_known.specs.Read.{facts}
use Rattle.std.proofs.lemmas.Result.{IfOk-weaker}
use Rattle.fort_typing_meaning.proofs.Levels.{level-For, level-Fn}
use Rattle.fort_typing_build.proofs.closing.closed.Goals as goal

pub returns-in-For : goal.returns-in-For
returns-in-For c =
    rw (c.in-For.is, level-For, ← c.as_slice-in-For.ensures)
    (IfOk-weaker c.for_loop.result _ _ (λ o h. h (facts c.args.known.now)) c.for_loop.ensures)

pub returns-in-Fn : goal.returns-in-Fn
returns-in-Fn c = rw (c.in-Fn.is, level-Fn, ← c.as_slice-in-Fn.ensures) c.function.ensures
