use Rattle.std.proofs.Common.{◌∙◌, arith, length-drop}
use Rattle.fort_port_output.proofs.Taken.{at_error, piece_added, stopped}
use Rattle.fort_port_output.proofs.whole.write_all.Goals as goal

pub loop-done-preserved : goal.loop-done-preserved
loop-done-preserved g c = record {
  within = omega (
    arith,
    c.in_ok-done.ensures.takes.1,
    length-drop c.loop-done.done c.args.bytes.now,
  );
  written =
      piece_added c.args.bytes.now c.loop-done.done c.in_ok-done.field-0 _ _ _
      c.loop-done.invariant.written c.in_ok-done.ensures.appends;
  calm = c.in_ok-done.ensures.calm ∙ c.loop-done.invariant.calm;
  ready = c.in_ok-done.ensures.ready;
}

pub returns-in_err-done-clause-err : goal.returns-in_err-done-clause-err
returns-in_err-done-clause-err g c =
    at_error c.from_residual.result
    (stopped _ c.args.bytes.now c.loop-done.done c.loop-done-test.true
    (c.in_err-done.ensures.kept ∙ c.loop-done.invariant.written)
    (rw c.loop-done.invariant.calm at c.in_err-done.ensures.failed))
