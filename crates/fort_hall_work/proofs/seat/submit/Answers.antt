use Rattle.std.proofs.Common.{arith}
use Rattle.fort_hall_work.proofs.Counting.{room, seated_with_one, seated_with_none}
use Rattle.fort_hall_work.proofs.seat.submit.Goals as goal
use Rattle.fort_hall_work.proofs.seat.submit.Goals.{then-outcome, else-outcome}

pub overflow_add-seat : goal.overflow_add-seat
overflow_add-seat g c =
    let few = room g.M.Machine.history g.M.Machine.origin g.M.Machine.by c.args.turn.now c.args.seat.now.pass c.args.seat.now.legs c.number-number.result c.take-rooted.result c.submit-answer.new.self c.in_ok-outcome.outcome.done
    c.requires.seated c.take-rooted.ensures.book c.in_ok-outcome.ensures.history c.if-outcome.true c.counted.ensures in
    omega (arith, few)

pub returns-clause-seated : goal.returns-clause-seated
returns-clause-seated g c = elim c.if-outcome.branch [
  | then-outcome w ↦ rw w.seat-is (seated_with_one g.M.Machine.history g.M.Machine.origin g.M.Machine.by c.args.turn.now c.args.seat.now.pass c.take-rooted.new.pass c.give.new.pass c.args.seat.now.legs c.number-number.result c.take-rooted.result c.submit-answer.new.self c.in_ok-outcome.outcome.done
      c.requires.seated c.take-rooted.ensures.book c.take-rooted.ensures.same c.number-number.ensures c.in_ok-outcome.ensures.history c.give.ensures.same c.give.ensures.idle c.give.ensures.seen w.if-outcome.true)
  | else-outcome w ↦ rw w.seat-is (seated_with_none g.M.Machine.history g.M.Machine.origin g.M.Machine.by c.args.turn.now c.args.seat.now.pass c.take-rooted.new.pass c.give.new.pass c.args.seat.now.legs c.number-number.result c.take-rooted.result c.submit-answer.new.self c.in_ok-outcome.outcome.done
      c.requires.seated c.take-rooted.ensures.book c.take-rooted.ensures.same c.in_ok-outcome.ensures.history c.give.ensures.same c.give.ensures.idle c.give.ensures.seen w.if-outcome.false)
]
