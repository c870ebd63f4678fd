use Rattle.std.proofs.Common.{ℕ, ◌+◌, length, arith, refl, sym, ap, ◌∙◌, subst}
use Rattle.fort_pool.specs.Workers.{EachWorker}
use Rattle.fort_hall_work.specs.declared.worker.Worker.{Worker}
use Rattle.fort_hall_work.specs.Seats.{SitsAt}
use Rattle.fort_hall.proofs.Rows.{no_worker, one_longer}
use Rattle.fort_hall.proofs.crew.staff.Goals as goal

pub loop-own-init : goal.loop-own-init
loop-own-init g c =
    let P : ℕ → Worker g.row.M.Denot g.row.M-Book.Denot g.row.M-State.Denot g.row.M-Leg.Denot g.row.M-Waste.Denot → Type 0 = λ n w. SitsAt g.M.Machine.history g.M.Machine.by c.args.turn.now n w.seat.pass w.seat.legs in
    let none = c.new-workers.ensures.items in
    record {
      idle = c.requires.first.0;
      first = c.requires.first.1;
      made = c.requires.first.2 ∙ ap (λ ws. length ws + 1) (sym none);
      numbers = refl;
      seen = refl;
      workers = subst (EachWorker 0 P) (sym none) (no_worker P);
      long = omega (arith, ap length none);
      rights = c.requires.few.1;
    }

pub loop-own-preserved : goal.loop-own-preserved
loop-own-preserved g c =
    let i = c.loop-own.invariant in
    let first = c.add_worker.ensures.first in
    let more = c.in_ok-add_worker.ensures in
    let owns = one_longer c.loop-own.owns.items c.pop.new.self.items c.in-Some.own c.in-Some.ensures.items in
    let rights = one_longer c.loop-own.rights.items c.pop-in-Some.new.self.items c.in-Some-pop.victims c.in-Some-pop.ensures.items in
    record {
      idle = first.0;
      first = first.1;
      made = more.made.0;
      numbers = first.2 ∙ i.numbers;
      seen = first.3 ∙ i.seen;
      workers = more.workers;
      long = omega (arith, more.made.1, owns, i.long);
      rights = omega (arith, owns, rights, i.rights);
    }
