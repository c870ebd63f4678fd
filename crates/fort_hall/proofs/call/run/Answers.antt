use Rattle.std.proofs.Common.{rules, ◌≡◌, length, arith, ap, sym, ◌∙◌, subst}
use Rattle.fort_turn.specs.Book.{entries_by}
use Rattle.fort_port_output.specs.declared.progress.Progress.{Progress}
use Rattle.fort_port_output.specs.Written.{Writes}
use Rattle.fort_hall.proofs.call.run.Goals as goal

pub work_and_write-requires-clause-count : goal.work_and_write-requires-clause-count
work_and_write-requires-clause-count g c κs within =
    let many : length c.in_ok-workers.workers.items ≡ c.args.count =
    c.in_ok-workers.ensures.count ∙ (c.rights.ensures.same ∙ c.in_ok-owns.ensures) in
    let fits = c.ranges.count.fits in
    (omega (arith, many, c.requires.count), omega (arith, many, fits))

pub work_and_write-requires-clause-first : goal.work_and_write-requires-clause-first
work_and_write-requires-clause-first g c κs within =
    let root = c.in_ok-root.ensures in
    let first = c.in_ok-workers.ensures.first in
    let same = c.new-rooted.ensures in
    record {
      idle = first.0;
      first = first.1;
      numbers = first.3 ∙ c.in-Ok.ensures.number.1;
      book = c.new-rooted.result;
      seen = first.4 ∙ c.in-Ok.ensures.seen;
      kept = subst g.M.Machine.keeps (sym same) root.0;
      origin_is = ap g.M.Machine.origin same ∙ root.1;
      none =
          ap (λ b. entries_by g.M.Machine.by 0 (g.M.Machine.history b)) same
          ∙ ap (entries_by g.M.Machine.by 0) root.2;
    }

pub settle-settled-requires-clause-legs : goal.settle-settled-requires-clause-legs
settle-settled-requires-clause-legs g c =
    let counted : c.len.result ≡ length c.in_ok-workers.workers.items =
    first_of (search (rules, c.len.ensures, c.in_ok-workers.workers.ok), omega (arith, c.len.ensures, c.in_ok-workers.workers.ok), grind (arith, c.len.ensures, c.in_ok-workers.workers.ok)) in
    c.in_ok-legs.ensures ∙ (counted ∙ sym c.in_ok-workers-2.ensures.long)

pub returns-then-ended-clause-workers : goal.returns-then-ended-clause-workers
returns-then-ended-clause-workers g c =
    c.settle-settled.ensures.long ∙ (c.in_ok-workers-2.ensures.long ∙ (c.in_ok-workers.ensures.count
    ∙ (c.rights.ensures.same ∙ c.in_ok-owns.ensures)))

pub returns-then-ended-clause-writes : goal.returns-then-ended-clause-writes
returns-then-ended-clause-writes g c =
    subst (λ (p : Progress). Writes c.args.failed (g.K.Sink.can_write c.work_and_write.new.out) (record {
      was = g.K.Sink.written c.args.out.now;
      is = g.K.Sink.written c.work_and_write.new.out;
      faults_were = g.K.Sink.faults c.args.out.now;
      faults_are = g.K.Sink.faults c.work_and_write.new.out;
    }) (g.M.Machine.output c.settle-settled.result.book) p) (sym c.settle-settled.ensures.progress)
    (c.in_ok-workers-2.ensures.writes (g.M.Machine.output c.settle-settled.result.book) c.settle-settled.ensures.output)
