use Rattle.std.proofs.Common.{sym, subst, take, Option}
use Rattle.fort_turn.specs.Book.{log_of}
use Rattle.fort_port_output.specs.Written.{ComesNext}
use Rattle.fort_hall.proofs.Watching.{copied}
use Rattle.fort_hall.proofs.writer.copy_next.Goals as goal

pub returns-clause-next : goal.returns-clause-next
returns-clause-next g c =
    subst
    (λ (s : Option g.row.M-Book.Denot). ComesNext (log_of g.M.Machine.output s) c.args.from (take c.output_at-count.result c.output_at-count.new.into))
    (sym c.give.ensures.seen)
    (copied (g.M.Machine.output c.take-rooted.result) c.output_at-count.new.into c.args.from c.output_at-count.result c.output_at-count.ensures.bytes)
