use Rattle.fort_run.proofs.Fronts.{bank_stops}
use Rattle.fort_run.proofs.reply.read_text.Goals as goal

pub returns-in-Bench-clause-stops : goal.returns-in-Bench-clause-stops
returns-in-Bench-clause-stops g c =
    rw c.in-Bench.is
    (bank_stops (g.F.Shelf.holding c.args.shelf.now) c.in-Bench.accounts
    (g.F.Shelf.faults c.args.shelf.now) c.bank_within.result c.bank_within.ensures.stops)
