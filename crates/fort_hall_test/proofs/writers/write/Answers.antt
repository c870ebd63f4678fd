use Rattle.std.proofs.Common.{if◌then◌else◌, [], ◌∷◌}
use Rattle.fort_hall_test.specs.Lines.{line}
use Rattle.fort_hall_test.proofs.Chain.{of_pass}
use Rattle.fort_hall_test.proofs.writers.write.Goals as goal

pub give-requires : goal.give-requires
give-requires g c = (
  c.take-book.result,
  c.take-book.ensures.holds,
  record {
    origin_is = c.add-done.ensures.year;
    more = if c.add-done.result then line c.number.result c.args.value ∷ [] else [];
    history_is = c.add-done.ensures.lines;
    own = of_pass c.add-done.result c.take-book.new.pass.number c.number.result c.args.value
        c.number.ensures;
  },
)
