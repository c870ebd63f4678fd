use Rattle.std.proofs.Common.{◌+◌, slice_get, sym}
use Rattle.fort_store_effects.specs.Levels.{cells_of}
use Rattle.fort_store_effects.proofs.Made.{make_something}
use Rattle.fort_store_effects.proofs.make.make_value.Goals as goal

pub returns-in_ok-join-in-Some-clause-cells : goal.returns-in_ok-join-in-Some-clause-cells
returns-in_ok-join-in-Some-clause-cells c =
    make_something (c.args.«at» + c.args.i) (slice_get c.args.values.now c.args.i)
    c.in-Some.value.now c.in_ok-value-in-Some.value (cells_of c.args.layer.now)
    (cells_of c.join.new.self) (sym c.in-Some.ensures.value) c.in_ok-value-in-Some.ensures
    c.in_ok-join-in-Some.ensures.ok
