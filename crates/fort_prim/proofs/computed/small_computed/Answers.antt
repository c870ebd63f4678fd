use Rattle.std.proofs.Common.{◌≡◌, arith, to_z, of_z}
use Rattle.std.proofs.lemmas.Int.{ints}
use Rattle.std.specs.Int.{w64}
use Rattle.fort_prim.specs.Operations.{figure_of}
use Rattle.fort_prim.proofs.Ranges.{on_both}
use Rattle.fort_prim.proofs.computed.small_computed.Goals as goal

pub returns : goal.returns
returns c =
    let left : to_z w64 (of_z w64 c.from.result) ≡ c.args.a = omega (arith, ints) in
    let right : to_z w64 (of_z w64 c.from-2.result) ≡ c.args.b = omega (arith, ints) in
    on_both (figure_of c.args.operator) _ _ _ _ _ left right c.computed.ensures
