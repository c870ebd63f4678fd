use Rattle.std.proofs.Common.{◌≡◌, ◌<◌, slice_index, length, ap, ◌∙◌, arith}
use Rattle.std.proofs.lemmas.Grind.{get_or_default_zero}
use Rattle.fort_hall_test_machine.proofs.Raising.{runs_long, runs_rise}
use Rattle.fort_hall_test_machine.proofs.counters.CountersMachine.finish.Goals as goal

pub returns : goal.returns
returns g c =
    let i = c.args.at.task.at in
    let began = c.args.book.begun.value.items in
    let was = c.args.at.cells.items in
    let is = c.args.book.cells.items in
    let rise = runs_rise began c.args.book.legs.items is c.requires.1 i in
    let here : slice_index began i ≡ slice_index was i = ap (λ xs. slice_index xs i) c.requires.2 in
    let inside : i < length was = c.requires.0 in
    let long : length is ≡ length was = runs_long began c.args.book.legs.items is c.requires.1
    ∙ ap length c.requires.2 in
    let from : c.index.result.now ≡ slice_index was i = c.index.ensures
    ∙ get_or_default_zero was i c.index.result.now inside in
    let to : c.index-2.result.now ≡ slice_index is i = c.index-2.ensures
    ∙ get_or_default_zero is i c.index-2.result.now (omega (arith, long, inside)) in
    omega (arith, rise, here, from, to)
