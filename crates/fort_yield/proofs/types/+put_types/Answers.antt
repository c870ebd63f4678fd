use Rattle.std.proofs.Common.{arith, rules, append_assoc}
use Rattle.std.proofs.lemmas.Grind.{common_steps}
use Rattle.fort_tree.proofs.SaysTypes.{says-Simple, says-Arrow, says-Named, says-Array, says-Parts, type_list_says, next_type_says}
use Rattle.fort_tree.specs.Types.{said_next_type}
use Rattle.fort_yield.proofs.More.{one_more}
use Rattle.fort_yield.proofs.types.+put_types.Goals as goal

pub put_type-returns-in_ok-put_simple_type-in-Simple : goal.put_type-returns-in_ok-put_simple_type-in-Simple
put_type-returns-in_ok-put_simple_type-in-Simple t c =
    let is = c.in-Simple.is in grind (arith, common_steps, says-Simple)

pub put_type-returns-in_ok-put_simple_type-in-Arrow-2 : goal.put_type-returns-in_ok-put_simple_type-in-Arrow-2
put_type-returns-in_ok-put_simple_type-in-Arrow-2 t c =
    let is = c.in-Arrow.is in grind (arith, common_steps, says-Arrow)

pub put_simple_type-returns-in_ok-put_name-in-Named : goal.put_simple_type-returns-in_ok-put_name-in-Named
put_simple_type-returns-in_ok-put_name-in-Named t c =
    let is = c.in-Named.is in grind (arith, common_steps, says-Named)

pub put_simple_type-returns-in_ok-put_mark-in-Array-3 : goal.put_simple_type-returns-in_ok-put_mark-in-Array-3
put_simple_type-returns-in_ok-put_mark-in-Array-3 t c =
    let is = c.in-Array.is in grind (arith, common_steps, says-Array)

pub put_simple_type-returns-in_ok-put_mark-in-Parts-2 : goal.put_simple_type-returns-in_ok-put_mark-in-Parts-2
put_simple_type-returns-in_ok-put_mark-in-Parts-2 t c =
    let is = c.in-Parts.is in grind (arith, common_steps, says-Parts)

pub put_type_list-returns : goal.put_type_list-returns
put_type_list-returns t c = let e = type_list_says c.args.list.now in grind (arith, common_steps, e)

pub put_next_type-returns : goal.put_next_type-returns
put_next_type-returns t c = let e = next_type_says c.args.next.now in grind (arith, common_steps, e)

pub put_next_types-loop-next-preserved : goal.put_next_types-loop-next-preserved
put_next_types-loop-next-preserved t c =
    one_more said_next_type c.args.others.now c.loop-next.next-index c.next-item.result
    c.args.out.now c.loop-next.out c.put_next_type.new.out c.loop-next-test.true c.next-item.is
    c.loop-next.invariant c.in_ok-put_next_type.ensures
