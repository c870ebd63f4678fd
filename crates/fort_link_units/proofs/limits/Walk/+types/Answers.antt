use Rattle.std.proofs.Common.{sym}
use Rattle.fort_tree.specs.Measures.{measured_next_type}
use Rattle.fort_tree.proofs.MeasuresTypes.{next_type_measures}
use Rattle.fort_tree_limits.proofs.EarliestLaws.{earliest_none, one_more}
use Rattle.fort_tree_limits.proofs.TypeWalks.{walks-Simple, walks-Arrow, walks-Named, walks-Array, walks-Parts, type_list_walks}
use Rattle.fort_link_units.proofs.limits.Walk.+types.Goals as goal

pub type_tree-returns-in-Simple : goal.type_tree-returns-in-Simple
type_tree-returns-in-Simple t c = rw (c.in-Simple.is, walks-Simple) (cc)

pub type_tree-returns-in-Arrow : goal.type_tree-returns-in-Arrow
type_tree-returns-in-Arrow t c = rw (c.in-Arrow.is, walks-Arrow) (cc)

pub simple_type-returns-in-Named : goal.simple_type-returns-in-Named
simple_type-returns-in-Named t c = rw (c.in-Named.is, walks-Named)

pub simple_type-returns-in-Array : goal.simple_type-returns-in-Array
simple_type-returns-in-Array t c = rw (c.in-Array.is, walks-Array) (cc)

pub simple_type-returns-in-Parts : goal.simple_type-returns-in-Parts
simple_type-returns-in-Parts t c = rw (c.in-Parts.is, walks-Parts) (cc)

pub type_parts-returns-in-Some : goal.type_parts-returns-in-Some
type_parts-returns-in-Some t c = rw (c.in-Some.is, type_list_walks) (cc)

pub type_parts-returns-in-None : goal.type_parts-returns-in-None
type_parts-returns-in-None t c = rw (c.in-None.is, earliest_none)

pub next_types-loop-next-init : goal.next_types-loop-next-init
next_types-loop-next-init t c = sym (earliest_none _)

pub next_types-loop-next-preserved : goal.next_types-loop-next-preserved
next_types-loop-next-preserved t c =
    one_more measured_next_type c.as_slice-next-items.result.now c.loop-next.next-index
    c.next-item.result c.args.self.now.earliest c.loop-next.self.earliest
    c.type_tree.new.self.earliest c.loop-next-test.true c.next-item.is c.loop-next.invariant
    (rw next_type_measures (cc))
