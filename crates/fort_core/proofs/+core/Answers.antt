use Rattle.std.proofs.Common.{ℕ, ap, sym, ◌∙◌}
use Rattle.fort_core.specs.declared.value.Value.{Value}
use Rattle.fort_core.specs.declared.value.Value as value
use Rattle.fort_core.specs.Weights.{value_weight}
use Rattle.fort_core.proofs.Weighing.{item_falls, left_lighter, held_falls, tuple_falls}
use Rattle.fort_core.proofs.+core.Goals as goal

pub release::drop_held-drop-value-requires : goal.release::drop_held-drop-value-requires
release::drop_held-drop-value-requires t c = (
  item_falls (λ
      (h : ℕ × Value). value_weight h.1) c.loop-variable.held c.pop.new.self c.args.held
      (c.in-Some._variable, c.in-Some._value) t c.in-Some.ensures c.loop-variable.invariant
      c.decreases,
  tt,
)

pub release::drop_held-loop-variable-preserved : goal.release::drop_held-loop-variable-preserved
release::drop_held-loop-variable-preserved t c =
    left_lighter (λ
    (h : ℕ × Value). value_weight h.1) c.loop-variable.held c.pop.new.self c.args.held
    (c.in-Some._variable, c.in-Some._value) c.in-Some.ensures c.loop-variable.invariant

pub release::drop_values-drop-value-requires : goal.release::drop_values-drop-value-requires
release::drop_values-drop-value-requires t c = (
  item_falls value_weight c.loop-value.values c.pop.new.self c.args.values c.in-Some._value t
      c.in-Some.ensures c.loop-value.invariant c.decreases,
  tt,
)

pub release::drop_values-loop-value-preserved : goal.release::drop_values-loop-value-preserved
release::drop_values-loop-value-preserved t c =
    left_lighter value_weight c.loop-value.values c.pop.new.self c.args.values c.in-Some._value
    c.in-Some.ensures c.loop-value.invariant

pub value::Closure::drop-drop_held-requires : goal.value::Closure::drop-drop_held-requires
value::Closure::drop-drop_held-requires t c = (held_falls c.args.self t c.decreases, tt)

pub value::Value::drop-drop_values-requires : goal.value::Value::drop-drop_values-requires
value::Value::drop-drop_values-requires t c = (
  tuple_falls c.args.self c.in-Some.parts t (c.in-Tuple.is
      ∙ ap value.Tuple (sym c.in-Some.ensures)) c.decreases,
  tt,
)
