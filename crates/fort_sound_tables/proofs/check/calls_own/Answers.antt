use Rattle.std.proofs.Common.{ap, sym, ◌∙◌}
use Rattle.fort_core.specs.declared.value.Value.{Function}
use Rattle.fort_sound_tables.proofs.check.calls_own.Goals as goal

pub returns-in-Function : goal.returns-in-Function
returns-in-Function c ok = record {
  function = c.get.result.now;
  is_function = c.in-Function.is ∙ ap (λ f. Function f) (sym c.get.ensures);
  no_parameters = c.is_own_call.ensures.takes ok;
  holds_none = c.is_own_call.ensures.held ok;
  calls_own = c.is_own_call.ensures.calls ok;
  gives_unit = c.is_own_call.ensures.gives ok;
}
