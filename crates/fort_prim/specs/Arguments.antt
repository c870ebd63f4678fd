-- Chapter "Built-in declarations": what the code finds arguments to be, before it answers. The
-- answers are the machine's.
use Rattle.std.specs.Prelude.{◌≡◌}
use Rattle.fort_machine.specs.Primitives.{Answer, nothing}

-- An operator that asks for values of certain kinds answers nothing to these, whatever it does with
-- such values.
abbrev pub Refuses : {F L : Type 0} → (F → L → Answer) → L → Type 0
Refuses {F} ask values = (f : F) → ask f values ≡ nothing
