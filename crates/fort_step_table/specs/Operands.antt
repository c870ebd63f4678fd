-- Chapter "Steps and costs": how operands stand, which go from left to right, as the code finds it.
-- These are means to meet the chapter's words.
use Rattle.std.specs.Prelude.{List, [], ◌∷◌, ◌++◌}
use Rattle.fort_core.specs.declared.term.Term.{Term}
use Rattle.fort_core.specs.declared.value.Value.{Value}
use Rattle.fort_machine.specs.Ends.{Standing, at_value, at_throw, open_yet, standing, throw_of}
use Rattle.fort_machine.specs.Acts.{Act, stuck, becomes}
use Rattle.fort_step_table.specs.declared.operands.Operands.{Operands}
use Rattle.fort_step_table.specs.declared.operands.Operands.TheVariants as operands

-- Values go before how other operands stand.
abbrev pub after_values : List Value → Operands → Operands
after_values vs (operands.Values ws) = operands.Values (vs ++ ws)
after_values vs (operands.Throw v) = operands.Throw v
after_values vs operands.Open = operands.Open

-- An operand goes before how other ones stand: behind one that is no value they don't count.
abbrev pub with_operand : Standing → Operands → Operands
with_operand (at_value v) g = after_values (v ∷ []) g
with_operand (at_throw v) g = operands.Throw v
with_operand open_yet g = operands.Open

-- How operands stand.
abbrev pub standing_in_order : List Term → Operands
standing_in_order [] = operands.Values []
standing_in_order (t ∷ ts) = with_operand (standing t) (standing_in_order ts)

-- A form goes on by its operands: by their values, or as the first throw.
abbrev pub by_operands : Operands → (List Value → Act) → Act
by_operands (operands.Values vs) f = f vs
by_operands (operands.Throw v) f = becomes (throw_of v)
by_operands operands.Open f = stuck
