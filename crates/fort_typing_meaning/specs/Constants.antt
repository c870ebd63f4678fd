-- The chapter "Typing", declarations: the constants, as they are computed.
use Rattle.std.specs.Prelude.{ℕ, Bool, false, List, [], ◌∷◌, Option, Some, None}
use Rattle.fort_ops.specs.declared.op.Op.{Op}
use Rattle.fort_ops.specs.declared.op.Op.TheVariants as an_op
use Rattle.fort_form.specs.declared.form.Form.{Form, out-Form}
use Rattle.fort_form.specs.declared.form.Form.TheOpen.{Form-F}
use Rattle.fort_form.specs.declared.form.Item.{Item}
use Rattle.fort_form.specs.declared.form.Branch.{Branch}
use Rattle.fort_form.specs.declared.form.TypeBranch.{TypeBranch}
use Rattle.fort_form.specs.declared.form.Generator.{Generator}
use Rattle.fort_form_typed.specs.declared.typed_form.TypedForm.{TypedForm}
use Rattle.fort_form_typed.specs.declared.typed_form.TypedForm.TheVariants as a_typed
use Rattle.fort_typing_known.specs.Known.{Facts}
use Rattle.fort_typing_known.specs.Sets.{operator_set}
use Rattle.fort_typing_rules.specs.Types.{string, boolean, unit, number_type}
use Rattle.fort_typing_rules.specs.Elements.{chosen}

-- `-` before a number has the number's type
abbrev pub negative_at : Facts → Form-F Form Item Branch Generator TypeBranch → Option TypedForm
negative_at k (Form-F.Number q n) =
    Some (a_typed.Operation (number_type n) (chosen (operator_set k an_op.Minus 1) (false ∷ []))
    (a_typed.Number (number_type n) n ∷ []))
negative_at k _ = None

abbrev pub operand_negative : Facts → List Form → Option TypedForm
operand_negative k (d ∷ []) = negative_at k (out-Form d)
operand_negative k _ = None

abbrev pub prefixed : Facts → Op → List Form → Option TypedForm
prefixed k an_op.Minus es = operand_negative k es
prefixed k _ es = None

-- `()`
abbrev pub no_part : List Form → Option TypedForm
no_part [] = Some (a_typed.Tuple unit [])
no_part (e ∷ es) = None

abbrev pub constant_at : Facts → Form-F Form Item Branch Generator TypeBranch → Option TypedForm
constant_at k (Form-F.Number p n) = Some (a_typed.Number (number_type n) n)
constant_at k (Form-F.Text p n) = Some (a_typed.Text string n)
constant_at k (Form-F.Truth p b) = Some (a_typed.Truth boolean b)
constant_at k (Form-F.Tuple p es) = no_part es
constant_at k (Form-F.Operator p op es) = prefixed k op es
constant_at k _ = None

-- the constant that a form is, if it is one, as a typed form
unfoldable pub constant : Facts → Form → Option TypedForm
constant k e = constant_at k (out-Form e)
