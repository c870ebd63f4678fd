-- The chapter "Typing", runs: a postfix behind a value, told one kind after another, as the code
-- does.
use Rattle.std.specs.Prelude.{[], ◌∷◌}
use Rattle.fort_base.specs.declared.refusal.Place.{Place}
use Rattle.fort_base.specs.declared.ty.Ty.{out-Ty}
use Rattle.fort_ops.specs.declared.op.Op.TheVariants as an_op
use Rattle.fort_form_typed.specs.declared.typed_form.TypedForm.{TypedForm}
use Rattle.fort_typing_known.specs.Known.{Facts}
use Rattle.fort_typing_known.specs.Names.{field_at}
use Rattle.fort_typing_known.specs.Sets.{operator_set, is_method}
use Rattle.fort_typing_rules.specs.declared.part.Meaning.{Meaning}
use Rattle.fort_typing_rules.specs.declared.part.Meaning.TheVariants as a_meaning
use Rattle.fort_typing_rules.specs.Types.{type_of}
use Rattle.fort_typing_rules.specs.Elements.{is_size}
use Rattle.fort_typing_meaning.specs.declared.frame.Made.{Made}
use Rattle.fort_typing_meaning.specs.declared.frame.Made.TheVariants as a_made
use Rattle.fort_typing_meaning.specs.Joining.{operation, read, method_called}

-- a method, and else nothing
abbrev pub by_method : Facts → Place → TypedForm → Meaning → Made
by_method k place u (a_meaning.Method at name ts) =
    method_called k place u at name ts (is_size k u name ts) (is_method k name)
by_method k place u _ = a_made.Stops

-- a field, and else as above
abbrev pub by_name : Facts → Place → TypedForm → Meaning → Made
by_name k place u (a_meaning.Field at name) = read at u name (field_at k (out-Ty (type_of u)) name)
by_name k place u m = by_method k place u m

-- an exponent, and else as above
abbrev pub by_exponent : Facts → Place → TypedForm → Meaning → Made
by_exponent k place u (a_meaning.Exponent e) =
    operation k (operator_set k an_op.Power 2) (u ∷ e ∷ []) place
by_exponent k place u m = by_name k place u m
