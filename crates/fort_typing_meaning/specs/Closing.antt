-- The chapter "Typing": what a form is, once its parts have been asked.
use Rattle.std.specs.Prelude.{◌≡◌, ℕ, suc, Bool, true, false, cond, not, ◌&&◌, ◌||◌, List, [], ◌∷◌, ◌++◌, length, map, Option, Some, None}
use Rattle.fort_base.specs.declared.ids.NameId.{NameId}
use Rattle.fort_base.specs.declared.ids.TypeId.{TypeId}
use Rattle.fort_base.specs.declared.refusal.Place.{Place}
use Rattle.fort_base.specs.declared.rules.TheConstants.{UNKNOWN_NAME, MISMATCH}
use Rattle.fort_base.specs.declared.ty.Ty.{Ty}
use Rattle.fort_base.specs.declared.ty.Ty.TheVariants as a_type
use Rattle.fort_ops.specs.declared.op.Op.{Op}
use Rattle.fort_ops.specs.declared.op.Op.TheVariants as an_op
use Rattle.fort_scope.specs.declared.binding.Binding.{Binding}
use Rattle.fort_form.specs.declared.form.Form.TheOpen.{Form-F}
use Rattle.fort_form.specs.declared.form.Parameter.{Parameter}
use Rattle.fort_form.specs.declared.form.Reduction.{Reduction}
use Rattle.fort_form.specs.declared.form.Update.{Update}
use Rattle.fort_form_typed.specs.declared.typed_form.TypedForm.{TypedForm}
use Rattle.fort_form_typed.specs.declared.typed_form.TypedForm.TheVariants as a_typed
use Rattle.fort_typing_known.specs.declared.fault.Fault.{Fault}
use Rattle.fort_typing_known.specs.Known.{Facts}
use Rattle.fort_typing_known.specs.Below.{is_below}
use Rattle.fort_typing_known.specs.Names.{Standing, a_binding, a_field, a_variable, a_single, functions, nothing, standing}
use Rattle.fort_typing_known.specs.Sets.{operator_set}
use Rattle.fort_typing_call.specs.Called.{called}
use Rattle.fort_typing_call.specs.declared.called.Called.{Called}
use Rattle.fort_typing_call.specs.declared.called.Called.TheVariants as a_call
use Rattle.fort_typing_rules.specs.declared.part.Meaning.{Meaning}
use Rattle.fort_typing_rules.specs.declared.part.Meaning.TheVariants as a_meaning
use Rattle.fort_typing_rules.specs.Types.{string, boolean, unit, number_type, tuple_of, parameter_type, type_of, types_of}
use Rattle.fort_typing_rules.specs.Elements.{chosen}
use Rattle.fort_typing_rules.specs.Typing.{else_types, bound_name, reduction_operator, update_operator}
use Rattle.fort_typing_meaning.specs.declared.frame.Frame.{Frame}
use Rattle.fort_typing_meaning.specs.declared.frame.Made.{Made}
use Rattle.fort_typing_meaning.specs.declared.frame.Made.TheVariants as a_made
use Rattle.fort_typing_meaning.specs.declared.frame.Outcome.{Outcome}
use Rattle.fort_typing_meaning.specs.Faults.{breaks}
use Rattle.fort_typing_meaning.specs.Tests.{untyped, value, refused, widest}
use Rattle.fort_typing_meaning.specs.Joining.{operation, beside, run}
use Rattle.fort_typing_meaning.specs.Parts.{Judge, Piece, Arm, Clause, Giving}

-- ---- outcomes

-- an outcome of this meaning
abbrev pub means : Meaning → Option Fault → Outcome
means m found = record { seen = m; found = found }

-- a form one of whose parts has no type has none
abbrev pub unbroken : Frame → Option Fault → Outcome → Outcome
unbroken w found o = cond w.broken (untyped found) o

-- by one part, or by two
abbrev pub by_one : Option TypedForm → Option Fault → (TypedForm → Outcome) → Outcome
by_one (Some t) found f = f t
by_one None found f = untyped found

abbrev pub by_two : Option TypedForm → Option TypedForm → Option Fault
    → (TypedForm → TypedForm → Outcome) → Outcome
by_two (Some t) (Some u) found f = f t u
by_two _ _ found f = untyped found

abbrev pub made_outcome : Made → Option Fault → Outcome
made_outcome (a_made.Gives t) found = value t found
made_outcome (a_made.Breaks x) found = refused x.rule x.place found
made_outcome a_made.Stops found = untyped found

-- by the widest type, or 603 at the form
abbrev pub by_widest : Place → Option Ty → Option Fault → (Ty → TypedForm) → Outcome
by_widest place (Some ty) found f = value (f ty) found
by_widest place None found f = refused MISMATCH place found

-- ---- forms

abbrev pub receiver : Place → Option TypeId → Option Fault → Outcome
receiver place (Some o) found = value (a_typed.Receiver (a_type.Named o)) found
receiver place None found = refused UNKNOWN_NAME place found

abbrev pub name_by : Place → NameId → Standing → Option Fault → Outcome
name_by place name (a_binding b) found = value (a_typed.Local b.ty name b.mutable) found
name_by place name (a_field o f) found =
    value (a_typed.ReadField f.ty (a_typed.Receiver (a_type.Named o)) name) found
name_by place name (a_variable n v) found = value (a_typed.Top v.ty n) found
name_by place name (a_single o) found = value (a_typed.Single (a_type.Named o) o) found
name_by place name functions found = means (a_meaning.Functions name) found
name_by place name nothing found = refused UNKNOWN_NAME place found

-- what a name is
unfoldable pub name_answer : Facts → Place → NameId → List Binding → Option Fault → Outcome
name_answer k place name bs found = name_by place name (standing k bs name) found

-- the type of a block: that of its last item
abbrev pub last_type : List TypedForm → Ty
last_type [] = unit
last_type (t ∷ []) = type_of t
last_type (t ∷ u ∷ ts) = last_type (u ∷ ts)

abbrev pub done : List Judge → Frame → Option Fault → Outcome
done [] w found = untyped found
done (j ∷ []) w found = by_one w.head found (λ t. value t found)
done (j ∷ i ∷ js) w found = value (a_typed.Also unit w.first) found

unfoldable pub if_answer : Facts → Place → Option Judge → Frame → Option Fault → Outcome
if_answer k place None w found = value (a_typed.If unit w.first w.second None) found
if_answer k place (Some j) w found =
    by_one w.last found
    (λ u. by_widest place (widest k (types_of w.second ++ type_of u ∷ [])) found
    (λ ty. a_typed.If ty w.first w.second (Some u)))

abbrev pub giving_name : Giving → NameId × Bool
giving_name g = (g.name, g.sequential)

abbrev pub clause_type : Clause → Ty
clause_type c = c.ty

unfoldable pub case_answer : Facts → Place → Frame → Option Fault → Outcome
case_answer k place w found =
    by_one w.head found
    (λ u. by_widest place (widest k (types_of w.second ++ else_types w.last)) found
    (λ ty. a_typed.Case ty u w.calls w.first w.second w.last))

unfoldable pub typecase_answer : Facts → Place → NameId → List Ty → Frame → Option Fault → Outcome
typecase_answer k place name types w found =
    by_one w.head found
    (λ u. by_widest place (widest k (types_of w.second ++ else_types w.last)) found
    (λ ty. a_typed.Typecase ty name u types w.second w.last))

unfoldable pub try_answer : Facts → Place → Option (Place × NameId) → List Ty → Frame → Option Fault
    → Outcome
try_answer k place name types w found =
    by_one w.head found (λ u. by_widest place (widest k (type_of u ∷ types_of w.second)) found
    (λ ty. a_typed.Try ty u (bound_name name) types w.second w.last))

abbrev pub reduced : Facts → Reduction → Giving → List TypedForm → TypedForm → Option Fault
    → Outcome
reduced k r g (s ∷ []) u found =
    value (a_typed.Reduce (type_of u) r (operator_set k (reduction_operator r) 2) g.name
    g.sequential s u) found
reduced k r g _ u found = untyped found

abbrev pub sum_by : Facts → Op → Place → TypedForm → TypedForm → Called → Option Fault → Outcome
sum_by k op place u w (a_call.Result result widened) found =
    cond (is_below k result (type_of u))
    (value (a_typed.Update unit u (chosen (operator_set k op 2) widened) w) found)
    (refused MISMATCH place found)
sum_by k op place u w (a_call.Refused rule) found = refused rule place found

abbrev pub assigned_by : Facts → Place → Option Op → TypedForm → TypedForm → Option Fault → Outcome
assigned_by k place None u w found = value (a_typed.Assign unit u w) found
assigned_by k place (Some op) u w found =
    sum_by k op place u w (called k (operator_set k op 2) (type_of u ∷ type_of w ∷ [])) found

-- an assignment, at whose target this place is
unfoldable pub assign_answer : Facts → Place → Update → Frame → Option Fault → Outcome
assign_answer k place sign w found =
    by_two w.head w.last found (λ u v. assigned_by k place (update_operator sign) u v found)

-- what a form is, once its parts are there
abbrev pub close_at : Facts → Form-F Judge Piece Arm Giving Clause → Frame → List Binding
    → Option Fault → Outcome
close_at k (Form-F.Number p n) w bs found = value (a_typed.Number (number_type n) n) found
close_at k (Form-F.Text p n) w bs found = value (a_typed.Text string n) found
close_at k (Form-F.Truth p b) w bs found = value (a_typed.Truth boolean b) found
close_at k (Form-F.Receiver p) w bs found = receiver p k.owner found
close_at k (Form-F.Name p name) w bs found = name_answer k p name bs found
close_at k (Form-F.Parens p e) w bs found = by_one w.head found (λ t. value t found)
close_at k (Form-F.Tuple p es) w bs found =
    unbroken w found (value (a_typed.Tuple (a_type.Tuple (types_of w.first)) w.first) found)
close_at k (Form-F.Operator p op es) w bs found =
    unbroken w found
    (made_outcome (operation k (operator_set k op (length w.first)) w.first p) found)
close_at k (Form-F.Chain p ops es) w bs found =
    unbroken w found
    (value (a_typed.Chain boolean (operator_set k an_op.And 2) w.calls w.first) found)
close_at k (Form-F.Beside p es) w bs found = beside k w.parts found
close_at k (Form-F.Run p es) w bs found = run k w.parts found
close_at k (Form-F.Subscript p e) w bs found =
    by_one w.head found (λ t. means (a_meaning.Index t) found)
close_at k (Form-F.Power p e) w bs found =
    by_one w.head found (λ t. means (a_meaning.Exponent t) found)
close_at k (Form-F.Field p at name) w bs found = means (a_meaning.Field at name) found
close_at k (Form-F.Method p at name es) w bs found =
    unbroken w found (means (a_meaning.Method at name w.first) found)
close_at k (Form-F.Fill p ty n v) w bs found =
    by_two w.head w.last found (λ t u. value (a_typed.Fill (a_type.Array ty) ty t u) found)
close_at k (Form-F.Block p is) w bs found =
    unbroken w found (value (a_typed.Block (last_type w.first) w.first) found)
close_at k (Form-F.Do p blocks) w bs found = unbroken w found (done blocks w found)
close_at k (Form-F.If p arms other) w bs found = unbroken w found (if_answer k p other w found)
close_at k (Form-F.While p c b) w bs found =
    by_two w.head w.last found (λ t u. value (a_typed.While unit t u) found)
close_at k (Form-F.For p gs b) w bs found =
    unbroken w found
    (by_one w.last found (λ u. value (a_typed.For unit (map giving_name gs) w.first u) found))
close_at k (Form-F.Case p s arms other) w bs found = unbroken w found (case_answer k p w found)
close_at k (Form-F.Typecase p at name s clauses other) w bs found =
    unbroken w found (typecase_answer k p name (map clause_type clauses) w found)
close_at k (Form-F.Try p b name clauses last) w bs found =
    unbroken w found (try_answer k p name (map clause_type clauses) w found)
close_at k (Form-F.Atomic p e) w bs found =
    by_one w.head found (λ t. value (a_typed.Atomic (type_of t) t) found)
close_at k (Form-F.Tryatomic p e) w bs found =
    by_one w.head found (λ t. value (a_typed.Tryatomic (type_of t) t) found)
close_at k (Form-F.Throw p e) w bs found =
    by_one w.head found (λ t. value (a_typed.Throw a_type.Nothing t) found)
close_at k (Form-F.Fn p ps e) w bs found =
    unbroken w found
    (by_one w.head found
    (λ t. value (a_typed.Fn (a_type.Arrow (tuple_of (map parameter_type ps)) (type_of t)) ps t)
    found))
close_at k (Form-F.Reduce p r g e) w bs found =
    unbroken w found (by_one w.last found (λ u. reduced k r g w.first u found))
close_at k (Form-F.Assign p t sign e) w bs found =
    unbroken w found (assign_answer k t.place sign w found)
