-- The chapter "Typing": how the parts of a form are asked, one after another. What is found in one
-- part is handed on to the next.
use Rattle.std.specs.Prelude.{◌≡◌, ℕ, Bool, true, false, cond, not, ◌&&◌, ◌||◌, List, [], ◌∷◌, ◌++◌, length, map, take, Option, Some, None}
use Rattle.fort_base.specs.declared.ids.NameId.{NameId}
use Rattle.fort_base.specs.declared.refusal.Place.{Place}
use Rattle.fort_base.specs.declared.rules.TheConstants.{MISMATCH, NOT_ASSIGNABLE, NOT_A_GENERATOR, NOT_AN_EXCEPTION, SHADOWS}
use Rattle.fort_base.specs.declared.ty.Ty.{Ty, out-Ty}
use Rattle.fort_ops.specs.declared.op.Op.{Op}
use Rattle.fort_ops.specs.declared.op.Op.TheVariants as an_op
use Rattle.fort_scope.specs.declared.binding.Binding.{Binding}
use Rattle.fort_form.specs.declared.form.Parameter.{Parameter}
use Rattle.fort_form.specs.declared.form.Reduction.{Reduction}
use Rattle.fort_form.specs.declared.form.Reduction.TheVariants as a_reduction
use Rattle.fort_form_typed.specs.declared.typed_form.Chosen.{Chosen}
use Rattle.fort_form_typed.specs.declared.typed_form.TypedForm.{TypedForm, out-TypedForm}
use Rattle.fort_form_typed.specs.declared.typed_form.TypedForm.TheVariants as a_typed
use Rattle.fort_typing_known.specs.declared.fault.Fault.{Fault}
use Rattle.fort_typing_known.specs.Known.{Facts}
use Rattle.fort_typing_known.specs.Below.{is_below}
use Rattle.fort_typing_known.specs.Names.{is_visible}
use Rattle.fort_typing_known.specs.Sets.{operator_set}
use Rattle.fort_typing_call.specs.Called.{called}
use Rattle.fort_typing_call.specs.declared.called.Called.{Called}
use Rattle.fort_typing_call.specs.declared.called.Called.TheVariants as a_call
use Rattle.fort_typing_rules.specs.declared.part.Part.{Part}
use Rattle.fort_typing_rules.specs.declared.part.Meaning.{Meaning}
use Rattle.fort_typing_rules.specs.declared.part.Meaning.TheVariants as a_meaning
use Rattle.fort_typing_rules.specs.Types.{boolean, exception, unit, is_nothing, given, type_of}
use Rattle.fort_typing_rules.specs.Elements.{chosen}
use Rattle.fort_typing_rules.specs.Typing.{binding, parameter_binding, named_parts, name_and_type, with_clause, is_fresh}
use Rattle.fort_typing_meaning.specs.declared.frame.Want.{Want}
use Rattle.fort_typing_meaning.specs.declared.frame.Want.TheVariants as a_want
use Rattle.fort_typing_meaning.specs.declared.frame.Slot.{Slot}
use Rattle.fort_typing_meaning.specs.declared.frame.Slot.TheVariants as a_slot
use Rattle.fort_typing_meaning.specs.declared.frame.Side.{Side}
use Rattle.fort_typing_meaning.specs.declared.frame.Frame.{Frame}
use Rattle.fort_typing_meaning.specs.declared.frame.Outcome.{Outcome}
use Rattle.fort_typing_meaning.specs.declared.frame.Valued.{Valued}
use Rattle.fort_typing_meaning.specs.Faults.{breaks}
use Rattle.fort_typing_meaning.specs.Tests.{suits, valued, taken, as_wanted}

-- ---- what is known of a form before it is asked

-- What a form is to the form around it: its place, what kind of element it is, whether it may be a
-- target, and what it answers in some bindings, with the first broken rule so far.
pub record Judge : Type 0 where
  pub place : Place
  pub parens : Bool
  pub listed : Bool
  pub postfix : Bool
  pub target : Bool
  pub answer : List Binding → Option Fault → Outcome

-- an item of a block
pub data Piece : Type 0 where
  local : Place → NameId → Bool → Ty → Judge → Piece
  locals : Place → List (Place × NameId) → Ty → Judge → Piece
  expression : Judge → Piece

-- a clause of an `if` or of a `case`
pub record Arm : Type 0 where
  pub test : Judge
  pub value : Judge

-- a clause of a `typecase` or of a `catch`
pub record Clause : Type 0 where
  pub place : Place
  pub ty : Ty
  pub value : Judge

-- a generator
pub record Giving : Type 0 where
  pub place : Place
  pub name : NameId
  pub sequential : Bool
  pub source : Judge

-- ---- states

-- Where a walk stands: the form that was asked last, how far the form around it has come, the
-- bindings in scope, and the first broken rule so far.
pub record State : Type 0 where
  pub seen : Meaning
  pub frame : Frame
  pub bindings : List Binding
  pub found : Option Fault

-- a form without parts so far
abbrev pub opened : Frame
opened = record {
  broken = false;
  lost = false;
  head = None;
  first = [];
  second = [];
  last = None;
  calls = [];
  side = None;
  parts = [];
}

abbrev pub begin : List Binding → Option Fault → State
begin bs found = record { seen = a_meaning.Unknown; frame = opened; bindings = bs; found = found }

-- a form is asked
unfoldable pub said : Judge → State → State
said j s =
    let o = j.answer s.bindings s.found
    in record { seen = o.seen; frame = s.frame; bindings = s.bindings; found = o.found }

abbrev pub with_frame : Frame → Option Fault → State → State
with_frame w found s =
    record { seen = a_meaning.Unknown; frame = w; bindings = s.bindings; found = found }

-- a part has no type
abbrev pub is_broken : Frame → Frame
is_broken w = record w { broken = true }

-- a part is kept
abbrev pub kept : Slot → TypedForm → Frame → Frame
kept a_slot.Head t w = record w { head = Some t }
kept a_slot.First t w = record w { first = w.first ++ t ∷ [] }
kept a_slot.Second t w = record w { second = w.second ++ t ∷ [] }
kept a_slot.Last t w = record w { last = Some t }

abbrev pub kept_if : Slot → Option TypedForm → Frame → Frame
kept_if slot (Some t) w = kept slot t w
kept_if slot None w = is_broken w

-- the form that was asked is taken as a part
unfoldable pub take_part : Facts → Slot → Want → Place → State → State
take_part k slot want place s =
    let v = taken k want place s.seen s.found in with_frame (kept_if slot v.node s.frame) v.found s

abbrev pub below_by : Facts → Ty → Place → Option TypedForm → Option Fault → Valued
below_by k ty place None found = record { node = None; found = found }
below_by k ty place (Some t) found =
    cond (is_below k (type_of t) ty) (record { node = Some t; found = found })
    (record { node = None; found = breaks MISMATCH place found })

-- the form that was asked, below a type
unfoldable pub as_wanted_below : Facts → Ty → Place → State → Valued
as_wanted_below k ty place s =
    let v = valued place s.seen s.found in below_by k ty place v.node v.found

-- the form that was asked is taken as the last part, below a type
unfoldable pub take_below : Facts → Ty → Place → State → State
take_below k ty place s =
    let v = as_wanted_below k ty place s
    in with_frame (kept_if a_slot.Last v.node s.frame) v.found s

-- a part is asked
unfoldable pub ask : Facts → Slot → Want → Judge → State → State
ask k slot want j s = take_part k slot want j.place (said j s)

-- parts are asked in their order
unfoldable pub asks : Facts → Slot → Want → List Judge → State → State
asks k slot want [] s = s
asks k slot want (j ∷ js) s = asks k slot want js (ask k slot want j s)

-- one that may be lacking
abbrev pub ask_if : Facts → Slot → Want → Option Judge → State → State
ask_if k slot want (Some j) s = ask k slot want j s
ask_if k slot want None s = s

-- a part is asked that is to be below a type
unfoldable pub ask_below : Facts → Ty → Judge → State → State
ask_below k ty j s = take_below k ty j.place (said j s)

-- what stands in a scope that isn't known isn't asked
abbrev pub unless_lost : (State → State) → State → State
unless_lost f s = cond s.frame.lost s (f s)

-- ---- bindings

abbrev pub with_bindings : List Binding → State → State
with_bindings bs s = record s { bindings = bs }

-- the scope behind isn't known
abbrev pub lose : State → State
lose s = record s { frame = record s.frame { broken = true; lost = true } }

-- a name is visible: 613
abbrev pub shadows : Place → State → State
shadows place s = record (lose s) { found = breaks SHADOWS place s.found }

-- a name is bound, where it isn't visible
unfoldable pub bind : Facts → Binding → State → State
bind k b s =
    cond (is_visible k s.bindings b.name) (shadows b.place s)
    (with_bindings (s.bindings ++ b ∷ []) s)

-- names are bound one after another
unfoldable pub bind_all : Facts → List Binding → State → State
bind_all k [] s = s
bind_all k (b ∷ bs) s = unless_lost (bind_all k bs) (bind k b s)

-- a name has to be free where it is to be bound later
unfoldable pub watch : Facts → Option (Place × NameId) → State → State
watch k None s = s
watch k (Some (place, name)) s = cond (is_visible k s.bindings name) (shadows place s) s

-- as many bindings as there were
abbrev pub back_to : List Binding → State → State
back_to bs s = with_bindings (take (length bs) s.bindings) s

-- a part is asked with one binding more
unfoldable pub ask_with : Facts → Option (Place × NameId) → Ty → Slot → Judge → State → State
ask_with k name ty slot j s =
    back_to s.bindings
    (ask k slot a_want.Value j (with_bindings (with_clause s.bindings name ty) s))

-- ---- blocks

abbrev pub declares : NameId → Bool → Ty → Option TypedForm → Frame → Frame
declares name mutable ty (Some t) w = kept a_slot.First (a_typed.Bind unit name mutable ty t) w
declares name mutable ty None w = is_broken w

abbrev pub declares_all : List (NameId × Ty) → Option TypedForm → Frame → Frame
declares_all names (Some t) w = kept a_slot.First (a_typed.Binds unit names t) w
declares_all names None w = is_broken w

-- the form that was asked is the initial of a local variable
unfoldable pub take_initial : Facts → NameId → Bool → Ty → Place → State → State
take_initial k name mutable ty place s =
    let v = as_wanted_below k ty place s
    in with_frame (declares name mutable ty v.node s.frame) v.found s

-- the form that was asked is the initial of several, which have these bindings
unfoldable pub take_initials : Facts → Place → Ty → Option (List Binding) → Place → State → State
take_initials k at ty (Some new) place s =
    let v = as_wanted_below k ty place s
    in with_frame (declares_all (map name_and_type new) v.node s.frame) v.found s
take_initials k at ty None place s =
    let v = as_wanted_below k ty place s
    in with_frame (is_broken s.frame) (breaks MISMATCH at v.found) s

abbrev pub bind_parts : Facts → Option (List Binding) → State → State
bind_parts k (Some new) s = bind_all k new s
bind_parts k None s = lose s

-- an item, with another one behind it or none
abbrev pub item : Facts → Want → Piece → State → State
item k want (expression j) s = ask k a_slot.First want j s
item k want (local place name mutable ty j) s =
    bind k (record { name = name; place = place; ty = ty; mutable = mutable })
    (take_initial k name mutable ty j.place (said j s))
item k want (locals place names ty j) s =
    bind_parts k (named_parts names ty)
    (take_initials k place ty (named_parts names ty) j.place (said j s))

-- the items of a block: one with another one behind it is below `()`
unfoldable pub items : Facts → List Piece → State → State
items k [] s = s
items k (i ∷ []) s = item k a_want.Value i s
items k (i ∷ j ∷ is) s = unless_lost (items k (j ∷ is)) (item k a_want.Unit i s)

-- ---- generators

abbrev pub given_by : Option TypedForm → Option Ty
given_by (Some t) = given (type_of t)
given_by None = None

abbrev pub gives : Facts → Place → NameId → Place → Option TypedForm → Option Ty → State → State
gives k at name place (Some t) (Some ty) s =
    unless_lost (λ s. with_bindings (s.bindings ++ binding at name ty ∷ []) s)
    (record s { frame = kept a_slot.First t s.frame })
gives k at name place (Some t) None s =
    record (lose s) { found = breaks NOT_A_GENERATOR place s.found }
gives k at name place None given s = lose s

-- the form that was asked is the source of a generator
unfoldable pub take_source : Facts → Place → NameId → Place → State → State
take_source k at name place s =
    let v = taken k a_want.Operand place s.seen s.found
    in gives k at name place v.node (given_by v.node) (with_frame s.frame v.found s)

-- generators one after another
unfoldable pub sources : Facts → List Giving → State → State
sources k [] s = s
sources k (g ∷ gs) s =
    unless_lost (sources k gs)
    (take_source k g.place g.name g.source.place
    (said g.source (watch k (Some (g.place, g.name)) s)))

-- ---- comparisons

abbrev pub compared_by : Facts → Op → Place → Called → State → State
compared_by k op place (a_call.Result result widened) s = cond (is_below k result boolean)
    (record s {
      frame =
          record s.frame { calls = s.frame.calls ++ chosen (operator_set k op 2) widened ∷ [] };
    })
    (record s { frame = is_broken s.frame; found = breaks MISMATCH place s.found })
compared_by k op place (a_call.Refused rule) s =
    record s { frame = is_broken s.frame; found = breaks rule place s.found }

-- a side, where it has a type, is compared with a type by an operator
abbrev pub compared : Facts → Op → Place → Option Ty → Option TypedForm → State → State
compared k op place (Some t) (Some u) s =
    compared_by k op place (called k (operator_set k op 2) (t ∷ type_of u ∷ [])) s
compared k op place _ _ s = s

abbrev pub side_type : Option Side → Option Ty
side_type (Some a) = Some a.ty
side_type None = None

abbrev pub side_place : Place → Option Side → Place
side_place place (Some a) = a.place
side_place place None = place

abbrev pub side_of : Place → Option TypedForm → Option Side
side_of place (Some t) = Some (record { place = place; ty = type_of t })
side_of place None = None

-- the form that was asked is the next side of a chain, behind an operator or none
abbrev pub after_side : Facts → Option Op → Place → Option TypedForm → State → State
after_side k (Some op) place t s =
    compared k op (side_place place s.frame.side) (side_type s.frame.side) t s
after_side k None place t s = s

unfoldable pub take_side : Facts → Option Op → Place → State → State
take_side k op place s = let v = taken k a_want.Operand place s.seen s.found in
    let t = after_side k op place v.node
    (with_frame (kept_if a_slot.First v.node s.frame) v.found s) in
    record t { frame = record t.frame { side = side_of place v.node } }

-- the sides of a chain
unfoldable pub sides : Facts → Option Op → List Op → List Judge → State → State
sides k op ops [] s = s
sides k op [] (j ∷ js) s = sides k None [] js (take_side k op j.place (said j s))
sides k op (next ∷ ops) (j ∷ js) s = sides k (Some next) ops js (take_side k op j.place (said j s))

-- the form that was asked is the subject of a `case`
unfoldable pub take_subject : Facts → Place → State → State
take_subject k place s = let v = taken k a_want.Operand place s.seen s.found in
    with_frame (record (kept_if a_slot.Head v.node s.frame) { side = side_of place v.node }) v.found
    s

-- the form that was asked is what the subject is compared with
unfoldable pub take_test : Facts → Place → State → State
take_test k place s = let v = taken k a_want.Operand place s.seen s.found in
    compared k an_op.Eq place (side_type s.frame.side) v.node
    (with_frame (kept_if a_slot.First v.node s.frame) v.found s)

-- the clauses of a `case`
unfoldable pub clauses : Facts → List Arm → State → State
clauses k [] s = s
clauses k (a ∷ as_) s =
    clauses k as_
    (ask k a_slot.Second a_want.Value a.value (take_test k a.test.place (said a.test s)))

-- the clauses of an `if`
unfoldable pub arms : Facts → Want → List Arm → State → State
arms k want [] s = s
arms k want (a ∷ as_) s =
    arms k want as_ (ask k a_slot.Second want a.value (ask k a_slot.First a_want.Truth a.test s))

-- ---- clauses by types

-- the type of a clause is below `Exception`, else 612
unfoldable pub catches : Facts → List Clause → State → State
catches k [] s = s
catches k (c ∷ cs) s =
    catches k cs
    (cond (is_below k c.ty exception) s
    (record s { frame = is_broken s.frame; found = breaks NOT_AN_EXCEPTION c.place s.found }))

-- what clauses give, in each of which the name has the clause's type
unfoldable pub cases : Facts → Option (Place × NameId) → List Clause → State → State
cases k name [] s = s
cases k name (c ∷ cs) s = cases k name cs (ask_with k name c.ty a_slot.Second c.value s)

-- the scope of a `typecase` is known where its subject has a type
abbrev pub lost_if_broken : State → State
lost_if_broken s = record s { frame = record s.frame { lost = s.frame.broken } }

abbrev pub head_type : Option TypedForm → Ty
head_type (Some t) = type_of t
head_type None = unit

abbrev pub else_with : Facts → Option (Place × NameId) → Option Judge → State → State
else_with k name (Some j) s = ask_with k name (head_type s.frame.head) a_slot.Last j s
else_with k name None s = s

-- ---- elements

abbrev pub element_meaning : Meaning → Meaning
element_meaning (a_meaning.Value t) =
    cond (is_nothing (type_of t)) a_meaning.Unknown (a_meaning.Value t)
element_meaning m = m

abbrev pub element_found : Place → Meaning → Option Fault → Option Fault
element_found place (a_meaning.Value t) found =
    cond (is_nothing (type_of t)) (breaks MISMATCH place found) found
element_found place _ found = found

-- the form that was asked is an element
unfoldable pub take_element : Place → Bool → Bool → Bool → State → State
take_element place parens listed postfix s =
    with_frame
    (record s.frame {
      parts =
          s.frame.parts ++ record {
            place = place;
            parens = parens;
            listed = listed;
            postfix = postfix;
            meaning = element_meaning s.seen;
          } ∷ [];
    })
    (element_found place s.seen s.found) s

-- the elements of a run or of a juxtaposition
unfoldable pub elements : List Judge → State → State
elements [] s = s
elements (j ∷ js) s = elements js (take_element j.place j.parens j.listed j.postfix (said j s))

-- ---- assignments

abbrev pub targeted : Place → Bool → Meaning → State → State
targeted place takes (a_meaning.Value t) s =
    cond takes (record s { frame = kept a_slot.Head t s.frame })
    (record s { frame = is_broken s.frame; found = breaks NOT_ASSIGNABLE place s.found })
targeted place takes (a_meaning.Functions name) s =
    record s { frame = is_broken s.frame; found = breaks NOT_ASSIGNABLE place s.found }
targeted place takes _ s = record s { frame = is_broken s.frame }

-- what an assigned value is below: the target's type, where there is a target
abbrev pub assigned_valued : Facts → Place → Option TypedForm → State → Valued
assigned_valued k place (Some t) s = as_wanted_below k (type_of t) place s
assigned_valued k place None s = valued place s.seen s.found

unfoldable pub take_assigned : Facts → Place → State → State
take_assigned k place s =
    let v = assigned_valued k place s.frame.head s
    in with_frame (kept_if a_slot.Last v.node s.frame) v.found s
