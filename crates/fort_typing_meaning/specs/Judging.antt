-- The chapter "Typing": what each form answers: its parts are asked in their order, and then the
-- form is closed.
use Rattle.std.specs.Prelude.{◌≡◌, Bool, true, false, cond, ◌&&◌, List, [], ◌∷◌, map, Option, Some, None}
use Rattle.fort_base.specs.declared.refusal.Place.{Place}
use Rattle.fort_ops.specs.declared.op.Op.{Op}
use Rattle.fort_scope.specs.declared.binding.Binding.{Binding}
use Rattle.fort_form.specs.declared.form.Form.{Form, out-Form, fold-Form, map-Form}
use Rattle.fort_form.specs.declared.form.Form.TheOpen.{Form-F, Item-F, Branch-F, Generator-F, TypeBranch-F}
use Rattle.fort_form.specs.declared.form.Item.{Item, fold-Item}
use Rattle.fort_form.specs.declared.form.Branch.{Branch, fold-Branch}
use Rattle.fort_form.specs.declared.form.Generator.{Generator, fold-Generator}
use Rattle.fort_form.specs.declared.form.TypeBranch.{TypeBranch, fold-TypeBranch}
use Rattle.fort_form.specs.declared.form.Reduction.{Reduction}
use Rattle.fort_form.specs.declared.form.Reduction.TheVariants as a_reduction
use Rattle.fort_form_typed.specs.declared.typed_form.TypedForm.{TypedForm, out-TypedForm}
use Rattle.fort_typing_known.specs.declared.fault.Fault.{Fault}
use Rattle.fort_typing_known.specs.Known.{Facts}
use Rattle.fort_typing_rules.specs.declared.part.Meaning.{Meaning}
use Rattle.fort_typing_rules.specs.declared.part.Meaning.TheVariants as a_meaning
use Rattle.fort_typing_rules.specs.Types.{zz32, place_at}
use Rattle.fort_typing_rules.specs.Typing.{parens_at, listed_at, postfix_at, target_at, takes_at, parameter_binding, update_operator}
use Rattle.fort_typing_meaning.specs.declared.frame.Want.{Want}
use Rattle.fort_typing_meaning.specs.declared.frame.Want.TheVariants as a_want
use Rattle.fort_typing_meaning.specs.declared.frame.Slot.TheVariants as a_slot
use Rattle.fort_typing_meaning.specs.declared.frame.Outcome.{Outcome}
use Rattle.fort_typing_meaning.specs.Parts.{Judge, Piece, local, locals, expression, Arm, Clause, Giving, State, begin, said, ask, ask_below, asks, ask_if, unless_lost, bind_all, watch, items, sources, sides, take_subject, clauses, arms, catches, cases, lost_if_broken, else_with, elements, targeted, take_assigned}
use Rattle.fort_typing_meaning.specs.Closing.{close_at}

-- ---- the parts of forms

abbrev pub done_parts : Facts → List Judge → State → State
done_parts k [] s = s
done_parts k (j ∷ []) s = ask k a_slot.Head a_want.Value j s
done_parts k (i ∷ j ∷ js) s = asks k a_slot.First a_want.Unit (i ∷ j ∷ js) s

abbrev pub if_parts : Facts → List Arm → Option Judge → State → State
if_parts k as_ None s = arms k a_want.Unit as_ s
if_parts k as_ (Some j) s = ask k a_slot.Last a_want.Value j (arms k a_want.Value as_ s)

abbrev pub reduction_want : Reduction → Want
reduction_want a_reduction.Conjunction = a_want.Truth
reduction_want a_reduction.Disjunction = a_want.Truth
reduction_want _ = a_want.Number

-- whether a form that was asked can be assigned to
abbrev pub takes_by : Facts → Judge → Meaning → Bool
takes_by k j (a_meaning.Value t) = j.target && takes_at k (out-TypedForm t)
takes_by k j _ = false

-- the form that was asked is the target of an assignment
unfoldable pub take_target : Facts → Judge → State → State
take_target k j s = targeted j.place (takes_by k j s.seen) s.seen s

abbrev pub assigned_part : Facts → Option Op → Judge → State → State
assigned_part k None j s = take_assigned k j.place (said j s)
assigned_part k (Some op) j s = ask k a_slot.Last a_want.Operand j s

-- the parts of a form, in their order
abbrev pub inside : Facts → Form-F Judge Piece Arm Giving Clause → State → State
inside k (Form-F.Number p n) s = s
inside k (Form-F.Text p n) s = s
inside k (Form-F.Truth p b) s = s
inside k (Form-F.Receiver p) s = s
inside k (Form-F.Name p name) s = s
inside k (Form-F.Parens p e) s = ask k a_slot.Head a_want.Value e s
inside k (Form-F.Tuple p es) s = asks k a_slot.First a_want.Operand es s
inside k (Form-F.Operator p op es) s = asks k a_slot.First a_want.Operand es s
inside k (Form-F.Chain p ops es) s = sides k None ops es s
inside k (Form-F.Beside p es) s = elements es s
inside k (Form-F.Run p es) s = elements es s
inside k (Form-F.Subscript p e) s = ask k a_slot.Head a_want.Small e s
inside k (Form-F.Power p e) s = ask k a_slot.Head a_want.Operand e s
inside k (Form-F.Field p at name) s = s
inside k (Form-F.Method p at name es) s = asks k a_slot.First a_want.Operand es s
inside k (Form-F.Fill p ty n v) s = ask_below k ty v (ask k a_slot.Head a_want.Small n s)
inside k (Form-F.Block p is) s = items k is s
inside k (Form-F.Do p blocks) s = done_parts k blocks s
inside k (Form-F.If p as_ other) s = if_parts k as_ other s
inside k (Form-F.While p c b) s =
    ask k a_slot.Last a_want.Unit b (ask k a_slot.Head a_want.Truth c s)
inside k (Form-F.For p gs b) s = unless_lost (ask k a_slot.Last a_want.Unit b) (sources k gs s)
inside k (Form-F.Case p s as_ other) t =
    ask_if k a_slot.Last a_want.Value other (clauses k as_ (take_subject k s.place (said s t)))
inside k (Form-F.Typecase p at name s cs other) t =
    unless_lost (λ t. else_with k (Some (at, name)) other (cases k (Some (at, name)) cs t))
    (lost_if_broken (ask k a_slot.Head a_want.Value s (watch k (Some (at, name)) t)))
inside k (Form-F.Try p b name cs last) s =
    ask_if k a_slot.Last a_want.Unit last
    (unless_lost (cases k name cs)
    (catches k cs (watch k name (ask k a_slot.Head a_want.Value b s))))
inside k (Form-F.Atomic p e) s = ask k a_slot.Head a_want.Value e s
inside k (Form-F.Tryatomic p e) s = ask k a_slot.Head a_want.Value e s
inside k (Form-F.Throw p e) s = ask k a_slot.Head a_want.Exception e s
inside k (Form-F.Fn p ps e) s =
    unless_lost (ask k a_slot.Head a_want.Value e) (bind_all k (map parameter_binding ps) s)
inside k (Form-F.Reduce p r g e) s =
    unless_lost (ask k a_slot.Last (reduction_want r) e) (sources k (g ∷ []) s)
inside k (Form-F.Assign p t sign e) s =
    assigned_part k (update_operator sign) e (take_target k t (said t s))

-- ---- one level

abbrev pub closed : Facts → Form-F Judge Piece Arm Giving Clause → List Binding → State → Outcome
closed k form bs s = close_at k form s.frame bs s.found

abbrev pub answer_at : Facts → Form-F Judge Piece Arm Giving Clause → List Binding → Option Fault
    → Outcome
answer_at k form bs found = closed k form bs (inside k form (begin bs found))

abbrev pub judge_form : Facts → Form-F Judge Piece Arm Giving Clause → Judge
judge_form k form =
    record {
      place = place_at form;
      parens = parens_at form;
      listed = listed_at form;
      postfix = postfix_at form;
      target = target_at form;
      answer = answer_at k form;
    }

abbrev pub judge_item : Item-F Judge Piece Arm Giving Clause → Piece
judge_item (Item-F.Local place name mutable ty e) = local place name mutable ty e
judge_item (Item-F.Locals place names ty e) = locals place names ty e
judge_item (Item-F.Expression e) = expression e

abbrev pub judge_branch : Branch-F Judge Piece Arm Giving Clause → Arm
judge_branch b = record { test = b.test; value = b.value }

abbrev pub judge_generator : Generator-F Judge Piece Arm Giving Clause → Giving
judge_generator g =
    record { place = g.place; name = g.name; sequential = g.sequential; source = g.source }

abbrev pub judge_clause : TypeBranch-F Judge Piece Arm Giving Clause → Clause
judge_clause b = record { place = b.place; ty = b.ty; value = b.value }

-- what a form answers
unfoldable pub judged : Facts → Form → Judge
judged k =
    fold-Form Judge Piece Arm Giving Clause (judge_form k) judge_item judge_branch judge_generator
    judge_clause

-- what an item is, a clause, a generator
unfoldable pub judged_item : Facts → Item → Piece
judged_item k =
    fold-Item Judge Piece Arm Giving Clause (judge_form k) judge_item judge_branch judge_generator
    judge_clause

unfoldable pub judged_branch : Facts → Branch → Arm
judged_branch k =
    fold-Branch Judge Piece Arm Giving Clause (judge_form k) judge_item judge_branch judge_generator
    judge_clause

unfoldable pub judged_generator : Facts → Generator → Giving
judged_generator k =
    fold-Generator Judge Piece Arm Giving Clause (judge_form k) judge_item judge_branch
    judge_generator judge_clause

unfoldable pub judged_clause : Facts → TypeBranch → Clause
judged_clause k =
    fold-TypeBranch Judge Piece Arm Giving Clause (judge_form k) judge_item judge_branch
    judge_generator judge_clause

-- the level of a form, with what its parts answer
unfoldable pub level : Facts → Form → Form-F Judge Piece Arm Giving Clause
level k f =
    map-Form Form Item Branch Generator TypeBranch Judge Piece Arm Giving Clause (judged k)
    (judged_item k) (judged_branch k) (judged_generator k) (judged_clause k) (out-Form f)
