-- The chapter "Typing": what the tasks of a walk mean, in the judge's words. The code keeps them on
-- a stack, the next one on its top.
use Rattle.std.specs.Prelude.{◌≡◌, ℕ, Bool, true, false, cond, List, [], ◌∷◌, map, take, Option, Some, None, option_map}
use Rattle.fort_base.specs.declared.ids.NameId.{NameId}
use Rattle.fort_base.specs.declared.refusal.Place.{Place}
use Rattle.fort_base.specs.declared.ty.Ty.{Ty}
use Rattle.fort_scope.specs.declared.binding.Binding.{Binding}
use Rattle.fort_form.specs.declared.form.Form.{Form}
use Rattle.fort_form.specs.declared.form.Branch.{Branch}
use Rattle.fort_form.specs.declared.form.TypeBranch.{TypeBranch}
use Rattle.fort_form.specs.declared.form.Form.TheOpen.{Form-F}
use Rattle.fort_typing_known.specs.Known.{Facts}
use Rattle.fort_typing_rules.specs.declared.part.Meaning.TheVariants as a_meaning
use Rattle.fort_typing_rules.specs.Typing.{binding, named_parts, parameter_binding}
use Rattle.fort_typing_meaning.specs.declared.frame.Frame.{Frame}
use Rattle.fort_typing_meaning.specs.declared.frame.Slot.TheVariants as a_slot
use Rattle.fort_typing_meaning.specs.Parts.{Judge, Piece, Arm, Clause, Giving, State, said, ask, ask_below, asks, unless_lost, with_bindings, bind, bind_all, bind_parts, watch, ask_with, take_part, take_below, take_initial, take_initials, items, take_source, sources, take_side, sides, take_subject, take_test, clauses, arms, catches, cases, lost_if_broken, else_with, take_element, elements, take_assigned}
use Rattle.fort_typing_meaning.specs.Judging.{take_target, closed, judged, judged_item, judged_branch, judged_generator, judged_clause, level}
use Rattle.fort_typing_tasks.specs.declared.task.Task.{Task}
use Rattle.fort_typing_tasks.specs.declared.task.Task.TheVariants as a_task
use Rattle.fort_typing_tasks.specs.declared.task.Taking.{Taking}
use Rattle.fort_typing_tasks.specs.declared.task.Taking.TheVariants as a_taking
use Rattle.fort_typing_tasks.specs.declared.task.Asking.{Asking}
use Rattle.fort_typing_tasks.specs.declared.task.Asking.TheVariants as an_asking
use Rattle.fort_typing_tasks.specs.declared.task.Listing.{Listing}
use Rattle.fort_typing_tasks.specs.declared.task.Listing.TheVariants as a_listing
use Rattle.fort_typing_tasks.specs.declared.task.Branching.{Branching}
use Rattle.fort_typing_tasks.specs.declared.task.Branching.TheVariants as a_branching
use Rattle.fort_typing_tasks.specs.declared.task.Casing.{Casing}
use Rattle.fort_typing_tasks.specs.declared.task.Casing.TheVariants as a_casing
use Rattle.fort_typing_tasks.specs.declared.task.Scoping.{Scoping}
use Rattle.fort_typing_tasks.specs.declared.task.Scoping.TheVariants as a_scoping

-- ---- words

-- the form that was asked is forgotten
abbrev pub forgotten : State → State
forgotten s = record s { seen = a_meaning.Unknown }

-- the first bindings are kept, so many of them
abbrev pub with_first : ℕ → State → State
with_first n s = with_bindings (take n s.bindings) s

-- names, each bound with the type at its place
abbrev pub bindings_of : List (Place × NameId) → List Ty → List Binding
bindings_of [] types = []
bindings_of (n ∷ names) [] = []
bindings_of ((at, name) ∷ names) (t ∷ types) = binding at name t ∷ bindings_of names types

-- a generator's source is asked, and its name is bound
abbrev pub on_source : Facts → Giving → State → State
on_source k g s =
    take_source k g.place g.name g.source.place (said g.source (watch k (Some (g.place, g.name)) s))

-- what stands behind the `else` of a `typecase`, unless the scope isn't known
abbrev pub on_otherwise : Facts → Option (Place × NameId) → Option Judge → State → State
on_otherwise k name None s = s
on_otherwise k name (Some j) s = unless_lost (else_with k name (Some j)) s

-- A form is closed: what it is stands in the place of what was asked last, and the frame and the
-- bindings around it come back.
unfoldable pub closing : Facts → Form-F Judge Piece Arm Giving Clause → Frame → ℕ → State → State
closing k form outer mark s =
    let bs = take mark s.bindings in let o = closed k form bs s
    in record { seen = o.seen; frame = outer; bindings = bs; found = o.found }

-- ---- tasks

-- what the form that was asked, with this judge, is taken as
abbrev pub taking : Facts → Taking → Judge → State → State
taking k (a_taking.Kept slot want) j s = take_part k slot want j.place s
taking k (a_taking.Below ty) j s = take_below k ty.now j.place s
taking k (a_taking.Initial name mutable ty) j s = take_initial k name mutable ty.now j.place s
taking k (a_taking.Initials at names ty) j s =
    take_initials k at ty.now (named_parts names.now ty.now) j.place s
taking k (a_taking.Source at name) j s = take_source k at name j.place s
taking k (a_taking.Compared op) j s = take_side k op j.place s
taking k a_taking.Subject j s = take_subject k j.place s
taking k a_taking.Test j s = take_test k j.place s
taking k a_taking.Element j s = take_element j.place j.parens j.listed j.postfix s
taking k a_taking.Target j s = forgotten (take_target k j s)
taking k a_taking.Assigned j s = take_assigned k j.place s

-- how a part is asked
abbrev pub asking : Facts → Asking → Judge → State → State
asking k (an_asking.Kept slot want) j s = unless_lost (ask k slot want j) s
asking k (an_asking.Below ty) j s = unless_lost (ask_below k ty.now j) s
asking k (an_asking.Case name ty) j s = ask_with k name ty.now a_slot.Second j s
asking k (an_asking.Otherwise at name) j s = on_otherwise k (Some (at, name)) (Some j) s

-- how parts are asked
abbrev pub listing : Facts → Listing → List Judge → State → State
listing k (a_listing.Kept slot want) js s = asks k slot want js s
listing k a_listing.Elements js s = elements js s
listing k (a_listing.Sides op ops) js s = sides k op ops.now js s

-- how clauses are gone through
abbrev pub branching : Facts → Branching → List Arm → State → State
branching k (a_branching.Arms want) as_ s = arms k want as_ s
branching k a_branching.Clauses as_ s = clauses k as_ s

abbrev pub casing : Facts → Casing → List Clause → State → State
casing k a_casing.Exceptions cs s = catches k cs s
casing k (a_casing.Values name) cs s = cases k name cs s
casing k (a_casing.KnownValues name) cs s = unless_lost (cases k name cs) s

-- how bindings change
abbrev pub scoping : Facts → Scoping → State → State
scoping k (a_scoping.Name at name mutable ty) s =
    bind k (record { name = name; place = at; ty = ty.now; mutable = mutable }) s
scoping k (a_scoping.Names names ty) s = bind_parts k (named_parts names.now ty.now) s
scoping k (a_scoping.Typed names types) s = bind_all k (bindings_of names.now types.now) s
scoping k (a_scoping.Parameters ps) s = bind_all k (map parameter_binding ps.now) s
scoping k (a_scoping.Watch at name) s = watch k (Some (at, name)) s
scoping k a_scoping.LoseIfBroken s = lost_if_broken s
scoping k (a_scoping.Leave mark) s = with_first mark s

-- what a task does
abbrev pub on : Facts → Task → State → State
on k (a_task.See f) s = said (judged k f.now) s
on k (a_task.Take t f) s = taking k t (judged k f.now) s
on k (a_task.Ask t f) s = asking k t (judged k f.now) s
on k (a_task.AskEach t fs) s = listing k t (map (judged k) fs.now) s
on k (a_task.Items is) s = unless_lost (items k (map (judged_item k) is.now)) s
on k (a_task.Sources gs) s = unless_lost (sources k (map (judged_generator k) gs.now)) s
on k (a_task.Branches t bs) s = branching k t (map (judged_branch k) bs.now) s
on k (a_task.Cases t cs) s = casing k t (map (judged_clause k) cs.now) s
on k (a_task.Scope t) s = scoping k t s
on k (a_task.Close f outer mark) s = closing k (level k f.now) outer mark s

-- what tasks do, the first one first
abbrev pub run : Facts → List Task → State → State
run k [] s = s
run k (t ∷ ts) s = run k ts (on k t s)
