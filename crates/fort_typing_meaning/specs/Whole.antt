-- The chapter "Typing", declarations, and which refusal comes: what a component becomes, or its
-- first broken rule. Its declarations are asked in the order of their places, and what is found in
-- one is handed on to the next.
use Rattle.std.specs.Prelude.{ℕ, Bool, true, false, cond, List, [], ◌∷◌, ◌++◌, map, slice_get, codes, Option, Some, None, Result, Ok, Err}
use Rattle.fort_base.specs.declared.ids.NameId.{NameId}
use Rattle.fort_base.specs.declared.ids.TypeId.{TypeId}
use Rattle.fort_base.specs.declared.refusal.Place.{Place}
use Rattle.fort_base.specs.declared.rules.TheConstants.{INITIAL_NOT_CONSTANT, NO_RUN}
use Rattle.fort_base.specs.declared.ty.Ty.{Ty, out-Ty}
use Rattle.fort_base.specs.declared.ty.Ty.TheOpen.{Ty-F}
use Rattle.fort_types_sets.specs.declared.member.Member.{Member}
use Rattle.fort_types_sets.specs.declared.member.MemberSet.{MemberSet}
use Rattle.fort_form.specs.declared.component.BodyForm.{BodyForm}
use Rattle.fort_form.specs.declared.component.Forms.{Forms}
use Rattle.fort_form.specs.declared.component.InitialForm.{InitialForm}
use Rattle.fort_form_typed.specs.declared.component.Typed.{Typed}
use Rattle.fort_form_typed.specs.declared.component.TypedBody.{TypedBody}
use Rattle.fort_form_typed.specs.declared.typed_form.TypedForm.{TypedForm}
use Rattle.fort_typing_known.specs.declared.fault.Fault.{Fault}
use Rattle.fort_typing_known.specs.Known.{Facts, facts_within}
use Rattle.fort_typing_known.specs.Sets.{set_of}
use Rattle.fort_typing_rules.specs.Types.{place_of, fault}
use Rattle.fort_typing_rules.specs.Typing.{parameter_binding}
use Rattle.fort_typing_rules.specs.Components.{typed_initial, typed_body}
use Rattle.fort_typing_meaning.specs.declared.frame.Valued.{Valued}
use Rattle.fort_typing_meaning.specs.Faults.{breaks}
use Rattle.fort_typing_meaning.specs.Tests.{no_node}
use Rattle.fort_typing_meaning.specs.Parts.{State, begin, said, bind_all, below_by, as_wanted_below}
use Rattle.fort_typing_meaning.specs.Judging.{judged}
use Rattle.fort_typing_meaning.specs.Constants.{constant}

-- ---- declarations

abbrev pub initial_by : Facts → InitialForm → Option TypedForm → Option Fault → Valued
initial_by k i (Some t) found = below_by k i.ty (place_of i.value) (Some t) found
initial_by k i None found = no_node (breaks INITIAL_NOT_CONSTANT (place_of i.value) found)

-- An initial: 608 where it is no constant, 603 where it isn't below its written type.
unfoldable pub judged_initial : Facts → InitialForm → Option Fault → Valued
judged_initial k i found = initial_by k i (constant k i.value) found

abbrev pub body_in : Facts → BodyForm → State → Valued
body_in k b s =
    cond s.frame.lost (no_node s.found)
    (as_wanted_below k b.result (judged k b.body).place (said (judged k b.body) s))

-- A body: its parameters are bound, and it is below its written result. Where a parameter is
-- visible the body isn't asked.
unfoldable pub judged_body : Facts → BodyForm → Option Fault → Valued
judged_body k b found =
    let j = facts_within k b.owner
    in body_in j b (bind_all j (map parameter_binding b.parameters) (begin [] found))

-- ---- components

-- How far a component has come: what has a type so far, and the first broken rule so far.
pub record Whole : Type 0 where
  pub initials : List (Option TypeId × NameId × Ty × TypedForm)
  pub bodies : List TypedBody
  pub found : Option Fault

abbrev pub more_initials : InitialForm → Option TypedForm
    → List (Option TypeId × NameId × Ty × TypedForm)
    → List (Option TypeId × NameId × Ty × TypedForm)
more_initials i (Some t) ts = ts ++ typed_initial i t ∷ []
more_initials i None ts = ts

abbrev pub with_initial : InitialForm → Valued → Whole → Whole
with_initial i v w =
    record { initials = more_initials i v.node w.initials; bodies = w.bodies; found = v.found }

unfoldable pub judged_initials : Facts → List InitialForm → Whole → Whole
judged_initials k [] w = w
judged_initials k (i ∷ is) w = judged_initials k is (with_initial i (judged_initial k i w.found) w)

abbrev pub more_bodies : BodyForm → Option TypedForm → List TypedBody → List TypedBody
more_bodies b (Some t) ts = ts ++ typed_body b t ∷ []
more_bodies b None ts = ts

abbrev pub with_body : BodyForm → Valued → Whole → Whole
with_body b v w =
    record { initials = w.initials; bodies = more_bodies b v.node w.bodies; found = v.found }

unfoldable pub judged_bodies : Facts → List BodyForm → Whole → Whole
judged_bodies k [] w = w
judged_bodies k (b ∷ bs) w = judged_bodies k bs (with_body b (judged_body k b w.found) w)

-- ---- the function `run`

abbrev pub is_unit_at : Ty-F Ty → Bool
is_unit_at (Ty-F.Tuple []) = true
is_unit_at _ = false

abbrev pub any_unit : List Member → Bool
any_unit [] = false
any_unit (m ∷ ms) = cond (is_unit_at (out-Ty m.result)) true (any_unit ms)

abbrev pub runs_in : Option MemberSet → Bool
runs_in (Some s) = any_unit s.members
runs_in None = false

-- There is a function `run` without parameters and with the result `()`.
unfoldable pub has_run : Facts → Bool
has_run k = runs_in (slice_get k.members.sets (set_of k (codes "run") false 0).0)

-- ---- the whole

-- a component of which nothing has been asked
abbrev pub begun : Whole
begun = record { initials = []; bodies = []; found = None }

-- what all declarations come to
abbrev pub whole : Facts → Forms → Whole
whole k forms = judged_bodies k forms.bodies (judged_initials k forms.initials begun)

abbrev pub whole_by : Place → Bool → Whole → Option Fault → Result Typed Fault
whole_by name runs w (Some x) = Err x
whole_by name true w None = Ok (record { initials = w.initials; bodies = w.bodies })
whole_by name false w None = Err (fault NO_RUN name)

-- What a component becomes, or its first broken rule: 609 at its name where no declaration breaks
-- one and there is no such `run`.
unfoldable pub typed_whole : Facts → Forms → Result Typed Fault
typed_whole k forms = let w = whole k forms in whole_by forms.name (has_run k) w w.found
