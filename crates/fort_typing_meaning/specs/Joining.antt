-- The chapter "Typing", runs and juxtapositions: what comes of elements, as it is computed. The
-- chapter's own sentences are in fort_typing_rules.
use Rattle.std.specs.Prelude.{ℕ, zero, suc, Bool, true, false, cond, not, ◌&&◌, ◌||◌, List, [], ◌∷◌, ◌++◌, length, slice_get, Option, Some, None, Result, Ok, Err}
use Rattle.fort_base.specs.declared.ids.NameId.{NameId}
use Rattle.fort_base.specs.declared.ids.SetId.{SetId}
use Rattle.fort_base.specs.declared.refusal.CheckFault.{CheckFault}
use Rattle.fort_base.specs.declared.refusal.CheckFault.TheVariants as a_fault
use Rattle.fort_base.specs.declared.refusal.Place.{Place}
use Rattle.fort_base.specs.declared.refusal.Rule.{Rule}
use Rattle.fort_base.specs.declared.rules.TheConstants.{UNKNOWN_NAME, MISMATCH}
use Rattle.fort_base.specs.declared.ty.Ty.{Ty, out-Ty}
use Rattle.fort_base.specs.declared.ty.Ty.TheOpen.{Ty-F}
use Rattle.fort_ops.specs.declared.op.Op.TheVariants as an_op
use Rattle.fort_types_sets.specs.declared.field.Field.{Field}
use Rattle.fort_juxt.specs.declared.elements.Grouping.{Grouping, fold-Grouping}
use Rattle.fort_juxt.specs.declared.elements.Grouping.TheOpen.{Grouping-F}
use Rattle.fort_juxt.specs.declared.elements.Tight.{Tight}
use Rattle.fort_juxt.specs.declared.elements.Tight.TheVariants as a_rewriting
use Rattle.fort_form_typed.specs.declared.typed_form.TypedForm.{TypedForm}
use Rattle.fort_form_typed.specs.declared.typed_form.TypedForm.TheVariants as a_typed
use Rattle.fort_typing_known.specs.declared.fault.Fault.{Fault}
use Rattle.fort_typing_known.specs.Known.{Facts}
use Rattle.fort_typing_known.specs.Below.{is_below}
use Rattle.fort_typing_known.specs.Names.{field_at}
use Rattle.fort_typing_known.specs.Sets.{spelled, function_set, method_set, operator_set, is_method}
use Rattle.fort_typing_call.specs.Called.{called}
use Rattle.fort_typing_call.specs.declared.called.Called.{Called}
use Rattle.fort_typing_call.specs.declared.called.Called.TheVariants as a_call
use Rattle.fort_typing_rules.specs.declared.part.Part.{Part}
use Rattle.fort_typing_rules.specs.declared.part.Meaning.{Meaning}
use Rattle.fort_typing_rules.specs.declared.part.Meaning.TheVariants as a_meaning
use Rattle.fort_typing_rules.specs.Types.{type_of, types_of, is_nothing, array_at, zz32, fault}
use Rattle.fort_typing_rules.specs.Elements.{elements, arguments, made, as_part, chosen, is_whole, is_size}
use Rattle.fort_typing_meaning.specs.declared.frame.Made.{Made}
use Rattle.fort_typing_meaning.specs.declared.frame.Made.TheVariants as a_made
use Rattle.fort_typing_meaning.specs.declared.frame.Outcome.{Outcome}
use Rattle.fort_typing_meaning.specs.Faults.{breaks}
use Rattle.fort_typing_meaning.specs.Tests.{untyped, refused}
use Rattle.fort_typing_meaning.specs.Juxtaposing.{next_rewriting, grouping_of}

-- ---- calls

abbrev pub call_by : SetId → List TypedForm → Place → Called → Made
call_by set ts place (a_call.Result result widened) =
    a_made.Gives (a_typed.Call result (chosen set widened) ts)
call_by set ts place (a_call.Refused rule) = a_made.Breaks (fault rule place)

-- a call of a function, a constructor or a method
unfoldable pub call : Facts → SetId → List TypedForm → Place → Made
call k set ts place = call_by set ts place (called k set (types_of ts))

abbrev pub operation_by : SetId → List TypedForm → Place → Called → Made
operation_by set ts place (a_call.Result result widened) =
    a_made.Gives (a_typed.Operation result (chosen set widened) ts)
operation_by set ts place (a_call.Refused rule) = a_made.Breaks (fault rule place)

-- a call of an operator
unfoldable pub operation : Facts → SetId → List TypedForm → Place → Made
operation k set ts place = operation_by set ts place (called k set (types_of ts))

-- ---- two elements

abbrev pub value_applied : Facts → Place → TypedForm → TypedForm → Ty-F Ty → Made
value_applied k place g u (Ty-F.Arrow domain result) =
    cond (is_below k (type_of u) domain) (a_made.Gives (a_typed.Apply result g u))
    (a_made.Breaks (fault MISMATCH place))
value_applied k place g u _ = a_made.Stops

abbrev pub applied_to : Facts → Part → Part → Meaning → Meaning → Made
applied_to k f a (a_meaning.Functions name) (a_meaning.Value u) =
    call k (function_set k name (length (arguments a u))) (arguments a u) f.place
applied_to k f a (a_meaning.Value g) (a_meaning.Value u) =
    value_applied k a.place g u (out-Ty (type_of g))
applied_to k f a _ _ = a_made.Stops

-- a function applied to an argument
unfoldable pub applied : Facts → Part → Part → Made
applied k f a = applied_to k f a f.meaning a.meaning

abbrev pub joined_by : Facts → Place → Meaning → Meaning → Made
joined_by k place (a_meaning.Value u) (a_meaning.Value v) =
    operation k (operator_set k an_op.Juxt 2) (u ∷ v ∷ []) place
joined_by k place _ _ = a_made.Stops

-- two elements joined
unfoldable pub joined : Facts → Part → Part → Made
joined k a b = joined_by k a.place a.meaning b.meaning

abbrev pub indexed : Place → TypedForm → TypedForm → Ty-F Ty → Made
indexed place u i (Ty-F.Array e) = a_made.Gives (a_typed.ReadElement e u i)
indexed place u i _ = a_made.Breaks (fault MISMATCH place)

abbrev pub read : Place → TypedForm → NameId → Option Field → Made
read at u name (Some f) = a_made.Gives (a_typed.ReadField f.ty u name)
read at u name None = a_made.Breaks (fault UNKNOWN_NAME at)

abbrev pub method_called : Facts → Place → TypedForm → Place → NameId → List TypedForm → Bool → Bool
    → Made
method_called k place u at name ts true has = a_made.Gives (a_typed.Size zz32 u)
method_called k place u at name ts false true =
    call k (method_set k name (suc (length ts))) (u ∷ ts) place
method_called k place u at name ts false false = a_made.Breaks (fault UNKNOWN_NAME at)

abbrev pub followed_by : Facts → Place → Meaning → Meaning → Made
followed_by k place (a_meaning.Value u) (a_meaning.Index i) = indexed place u i (out-Ty (type_of u))
followed_by k place (a_meaning.Value u) (a_meaning.Exponent e) =
    operation k (operator_set k an_op.Power 2) (u ∷ e ∷ []) place
followed_by k place (a_meaning.Value u) (a_meaning.Field at name) =
    read at u name (field_at k (out-Ty (type_of u)) name)
followed_by k place (a_meaning.Value u) (a_meaning.Method at name ts) =
    method_called k place u at name ts (is_size k u name ts) (is_method k name)
followed_by k place _ _ = a_made.Stops

-- a postfix behind an element
unfoldable pub followed : Facts → Part → Part → Made
followed k a p = followed_by k a.place a.meaning p.meaning

-- ---- runs

-- the elements before a number, the two from it on, and those behind
pub record Around : Type 0 where
  pub before : List Part
  pub one : Part
  pub other : Part
  pub after : List Part

abbrev pub more_before : Part → Option Around → Option Around
more_before p (Some a) =
    Some (record { before = p ∷ a.before; one = a.one; other = a.other; after = a.after })
more_before p None = None

abbrev pub around : ℕ → List Part → Option Around
around zero (x ∷ y ∷ after) = Some (record { before = []; one = x; other = y; after = after })
around zero _ = None
around (suc n) [] = None
around (suc n) (x ∷ xs) = more_before x (around n xs)

-- what a run goes on with: its elements, and the first broken rule so far; or nothing
pub data Further : Type 0 where
  on : List Part → Option Fault → Further
  stop : Option Fault → Further

-- what comes of two elements takes their place; where it is `Nothing` and isn't the whole it breaks
-- 603
abbrev pub replaced : List Part → Place → List Part → Made → Option Fault → Further
replaced before place after (a_made.Gives t) found =
    cond (is_whole before after || not (is_nothing (type_of t)))
    (on (before ++ made place (a_meaning.Value t) ∷ after) found)
    (on (before ++ made place a_meaning.Unknown ∷ after) (breaks MISMATCH place found))
replaced before place after (a_made.Breaks x) found =
    on (before ++ made place a_meaning.Unknown ∷ after) (breaks x.rule x.place found)
replaced before place after a_made.Stops found = stop found

abbrev pub replaced_in : (Part → Part → Made) → Option Around → Option Fault → Further
replaced_in way (Some a) found = replaced a.before a.one.place a.after (way a.one a.other) found
replaced_in way None found = stop found

-- the next rewriting is done
abbrev pub rewritten_by : Facts → List Part → Result Tight CheckFault → Option Fault → Further
rewritten_by k ps (Ok (a_rewriting.Apply n)) found = replaced_in (applied k) (around n ps) found
rewritten_by k ps (Ok (a_rewriting.Postfix (suc n))) found =
    replaced_in (followed k) (around n ps) found
rewritten_by k ps (Ok (a_rewriting.Postfix zero)) found = stop found
rewritten_by k ps (Ok a_rewriting.Left) found = replaced_in (joined k) (around zero ps) found
rewritten_by k ps (Ok a_rewriting.Whole) found = stop found
rewritten_by k ps (Err (a_fault.Refused rule at)) found = stop (breaks rule at found)
rewritten_by k ps (Err a_fault.Memory) found = stop found

unfoldable pub rewritten : Facts → List Part → Option Fault → Further
rewritten k ps found = rewritten_by k ps (next_rewriting (elements ps)) found

-- what a run is after a rewriting
abbrev pub further : (Option Fault → List Part → Outcome) → Further → Outcome
further next (on qs new) = next new qs
further next (stop new) = untyped new

-- a run of one element is that; else it goes on, with as many rewritings left
abbrev pub run_at : (Option Fault → List Part → Outcome) → Facts → Option Fault → List Part
    → Outcome
run_at next k found [] = untyped found
run_at next k found (p ∷ []) = record { seen = p.meaning; found = found }
run_at next k found (p ∷ q ∷ ps) = further next (rewritten k (p ∷ q ∷ ps) found)

abbrev pub run_within : Facts → ℕ → Option Fault → List Part → Outcome
run_within k zero found ps = untyped found
run_within k (suc n) found ps = run_at (run_within k n) k found ps

-- what a run of elements is
unfoldable pub run : Facts → List Part → Option Fault → Outcome
run k ps found = run_within k (length ps) found ps

-- ---- juxtapositions

-- what comes of a grouping, and the first broken rule so far
pub record Grown : Type 0 where
  pub part : Part
  pub found : Option Fault

abbrev pub an_unknown : Place → Option Fault → Grown
an_unknown place found = record { part = made place a_meaning.Unknown; found = found }

abbrev pub grown : Place → Made → Option Fault → Grown
grown place (a_made.Gives t) found = record { part = made place (a_meaning.Value t); found = found }
grown place (a_made.Breaks x) found = an_unknown place (breaks x.rule x.place found)
grown place a_made.Stops found = an_unknown place found

abbrev pub barred_found : Part → Meaning → Option Fault → Option Fault
barred_found p (a_meaning.Value t) found =
    cond (is_nothing (type_of t)) (breaks MISMATCH p.place found) found
barred_found p _ found = found

-- a part of a grouping that is `Nothing` breaks 603
abbrev pub as_grown : Grown → Grown
as_grown g = record { part = as_part g.part; found = barred_found g.part g.part.meaning g.found }

-- what a grouping answers: with the first broken rule so far what comes of it
abbrev pub Grows : Type 0
Grows = Option Fault → Grown

abbrev pub grows_by : (Part → Part → Made) → Grown → Grown → Grown
grows_by way p q = grown p.part.place (way p.part q.part) q.found

abbrev pub grows_two : (Part → Part → Made) → Grows → Grows → Grows
grows_two way a b found = let p = as_grown (a found) in grows_by way p (as_grown (b p.found))

abbrev pub grows_one : Option Part → Grows
grows_one (Some p) found = record { part = p; found = found }
grows_one None found = an_unknown (record { line = 0; column = 0 }) found

abbrev pub grows_at : Facts → List Part → Grouping-F Grows → Grows
grows_at k ps (Grouping-F.One i) = grows_one (slice_get ps i)
grows_at k ps (Grouping-F.Apply a b) = grows_two (applied k) a b
grows_at k ps (Grouping-F.Pair a b) = grows_two (joined k) a b

unfoldable pub grows : Facts → List Part → Grouping → Grows
grows k ps = fold-Grouping Grows (grows_at k ps)

abbrev pub grown_outcome : Grown → Outcome
grown_outcome g = record { seen = g.part.meaning; found = g.found }

abbrev pub grouped_by : Facts → List Part → Result Grouping CheckFault → Option Fault → Outcome
grouped_by k ps (Ok g) found = grown_outcome (grows k ps g found)
grouped_by k ps (Err (a_fault.Refused rule at)) found = refused rule at found
grouped_by k ps (Err a_fault.Memory) found = untyped found

-- what a juxtaposition of elements is
unfoldable pub beside : Facts → List Part → Option Fault → Outcome
beside k ps found = grouped_by k ps (grouping_of (elements ps)) found
