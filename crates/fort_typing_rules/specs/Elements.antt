-- The chapter "Typing", runs and juxtapositions: what comes of two elements, the rewriting of a
-- run, and the grouping of a juxtaposition. Which elements go together is told by the chapter
-- "Juxtaposition"; the code asks it again after each rewriting.
use Rattle.std.specs.Prelude.{◌≡◌, ℕ, suc, Bool, true, false, cond, not, ◌&&◌, ◌||◌, List, [], ◌∷◌, ◌++◌, length, map, codes, slice_get, Some, None, Ok, Err}
use Rattle.std.specs.Str.{bytes_eq}
use Rattle.fort_base.specs.declared.ids.NameId.{NameId}
use Rattle.fort_base.specs.declared.ids.SetId.{SetId}
use Rattle.fort_base.specs.declared.refusal.CheckFault.TheVariants as a_fault
use Rattle.fort_base.specs.declared.refusal.Place.{Place}
use Rattle.fort_base.specs.declared.refusal.Rule.{Rule}
use Rattle.fort_base.specs.declared.rules.TheConstants.{UNKNOWN_NAME, MISMATCH}
use Rattle.fort_base.specs.declared.ty.Ty.{Ty, out-Ty}
use Rattle.fort_base.specs.declared.ty.Ty.TheOpen.{Ty-F}
use Rattle.fort_ops.specs.declared.op.Op.TheVariants as an_op
use Rattle.fort_types_sets.specs.declared.field.Field.{Field}
use Rattle.fort_juxt.specs.declared.elements.Element.{Element}
use Rattle.fort_juxt.specs.declared.elements.Grouping.{Grouping, out-Grouping}
use Rattle.fort_juxt.specs.declared.elements.Grouping.TheOpen.{Grouping-F}
use Rattle.fort_juxt.specs.declared.elements.Tight.TheVariants as a_rewriting
use Rattle.fort_juxt.specs.Tight.{Rewrites}
use Rattle.fort_juxt.specs.Loose.{Groups}
use Rattle.fort_form_typed.specs.declared.typed_form.Chosen.{Chosen}
use Rattle.fort_form_typed.specs.declared.typed_form.TypedForm.{TypedForm, out-TypedForm}
use Rattle.fort_form_typed.specs.declared.typed_form.TypedForm.TheVariants as a_typed
use Rattle.fort_form_typed.specs.declared.typed_form.TypedForm.TheOpen.{TypedForm-F}
use Rattle.fort_typing_known.specs.declared.fault.Fault.{Fault}
use Rattle.fort_typing_known.specs.Known.{Facts, Knows}
use Rattle.fort_typing_known.specs.Names.{field_at}
use Rattle.fort_typing_known.specs.Sets.{spelled, function_set, method_set, operator_set, is_method}
use Rattle.fort_typing_rules.specs.declared.part.Part.{Part}
use Rattle.fort_typing_rules.specs.declared.part.Meaning.{Meaning}
use Rattle.fort_typing_rules.specs.declared.part.Meaning.TheVariants as a_meaning
use Rattle.fort_typing_rules.specs.Types.{type_of, types_of, is_nothing, array_at, zz32, IsBelow, fault}
use Rattle.fort_typing_rules.specs.Calls.{Calling, CallBreaks}

-- ---- elements

abbrev pub is_arrow_at : Ty-F Ty → Bool
is_arrow_at (Ty-F.Arrow domain result) = true
is_arrow_at _ = false

-- it is the name of a function set, or has an arrow type
abbrev pub is_function_by : Meaning → Bool
is_function_by (a_meaning.Functions name) = true
is_function_by (a_meaning.Value t) = is_arrow_at (out-Ty (type_of t))
is_function_by _ = false

abbrev pub is_name_by : Meaning → Bool
is_name_by (a_meaning.Functions name) = true
is_name_by _ = false

abbrev pub is_unknown_by : Meaning → Bool
is_unknown_by a_meaning.Unknown = true
is_unknown_by _ = false

-- an element has no type
abbrev pub is_unknown : Part → Bool
is_unknown p = is_unknown_by p.meaning

-- what grouping asks about an element; one without a type counts as no function
abbrev pub element : Part → Element
element p =
    record {
      place = p.place;
      function = is_function_by p.meaning;
      named = is_name_by p.meaning;
      parens = p.parens;
      postfix = p.postfix;
    }

abbrev pub elements : List Part → List Element
elements ps = map element ps

-- an element that comes of others
abbrev pub made : Place → Meaning → Part
made place meaning =
    record { place = place; parens = false; listed = false; postfix = false; meaning = meaning }

abbrev pub parts_at : TypedForm → TypedForm-F TypedForm → List TypedForm
parts_at t (TypedForm-F.Tuple ty ts) = ts
parts_at t _ = t ∷ []

-- The arguments of a function set: the parts of a list in parentheses, and else one.
abbrev pub arguments : Part → TypedForm → List TypedForm
arguments p t = cond p.listed (parts_at t (out-TypedForm t)) (t ∷ [])

-- What comes of two elements: a typed form, or a broken rule.
pub data Made : Type 0 where
  gives : TypedForm → Made
  breaks : Rule → Place → Made

-- what an element is after that: without a type where a rule is broken, or where it is `Nothing`
-- and has to be an element again
abbrev pub barred : TypedForm → Meaning
barred t = cond (is_nothing (type_of t)) a_meaning.Unknown (a_meaning.Value t)

-- ---- two elements, where C is what calls have

-- a set, and which arguments are widened
abbrev pub chosen : SetId → List Bool → Chosen
chosen set widened = record { set = set; widened = widened }

-- A function is applied to an argument.
pub data Applies (k : Knows) (C : Calling) (f a : Part) (m : Made) : Type 0 where
  -- a function set's name: a call
  call : (name : NameId) (u : TypedForm) (result : Ty) (widened : List Bool)
      → f.meaning ≡ a_meaning.Functions name → a.meaning ≡ a_meaning.Value u
      → C (function_set k.facts name (length (arguments a u))) (types_of (arguments a u)) result
      widened
      → m ≡ gives
      (a_typed.Call result (chosen (function_set k.facts name (length (arguments a u))) widened)
      (arguments a u)) → Applies k C f a m
  no_call : (name : NameId) (u : TypedForm) (rule : Rule) → f.meaning ≡ a_meaning.Functions name
      → a.meaning ≡ a_meaning.Value u
      → CallBreaks k (function_set k.facts name (length (arguments a u))) (types_of (arguments a u))
      rule → m ≡ breaks rule f.place → Applies k C f a m
  -- a function value: the argument is below its domain, else 603 at it
  value : (g u : TypedForm) (domain result : Ty) → f.meaning ≡ a_meaning.Value g
      → out-Ty (type_of g) ≡ Ty-F.Arrow domain result → a.meaning ≡ a_meaning.Value u
      → IsBelow k (type_of u) domain → m ≡ gives (a_typed.Apply result g u) → Applies k C f a m
  no_argument : (g u : TypedForm) (domain result : Ty) → f.meaning ≡ a_meaning.Value g
      → out-Ty (type_of g) ≡ Ty-F.Arrow domain result → a.meaning ≡ a_meaning.Value u
      → (IsBelow k (type_of u) domain → ⊥) → m ≡ breaks MISMATCH a.place → Applies k C f a m

-- Two elements are joined by the operator `juxtaposition`.
pub data Joins (k : Knows) (C : Calling) (a b : Part) (m : Made) : Type 0 where
  joining : (u v : TypedForm) (result : Ty) (widened : List Bool) → a.meaning ≡ a_meaning.Value u
      → b.meaning ≡ a_meaning.Value v
      → C (operator_set k.facts an_op.Juxt 2) (type_of u ∷ type_of v ∷ []) result widened
      → m ≡ gives
      (a_typed.Operation result (chosen (operator_set k.facts an_op.Juxt 2) widened) (u ∷ v ∷ []))
      → Joins k C a b m
  no_joining : (u v : TypedForm) (rule : Rule) → a.meaning ≡ a_meaning.Value u
      → b.meaning ≡ a_meaning.Value v
      → CallBreaks k (operator_set k.facts an_op.Juxt 2) (type_of u ∷ type_of v ∷ []) rule
      → m ≡ breaks rule a.place → Joins k C a b m

-- `a.size()` on an array
abbrev pub is_size_of : Facts → Ty-F Ty → NameId → List TypedForm → Bool
is_size_of k shape name [] = array_at shape && bytes_eq (spelled k name) (codes "size")
is_size_of k shape name (t ∷ ts) = false

abbrev pub is_size : Facts → TypedForm → NameId → List TypedForm → Bool
is_size k t name ts = is_size_of k (out-Ty (type_of t)) name ts

-- A postfix stands behind an element.
pub data Follows (k : Knows) (C : Calling) (a p : Part) (m : Made) : Type 0 where
  -- `a[i]` of an array, else 603 at a
  index : (u i : TypedForm) (e : Ty) → a.meaning ≡ a_meaning.Value u → p.meaning ≡ a_meaning.Index i
      → out-Ty (type_of u) ≡ Ty-F.Array e
      → m ≡ gives (a_typed.ReadElement e u i) → Follows k C a p m
  no_array : (u i : TypedForm) → a.meaning ≡ a_meaning.Value u → p.meaning ≡ a_meaning.Index i
      → array_at (out-Ty (type_of u)) ≡ false
      → m ≡ breaks MISMATCH a.place → Follows k C a p m
  -- `a^e` is a call
  power : (u e : TypedForm) (result : Ty) (widened : List Bool) → a.meaning ≡ a_meaning.Value u
      → p.meaning ≡ a_meaning.Exponent e
      → C (operator_set k.facts an_op.Power 2) (type_of u ∷ type_of e ∷ []) result widened
      → m ≡ gives
      (a_typed.Operation result (chosen (operator_set k.facts an_op.Power 2) widened) (u ∷ e ∷ []))
      → Follows k C a p m
  no_power : (u e : TypedForm) (rule : Rule) → a.meaning ≡ a_meaning.Value u
      → p.meaning ≡ a_meaning.Exponent e
      → CallBreaks k (operator_set k.facts an_op.Power 2) (type_of u ∷ type_of e ∷ []) rule
      → m ≡ breaks rule a.place → Follows k C a p m
  -- `o.f`: the type has the field, else 601 at its name
  field : (u : TypedForm) (at : Place) (name : NameId) (f : Field) → a.meaning ≡ a_meaning.Value u
      → p.meaning ≡ a_meaning.Field at name
      → field_at k.facts (out-Ty (type_of u)) name ≡ Some f
      → m ≡ gives (a_typed.ReadField f.ty u name) → Follows k C a p m
  no_field : (u : TypedForm) (at : Place) (name : NameId) → a.meaning ≡ a_meaning.Value u
      → p.meaning ≡ a_meaning.Field at name
      → field_at k.facts (out-Ty (type_of u)) name ≡ None → m ≡ breaks UNKNOWN_NAME at
      → Follows k C a p m
  -- `a.size()` on an array
  size : (u : TypedForm) (at : Place) (name : NameId) (ts : List TypedForm)
      → a.meaning ≡ a_meaning.Value u → p.meaning ≡ a_meaning.Method at name ts
      → is_size k.facts u name ts ≡ true → m ≡ gives (a_typed.Size zz32 u) → Follows k C a p m
  -- `o.m(e, ..)` is a call with o first; no dotted method of the name: 601 at it
  method : (u : TypedForm) (at : Place) (name : NameId) (ts : List TypedForm) (result : Ty)
      (widened : List Bool) → a.meaning ≡ a_meaning.Value u
      → p.meaning ≡ a_meaning.Method at name ts → is_size k.facts u name ts ≡ false
      → is_method k.facts name ≡ true
      → C (method_set k.facts name (suc (length ts))) (type_of u ∷ types_of ts) result widened
      → m ≡ gives
      (a_typed.Call result (chosen (method_set k.facts name (suc (length ts))) widened) (u ∷ ts))
      → Follows k C a p m
  no_method : (u : TypedForm) (at : Place) (name : NameId) (ts : List TypedForm)
      → a.meaning ≡ a_meaning.Value u
      → p.meaning ≡ a_meaning.Method at name ts → is_size k.facts u name ts ≡ false
      → is_method k.facts name ≡ false → m ≡ breaks UNKNOWN_NAME at → Follows k C a p m
  no_method_call : (u : TypedForm) (at : Place) (name : NameId) (ts : List TypedForm) (rule : Rule)
      → a.meaning ≡ a_meaning.Value u
      → p.meaning ≡ a_meaning.Method at name ts → is_size k.facts u name ts ≡ false
      → is_method k.facts name ≡ true
      → CallBreaks k (method_set k.facts name (suc (length ts))) (type_of u ∷ types_of ts) rule
      → m ≡ breaks rule a.place → Follows k C a p m

-- ---- runs

-- The next rewriting of a run: what comes of two elements, the first of which stands there, between
-- those before and those behind.
pub data Rewritten (k : Knows) (C : Calling) (ps before : List Part) (place : Place) (m : Made)
    (after : List Part) : Type 0 where
  applied : (f a : Part) → Rewrites (elements ps) (Ok (a_rewriting.Apply (length before)))
      → ps ≡ before ++ f ∷ a ∷ after → place ≡ f.place → Applies k C f a m
      → Rewritten k C ps before place m after
  followed : (a p : Part) → Rewrites (elements ps) (Ok (a_rewriting.Postfix (suc (length before))))
      → ps ≡ before ++ a ∷ p ∷ after → place ≡ a.place → Follows k C a p m
      → Rewritten k C ps before place m after
  joined : (a b : Part) → Rewrites (elements ps) (Ok a_rewriting.Left) → before ≡ []
      → ps ≡ a ∷ b ∷ after → place ≡ a.place → Joins k C a b m
      → Rewritten k C ps before place m after

-- it is the whole of a run
abbrev pub is_whole : List Part → List Part → Bool
is_whole [] [] = true
is_whole _ _ = false

-- what an element is that came of two
abbrev pub meaning_of : Bool → Made → Meaning
meaning_of whole (gives t) = cond whole (a_meaning.Value t) (barred t)
meaning_of whole (breaks rule at) = a_meaning.Unknown

-- the run after a rewriting
abbrev pub rewritten : List Part → Place → Made → List Part → List Part
rewritten before place m after = before ++ made place (meaning_of (is_whole before after) m) ∷ after

-- what comes of two elements may be an element again: it is the whole, or isn't `Nothing`
abbrev pub not_barred : List Part → TypedForm → List Part → Bool
not_barred before u after = is_whole before after || not (is_nothing (type_of u))

-- A run becomes one typed form.
pub data Becomes (k : Knows) (C : Calling) : List Part → TypedForm → Type 0 where
  whole : {ps : List Part} {t : TypedForm} (p : Part) → ps ≡ p ∷ [] → p.meaning ≡ a_meaning.Value t
      → Becomes k C ps t
  on : {ps : List Part} {t : TypedForm} (before after : List Part) (place : Place) (u : TypedForm)
      → Rewritten k C ps before place (gives u) after → not_barred before u after ≡ true
      → Becomes k C (rewritten before place (gives u) after) t → Becomes k C ps t

-- A run breaks a rule.
pub data RunBreaks (k : Knows) (C : Calling) : List Part → Fault → Type 0 where
  -- nothing rewrites: 606 or 607
  no_rewriting : {ps : List Part} {x : Fault} (rule : Rule) (at : Place)
      → Rewrites (elements ps) (Err (a_fault.Refused rule at)) → x ≡ fault rule at
      → RunBreaks k C ps x
  -- the next rewriting breaks a rule
  this_rewriting : {ps : List Part} {x : Fault} (before after : List Part) (place at : Place)
      (rule : Rule) → Rewritten k C ps before place (breaks rule at) after → x ≡ fault rule at
      → RunBreaks k C ps x
  -- what comes of it is `Nothing`, and isn't the whole: 603
  a_nothing : {ps : List Part} {x : Fault} (before after : List Part) (place : Place)
      (u : TypedForm) → Rewritten k C ps before place (gives u) after
      → is_whole before after ≡ false
      → is_nothing (type_of u) ≡ true → x ≡ fault MISMATCH place → RunBreaks k C ps x
  -- the run after it breaks a rule
  later_rewriting : {ps : List Part} {x : Fault} (before after : List Part) (place : Place)
      (m : Made) → Rewritten k C ps before place m after
      → RunBreaks k C (rewritten before place m after) x → RunBreaks k C ps x

-- ---- juxtapositions

-- what an element is where it is a part of another one
abbrev pub barred_by : Meaning → Meaning
barred_by (a_meaning.Value t) = barred t
barred_by m = m

abbrev pub as_part : Part → Part
as_part p = record p { meaning = barred_by p.meaning }

-- what comes of a grouping of elements
pub data Grouped (k : Knows) (C : Calling) (ps : List Part) : Grouping → Part → Type 0 where
  of_one : {g : Grouping} {q : Part} (i : ℕ) → out-Grouping g ≡ Grouping-F.One i
      → slice_get ps i ≡ Some q → Grouped k C ps g q
  of_applied : {g : Grouping} {q : Part} (a b : Grouping) (p r : Part) (m : Made)
      → out-Grouping g ≡ Grouping-F.Apply a b → Grouped k C ps a p → Grouped k C ps b r
      → Applies k C (as_part p) (as_part r) m → q ≡ made p.place (meaning_of true m)
      → Grouped k C ps g q
  of_joined : {g : Grouping} {q : Part} (a b : Grouping) (p r : Part) (m : Made)
      → out-Grouping g ≡ Grouping-F.Pair a b → Grouped k C ps a p → Grouped k C ps b r
      → Joins k C (as_part p) (as_part r) m → q ≡ made p.place (meaning_of true m)
      → Grouped k C ps g q
  -- a part has no type
  of_unapplied : {g : Grouping} {q : Part} (a b : Grouping) (p r : Part)
      → out-Grouping g ≡ Grouping-F.Apply a b → Grouped k C ps a p → Grouped k C ps b r
      → is_unknown (as_part p) || is_unknown (as_part r) ≡ true → q ≡ made p.place a_meaning.Unknown
      → Grouped k C ps g q
  of_unjoined : {g : Grouping} {q : Part} (a b : Grouping) (p r : Part)
      → out-Grouping g ≡ Grouping-F.Pair a b → Grouped k C ps a p → Grouped k C ps b r
      → is_unknown (as_part p) || is_unknown (as_part r) ≡ true → q ≡ made p.place a_meaning.Unknown
      → Grouped k C ps g q

-- A part of a grouping is `Nothing`: 603 at it.
abbrev pub IsBarred : Knows → Calling → List Part → Grouping → Fault → Type 0
IsBarred k C ps g x = (q : Part) × (t : TypedForm) × Grouped k C ps g q
    × (q.meaning ≡ a_meaning.Value t) × (is_nothing (type_of t) ≡ true)
    × (x ≡ fault MISMATCH q.place)

-- A grouping breaks a rule.
pub data GroupBreaks (k : Knows) (C : Calling) (ps : List Part) : Grouping → Fault → Type 0 where
  group_application : {g : Grouping} {x : Fault} (a b : Grouping) (p r : Part) (rule : Rule)
      (at : Place) → out-Grouping g ≡ Grouping-F.Apply a b → Grouped k C ps a p → Grouped k C ps b r
      → Applies k C (as_part p) (as_part r) (breaks rule at) → x ≡ fault rule at
      → GroupBreaks k C ps g x
  group_joining : {g : Grouping} {x : Fault} (a b : Grouping) (p r : Part) (rule : Rule)
      (at : Place) → out-Grouping g ≡ Grouping-F.Pair a b → Grouped k C ps a p → Grouped k C ps b r
      → Joins k C (as_part p) (as_part r) (breaks rule at) → x ≡ fault rule at
      → GroupBreaks k C ps g x
  applied_first : {g : Grouping} {x : Fault} (a b : Grouping)
      → out-Grouping g ≡ Grouping-F.Apply a b → GroupBreaks k C ps a x → GroupBreaks k C ps g x
  applied_second : {g : Grouping} {x : Fault} (a b : Grouping)
      → out-Grouping g ≡ Grouping-F.Apply a b → GroupBreaks k C ps b x → GroupBreaks k C ps g x
  joined_first : {g : Grouping} {x : Fault} (a b : Grouping) → out-Grouping g ≡ Grouping-F.Pair a b
      → GroupBreaks k C ps a x → GroupBreaks k C ps g x
  joined_second : {g : Grouping} {x : Fault} (a b : Grouping) → out-Grouping g ≡ Grouping-F.Pair a b
      → GroupBreaks k C ps b x → GroupBreaks k C ps g x
  barred_function : {g : Grouping} {x : Fault} (a b : Grouping)
      → out-Grouping g ≡ Grouping-F.Apply a b → IsBarred k C ps a x → GroupBreaks k C ps g x
  barred_argument : {g : Grouping} {x : Fault} (a b : Grouping)
      → out-Grouping g ≡ Grouping-F.Apply a b → IsBarred k C ps b x → GroupBreaks k C ps g x
  barred_left : {g : Grouping} {x : Fault} (a b : Grouping) → out-Grouping g ≡ Grouping-F.Pair a b
      → IsBarred k C ps a x → GroupBreaks k C ps g x
  barred_right : {g : Grouping} {x : Fault} (a b : Grouping) → out-Grouping g ≡ Grouping-F.Pair a b
      → IsBarred k C ps b x → GroupBreaks k C ps g x

-- A juxtaposition becomes one typed form.
pub data Stands (k : Knows) (C : Calling) (ps : List Part) (t : TypedForm) : Type 0 where
  grouped : (g : Grouping) (q : Part) → Groups (elements ps) (Ok g) → Grouped k C ps g q
      → q.meaning ≡ a_meaning.Value t → Stands k C ps t

-- A juxtaposition breaks a rule.
pub data BesideBreaks (k : Knows) (C : Calling) (ps : List Part) (x : Fault) : Type 0 where
  -- a function set's name ends its chunk: 606
  name_alone : (rule : Rule) (at : Place) → Groups (elements ps) (Err (a_fault.Refused rule at))
      → x ≡ fault rule at → BesideBreaks k C ps x
  in_group : (g : Grouping) → Groups (elements ps) (Ok g) → GroupBreaks k C ps g x
      → BesideBreaks k C ps x
