-- The chapter "Typing": a form has become this typed form in these bindings, with one rule for each
-- row there. The code walks a form once, with the forms that are still to be asked on a stack.
use Rattle.std.specs.Prelude.{◌≡◌, ◌⊎◌, ℕ, Bool, true, false, cond, ◌&&◌, List, [], ◌∷◌, ◌++◌, length, map, slice_get, Option, Some, None}
use Rattle.fort_base.specs.declared.ids.NameId.{NameId}
use Rattle.fort_base.specs.declared.ids.TypeId.{TypeId}
use Rattle.fort_base.specs.declared.refusal.Place.{Place}
use Rattle.fort_base.specs.declared.ty.Ty.{Ty, out-Ty}
use Rattle.fort_base.specs.declared.ty.Ty.TheVariants as a_type
use Rattle.fort_base.specs.declared.ty.Ty.TheOpen.{Ty-F}
use Rattle.fort_ops.specs.declared.op.Op.{Op}
use Rattle.fort_ops.specs.declared.op.Op.TheVariants as an_op
use Rattle.fort_types_sets.specs.declared.field.Field.{Field}
use Rattle.fort_scope.specs.declared.binding.Binding.{Binding}
use Rattle.fort_form.specs.declared.form.Form.{Form, out-Form}
use Rattle.fort_form.specs.declared.form.Form.TheOpen.{Form-F, Item-F}
use Rattle.fort_form.specs.declared.form.Item.{Item, out-Item}
use Rattle.fort_form.specs.declared.form.Branch.{Branch, out-Branch}
use Rattle.fort_form.specs.declared.form.TypeBranch.{TypeBranch, out-TypeBranch}
use Rattle.fort_form.specs.declared.form.Generator.{Generator, out-Generator}
use Rattle.fort_form.specs.declared.form.Parameter.{Parameter}
use Rattle.fort_form.specs.declared.form.Reduction.{Reduction}
use Rattle.fort_form.specs.declared.form.Reduction.TheVariants as a_reduction
use Rattle.fort_form.specs.declared.form.Update.{Update}
use Rattle.fort_form.specs.declared.form.Update.TheVariants as an_update
use Rattle.fort_form_typed.specs.declared.typed_form.Chosen.{Chosen}
use Rattle.fort_form_typed.specs.declared.typed_form.TypedForm.{TypedForm, out-TypedForm}
use Rattle.fort_form_typed.specs.declared.typed_form.TypedForm.TheVariants as a_typed
use Rattle.fort_form_typed.specs.declared.typed_form.TypedForm.TheOpen.{TypedForm-F}
use Rattle.fort_typing_known.specs.Known.{Facts, Knows}
use Rattle.fort_typing_known.specs.Names.{a_binding, a_field, a_variable, a_single, functions, standing, is_visible, field_at}
use Rattle.fort_typing_known.specs.Sets.{operator_set}
use Rattle.fort_typing_rules.specs.declared.part.Part.{Part}
use Rattle.fort_typing_rules.specs.declared.part.Meaning.{Meaning}
use Rattle.fort_typing_rules.specs.declared.part.Meaning.TheVariants as a_meaning
use Rattle.fort_typing_rules.specs.Types.{exception, zz32, zz64, string, boolean, unit, number_type, IsBelow, is_nothing, given, IsWidest, tuple_of, parameter_type, type_of, types_of, place_of}
use Rattle.fort_typing_rules.specs.Calls.{Calling}
use Rattle.fort_typing_rules.specs.Elements.{chosen, Becomes, Stands}

-- ---- what is wanted of a part

-- What is wanted of a part.
pub data Want : Type 0 where
  -- any value
  a_value : Want
  -- a value that isn't `Nothing`
  an_operand : Want
  -- a value of a type below this one
  below : Ty → Want
  -- a `Boolean`
  a_truth : Want
  -- a ZZ32 or a ZZ64
  a_number : Want
  -- a value of a type below `Exception`
  an_exception : Want

-- A type is as wanted.
abbrev pub Suits : Knows → Want → Ty → Type 0
Suits k a_value t = Unit {0}
Suits k an_operand t = is_nothing t ≡ false
Suits k (below want) t = IsBelow k t want
Suits k a_truth t = t ≡ boolean
Suits k a_number t = (t ≡ zz32) ⊎ (t ≡ zz64)
Suits k an_exception t = IsBelow k t exception

-- ---- bindings

-- an immutable one
abbrev pub binding : Place → NameId → Ty → Binding
binding place name ty = record { name = name; place = place; ty = ty; mutable = false }

abbrev pub parameter_binding : Parameter → Binding
parameter_binding p = binding p.place p.name p.ty

-- Names are bound one after another, none of which is visible then.
pub data Binds (k : Knows) : List Binding → List Binding → List Binding → Type 0 where
  none : {bs new all : List Binding} → new ≡ [] → all ≡ bs → Binds k bs new all
  next : {bs new all : List Binding} (b : Binding) (more : List Binding) → new ≡ b ∷ more
      → is_visible k.facts bs b.name ≡ false
      → Binds k (bs ++ b ∷ []) more all → Binds k bs new all

-- names with the parts of a tuple as their types, where there are as many
abbrev pub with_types : List (Place × NameId) → List Ty → Option (List Binding)
with_types [] [] = Some []
with_types ((place, name) ∷ names) (t ∷ ts) =
    elim (with_types names ts) [ Some bs ↦ Some (binding place name t ∷ bs) | None ↦ None ]
with_types _ _ = None

abbrev pub named_parts_at : List (Place × NameId) → Ty-F Ty → Option (List Binding)
named_parts_at names (Ty-F.Tuple ts) = with_types names ts
named_parts_at names _ = None

-- the bindings of a local tuple's names, where its type is a tuple of as many parts
abbrev pub named_parts : List (Place × NameId) → Ty → Option (List Binding)
named_parts names ty = named_parts_at names (out-Ty ty)

abbrev pub name_and_type : Binding → NameId × Ty
name_and_type b = (b.name, b.ty)

-- the bindings of a name in a clause
abbrev pub with_clause : List Binding → Option (Place × NameId) → Ty → List Binding
with_clause bs None ty = bs
with_clause bs (Some (place, name)) ty = bs ++ binding place name ty ∷ []

-- a name, if there is one, can be bound
abbrev pub is_fresh : Knows → List Binding → Option (Place × NameId) → Bool
is_fresh k bs None = true
is_fresh k bs (Some (place, name)) = cond (is_visible k.facts bs name) false true

abbrev pub bound_name : Option (Place × NameId) → Option NameId
bound_name None = None
bound_name (Some (place, name)) = Some name

-- ---- parts of forms

abbrev pub test_of : Branch → Form
test_of b = (out-Branch b).test

abbrev pub value_of : Branch → Form
value_of b = (out-Branch b).value

abbrev pub clause_type : TypeBranch → Ty
clause_type b = (out-TypeBranch b).ty

abbrev pub generator_name : Generator → NameId × Bool
generator_name g = ((out-Generator g).name, (out-Generator g).sequential)

-- an atom in parentheses
abbrev pub parens_at : {A B C D E : Type 0} → Form-F A B C D E → Bool
parens_at (Form-F.Parens p e) = true
parens_at (Form-F.Tuple p es) = true
parens_at _ = false

-- a list in parentheses of none, or of two or more
abbrev pub listed_at : {A B C D E : Type 0} → Form-F A B C D E → Bool
listed_at (Form-F.Tuple p es) = true
listed_at _ = false

abbrev pub postfix_at : {A B C D E : Type 0} → Form-F A B C D E → Bool
postfix_at (Form-F.Subscript p e) = true
postfix_at (Form-F.Power p e) = true
postfix_at (Form-F.Field p at name) = true
postfix_at (Form-F.Method p at name es) = true
postfix_at _ = false

-- an element of this meaning
abbrev pub part : Form → Meaning → Part
part e meaning =
    record {
      place = place_of e;
      parens = parens_at (out-Form e);
      listed = listed_at (out-Form e);
      postfix = postfix_at (out-Form e);
      meaning = meaning;
    }

-- the operator that a reduction joins by, and what it wants
abbrev pub reduction_operator : Reduction → Op
reduction_operator a_reduction.Sum = an_op.Plus
reduction_operator a_reduction.Product = an_op.Times
reduction_operator a_reduction.Maximum = an_op.Max
reduction_operator a_reduction.Minimum = an_op.Min
reduction_operator a_reduction.Conjunction = an_op.And
reduction_operator a_reduction.Disjunction = an_op.Or

abbrev pub reduction_want : Reduction → Want
reduction_want a_reduction.Conjunction = a_truth
reduction_want a_reduction.Disjunction = a_truth
reduction_want _ = a_number

-- the operator of an assignment, where it has one
abbrev pub update_operator : Update → Option Op
update_operator an_update.Becomes = None
update_operator an_update.Adds = Some an_op.Plus
update_operator an_update.Subtracts = Some an_op.Minus

-- a form that may be assigned to: a name, or a run
abbrev pub target_at : {A B C D E : Type 0} → Form-F A B C D E → Bool
target_at (Form-F.Name p name) = true
target_at (Form-F.Run p es) = true
target_at _ = false

abbrev pub is_mutable : Option Field → Bool
is_mutable (Some f) = f.mutable
is_mutable None = false

-- a variable, a field or an element that can be assigned to
abbrev pub takes_at : Facts → TypedForm-F TypedForm → Bool
takes_at k (TypedForm-F.Local ty name mutable) = mutable
takes_at k (TypedForm-F.Top ty n) = is_mutable (slice_get k.members.variables n)
takes_at k (TypedForm-F.ReadField ty o name) = is_mutable (field_at k (out-Ty (type_of o)) name)
takes_at k (TypedForm-F.ReadElement ty a i) = true
takes_at k _ = false

-- A form that has become this typed form can be assigned to.
unfoldable pub is_target : Knows → Form → TypedForm → Bool
is_target k e t = target_at (out-Form e) && takes_at k.facts (out-TypedForm t)

-- A form is the name of a function set.
pub data Names (k : Knows) (bs : List Binding) (e : Form) (name : NameId) : Type 0 where
  names : (p : Place) → out-Form e ≡ Form-F.Name p name → standing k.facts bs name ≡ functions
      → Names k bs e name

-- The comparisons of a chain of typed sides: each is a call that is below `Boolean`.
pub data Compares (k : Knows) (C : Calling) : List Op → List TypedForm → List Chosen → Type 0 where
  no_more : {ops : List Op} {ts : List TypedForm} {cs : List Chosen} (a : TypedForm) → ops ≡ []
      → ts ≡ a ∷ [] → cs ≡ [] → Compares k C ops ts cs
  more : {ops : List Op} {ts : List TypedForm} {cs : List Chosen} (op : Op) (others : List Op)
      (a b : TypedForm) (us : List TypedForm) (result : Ty) (widened : List Bool) (ds : List Chosen)
      → ops ≡ op ∷ others → ts ≡ a ∷ b ∷ us
      → C (operator_set k.facts op 2) (type_of a ∷ type_of b ∷ []) result widened
      → IsBelow k result boolean
      → Compares k C others (b ∷ us) ds → cs ≡ chosen (operator_set k.facts op 2) widened ∷ ds
      → Compares k C ops ts cs

-- the type behind `else`, if there is one
abbrev pub else_types : Option TypedForm → List Ty
else_types None = []
else_types (Some t) = type_of t ∷ []

-- The types of clauses are below `Exception`.
abbrev pub AreExceptions : Knows → List TypeBranch → Type 0
AreExceptions k [] = Unit {0}
AreExceptions k (b ∷ bs) = IsBelow k (clause_type b) exception × AreExceptions k bs

-- ---- the types of expressions, where C is what calls have

mutual
  -- In these bindings a form becomes this typed form.
  pub data Has (k : Knows) (C : Calling) : List Binding → Form → TypedForm → Type 0 where
    number : {bs : List Binding} {e : Form} {t : TypedForm} (p : Place) (n : ℕ)
        → out-Form e ≡ Form-F.Number p n → t ≡ a_typed.Number (number_type n) n → Has k C bs e t
    words : {bs : List Binding} {e : Form} {t : TypedForm} (p : Place) (n : ℕ)
        → out-Form e ≡ Form-F.Text p n → t ≡ a_typed.Text string n → Has k C bs e t
    truth : {bs : List Binding} {e : Form} {t : TypedForm} (p : Place) (b : Bool)
        → out-Form e ≡ Form-F.Truth p b → t ≡ a_typed.Truth boolean b → Has k C bs e t
    receiver : {bs : List Binding} {e : Form} {t : TypedForm} (p : Place) (o : TypeId)
        → out-Form e ≡ Form-F.Receiver p → k.facts.owner ≡ Some o
        → t ≡ a_typed.Receiver (a_type.Named o) → Has k C bs e t
    local : {bs : List Binding} {e : Form} {t : TypedForm} (p : Place) (name : NameId) (b : Binding)
        → out-Form e ≡ Form-F.Name p name
        → standing k.facts bs name ≡ a_binding b → t ≡ a_typed.Local b.ty name b.mutable
        → Has k C bs e t
    -- a field of the enclosing type: `self.name`
    own : {bs : List Binding} {e : Form} {t : TypedForm} (p : Place) (name : NameId) (o : TypeId)
        (f : Field) → out-Form e ≡ Form-F.Name p name
        → standing k.facts bs name ≡ a_field o f
        → t ≡ a_typed.ReadField f.ty (a_typed.Receiver (a_type.Named o)) name → Has k C bs e t
    top : {bs : List Binding} {e : Form} {t : TypedForm} (p : Place) (name : NameId) (n : ℕ)
        (v : Field) → out-Form e ≡ Form-F.Name p name
        → standing k.facts bs name ≡ a_variable n v → t ≡ a_typed.Top v.ty n → Has k C bs e t
    single : {bs : List Binding} {e : Form} {t : TypedForm} (p : Place) (name : NameId) (o : TypeId)
        → out-Form e ≡ Form-F.Name p name
        → standing k.facts bs name ≡ a_single o → t ≡ a_typed.Single (a_type.Named o) o
        → Has k C bs e t
    parens : {bs : List Binding} {e : Form} {t : TypedForm} (p : Place) (d : Form)
        → out-Form e ≡ Form-F.Parens p d → HasAs k C bs a_value d t → Has k C bs e t
    tuple : {bs : List Binding} {e : Form} {t : TypedForm} (p : Place) (es : List Form)
        (ts : List TypedForm) → out-Form e ≡ Form-F.Tuple p es
        → HasEach k C bs an_operand es ts → t ≡ a_typed.Tuple (a_type.Tuple (types_of ts)) ts
        → Has k C bs e t
    -- an operator is a call of its set
    operator : {bs : List Binding} {e : Form} {t : TypedForm} (p : Place) (op : Op) (es : List Form)
        (ts : List TypedForm) (result : Ty) (widened : List Bool)
        → out-Form e ≡ Form-F.Operator p op es → HasEach k C bs an_operand es ts
        → C (operator_set k.facts op (length ts)) (types_of ts) result widened
        → t ≡ a_typed.Operation result (chosen (operator_set k.facts op (length ts)) widened) ts
        → Has k C bs e t
    chain : {bs : List Binding} {e : Form} {t : TypedForm} (p : Place) (ops : List Op)
        (es : List Form) (ts : List TypedForm) (cs : List Chosen)
        → out-Form e ≡ Form-F.Chain p ops es → HasEach k C bs an_operand es ts
        → Compares k C ops ts cs
        → t ≡ a_typed.Chain boolean (operator_set k.facts an_op.And 2) cs ts → Has k C bs e t
    beside : {bs : List Binding} {e : Form} {t : TypedForm} (p : Place) (es : List Form)
        (ps : List Part) → out-Form e ≡ Form-F.Beside p es
        → HasParts k C bs es ps → Stands k C ps t → Has k C bs e t
    run : {bs : List Binding} {e : Form} {t : TypedForm} (p : Place) (es : List Form)
        (ps : List Part) → out-Form e ≡ Form-F.Run p es
        → HasParts k C bs es ps → Becomes k C ps t → Has k C bs e t
    fill : {bs : List Binding} {e : Form} {t : TypedForm} (p : Place) (ty : Ty) (n v : Form)
        (u w : TypedForm) → out-Form e ≡ Form-F.Fill p ty n v
        → HasAs k C bs (below zz32) n u → HasAs k C bs (below ty) v w
        → t ≡ a_typed.Fill (a_type.Array ty) ty u w → Has k C bs e t
    block : {bs : List Binding} {e : Form} {t : TypedForm} (p : Place) (is : List Item)
        (ts : List TypedForm) (ty : Ty) → out-Form e ≡ Form-F.Block p is
        → HasItems k C bs is ts ty → t ≡ a_typed.Block ty ts → Has k C bs e t
    do_one : {bs : List Binding} {e : Form} {t : TypedForm} (p : Place) (b : Form)
        → out-Form e ≡ Form-F.Do p (b ∷ []) → HasAs k C bs a_value b t → Has k C bs e t
    do_also : {bs : List Binding} {e : Form} {t : TypedForm} (p : Place) (a b : Form)
        (others : List Form) (ts : List TypedForm) → out-Form e ≡ Form-F.Do p (a ∷ b ∷ others)
        → HasEach k C bs (below unit) (a ∷ b ∷ others) ts → t ≡ a_typed.Also unit ts
        → Has k C bs e t
    if_alone : {bs : List Binding} {e : Form} {t : TypedForm} (p : Place) (branches : List Branch)
        (tests values : List TypedForm) → out-Form e ≡ Form-F.If p branches None
        → HasEach k C bs a_truth (map test_of branches) tests
        → HasEach k C bs (below unit) (map value_of branches) values
        → t ≡ a_typed.If unit tests values None → Has k C bs e t
    if_else : {bs : List Binding} {e : Form} {t : TypedForm} (p : Place) (branches : List Branch)
        (d : Form) (tests values : List TypedForm) (u : TypedForm) (ty : Ty)
        → out-Form e ≡ Form-F.If p branches (Some d)
        → HasEach k C bs a_truth (map test_of branches) tests
        → HasEach k C bs a_value (map value_of branches) values
        → HasAs k C bs a_value d u → IsWidest k (types_of values ++ type_of u ∷ []) ty
        → t ≡ a_typed.If ty tests values (Some u) → Has k C bs e t
    while_do : {bs : List Binding} {e : Form} {t : TypedForm} (p : Place) (c b : Form)
        (u v : TypedForm) → out-Form e ≡ Form-F.While p c b
        → HasAs k C bs a_truth c u → HasAs k C bs (below unit) b v → t ≡ a_typed.While unit u v
        → Has k C bs e t
    for_do : {bs : List Binding} {e : Form} {t : TypedForm} (p : Place) (gs : List Generator)
        (b : Form) (inner : List Binding) (us : List TypedForm) (v : TypedForm)
        → out-Form e ≡ Form-F.For p gs b → HasSources k C bs gs inner us
        → HasAs k C inner (below unit) b v
        → t ≡ a_typed.For unit (map generator_name gs) us v → Has k C bs e t
    case : {bs : List Binding} {e : Form} {t : TypedForm} (p : Place) (s : Form)
        (branches : List Branch) (other : Option Form) (u : TypedForm) (cs : List Chosen)
        (tests values : List TypedForm) (w : Option TypedForm) (ty : Ty)
        → out-Form e ≡ Form-F.Case p s branches other → HasAs k C bs an_operand s u
        → HasClauses k C bs u branches cs tests values → HasElse k C bs other w
        → IsWidest k (types_of values ++ else_types w) ty
        → t ≡ a_typed.Case ty u cs tests values w → Has k C bs e t
    typecase : {bs : List Binding} {e : Form} {t : TypedForm} (p at : Place) (name : NameId)
        (s : Form) (branches : List TypeBranch) (other : Option Form) (u : TypedForm)
        (values : List TypedForm) (w : Option TypedForm) (ty : Ty)
        → out-Form e ≡ Form-F.Typecase p at name s branches other
        → is_visible k.facts bs name ≡ false
        → HasAs k C bs a_value s u → HasCases k C bs (Some (at, name)) branches values
        → HasElse k C (with_clause bs (Some (at, name)) (type_of u)) other w
        → IsWidest k (types_of values ++ else_types w) ty
        → t ≡ a_typed.Typecase ty name u (map clause_type branches) values w → Has k C bs e t
    try_catch : {bs : List Binding} {e : Form} {t : TypedForm} (p : Place) (b : Form)
        (name : Option (Place × NameId)) (branches : List TypeBranch) (last : Option Form)
        (u : TypedForm) (values : List TypedForm) (w : Option TypedForm) (ty : Ty)
        → out-Form e ≡ Form-F.Try p b name branches last → HasAs k C bs a_value b u
        → is_fresh k bs name ≡ true → AreExceptions k branches
        → HasCases k C bs name branches values → HasFinally k C bs last w
        → IsWidest k (type_of u ∷ types_of values) ty
        → t ≡ a_typed.Try ty u (bound_name name) (map clause_type branches) values w
        → Has k C bs e t
    atomic : {bs : List Binding} {e : Form} {t : TypedForm} (p : Place) (d : Form) (u : TypedForm)
        → out-Form e ≡ Form-F.Atomic p d → HasAs k C bs a_value d u
        → t ≡ a_typed.Atomic (type_of u) u → Has k C bs e t
    tryatomic : {bs : List Binding} {e : Form} {t : TypedForm} (p : Place) (d : Form)
        (u : TypedForm) → out-Form e ≡ Form-F.Tryatomic p d → HasAs k C bs a_value d u
        → t ≡ a_typed.Tryatomic (type_of u) u → Has k C bs e t
    throw : {bs : List Binding} {e : Form} {t : TypedForm} (p : Place) (d : Form) (u : TypedForm)
        → out-Form e ≡ Form-F.Throw p d → HasAs k C bs an_exception d u
        → t ≡ a_typed.Throw a_type.Nothing u → Has k C bs e t
    function : {bs : List Binding} {e : Form} {t : TypedForm} (p : Place) (ps : List Parameter)
        (d : Form) (inner : List Binding) (u : TypedForm) → out-Form e ≡ Form-F.Fn p ps d
        → Binds k bs (map parameter_binding ps) inner → HasAs k C inner a_value d u
        → t ≡ a_typed.Fn (a_type.Arrow (tuple_of (map parameter_type ps)) (type_of u)) ps u
        → Has k C bs e t
    reduce : {bs : List Binding} {e : Form} {t : TypedForm} (p : Place) (r : Reduction)
        (g : Generator) (d : Form) (inner : List Binding) (s u : TypedForm)
        → out-Form e ≡ Form-F.Reduce p r g d → HasSources k C bs (g ∷ []) inner (s ∷ [])
        → HasAs k C inner (reduction_want r) d u
        → t ≡ a_typed.Reduce (type_of u) r (operator_set k.facts (reduction_operator r) 2)
        (out-Generator g).name (out-Generator g).sequential s u → Has k C bs e t
    assign : {bs : List Binding} {e : Form} {t : TypedForm} (p : Place) (d v : Form) (sign : Update)
        (u w : TypedForm) → out-Form e ≡ Form-F.Assign p d sign v
        → update_operator sign ≡ None → Has k C bs d u → is_target k d u ≡ true
        → HasAs k C bs (below (type_of u)) v w → t ≡ a_typed.Assign unit u w → Has k C bs e t
    update : {bs : List Binding} {e : Form} {t : TypedForm} (p : Place) (d v : Form) (sign : Update)
        (op : Op) (u w : TypedForm) (result : Ty) (widened : List Bool)
        → out-Form e ≡ Form-F.Assign p d sign v → update_operator sign ≡ Some op → Has k C bs d u
        → is_target k d u ≡ true → HasAs k C bs an_operand v w
        → C (operator_set k.facts op 2) (type_of u ∷ type_of w ∷ []) result widened
        → IsBelow k result (type_of u)
        → t ≡ a_typed.Update unit u (chosen (operator_set k.facts op 2) widened) w → Has k C bs e t

  -- A part has a type, as wanted.
  pub data HasAs (k : Knows) (C : Calling) : List Binding → Want → Form → TypedForm → Type 0 where
    suits : {bs : List Binding} {want : Want} {e : Form} {t : TypedForm} → Has k C bs e t
        → Suits k want (type_of t) → HasAs k C bs want e t

  -- Each part of a list has a type, as wanted.
  pub data HasEach (k : Knows) (C : Calling) : List Binding → Want → List Form → List TypedForm
      → Type 0 where
    no_part : {bs : List Binding} {want : Want} {es : List Form} {ts : List TypedForm} → es ≡ []
        → ts ≡ [] → HasEach k C bs want es ts
    part_ : {bs : List Binding} {want : Want} {es : List Form} {ts : List TypedForm} (d : Form)
        (ds : List Form) (u : TypedForm) (us : List TypedForm) → es ≡ d ∷ ds → ts ≡ u ∷ us
        → HasAs k C bs want d u → HasEach k C bs want ds us → HasEach k C bs want es ts

  -- Items of a block, and the type of the block: that of its last item.
  pub data HasItems (k : Knows) (C : Calling) : List Binding → List Item → List TypedForm → Ty
      → Type 0 where
    no_item : {bs : List Binding} {is : List Item} {ts : List TypedForm} {ty : Ty} → is ≡ []
        → ts ≡ [] → ty ≡ unit → HasItems k C bs is ts ty
    last_item : {bs : List Binding} {is : List Item} {ts : List TypedForm} {ty : Ty} (i : Item)
        (d : Form) (u : TypedForm) → is ≡ i ∷ [] → out-Item i ≡ Item-F.Expression d
        → HasAs k C bs a_value d u → ts ≡ u ∷ [] → ty ≡ type_of u → HasItems k C bs is ts ty
    -- an expression with an item behind it is below `()`
    expression : {bs : List Binding} {is : List Item} {ts : List TypedForm} {ty : Ty} (i j : Item)
        (more : List Item) (d : Form) (u : TypedForm) (us : List TypedForm) → is ≡ i ∷ j ∷ more
        → out-Item i ≡ Item-F.Expression d → HasAs k C bs (below unit) d u
        → HasItems k C bs (j ∷ more) us ty → ts ≡ u ∷ us → HasItems k C bs is ts ty
    -- a local variable is in scope behind its initial
    declared : {bs : List Binding} {is : List Item} {ts : List TypedForm} {ty : Ty} (i : Item)
        (more : List Item) (p : Place) (name : NameId) (mutable : Bool) (want : Ty) (d : Form)
        (u : TypedForm)
        (us : List TypedForm) → is ≡ i ∷ more → out-Item i ≡ Item-F.Local p name mutable want d
        → is_visible k.facts bs name ≡ false → HasAs k C bs (below want) d u
        → HasItems k C (bs ++ record { name = name; place = p; ty = want; mutable = mutable } ∷ [])
        more us ty → ts ≡ a_typed.Bind unit name mutable want u ∷ us → HasItems k C bs is ts ty
    declared_all : {bs : List Binding} {is : List Item} {ts : List TypedForm} {ty : Ty} (i : Item)
        (more : List Item) (p : Place) (names : List (Place × NameId)) (want : Ty) (d : Form)
        (new inner : List Binding) (u : TypedForm) (us : List TypedForm) → is ≡ i ∷ more
        → out-Item i ≡ Item-F.Locals p names want d → named_parts names want ≡ Some new
        → Binds k bs new inner → HasAs k C bs (below want) d u → HasItems k C inner more us ty
        → ts ≡ a_typed.Binds unit (map name_and_type new) u ∷ us → HasItems k C bs is ts ty

  -- Generators one after another: their sources, and the bindings behind them.
  pub data HasSources (k : Knows) (C : Calling) : List Binding → List Generator → List Binding
      → List TypedForm → Type 0 where
    no_source : {bs inner : List Binding} {gs : List Generator} {us : List TypedForm} → gs ≡ []
        → inner ≡ bs → us ≡ [] → HasSources k C bs gs inner us
    source : {bs inner : List Binding} {gs : List Generator} {us : List TypedForm} (g : Generator)
        (more : List Generator) (u : TypedForm) (vs : List TypedForm) (ty : Ty) → gs ≡ g ∷ more
        → us ≡ u ∷ vs
        → is_visible k.facts bs (out-Generator g).name ≡ false
        → HasAs k C bs an_operand (out-Generator g).source u → given (type_of u) ≡ Some ty
        → HasSources k C (bs ++ binding (out-Generator g).place (out-Generator g).name ty ∷ []) more
        inner vs → HasSources k C bs gs inner us

  -- The clauses of a `case`: each comparison with the subject is a call that is below `Boolean`.
  pub data HasClauses (k : Knows) (C : Calling) : List Binding → TypedForm → List Branch
      → List Chosen → List TypedForm → List TypedForm → Type 0 where
    no_clause : {bs : List Binding} {s : TypedForm} {branches : List Branch} {cs : List Chosen}
        {tests values : List TypedForm} → branches ≡ [] → cs ≡ [] → tests ≡ [] → values ≡ []
        → HasClauses k C bs s branches cs tests values
    clause : {bs : List Binding} {s : TypedForm} {branches : List Branch} {cs : List Chosen}
        {tests values : List TypedForm} (b : Branch) (more : List Branch) (u v : TypedForm)
        (result : Ty)
        (widened : List Bool) (ds : List Chosen) (us vs : List TypedForm) → branches ≡ b ∷ more
        → HasAs k C bs an_operand (test_of b) u
        → C (operator_set k.facts an_op.Eq 2) (type_of s ∷ type_of u ∷ []) result widened
        → IsBelow k result boolean → HasAs k C bs a_value (value_of b) v
        → HasClauses k C bs s more ds us vs
        → cs ≡ chosen (operator_set k.facts an_op.Eq 2) widened ∷ ds → tests ≡ u ∷ us
        → values ≡ v ∷ vs → HasClauses k C bs s branches cs tests values

  -- The clauses of a `typecase` or of a `catch`: in each the name has the clause's type.
  pub data HasCases (k : Knows) (C : Calling) : List Binding → Option (Place × NameId)
      → List TypeBranch → List TypedForm → Type 0 where
    no_case : {bs : List Binding} {name : Option (Place × NameId)} {branches : List TypeBranch}
        {values : List TypedForm} → branches ≡ [] → values ≡ []
        → HasCases k C bs name branches values
    case_ : {bs : List Binding} {name : Option (Place × NameId)} {branches : List TypeBranch}
        {values : List TypedForm} (b : TypeBranch) (more : List TypeBranch) (v : TypedForm)
        (vs : List TypedForm)
        → branches ≡ b ∷ more → values ≡ v ∷ vs
        → HasAs k C (with_clause bs name (clause_type b)) a_value (out-TypeBranch b).value v
        → HasCases k C bs name more vs
        → HasCases k C bs name branches values

  -- What stands behind `else`, if anything does.
  pub data HasElse (k : Knows) (C : Calling) : List Binding → Option Form → Option TypedForm
      → Type 0 where
    no_else : {bs : List Binding} {other : Option Form} {w : Option TypedForm} → other ≡ None
        → w ≡ None → HasElse k C bs other w
    else_ : {bs : List Binding} {other : Option Form} {w : Option TypedForm} (d : Form)
        (u : TypedForm) → other ≡ Some d → HasAs k C bs a_value d u → w ≡ Some u
        → HasElse k C bs other w

  -- What stands behind `finally`, if anything does.
  pub data HasFinally (k : Knows) (C : Calling) : List Binding → Option Form → Option TypedForm
      → Type 0 where
    no_finally : {bs : List Binding} {last : Option Form} {w : Option TypedForm} → last ≡ None
        → w ≡ None → HasFinally k C bs last w
    finally_ : {bs : List Binding} {last : Option Form} {w : Option TypedForm} (d : Form)
        (u : TypedForm) → last ≡ Some d → HasAs k C bs (below unit) d u → w ≡ Some u
        → HasFinally k C bs last w

  -- The elements of a run or of a juxtaposition.
  pub data HasParts (k : Knows) (C : Calling) : List Binding → List Form → List Part → Type 0 where
    no_element : {bs : List Binding} {es : List Form} {ps : List Part} → es ≡ [] → ps ≡ []
        → HasParts k C bs es ps
    element_ : {bs : List Binding} {es : List Form} {ps : List Part} (d : Form) (ds : List Form)
        (m : Meaning) (qs : List Part) → es ≡ d ∷ ds → ps ≡ part d m ∷ qs
        → Means k C bs d m → HasParts k C bs ds qs → HasParts k C bs es ps

  -- What an element is.
  pub data Means (k : Knows) (C : Calling) : List Binding → Form → Meaning → Type 0 where
    a_named : {bs : List Binding} {e : Form} {m : Meaning} (name : NameId) → Names k bs e name
        → m ≡ a_meaning.Functions name → Means k C bs e m
    a_valued : {bs : List Binding} {e : Form} {m : Meaning} (t : TypedForm)
        → HasAs k C bs an_operand e t → m ≡ a_meaning.Value t → Means k C bs e m
    an_index : {bs : List Binding} {e : Form} {m : Meaning} (p : Place) (i : Form) (t : TypedForm)
        → out-Form e ≡ Form-F.Subscript p i → HasAs k C bs (below zz32) i t
        → m ≡ a_meaning.Index t → Means k C bs e m
    an_exponent : {bs : List Binding} {e : Form} {m : Meaning} (p : Place) (d : Form)
        (t : TypedForm) → out-Form e ≡ Form-F.Power p d → HasAs k C bs an_operand d t
        → m ≡ a_meaning.Exponent t → Means k C bs e m
    a_field_of : {bs : List Binding} {e : Form} {m : Meaning} (p at : Place) (name : NameId)
        → out-Form e ≡ Form-F.Field p at name → m ≡ a_meaning.Field at name → Means k C bs e m
    a_method_of : {bs : List Binding} {e : Form} {m : Meaning} (p at : Place) (name : NameId)
        (es : List Form) (ts : List TypedForm) → out-Form e ≡ Form-F.Method p at name es
        → HasEach k C bs an_operand es ts → m ≡ a_meaning.Method at name ts → Means k C bs e m
