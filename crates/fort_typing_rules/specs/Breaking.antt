-- The chapter "Typing": in these bindings a form breaks this rule at this place: in a part of it,
-- or the parts that the rule speaks of have types and it fails here. The code keeps the first that
-- it meets in the order of places.
use Rattle.std.specs.Prelude.{◌≡◌, Bool, true, false, List, [], ◌∷◌, ◌++◌, length, map, Option, Some, None}
use Rattle.fort_base.specs.declared.ids.NameId.{NameId}
use Rattle.fort_base.specs.declared.refusal.Place.{Place}
use Rattle.fort_base.specs.declared.refusal.Rule.{Rule}
use Rattle.fort_base.specs.declared.rules.TheConstants.{UNKNOWN_NAME, MISMATCH, NOT_ASSIGNABLE, FUNCTION_AS_VALUE, NOT_A_GENERATOR, NOT_AN_EXCEPTION, SHADOWS}
use Rattle.fort_base.specs.declared.ty.Ty.{Ty}
use Rattle.fort_ops.specs.declared.op.Op.{Op}
use Rattle.fort_ops.specs.declared.op.Op.TheVariants as an_op
use Rattle.fort_scope.specs.declared.binding.Binding.{Binding}
use Rattle.fort_form.specs.declared.form.Form.{Form, out-Form}
use Rattle.fort_form.specs.declared.form.Form.TheOpen.{Form-F, Item-F}
use Rattle.fort_form.specs.declared.form.Item.{Item, out-Item}
use Rattle.fort_form.specs.declared.form.Branch.{Branch}
use Rattle.fort_form.specs.declared.form.TypeBranch.{TypeBranch, out-TypeBranch}
use Rattle.fort_form.specs.declared.form.Generator.{Generator, out-Generator}
use Rattle.fort_form.specs.declared.form.Parameter.{Parameter}
use Rattle.fort_form.specs.declared.form.Reduction.{Reduction}
use Rattle.fort_form.specs.declared.form.Update.{Update}
use Rattle.fort_form_typed.specs.declared.typed_form.Chosen.{Chosen}
use Rattle.fort_form_typed.specs.declared.typed_form.TypedForm.{TypedForm}
use Rattle.fort_typing_known.specs.declared.fault.Fault.{Fault}
use Rattle.fort_typing_known.specs.Known.{Knows}
use Rattle.fort_typing_known.specs.Names.{nothing, standing, is_visible}
use Rattle.fort_typing_known.specs.Sets.{operator_set}
use Rattle.fort_typing_rules.specs.declared.part.Part.{Part}
use Rattle.fort_typing_rules.specs.declared.part.Meaning.{Meaning}
use Rattle.fort_typing_rules.specs.declared.part.Meaning.TheVariants as a_meaning
use Rattle.fort_typing_rules.specs.Types.{exception, zz32, boolean, unit, IsBelow, is_nothing, given, HasNoWidest, type_of, types_of, place_of, fault}
use Rattle.fort_typing_rules.specs.Calls.{Calls, CallBreaks}
use Rattle.fort_typing_rules.specs.Elements.{RunBreaks, BesideBreaks}
use Rattle.fort_typing_rules.specs.Typing

-- the rule that is broken where a type isn't as wanted
abbrev pub rule_of : Typing.Want → Rule
rule_of Typing.an_exception = NOT_AN_EXCEPTION
rule_of _ = MISMATCH

-- One of several names to be bound is visible then: 613 at it.
pub data BindingBreaks (k : Knows) : List Binding → List Binding → Fault → Type 0 where
  this_binding : {bs new : List Binding} {x : Fault} (b : Binding) (more : List Binding)
      → new ≡ b ∷ more → is_visible k.facts bs b.name ≡ true → x ≡ fault SHADOWS b.place
      → BindingBreaks k bs new x
  next_binding : {bs new : List Binding} {x : Fault} (b : Binding) (more : List Binding)
      → new ≡ b ∷ more → is_visible k.facts bs b.name ≡ false
      → BindingBreaks k (bs ++ b ∷ []) more x → BindingBreaks k bs new x

-- The type of a clause isn't below `Exception`: 612 at it.
pub data ExceptionBreaks (k : Knows) : List TypeBranch → Fault → Type 0 where
  this_type : {branches : List TypeBranch} {x : Fault} (b : TypeBranch) (more : List TypeBranch)
      → branches ≡ b ∷ more → (IsBelow k (Typing.clause_type b) exception → ⊥)
      → x ≡ fault NOT_AN_EXCEPTION (out-TypeBranch b).place → ExceptionBreaks k branches x
  next_type : {branches : List TypeBranch} {x : Fault} (b : TypeBranch) (more : List TypeBranch)
      → branches ≡ b ∷ more → ExceptionBreaks k more x → ExceptionBreaks k branches x

mutual
  -- In these bindings a form breaks a rule.
  pub data Breaks (k : Knows) : List Binding → Form → Fault → Type 0 where
    -- `self` outside a type's declaration, and a name that stands for nothing: 601
    no_receiver : {bs : List Binding} {e : Form} {x : Fault} (p : Place)
        → out-Form e ≡ Form-F.Receiver p → k.facts.owner ≡ None → x ≡ fault UNKNOWN_NAME p
        → Breaks k bs e x
    no_name : {bs : List Binding} {e : Form} {x : Fault} (p : Place) (name : NameId)
        → out-Form e ≡ Form-F.Name p name → standing k.facts bs name ≡ nothing
        → x ≡ fault UNKNOWN_NAME p → Breaks k bs e x
    in_parens : {bs : List Binding} {e : Form} {x : Fault} (p : Place) (d : Form)
        → out-Form e ≡ Form-F.Parens p d → BreaksAs k bs Typing.a_value d x → Breaks k bs e x
    in_tuple : {bs : List Binding} {e : Form} {x : Fault} (p : Place) (es : List Form)
        → out-Form e ≡ Form-F.Tuple p es → BreaksSome k bs Typing.an_operand es x → Breaks k bs e x
    in_operator : {bs : List Binding} {e : Form} {x : Fault} (p : Place) (op : Op) (es : List Form)
        → out-Form e ≡ Form-F.Operator p op es → BreaksSome k bs Typing.an_operand es x
        → Breaks k bs e x
    -- a call of an operator: 602 or 614
    no_operator : {bs : List Binding} {e : Form} {x : Fault} (p : Place) (op : Op) (es : List Form)
        (ts : List TypedForm) (rule : Rule) → out-Form e ≡ Form-F.Operator p op es
        → Typing.HasEach k (Calls k) bs Typing.an_operand es ts
        → CallBreaks k (operator_set k.facts op (length ts)) (types_of ts) rule → x ≡ fault rule p
        → Breaks k bs e x
    in_chain : {bs : List Binding} {e : Form} {x : Fault} (p : Place) (ops : List Op)
        (es : List Form) → out-Form e ≡ Form-F.Chain p ops es
        → BreaksSome k bs Typing.an_operand es x
        → Breaks k bs e x
    no_comparison : {bs : List Binding} {e : Form} {x : Fault} (p : Place) (ops : List Op)
        (es : List Form) → out-Form e ≡ Form-F.Chain p ops es → ChainBreaks k bs ops es x
        → Breaks k bs e x
    in_beside : {bs : List Binding} {e : Form} {x : Fault} (p : Place) (es : List Form)
        → out-Form e ≡ Form-F.Beside p es → BreaksParts k bs es x → Breaks k bs e x
    no_beside : {bs : List Binding} {e : Form} {x : Fault} (p : Place) (es : List Form)
        (ps : List Part) → out-Form e ≡ Form-F.Beside p es → AsksParts k bs es ps
        → BesideBreaks k (Calls k) ps x
        → Breaks k bs e x
    in_run : {bs : List Binding} {e : Form} {x : Fault} (p : Place) (es : List Form)
        → out-Form e ≡ Form-F.Run p es → BreaksParts k bs es x → Breaks k bs e x
    no_run : {bs : List Binding} {e : Form} {x : Fault} (p : Place) (es : List Form)
        (ps : List Part) → out-Form e ≡ Form-F.Run p es → AsksParts k bs es ps
        → RunBreaks k (Calls k) ps x → Breaks k bs e x
    in_size : {bs : List Binding} {e : Form} {x : Fault} (p : Place) (ty : Ty) (n v : Form)
        → out-Form e ≡ Form-F.Fill p ty n v → BreaksAs k bs (Typing.below zz32) n x
        → Breaks k bs e x
    in_fill : {bs : List Binding} {e : Form} {x : Fault} (p : Place) (ty : Ty) (n v : Form)
        → out-Form e ≡ Form-F.Fill p ty n v → BreaksAs k bs (Typing.below ty) v x → Breaks k bs e x
    in_block : {bs : List Binding} {e : Form} {x : Fault} (p : Place) (is : List Item)
        → out-Form e ≡ Form-F.Block p is → BreaksItems k bs is x → Breaks k bs e x
    in_do : {bs : List Binding} {e : Form} {x : Fault} (p : Place) (b : Form)
        → out-Form e ≡ Form-F.Do p (b ∷ []) → BreaksAs k bs Typing.a_value b x → Breaks k bs e x
    in_also : {bs : List Binding} {e : Form} {x : Fault} (p : Place) (a b : Form)
        (others : List Form) → out-Form e ≡ Form-F.Do p (a ∷ b ∷ others)
        → BreaksSome k bs (Typing.below unit) (a ∷ b ∷ others) x → Breaks k bs e x
    in_if_test : {bs : List Binding} {e : Form} {x : Fault} (p : Place) (branches : List Branch)
        (other : Option Form) → out-Form e ≡ Form-F.If p branches other
        → BreaksSome k bs Typing.a_truth (map Typing.test_of branches) x → Breaks k bs e x
    in_if_alone : {bs : List Binding} {e : Form} {x : Fault} (p : Place) (branches : List Branch)
        → out-Form e ≡ Form-F.If p branches None
        → BreaksSome k bs (Typing.below unit) (map Typing.value_of branches) x → Breaks k bs e x
    in_if : {bs : List Binding} {e : Form} {x : Fault} (p : Place) (branches : List Branch)
        (d : Form) → out-Form e ≡ Form-F.If p branches (Some d)
        → BreaksSome k bs Typing.a_value (map Typing.value_of branches) x → Breaks k bs e x
    in_if_else : {bs : List Binding} {e : Form} {x : Fault} (p : Place) (branches : List Branch)
        (d : Form) → out-Form e ≡ Form-F.If p branches (Some d)
        → BreaksAs k bs Typing.a_value d x → Breaks k bs e x
    -- there is no widest type: 603
    no_widest_if : {bs : List Binding} {e : Form} {x : Fault} (p : Place) (branches : List Branch)
        (d : Form) (tests values : List TypedForm) (u : TypedForm)
        → out-Form e ≡ Form-F.If p branches (Some d)
        → Typing.HasEach k (Calls k) bs Typing.a_truth (map Typing.test_of branches) tests
        → Typing.HasEach k (Calls k) bs Typing.a_value (map Typing.value_of branches) values
        → Typing.HasAs k (Calls k) bs Typing.a_value d u
        → HasNoWidest k (types_of values ++ type_of u ∷ []) → x ≡ fault MISMATCH p → Breaks k bs e x
    in_while_test : {bs : List Binding} {e : Form} {x : Fault} (p : Place) (c b : Form)
        → out-Form e ≡ Form-F.While p c b → BreaksAs k bs Typing.a_truth c x → Breaks k bs e x
    in_while : {bs : List Binding} {e : Form} {x : Fault} (p : Place) (c b : Form)
        → out-Form e ≡ Form-F.While p c b → BreaksAs k bs (Typing.below unit) b x → Breaks k bs e x
    in_sources : {bs : List Binding} {e : Form} {x : Fault} (p : Place) (gs : List Generator)
        (b : Form) → out-Form e ≡ Form-F.For p gs b → BreaksSources k bs gs x → Breaks k bs e x
    in_for : {bs : List Binding} {e : Form} {x : Fault} (p : Place) (gs : List Generator) (b : Form)
        (inner : List Binding) (us : List TypedForm) → out-Form e ≡ Form-F.For p gs b
        → Typing.HasSources k (Calls k) bs gs inner us → BreaksAs k inner (Typing.below unit) b x
        → Breaks k bs e x
    in_subject : {bs : List Binding} {e : Form} {x : Fault} (p : Place) (s : Form)
        (branches : List Branch) (other : Option Form) → out-Form e ≡ Form-F.Case p s branches other
        → BreaksAs k bs Typing.an_operand s x → Breaks k bs e x
    in_clauses : {bs : List Binding} {e : Form} {x : Fault} (p : Place) (s : Form)
        (branches : List Branch) (other : Option Form) → out-Form e ≡ Form-F.Case p s branches other
        → BreaksClauses k bs s branches x → Breaks k bs e x
    in_case_else : {bs : List Binding} {e : Form} {x : Fault} (p : Place) (s : Form)
        (branches : List Branch) (d : Form) → out-Form e ≡ Form-F.Case p s branches (Some d)
        → BreaksAs k bs Typing.a_value d x → Breaks k bs e x
    no_widest_case : {bs : List Binding} {e : Form} {x : Fault} (p : Place) (s : Form)
        (branches : List Branch) (other : Option Form) (u : TypedForm) (cs : List Chosen)
        (tests values : List TypedForm) (w : Option TypedForm)
        → out-Form e ≡ Form-F.Case p s branches other
        → Typing.HasAs k (Calls k) bs Typing.an_operand s u
        → Typing.HasClauses k (Calls k) bs u branches cs tests values
        → Typing.HasElse k (Calls k) bs other w
        → HasNoWidest k (types_of values ++ Typing.else_types w)
        → x ≡ fault MISMATCH p → Breaks k bs e x
    -- the name of a `typecase` is visible: 613
    shadowing : {bs : List Binding} {e : Form} {x : Fault} (p at : Place) (name : NameId) (s : Form)
        (branches : List TypeBranch) (other : Option Form)
        → out-Form e ≡ Form-F.Typecase p at name s branches other
        → is_visible k.facts bs name ≡ true → x ≡ fault SHADOWS at → Breaks k bs e x
    in_typecase_subject : {bs : List Binding} {e : Form} {x : Fault} (p at : Place) (name : NameId)
        (s : Form) (branches : List TypeBranch) (other : Option Form)
        → out-Form e ≡ Form-F.Typecase p at name s branches other → BreaksAs k bs Typing.a_value s x
        → Breaks k bs e x
    in_typecase : {bs : List Binding} {e : Form} {x : Fault} (p at : Place) (name : NameId)
        (s : Form) (branches : List TypeBranch) (other : Option Form) (u : TypedForm)
        → out-Form e ≡ Form-F.Typecase p at name s branches other
        → is_visible k.facts bs name ≡ false → Typing.HasAs k (Calls k) bs Typing.a_value s u
        → BreaksCases k bs (Some (at, name)) branches x → Breaks k bs e x
    in_typecase_else : {bs : List Binding} {e : Form} {x : Fault} (p at : Place) (name : NameId)
        (s : Form) (branches : List TypeBranch) (d : Form) (u : TypedForm)
        → out-Form e ≡ Form-F.Typecase p at name s branches (Some d)
        → is_visible k.facts bs name ≡ false → Typing.HasAs k (Calls k) bs Typing.a_value s u
        → BreaksAs k (Typing.with_clause bs (Some (at, name)) (type_of u)) Typing.a_value d x
        → Breaks k bs e x
    no_widest_typecase : {bs : List Binding} {e : Form} {x : Fault} (p at : Place) (name : NameId)
        (s : Form) (branches : List TypeBranch) (other : Option Form) (u : TypedForm)
        (values : List TypedForm) (w : Option TypedForm)
        → out-Form e ≡ Form-F.Typecase p at name s branches other
        → is_visible k.facts bs name ≡ false
        → Typing.HasAs k (Calls k) bs Typing.a_value s u
        → Typing.HasCases k (Calls k) bs (Some (at, name)) branches values
        → Typing.HasElse k (Calls k) (Typing.with_clause bs (Some (at, name)) (type_of u)) other w
        → HasNoWidest k (types_of values ++ Typing.else_types w) → x ≡ fault MISMATCH p
        → Breaks k bs e x
    in_try : {bs : List Binding} {e : Form} {x : Fault} (p : Place) (b : Form)
        (name : Option (Place × NameId)) (branches : List TypeBranch) (last : Option Form)
        → out-Form e ≡ Form-F.Try p b name branches last → BreaksAs k bs Typing.a_value b x
        → Breaks k bs e x
    -- the name of a `catch` is visible: 613
    shadowing_catch : {bs : List Binding} {e : Form} {x : Fault} (p at : Place) (b : Form)
        (name : NameId) (branches : List TypeBranch) (last : Option Form)
        → out-Form e ≡ Form-F.Try p b (Some (at, name)) branches last
        → is_visible k.facts bs name ≡ true → x ≡ fault SHADOWS at → Breaks k bs e x
    no_exception : {bs : List Binding} {e : Form} {x : Fault} (p : Place) (b : Form)
        (name : Option (Place × NameId)) (branches : List TypeBranch) (last : Option Form)
        → out-Form e ≡ Form-F.Try p b name branches last → ExceptionBreaks k branches x
        → Breaks k bs e x
    in_catch : {bs : List Binding} {e : Form} {x : Fault} (p : Place) (b : Form)
        (name : Option (Place × NameId)) (branches : List TypeBranch) (last : Option Form)
        → out-Form e ≡ Form-F.Try p b name branches last → Typing.is_fresh k bs name ≡ true
        → BreaksCases k bs name branches x → Breaks k bs e x
    in_finally : {bs : List Binding} {e : Form} {x : Fault} (p : Place) (b : Form)
        (name : Option (Place × NameId)) (branches : List TypeBranch) (d : Form)
        → out-Form e ≡ Form-F.Try p b name branches (Some d) → BreaksAs k bs (Typing.below unit) d x
        → Breaks k bs e x
    no_widest_try : {bs : List Binding} {e : Form} {x : Fault} (p : Place) (b : Form)
        (name : Option (Place × NameId)) (branches : List TypeBranch) (last : Option Form)
        (u : TypedForm) (values : List TypedForm) (w : Option TypedForm)
        → out-Form e ≡ Form-F.Try p b name branches last
        → Typing.HasAs k (Calls k) bs Typing.a_value b u
        → Typing.is_fresh k bs name ≡ true → Typing.AreExceptions k branches
        → Typing.HasCases k (Calls k) bs name branches values
        → Typing.HasFinally k (Calls k) bs last w
        → HasNoWidest k (type_of u ∷ types_of values) → x ≡ fault MISMATCH p → Breaks k bs e x
    in_atomic : {bs : List Binding} {e : Form} {x : Fault} (p : Place) (d : Form)
        → out-Form e ≡ Form-F.Atomic p d → BreaksAs k bs Typing.a_value d x → Breaks k bs e x
    in_tryatomic : {bs : List Binding} {e : Form} {x : Fault} (p : Place) (d : Form)
        → out-Form e ≡ Form-F.Tryatomic p d → BreaksAs k bs Typing.a_value d x → Breaks k bs e x
    in_throw : {bs : List Binding} {e : Form} {x : Fault} (p : Place) (d : Form)
        → out-Form e ≡ Form-F.Throw p d → BreaksAs k bs Typing.an_exception d x → Breaks k bs e x
    in_parameters : {bs : List Binding} {e : Form} {x : Fault} (p : Place) (ps : List Parameter)
        (d : Form) → out-Form e ≡ Form-F.Fn p ps d
        → BindingBreaks k bs (map Typing.parameter_binding ps) x → Breaks k bs e x
    in_function : {bs : List Binding} {e : Form} {x : Fault} (p : Place) (ps : List Parameter)
        (d : Form) (inner : List Binding) → out-Form e ≡ Form-F.Fn p ps d
        → Typing.Binds k bs (map Typing.parameter_binding ps) inner
        → BreaksAs k inner Typing.a_value d x → Breaks k bs e x
    in_source : {bs : List Binding} {e : Form} {x : Fault} (p : Place) (r : Reduction)
        (g : Generator) (d : Form) → out-Form e ≡ Form-F.Reduce p r g d
        → BreaksSources k bs (g ∷ []) x → Breaks k bs e x
    in_reduced : {bs : List Binding} {e : Form} {x : Fault} (p : Place) (r : Reduction)
        (g : Generator) (d : Form) (inner : List Binding) (us : List TypedForm)
        → out-Form e ≡ Form-F.Reduce p r g d → Typing.HasSources k (Calls k) bs (g ∷ []) inner us
        → BreaksAs k inner (Typing.reduction_want r) d x → Breaks k bs e x
    -- the target is typed as an expression; then what can't be assigned to, a function set's name
    -- too, breaks 604
    in_target : {bs : List Binding} {e : Form} {x : Fault} (p : Place) (d v : Form) (sign : Update)
        → out-Form e ≡ Form-F.Assign p d sign v → Breaks k bs d x → Breaks k bs e x
    fixed : {bs : List Binding} {e : Form} {x : Fault} (p : Place) (d v : Form) (sign : Update)
        (u : TypedForm) → out-Form e ≡ Form-F.Assign p d sign v → Typing.Has k (Calls k) bs d u
        → Typing.is_target k d u ≡ false → x ≡ fault NOT_ASSIGNABLE (place_of d) → Breaks k bs e x
    fixed_name : {bs : List Binding} {e : Form} {x : Fault} (p : Place) (d v : Form) (sign : Update)
        (name : NameId) → out-Form e ≡ Form-F.Assign p d sign v
        → Typing.Names k bs d name → x ≡ fault NOT_ASSIGNABLE (place_of d) → Breaks k bs e x
    in_assigned : {bs : List Binding} {e : Form} {x : Fault} (p : Place) (d v : Form)
        (sign : Update) → out-Form e ≡ Form-F.Assign p d sign v → Typing.update_operator sign ≡ None
        → BreaksAs k bs Typing.a_value v x → Breaks k bs e x
    unlike_assigned : {bs : List Binding} {e : Form} {x : Fault} (p : Place) (d v : Form)
        (sign : Update) (u w : TypedForm) → out-Form e ≡ Form-F.Assign p d sign v
        → Typing.update_operator sign ≡ None → Typing.Has k (Calls k) bs d u
        → Typing.is_target k d u ≡ true → Typing.Has k (Calls k) bs v w
        → (IsBelow k (type_of w) (type_of u) → ⊥)
        → x ≡ fault MISMATCH (place_of v) → Breaks k bs e x
    in_updated : {bs : List Binding} {e : Form} {x : Fault} (p : Place) (d v : Form) (sign : Update)
        (op : Op) → out-Form e ≡ Form-F.Assign p d sign v
        → Typing.update_operator sign ≡ Some op → BreaksAs k bs Typing.an_operand v x
        → Breaks k bs e x
    -- the sum is a call, at the target, and below its type
    no_sum : {bs : List Binding} {e : Form} {x : Fault} (p : Place) (d v : Form) (sign : Update)
        (op : Op) (u w : TypedForm) (rule : Rule) → out-Form e ≡ Form-F.Assign p d sign v
        → Typing.update_operator sign ≡ Some op → Typing.Has k (Calls k) bs d u
        → Typing.is_target k d u ≡ true → Typing.HasAs k (Calls k) bs Typing.an_operand v w
        → CallBreaks k (operator_set k.facts op 2) (type_of u ∷ type_of w ∷ []) rule
        → x ≡ fault rule (place_of d) → Breaks k bs e x
    unlike_sum : {bs : List Binding} {e : Form} {x : Fault} (p : Place) (d v : Form) (sign : Update)
        (op : Op) (u w : TypedForm) (result : Ty) (widened : List Bool)
        → out-Form e ≡ Form-F.Assign p d sign v → Typing.update_operator sign ≡ Some op
        → Typing.Has k (Calls k) bs d u → Typing.is_target k d u ≡ true
        → Typing.HasAs k (Calls k) bs Typing.an_operand v w
        → Calls k (operator_set k.facts op 2) (type_of u ∷ type_of w ∷ []) result widened
        → (IsBelow k result (type_of u) → ⊥)
        → x ≡ fault MISMATCH (place_of d) → Breaks k bs e x

  -- A part breaks a rule, is a function set's name where a value is wanted, or has a type that
  -- isn't as wanted.
  pub data BreaksAs (k : Knows) : List Binding → Typing.Want → Form → Fault → Type 0 where
    inside : {bs : List Binding} {want : Typing.Want} {e : Form} {x : Fault} → Breaks k bs e x
        → BreaksAs k bs want e x
    named : {bs : List Binding} {want : Typing.Want} {e : Form} {x : Fault} (name : NameId)
        → Typing.Names k bs e name → x ≡ fault FUNCTION_AS_VALUE (place_of e)
        → BreaksAs k bs want e x
    unlike : {bs : List Binding} {want : Typing.Want} {e : Form} {x : Fault} (t : TypedForm)
        → Typing.Has k (Calls k) bs e t → (Typing.Suits k want (type_of t) → ⊥)
        → x ≡ fault (rule_of want) (place_of e) → BreaksAs k bs want e x

  -- Some part of a list does.
  pub data BreaksSome (k : Knows) : List Binding → Typing.Want → List Form → Fault → Type 0 where
    some_part : {bs : List Binding} {want : Typing.Want} {es : List Form} {x : Fault} (d : Form)
        (ds : List Form) → es ≡ d ∷ ds → BreaksAs k bs want d x → BreaksSome k bs want es x
    some_later_part : {bs : List Binding} {want : Typing.Want} {es : List Form} {x : Fault}
        (d : Form) (ds : List Form) → es ≡ d ∷ ds → BreaksSome k bs want ds x
        → BreaksSome k bs want es x

  -- A comparison of a chain is no call, or isn't below `Boolean`, at its left side.
  pub data ChainBreaks (k : Knows) : List Binding → List Op → List Form → Fault → Type 0 where
    no_call : {bs : List Binding} {ops : List Op} {es : List Form} {x : Fault} (op : Op)
        (others : List Op) (a b : Form) (more : List Form) (u v : TypedForm) (rule : Rule)
        → ops ≡ op ∷ others → es ≡ a ∷ b ∷ more → Typing.HasAs k (Calls k) bs Typing.an_operand a u
        → Typing.HasAs k (Calls k) bs Typing.an_operand b v
        → CallBreaks k (operator_set k.facts op 2) (type_of u ∷ type_of v ∷ []) rule
        → x ≡ fault rule (place_of a) → ChainBreaks k bs ops es x
    no_truth : {bs : List Binding} {ops : List Op} {es : List Form} {x : Fault} (op : Op)
        (others : List Op) (a b : Form) (more : List Form) (u v : TypedForm) (result : Ty)
        (widened : List Bool)
        → ops ≡ op ∷ others → es ≡ a ∷ b ∷ more → Typing.HasAs k (Calls k) bs Typing.an_operand a u
        → Typing.HasAs k (Calls k) bs Typing.an_operand b v
        → Calls k (operator_set k.facts op 2) (type_of u ∷ type_of v ∷ []) result widened
        → (IsBelow k result boolean → ⊥) → x ≡ fault MISMATCH (place_of a)
        → ChainBreaks k bs ops es x
    next_comparison : {bs : List Binding} {ops : List Op} {es : List Form} {x : Fault} (op : Op)
        (others : List Op) (a : Form) (more : List Form) → ops ≡ op ∷ others → es ≡ a ∷ more
        → ChainBreaks k bs others more x → ChainBreaks k bs ops es x

  -- An item of a block breaks a rule.
  pub data BreaksItems (k : Knows) : List Binding → List Item → Fault → Type 0 where
    in_last : {bs : List Binding} {is : List Item} {x : Fault} (i : Item) (d : Form) → is ≡ i ∷ []
        → out-Item i ≡ Item-F.Expression d → BreaksAs k bs Typing.a_value d x
        → BreaksItems k bs is x
    in_item : {bs : List Binding} {is : List Item} {x : Fault} (i j : Item) (more : List Item)
        (d : Form) → is ≡ i ∷ j ∷ more → out-Item i ≡ Item-F.Expression d
        → BreaksAs k bs (Typing.below unit) d x → BreaksItems k bs is x
    behind_item : {bs : List Binding} {is : List Item} {x : Fault} (i j : Item) (more : List Item)
        (d : Form) → is ≡ i ∷ j ∷ more → out-Item i ≡ Item-F.Expression d
        → BreaksItems k bs (j ∷ more) x → BreaksItems k bs is x
    -- the name of a local variable is visible: 613
    shadowing_local : {bs : List Binding} {is : List Item} {x : Fault} (i : Item) (more : List Item)
        (p : Place) (name : NameId) (mutable : Bool) (want : Ty) (d : Form) → is ≡ i ∷ more
        → out-Item i ≡ Item-F.Local p name mutable want d → is_visible k.facts bs name ≡ true
        → x ≡ fault SHADOWS p → BreaksItems k bs is x
    in_initial : {bs : List Binding} {is : List Item} {x : Fault} (i : Item) (more : List Item)
        (p : Place) (name : NameId) (mutable : Bool) (want : Ty) (d : Form) → is ≡ i ∷ more
        → out-Item i ≡ Item-F.Local p name mutable want d → BreaksAs k bs (Typing.below want) d x
        → BreaksItems k bs is x
    behind_local : {bs : List Binding} {is : List Item} {x : Fault} (i : Item) (more : List Item)
        (p : Place) (name : NameId) (mutable : Bool) (want : Ty) (d : Form) → is ≡ i ∷ more
        → out-Item i ≡ Item-F.Local p name mutable want d → is_visible k.facts bs name ≡ false
        → BreaksItems k (bs ++ record { name = name; place = p; ty = want; mutable = mutable } ∷ [])
        more x → BreaksItems k bs is x
    -- the written type of several names is no tuple of as many parts: 603 at the `(`
    no_parts : {bs : List Binding} {is : List Item} {x : Fault} (i : Item) (more : List Item)
        (p : Place) (names : List (Place × NameId)) (want : Ty) (d : Form) → is ≡ i ∷ more
        → out-Item i ≡ Item-F.Locals p names want d → Typing.named_parts names want ≡ None
        → x ≡ fault MISMATCH p → BreaksItems k bs is x
    shadowing_locals : {bs : List Binding} {is : List Item} {x : Fault} (i : Item)
        (more : List Item) (p : Place) (names : List (Place × NameId)) (want : Ty) (d : Form)
        (new : List Binding)
        → is ≡ i ∷ more → out-Item i ≡ Item-F.Locals p names want d
        → Typing.named_parts names want ≡ Some new → BindingBreaks k bs new x
        → BreaksItems k bs is x
    in_initials : {bs : List Binding} {is : List Item} {x : Fault} (i : Item) (more : List Item)
        (p : Place) (names : List (Place × NameId)) (want : Ty) (d : Form) → is ≡ i ∷ more
        → out-Item i ≡ Item-F.Locals p names want d → BreaksAs k bs (Typing.below want) d x
        → BreaksItems k bs is x
    behind_locals : {bs : List Binding} {is : List Item} {x : Fault} (i : Item) (more : List Item)
        (p : Place) (names : List (Place × NameId)) (want : Ty) (d : Form)
        (new inner : List Binding)
        → is ≡ i ∷ more → out-Item i ≡ Item-F.Locals p names want d
        → Typing.named_parts names want ≡ Some new → Typing.Binds k bs new inner
        → BreaksItems k inner more x → BreaksItems k bs is x

  -- A generator breaks a rule: its name is visible (613), its source breaks one, or is no generator
  -- (610).
  pub data BreaksSources (k : Knows) : List Binding → List Generator → Fault → Type 0 where
    shadowing_name : {bs : List Binding} {gs : List Generator} {x : Fault} (g : Generator)
        (more : List Generator) → gs ≡ g ∷ more
        → is_visible k.facts bs (out-Generator g).name ≡ true
        → x ≡ fault SHADOWS (out-Generator g).place → BreaksSources k bs gs x
    in_this : {bs : List Binding} {gs : List Generator} {x : Fault} (g : Generator)
        (more : List Generator) → gs ≡ g ∷ more
        → BreaksAs k bs Typing.an_operand (out-Generator g).source x
        → BreaksSources k bs gs x
    no_generator : {bs : List Binding} {gs : List Generator} {x : Fault} (g : Generator)
        (more : List Generator) (u : TypedForm) → gs ≡ g ∷ more
        → Typing.HasAs k (Calls k) bs Typing.an_operand (out-Generator g).source u
        → given (type_of u) ≡ None → x ≡ fault NOT_A_GENERATOR (place_of (out-Generator g).source)
        → BreaksSources k bs gs x
    in_next : {bs : List Binding} {gs : List Generator} {x : Fault} (g : Generator)
        (more : List Generator) (u : TypedForm) (ty : Ty) → gs ≡ g ∷ more
        → is_visible k.facts bs (out-Generator g).name ≡ false
        → Typing.HasAs k (Calls k) bs Typing.an_operand (out-Generator g).source u
        → given (type_of u) ≡ Some ty
        → BreaksSources k
        (bs ++ Typing.binding (out-Generator g).place (out-Generator g).name ty ∷ []) more x
        → BreaksSources k bs gs x

  -- A clause of a `case` breaks a rule.
  pub data BreaksClauses (k : Knows) : List Binding → Form → List Branch → Fault → Type 0 where
    in_test : {bs : List Binding} {s : Form} {branches : List Branch} {x : Fault} (b : Branch)
        (more : List Branch) → branches ≡ b ∷ more
        → BreaksAs k bs Typing.an_operand (Typing.test_of b) x → BreaksClauses k bs s branches x
    -- the comparison is a call, at the clause, and below `Boolean`
    no_equality : {bs : List Binding} {s : Form} {branches : List Branch} {x : Fault} (b : Branch)
        (more : List Branch) (u v : TypedForm) (rule : Rule) → branches ≡ b ∷ more
        → Typing.HasAs k (Calls k) bs Typing.an_operand s u
        → Typing.HasAs k (Calls k) bs Typing.an_operand (Typing.test_of b) v
        → CallBreaks k (operator_set k.facts an_op.Eq 2) (type_of u ∷ type_of v ∷ []) rule
        → x ≡ fault rule (place_of (Typing.test_of b)) → BreaksClauses k bs s branches x
    no_truth_value : {bs : List Binding} {s : Form} {branches : List Branch} {x : Fault}
        (b : Branch) (more : List Branch) (u v : TypedForm) (result : Ty) (widened : List Bool)
        → branches ≡ b ∷ more → Typing.HasAs k (Calls k) bs Typing.an_operand s u
        → Typing.HasAs k (Calls k) bs Typing.an_operand (Typing.test_of b) v
        → Calls k (operator_set k.facts an_op.Eq 2) (type_of u ∷ type_of v ∷ []) result widened
        → (IsBelow k result boolean → ⊥)
        → x ≡ fault MISMATCH (place_of (Typing.test_of b)) → BreaksClauses k bs s branches x
    in_value : {bs : List Binding} {s : Form} {branches : List Branch} {x : Fault} (b : Branch)
        (more : List Branch) → branches ≡ b ∷ more
        → BreaksAs k bs Typing.a_value (Typing.value_of b) x → BreaksClauses k bs s branches x
    in_next_clause : {bs : List Binding} {s : Form} {branches : List Branch} {x : Fault}
        (b : Branch) (more : List Branch) → branches ≡ b ∷ more
        → BreaksClauses k bs s more x → BreaksClauses k bs s branches x

  -- What a clause of a `typecase` or of a `catch` gives breaks a rule.
  pub data BreaksCases (k : Knows) : List Binding → Option (Place × NameId) → List TypeBranch
      → Fault → Type 0 where
    in_this_case : {bs : List Binding} {name : Option (Place × NameId)} {branches : List TypeBranch}
        {x : Fault} (b : TypeBranch) (more : List TypeBranch) → branches ≡ b ∷ more
        → BreaksAs k (Typing.with_clause bs name (Typing.clause_type b)) Typing.a_value
        (out-TypeBranch b).value x → BreaksCases k bs name branches x
    in_next_case : {bs : List Binding} {name : Option (Place × NameId)} {branches : List TypeBranch}
        {x : Fault} (b : TypeBranch) (more : List TypeBranch) → branches ≡ b ∷ more
        → BreaksCases k bs name more x → BreaksCases k bs name branches x

  -- An element of a run or of a juxtaposition breaks a rule, or is `Nothing`.
  pub data BreaksPart (k : Knows) : List Binding → Form → Fault → Type 0 where
    in_atom : {bs : List Binding} {e : Form} {x : Fault} → Breaks k bs e x → BreaksPart k bs e x
    a_nothing : {bs : List Binding} {e : Form} {x : Fault} (t : TypedForm)
        → Typing.Has k (Calls k) bs e t → is_nothing (type_of t) ≡ true
        → x ≡ fault MISMATCH (place_of e) → BreaksPart k bs e x
    in_index : {bs : List Binding} {e : Form} {x : Fault} (p : Place) (i : Form)
        → out-Form e ≡ Form-F.Subscript p i → BreaksAs k bs (Typing.below zz32) i x
        → BreaksPart k bs e x
    in_exponent : {bs : List Binding} {e : Form} {x : Fault} (p : Place) (d : Form)
        → out-Form e ≡ Form-F.Power p d → BreaksAs k bs Typing.an_operand d x → BreaksPart k bs e x
    in_arguments : {bs : List Binding} {e : Form} {x : Fault} (p at : Place) (name : NameId)
        (es : List Form) → out-Form e ≡ Form-F.Method p at name es
        → BreaksSome k bs Typing.an_operand es x → BreaksPart k bs e x

  -- Some element does.
  pub data BreaksParts (k : Knows) : List Binding → List Form → Fault → Type 0 where
    this_part : {bs : List Binding} {es : List Form} {x : Fault} (d : Form) (ds : List Form)
        → es ≡ d ∷ ds → BreaksPart k bs d x → BreaksParts k bs es x
    later_part : {bs : List Binding} {es : List Form} {x : Fault} (d : Form) (ds : List Form)
        → es ≡ d ∷ ds → BreaksParts k bs ds x → BreaksParts k bs es x

  -- The elements as far as they have been asked: one that breaks a rule has no type.
  pub data AsksParts (k : Knows) : List Binding → List Form → List Part → Type 0 where
    asked_all : {bs : List Binding} {es : List Form} {ps : List Part} → es ≡ [] → ps ≡ []
        → AsksParts k bs es ps
    known : {bs : List Binding} {es : List Form} {ps : List Part} (d : Form) (ds : List Form)
        (m : Meaning) (qs : List Part) → es ≡ d ∷ ds → ps ≡ Typing.part d m ∷ qs
        → Typing.Means k (Calls k) bs d m → AsksParts k bs ds qs → AsksParts k bs es ps
    unknown : {bs : List Binding} {es : List Form} {ps : List Part} (d : Form) (ds : List Form)
        (x : Fault) (qs : List Part) → es ≡ d ∷ ds → ps ≡ Typing.part d a_meaning.Unknown ∷ qs
        → BreaksPart k bs d x → AsksParts k bs ds qs → AsksParts k bs es ps
