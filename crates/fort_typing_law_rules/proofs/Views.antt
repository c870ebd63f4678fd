-- What a form breaks, by its layer.
use Rattle.std.proofs.Common.{◌≡◌, ◌⊎◌, inl, inr, Bool, true, false, List, [], ◌∷◌, ◌++◌, length, map, Option, Some, None, sym, subst}
use Rattle.fort_base.specs.declared.ids.NameId.{NameId}
use Rattle.fort_base.specs.declared.refusal.Place.{Place}
use Rattle.fort_base.specs.declared.refusal.Rule.{Rule}
use Rattle.fort_base.specs.declared.rules.TheConstants.{UNKNOWN_NAME, MISMATCH, NOT_ASSIGNABLE, SHADOWS}
use Rattle.fort_base.specs.declared.ty.Ty.{Ty}
use Rattle.fort_ops.specs.declared.op.Op.{Op}
use Rattle.fort_form.specs.declared.form.Update.{Update}
use Rattle.fort_form_typed.specs.declared.typed_form.Chosen.{Chosen}
use Rattle.fort_typing_rules.specs.declared.part.Part.{Part}
use Rattle.fort_typing_rules.specs.Elements.{RunBreaks, BesideBreaks}
use Rattle.fort_scope.specs.declared.binding.Binding.{Binding}
use Rattle.fort_form.specs.declared.form.Form.{Form, out-Form}
use Rattle.fort_form.specs.declared.form.Form.TheOpen.{Form-F}
use Rattle.fort_form.specs.declared.form.Item.{Item}
use Rattle.fort_form.specs.declared.form.Branch.{Branch}
use Rattle.fort_form.specs.declared.form.Generator.{Generator}
use Rattle.fort_form.specs.declared.form.TypeBranch.{TypeBranch}
use Rattle.fort_form_typed.specs.declared.typed_form.TypedForm.{TypedForm}
use Rattle.fort_typing_known.specs.declared.fault.Fault.{Fault}
use Rattle.fort_typing_known.specs.Known.{Knows}
use Rattle.fort_typing_known.specs.Names.{nothing, standing, is_visible}
use Rattle.fort_typing_known.specs.Sets.{operator_set}
use Rattle.fort_typing_rules.specs.Types.{zz32, unit, IsBelow, HasNoWidest, type_of, types_of, place_of, fault}
use Rattle.fort_typing_rules.specs.Calls.{Calls, CallBreaks}
use Rattle.fort_typing_rules.specs.Typing as rule
use Rattle.fort_typing_rules.specs.Breaking as breaking

module _ (k : Knows) where
  -- there is no widest type of an `if`
  abbrev pub NoWidestIf : List Binding → Place → List Branch → Form → Fault → Type 0
  NoWidestIf bs p branches d x = (tests : List TypedForm) × (values : List TypedForm)
      × (u : TypedForm) × rule.HasEach k (Calls k) bs rule.a_truth (map rule.test_of branches) tests
      × rule.HasEach k (Calls k) bs rule.a_value (map rule.value_of branches) values
      × rule.HasAs k (Calls k) bs rule.a_value d u
      × HasNoWidest k (types_of values ++ type_of u ∷ []) × (x ≡ fault MISMATCH p)

  abbrev pub IfBreaks : List Binding → Place → List Branch → Option Form → Fault → Type 0
  IfBreaks bs p branches None x =
      breaking.BreaksSome k bs (rule.below unit) (map rule.value_of branches) x
  IfBreaks bs p branches (Some d) x =
      breaking.BreaksSome k bs rule.a_value (map rule.value_of branches) x
      ⊎ (breaking.BreaksAs k bs rule.a_value d x ⊎ NoWidestIf bs p branches d x)

  abbrev pub DoBreaks : List Binding → List Form → Fault → Type 0
  DoBreaks bs [] x = ⊥
  DoBreaks bs (b ∷ []) x = breaking.BreaksAs k bs rule.a_value b x
  DoBreaks bs (a ∷ b ∷ others) x = breaking.BreaksSome k bs (rule.below unit) (a ∷ b ∷ others) x

  abbrev pub ElseBreaks : List Binding → Option Form → Fault → Type 0
  ElseBreaks bs None x = ⊥
  ElseBreaks bs (Some d) x = breaking.BreaksAs k bs rule.a_value d x

  abbrev pub FinallyBreaks : List Binding → Option Form → Fault → Type 0
  FinallyBreaks bs None x = ⊥
  FinallyBreaks bs (Some d) x = breaking.BreaksAs k bs (rule.below unit) d x

  abbrev pub NoWidestCase : List Binding → Place → Form → List Branch → Option Form → Fault → Type 0
  NoWidestCase bs p s branches other x = (u : TypedForm) × (cs : List Chosen)
      × (tests : List TypedForm) × (values : List TypedForm) × (w : Option TypedForm)
      × rule.HasAs k (Calls k) bs rule.an_operand s u
      × rule.HasClauses k (Calls k) bs u branches cs tests values
      × rule.HasElse k (Calls k) bs other w × HasNoWidest k (types_of values ++ rule.else_types w)
      × (x ≡ fault MISMATCH p)

  -- behind a subject that has a type
  abbrev pub TypecaseBreaks : List Binding → Place → Place → NameId → Form → List TypeBranch
      → Option Form → Fault → Type 0
  TypecaseBreaks bs p at name s branches other x = (u : TypedForm)
      × (is_visible k.facts bs name ≡ false) × rule.HasAs k (Calls k) bs rule.a_value s u
      × (breaking.BreaksCases k bs (Some (at, name)) branches x
      ⊎ (ElseBreaks (rule.with_clause bs (Some (at, name)) (type_of u)) other x
      ⊎ ((values : List TypedForm) × (w : Option TypedForm)
      × rule.HasCases k (Calls k) bs (Some (at, name)) branches values
      × rule.HasElse k (Calls k) (rule.with_clause bs (Some (at, name)) (type_of u)) other w
      × HasNoWidest k (types_of values ++ rule.else_types w) × (x ≡ fault MISMATCH p))))

  abbrev pub ShadowsCatch : List Binding → Option (Place × NameId) → Fault → Type 0
  ShadowsCatch bs None x = ⊥
  ShadowsCatch bs (Some (at, name)) x = (is_visible k.facts bs name ≡ true) × (x ≡ fault SHADOWS at)

  abbrev pub NoWidestTry : List Binding → Place → Form → Option (Place × NameId) → List TypeBranch
      → Option Form → Fault → Type 0
  NoWidestTry bs p b name branches last x = (u : TypedForm) × (values : List TypedForm)
      × (w : Option TypedForm) × rule.HasAs k (Calls k) bs rule.a_value b u
      × (rule.is_fresh k bs name ≡ true)
      × rule.AreExceptions k branches × rule.HasCases k (Calls k) bs name branches values
      × rule.HasFinally k (Calls k) bs last w × HasNoWidest k (type_of u ∷ types_of values)
      × (x ≡ fault MISMATCH p)

  abbrev pub Fixed : List Binding → Form → Fault → Type 0
  Fixed bs d x = (u : TypedForm) × rule.Has k (Calls k) bs d u × (rule.is_target k d u ≡ false)
      × (x ≡ fault NOT_ASSIGNABLE (place_of d))

  abbrev pub FixedName : List Binding → Form → Fault → Type 0
  FixedName bs d x = (name : NameId) × rule.Names k bs d name
      × (x ≡ fault NOT_ASSIGNABLE (place_of d))

  abbrev pub Unlike : List Binding → Form → Form → Fault → Type 0
  Unlike bs d v x = (u : TypedForm) × (w : TypedForm) × rule.Has k (Calls k) bs d u
      × (rule.is_target k d u ≡ true) × rule.Has k (Calls k) bs v w
      × (IsBelow k (type_of w) (type_of u) → ⊥) × (x ≡ fault MISMATCH (place_of v))

  abbrev pub AssignBreaks : List Binding → Form → Form → Update → Fault → Type 0
  AssignBreaks bs d v sign x = (rule.update_operator sign ≡ None)
      × (breaking.BreaksAs k bs rule.a_value v x ⊎ Unlike bs d v x)

  abbrev pub NoSum : List Binding → Form → Form → Op → Fault → Type 0
  NoSum bs d v op x = (u : TypedForm) × (w : TypedForm) × (r : Rule) × rule.Has k (Calls k) bs d u
      × (rule.is_target k d u ≡ true) × rule.HasAs k (Calls k) bs rule.an_operand v w
      × CallBreaks k (operator_set k.facts op 2) (type_of u ∷ type_of w ∷ []) r
      × (x ≡ fault r (place_of d))

  abbrev pub UnlikeSum : List Binding → Form → Form → Op → Fault → Type 0
  UnlikeSum bs d v op x = (u : TypedForm) × (w : TypedForm) × (result : Ty) × (widened : List Bool)
      × rule.Has k (Calls k) bs d u × (rule.is_target k d u ≡ true)
      × rule.HasAs k (Calls k) bs rule.an_operand v w
      × Calls k (operator_set k.facts op 2) (type_of u ∷ type_of w ∷ []) result widened
      × (IsBelow k result (type_of u) → ⊥) × (x ≡ fault MISMATCH (place_of d))

  abbrev pub UpdateBreaks : List Binding → Form → Form → Update → Fault → Type 0
  UpdateBreaks bs d v sign x = (op : Op) × (rule.update_operator sign ≡ Some op)
      × (breaking.BreaksAs k bs rule.an_operand v x ⊎ (NoSum bs d v op x ⊎ UnlikeSum bs d v op x))

  -- what a form breaks
  abbrev pub BreaksAt : List Binding → Form-F Form Item Branch Generator TypeBranch → Fault → Type 0
  BreaksAt bs (Form-F.Number p n) x = ⊥
  BreaksAt bs (Form-F.Text p n) x = ⊥
  BreaksAt bs (Form-F.Truth p b) x = ⊥
  BreaksAt bs (Form-F.Receiver p) x = (k.facts.owner ≡ None) × (x ≡ fault UNKNOWN_NAME p)
  BreaksAt bs (Form-F.Name p name) x = (standing k.facts bs name ≡ nothing)
      × (x ≡ fault UNKNOWN_NAME p)
  BreaksAt bs (Form-F.Parens p d) x = breaking.BreaksAs k bs rule.a_value d x
  BreaksAt bs (Form-F.Tuple p es) x = breaking.BreaksSome k bs rule.an_operand es x
  BreaksAt bs (Form-F.Operator p op es) x = breaking.BreaksSome k bs rule.an_operand es x
      ⊎ ((ts : List TypedForm) × (r : Rule) × rule.HasEach k (Calls k) bs rule.an_operand es ts
      × CallBreaks k (operator_set k.facts op (length ts)) (types_of ts) r × (x ≡ fault r p))
  BreaksAt bs (Form-F.Subscript p e) x = ⊥
  BreaksAt bs (Form-F.Power p e) x = ⊥
  BreaksAt bs (Form-F.Field p at name) x = ⊥
  BreaksAt bs (Form-F.Method p at name es) x = ⊥
  BreaksAt bs (Form-F.Fill p ty n v) x = breaking.BreaksAs k bs (rule.below zz32) n x
      ⊎ breaking.BreaksAs k bs (rule.below ty) v x
  BreaksAt bs (Form-F.Do p blocks) x = DoBreaks bs blocks x
  BreaksAt bs (Form-F.If p branches other) x =
      breaking.BreaksSome k bs rule.a_truth (map rule.test_of branches) x
      ⊎ IfBreaks bs p branches other x
  BreaksAt bs (Form-F.While p c b) x = breaking.BreaksAs k bs rule.a_truth c x
      ⊎ breaking.BreaksAs k bs (rule.below unit) b x
  BreaksAt bs (Form-F.Atomic p d) x = breaking.BreaksAs k bs rule.a_value d x
  BreaksAt bs (Form-F.Tryatomic p d) x = breaking.BreaksAs k bs rule.a_value d x
  BreaksAt bs (Form-F.Throw p d) x = breaking.BreaksAs k bs rule.an_exception d x
  BreaksAt bs (Form-F.Fn p ps d) x = breaking.BindingBreaks k bs (map rule.parameter_binding ps) x
      ⊎ ((inner : List Binding) × rule.Binds k bs (map rule.parameter_binding ps) inner
      × breaking.BreaksAs k inner rule.a_value d x)
  BreaksAt bs (Form-F.Chain p ops es) x = breaking.BreaksSome k bs rule.an_operand es x
      ⊎ breaking.ChainBreaks k bs ops es x
  BreaksAt bs (Form-F.Beside p es) x = breaking.BreaksParts k bs es x
      ⊎ ((ps : List Part) × breaking.AsksParts k bs es ps × BesideBreaks k (Calls k) ps x)
  BreaksAt bs (Form-F.Run p es) x = breaking.BreaksParts k bs es x
      ⊎ ((ps : List Part) × breaking.AsksParts k bs es ps × RunBreaks k (Calls k) ps x)
  BreaksAt bs (Form-F.Block p is) x = breaking.BreaksItems k bs is x
  BreaksAt bs (Form-F.For p gs b) x = breaking.BreaksSources k bs gs x
      ⊎ ((inner : List Binding) × (us : List TypedForm) × rule.HasSources k (Calls k) bs gs inner us
      × breaking.BreaksAs k inner (rule.below unit) b x)
  BreaksAt bs (Form-F.Case p s branches other) x = breaking.BreaksAs k bs rule.an_operand s x
      ⊎ (breaking.BreaksClauses k bs s branches x
      ⊎ (ElseBreaks bs other x ⊎ NoWidestCase bs p s branches other x))
  BreaksAt bs (Form-F.Typecase p at name s branches other) x =
      ((is_visible k.facts bs name ≡ true) × (x ≡ fault SHADOWS at))
      ⊎ (breaking.BreaksAs k bs rule.a_value s x ⊎ TypecaseBreaks bs p at name s branches other x)
  BreaksAt bs (Form-F.Try p b name branches last) x = breaking.BreaksAs k bs rule.a_value b x
      ⊎ (ShadowsCatch bs name x ⊎ (breaking.ExceptionBreaks k branches x
      ⊎ (((rule.is_fresh k bs name ≡ true) × breaking.BreaksCases k bs name branches x)
      ⊎ (FinallyBreaks bs last x ⊎ NoWidestTry bs p b name branches last x))))
  BreaksAt bs (Form-F.Reduce p r g d) x = breaking.BreaksSources k bs (g ∷ []) x
      ⊎ ((inner : List Binding) × (us : List TypedForm)
      × rule.HasSources k (Calls k) bs (g ∷ []) inner us
      × breaking.BreaksAs k inner (rule.reduction_want r) d x)
  BreaksAt bs (Form-F.Assign p d sign v) x = breaking.Breaks k bs d x
      ⊎ (Fixed bs d x
      ⊎ (FixedName bs d x ⊎ (AssignBreaks bs d v sign x ⊎ UpdateBreaks bs d v sign x)))

  view : {bs : List Binding} {e : Form} {x : Fault} → breaking.Breaks k bs e x
      → BreaksAt bs (out-Form e) x
  view {bs = bs} {x = x} (breaking.no_receiver p is_ h1 h2) =
      subst (λ y. BreaksAt bs y x) (sym is_) (h1, h2)
  view {bs = bs} {x = x} (breaking.no_name p name is_ h1 h2) =
      subst (λ y. BreaksAt bs y x) (sym is_) (h1, h2)
  view {bs = bs} {x = x} (breaking.in_parens p d is_ h1) = subst (λ y. BreaksAt bs y x) (sym is_) h1
  view {bs = bs} {x = x} (breaking.in_tuple p es is_ h1) = subst (λ y. BreaksAt bs y x) (sym is_) h1
  view {bs = bs} {x = x} (breaking.in_operator p op es is_ h1) =
      subst (λ y. BreaksAt bs y x) (sym is_) (inl h1)
  view {bs = bs} {x = x} (breaking.no_operator p op es ts r is_ h1 h2 h3) =
      subst (λ y. BreaksAt bs y x) (sym is_) (inr (ts, r, h1, h2, h3))
  view {bs = bs} {x = x} (breaking.in_chain p ops es is_ h1) =
      subst (λ y. BreaksAt bs y x) (sym is_) (inl h1)
  view {bs = bs} {x = x} (breaking.no_comparison p ops es is_ h1) =
      subst (λ y. BreaksAt bs y x) (sym is_) (inr h1)
  view {bs = bs} {x = x} (breaking.in_beside p es is_ h1) =
      subst (λ y. BreaksAt bs y x) (sym is_) (inl h1)
  view {bs = bs} {x = x} (breaking.no_beside p es ps is_ h1 h2) =
      subst (λ y. BreaksAt bs y x) (sym is_) (inr (ps, h1, h2))
  view {bs = bs} {x = x} (breaking.in_run p es is_ h1) =
      subst (λ y. BreaksAt bs y x) (sym is_) (inl h1)
  view {bs = bs} {x = x} (breaking.no_run p es ps is_ h1 h2) =
      subst (λ y. BreaksAt bs y x) (sym is_) (inr (ps, h1, h2))
  view {bs = bs} {x = x} (breaking.in_size p ty n v is_ h1) =
      subst (λ y. BreaksAt bs y x) (sym is_) (inl h1)
  view {bs = bs} {x = x} (breaking.in_fill p ty n v is_ h1) =
      subst (λ y. BreaksAt bs y x) (sym is_) (inr h1)
  view {bs = bs} {x = x} (breaking.in_block p is_s is_ h1) =
      subst (λ y. BreaksAt bs y x) (sym is_) h1
  view {bs = bs} {x = x} (breaking.in_do p b is_ h1) = subst (λ y. BreaksAt bs y x) (sym is_) h1
  view {bs = bs} {x = x} (breaking.in_also p a b others is_ h1) =
      subst (λ y. BreaksAt bs y x) (sym is_) h1
  view {bs = bs} {x = x} (breaking.in_if_test p branches other is_ h1) =
      subst (λ y. BreaksAt bs y x) (sym is_) (inl h1)
  view {bs = bs} {x = x} (breaking.in_if_alone p branches is_ h1) =
      subst (λ y. BreaksAt bs y x) (sym is_) (inr h1)
  view {bs = bs} {x = x} (breaking.in_if p branches d is_ h1) =
      subst (λ y. BreaksAt bs y x) (sym is_) (inr (inl h1))
  view {bs = bs} {x = x} (breaking.in_if_else p branches d is_ h1) =
      subst (λ y. BreaksAt bs y x) (sym is_) (inr (inr (inl h1)))
  view {bs = bs} {x = x} (breaking.no_widest_if p branches d tests values u is_ h1 h2 h3 h4 h5) =
      subst (λ y. BreaksAt bs y x) (sym is_)
      (inr (inr (inr (tests, values, u, h1, h2, h3, h4, h5))))
  view {bs = bs} {x = x} (breaking.in_while_test p c b is_ h1) =
      subst (λ y. BreaksAt bs y x) (sym is_) (inl h1)
  view {bs = bs} {x = x} (breaking.in_while p c b is_ h1) =
      subst (λ y. BreaksAt bs y x) (sym is_) (inr h1)
  view {bs = bs} {x = x} (breaking.in_sources p gs b is_ h1) =
      subst (λ y. BreaksAt bs y x) (sym is_) (inl h1)
  view {bs = bs} {x = x} (breaking.in_for p gs b inner us is_ h1 h2) =
      subst (λ y. BreaksAt bs y x) (sym is_) (inr (inner, us, h1, h2))
  view {bs = bs} {x = x} (breaking.in_subject p s branches other is_ h1) =
      subst (λ y. BreaksAt bs y x) (sym is_) (inl h1)
  view {bs = bs} {x = x} (breaking.in_clauses p s branches other is_ h1) =
      subst (λ y. BreaksAt bs y x) (sym is_) (inr (inl h1))
  view {bs = bs} {x = x} (breaking.in_case_else p s branches d is_ h1) =
      subst (λ y. BreaksAt bs y x) (sym is_) (inr (inr (inl h1)))
  view {bs = bs} {x =
      x} (breaking.no_widest_case p s branches other u cs tests values w is_ h1 h2 h3 h4 h5) =
      subst (λ y. BreaksAt bs y x) (sym is_)
      (inr (inr (inr (u, cs, tests, values, w, h1, h2, h3, h4, h5))))
  view {bs = bs} {x = x} (breaking.shadowing p at name s branches other is_ h1 h2) =
      subst (λ y. BreaksAt bs y x) (sym is_) (inl (h1, h2))
  view {bs = bs} {x = x} (breaking.in_typecase_subject p at name s branches other is_ h1) =
      subst (λ y. BreaksAt bs y x) (sym is_) (inr (inl h1))
  view {bs = bs} {x = x} (breaking.in_typecase p at name s branches other u is_ h1 h2 h3) =
      subst (λ y. BreaksAt bs y x) (sym is_) (inr (inr (u, h1, h2, inl h3)))
  view {bs = bs} {x = x} (breaking.in_typecase_else p at name s branches d u is_ h1 h2 h3) =
      subst (λ y. BreaksAt bs y x) (sym is_) (inr (inr (u, h1, h2, inr (inl h3))))
  view {bs = bs} {x =
      x} (breaking.no_widest_typecase p at name s branches other u values w is_ h1 h2 h3 h4 h5
      h6) = subst (λ y. BreaksAt bs y x) (sym is_)
      (inr (inr (u, h1, h2, inr (inr (values, w, h3, h4, h5, h6)))))
  view {bs = bs} {x = x} (breaking.in_try p b name branches last is_ h1) =
      subst (λ y. BreaksAt bs y x) (sym is_) (inl h1)
  view {bs = bs} {x = x} (breaking.shadowing_catch p at b name branches last is_ h1 h2) =
      subst (λ y. BreaksAt bs y x) (sym is_) (inr (inl (h1, h2)))
  view {bs = bs} {x = x} (breaking.no_exception p b name branches last is_ h1) =
      subst (λ y. BreaksAt bs y x) (sym is_) (inr (inr (inl h1)))
  view {bs = bs} {x = x} (breaking.in_catch p b name branches last is_ h1 h2) =
      subst (λ y. BreaksAt bs y x) (sym is_) (inr (inr (inr (inl (h1, h2)))))
  view {bs = bs} {x = x} (breaking.in_finally p b name branches d is_ h1) =
      subst (λ y. BreaksAt bs y x) (sym is_) (inr (inr (inr (inr (inl h1)))))
  view {bs = bs} {x =
      x} (breaking.no_widest_try p b name branches last u values w is_ h1 h2 h3 h4 h5 h6 h7) =
      subst (λ y. BreaksAt bs y x) (sym is_)
      (inr (inr (inr (inr (inr (u, values, w, h1, h2, h3, h4, h5, h6, h7))))))
  view {bs = bs} {x = x} (breaking.in_atomic p d is_ h1) = subst (λ y. BreaksAt bs y x) (sym is_) h1
  view {bs = bs} {x = x} (breaking.in_tryatomic p d is_ h1) =
      subst (λ y. BreaksAt bs y x) (sym is_) h1
  view {bs = bs} {x = x} (breaking.in_throw p d is_ h1) = subst (λ y. BreaksAt bs y x) (sym is_) h1
  view {bs = bs} {x = x} (breaking.in_parameters p ps d is_ h1) =
      subst (λ y. BreaksAt bs y x) (sym is_) (inl h1)
  view {bs = bs} {x = x} (breaking.in_function p ps d inner is_ h1 h2) =
      subst (λ y. BreaksAt bs y x) (sym is_) (inr (inner, h1, h2))
  view {bs = bs} {x = x} (breaking.in_source p r g d is_ h1) =
      subst (λ y. BreaksAt bs y x) (sym is_) (inl h1)
  view {bs = bs} {x = x} (breaking.in_reduced p r g d inner us is_ h1 h2) =
      subst (λ y. BreaksAt bs y x) (sym is_) (inr (inner, us, h1, h2))
  view {bs = bs} {x = x} (breaking.in_target p d v sign is_ h1) =
      subst (λ y. BreaksAt bs y x) (sym is_) (inl h1)
  view {bs = bs} {x = x} (breaking.fixed p d v sign u is_ h1 h2 h3) =
      subst (λ y. BreaksAt bs y x) (sym is_) (inr (inl (u, h1, h2, h3)))
  view {bs = bs} {x = x} (breaking.fixed_name p d v sign name is_ h1 h2) =
      subst (λ y. BreaksAt bs y x) (sym is_) (inr (inr (inl (name, h1, h2))))
  view {bs = bs} {x = x} (breaking.in_assigned p d v sign is_ h1 h2) =
      subst (λ y. BreaksAt bs y x) (sym is_) (inr (inr (inr (inl (h1, inl h2)))))
  view {bs = bs} {x = x} (breaking.unlike_assigned p d v sign u w is_ h1 h2 h3 h4 h5 h6) =
      subst (λ y. BreaksAt bs y x) (sym is_)
      (inr (inr (inr (inl (h1, inr (u, w, h2, h3, h4, h5, h6))))))
  view {bs = bs} {x = x} (breaking.in_updated p d v sign op is_ h1 h2) =
      subst (λ y. BreaksAt bs y x) (sym is_) (inr (inr (inr (inr (op, h1, inl h2)))))
  view {bs = bs} {x = x} (breaking.no_sum p d v sign op u w r is_ h1 h2 h3 h4 h5 h6) =
      subst (λ y. BreaksAt bs y x) (sym is_)
      (inr (inr (inr (inr (op, h1, inr (inl (u, w, r, h2, h3, h4, h5, h6)))))))
  view {bs = bs} {x =
      x} (breaking.unlike_sum p d v sign op u w result widened is_ h1 h2 h3 h4 h5 h6 h7) =
      subst (λ y. BreaksAt bs y x) (sym is_)
      (inr (inr (inr (inr (op, h1, inr (inr (u, w, result, widened, h2, h3, h4, h5, h6, h7)))))))

  pub view-at : (bs : List Binding) (e : Form) {y : Form-F Form Item Branch Generator TypeBranch}
      (x : Fault) → out-Form e ≡ y → breaking.Breaks k bs e x → BreaksAt bs y x
  view-at bs e x is b = subst (λ z. BreaksAt bs z x) is (view b)
