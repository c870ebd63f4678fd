-- What a form answers is exact where its parts are: the forms without parts, of one part, of two,
-- and those of a list of parts.
use Rattle.std.proofs.Common.{◌≡◌, ◌⊎◌, inl, inr, ℕ, Bool, true, cond, List, [], ◌∷◌, length, map, Option, Some, None, refl, ap, ◌∙◌, sym, subst}
use Rattle.fort_base.specs.declared.ids.NameId.{NameId}
use Rattle.fort_base.specs.declared.ids.SetId.{SetId}
use Rattle.fort_base.specs.declared.ids.TypeId.{TypeId}
use Rattle.fort_base.specs.declared.refusal.Place.{Place}
use Rattle.fort_base.specs.declared.refusal.Rule.{Rule}
use Rattle.fort_base.specs.declared.rules.TheConstants.{UNKNOWN_NAME}
use Rattle.fort_base.specs.declared.ty.Ty.{Ty}
use Rattle.fort_base.specs.declared.ty.Ty.TheVariants as a_type
use Rattle.fort_ops.specs.declared.op.Op.{Op}
use Rattle.fort_scope.specs.declared.binding.Binding.{Binding}
use Rattle.fort_form.specs.declared.form.Form.{Form, out-Form}
use Rattle.fort_form.specs.declared.form.Form.TheOpen.{Form-F}
use Rattle.fort_form.specs.declared.form.Item.{Item}
use Rattle.fort_form.specs.declared.form.Branch.{Branch}
use Rattle.fort_form.specs.declared.form.Generator.{Generator}
use Rattle.fort_form.specs.declared.form.TypeBranch.{TypeBranch}
use Rattle.fort_form_typed.specs.declared.typed_form.TypedForm.{TypedForm}
use Rattle.fort_form_typed.specs.declared.typed_form.TypedForm.TheVariants as a_typed
use Rattle.fort_typing_known.specs.declared.fault.Fault.{Fault}
use Rattle.fort_typing_known.specs.Known.{Knows}
use Rattle.fort_typing_known.specs.Names.{Standing, a_binding, a_field, a_variable, a_single, functions, nothing, standing}
use Rattle.fort_typing_known.specs.Sets.{operator_set}
use Rattle.fort_typing_call.specs.Called.{called}
use Rattle.fort_typing_call.specs.declared.called.Called.{Called}
use Rattle.fort_typing_call.specs.declared.called.Called.TheVariants as a_call
use Rattle.fort_typing_rules.specs.declared.part.Meaning.{Meaning}
use Rattle.fort_typing_rules.specs.declared.part.Meaning.TheVariants as a_meaning
use Rattle.fort_typing_rules.specs.Calls.{Calls}
use Rattle.fort_typing_rules.specs.Types.{zz32, unit, type_of, types_of, fault}
use Rattle.fort_typing_rules.specs.Elements.{chosen}
use Rattle.fort_typing_rules.specs.Typing as rule
use Rattle.fort_typing_rules.specs.Breaking as breaking
use Rattle.fort_typing_meaning.specs.declared.frame.Want.{Want}
use Rattle.fort_typing_meaning.specs.declared.frame.Want.TheVariants as a_want
use Rattle.fort_typing_meaning.specs.declared.frame.Slot.TheVariants as a_slot
use Rattle.fort_typing_meaning.specs.declared.frame.Frame.{Frame}
use Rattle.fort_typing_meaning.specs.declared.frame.Outcome.{Outcome}
use Rattle.fort_typing_meaning.specs.Faults.{with_fault, breaks}
use Rattle.fort_typing_meaning.specs.Tests.{value, refused, untyped}
use Rattle.fort_typing_meaning.specs.Parts.{State, begin, opened, is_broken, kept, ask, ask_below, asks}
use Rattle.fort_typing_meaning.specs.Joining.{operation, operation_by}
use Rattle.fort_typing_meaning.specs.Closing.{close_at, means, receiver, name_by, made_outcome}
use Rattle.fort_typing_meaning.specs.Judging.{inside, judged}
use Rattle.fort_typing_law_rules.specs.Deciding.{IsType, IsAccepted}
use Rattle.fort_typing_law_rules.specs.Written.{IsWritten, AreBound}
use Rattle.fort_typing_law_rules.specs.Exact.{IsFirst, PostfixBreaks, FormBreaks, IsSeen, a_type, a_name, a_postfix, a_fault, Answers, IsExactExpression, AreExact}
use Rattle.fort_typing_law_rules.proofs.Deciding.{is_decided}
use Rattle.fort_typing_law_rules.proofs.Written.{AllWritten}
use Rattle.fort_typing_law_rules.proofs.Typed.{all-types, typed-each}
use Rattle.fort_typing_law_rules.proofs.Answered.{Same, value_, operand_, unit_, small_, truth_, exception_, st, kepts-first, mapped, at, closes-name}
use Rattle.fort_typing_law_rules.proofs.Asking.{Asked, kept_there, lacking, ask-exact, ask-below-exact, AskedAll, kept_all, some_lacking, asks-exact, each-never, one-each}
use Rattle.fort_typing_law_rules.proofs.Firsts.{no_more, alike, one_more, both}
use Rattle.fort_typing_law_rules.proofs.Views.{BreaksAt, view-at}

module _ (k : Knows) (A : IsAccepted k) where
  -- ---- how a form comes to its answer

  module _ (bs : List Binding) (e : Form) (found new : Option Fault) (P : Fault → Type 0)
      (o : Outcome) (i : IsFirst found P new) (to : (f : Fault) → P f → FormBreaks k bs e f) where
    -- it has a type, or is a postfix
    pub seen-so : (m : Meaning) → IsSeen k bs e m → ((f : Fault) → FormBreaks k bs e f → P f)
        → o ≡ means m new → Answers k bs e found o
    seen-so m s from eq =
        subst (Answers k bs e found) (sym eq)
        (record { seen = s; first = alike found P (FormBreaks k bs e) new to from i })

    pub typed-so : (t : TypedForm) → rule.Has k (Calls k) bs e t
        → ((f : Fault) → FormBreaks k bs e f → P f) → o ≡ value t new → Answers k bs e found o
    typed-so t h from eq = seen-so (a_meaning.Value t) (a_type t refl h) from eq

    -- a part breaks a rule
    pub broken-so : (f : Fault) → P f → ((f : Fault) → FormBreaks k bs e f → P f) → o ≡ untyped new
        → Answers k bs e found o
    broken-so f b from eq = seen-so a_meaning.Unknown (a_fault f refl (to f b)) from eq

    -- its own rule is broken
    pub refused-so : (r : Rule) (p : Place) → FormBreaks k bs e (fault r p)
        → ((f : Fault) → FormBreaks k bs e f → P f ⊎ (f ≡ fault r p)) → o ≡ refused r p new
        → Answers k bs e found o
    unfolding breaks
    refused-so r p own from eq = subst (Answers k bs e found) (sym eq)
        (record {
          seen = a_fault (fault r p) refl own;
          first = alike found (λ f. P f
              ⊎ (f ≡ fault r p)) (FormBreaks k bs e) (with_fault (fault r p) new) all from
              (both found new (with_fault (fault r p) new) P (λ f. f
              ≡ fault r p) i (one_more (fault r p) new));
        })
      where
        all : (f : Fault) → P f ⊎ (f ≡ fault r p) → FormBreaks k bs e f
        all f (inl b) = to f b
        all f (inr q) = subst (FormBreaks k bs e) (sym q) own

  -- what a form breaks whose layer is this one
  pub of-layer : (bs : List Binding) (e : Form) {y : Form-F Form Item Branch Generator TypeBranch}
      (f : Fault) → out-Form e ≡ y → FormBreaks k bs e f
      → BreaksAt k bs y f ⊎ PostfixBreaks k bs y f
  of-layer bs e f is (inl b) = inl (view-at k bs e f is b)
  of-layer bs e f is (inr b) = inr (subst (λ z. PostfixBreaks k bs z f) is b)

  neither : {C : Type 0} → ⊥ ⊎ ⊥ → C
  neither (inl b) = absurd b
  neither (inr b) = absurd b

  pub only-left : {C : Type 0} → C ⊎ ⊥ → C
  only-left (inl b) = b
  only-left (inr b) = absurd b

  pub only-right : {C : Type 0} → ⊥ ⊎ C → C
  only-right (inl b) = absurd b
  only-right (inr b) = b

  abbrev None-breaks : Fault → Type 0
  None-breaks f = ⊥

  nothing-more : (found : Option Fault) → IsFirst found None-breaks found
  nothing-more found = no_more found None-breaks (λ f b. b)

  -- ---- forms without parts

  pub number-exact : (bs : List Binding) (e : Form) (found : Option Fault) (p : Place) (n : ℕ)
      → out-Form e ≡ Form-F.Number p n → Answers k bs e found ((judged k.facts e).answer bs found)
  number-exact bs e found p n is =
      typed-so bs e found found None-breaks _ (nothing-more found) (λ f b. absurd b) _
      (rule.number p n is refl) (λ f b. neither (of-layer bs e f is b))
      (at k A e bs found (st opened bs found) is refl refl)

  pub text-exact : (bs : List Binding) (e : Form) (found : Option Fault) (p : Place) (n : ℕ)
      → out-Form e ≡ Form-F.Text p n → Answers k bs e found ((judged k.facts e).answer bs found)
  text-exact bs e found p n is =
      typed-so bs e found found None-breaks _ (nothing-more found) (λ f b. absurd b) _
      (rule.words p n is refl) (λ f b. neither (of-layer bs e f is b))
      (at k A e bs found (st opened bs found) is refl refl)

  pub truth-exact : (bs : List Binding) (e : Form) (found : Option Fault) (p : Place) (b : Bool)
      → out-Form e ≡ Form-F.Truth p b → Answers k bs e found ((judged k.facts e).answer bs found)
  truth-exact bs e found p b is =
      typed-so bs e found found None-breaks _ (nothing-more found) (λ f b. absurd b) _
      (rule.truth p b is refl) (λ f b. neither (of-layer bs e f is b))
      (at k A e bs found (st opened bs found) is refl refl)

  pub field-exact : (bs : List Binding) (e : Form) (found : Option Fault) (p spot : Place)
      (name : NameId) → out-Form e ≡ Form-F.Field p spot name
      → Answers k bs e found ((judged k.facts e).answer bs found)
  field-exact bs e found p spot name is =
      seen-so bs e found found None-breaks _ (nothing-more found) (λ f b. absurd b)
      (a_meaning.Field spot name)
      (a_postfix (ap rule.postfix_at is) (rule.a_field_of p spot name is refl))
      (λ f b. neither (of-layer bs e f is b))
      (at k A e bs found (st opened bs found) is refl refl)

  pub receiver-exact : (bs : List Binding) (e : Form) (found : Option Fault) (p : Place)
      → out-Form e ≡ Form-F.Receiver p → Answers k bs e found ((judged k.facts e).answer bs found)
  receiver-exact bs e found p is = by k.facts.owner refl
    where
      by : (o : Option TypeId) → k.facts.owner ≡ o
          → Answers k bs e found ((judged k.facts e).answer bs found)
      by (Some o) own =
          typed-so bs e found found None-breaks _ (nothing-more found) (λ f b. absurd b) _
          (rule.receiver p o is own refl)
          (λ f b. let c = only-left (of-layer bs e f is b) in let q : None ≡ Some o = sym c.0 ∙ own
          in absurd cc)
          (at k A e bs found (st opened bs found) is refl (ap (λ x. receiver p x found) own))
      by None own =
          refused-so bs e found found None-breaks _ (nothing-more found) (λ f b. absurd b)
          UNKNOWN_NAME p (inl (breaking.no_receiver p is own refl))
          (λ f b. inr (only-left (of-layer bs e f is b)).1)
          (at k A e bs found (st opened bs found) is refl (ap (λ x. receiver p x found) own))

  pub name-exact : (bs : List Binding) (e : Form) (found : Option Fault) (p : Place) (name : NameId)
      → out-Form e ≡ Form-F.Name p name → Answers k bs e found ((judged k.facts e).answer bs found)
  name-exact bs e found p name is = by (standing k.facts bs name) refl
    where
      answer : (s : Standing) → standing k.facts bs name ≡ s
          → (judged k.facts e).answer bs found ≡ name_by p name s found
      answer s h =
          at k A e bs found (st opened bs found) is refl (closes-name k A p name bs found s h)

      others : (s : Standing) → standing k.facts bs name ≡ s → (nothing ≡ s → ⊥) → (f : Fault)
          → FormBreaks k bs e f → None-breaks f
      others s h n f b = let c = only-left (of-layer bs e f is b) in n (sym c.0 ∙ h)

      by : (s : Standing) → standing k.facts bs name ≡ s
          → Answers k bs e found ((judged k.facts e).answer bs found)
      by (a_binding b) h =
          typed-so bs e found found None-breaks _ (nothing-more found) (λ f b. absurd b) _
          (rule.local p name b is h refl) (others (a_binding b) h (λ q. absurd cc))
          (answer (a_binding b) h)
      by (a_field o f) h =
          typed-so bs e found found None-breaks _ (nothing-more found) (λ f b. absurd b) _
          (rule.own p name o f is h refl) (others (a_field o f) h (λ q. absurd cc))
          (answer (a_field o f) h)
      by (a_variable n v) h =
          typed-so bs e found found None-breaks _ (nothing-more found) (λ f b. absurd b) _
          (rule.top p name n v is h refl) (others (a_variable n v) h (λ q. absurd cc))
          (answer (a_variable n v) h)
      by (a_single o) h =
          typed-so bs e found found None-breaks _ (nothing-more found) (λ f b. absurd b) _
          (rule.single p name o is h refl) (others (a_single o) h (λ q. absurd cc))
          (answer (a_single o) h)
      by functions h =
          seen-so bs e found found None-breaks _ (nothing-more found) (λ f b. absurd b)
          (a_meaning.Functions name) (a_name name refl (rule.names p is h))
          (others functions h (λ q. absurd cc)) (answer functions h)
      by nothing h =
          refused-so bs e found found None-breaks _ (nothing-more found) (λ f b. absurd b)
          UNKNOWN_NAME p (inl (breaking.no_name p name is h refl))
          (λ f b. inr (only-left (of-layer bs e f is b)).1) (answer nothing h)

  -- ---- forms of one part

  module _ (bs : List Binding) (B : AreBound k bs) (e : Form) (found : Option Fault) (d : Form)
      (W : IsWritten k d) (X : IsExactExpression k d) where
    one-part : (y : Form-F Form Item Branch Generator TypeBranch) → out-Form e ≡ y
        → (want : rule.Want) (w : Want) → Same want w → (made : TypedForm → Meaning)
        → (inside k.facts (mapped k A y) (begin bs found)
        ≡ ask k.facts a_slot.Head w (judged k.facts d) (st opened bs found))
        → ((t : TypedForm) (new : Option Fault)
        → close_at k.facts (mapped k A y) (kept a_slot.Head t opened) bs new
        ≡ means (made t) new)
        → ((new : Option Fault)
        → close_at k.facts (mapped k A y) (is_broken opened) bs new ≡ untyped new)
        → ((t : TypedForm) → rule.HasAs k (Calls k) bs want d t → IsSeen k bs e (made t))
        → ((f : Fault) → breaking.BreaksAs k bs want d f → FormBreaks k bs e f)
        → ((f : Fault) → FormBreaks k bs e f → breaking.BreaksAs k bs want d f)
        → Answers k bs e found ((judged k.facts e).answer bs found)
    one-part y is want w m made parts some none seen to from =
        by (ask-exact k A bs B d W X want w a_slot.Head opened found m)
      where
        by : Asked k A bs B d W X want a_slot.Head opened found
            (ask k.facts a_slot.Head w (judged k.facts d) (st opened bs found))
            → Answers k bs e found ((judged k.facts e).answer bs found)
        by (kept_there t new h i eq) =
            seen-so bs e found new (breaking.BreaksAs k bs want d) _ i to (made t) (seen t h) from
            (at k A e bs found _ is (parts ∙ eq) (some t new))
        by (lacking f new b i eq) =
            broken-so bs e found new (breaking.BreaksAs k bs want d) _ i to f b from
            (at k A e bs found _ is (parts ∙ eq) (none new))

    pub parens-exact : (p : Place) → out-Form e ≡ Form-F.Parens p d
        → Answers k bs e found ((judged k.facts e).answer bs found)
    parens-exact p is =
        one-part (Form-F.Parens p d) is rule.a_value a_want.Value value_ (λ t. a_meaning.Value t)
        refl (λ t new. refl) (λ new. refl)
        (λ t h. a_type t refl (rule.parens p d is h)) (λ f b. inl (breaking.in_parens p d is b))
        (λ f b. only-left (of-layer bs e f is b))

    pub atomic-exact : (p : Place) → out-Form e ≡ Form-F.Atomic p d
        → Answers k bs e found ((judged k.facts e).answer bs found)
    atomic-exact p is =
        one-part (Form-F.Atomic p d) is rule.a_value a_want.Value value_
        (λ t. a_meaning.Value (a_typed.Atomic (type_of t) t)) refl (λ t new. refl) (λ new. refl)
        (λ t h. a_type (a_typed.Atomic (type_of t) t) refl (rule.atomic p d t is h refl))
        (λ f b. inl (breaking.in_atomic p d is b)) (λ f b. only-left (of-layer bs e f is b))

    pub tryatomic-exact : (p : Place) → out-Form e ≡ Form-F.Tryatomic p d
        → Answers k bs e found ((judged k.facts e).answer bs found)
    tryatomic-exact p is =
        one-part (Form-F.Tryatomic p d) is rule.a_value a_want.Value value_
        (λ t. a_meaning.Value (a_typed.Tryatomic (type_of t) t)) refl (λ t new. refl) (λ new. refl)
        (λ t h. a_type (a_typed.Tryatomic (type_of t) t) refl (rule.tryatomic p d t is h refl))
        (λ f b. inl (breaking.in_tryatomic p d is b)) (λ f b. only-left (of-layer bs e f is b))

    pub throw-exact : (p : Place) → out-Form e ≡ Form-F.Throw p d
        → Answers k bs e found ((judged k.facts e).answer bs found)
    throw-exact p is =
        one-part (Form-F.Throw p d) is rule.an_exception a_want.Exception exception_
        (λ t. a_meaning.Value (a_typed.Throw a_type.Nothing t)) refl (λ t new. refl) (λ new. refl)
        (λ t h. a_type (a_typed.Throw a_type.Nothing t) refl (rule.throw p d t is h refl))
        (λ f b. inl (breaking.in_throw p d is b)) (λ f b. only-left (of-layer bs e f is b))

    pub do-exact : (p : Place) → out-Form e ≡ Form-F.Do p (d ∷ []) → Answers k bs e found ((judged k.facts e).answer bs found)
    do-exact p is = one-part (Form-F.Do p (d ∷ [])) is rule.a_value a_want.Value value_ (λ t. a_meaning.Value t) refl (λ t new. refl) (λ new. refl)
        (λ t h. a_type t refl (rule.do_one p d is h)) (λ f b. inl (breaking.in_do p d is b))
        (λ f b. only-left (of-layer bs e f is b))

    pub subscript-exact : (p : Place) → out-Form e ≡ Form-F.Subscript p d
        → Answers k bs e found ((judged k.facts e).answer bs found)
    subscript-exact p is =
        one-part (Form-F.Subscript p d) is (rule.below zz32) a_want.Small small_
        (λ t. a_meaning.Index t) refl (λ t new. refl) (λ new. refl)
        (λ t h. a_postfix (ap rule.postfix_at is) (rule.an_index p d t is h refl))
        (λ f b. inr (subst (λ z. PostfixBreaks k bs z f) (sym is) b))
        (λ f b. only-right (of-layer bs e f is b))

    pub power-exact : (p : Place) → out-Form e ≡ Form-F.Power p d
        → Answers k bs e found ((judged k.facts e).answer bs found)
    power-exact p is =
        one-part (Form-F.Power p d) is rule.an_operand a_want.Operand operand_
        (λ t. a_meaning.Exponent t) refl (λ t new. refl) (λ new. refl)
        (λ t h. a_postfix (ap rule.postfix_at is) (rule.an_exponent p d t is h refl))
        (λ f b. inr (subst (λ z. PostfixBreaks k bs z f) (sym is) b))
        (λ f b. only-right (of-layer bs e f is b))

  -- ---- forms of a list of parts

  module _ (bs : List Binding) (B : AreBound k bs) (e : Form) (found : Option Fault)
      (ds : List Form) (W : AllWritten k ds) (X : AreExact k ds) where
    -- the list, and what the form is made of it
    list-of : (y : Form-F Form Item Branch Generator TypeBranch) → out-Form e ≡ y
        → (want : rule.Want) (w : Want) → Same want w → (made : List TypedForm → Meaning)
        → (inside k.facts (mapped k A y) (begin bs found)
        ≡ asks k.facts a_slot.First w (map (judged k.facts) ds) (st opened bs found))
        → ((ts : List TypedForm) (new : Option Fault)
        → close_at k.facts (mapped k A y) (record opened { first = ts }) bs new
        ≡ means (made ts) new)
        → ((x : Frame) (new : Option Fault) → x.broken ≡ true
        → close_at k.facts (mapped k A y) x bs new ≡ untyped new)
        → ((ts : List TypedForm) → rule.HasEach k (Calls k) bs want ds ts → IsSeen k bs e (made ts))
        → ((f : Fault) → breaking.BreaksSome k bs want ds f → FormBreaks k bs e f)
        → ((f : Fault) → FormBreaks k bs e f → breaking.BreaksSome k bs want ds f)
        → Answers k bs e found ((judged k.facts e).answer bs found)
    list-of y is want w m made parts all none seen to from =
        by (asks-exact k A bs B want w a_slot.First m ds opened found W X)
      where
        by : AskedAll k A bs want a_slot.First ds opened found
            (asks k.facts a_slot.First w (map (judged k.facts) ds) (st opened bs found))
            → Answers k bs e found ((judged k.facts e).answer bs found)
        by (kept_all ts new h i eq) =
            seen-so bs e found new (breaking.BreaksSome k bs want ds) _ i to (made ts) (seen ts h)
            from
            (at k A e bs found (st (record opened { first = ts }) bs new) is (parts ∙ eq ∙ ap (λ
            (x : Frame). st x bs new) (kepts-first ts opened)) (all ts new))
        by (some_lacking f new x b i eq br) =
            broken-so bs e found new (breaking.BreaksSome k bs want ds) _ i to f b from
            (at k A e bs found _ is (parts ∙ eq) (none x new br))

    unbroken : (o : Outcome) (x : Frame) (new : Option Fault) → x.broken ≡ true
        → cond x.broken (untyped new) o ≡ untyped new
    unbroken o x new br = ap (λ c. cond c (untyped new) o) br

    pub tuple-exact : (p : Place) → out-Form e ≡ Form-F.Tuple p ds
        → Answers k bs e found ((judged k.facts e).answer bs found)
    tuple-exact p is =
        list-of (Form-F.Tuple p ds) is rule.an_operand a_want.Operand operand_
        (λ ts. a_meaning.Value (a_typed.Tuple (a_type.Tuple (types_of ts)) ts)) refl
        (λ ts new. refl) (λ x new br. unbroken _ x new br)
        (λ ts h. a_type (a_typed.Tuple (a_type.Tuple (types_of ts)) ts) refl
        (rule.tuple p ds ts is h refl)) (λ f b. inl (breaking.in_tuple p ds is b))
        (λ f b. only-left (of-layer bs e f is b))

    pub method-exact : (p spot : Place) (name : NameId) → out-Form e ≡ Form-F.Method p spot name ds
        → Answers k bs e found ((judged k.facts e).answer bs found)
    method-exact p spot name is =
        list-of (Form-F.Method p spot name ds) is rule.an_operand a_want.Operand operand_
        (λ ts. a_meaning.Method spot name ts) refl (λ ts new. refl)
        (λ x new br. unbroken _ x new br)
        (λ ts h. a_postfix (ap rule.postfix_at is) (rule.a_method_of p spot name ds ts is h refl))
        (λ f b. inr (subst (λ z. PostfixBreaks k bs z f) (sym is) b))
        (λ f b. only-right (of-layer bs e f is b))

    operation-so : (set : SetId) (ts : List TypedForm) (p : Place) (new : Option Fault) (c : Called)
        → called k.facts set (types_of ts) ≡ c
        → made_outcome (operation k.facts set ts p) new ≡ made_outcome (operation_by set ts p c) new
    unfolding operation
    operation-so set ts p new c q =
        ap (λ (x : Called). made_outcome (operation_by set ts p x) new) q

    -- an operator: the call of its set
    pub operator-exact : (p : Place) (op : Op) → out-Form e ≡ Form-F.Operator p op ds
        → Answers k bs e found ((judged k.facts e).answer bs found)
    operator-exact p op is =
        by (asks-exact k A bs B rule.an_operand a_want.Operand a_slot.First operand_ ds opened found
        W X)
      where
        Some-breaks : Fault → Type 0
        Some-breaks f = breaking.BreaksSome k bs rule.an_operand ds f

        to : (f : Fault) → Some-breaks f → FormBreaks k bs e f
        to f b = inl (breaking.in_operator p op ds is b)

        set : List TypedForm → SetId
        set ts = operator_set k.facts op (length ts)

        closes : (ts : List TypedForm) (new : Option Fault)
            → rule.HasEach k (Calls k) bs rule.an_operand ds ts → IsFirst found Some-breaks new
            → (judged k.facts e).answer bs found
            ≡ made_outcome (operation k.facts (set ts) ts p) new → (c : Called)
            → called k.facts (set ts) (types_of ts) ≡ c
            → Answers k bs e found ((judged k.facts e).answer bs found)
        closes ts new h i eq (a_call.Result result widened) q =
            let T = all-types k A ts (typed-each k A h B W) in
            let c = (is_decided k A).has_call (set ts) (types_of ts) result widened T q in
            typed-so bs e found new Some-breaks _ i to
            (a_typed.Operation result (chosen (set ts) widened) ts)
            (rule.operator p op ds ts result widened is h c refl) from (eq
            ∙ operation-so (set ts) ts p new (a_call.Result result widened) q)
          where
            from : (f : Fault) → FormBreaks k bs e f → Some-breaks f
            from f b = pick (only-left (of-layer bs e f is b))
              where
                pick : BreaksAt k bs (Form-F.Operator p op ds) f → Some-breaks f
                pick (inl c) = c
                pick (inr (us, r, g, c, w)) =
                    let same =
                    one-each k A bs B rule.an_operand a_want.Operand a_slot.First operand_ ds us
                    ts W X g h in
                    let n : called k.facts (set us) (types_of us) ≡ a_call.Refused r =
                    (is_decided k A).refuses (set us) (types_of us) r
                    (all-types k A us (typed-each k A g B W)) c in
                    let n' : called k.facts (set ts) (types_of ts) ≡ a_call.Refused r =
                    subst (λ (vs : List TypedForm). called k.facts (set vs) (types_of vs)
                    ≡ a_call.Refused r) same n in
                    absurd (let z : a_call.Result result widened ≡ a_call.Refused r = sym q ∙ n'
                    in cc)
        closes ts new h i eq (a_call.Refused r) q =
            let T = all-types k A ts (typed-each k A h B W) in
            let c = (is_decided k A).breaks_call (set ts) (types_of ts) r T q in
            refused-so bs e found new Some-breaks _ i to r p
            (inl (breaking.no_operator p op ds ts r is h c refl)) from (eq
            ∙ operation-so (set ts) ts p new (a_call.Refused r) q)
          where
            from : (f : Fault) → FormBreaks k bs e f → Some-breaks f ⊎ (f ≡ fault r p)
            from f b = pick (only-left (of-layer bs e f is b))
              where
                pick : BreaksAt k bs (Form-F.Operator p op ds) f → Some-breaks f ⊎ (f ≡ fault r p)
                pick (inl c) = inl c
                pick (inr (us, s, g, c, w)) =
                    let same =
                    one-each k A bs B rule.an_operand a_want.Operand a_slot.First operand_ ds us
                    ts W X g h in
                    let n : called k.facts (set us) (types_of us) ≡ a_call.Refused s =
                    (is_decided k A).refuses (set us) (types_of us) s
                    (all-types k A us (typed-each k A g B W)) c in
                    let n' : called k.facts (set ts) (types_of ts) ≡ a_call.Refused s =
                    subst (λ (vs : List TypedForm). called k.facts (set vs) (types_of vs)
                    ≡ a_call.Refused s) same n in
                    let z : a_call.Refused s ≡ a_call.Refused r = sym n' ∙ q in
                    let y : s ≡ r = cc in
                    inr (w ∙ ap (λ (x : Rule). fault x p) y)

        by : AskedAll k A bs rule.an_operand a_slot.First ds opened found
            (asks k.facts a_slot.First a_want.Operand (map (judged k.facts) ds)
            (st opened bs found)) → Answers k bs e found ((judged k.facts e).answer bs found)
        by (kept_all ts new h i eq) = closes ts new h i
            (at k A e bs found (st (record opened { first = ts }) bs new) is (eq ∙ ap (λ
            (x : Frame). st x bs new) (kepts-first ts opened)) refl)
            (called k.facts (set ts) (types_of ts)) refl
        by (some_lacking f new x b i eq br) =
            broken-so bs e found new Some-breaks _ i to f b from
            (at k A e bs found _ is eq (unbroken _ x new br))
          where
            from : (g : Fault) → FormBreaks k bs e g → Some-breaks g
            from g c = pick (only-left (of-layer bs e g is c))
              where
                pick : BreaksAt k bs (Form-F.Operator p op ds) g → Some-breaks g
                pick (inl h) = h
                pick (inr (us, s, h, z, w)) =
                    absurd (each-never k A bs B rule.an_operand a_want.Operand a_slot.First operand_
                    ds us W X h f b)

  pub also-exact : (bs : List Binding) → AreBound k bs
      → (e : Form) (found : Option Fault) (p : Place) (a b : Form) (others : List Form)
      → AllWritten k (a ∷ b ∷ others) → AreExact k (a ∷ b ∷ others)
      → out-Form e ≡ Form-F.Do p (a ∷ b ∷ others)
      → Answers k bs e found ((judged k.facts e).answer bs found)
  also-exact bs B e found p a b others W X is =
      list-of bs B e found (a ∷ b ∷ others) W X (Form-F.Do p (a ∷ b ∷ others)) is (rule.below unit)
      a_want.Unit unit_ (λ ts. a_meaning.Value (a_typed.Also unit ts)) refl (λ ts new. refl)
      (λ x new br. ap (λ c. cond c (untyped new) (value (a_typed.Also unit x.first) new)) br)
      (λ ts h. a_type (a_typed.Also unit ts) refl (rule.do_also p a b others ts is h refl))
      (λ f c. inl (breaking.in_also p a b others is c))
      (λ f c. only-left (of-layer bs e f is c))

  -- ---- forms of two parts

  module _ (bs : List Binding) (B : AreBound k bs) (e : Form) (found : Option Fault) (c d : Form)
      (W : IsWritten k c) (V : IsWritten k d) (X : IsExactExpression k c)
      (Y : IsExactExpression k d) where
    two-parts : (y : Form-F Form Item Branch Generator TypeBranch) → out-Form e ≡ y
        → (want other : rule.Want) (w : Want) → Same want w → (second : State → State)
        → (made : TypedForm → TypedForm → TypedForm)
        → ((x : Frame) (mid : Option Fault)
        → Asked k A bs B d V Y other a_slot.Last x mid (second (st x bs mid)))
        → (inside k.facts (mapped k A y) (begin bs found)
        ≡ second (ask k.facts a_slot.Head w (judged k.facts c) (st opened bs found)))
        → ((t u : TypedForm) (new : Option Fault)
        → close_at k.facts (mapped k A y) (kept a_slot.Last u (kept a_slot.Head t opened)) bs
        new ≡ value (made t u) new)
        → ((t : TypedForm) (new : Option Fault)
        → close_at k.facts (mapped k A y) (is_broken (kept a_slot.Head t opened)) bs new
        ≡ untyped new)
        → ((u : TypedForm) (new : Option Fault)
        → close_at k.facts (mapped k A y) (kept a_slot.Last u (is_broken opened)) bs new
        ≡ untyped new)
        → ((new : Option Fault)
        → close_at k.facts (mapped k A y) (is_broken (is_broken opened)) bs new ≡ untyped new)
        → ((t u : TypedForm) → rule.HasAs k (Calls k) bs want c t
        → rule.HasAs k (Calls k) bs other d u → rule.Has k (Calls k) bs e (made t u))
        → ((f : Fault) → breaking.BreaksAs k bs want c f ⊎ breaking.BreaksAs k bs other d f
        → FormBreaks k bs e f)
        → ((f : Fault) → FormBreaks k bs e f
        → breaking.BreaksAs k bs want c f ⊎ breaking.BreaksAs k bs other d f)
        → Answers k bs e found ((judged k.facts e).answer bs found)
    two-parts y is want other w m second made asked parts whole first_only second_only none has to
        from = by (ask-exact k A bs B c W X want w a_slot.Head opened found m)
      where
        Either : Fault → Type 0
        Either f = breaking.BreaksAs k bs want c f ⊎ breaking.BreaksAs k bs other d f

        goal : Type 0
        goal = Answers k bs e found ((judged k.facts e).answer bs found)

        joined : (mid new : Option Fault) → IsFirst found (breaking.BreaksAs k bs want c) mid
            → IsFirst mid (breaking.BreaksAs k bs other d) new → IsFirst found Either new
        joined mid new i j =
            both found mid new (breaking.BreaksAs k bs want c) (breaking.BreaksAs k bs other d) i j

        after_kept : (t : TypedForm) (mid : Option Fault) → rule.HasAs k (Calls k) bs want c t
            → IsFirst found (breaking.BreaksAs k bs want c) mid
            → inside k.facts (mapped k A y) (begin bs found)
            ≡ second (st (kept a_slot.Head t opened) bs mid)
            → Asked k A bs B d V Y other a_slot.Last (kept a_slot.Head t opened) mid
            (second (st (kept a_slot.Head t opened) bs mid)) → goal
        after_kept t mid h i eq (kept_there u new g j eq2) =
            typed-so bs e found new Either _ (joined mid new i j) to (made t u) (has t u h g) from
            (at k A e bs found _ is (eq ∙ eq2) (whole t u new))
        after_kept t mid h i eq (lacking f new b j eq2) =
            broken-so bs e found new Either _ (joined mid new i j) to f (inr b) from
            (at k A e bs found _ is (eq ∙ eq2) (first_only t new))

        after_lacking : (g : Fault) (mid : Option Fault) → breaking.BreaksAs k bs want c g
            → IsFirst found (breaking.BreaksAs k bs want c) mid
            → inside k.facts (mapped k A y) (begin bs found) ≡ second (st (is_broken opened) bs mid)
            → Asked k A bs B d V Y other a_slot.Last (is_broken opened) mid
            (second (st (is_broken opened) bs mid)) → goal
        after_lacking g mid b i eq (kept_there u new h j eq2) =
            broken-so bs e found new Either _ (joined mid new i j) to g (inl b) from
            (at k A e bs found _ is (eq ∙ eq2) (second_only u new))
        after_lacking g mid b i eq (lacking f new b2 j eq2) =
            broken-so bs e found new Either _ (joined mid new i j) to g (inl b) from
            (at k A e bs found _ is (eq ∙ eq2) (none new))

        by : Asked k A bs B c W X want a_slot.Head opened found
            (ask k.facts a_slot.Head w (judged k.facts c) (st opened bs found)) → goal
        by (kept_there t mid h i eq) =
            after_kept t mid h i (parts ∙ ap second eq) (asked (kept a_slot.Head t opened) mid)
        by (lacking g mid b i eq) =
            after_lacking g mid b i (parts ∙ ap second eq) (asked (is_broken opened) mid)

    pub while-exact : (p : Place) → out-Form e ≡ Form-F.While p c d
        → Answers k bs e found ((judged k.facts e).answer bs found)
    while-exact p is =
        two-parts (Form-F.While p c d) is rule.a_truth (rule.below unit) a_want.Truth truth_
        (ask k.facts a_slot.Last a_want.Unit (judged k.facts d)) (λ t u. a_typed.While unit t u)
        (λ x mid. ask-exact k A bs B d V Y (rule.below unit) a_want.Unit a_slot.Last x mid unit_)
        refl (λ t u new. refl) (λ t new. refl) (λ u new. refl) (λ new. refl)
        (λ t u h g. rule.while_do p c d t u is h g refl) to
        (λ f b. only-left (of-layer bs e f is b))
      where
        to : (f : Fault)
            → breaking.BreaksAs k bs rule.a_truth c f ⊎ breaking.BreaksAs k bs (rule.below unit) d f
            → FormBreaks k bs e f
        to f (inl b) = inl (breaking.in_while_test p c d is b)
        to f (inr b) = inl (breaking.in_while p c d is b)

    pub fill-exact : (p : Place) (ty : Ty) → IsType k ty → out-Form e ≡ Form-F.Fill p ty c d
        → Answers k bs e found ((judged k.facts e).answer bs found)
    fill-exact p ty T is =
        two-parts (Form-F.Fill p ty c d) is (rule.below zz32) (rule.below ty) a_want.Small small_
        (ask_below k.facts ty (judged k.facts d)) (λ t u. a_typed.Fill (a_type.Array ty) ty t u)
        (λ x mid. ask-below-exact k A bs B d V Y ty x mid T) refl (λ t u new. refl) (λ t new. refl)
        (λ u new. refl) (λ new. refl)
        (λ t u h g. rule.fill p ty c d t u is h g refl) to (λ f b. only-left (of-layer bs e f is b))
      where
        to : (f : Fault)
            → breaking.BreaksAs k bs (rule.below zz32) c f
            ⊎ breaking.BreaksAs k bs (rule.below ty) d f → FormBreaks k bs e f
        to f (inl b) = inl (breaking.in_size p ty c d is b)
        to f (inr b) = inl (breaking.in_fill p ty c d is b)
