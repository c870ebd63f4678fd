-- What an assignment answers is exact where its parts are.
use Rattle.std.proofs.Common.{◌≡◌, ◌⊎◌, inl, inr, Bool, true, false, cond, ◌&&◌, List, [], ◌∷◌, Option, Some, None, refl, ap, ◌∙◌, sym, subst}
use Rattle.fort_base.specs.declared.ids.SetId.{SetId}
use Rattle.fort_base.specs.declared.refusal.Place.{Place}
use Rattle.fort_base.specs.declared.refusal.Rule.{Rule}
use Rattle.fort_base.specs.declared.rules.TheConstants.{MISMATCH, NOT_ASSIGNABLE}
use Rattle.fort_base.specs.declared.ty.Ty.{Ty}
use Rattle.fort_ops.specs.declared.op.Op.{Op}
use Rattle.fort_scope.specs.declared.binding.Binding.{Binding}
use Rattle.fort_form.specs.declared.form.Form.{Form, out-Form}
use Rattle.fort_form.specs.declared.form.Form.TheOpen.{Form-F}
use Rattle.fort_form.specs.declared.form.Update.{Update}
use Rattle.fort_form_typed.specs.declared.typed_form.TypedForm.{TypedForm, out-TypedForm}
use Rattle.fort_form_typed.specs.declared.typed_form.TypedForm.TheVariants as a_typed
use Rattle.fort_typing_known.specs.declared.fault.Fault.{Fault}
use Rattle.fort_typing_known.specs.Known.{Knows}
use Rattle.fort_typing_known.specs.Below.{is_below}
use Rattle.fort_typing_known.specs.Sets.{operator_set}
use Rattle.fort_typing_call.specs.Called.{called}
use Rattle.fort_typing_call.specs.declared.called.Called.{Called}
use Rattle.fort_typing_call.specs.declared.called.Called.TheVariants as a_call
use Rattle.fort_typing_rules.specs.declared.part.Meaning.{Meaning}
use Rattle.fort_typing_rules.specs.declared.part.Meaning.TheVariants as a_meaning
use Rattle.fort_typing_rules.specs.Calls.{Calls}
use Rattle.fort_typing_rules.specs.Types.{unit, type_of, place_of, fault, IsBelow}
use Rattle.fort_typing_rules.specs.Elements.{chosen}
use Rattle.fort_typing_rules.specs.Typing as rule
use Rattle.fort_typing_rules.specs.Breaking as breaking
use Rattle.fort_typing_meaning.specs.declared.frame.Want.TheVariants as a_want
use Rattle.fort_typing_meaning.specs.declared.frame.Slot.TheVariants as a_slot
use Rattle.fort_typing_meaning.specs.declared.frame.Frame.{Frame}
use Rattle.fort_typing_meaning.specs.declared.frame.Valued.{Valued}
use Rattle.fort_typing_meaning.specs.Faults.{with_fault, breaks}
use Rattle.fort_typing_meaning.specs.Tests.{value, refused, untyped, suits, valued, as_wanted, taken}
use Rattle.fort_typing_meaning.specs.Parts.{State, opened, is_broken, kept, kept_if, said, ask, as_wanted_below, targeted, take_assigned}
use Rattle.fort_typing_meaning.specs.Closing.{sum_by, assigned_by, assign_answer}
use Rattle.fort_typing_meaning.specs.Judging.{judged, takes_by, take_target, assigned_part}
use Rattle.fort_typing_law_rules.specs.Deciding.{IsType, AreTypes, IsAccepted, Decides}
use Rattle.fort_typing_law_rules.specs.Written.{IsWritten, AreBound}
use Rattle.fort_typing_law_rules.specs.Exact.{IsFirst, FormBreaks, IsSeen, a_type, a_name, a_postfix, a_fault, Answers, IsExactExpression}
use Rattle.fort_typing_law_rules.proofs.Deciding.{is_decided}
use Rattle.fort_typing_law_rules.proofs.Typed.{call-type, typed-of, typed-as}
use Rattle.fort_typing_law_rules.proofs.Answered.{value_, operand_, st, with_seen, at, target-is}
use Rattle.fort_typing_law_rules.proofs.Asking.{Asked, kept_there, lacking, ask-exact, place-is, breaks-of, one-type, never, never-named, apart, ValuedAs, got, missed, taken-is, below-is, as-never, one-as}
use Rattle.fort_typing_law_rules.proofs.Firsts.{alike, one_more, both}
use Rattle.fort_typing_law_rules.proofs.Views.{BreaksAt, Fixed, FixedName, Unlike, AssignBreaks, NoSum, UnlikeSum, UpdateBreaks}
use Rattle.fort_typing_law_rules.proofs.Steps.{typed-so, broken-so, refused-so, of-layer, only-left}
use Rattle.fort_typing_law_rules.proofs.Scopes.{not-both}

module _ (k : Knows) (A : IsAccepted k) (bs : List Binding) (B : AreBound k bs) (d v : Form)
    (W : IsWritten k d) (U : IsWritten k v) (X : IsExactExpression k d)
    (Y : IsExactExpression k v) where
  D : Decides k
  D = is_decided k A

  abbrev Has : TypedForm → Type 0
  Has u = rule.Has k (Calls k) bs d u

  abbrev Target : TypedForm → Type 0
  Target u = Has u × (rule.is_target k d u ≡ true)

  target-type : (u : TypedForm) → Has u → IsType k (type_of u)
  target-type u h = (typed-of k A h B W).0

  one-target : (u w : TypedForm) → Has u → Has w → u ≡ w
  one-target u w h g = one-type k A bs B d W X u w h g

  abbrev TargetBreaks : Fault → Type 0
  TargetBreaks f = breaking.Breaks k bs d f ⊎ (Fixed k bs d f ⊎ FixedName k bs d f)

  -- ---- the target

  data Targeted (found : Option Fault) (s : State) : Type 0 where
    has_target : (u : TypedForm) (m : Meaning) (new : Option Fault) → Has u
        → rule.is_target k d u ≡ true → ((f : Fault) → TargetBreaks f → ⊥)
        → IsFirst found TargetBreaks new → s ≡ with_seen k A m (kept a_slot.Head u opened) bs new
        → Targeted found s
    no_target : (f : Fault) (m : Meaning) (new : Option Fault) → TargetBreaks f
        → ((u : TypedForm) → Target u → ⊥) → IsFirst found TargetBreaks new
        → s ≡ with_seen k A m (is_broken opened) bs new → Targeted found s

  takes-is : (u : TypedForm)
      → takes_by k.facts (judged k.facts d) (a_meaning.Value u) ≡ rule.is_target k d u
  unfolding rule.is_target
  takes-is u = ap (λ c. c && rule.takes_at k.facts (out-TypedForm u)) (target-is k A d)

  own-place : (new : Option Fault)
      → breaks NOT_ASSIGNABLE (judged k.facts d).place new
      ≡ with_fault (fault NOT_ASSIGNABLE (place_of d)) new
  unfolding breaks
  own-place new = ap (λ (p : Place). with_fault (fault NOT_ASSIGNABLE p) new) (place-is k A d)

  abbrev here : Place
  here = (judged k.facts d).place

  own : Fault
  own = fault NOT_ASSIGNABLE (place_of d)

  targeted-by : (m : Meaning) (found new : Option Fault) → IsSeen k bs d m
      → IsFirst found (FormBreaks k bs d) new
      → Targeted found
      (targeted here (takes_by k.facts (judged k.facts d) m) m (with_seen k A m opened bs new))
  targeted-by m found new (a_type t e h) i =
      subst (λ (n : Meaning). Targeted found
      (targeted here (takes_by k.facts (judged k.facts d) n) n (with_seen k A n opened bs new)))
      (sym e)
      (subst (λ c. Targeted found
      (targeted here c (a_meaning.Value t)
      (with_seen k A (a_meaning.Value t) opened bs new))) (sym (takes-is t))
      (by (rule.is_target k d t) refl))
    where
      clean : IsFirst found (breaking.Breaks k bs d) new
      clean = alike found (FormBreaks k bs d) (breaking.Breaks k bs d) new
          (breaks-of k A bs B d W X) (λ f b. inl b) i

      by : (c : Bool) → rule.is_target k d t ≡ c
          → Targeted found
          (targeted here c (a_meaning.Value t) (with_seen k A (a_meaning.Value t) opened bs new))
      by true q =
          has_target t (a_meaning.Value t) new h q none
          (alike found (breaking.Breaks k bs d) TargetBreaks new (λ f b. inl b) from clean) refl
        where
          none : (f : Fault) → TargetBreaks f → ⊥
          none f (inl b) = never k A bs B d W X t h f b
          none f (inr (inl x)) =
              not-both q (ap (λ
              (u : TypedForm). rule.is_target k d u) (one-target t x.0 h x.1) ∙ x.2)
          none f (inr (inr x)) = apart k A bs B d W X t x.0 h x.1

          from : (f : Fault) → TargetBreaks f → breaking.Breaks k bs d f
          from f c = absurd (none f c)
      by false q =
          no_target (fault NOT_ASSIGNABLE (place_of d)) (a_meaning.Value t)
          (with_fault (fault NOT_ASSIGNABLE (place_of d)) new) (inr (inl (t, h, q, refl)))
          (λ u g. not-both g.1 (ap (λ
          (w : TypedForm). rule.is_target k d w) (one-target u t g.0 h) ∙ q))
          (alike found (λ f. breaking.Breaks k bs d f
          ⊎ (f ≡ fault NOT_ASSIGNABLE (place_of d))) TargetBreaks
          (with_fault (fault NOT_ASSIGNABLE (place_of d)) new) to from
          (both found new (with_fault (fault NOT_ASSIGNABLE (place_of d)) new)
          (breaking.Breaks k bs d) (λ f. f
          ≡ fault NOT_ASSIGNABLE (place_of d)) clean
          (one_more (fault NOT_ASSIGNABLE (place_of d)) new)))
          (ap (λ (n : Option Fault). with_seen k A (a_meaning.Value t) (is_broken opened) bs n)
          (own-place new))
        where
          to : (f : Fault) → breaking.Breaks k bs d f ⊎ (f ≡ fault NOT_ASSIGNABLE (place_of d))
              → TargetBreaks f
          to f (inl b) = inl b
          to f (inr x) = inr (inl (t, h, q, x))

          from : (f : Fault) → TargetBreaks f
              → breaking.Breaks k bs d f ⊎ (f ≡ fault NOT_ASSIGNABLE (place_of d))
          from f (inl b) = inl b
          from f (inr (inl x)) = inr x.3
          from f (inr (inr x)) = inr x.2
  targeted-by m found new (a_name name e g) i =
      subst (λ (n : Meaning). Targeted found
      (targeted here (takes_by k.facts (judged k.facts d) n) n (with_seen k A n opened bs new)))
      (sym e)
      (no_target (fault NOT_ASSIGNABLE (place_of d)) (a_meaning.Functions name)
      (with_fault (fault NOT_ASSIGNABLE (place_of d)) new) (inr (inr (name, g, refl)))
      (λ u h. apart k A bs B d W X u name h.0 g)
      (alike found (λ f. breaking.Breaks k bs d f
      ⊎ (f ≡ fault NOT_ASSIGNABLE (place_of d))) TargetBreaks
      (with_fault (fault NOT_ASSIGNABLE (place_of d)) new) to from
      (both found new (with_fault (fault NOT_ASSIGNABLE (place_of d)) new) (breaking.Breaks k bs d)
      (λ f. f ≡ fault NOT_ASSIGNABLE (place_of d))
      (alike found (FormBreaks k bs d) (breaking.Breaks k bs d) new (breaks-of k A bs B d W X)
      (λ f b. inl b) i) (one_more (fault NOT_ASSIGNABLE (place_of d)) new)))
      (ap (λ (n : Option Fault). with_seen k A (a_meaning.Functions name) (is_broken opened) bs n)
      (own-place new)))
    where
      to : (f : Fault) → breaking.Breaks k bs d f ⊎ (f ≡ fault NOT_ASSIGNABLE (place_of d))
          → TargetBreaks f
      to f (inl b) = inl b
      to f (inr x) = inr (inr (name, g, x))

      from : (f : Fault) → TargetBreaks f
          → breaking.Breaks k bs d f ⊎ (f ≡ fault NOT_ASSIGNABLE (place_of d))
      from f (inl b) = inl b
      from f (inr (inl x)) = inr x.3
      from f (inr (inr x)) = inr x.2
  targeted-by m found new (a_postfix p n) i = absurd (let e : true ≡ false = sym p ∙ X.0 in cc)
  targeted-by m found new (a_fault x e b) i =
      subst (λ (n : Meaning). Targeted found
      (targeted here (takes_by k.facts (judged k.facts d) n) n (with_seen k A n opened bs new)))
      (sym e)
      (no_target x a_meaning.Unknown new (inl (breaks-of k A bs B d W X x b))
      (λ u h. never k A bs B d W X u h.0 x (breaks-of k A bs B d W X x b))
      (alike found (FormBreaks k bs d) TargetBreaks new (λ f c. inl (breaks-of k A bs B d W X f c))
      from i) refl)
    where
      from : (f : Fault) → TargetBreaks f → FormBreaks k bs d f
      from f (inl c) = inl c
      from f (inr (inl c)) = absurd (never k A bs B d W X c.0 c.1 x (breaks-of k A bs B d W X x b))
      from f (inr (inr c)) =
          absurd (never-named k A bs B d W X c.0 c.1 x (breaks-of k A bs B d W X x b))

  target-exact : (found : Option Fault)
      → Targeted found
      (take_target k.facts (judged k.facts d) (said (judged k.facts d) (st opened bs found)))
  unfolding take_target said
  target-exact found =
      let x = X.1 bs B found
      in targeted-by ((judged k.facts d).answer bs found).seen found
      ((judged k.facts d).answer bs found).found x.seen x.first

  -- ---- what is assigned

  abbrev a_sum : Op → Type 0
  a_sum op = Unit {0}

  -- with an operator, or without one
  abbrev ValueBreaks : Option Op → Fault → Type 0
  ValueBreaks None f = breaking.BreaksAs k bs rule.a_value v f ⊎ Unlike k bs d v f
  ValueBreaks (Some op) f = breaking.BreaksAs k bs rule.an_operand v f

  abbrev Value : Option Op → TypedForm → TypedForm → Type 0
  Value None u w = rule.HasAs k (Calls k) bs (rule.below (type_of u)) v w
  Value (Some op) u w = rule.HasAs k (Calls k) bs rule.an_operand v w

  -- behind a target
  data Assigned (op : Option Op) (u : TypedForm) (mid : Option Fault) (s : State) : Type 0 where
    has_value : (w : TypedForm) (new : Option Fault) → Value op u w
        → ((f : Fault) → ValueBreaks op f → ⊥) → IsFirst mid (ValueBreaks op) new
        → s ≡ st (kept a_slot.Last w (kept a_slot.Head u opened)) bs new → Assigned op u mid s
    no_value : (f : Fault) (new : Option Fault) → ValueBreaks op f
        → IsFirst mid (ValueBreaks op) new → s ≡ st (is_broken (kept a_slot.Head u opened)) bs new
        → Assigned op u mid s

  -- behind none
  data Unassigned (op : Option Op) (mid : Option Fault) (s : State) : Type 0 where
    unassigned : (x : Frame) (new : Option Fault) → x.broken ≡ true
        → IsFirst mid (ValueBreaks op) new → s ≡ st x bs new → Unassigned op mid s

  module _ (u : TypedForm) (hu : Has u) (ht : rule.is_target k d u ≡ true) where
    below-to : (f : Fault) → breaking.BreaksAs k bs (rule.below (type_of u)) v f
        → ValueBreaks None f
    below-to f (breaking.inside b) = inl (breaking.inside b)
    below-to f (breaking.named name n x) = inl (breaking.named name n x)
    below-to f (breaking.unlike w hw n x) = inr (u, w, hu, ht, hw, n, x)

    below-from : (f : Fault) → ValueBreaks None f
        → breaking.BreaksAs k bs (rule.below (type_of u)) v f
    below-from f (inl (breaking.inside b)) = breaking.inside b
    below-from f (inl (breaking.named name n x)) = breaking.named name n x
    below-from f (inl (breaking.unlike w hw n x)) = absurd (n tt)
    below-from f (inr (t, w, h, q, hw, n, x)) =
        breaking.unlike w hw
        (λ b. n (subst (λ
        (z : TypedForm). IsBelow k (type_of w) (type_of z)) (one-target u t hu h) b)) x

    below-never : (w : TypedForm) → rule.HasAs k (Calls k) bs (rule.below (type_of u)) v w
        → (f : Fault) → ValueBreaks None f → ⊥
    below-never w h f b = as-never k A bs B v U Y (rule.below (type_of u)) w h f (below-from f b)

    kept-value : (mid : Option Fault) (x : Valued)
        → ValuedAs k A bs B v U Y (rule.below (type_of u)) mid x
        → Assigned None u mid
        (st (kept_if a_slot.Last x.node (kept a_slot.Head u opened)) bs x.found)
    kept-value mid x (got w e h i) =
        has_value w x.found h (below-never w h)
        (alike mid (breaking.BreaksAs k bs (rule.below (type_of u)) v) (ValueBreaks None) x.found
        below-to below-from i)
        (ap (λ (o : Option TypedForm). st (kept_if a_slot.Last o (kept a_slot.Head u opened)) bs
        x.found) e)
    kept-value mid x (missed f e b i) =
        no_value f x.found (below-to f b)
        (alike mid (breaking.BreaksAs k bs (rule.below (type_of u)) v) (ValueBreaks None) x.found
        below-to below-from i)
        (ap (λ (o : Option TypedForm). st (kept_if a_slot.Last o (kept a_slot.Head u opened)) bs
        x.found) e)

    assigned-exact : (op : Option Op) (m : Meaning) (mid : Option Fault)
        → Assigned op u mid
        (assigned_part k.facts op (judged k.facts v)
        (with_seen k A m (kept a_slot.Head u opened) bs mid))
    unfolding take_assigned said as_wanted_below ask
    assigned-exact None m mid =
        kept-value mid _ (below-is k A bs B v U Y (type_of u) mid (target-type u hu))
    assigned-exact (Some op) m mid =
        by (ask-exact k A bs B v U Y rule.an_operand a_want.Operand a_slot.Last
        (kept a_slot.Head u opened) mid operand_)
      where
        by : Asked k A bs B v U Y rule.an_operand a_slot.Last (kept a_slot.Head u opened) mid
            (ask k.facts a_slot.Last a_want.Operand (judged k.facts v)
            (st (kept a_slot.Head u opened) bs mid))
            → Assigned (Some op) u mid
            (ask k.facts a_slot.Last a_want.Operand (judged k.facts v)
            (st (kept a_slot.Head u opened) bs mid))
        by (kept_there w new h i e) =
            has_value w new h (as-never k A bs B v U Y rule.an_operand w h) i e
        by (lacking f new b i e) = no_value f new b i e

  kept-still : (o : Option TypedForm) → (kept_if a_slot.Last o (is_broken opened)).broken ≡ true
  kept-still None = refl
  kept-still (Some t) = refl

  value-found : (p : Place) (o : Option TypedForm) (n : Option Fault)
      → (as_wanted k.facts a_want.Value p o n).found ≡ n
  unfolding suits
  value-found p None n = refl
  value-found p (Some t) n = refl

  valued-first : (mid : Option Fault) (x : Valued) → ValuedAs k A bs B v U Y rule.a_value mid x
      → IsFirst mid (breaking.BreaksAs k bs rule.a_value v) x.found
  valued-first mid x (got t e h i) = i
  valued-first mid x (missed f e b i) = i

  value-first : (mid : Option Fault)
      → IsFirst mid (breaking.BreaksAs k bs rule.a_value v)
      (valued (judged k.facts v).place ((judged k.facts v).answer bs mid).seen
      ((judged k.facts v).answer bs mid).found).found
  unfolding taken
  value-first mid =
      let o = (judged k.facts v).answer bs mid in
      let x = valued (judged k.facts v).place o.seen o.found in
      subst (IsFirst mid (breaking.BreaksAs k bs rule.a_value v))
      (value-found (judged k.facts v).place x.node x.found)
      (valued-first mid _ (taken-is k A bs B v U Y rule.a_value a_want.Value mid value_))

  unassigned-exact : ((u : TypedForm) → Target u → ⊥)
      → (op : Option Op) (m : Meaning) (mid : Option Fault)
      → Unassigned op mid
      (assigned_part k.facts op (judged k.facts v) (with_seen k A m (is_broken opened) bs mid))
  unfolding take_assigned said ask
  unassigned-exact n None m mid =
      let o = (judged k.facts v).answer bs mid in
      let x = valued (judged k.facts v).place o.seen o.found in
      unassigned (kept_if a_slot.Last x.node (is_broken opened)) x.found (kept-still x.node)
      (alike mid (breaking.BreaksAs k bs rule.a_value v) (ValueBreaks None) x.found
      (λ f b. inl b) from (value-first mid)) refl
    where
      from : (f : Fault) → ValueBreaks None f → breaking.BreaksAs k bs rule.a_value v f
      from f (inl b) = b
      from f (inr (u, w, h, q, hw, l, x)) = absurd (n u (h, q))
  unassigned-exact n (Some op) m mid =
      by (ask-exact k A bs B v U Y rule.an_operand a_want.Operand a_slot.Last (is_broken opened) mid
      operand_)
    where
      by : Asked k A bs B v U Y rule.an_operand a_slot.Last (is_broken opened) mid
          (ask k.facts a_slot.Last a_want.Operand (judged k.facts v) (st (is_broken opened) bs mid))
          → Unassigned (Some op) mid
          (ask k.facts a_slot.Last a_want.Operand (judged k.facts v) (st (is_broken opened) bs mid))
      by (kept_there w new h i e) = unassigned (kept a_slot.Last w (is_broken opened)) new refl i e
      by (lacking f new b i e) = unassigned (is_broken (is_broken opened)) new refl i e

  -- ---- a whole assignment

  module _ (e : Form) (found : Option Fault) (p : Place) (sign : Update)
      (is : out-Form e ≡ Form-F.Assign p d sign v) (op : Option Op)
      (q : rule.update_operator sign ≡ op) where
    abbrev P : Fault → Type 0
    P f = TargetBreaks f ⊎ ValueBreaks op f

    abbrev OwnOf : Option Op → Fault → Type 0
    OwnOf None f = ⊥
    OwnOf (Some o) f = NoSum k bs d v o f ⊎ UnlikeSum k bs d v o f

    value-to : (o : Option Op) → rule.update_operator sign ≡ o → (f : Fault) → ValueBreaks o f
        → FormBreaks k bs e f
    value-to None r f (inl b) = inl (breaking.in_assigned p d v sign is r b)
    value-to None r f (inr (u, w, h, t, hw, n, x)) =
        inl (breaking.unlike_assigned p d v sign u w is r h t hw n x)
    value-to (Some o) r f b = inl (breaking.in_updated p d v sign o is r b)

    to : (f : Fault) → P f → FormBreaks k bs e f
    to f (inl (inl b)) = inl (breaking.in_target p d v sign is b)
    to f (inl (inr (inl x))) = inl (breaking.fixed p d v sign x.0 is x.1 x.2 x.3)
    to f (inl (inr (inr x))) = inl (breaking.fixed_name p d v sign x.0 is x.1 x.2)
    to f (inr b) = value-to op q f b

    assign-of : (o : Option Op) → rule.update_operator sign ≡ o → (f : Fault)
        → AssignBreaks k bs d v sign f → ValueBreaks o f ⊎ OwnOf o f
    assign-of None r f x = inl x.1
    assign-of (Some o) r f x = absurd (let z : None ≡ Some o = sym x.0 ∙ r in cc)

    update-of : (o : Option Op) → rule.update_operator sign ≡ o → (f : Fault)
        → UpdateBreaks k bs d v sign f → ValueBreaks o f ⊎ OwnOf o f
    update-of None r f x = absurd (let z : Some x.0 ≡ None = sym x.1 ∙ r in cc)
    update-of (Some o) r f (c, w, x) = by
        (let z : Some c ≡ Some o = sym w ∙ r in let y : c ≡ o = cc in y) x
      where
        by : c ≡ o
            → breaking.BreaksAs k bs rule.an_operand v f
            ⊎ (NoSum k bs d v c f ⊎ UnlikeSum k bs d v c f)
            → ValueBreaks (Some o) f ⊎ OwnOf (Some o) f
        by y (inl b) = inl b
        by y (inr b) = inr (subst (λ (z : Op). NoSum k bs d v z f ⊎ UnlikeSum k bs d v z f) y b)

    joined : (f : Fault) → ValueBreaks op f ⊎ OwnOf op f → P f ⊎ OwnOf op f
    joined f (inl b) = inl (inr b)
    joined f (inr b) = inr b

    from : (f : Fault) → FormBreaks k bs e f → P f ⊎ OwnOf op f
    from f b = by (only-left k A (of-layer k A bs e f is b))
      where
        by : BreaksAt k bs (Form-F.Assign p d sign v) f → P f ⊎ OwnOf op f
        by (inl x) = inl (inl (inl x))
        by (inr (inl x)) = inl (inl (inr (inl x)))
        by (inr (inr (inl x))) = inl (inl (inr (inr x)))
        by (inr (inr (inr (inl x)))) = joined f (assign-of op q f x)
        by (inr (inr (inr (inr x)))) = joined f (update-of op q f x)

    own-target : (o : Option Op) (f : Fault) → OwnOf o f → (u : TypedForm) × Target u
    own-target None f x = absurd x
    own-target (Some o) f (inl x) = (x.0, (x.3, x.4))
    own-target (Some o) f (inr x) = (x.0, (x.4, x.5))

    own-value : (o : Option Op) (f : Fault) → OwnOf o f → (g : Fault) → ValueBreaks o g → ⊥
    own-value None f x g b = x
    own-value (Some o) f (inl x) g b = as-never k A bs B v U Y rule.an_operand x.1 x.5 g b
    own-value (Some o) f (inr x) g b = as-never k A bs B v U Y rule.an_operand x.1 x.6 g b

    abbrev goal : Type 0
    goal = Answers k bs e found ((judged k.facts e).answer bs found)

    abbrev all_parts : State
    all_parts =
        assigned_part k.facts (rule.update_operator sign) (judged k.facts v)
        (take_target k.facts (judged k.facts d) (said (judged k.facts d) (st opened bs found)))

    part-by : (s t : State)
        → take_target k.facts (judged k.facts d) (said (judged k.facts d) (st opened bs found)) ≡ s
        → assigned_part k.facts op (judged k.facts v) s ≡ t → all_parts ≡ t
    part-by s t a b =
        ap (assigned_part k.facts (rule.update_operator sign) (judged k.facts v)) a ∙ ap (λ
        (o : Option Op). assigned_part k.facts o (judged k.facts v) s) q ∙ b

    broken-close : (x : Frame) (new : Option Fault) → x.broken ≡ true
        → cond x.broken (untyped new) (assign_answer k.facts (judged k.facts d).place sign x new)
        ≡ untyped new
    broken-close x new br =
        ap (λ c. cond c (untyped new) (assign_answer k.facts (judged k.facts d).place sign x new))
        br

    close-with : (u w : TypedForm) (new : Option Fault)
        → assign_answer k.facts (judged k.facts d).place sign
        (kept a_slot.Last w (kept a_slot.Head u opened)) new
        ≡ assigned_by k.facts (judged k.facts d).place op u w new
    unfolding assign_answer
    close-with u w new =
        ap (λ (o : Option Op). assigned_by k.facts (judged k.facts d).place o u w new) q

    -- the sum of `+=`
    module _ (o : Op) (r : op ≡ Some o) (u w : TypedForm) (hu : Has u)
        (ht : rule.is_target k d u ≡ true) (hw : rule.HasAs k (Calls k) bs rule.an_operand v w)
        (new : Option Fault) (i : IsFirst found P new)
        (answers : (judged k.facts e).answer bs found
        ≡ sum_by k.facts o (judged k.facts d).place u w
        (called k.facts (operator_set k.facts o 2) (type_of u ∷ type_of w ∷ [])) new) where
      abbrev set : SetId
      set = operator_set k.facts o 2

      abbrev types : List Ty
      types = type_of u ∷ type_of w ∷ []

      T : AreTypes k types
      T = (target-type u hu, ((typed-as k A hw B U).0, tt))

      qo : rule.update_operator sign ≡ Some o
      qo = q ∙ r

      own-of : (f : Fault) → FormBreaks k bs e f
          → P f ⊎ (NoSum k bs d v o f ⊎ UnlikeSum k bs d v o f)
      own-of f b =
          elim (from f b) [ inl x ↦ inl x | inr x ↦ inr (subst (λ (z : Option Op). OwnOf z f) r x) ]

      no-sum : (f : Fault) (x : NoSum k bs d v o f) → called k.facts set types ≡ a_call.Refused x.2
      no-sum f x =
          subst (λ (z : TypedForm). called k.facts set (type_of z ∷ type_of w ∷ [])
          ≡ a_call.Refused x.2) (one-target x.0 u x.3 hu)
          (subst (λ
          (z : TypedForm). called k.facts set (type_of x.0 ∷ type_of z ∷ [])
          ≡ a_call.Refused x.2) (one-as k A bs B v U Y rule.an_operand x.1 w x.5 hw)
          (D.refuses set (type_of x.0 ∷ type_of x.1 ∷ []) x.2 (
            target-type x.0 x.3,
            ((typed-as k A x.5 B U).0, tt),
          ) x.6))

      unlike-sum : (f : Fault) (x : UnlikeSum k bs d v o f)
          → called k.facts set types ≡ a_call.Result x.2 x.3
      unlike-sum f x =
          subst (λ (z : TypedForm). called k.facts set (type_of z ∷ type_of w ∷ [])
          ≡ a_call.Result x.2 x.3) (one-target x.0 u x.4 hu)
          (subst (λ
          (z : TypedForm). called k.facts set (type_of x.0 ∷ type_of z ∷ [])
          ≡ a_call.Result x.2 x.3) (one-as k A bs B v U Y rule.an_operand x.1 w x.6 hw)
          (D.calls set (type_of x.0 ∷ type_of x.1 ∷ []) x.2 x.3 (
            target-type x.0 x.4,
            ((typed-as k A x.6 B U).0, tt),
          ) x.7))

      sum-at : (rule_ : Rule)
          → refused rule_ (judged k.facts d).place new ≡ refused rule_ (place_of d) new
      sum-at rule_ = ap (λ (z : Place). refused rule_ z new) (place-is k A d)

      by-below : (result : Ty) (widened : List Bool)
          → called k.facts set types ≡ a_call.Result result widened → (c : Bool)
          → is_below k.facts result (type_of u) ≡ c → goal
      by-below result widened z true b =
          typed-so k A bs e found new P _ i to (a_typed.Update unit u (chosen set widened) w)
          (rule.update p d v sign o u w result widened is qo hu ht hw
          (D.has_call set types result widened T z)
          (D.told result (type_of u)
          (call-type k A set types result widened (D.has_call set types result widened T z))
          (target-type u hu) b) refl)
          back (answers ∙ ap (λ (c : Called). sum_by k.facts o (judged k.facts d).place u w c new) z
          ∙ ap (λ c. cond c (value (a_typed.Update unit u (chosen set widened) w) new)
          (refused MISMATCH (judged k.facts d).place new)) b)
        where
          contra : (f : Fault) → NoSum k bs d v o f ⊎ UnlikeSum k bs d v o f → ⊥
          contra f (inl x) =
              let y : a_call.Result result widened ≡ a_call.Refused x.2 = sym z ∙ no-sum f x
              in absurd cc
          contra f (inr x) =
              let y : a_call.Result x.2 x.3 ≡ a_call.Result result widened =
              sym (unlike-sum f x) ∙ z in
              let same : result ≡ x.2 = cc in
              x.8 (subst (λ
              (t : TypedForm). IsBelow k x.2 (type_of t)) (one-target u x.0 hu x.4)
              (subst (λ (t : Ty). IsBelow k t (type_of u)) same
              (D.told result (type_of u)
              (call-type k A set types result widened
              (D.has_call set types result widened T z)) (target-type u hu) b)))

          back : (f : Fault) → FormBreaks k bs e f → P f
          back f c = elim (own-of f c) [ inl x ↦ x | inr x ↦ absurd (contra f x) ]
      by-below result widened z false b =
          refused-so k A bs e found new P _ i to MISMATCH (place_of d)
          (inl (breaking.unlike_sum p d v sign o u w result widened is qo hu ht hw
          (D.has_call set types result widened T z) isnt refl)) back
          (answers ∙ ap (λ (c : Called). sum_by k.facts o (judged k.facts d).place u w c new) z
          ∙ ap (λ c. cond c (value (a_typed.Update unit u (chosen set widened) w) new)
          (refused MISMATCH (judged k.facts d).place new)) b ∙ sum-at MISMATCH)
        where
          isnt : IsBelow k result (type_of u) → ⊥
          isnt h = let y : true ≡ false =
              sym (D.below result (type_of u)
              (call-type k A set types result widened (D.has_call set types result widened T z))
              (target-type u hu) h) ∙ b in absurd cc

          own_is : (f : Fault) → NoSum k bs d v o f ⊎ UnlikeSum k bs d v o f
              → f ≡ fault MISMATCH (place_of d)
          own_is f (inl x) =
              let y : a_call.Result result widened ≡ a_call.Refused x.2 = sym z ∙ no-sum f x
              in absurd cc
          own_is f (inr x) = x.9

          back : (f : Fault) → FormBreaks k bs e f → P f ⊎ (f ≡ fault MISMATCH (place_of d))
          back f c = elim (own-of f c) [ inl x ↦ inl x | inr x ↦ inr (own_is f x) ]

      by-call : (c : Called) → called k.facts set types ≡ c → goal
      by-call (a_call.Result result widened) z =
          by-below result widened z (is_below k.facts result (type_of u)) refl
      by-call (a_call.Refused r1) z =
          refused-so k A bs e found new P _ i to r1 (place_of d)
          (inl (breaking.no_sum p d v sign o u w r1 is qo hu ht hw (D.breaks_call set types r1 T z)
          refl)) back
          (answers ∙ ap (λ
          (c : Called). sum_by k.facts o (judged k.facts d).place u w c new) z ∙ sum-at r1)
        where
          own_is : (f : Fault) → NoSum k bs d v o f ⊎ UnlikeSum k bs d v o f
              → f ≡ fault r1 (place_of d)
          own_is f (inl x) =
              let y : a_call.Refused x.2 ≡ a_call.Refused r1 = sym (no-sum f x) ∙ z
              in let s : x.2 ≡ r1 = cc in x.7 ∙ ap (λ (c : Rule). fault c (place_of d)) s
          own_is f (inr x) =
              let y : a_call.Refused r1 ≡ a_call.Result x.2 x.3 = sym z ∙ unlike-sum f x
              in absurd cc

          back : (f : Fault) → FormBreaks k bs e f → P f ⊎ (f ≡ fault r1 (place_of d))
          back f c = elim (own-of f c) [ inl x ↦ inl x | inr x ↦ inr (own_is f x) ]

      pub sum-exact : goal
      sum-exact = by-call (called k.facts set types) refl

    whole-by : (o : Option Op) → op ≡ o → (u w : TypedForm) (new : Option Fault) → Has u
        → rule.is_target k d u ≡ true → Value o u w → IsFirst found P new
        → (judged k.facts e).answer bs found
        ≡ assigned_by k.facts (judged k.facts d).place o u w new → goal
    whole-by None r u w new hu ht h i a =
        typed-so k A bs e found new P _ i to (a_typed.Assign unit u w)
        (rule.assign p d v sign u w is (q ∙ r) hu ht h refl) back a
      where
        back : (f : Fault) → FormBreaks k bs e f → P f
        back f c =
            elim (from f c) [
              | inl x ↦ x
              | inr x ↦ absurd (subst (λ (z : Option Op). OwnOf z f) r x)
            ]
    whole-by (Some o) r u w new hu ht h i a = sum-exact o r u w hu ht h new i a

    behind-target : (u : TypedForm) (m : Meaning) (mid : Option Fault) → Has u
        → rule.is_target k d u ≡ true → IsFirst found TargetBreaks mid
        → take_target k.facts (judged k.facts d) (said (judged k.facts d) (st opened bs found))
        ≡ with_seen k A m (kept a_slot.Head u opened) bs mid
        → Assigned op u mid
        (assigned_part k.facts op (judged k.facts v)
        (with_seen k A m (kept a_slot.Head u opened) bs mid)) → goal
    behind-target u m mid hu ht i a (has_value w new h n j b) =
        whole-by op refl u w new hu ht h (both found mid new TargetBreaks (ValueBreaks op) i j)
        (at k A e bs found (st (kept a_slot.Last w (kept a_slot.Head u opened)) bs new) is
        (part-by _ _ a b) (close-with u w new))
    behind-target u m mid hu ht i a (no_value f new c j b) =
        broken-so k A bs e found new P _ (both found mid new TargetBreaks (ValueBreaks op) i j) to f
        (inr c) back
        (at k A e bs found (st (is_broken (kept a_slot.Head u opened)) bs new) is (part-by _ _ a b)
        (broken-close (is_broken (kept a_slot.Head u opened)) new refl))
      where
        back : (g : Fault) → FormBreaks k bs e g → P g
        back g z = elim (from g z) [ inl x ↦ x | inr x ↦ absurd (own-value op g x f c) ]

    behind-none : (f : Fault) (m : Meaning) (mid : Option Fault) → TargetBreaks f
        → ((u : TypedForm) → Target u → ⊥) → IsFirst found TargetBreaks mid
        → take_target k.facts (judged k.facts d) (said (judged k.facts d) (st opened bs found))
        ≡ with_seen k A m (is_broken opened) bs mid
        → Unassigned op mid
        (assigned_part k.facts op (judged k.facts v) (with_seen k A m (is_broken opened) bs mid))
        → goal
    behind-none f m mid c n i a (unassigned x new br j b) =
        broken-so k A bs e found new P _ (both found mid new TargetBreaks (ValueBreaks op) i j) to f
        (inl c) back
        (at k A e bs found (st x bs new) is (part-by _ _ a b) (broken-close x new br))
      where
        back : (g : Fault) → FormBreaks k bs e g → P g
        back g z =
            elim (from g z) [ inl y ↦ y | inr y ↦ absurd (let t = own-target op g y in n t.0 t.1) ]

    pub assign-exact : goal
    assign-exact = by (target-exact found)
      where
        by : Targeted found
            (take_target k.facts (judged k.facts d) (said (judged k.facts d) (st opened bs found)))
            → Answers k bs e found ((judged k.facts e).answer bs found)
        by (has_target u m mid hu ht n i a) =
            behind-target u m mid hu ht i a (assigned-exact u hu ht op m mid)
        by (no_target f m mid c n i a) = behind-none f m mid c n i a (unassigned-exact n op m mid)
