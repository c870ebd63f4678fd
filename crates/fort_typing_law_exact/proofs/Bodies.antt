-- Bodies: each has a type below its written result, or breaks a rule, as it is computed.
use Rattle.std.proofs.Common.{◌≡◌, ◌<◌, Bool, true, false, cond, List, [], length, map, Option, Some, None, refl, ap, ◌∙◌, sym, subst}
use Rattle.fort_base.specs.declared.ids.SetId.{SetId}
use Rattle.fort_base.specs.declared.ids.TypeId.{TypeId}
use Rattle.fort_base.specs.declared.ty.Ty.{Ty}
use Rattle.fort_scope.specs.declared.binding.Binding.{Binding}
use Rattle.fort_form.specs.declared.component.BodyForm.{BodyForm}
use Rattle.fort_form_typed.specs.declared.typed_form.TypedForm.{TypedForm}
use Rattle.fort_typing_known.specs.declared.fault.Fault.{Fault}
use Rattle.fort_typing_known.specs.Known.{Knows, within}
use Rattle.fort_typing_rules.specs.Calls.{Calls, plain, widening}
use Rattle.fort_typing_rules.specs.Typing as rule
use Rattle.fort_typing_rules.specs.Breaking as breaking
use Rattle.fort_typing_rules.specs.Components.{HasBody, body, BodyBreaks, parameters, within_}
use Rattle.fort_typing_meaning.specs.declared.frame.Valued.{Valued}
use Rattle.fort_typing_meaning.specs.Parts.{State, opened, said, bind_all, as_wanted_below}
use Rattle.fort_typing_meaning.specs.Judging.{judged}
use Rattle.fort_typing_law_rules.specs.Deciding.{IsType, IsAccepted}
use Rattle.fort_typing_law_rules.specs.Written.{AreBound}
use Rattle.fort_typing_law_rules.specs.Exact.{IsFirst, IsExactExpression}
use Rattle.fort_typing_law_rules.proofs.Typed.{binds-bound, parameters-bound}
use Rattle.fort_typing_law_rules.proofs.Answered.{st, binds-is}
use Rattle.fort_typing_law_rules.proofs.Asking.{ValuedAs, got, missed, below-is, as-never, one-as}
use Rattle.fort_typing_law_rules.proofs.Firsts.{alike}
use Rattle.fort_typing_law_rules.proofs.Scopes.{BoundAll, all_bound, one_taken, bind-all-exact, binds-once, lost_frame}
use Rattle.fort_typing_law_rules.proofs.Shaped.{shaped_are_exact}
use Rattle.fort_typing_meaning.specs.Whole.{body_in, judged_body}
use Rattle.fort_typing_law_exact.specs.Ready.{IsBodyReady}
use Rattle.fort_typing_law_exact.proofs.MoreCalls.{has_as}
use Rattle.fort_typing_law_exact.proofs.Declared.{Told, has_type, has_none}

-- ---- in the declaration of a type

-- a call has the same there
there : (k : Knows) (o : Option TypeId) (set : SetId) (types : List Ty) (result : Ty)
    (widened : List Bool) → Calls k set types result widened
    → Calls (within k o) set types result widened
there k o set types result widened (plain s i d at best stands r w) = plain s i d at best stands r w
there k o set types result widened
    (widening s i j p d wide at none least first are best stands r w) =
    widening s i j p d wide at none least first are best stands r w

back : (k : Knows) (o : Option TypeId) (set : SetId) (types : List Ty) (result : Ty)
    (widened : List Bool) → Calls (within k o) set types result widened
    → Calls k set types result widened
back k o set types result widened (plain s i d at best stands r w) = plain s i d at best stands r w
back k o set types result widened
    (widening s i j p d wide at none least first are best stands r w) =
    widening s i j p d wide at none least first are best stands r w

-- what is accepted is accepted there, where the type is one of the component
accepted-within : (k : Knows) (o : Option TypeId) → IsAccepted k
    → ((t : TypeId) → o ≡ Some t → t.0 < length k.declared) → IsAccepted (within k o)
accepted-within k o A l = record {
  sound = A.sound;
  rows = A.rows;
  built_in = A.built_in;
  objects = A.objects;
  made = A.made;
  kept = A.kept;
  fields = A.fields;
  variables = A.variables;
  enclosed = l;
}

module _ (k : Knows) (A : IsAccepted k) (b : BodyForm) (R : IsBodyReady k b) where
  abbrev j : Knows
  j = within k b.owner

  abbrev new : List Binding
  new = map rule.parameter_binding b.parameters

  B : IsAccepted j
  B = accepted-within k b.owner A R.owner

  X : IsExactExpression j b.body
  X = shaped_are_exact j B b.body R.written R.shaped

  bound : {inner : List Binding} → rule.Binds j [] new inner → AreBound j inner
  bound h = binds-bound j B h tt (parameters-bound j B b.parameters R.parameters)

  abbrev Lost : List Binding → Option Fault → State
  Lost cs now = st (lost_frame opened) cs now

  -- names that are bound break no rule in that
  binds-never : (inner : List Binding) → rule.Binds j [] new inner → (f : Fault)
      → breaking.BindingBreaks j [] new f → ⊥
  binds-never inner h f c = by (bind-all-exact j B new [] opened None refl)
    where
      by : BoundAll j B [] new opened None (bind_all j.facts new (st opened [] None)) → ⊥
      by (all_bound all g n q) = n f c
      by (one_taken g now cs d i q) =
          let l : true ≡ false =
          ap (λ (s : State). s.frame.lost) (sym q ∙ binds-is j B h opened None refl) in absurd cc

  pub body-once : (t u : TypedForm) → HasBody k b t → HasBody k b u → t ≡ u
  body-once t u (body all h g) (body more i c) =
      one-as j B all (bound h) b.body R.written X (rule.below b.result) t u
      (has_as j (Calls k) (Calls j) (there k b.owner) g)
      (subst (λ
      (bs : List Binding). rule.HasAs j (Calls j) bs (rule.below b.result) b.body u)
      (binds-once j B i h) (has_as j (Calls k) (Calls j) (there k b.owner) c))

  pub body-never : (t : TypedForm) → HasBody k b t → (f : Fault) → BodyBreaks k b f → ⊥
  body-never t (body all h g) f (parameters c) = binds-never all h f c
  body-never t (body all h g) f (within_ more i c) =
      as-never j B all (bound h) b.body R.written X (rule.below b.result) t
      (has_as j (Calls k) (Calls j) (there k b.owner) g) f
      (subst (λ
      (bs : List Binding). breaking.BreaksAs j bs (rule.below b.result) b.body f)
      (binds-once j B i h) c)

  module _ (found : Option Fault) where
    abbrev Goal : Valued → Type 0
    Goal v = Told (HasBody k b) (BodyBreaks k b) found v

    in-body : (inner : List Binding) (h : rule.Binds j [] new inner)
        (n : (f : Fault) → breaking.BindingBreaks j [] new f → ⊥) (v : Valued)
        → ValuedAs j B inner (bound h) b.body R.written X (rule.below b.result) found v → Goal v
    in-body inner h n v w = by w
      where
        from : (f : Fault) → BodyBreaks k b f
            → breaking.BreaksAs j inner (rule.below b.result) b.body f
        from f (parameters c) = absurd (n f c)
        from f (within_ more i c) =
            subst (λ (bs : List Binding). breaking.BreaksAs j bs (rule.below b.result) b.body f)
            (binds-once j B i h) c

        first : IsFirst found (breaking.BreaksAs j inner (rule.below b.result) b.body) v.found
            → IsFirst found (BodyBreaks k b) v.found
        first i =
            alike found (breaking.BreaksAs j inner (rule.below b.result) b.body) (BodyBreaks k b)
            v.found (λ f c. within_ inner h c) from i

        by : ValuedAs j B inner (bound h) b.body R.written X (rule.below b.result) found v → Goal v
        by (got t e g i) =
            has_type t e (body inner h (has_as j (Calls j) (Calls k) (back k b.owner) g)) (first i)
        by (missed x e c i) = has_none x e (within_ inner h c) (first i)

    -- What a body answers.
    pub body-told : Goal (judged_body k.facts b found)
    unfolding judged_body as_wanted_below said
    body-told = by (bind-all-exact j B new [] opened found refl)
      where
        by : BoundAll j B [] new opened found (bind_all j.facts new (st opened [] found))
            → Goal (body_in j.facts b (bind_all j.facts new (st opened [] found)))
        by (all_bound inner h n q) =
            subst (λ (s : State). Goal (body_in j.facts b s)) (sym q)
            (in-body inner h n _
            (below-is j B inner (bound h) b.body R.written X b.result found R.result))
        by (one_taken f now cs c i q) = subst (λ (s : State). Goal (body_in j.facts b s)) (sym q)
            (has_none f refl (parameters c)
            (alike found (breaking.BindingBreaks j [] new) (BodyBreaks k b) now
            (λ g d. parameters d) from i))
          where
            from : (g : Fault) → BodyBreaks k b g → breaking.BindingBreaks j [] new g
            from g (parameters d) = d
            from g (within_ inner h d) = absurd (binds-never inner h f c)
