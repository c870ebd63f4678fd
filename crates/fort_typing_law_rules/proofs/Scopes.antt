-- Names that are bound, and generators: what they leave is exact. Functions, loops over generators,
-- and reductions.
use Rattle.std.proofs.Common.{◌≡◌, ◌⊎◌, inl, inr, Bool, true, false, cond, List, [], ◌∷◌, ◌++◌, map, Option, Some, None, refl, ap, ◌∙◌, sym, subst}
use Rattle.std.specs.List.{AllByRecursion}
use Rattle.fort_base.specs.declared.ids.NameId.{NameId}
use Rattle.fort_base.specs.declared.refusal.Place.{Place}
use Rattle.fort_base.specs.declared.rules.TheConstants.{SHADOWS, NOT_A_GENERATOR}
use Rattle.fort_base.specs.declared.ty.Ty.{Ty}
use Rattle.fort_base.specs.declared.ty.Ty.TheVariants as a_type
use Rattle.fort_scope.specs.declared.binding.Binding.{Binding}
use Rattle.fort_form.specs.declared.form.Form.{Form, out-Form}
use Rattle.fort_form.specs.declared.form.Form.TheOpen.{Form-F}
use Rattle.fort_form.specs.declared.form.Generator.{Generator, out-Generator}
use Rattle.fort_form.specs.declared.form.Parameter.{Parameter}
use Rattle.fort_form.specs.declared.form.Item.{Item}
use Rattle.fort_form.specs.declared.form.Branch.{Branch}
use Rattle.fort_form.specs.declared.form.TypeBranch.{TypeBranch}
use Rattle.fort_form_typed.specs.declared.typed_form.TypedForm.{TypedForm}
use Rattle.fort_form_typed.specs.declared.typed_form.TypedForm.TheVariants as a_typed
use Rattle.fort_typing_known.specs.declared.fault.Fault.{Fault}
use Rattle.fort_typing_known.specs.Known.{Knows}
use Rattle.fort_typing_known.specs.Names.{is_visible}
use Rattle.fort_typing_rules.specs.Calls.{Calls}
use Rattle.fort_typing_rules.specs.Types.{unit, given, type_of, place_of, fault, tuple_of, parameter_type}
use Rattle.fort_typing_rules.specs.Typing as rule
use Rattle.fort_typing_rules.specs.Breaking as breaking
use Rattle.fort_typing_meaning.specs.declared.frame.Want.{Want}
use Rattle.fort_typing_meaning.specs.declared.frame.Want.TheVariants as a_want
use Rattle.fort_typing_meaning.specs.declared.frame.Slot.TheVariants as a_slot
use Rattle.fort_typing_meaning.specs.declared.frame.Frame.{Frame}
use Rattle.fort_typing_meaning.specs.declared.frame.Valued.{Valued}
use Rattle.fort_typing_meaning.specs.Faults.{with_fault, breaks}
use Rattle.fort_typing_meaning.specs.Tests.{value, untyped}
use Rattle.fort_typing_meaning.specs.Parts.{Giving, State, begin, opened, is_broken, kept, said, ask, unless_lost, shadows, bind, bind_all, watch, given_by, gives, take_source, sources}
use Rattle.fort_typing_meaning.specs.Closing.{close_at, giving_name, by_one}
use Rattle.fort_typing_meaning.specs.Judging.{inside, judged, judged_generator}
use Rattle.fort_typing_meaning.proofs.Levels.{giving-is}
use Rattle.fort_typing_law_rules.specs.Deciding.{IsType, IsAccepted}
use Rattle.fort_typing_law_rules.specs.Written.{IsWritten, AreBound}
use Rattle.fort_typing_law_rules.specs.Exact.{IsFirst, FormBreaks, Answers, IsExactExpression}
use Rattle.fort_typing_law_rules.proofs.Written.{GeneratorWritten}
use Rattle.fort_typing_law_rules.proofs.Typed.{binds-bound, parameters-bound, one-bound, given-typed, typed-as}
use Rattle.fort_typing_law_rules.proofs.Answered.{Same, value_, operand_, unit_, st, mapped, at, binds-is, sources-answered, giving-names, nothing_behind, one_behind}
use Rattle.fort_typing_law_rules.proofs.Asking.{place-is, ValuedAs, got, missed, taken-is, Asked, kept_there, lacking, ask-exact, as-never, one-as}
use Rattle.fort_typing_law_rules.proofs.Firsts.{no_more, alike, one_more, both}
use Rattle.fort_typing_law_rules.proofs.Steps.{typed-so, broken-so, of-layer, only-left}

-- a frame behind which the scope isn't known
abbrev pub lost_frame : Frame → Frame
lost_frame w = record w { broken = true; lost = true }

abbrev pub frame_of : State → Frame
frame_of s = s.frame

abbrev pub bindings_of : State → List Binding
bindings_of s = s.bindings

abbrev pub found_of : State → Option Fault
found_of s = s.found

pub not-both : {C : Type 0} {c : Bool} → c ≡ true → c ≡ false → C
not-both h i = absurd cc

pub some-not-none : {C : Type 0} {T : Type 0} {x : T} {o : Option T} → o ≡ Some x → o ≡ None → C
some-not-none h i = absurd cc

module _ (k : Knows) (A : IsAccepted k) where
  -- ---- a name that has to be free

  abbrev pub Shadow : List Binding → Place → NameId → Fault → Type 0
  Shadow bs p name f = (is_visible k.facts bs name ≡ true) × (f ≡ fault SHADOWS p)

  pub data Watched (bs : List Binding) (p : Place) (name : NameId) (wf : Frame)
      (found : Option Fault) (s : State) : Type 0 where
    is_free : is_visible k.facts bs name ≡ false → s ≡ st wf bs found → Watched bs p name wf found s
    is_taken : (new : Option Fault) → is_visible k.facts bs name ≡ true
        → IsFirst found (Shadow bs p name) new → s ≡ st (lost_frame wf) bs new
        → Watched bs p name wf found s

  shadow-first : (bs : List Binding) (p : Place) (name : NameId) (found : Option Fault)
      → is_visible k.facts bs name ≡ true
      → IsFirst found (Shadow bs p name) (with_fault (fault SHADOWS p) found)
  shadow-first bs p name found v =
      alike found (λ f. f
      ≡ fault SHADOWS p) (Shadow bs p name) (with_fault (fault SHADOWS p) found) (λ f e. (v, e))
      (λ f h. h.1) (one_more (fault SHADOWS p) found)

  pub watch-exact : (bs : List Binding) (p : Place) (name : NameId) (wf : Frame)
      (found : Option Fault)
      → Watched bs p name wf found (watch k.facts (Some (p, name)) (st wf bs found))
  unfolding watch breaks
  watch-exact bs p name wf found = by (is_visible k.facts bs name) refl
    where
      by : (c : Bool) → is_visible k.facts bs name ≡ c
          → Watched bs p name wf found (cond c (shadows p (st wf bs found)) (st wf bs found))
      by true v =
          is_taken (with_fault (fault SHADOWS p) found) v (shadow-first bs p name found v) refl
      by false v = is_free v refl

  -- ---- names that are bound

  pub data BoundAll (bs new : List Binding) (wf : Frame) (found : Option Fault)
      (s : State) : Type 0 where
    all_bound : (inner : List Binding) → rule.Binds k bs new inner
        → ((f : Fault) → breaking.BindingBreaks k bs new f → ⊥) → s ≡ st wf inner found
        → BoundAll bs new wf found s
    one_taken : (f : Fault) (now : Option Fault) (cs : List Binding)
        → breaking.BindingBreaks k bs new f → IsFirst found (breaking.BindingBreaks k bs new) now
        → s ≡ st (lost_frame wf) cs now
        → BoundAll bs new wf found s

  none-bound : (bs : List Binding) (f : Fault) → breaking.BindingBreaks k bs [] f → ⊥
  none-bound bs f (breaking.this_binding b more e v x) = absurd cc
  none-bound bs f (breaking.next_binding b more e v x) = absurd cc

  bound-of : (bs : List Binding) (b : Binding) (more : List Binding) (f : Fault)
      → breaking.BindingBreaks k bs (b ∷ more) f
      → ((is_visible k.facts bs b.name ≡ true) × (f ≡ fault SHADOWS b.place))
      ⊎ ((is_visible k.facts bs b.name ≡ false) × breaking.BindingBreaks k (bs ++ b ∷ []) more f)
  bound-of bs b more f (breaking.this_binding c cs e v x) = let q : c ≡ b = cc in
      inl (
        subst (λ (y : Binding). is_visible k.facts bs y.name ≡ true) q v,
        subst (λ
            (y : Binding). f ≡ fault SHADOWS y.place) q x,
      )
  bound-of bs b more f (breaking.next_binding c cs e v x) =
      let q : c ≡ b = cc in let r : cs ≡ more = cc in
      inr (
        subst (λ (y : Binding). is_visible k.facts bs y.name ≡ false) q v,
        subst (λ (ys : List Binding). breaking.BindingBreaks k (bs ++ b ∷ []) ys f) r (subst (λ
            (y : Binding). breaking.BindingBreaks k (bs ++ y ∷ []) cs f) q x),
      )

  bind-more : (bs : List Binding) (b : Binding) (more : List Binding) (wf : Frame)
      (found : Option Fault) (s : State) → is_visible k.facts bs b.name ≡ false
      → BoundAll (bs ++ b ∷ []) more wf found s
      → BoundAll bs (b ∷ more) wf found s
  bind-more bs b more wf found s v (all_bound inner h n e) =
      all_bound inner (rule.next b more refl v h) none e
    where
      none : (f : Fault) → breaking.BindingBreaks k bs (b ∷ more) f → ⊥
      none f c = elim (bound-of bs b more f c) [ inl x ↦ not-both x.0 v | inr x ↦ n f x.1 ]
  bind-more bs b more wf found s v (one_taken f now cs c i e) =
      one_taken f now cs (breaking.next_binding b more refl v c)
      (alike found (breaking.BindingBreaks k (bs ++ b ∷ []) more)
      (breaking.BindingBreaks k bs (b ∷ more)) now
      (λ g d. breaking.next_binding b more refl v d)
      (λ g d. elim (bound-of bs b more g d) [ inl x ↦ not-both x.0 v | inr x ↦ x.1 ]) i) e

  pub bind-all-exact : (new bs : List Binding) (wf : Frame) (found : Option Fault) → wf.lost ≡ false
      → BoundAll bs new wf found (bind_all k.facts new (st wf bs found))
  unfolding bind_all bind breaks
  bind-all-exact [] bs wf found l = all_bound bs (rule.none refl refl) (none-bound bs) refl
  bind-all-exact (b ∷ more) bs wf found l =
      by (bind-all-exact more (bs ++ b ∷ []) wf found l) (is_visible k.facts bs b.name) refl
    where
      rest : State → State
      rest s = bind_all k.facts more s

      here : Fault
      here = fault SHADOWS b.place

      from : is_visible k.facts bs b.name ≡ true → (f : Fault)
          → breaking.BindingBreaks k bs (b ∷ more) f → f ≡ fault SHADOWS b.place
      from v f c = elim (bound-of bs b more f c) [ inl x ↦ x.1 | inr x ↦ not-both v x.0 ]

      by : BoundAll (bs ++ b ∷ []) more wf found
          (bind_all k.facts more (st wf (bs ++ b ∷ []) found)) → (c : Bool)
          → is_visible k.facts bs b.name ≡ c
          → BoundAll bs (b ∷ more) wf found
          (unless_lost (bind_all k.facts more)
          (cond c (shadows b.place (st wf bs found)) (st wf (bs ++ b ∷ []) found)))
      by h true v =
          one_taken (fault SHADOWS b.place) (with_fault (fault SHADOWS b.place) found) bs
          (breaking.this_binding b more refl v refl)
          (alike found (λ f. f
          ≡ fault SHADOWS b.place) (breaking.BindingBreaks k bs (b ∷ more))
          (with_fault (fault SHADOWS b.place) found)
          (λ f e. breaking.this_binding b more refl v e) (from v)
          (one_more (fault SHADOWS b.place) found)) refl
      by h false v =
          subst (λ c. BoundAll bs (b ∷ more) wf found
          (cond c (st wf (bs ++ b ∷ []) found)
          (bind_all k.facts more (st wf (bs ++ b ∷ []) found)))) (sym l)
          (bind-more bs b more wf found _ v h)

  -- they are bound in one way
  pub binds-once : {bs new all other : List Binding} → rule.Binds k bs new all
      → rule.Binds k bs new other → all ≡ other
  binds-once h g =
      ap bindings_of (sym (binds-is k A h opened None refl) ∙ binds-is k A g opened None refl)

  -- ---- functions

  pub function-exact : (bs : List Binding) → AreBound k bs
      → (e : Form) (found : Option Fault) (p : Place) (ps : List Parameter) (d : Form)
      → AllByRecursion (λ (q : Parameter). IsType k q.ty) ps → IsWritten k d
      → IsExactExpression k d → out-Form e ≡ Form-F.Fn p ps d
      → Answers k bs e found ((judged k.facts e).answer bs found)
  function-exact bs B e found p ps d T W X is = by (bind-all-exact new bs opened found refl)
    where
      new : List Binding
      new = map rule.parameter_binding ps

      second : State → State
      second s = unless_lost (ask k.facts a_slot.Head a_want.Value (judged k.facts d)) s

      by : BoundAll bs (map rule.parameter_binding ps) opened found
          (bind_all k.facts (map rule.parameter_binding ps) (st opened bs found))
          → Answers k bs e found ((judged k.facts e).answer bs found)
      by (all_bound inner h n q) =
          inside_ (ask-exact k A inner (binds-bound k A h B (parameters-bound k A ps T)) d W X
          rule.a_value a_want.Value a_slot.Head opened found value_)
        where
          V : AreBound k inner
          V = binds-bound k A h B (parameters-bound k A ps T)

          to : (f : Fault) → breaking.BreaksAs k inner rule.a_value d f → FormBreaks k bs e f
          to f b = inl (breaking.in_function p ps d inner is h b)

          from : (f : Fault) → FormBreaks k bs e f → breaking.BreaksAs k inner rule.a_value d f
          from f b = elim (only-left k A (of-layer k A bs e f is b)) [
            | inl c ↦ absurd (n f c)
            | inr c ↦ subst (λ
                (cs : List Binding). breaking.BreaksAs k cs rule.a_value d f) (binds-once c.1 h) c.2
          ]

          inside_ : Asked k A inner (binds-bound k A h B (parameters-bound k A ps T)) d W X
              rule.a_value a_slot.Head opened found
              (ask k.facts a_slot.Head a_want.Value (judged k.facts d) (st opened inner found))
              → Answers k bs e found ((judged k.facts e).answer bs found)
          inside_ (kept_there t mid g i r) =
              typed-so k A bs e found mid (breaking.BreaksAs k inner rule.a_value d) _ i to
              (a_typed.Fn (a_type.Arrow (tuple_of (map parameter_type ps)) (type_of t)) ps t)
              (rule.function p ps d inner t is h g refl) from
              (at k A e bs found (st (kept a_slot.Head t opened) inner mid) is
              (ap (unless_lost (ask k.facts a_slot.Head a_want.Value (judged k.facts d))) q
              ∙ r) refl)
          inside_ (lacking f mid b i r) =
              broken-so k A bs e found mid (breaking.BreaksAs k inner rule.a_value d) _ i to f b
              from
              (at k A e bs found (st (is_broken opened) inner mid) is
              (ap (unless_lost (ask k.facts a_slot.Head a_want.Value (judged k.facts d))) q
              ∙ r) refl)
      by (one_taken f now cs b i q) =
          broken-so k A bs e found now (breaking.BindingBreaks k bs (map rule.parameter_binding ps))
          _ i (λ g c. inl (breaking.in_parameters p ps d is c)) f b from
          (at k A e bs found (st (lost_frame opened) cs now) is
          (ap (unless_lost (ask k.facts a_slot.Head a_want.Value (judged k.facts d))) q)
          refl)
        where
          never : (inner : List Binding) → rule.Binds k bs (map rule.parameter_binding ps) inner → ⊥
          never inner h =
              let l : true ≡ false =
              ap (λ (s : State). s.frame.lost) (sym q ∙ binds-is k A h opened found refl)
              in absurd cc

          from : (g : Fault) → FormBreaks k bs e g
              → breaking.BindingBreaks k bs (map rule.parameter_binding ps) g
          from g c =
              elim (only-left k A (of-layer k A bs e g is c)) [
                | inl x ↦ x
                | inr x ↦ absurd (never x.0 x.1)
              ]

  -- ---- generators

  module _ (bs : List Binding) (B : AreBound k bs) (g : Generator) (W : GeneratorWritten k g)
      (X : IsExactExpression k (out-Generator g).source) where
    abbrev here : Place
    here = (out-Generator g).place

    abbrev name : NameId
    name = (out-Generator g).name

    abbrev from_there : Form
    from_there = (out-Generator g).source

    abbrev As : Fault → Type 0
    As f = breaking.BreaksAs k bs rule.an_operand from_there f

    abbrev NoGen : Fault → Type 0
    NoGen f = (u : TypedForm) × rule.HasAs k (Calls k) bs rule.an_operand from_there u
        × (given (type_of u) ≡ None) × (f ≡ fault NOT_A_GENERATOR (place_of from_there))

    abbrev pub OneSource : Fault → Type 0
    OneSource f = Shadow bs here name f ⊎ (As f ⊎ NoGen f)

    abbrev pub NextSource : List Generator → Fault → Type 0
    NextSource more f = (u : TypedForm) × (ty : Ty) × (is_visible k.facts bs name ≡ false)
        × rule.HasAs k (Calls k) bs rule.an_operand from_there u × (given (type_of u) ≡ Some ty)
        × breaking.BreaksSources k (bs ++ rule.binding here name ty ∷ []) more f

    pub data OneLeft (more : List Generator) (wf : Frame) (found : Option Fault)
        (s : State) : Type 0 where
      gives_on : (u : TypedForm) (ty : Ty) (new : Option Fault) → is_visible k.facts bs name ≡ false
          → rule.HasAs k (Calls k) bs rule.an_operand from_there u → given (type_of u) ≡ Some ty
          → IsFirst found OneSource new
          → s ≡ st (kept a_slot.First u wf) (bs ++ rule.binding here name ty ∷ []) new
          → OneLeft more wf found s
      goes_no_further : (f : Fault) (new : Option Fault) (x : Frame) → OneSource f
          → ((h : Fault) → NextSource more h → ⊥) → IsFirst found OneSource new → s ≡ st x bs new
          → x.broken ≡ true → x.lost ≡ true
          → OneLeft more wf found s

    -- what is found of the name and of the source, where the source gives something or breaks a
    -- rule
    as-far : (found m0 mid : Option Fault) → IsFirst found (Shadow bs here name) m0
        → IsFirst m0 As mid → ((f : Fault) → NoGen f → ⊥) → IsFirst found OneSource mid
    as-far found m0 mid i j n =
        alike found (λ f. Shadow bs here name f
        ⊎ As f) OneSource mid to from (both found m0 mid (Shadow bs here name) As i j)
      where
        to : (f : Fault) → Shadow bs here name f ⊎ As f → OneSource f
        to f (inl b) = inl b
        to f (inr b) = inr (inl b)

        from : (f : Fault) → OneSource f → Shadow bs here name f ⊎ As f
        from f (inl b) = inl b
        from f (inr (inl b)) = inr b
        from f (inr (inr b)) = absurd (n f b)

    -- and where it gives nothing
    no-giver : (found m0 mid : Option Fault) (u : TypedForm)
        → IsFirst found (Shadow bs here name) m0 → IsFirst m0 As mid
        → rule.HasAs k (Calls k) bs rule.an_operand from_there u → given (type_of u) ≡ None
        → IsFirst found OneSource (with_fault (fault NOT_A_GENERATOR (place_of from_there)) mid)
    no-giver found m0 mid u i j h e =
        alike found (λ f. (Shadow bs here name f ⊎ As f)
        ⊎ (f ≡ own)) OneSource (with_fault own mid) to from
        (both found mid (with_fault own mid) (λ f. Shadow bs here name f
        ⊎ As f) (λ f. f
        ≡ own) (both found m0 mid (Shadow bs here name) As i j) (one_more own mid))
      where
        own : Fault
        own = fault NOT_A_GENERATOR (place_of from_there)

        to : (f : Fault)
            → (Shadow bs here name f ⊎ As f) ⊎ (f ≡ fault NOT_A_GENERATOR (place_of from_there))
            → OneSource f
        to f (inl (inl b)) = inl b
        to f (inl (inr b)) = inr (inl b)
        to f (inr b) = inr (inr (u, h, e, b))

        from : (f : Fault) → OneSource f
            → (Shadow bs here name f ⊎ As f) ⊎ (f ≡ fault NOT_A_GENERATOR (place_of from_there))
        from f (inl b) = inl (inl b)
        from f (inr (inl b)) = inl (inr b)
        from f (inr (inr b)) = inr b.3

    given-once : (u t : TypedForm) (ty : Ty)
        → rule.HasAs k (Calls k) bs rule.an_operand from_there u
        → rule.HasAs k (Calls k) bs rule.an_operand from_there t → given (type_of u) ≡ None
        → given (type_of t) ≡ Some ty → ⊥
    given-once u t ty h i e q =
        some-not-none q (ap (λ
        (x : TypedForm). given (type_of x))
        (one-as k A bs B from_there W X rule.an_operand t u i h) ∙ e)

    no-source-place : (mid : Option Fault)
        → breaks NOT_A_GENERATOR (judged k.facts from_there).place mid
        ≡ with_fault (fault NOT_A_GENERATOR (place_of from_there)) mid
    unfolding breaks
    no-source-place mid =
        ap (λ (p : Place). with_fault (fault NOT_A_GENERATOR p) mid) (place-is k A from_there)

    abbrev Behind : List Generator → Frame → Frame → Option Fault → Option TypedForm → Option Ty
        → Option Fault → Type 0
    Behind more wf w found o ty mid =
        OneLeft more wf found
        (gives k.facts here name (judged k.facts from_there).place o ty (st w bs mid))

    -- the state behind a source of which this was taken, where the name is free
    source-free : (more : List Generator) (wf : Frame) (found : Option Fault) (v : Valued)
        → is_visible k.facts bs name ≡ false → wf.lost ≡ false
        → ValuedAs k A bs B from_there W X rule.an_operand found v
        → Behind more wf wf found v.node (given_by v.node) v.found
    source-free more wf found v vis lost (missed x e b j) =
        subst (λ (o : Option TypedForm). Behind more wf wf found o (given_by o) v.found) (sym e)
        (goes_no_further x v.found (lost_frame wf) (inr (inl b))
        (λ f n. as-never k A bs B from_there W X rule.an_operand n.0 n.3 x b)
        (as-far found found v.found (no_more found (Shadow bs here name) (λ f h. not-both h.0 vis))
        j (λ f n. as-never k A bs B from_there W X rule.an_operand n.0 n.1 x b)) refl refl
        refl)
    source-free more wf found v vis lost (got t e h j) =
        subst (λ (o : Option TypedForm). Behind more wf wf found o (given_by o) v.found) (sym e)
        (by (given (type_of t)) refl)
      where
        by : (o : Option Ty) → given (type_of t) ≡ o → Behind more wf wf found (Some t) o v.found
        by None q =
            goes_no_further (fault NOT_A_GENERATOR (place_of from_there))
            (with_fault (fault NOT_A_GENERATOR (place_of from_there)) v.found) (lost_frame wf)
            (inr (inr (t, h, q, refl)))
            (λ f n. given-once t n.0 n.1 h n.3 q n.4)
            (no-giver found found v.found t
            (no_more found (Shadow bs here name) (λ f z. not-both z.0 vis)) j h q)
            (ap (λ (x : Option Fault). st (lost_frame wf) bs x) (no-source-place v.found)) refl refl
        by (Some ty) q =
            gives_on t ty v.found vis h q
            (as-far found found v.found
            (no_more found (Shadow bs here name) (λ f z. not-both z.0 vis)) j
            (λ f n. given-once n.0 t ty n.1 h n.2 q))
            (ap (λ c. cond c (st (kept a_slot.First t wf) bs v.found)
            (st (kept a_slot.First t wf) (bs ++ rule.binding here name ty ∷ []) v.found))
            lost)

    -- and where it is taken
    source-taken : (more : List Generator) (wf : Frame) (found m0 : Option Fault) (v : Valued)
        → is_visible k.facts bs name ≡ true → IsFirst found (Shadow bs here name) m0
        → ValuedAs k A bs B from_there W X rule.an_operand m0 v
        → Behind more wf (lost_frame wf) found v.node (given_by v.node) v.found
    source-taken more wf found m0 v vis i (missed x e b j) =
        subst (λ (o : Option TypedForm). Behind more wf (lost_frame wf) found o (given_by o)
        v.found) (sym e)
        (goes_no_further x v.found (lost_frame wf) (inr (inl b)) (λ f n. not-both vis n.2)
        (as-far found m0 v.found i j
        (λ f n. as-never k A bs B from_there W X rule.an_operand n.0 n.1 x b)) refl refl
        refl)
    source-taken more wf found m0 v vis i (got t e h j) =
        subst (λ (o : Option TypedForm). Behind more wf (lost_frame wf) found o (given_by o)
        v.found) (sym e) (by (given (type_of t)) refl)
      where
        by : (o : Option Ty) → given (type_of t) ≡ o
            → Behind more wf (lost_frame wf) found (Some t) o v.found
        by None q =
            goes_no_further (fault SHADOWS here)
            (with_fault (fault NOT_A_GENERATOR (place_of from_there)) v.found) (lost_frame wf)
            (inl (vis, refl)) (λ f n. not-both vis n.2) (no-giver found m0 v.found t i j h q)
            (ap (λ (x : Option Fault). st (lost_frame wf) bs x) (no-source-place v.found)) refl refl
        by (Some ty) q =
            goes_no_further (fault SHADOWS here) v.found (kept a_slot.First t (lost_frame wf))
            (inl (vis, refl)) (λ f n. not-both vis n.2)
            (as-far found m0 v.found i j (λ f n. given-once n.0 t ty n.1 h n.2 q))
            refl refl refl

    abbrev one_generator : State → State
    one_generator s =
        take_source k.facts here name (judged k.facts from_there).place
        (said (judged k.facts from_there) (watch k.facts (Some (here, name)) s))

    pub one-source : (more : List Generator) (wf : Frame) (found : Option Fault) → wf.lost ≡ false
        → OneLeft more wf found (one_generator (st wf bs found))
    unfolding take_source said
    one-source more wf found lost = by (watch-exact bs here name wf found)
      where
        by : Watched bs here name wf found (watch k.facts (Some (here, name)) (st wf bs found))
            → OneLeft more wf found (one_generator (st wf bs found))
        by (is_free vis e) =
            subst (λ (s : State). OneLeft more wf found
            (take_source k.facts here name (judged k.facts from_there).place
            (said (judged k.facts from_there) s))) (sym e)
            (source-free more wf found _ vis lost
            (taken-is k A bs B from_there W X rule.an_operand a_want.Operand found
            operand_))
        by (is_taken m0 vis i e) =
            subst (λ (s : State). OneLeft more wf found
            (take_source k.facts here name (judged k.facts from_there).place
            (said (judged k.facts from_there) s))) (sym e)
            (source-taken more wf found m0 _ vis i
            (taken-is k A bs B from_there W X rule.an_operand a_want.Operand m0 operand_))

    -- what generators break
    sources-of : (more : List Generator) (f : Fault) → breaking.BreaksSources k bs (g ∷ more) f
        → OneSource f ⊎ NextSource more f
    sources-of more f (breaking.shadowing_name h cs e v x) = let q : h ≡ g = cc in
        inl (inl (
          subst (λ
              (y : Generator). is_visible k.facts bs (out-Generator y).name ≡ true) q v,
          subst (λ
              (y : Generator). f ≡ fault SHADOWS (out-Generator y).place) q x,
        ))
    sources-of more f (breaking.in_this h cs e b) =
        let q : h ≡ g = cc
        in inl (inr
        (inl (subst (λ
        (y : Generator). breaking.BreaksAs k bs rule.an_operand (out-Generator y).source f) q
        b)))
    sources-of more f (breaking.no_generator h cs u e s n x) = let q : h ≡ g = cc in
        inl (inr (inr (
          u,
          subst (λ
              (y : Generator). rule.HasAs k (Calls k) bs rule.an_operand (out-Generator y).source
              u) q s,
          n,
          subst (λ
              (y : Generator). f
              ≡ fault NOT_A_GENERATOR (place_of (out-Generator y).source)) q x,
        )))
    sources-of more f (breaking.in_next h cs u ty e v s gv b) =
        let q : h ≡ g = cc in let r : cs ≡ more = cc in
        inr (
          u,
          ty,
          subst (λ (y : Generator). is_visible k.facts bs (out-Generator y).name ≡ false) q v,
          subst (λ (y : Generator). rule.HasAs k (Calls k) bs rule.an_operand
              (out-Generator y).source u) q s,
          gv,
          subst (λ (ys : List Generator). breaking.BreaksSources k
              (bs ++ rule.binding here name ty ∷ []) ys f) r
              (subst (λ
              (y : Generator). breaking.BreaksSources k
              (bs ++ rule.binding (out-Generator y).place (out-Generator y).name ty ∷ []) cs
              f) q b),
        )

    sources-made : (more : List Generator) (f : Fault) → OneSource f ⊎ NextSource more f
        → breaking.BreaksSources k bs (g ∷ more) f
    sources-made more f (inl (inl h)) = breaking.shadowing_name g more refl h.0 h.1
    sources-made more f (inl (inr (inl h))) = breaking.in_this g more refl h
    sources-made more f (inl (inr (inr h))) = breaking.no_generator g more h.0 refl h.1 h.2 h.3
    sources-made more f (inr h) = breaking.in_next g more h.0 h.1 refl h.2 h.3 h.4 h.5

  pub data Sourced (bs : List Binding) (gs : List Generator) (wf : Frame) (found : Option Fault)
      (s : State) : Type 0 where
    sourced : (inner : List Binding) (us : List TypedForm) (new : Option Fault) → AreBound k inner
        → rule.HasSources k (Calls k) bs gs inner us
        → IsFirst found (breaking.BreaksSources k bs gs) new
        → s ≡ st (record wf { first = wf.first ++ us }) inner new → Sourced bs gs wf found s
    unsourced : (f : Fault) (new : Option Fault) (x : Frame) (cs : List Binding)
        → breaking.BreaksSources k bs gs f → IsFirst found (breaking.BreaksSources k bs gs) new
        → s ≡ st x cs new → x.broken ≡ true → x.lost ≡ true
        → Sourced bs gs wf found s

  none-sourced : (bs : List Binding) (f : Fault) → breaking.BreaksSources k bs [] f → ⊥
  none-sourced bs f (breaking.shadowing_name h cs e v x) = absurd cc
  none-sourced bs f (breaking.in_this h cs e b) = absurd cc
  none-sourced bs f (breaking.no_generator h cs u e s n x) = absurd cc
  none-sourced bs f (breaking.in_next h cs u ty e v s gv b) = absurd cc

  abbrev pub AreSources : List Generator → Type 0
  AreSources gs =
      AllByRecursion (λ (g : Generator). IsExactExpression k (out-Generator g).source) gs

  more-sources : (bs : List Binding) (B : AreBound k bs) (g : Generator) (W : GeneratorWritten k g)
      (X : IsExactExpression k (out-Generator g).source) (more : List Generator) (wf : Frame)
      (found mid : Option Fault)
      (u : TypedForm) (ty : Ty) (s : State) → is_visible k.facts bs (out-Generator g).name ≡ false
      → rule.HasAs k (Calls k) bs rule.an_operand (out-Generator g).source u
      → given (type_of u) ≡ Some ty
      → IsFirst found (OneSource bs B g W X) mid
      → Sourced (bs ++ rule.binding (out-Generator g).place (out-Generator g).name ty ∷ []) more
      (kept a_slot.First u wf) mid s → Sourced bs (g ∷ more) wf found s
  more-sources bs B g W X more wf found mid u ty s vis h gv i r = by r
    where
      behind : List Binding
      behind = bs ++ rule.binding (out-Generator g).place (out-Generator g).name ty ∷ []

      first_of : (new : Option Fault)
          → IsFirst mid
          (breaking.BreaksSources k
          (bs ++ rule.binding (out-Generator g).place (out-Generator g).name ty ∷ []) more) new
          → IsFirst found (breaking.BreaksSources k bs (g ∷ more)) new
      first_of new j =
          alike found (λ f. OneSource bs B g W X f
          ⊎ breaking.BreaksSources k
          (bs ++ rule.binding (out-Generator g).place (out-Generator g).name ty ∷ []) more f)
          (breaking.BreaksSources k bs (g ∷ more)) new to from
          (both found mid new (OneSource bs B g W X)
          (breaking.BreaksSources k
          (bs ++ rule.binding (out-Generator g).place (out-Generator g).name ty ∷ []) more)
          i j)
        where
          to : (f : Fault)
              → OneSource bs B g W X f
              ⊎ breaking.BreaksSources k
              (bs ++ rule.binding (out-Generator g).place (out-Generator g).name ty ∷ []) more f
              → breaking.BreaksSources k bs (g ∷ more) f
          to f (inl b) = sources-made bs B g W X more f (inl b)
          to f (inr b) = breaking.in_next g more u ty refl vis h gv b

          same_type : (v : TypedForm) (t : Ty)
              → rule.HasAs k (Calls k) bs rule.an_operand (out-Generator g).source v
              → given (type_of v) ≡ Some t → t ≡ ty
          same_type v t hv gt =
              let q : Some t ≡ Some ty =
              sym gt ∙ ap (λ
              (x : TypedForm). given (type_of x))
              (one-as k A bs B (out-Generator g).source W X rule.an_operand v u hv h) ∙ gv in cc

          from : (f : Fault) → breaking.BreaksSources k bs (g ∷ more) f
              → OneSource bs B g W X f
              ⊎ breaking.BreaksSources k
              (bs ++ rule.binding (out-Generator g).place (out-Generator g).name ty ∷ []) more f
          from f b = elim (sources-of bs B g W X more f b) [
            | inl c ↦ inl c
            | inr c ↦
                inr (subst (λ
                (t : Ty). breaking.BreaksSources k
                (bs ++ rule.binding (out-Generator g).place (out-Generator g).name t ∷ []) more f)
                (same_type c.0 c.1 c.3 c.4) c.5)
          ]

      by : Sourced (bs ++ rule.binding (out-Generator g).place (out-Generator g).name ty ∷ []) more
          (kept a_slot.First u wf) mid s → Sourced bs (g ∷ more) wf found s
      by (sourced inner us new C hs j e) =
          sourced inner (u ∷ us) new C (rule.source g more u us ty refl refl vis h gv hs)
          (first_of new j)
          (e ∙ ap (λ
          (xs : List TypedForm). st (record wf { first = xs }) inner new)
          (one_behind wf.first us u))
      by (unsourced f new x cs b j e br l) =
          unsourced f new x cs (breaking.in_next g more u ty refl vis h gv b) (first_of new j) e br
          l

  pub sources-exact : (gs : List Generator) (bs : List Binding) → AreBound k bs
      → (wf : Frame) (found : Option Fault) → AllByRecursion (GeneratorWritten k) gs → AreSources gs
      → wf.lost ≡ false
      → Sourced bs gs wf found
      (sources k.facts (map (judged_generator k.facts) gs) (st wf bs found))
  unfolding sources
  sources-exact [] bs B wf found W X l =
      sourced bs [] found B (rule.no_source refl refl refl)
      (no_more found (breaking.BreaksSources k bs []) (none-sourced bs))
      (ap (λ (ts : List TypedForm). st (record wf { first = ts }) bs found)
      (sym (nothing_behind wf.first)))
  sources-exact (g ∷ more) bs B wf found W X l =
      subst (λ (x : Giving). Sourced bs (g ∷ more) wf found
      (unless_lost (sources k.facts (map (judged_generator k.facts) more))
      (take_source k.facts x.place x.name x.source.place
      (said x.source (watch k.facts (Some (x.place, x.name)) (st wf bs found))))))
      (sym (giving-is k.facts g))
      (by (λ cs C y mid q. sources-exact more cs C y mid W.1 X.1 q)
      (one-source bs B g W.0 X.0 more wf found l))
    where
      by : ((cs : List Binding) → AreBound k cs → (y : Frame) (mid : Option Fault) → y.lost ≡ false
          → Sourced cs more y mid
          (sources k.facts (map (judged_generator k.facts) more) (st y cs mid)))
          → OneLeft bs B g W.0 X.0 more wf found (one_generator bs B g W.0 X.0 (st wf bs found))
          → Sourced bs (g ∷ more) wf found
          (unless_lost (sources k.facts (map (judged_generator k.facts) more))
          (one_generator bs B g W.0 X.0 (st wf bs found)))
      by rest (gives_on u ty mid vis h gv i e) =
          subst (λ (s : State). Sourced bs (g ∷ more) wf found
          (unless_lost (sources k.facts (map (judged_generator k.facts) more)) s)) (sym e)
          (subst (λ c. Sourced bs (g ∷ more) wf found
          (cond c (st (kept a_slot.First u wf)
          (bs ++ rule.binding (out-Generator g).place (out-Generator g).name ty ∷ []) mid)
          (sources k.facts (map (judged_generator k.facts) more)
          (st (kept a_slot.First u wf)
          (bs ++ rule.binding (out-Generator g).place (out-Generator g).name ty ∷ [])
          mid)))) (sym l)
          (more-sources bs B g W.0 X.0 more wf found mid u ty _ vis h gv i
          (rest (bs ++ rule.binding (out-Generator g).place (out-Generator g).name ty ∷ [])
          (one-bound k A bs _ B
          (given-typed k A (type_of u) ty (typed-as k A h B W.0).0 gv))
          (kept a_slot.First u wf) mid l)))
      by rest (goes_no_further f mid x b n i e br lx) =
          subst (λ (s : State). Sourced bs (g ∷ more) wf found
          (unless_lost (sources k.facts (map (judged_generator k.facts) more)) s)) (sym e)
          (subst (λ c. Sourced bs (g ∷ more) wf found
          (cond c (st x bs mid)
          (sources k.facts (map (judged_generator k.facts) more) (st x bs mid)))) (sym lx)
          (unsourced f mid x bs (sources-made bs B g W.0 X.0 more f (inl b))
          (alike found (OneSource bs B g W.0 X.0) (breaking.BreaksSources k bs (g ∷ more)) mid
          (λ z c. sources-made bs B g W.0 X.0 more z (inl c)) from i) refl br lx))
        where
          from : (z : Fault) → breaking.BreaksSources k bs (g ∷ more) z → OneSource bs B g W.0 X.0 z
          from z c =
              elim (sources-of bs B g W.0 X.0 more z c) [ inl y ↦ y | inr y ↦ absurd (n z y) ]

  -- generators whose sources give something break nothing, and bind in one way
  pub sources-once : {bs inner other : List Binding} {gs : List Generator} {us vs : List TypedForm}
      → AreBound k bs → AllByRecursion (GeneratorWritten k) gs
      → rule.HasSources k (Calls k) bs gs inner us
      → rule.HasSources k (Calls k) bs gs other vs → inner ≡ other
  sources-once B W h g =
      ap bindings_of (sym (sources-answered k A h B W opened None refl)
      ∙ sources-answered k A g B W opened None refl)

  pub lost-sources : {bs inner cs : List Binding} {gs : List Generator} {us : List TypedForm}
      (x : Frame) (found new : Option Fault) → AreBound k bs
      → AllByRecursion (GeneratorWritten k) gs
      → sources k.facts (map (judged_generator k.facts) gs) (st opened bs found) ≡ st x cs new
      → x.lost ≡ true → rule.HasSources k (Calls k) bs gs inner us → ⊥
  lost-sources x found new B W e l h =
      let q : true ≡ false =
      sym l ∙ ap (λ
      (s : State). s.frame.lost) (sym e ∙ sources-answered k A h B W opened found refl)
      in absurd cc

  pub never-sourced : {bs inner : List Binding} {gs : List Generator} {us : List TypedForm}
      → AreBound k bs → AllByRecursion (GeneratorWritten k) gs → AreSources gs
      → rule.HasSources k (Calls k) bs gs inner us
      → (f : Fault) → breaking.BreaksSources k bs gs f → ⊥
  never-sourced {bs = bs} {gs = gs} B W X h f b = by (sources-exact gs bs B opened None W X refl)
    where
      clean : (new : Option Fault) (y : Frame) (cs : List Binding)
          → sources k.facts (map (judged_generator k.facts) gs) (st opened bs None) ≡ st y cs new
          → new ≡ None
      clean new y cs e = ap found_of (sym e ∙ sources-answered k A h B W opened None refl)

      by : Sourced bs gs opened None
          (sources k.facts (map (judged_generator k.facts) gs) (st opened bs None)) → ⊥
      by (sourced inner us new C hs i e) = (i.none (clean new _ inner e)).1 f b
      by (unsourced g new x cs c i e br l) = (i.none (clean new x cs e)).1 f b

  -- ---- loops and reductions

  module _ (bs : List Binding) (B : AreBound k bs) (e : Form) (found : Option Fault)
      (gs : List Generator) (d : Form) (G : AllByRecursion (GeneratorWritten k) gs)
      (S : AreSources gs) (W : IsWritten k d) (X : IsExactExpression k d) where
    abbrev pub Inside : rule.Want → Fault → Type 0
    Inside want f = (inner : List Binding) × (us : List TypedForm)
        × rule.HasSources k (Calls k) bs gs inner us × breaking.BreaksAs k inner want d f

    -- what stands behind generators
    pub behind : (y : Form-F Form Item Branch Generator TypeBranch) → out-Form e ≡ y
        → (want : rule.Want) (w : Want) → Same want w
        → (made : List TypedForm → TypedForm → TypedForm)
        → (inside k.facts (mapped k A y) (begin bs found)
        ≡ unless_lost (ask k.facts a_slot.Last w (judged k.facts d))
        (sources k.facts (map (judged_generator k.facts) gs) (st opened bs found)))
        → ((us : List TypedForm) (u : TypedForm) (inner : List Binding) (new : Option Fault)
        → rule.HasSources k (Calls k) bs gs inner us
        → close_at k.facts (mapped k A y) (record opened { first = us; last = Some u }) bs new
        ≡ value (made us u) new)
        → ((x : Frame) (new : Option Fault) → x.broken ≡ true
        → close_at k.facts (mapped k A y) x bs new ≡ untyped new)
        → ((inner : List Binding) (us : List TypedForm) (u : TypedForm)
        → rule.HasSources k (Calls k) bs gs inner us → rule.HasAs k (Calls k) inner want d u
        → rule.Has k (Calls k) bs e (made us u))
        → ((f : Fault) → breaking.BreaksSources k bs gs f ⊎ Inside want f → FormBreaks k bs e f)
        → ((f : Fault) → FormBreaks k bs e f → breaking.BreaksSources k bs gs f ⊎ Inside want f)
        → Answers k bs e found ((judged k.facts e).answer bs found)
    behind y is want w m made parts whole none has to from =
        by (sources-exact gs bs B opened found G S refl)
      where
        second : State → State
        second s = unless_lost (ask k.facts a_slot.Last w (judged k.facts d)) s

        goal : Type 0
        goal = Answers k bs e found ((judged k.facts e).answer bs found)

        inside_ : (inner : List Binding) (us : List TypedForm) (mid : Option Fault)
            (C : AreBound k inner) → rule.HasSources k (Calls k) bs gs inner us
            → IsFirst found (breaking.BreaksSources k bs gs) mid
            → sources k.facts (map (judged_generator k.facts) gs) (st opened bs found)
            ≡ st (record opened { first = us }) inner mid
            → Asked k A inner C d W X want a_slot.Last (record opened { first = us }) mid
            (ask k.facts a_slot.Last w (judged k.facts d)
            (st (record opened { first = us }) inner mid))
            → Answers k bs e found ((judged k.facts e).answer bs found)
        inside_ inner us mid C hs i q r = by2 r
          where
            Both : Fault → Type 0
            Both f = breaking.BreaksSources k bs gs f ⊎ breaking.BreaksAs k inner want d f

            first_of : (new : Option Fault) → IsFirst mid (breaking.BreaksAs k inner want d) new
                → IsFirst found (λ f. breaking.BreaksSources k bs gs f
                ⊎ breaking.BreaksAs k inner want d f) new
            first_of new j =
                both found mid new (breaking.BreaksSources k bs gs)
                (breaking.BreaksAs k inner want d) i j

            to2 : (f : Fault)
                → breaking.BreaksSources k bs gs f ⊎ breaking.BreaksAs k inner want d f
                → FormBreaks k bs e f
            to2 f (inl b) = to f (inl b)
            to2 f (inr b) = to f (inr (inner, us, hs, b))

            from2 : (f : Fault) → FormBreaks k bs e f
                → breaking.BreaksSources k bs gs f ⊎ breaking.BreaksAs k inner want d f
            from2 f b =
                elim (from f b) [
                  | inl c ↦ inl c
                  | inr c ↦
                      inr (subst (λ
                      (cs : List Binding). breaking.BreaksAs k cs want d f) (sources-once B G c.2 hs)
                      c.3)
                ]

            by2 : Asked k A inner C d W X want a_slot.Last (record opened { first = us }) mid
                (ask k.facts a_slot.Last w (judged k.facts d)
                (st (record opened { first = us }) inner mid))
                → Answers k bs e found ((judged k.facts e).answer bs found)
            by2 (kept_there u new g j z) =
                typed-so k A bs e found new (λ f. breaking.BreaksSources k bs gs f
                ⊎ breaking.BreaksAs k inner want d f) _ (first_of new j) to2 (made us u)
                (has inner us u hs g) from2
                (at k A e bs found (st (record opened { first = us; last = Some u }) inner new) is
                (parts ∙ ap (unless_lost (ask k.facts a_slot.Last w (judged k.facts d))) q
                ∙ z) (whole us u inner new hs))
            by2 (lacking f new b j z) =
                broken-so k A bs e found new (λ f. breaking.BreaksSources k bs gs f
                ⊎ breaking.BreaksAs k inner want d f) _ (first_of new j) to2 f (inr b) from2
                (at k A e bs found (st (is_broken (record opened { first = us })) inner new) is
                (parts ∙ ap (unless_lost (ask k.facts a_slot.Last w (judged k.facts d))) q
                ∙ z) (none (is_broken (record opened { first = us })) new refl))

        by : Sourced bs gs opened found
            (sources k.facts (map (judged_generator k.facts) gs) (st opened bs found))
            → Answers k bs e found ((judged k.facts e).answer bs found)
        by (sourced inner us mid C hs i q) =
            inside_ inner us mid C hs i q
            (ask-exact k A inner C d W X want w a_slot.Last (record opened { first = us }) mid m)
        by (unsourced f new x cs b i q br l) =
            broken-so k A bs e found new (breaking.BreaksSources k bs gs) _ i (λ g c. to g (inl c))
            f b from1
            (at k A e bs found (st x cs new) is (parts
            ∙ ap (unless_lost (ask k.facts a_slot.Last w (judged k.facts d))) q
            ∙ ap (λ c. cond c (st x cs new)
            (ask k.facts a_slot.Last w (judged k.facts d) (st x cs new))) l)
            (none x new br))
          where
            from1 : (g : Fault) → FormBreaks k bs e g → breaking.BreaksSources k bs gs g
            from1 g c =
                elim (from g c) [
                  | inl z ↦ z
                  | inr z ↦ absurd (lost-sources x found new B G q l z.2)
                ]

    pub for-exact : (p : Place) → out-Form e ≡ Form-F.For p gs d
        → Answers k bs e found ((judged k.facts e).answer bs found)
    for-exact p is =
        behind (Form-F.For p gs d) is (rule.below unit) a_want.Unit unit_
        (λ us u. a_typed.For unit (map rule.generator_name gs) us u) refl
        (λ us u inner new hs. ap (λ
        (ns : List (NameId × Bool)). value (a_typed.For unit ns us u) new)
        (giving-names k A gs))
        (λ x new br. ap
        (λ c. cond c (untyped new)
        (by_one x.last new
        (λ u. value
        (a_typed.For unit (map giving_name (map (judged_generator k.facts) gs)) x.first u)
        new))) br)
        (λ inner us u hs h. rule.for_do p gs d inner us u is hs h refl) to
        (λ f b. only-left k A (of-layer k A bs e f is b))
      where
        to : (f : Fault) → breaking.BreaksSources k bs gs f ⊎ Inside (rule.below unit) f
            → FormBreaks k bs e f
        to f (inl b) = inl (breaking.in_sources p gs d is b)
        to f (inr c) = inl (breaking.in_for p gs d c.0 c.1 is c.2 c.3)

  pub one-of : {bs inner : List Binding} {g : Generator} {us : List TypedForm}
      → rule.HasSources k (Calls k) bs (g ∷ []) inner us → (s : TypedForm) × (us ≡ s ∷ [])
  one-of (rule.no_source e1 e2 e3) = absurd cc
  one-of (rule.source h more u vs ty e1 e2 fresh a gv rest) =
      let q : more ≡ [] = cc in (u, e2 ∙ ap (λ (xs : List TypedForm). u ∷ xs) (no-more-of rest q))
    where
      no-more-of : {cs inner : List Binding} {hs : List Generator} {xs : List TypedForm}
          → rule.HasSources k (Calls k) cs hs inner xs → hs ≡ [] → xs ≡ []
      no-more-of (rule.no_source e1 e2 e3) q = e3
      no-more-of (rule.source h more u vs ty e1 e2 fresh a gv rest) q = absurd cc

  first_node : List TypedForm → TypedForm → TypedForm
  first_node (s ∷ ts) u = s
  first_node [] u = u
