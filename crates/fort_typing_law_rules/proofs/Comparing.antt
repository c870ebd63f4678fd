-- Comparisons: what a `case` and a chain answer is exact where their parts are.
use Rattle.std.proofs.Common.{◌≡◌, ◌⊎◌, inl, inr, Bool, true, false, cond, List, [], ◌∷◌, ◌++◌, map, Option, Some, None, refl, arith, ap, ◌∙◌, sym, subst}
use Rattle.std.specs.Prelude.{option_map}
use Rattle.std.specs.List.{AllByRecursion}
use Rattle.fort_base.specs.declared.ids.SetId.{SetId}
use Rattle.fort_base.specs.declared.refusal.Place.{Place}
use Rattle.fort_base.specs.declared.refusal.Rule.{Rule}
use Rattle.fort_base.specs.declared.rules.TheConstants.{MISMATCH}
use Rattle.fort_base.specs.declared.ty.Ty.{Ty}
use Rattle.fort_ops.specs.declared.op.Op.{Op}
use Rattle.fort_ops.specs.declared.op.Op.TheVariants as an_op
use Rattle.fort_scope.specs.declared.binding.Binding.{Binding}
use Rattle.fort_form.specs.declared.form.Form.{Form, out-Form}
use Rattle.fort_form.specs.declared.form.Form.TheOpen.{Form-F}
use Rattle.fort_form.specs.declared.form.Branch.{Branch}
use Rattle.fort_form_typed.specs.declared.typed_form.Chosen.{Chosen}
use Rattle.fort_form_typed.specs.declared.typed_form.TypedForm.{TypedForm}
use Rattle.fort_form_typed.specs.declared.typed_form.TypedForm.TheVariants as a_typed
use Rattle.fort_typing_known.specs.declared.fault.Fault.{Fault}
use Rattle.fort_typing_known.specs.Known.{Knows}
use Rattle.fort_typing_known.specs.Below.{is_below}
use Rattle.fort_typing_known.specs.Sets.{operator_set}
use Rattle.fort_typing_call.specs.Called.{called}
use Rattle.fort_typing_call.specs.declared.called.Called.{Called}
use Rattle.fort_typing_call.specs.declared.called.Called.TheVariants as a_call
use Rattle.fort_typing_rules.specs.Calls.{Calls, CallBreaks}
use Rattle.fort_typing_rules.specs.Types.{boolean, type_of, types_of, place_of, fault, IsBelow, HasNoWidest}
use Rattle.fort_typing_rules.specs.Elements.{chosen}
use Rattle.fort_typing_rules.specs.Typing as rule
use Rattle.fort_typing_rules.specs.Breaking as breaking
use Rattle.fort_typing_meaning.specs.declared.frame.Want.TheVariants as a_want
use Rattle.fort_typing_meaning.specs.declared.frame.Slot.TheVariants as a_slot
use Rattle.fort_typing_meaning.specs.declared.frame.Frame.{Frame}
use Rattle.fort_typing_meaning.specs.declared.frame.Side.{Side}
use Rattle.fort_typing_meaning.specs.declared.frame.Valued.{Valued}
use Rattle.fort_typing_meaning.specs.Faults.{with_fault, breaks}
use Rattle.fort_typing_meaning.specs.Tests.{untyped, widest, taken}
use Rattle.fort_typing_meaning.specs.Parts.{Arm, State, opened, is_broken, kept, kept_if, said, compared_by, compared, side_type, side_of, take_subject, take_test, clauses, ask, ask_if}
use Rattle.fort_typing_meaning.specs.Closing.{by_widest, case_answer}
use Rattle.fort_typing_meaning.specs.Judging.{judged, judged_branch}
use Rattle.fort_typing_meaning.proofs.Levels.{arm-is}
use Rattle.fort_typing_law_rules.specs.Deciding.{IsType, AreTypes, IsAccepted, Decides}
use Rattle.fort_typing_law_rules.specs.Written.{IsWritten, AreBound}
use Rattle.fort_typing_law_rules.specs.Exact.{IsFirst, FormBreaks, Answers, IsExactExpression, AreExact, MayBeExact}
use Rattle.fort_typing_law_rules.proofs.Types.{all_join, built_in_type}
use Rattle.fort_typing_law_rules.proofs.Deciding.{is_decided}
use Rattle.fort_typing_law_rules.proofs.Written.{BranchWritten, MayBeWritten}
use Rattle.fort_typing_law_rules.proofs.Typed.{all-types, call-type, typed-as, typed-clauses, typed-else}
use Rattle.fort_typing_law_rules.proofs.Answered.{value_, operand_, st, at-level, mapped-case, clauses-answered, one_behind, nothing_behind}
use Rattle.fort_typing_law_rules.proofs.Asking.{place-is, ValuedAs, got, missed, taken-is, as-never, one-as}
use Rattle.fort_typing_law_rules.proofs.Firsts.{no_more, alike, one_more, both}
use Rattle.fort_typing_law_rules.proofs.Views.{BreaksAt, ElseBreaks, NoWidestCase}
use Rattle.fort_typing_law_rules.proofs.Steps.{broken-so, of-layer, only-left}
use Rattle.fort_typing_law_rules.proofs.Trying.{Far, fine, foul, Went, well, ill, still, go, ask-went, with_last, Behind, HasBehind, behind-went, behind-never}
use Rattle.fort_typing_law_rules.proofs.Choosing.{widest-so}

module _ (k : Knows) (A : IsAccepted k) where
  D : Decides k
  D = is_decided k A

  -- ---- one comparison

  abbrev pub set_for : Op → SetId
  set_for op = operator_set k.facts op 2

  abbrev pub NoCall : Op → TypedForm → TypedForm → Place → Fault → Type 0
  NoCall op u v p f = (r : Rule) × CallBreaks k (set_for op) (type_of u ∷ type_of v ∷ []) r
      × (f ≡ fault r p)

  abbrev pub NoTruth : Op → TypedForm → TypedForm → Place → Fault → Type 0
  NoTruth op u v p f = (result : Ty) × (widened : List Bool)
      × Calls k (set_for op) (type_of u ∷ type_of v ∷ []) result widened
      × (IsBelow k result boolean → ⊥) × (f ≡ fault MISMATCH p)

  abbrev pub ComparisonBreaks : Op → TypedForm → TypedForm → Place → Fault → Type 0
  ComparisonBreaks op u v p f = NoCall op u v p f ⊎ NoTruth op u v p f

  pub data Compared (op : Op) (u v : TypedForm) (p : Place) (w : Frame) (bs : List Binding)
      (mid : Option Fault) (s : State) : Type 0 where
    is_compared : (result : Ty) (widened : List Bool)
        → Calls k (set_for op) (type_of u ∷ type_of v ∷ []) result widened
        → IsBelow k result boolean → ((f : Fault) → ComparisonBreaks op u v p f → ⊥)
        → s ≡ st (record w { calls = w.calls ++ chosen (set_for op) widened ∷ [] }) bs mid
        → Compared op u v p w bs mid s
    not_compared : (f : Fault) (new : Option Fault) → ComparisonBreaks op u v p f
        → IsFirst mid (ComparisonBreaks op u v p) new → s ≡ st (is_broken w) bs new
        → Compared op u v p w bs mid s

  module _ (op : Op) (u v : TypedForm) (U : IsType k (type_of u)) (V : IsType k (type_of v))
      (p : Place) (w : Frame) (bs : List Binding) (mid : Option Fault) where
    abbrev types : List Ty
    types = type_of u ∷ type_of v ∷ []

    T : AreTypes k types
    T = (U, (V, tt))

    E : IsType k boolean
    E = built_in_type k A 5 (omega arith)

    abbrev goal : State → Type 0
    goal s = Compared op u v p w bs mid s

    no-refusal : (result : Ty) (widened : List Bool)
        → called k.facts (set_for op) types ≡ a_call.Result result widened → (f : Fault)
        → NoCall op u v p f → ⊥
    no-refusal result widened q f c =
        let z : a_call.Result result widened ≡ a_call.Refused c.0 =
        sym q ∙ D.refuses (set_for op) types c.0 T c.1 in absurd cc

    no-result : (r : Rule) → called k.facts (set_for op) types ≡ a_call.Refused r → (f : Fault)
        → NoTruth op u v p f → ⊥
    no-result r q f c =
        let z : a_call.Refused r ≡ a_call.Result c.0 c.1 =
        sym q ∙ D.calls (set_for op) types c.0 c.1 T c.2 in absurd cc

    same-result : (result : Ty) (widened : List Bool)
        → called k.facts (set_for op) types ≡ a_call.Result result widened → (f : Fault)
        → (c : NoTruth op u v p f) → c.0 ≡ result
    same-result result widened q f c =
        let z : a_call.Result c.0 c.1 ≡ a_call.Result result widened =
        sym (D.calls (set_for op) types c.0 c.1 T c.2) ∙ q in cc

    by-below : (result : Ty) (widened : List Bool)
        → called k.facts (set_for op) types ≡ a_call.Result result widened → (c : Bool)
        → is_below k.facts result boolean ≡ c
        → goal (cond c
        (st (record w { calls = w.calls ++ chosen (set_for op) widened ∷ [] }) bs mid)
        (st (is_broken w) bs (with_fault (fault MISMATCH p) mid)))
    by-below result widened q true b =
        let c = D.has_call (set_for op) types result widened T q in
        let below_ = D.told result boolean (call-type k A (set_for op) types result widened c) E b
        in
        is_compared result widened c below_ none refl
      where
        none : (f : Fault) → ComparisonBreaks op u v p f → ⊥
        none f (inl x) = no-refusal result widened q f x
        none f (inr x) = let r = same-result result widened q f x in
            x.3 (subst (λ
            (t : Ty). IsBelow k t boolean) (sym r)
            (D.told result boolean
            (call-type k A (set_for op) types result widened
            (D.has_call (set_for op) types result widened T q)) E b))
    by-below result widened q false b =
        not_compared (fault MISMATCH p) (with_fault (fault MISMATCH p) mid)
        (inr (result, widened, D.has_call (set_for op) types result widened T q, isnt, refl))
        (alike mid (λ f. f
        ≡ fault MISMATCH p) (ComparisonBreaks op u v p) (with_fault (fault MISMATCH p) mid)
        to from (one_more (fault MISMATCH p) mid)) refl
      where
        isnt : IsBelow k result boolean → ⊥
        isnt h = let z : true ≡ false =
            sym (D.below result boolean
            (call-type k A (set_for op) types result widened
            (D.has_call (set_for op) types result widened T q)) E h) ∙ b in absurd cc

        to : (f : Fault) → f ≡ fault MISMATCH p → ComparisonBreaks op u v p f
        to f e = inr (result, widened, D.has_call (set_for op) types result widened T q, isnt, e)

        from : (f : Fault) → ComparisonBreaks op u v p f → f ≡ fault MISMATCH p
        from f (inl x) = absurd (no-refusal result widened q f x)
        from f (inr x) = x.4

    by-call : (c : Called) → called k.facts (set_for op) types ≡ c
        → goal (compared_by k.facts op p c (st w bs mid))
    unfolding breaks
    by-call (a_call.Result result widened) q =
        by-below result widened q (is_below k.facts result boolean) refl
    by-call (a_call.Refused r) q =
        not_compared (fault r p) (with_fault (fault r p) mid)
        (inl (r, D.breaks_call (set_for op) types r T q, refl))
        (alike mid (λ f. f
        ≡ fault r p) (ComparisonBreaks op u v p) (with_fault (fault r p) mid) to from
        (one_more (fault r p) mid)) refl
      where
        to : (f : Fault) → f ≡ fault r p → ComparisonBreaks op u v p f
        to f e = inl (r, D.breaks_call (set_for op) types r T q, e)

        from : (f : Fault) → ComparisonBreaks op u v p f → f ≡ fault r p
        from f (inl x) =
            let z : a_call.Refused x.0 ≡ a_call.Refused r =
            sym (D.refuses (set_for op) types x.0 T x.1) ∙ q in let y : x.0 ≡ r = cc
            in x.2 ∙ ap (λ (s : Rule). fault s p) y
        from f (inr x) = absurd (no-result r q f x)

    pub compared-exact : goal (compared k.facts op p (Some (type_of u)) (Some v) (st w bs mid))
    compared-exact = by-call (called k.facts (set_for op) types) refl

  -- ---- one step and then another

  module _ (bs : List Binding) where
    pub then-went : (mid : Option Fault) (P Q : Fault → Type 0) (Inv Inv2 Good : Frame → Type 0)
        (Good2 : Frame → Frame → Type 0) (step : State → State)
        → ((z : Frame) (new : Option Fault) → Inv z
        → Went k A bs new Q Inv2 (Good2 z) z (step (st z bs new)))
        → (y : Frame) (s : State) → Went k A bs mid P Inv Good y s
        → Went k A bs mid (λ f. P f ⊎ Q f) Inv2 (λ x. (z : Frame) × Good z × Good2 z x) y (step s)
    then-went mid P Q Inv Inv2 Good Good2 step each y s (well z new v br g i e) =
        subst (λ (t : State). Went k A bs mid (λ f. P f ⊎ Q f) Inv2 (λ x.
        (z : Frame) × Good z × Good2 z x) y (step t)) (sym e) (by (each z new v))
      where
        by : Went k A bs new Q Inv2 (Good2 z) z (step (st z bs new))
            → Went k A bs mid (λ f. P f ⊎ Q f) Inv2 (λ x.
            (z : Frame) × Good z × Good2 z x) y (step (st z bs new))
        by (well x now w br2 h j q) = well x now w (br2 ∙ br) (z, g, h) (both mid new now P Q i j) q
        by (ill f now x w br2 c j q) = ill f now x w br2 (inr c) (both mid new now P Q i j) q
        by (still now x w yb br2 j q) = still now x w (sym br ∙ yb) br2 (both mid new now P Q i j) q
    then-went mid P Q Inv Inv2 Good Good2 step each y s (ill f new z v br c i e) =
        subst (λ (t : State). Went k A bs mid (λ f. P f ⊎ Q f) Inv2 (λ x.
        (z : Frame) × Good z × Good2 z x) y (step t)) (sym e) (by (each z new v))
      where
        by : Went k A bs new Q Inv2 (Good2 z) z (step (st z bs new))
            → Went k A bs mid (λ f. P f ⊎ Q f) Inv2 (λ x.
            (z : Frame) × Good z × Good2 z x) y (step (st z bs new))
        by (well x now w br2 h j q) = ill f now x w (br2 ∙ br) (inl c) (both mid new now P Q i j) q
        by (ill g now x w br2 d j q) = ill f now x w br2 (inl c) (both mid new now P Q i j) q
        by (still now x w yb br2 j q) = ill f now x w br2 (inl c) (both mid new now P Q i j) q
    then-went mid P Q Inv Inv2 Good Good2 step each y s (still new z v yb br i e) =
        subst (λ (t : State). Went k A bs mid (λ f. P f ⊎ Q f) Inv2 (λ x.
        (z : Frame) × Good z × Good2 z x) y (step t)) (sym e) (by (each z new v))
      where
        by : Went k A bs new Q Inv2 (Good2 z) z (step (st z bs new))
            → Went k A bs mid (λ f. P f ⊎ Q f) Inv2 (λ x.
            (z : Frame) × Good z × Good2 z x) y (step (st z bs new))
        by (well x now w br2 h j q) = still now x w yb (br2 ∙ br) (both mid new now P Q i j) q
        by (ill f now x w br2 d j q) = ill f now x w br2 (inr d) (both mid new now P Q i j) q
        by (still now x w yb2 br2 j q) = still now x w yb br2 (both mid new now P Q i j) q

    -- the same broken rules, said otherwise
    pub went-as : (mid : Option Fault) (P Q : Fault → Type 0) (Inv Good Good2 : Frame → Type 0)
        (y : Frame) (s : State) → ((f : Fault) → P f → Q f) → ((f : Fault) → Q f → P f)
        → ((z : Frame) → Good z → Good2 z)
        → Went k A bs mid P Inv Good y s → Went k A bs mid Q Inv Good2 y s
    went-as mid P Q Inv Good Good2 y s to from good (well z new v br g i e) =
        well z new v br (good z g) (alike mid P Q new to from i) e
    went-as mid P Q Inv Good Good2 y s to from good (ill f new z v br c i e) =
        ill f new z v br (to f c) (alike mid P Q new to from i) e
    went-as mid P Q Inv Good Good2 y s to from good (still new z v yb br i e) =
        still new z v yb br (alike mid P Q new to from i) e

  -- ---- `case`

  module _ (bs : List Binding) (B : AreBound k bs) (s : Form) (W : IsWritten k s)
      (X : IsExactExpression k s) where
    abbrev Subject : TypedForm → Type 0
    Subject u = rule.HasAs k (Calls k) bs rule.an_operand s u

    abbrev side : TypedForm → Option Side
    side u = Some (record { place = (judged k.facts s).place; ty = type_of u })

    -- the subject has a type, or it has none
    pub data Subjected (y : Frame) : Type 0 where
      typed_subject : (u : TypedForm) → Subject u → y.side ≡ side u → Subjected y
      lost_subject : y.side ≡ None → y.broken ≡ true → ((u : TypedForm) → Subject u → ⊥)
          → Subjected y

    subject-type : (u : TypedForm) → Subject u → IsType k (type_of u)
    subject-type u h = (typed-as k A h B W).0

    one-subject : (u v : TypedForm) → Subject u → Subject v → u ≡ v
    one-subject u v h g = one-as k A bs B s W X rule.an_operand u v h g

    -- what is compared with it
    module _ (d : Form) (E : IsWritten k d) (F : IsExactExpression k d) where
      abbrev Test : Fault → Type 0
      Test f = breaking.BreaksAs k bs rule.an_operand d f

      abbrev Tested : TypedForm → Type 0
      Tested v = rule.HasAs k (Calls k) bs rule.an_operand d v

      abbrev pub Unequal : Fault → Type 0
      Unequal f = (u : TypedForm) × (v : TypedForm) × Subject u × Tested v
          × ComparisonBreaks an_op.Eq u v (place_of d) f

      abbrev TestBreaks : Fault → Type 0
      TestBreaks f = Test f ⊎ Unequal f

      abbrev TestGood : Frame → Frame → Type 0
      TestGood y z = (u : TypedForm) × (v : TypedForm) × (result : Ty) × (widened : List Bool)
          × Subject u × (y.side ≡ side u) × Tested v
          × Calls k (set_for an_op.Eq) (type_of u ∷ type_of v ∷ []) result widened
          × IsBelow k result boolean
          × (z ≡ record y {
            first = y.first ++ v ∷ [];
            calls = y.calls ++ chosen (set_for an_op.Eq) widened ∷ [];
          })

      abbrev Tests : Frame → Option Fault → State → Type 0
      Tests y mid t = Went k A bs mid TestBreaks Subjected (TestGood y) y t

      abbrev here : Place
      here = (judged k.facts d).place

      abbrev after : Frame → Option TypedForm → Option Fault → State
      after y o new =
          compared k.facts an_op.Eq here (side_type y.side) o (st (kept_if a_slot.First o y) bs new)

      test-first : (mid new : Option Fault) → ((f : Fault) → Unequal f → ⊥) → IsFirst mid Test new
          → IsFirst mid TestBreaks new
      test-first mid new n i =
          alike mid Test TestBreaks new (λ f c. inl c)
          (λ f c. elim c [ inl x ↦ x | inr x ↦ absurd (n f x) ]) i

      one-tested : (v w : TypedForm) → Tested v → Tested w → v ≡ w
      one-tested v w h g = one-as k A bs B d E F rule.an_operand v w h g

      unequal-of : (u v : TypedForm) → Subject u → Tested v → (f : Fault) → Unequal f
          → ComparisonBreaks an_op.Eq u v here f
      unequal-of u v hu hv f c =
          subst (λ (q : Place). ComparisonBreaks an_op.Eq u v q f) (sym (place-is k A d))
          (subst (λ
          (z : TypedForm). ComparisonBreaks an_op.Eq u z (place_of d) f)
          (one-tested c.1 v c.3 hv)
          (subst (λ
          (z : TypedForm). ComparisonBreaks an_op.Eq z c.1 (place_of d) f)
          (one-subject c.0 u c.2 hu) c.4))

      unequal-made : (u v : TypedForm) → Subject u → Tested v → (f : Fault)
          → ComparisonBreaks an_op.Eq u v here f → Unequal f
      unequal-made u v hu hv f c = (
        u,
        v,
        hu,
        hv,
        subst (λ
            (q : Place). ComparisonBreaks an_op.Eq u v q f) (place-is k A d) c,
      )

      after-typed : (y : Frame) (mid : Option Fault) (u : TypedForm) (hu : Subject u)
          (e : y.side ≡ side u) (v : Valued) → ValuedAs k A bs B d E F rule.an_operand mid v
          → Tests y mid (after y v.node v.found)
      after-typed y mid u hu e v (missed x q b i) =
          subst (λ (o : Option TypedForm). Tests y mid (after y o v.found)) (sym q)
          (ill x v.found (is_broken y) (typed_subject u hu e) refl (inl b)
          (test-first mid v.found
          (λ f c. as-never k A bs B d E F rule.an_operand c.1 c.3 x b) i)
          (quiet (side_type y.side)))
        where
          quiet : (o : Option Ty)
              → compared k.facts an_op.Eq here o None (st (is_broken y) bs v.found)
              ≡ st (is_broken y) bs v.found
          quiet None = refl
          quiet (Some t) = refl
      after-typed y mid u hu e v (got t q h i) =
          subst (λ (o : Option TypedForm). Tests y mid (after y o v.found)) (sym q)
          (subst (λ
          (o : Option Side). Tests y mid
          (compared k.facts an_op.Eq here (side_type o) (Some t)
          (st (kept a_slot.First t y) bs v.found))) (sym e)
          (by (compared-exact an_op.Eq u t (subject-type u hu) (typed-as k A h B E).0 here
          (kept a_slot.First t y) bs v.found)))
        where
          by : Compared an_op.Eq u t here (kept a_slot.First t y) bs v.found
              (compared k.facts an_op.Eq here (Some (type_of u)) (Some t)
              (st (kept a_slot.First t y) bs v.found))
              → Tests y mid
              (compared k.facts an_op.Eq here (Some (type_of u)) (Some t)
              (st (kept a_slot.First t y) bs v.found))
          by (is_compared result widened c b n r) =
              well (record y {
                first = y.first ++ t ∷ [];
                calls = y.calls ++ chosen (set_for an_op.Eq) widened ∷ [];
              }) v.found
              (typed_subject u hu e) refl (u, t, result, widened, hu, e, h, c, b, refl)
              (test-first mid v.found (λ f x. n f (unequal-of u t hu h f x)) i) r
          by (not_compared f new c j r) =
              ill f new (is_broken (kept a_slot.First t y)) (typed_subject u hu e) refl
              (inr (unequal-made u t hu h f c))
              (both mid v.found new Test Unequal i
              (alike v.found (ComparisonBreaks an_op.Eq u t here) Unequal new
              (unequal-made u t hu h) (unequal-of u t hu h) j)) r

      after-lost : (y : Frame) (mid : Option Fault) → y.side ≡ None → y.broken ≡ true
          → ((u : TypedForm) → Subject u → ⊥) → (v : Valued)
          → ValuedAs k A bs B d E F rule.an_operand mid v → Tests y mid (after y v.node v.found)
      after-lost y mid e br n v (missed x q b i) =
          subst (λ (o : Option TypedForm). Tests y mid (after y o v.found)) (sym q)
          (ill x v.found (is_broken y) (lost_subject e refl n) refl (inl b)
          (test-first mid v.found (λ f c. n c.0 c.2) i) (ap (λ
          (o : Option Side). compared k.facts an_op.Eq here (side_type o) None
          (st (is_broken y) bs v.found)) e))
      after-lost y mid e br n v (got t q h i) =
          subst (λ (o : Option TypedForm). Tests y mid (after y o v.found)) (sym q)
          (still v.found (kept a_slot.First t y) (lost_subject e br n) br br
          (test-first mid v.found (λ f c. n c.0 c.2) i) (ap (λ
          (o : Option Side). compared k.facts an_op.Eq here (side_type o) (Some t)
          (st (kept a_slot.First t y) bs v.found)) e))

      pub test-went : (y : Frame) (mid : Option Fault) → Subjected y
          → Tests y mid
          (take_test k.facts (judged k.facts d).place (said (judged k.facts d) (st y bs mid)))
      unfolding take_test said
      test-went y mid (typed_subject u hu e) =
          after-typed y mid u hu e
          (taken k.facts a_want.Operand here ((judged k.facts d).answer bs mid).seen
          ((judged k.facts d).answer bs mid).found)
          (taken-is k A bs B d E F rule.an_operand a_want.Operand mid operand_)
      test-went y mid (lost_subject e br n) =
          after-lost y mid e br n
          (taken k.facts a_want.Operand here ((judged k.facts d).answer bs mid).seen
          ((judged k.facts d).answer bs mid).found)
          (taken-is k A bs B d E F rule.an_operand a_want.Operand mid operand_)

    -- a clause, and those behind it
    abbrev ClauseGood : List Branch → Frame → Frame → Type 0
    ClauseGood branches y z = (u : TypedForm) × (cs : List Chosen) × (ts : List TypedForm)
        × (vs : List TypedForm) × Subject u × (y.side ≡ side u)
        × rule.HasClauses k (Calls k) bs u branches cs ts vs
        × (z ≡ record y { first = y.first ++ ts; second = y.second ++ vs; calls = y.calls ++ cs })

    kept-second : (y : Frame) (t : TypedForm) → Subjected y → Subjected (kept a_slot.Second t y)
    kept-second y t (typed_subject u h e) = typed_subject u h e
    kept-second y t (lost_subject e br n) = lost_subject e br n

    broken-still : (y : Frame) → Subjected y → Subjected (is_broken y)
    broken-still y (typed_subject u h e) = typed_subject u h e
    broken-still y (lost_subject e br n) = lost_subject e refl n

    abbrev ClauseBreaks : (b : Branch) → BranchWritten k b → IsExactExpression k (rule.test_of b)
        → List Branch → Fault → Type 0
    ClauseBreaks b V Y more f =
        (TestBreaks (rule.test_of b) V.0 Y f
        ⊎ breaking.BreaksAs k bs rule.a_value (rule.value_of b) f)
        ⊎ breaking.BreaksClauses k bs s more f

    clauses-of : (b : Branch) (V : BranchWritten k b) (Y : IsExactExpression k (rule.test_of b))
        (more : List Branch) (f : Fault) → breaking.BreaksClauses k bs s (b ∷ more) f
        → ClauseBreaks b V Y more f
    clauses-of b V Y more f (breaking.in_test c cs e x) =
        inl (inl (inl (subst (λ
        (z : Branch). breaking.BreaksAs k bs rule.an_operand (rule.test_of z) f)
        (let q : c ≡ b = cc in q) x)))
    clauses-of b V Y more f (breaking.no_equality c cs u v r e hu hv x w) = let q : c ≡ b = cc in
        inl (inl (inr (
          u,
          v,
          hu,
          subst (λ
              (z : Branch). rule.HasAs k (Calls k) bs rule.an_operand (rule.test_of z) v) q hv,
          inl (r, x, subst (λ (z : Branch). f ≡ fault r (place_of (rule.test_of z))) q w),
        )))
    clauses-of b V Y more f (breaking.no_truth_value c cs u v result widened e hu hv x n w) =
        let q : c ≡ b = cc in
        inl (inl (inr (
          u,
          v,
          hu,
          subst (λ
              (z : Branch). rule.HasAs k (Calls k) bs rule.an_operand (rule.test_of z) v) q hv,
          inr (
            result,
            widened,
            x,
            n,
            subst (λ
                (z : Branch). f ≡ fault MISMATCH (place_of (rule.test_of z))) q w,
          ),
        )))
    clauses-of b V Y more f (breaking.in_value c cs e x) =
        inl (inr (subst (λ (z : Branch). breaking.BreaksAs k bs rule.a_value (rule.value_of z) f)
        (let q : c ≡ b = cc in q) x))
    clauses-of b V Y more f (breaking.in_next_clause c cs e x) =
        inr (subst (λ (zs : List Branch). breaking.BreaksClauses k bs s zs f)
        (let q : cs ≡ more = cc in q) x)

    clauses-made : (b : Branch) (V : BranchWritten k b) (Y : IsExactExpression k (rule.test_of b))
        (more : List Branch) (f : Fault) → ClauseBreaks b V Y more f
        → breaking.BreaksClauses k bs s (b ∷ more) f
    clauses-made b V Y more f (inl (inl (inl x))) = breaking.in_test b more refl x
    clauses-made b V Y more f (inl (inl (inr (u, v, hu, hv, inl x)))) =
        breaking.no_equality b more u v x.0 refl hu hv x.1 x.2
    clauses-made b V Y more f (inl (inl (inr (u, v, hu, hv, inr x)))) =
        breaking.no_truth_value b more u v x.0 x.1 refl hu hv x.2 x.3 x.4
    clauses-made b V Y more f (inl (inr x)) = breaking.in_value b more refl x
    clauses-made b V Y more f (inr x) = breaking.in_next_clause b more refl x

    none-claused : (f : Fault) → breaking.BreaksClauses k bs s [] f → ⊥
    none-claused f (breaking.in_test c cs e x) = absurd cc
    none-claused f (breaking.no_equality c cs u v r e hu hv x w) = absurd cc
    none-claused f (breaking.no_truth_value c cs u v result widened e hu hv x n w) = absurd cc
    none-claused f (breaking.in_value c cs e x) = absurd cc
    none-claused f (breaking.in_next_clause c cs e x) = absurd cc

    pub clauses-went : (branches : List Branch) → AllByRecursion (BranchWritten k) branches
        → AreExact k (map rule.test_of branches) → AreExact k (map rule.value_of branches)
        → (y : Frame) (mid : Option Fault) → Subjected y
        → Went k A bs mid (breaking.BreaksClauses k bs s branches) (λ z. Unit {0})
        (ClauseGood branches y) y
        (clauses k.facts (map (judged_branch k.facts) branches) (st y bs mid))
    unfolding clauses
    clauses-went [] V Y Z y mid (typed_subject u h e) = well y mid tt refl (
      u,
      [],
      [],
      [],
      h,
      e,
      rule.no_clause refl refl refl refl,
      ap (λ (ts : List TypedForm). record y { first = ts }) (sym (nothing_behind y.first))
          ∙ ap (λ (ts : List TypedForm). record y { first = y.first ++ []; second = ts })
          (sym (nothing_behind y.second))
          ∙ ap (λ (cs : List Chosen). record y {
            first = y.first ++ [];
            second = y.second ++ [];
            calls = cs;
          }) (sym (nothing_behind y.calls)),
    )
        (no_more mid (breaking.BreaksClauses k bs s []) none-claused) refl
    clauses-went [] V Y Z y mid (lost_subject e br n) =
        still mid y tt br br (no_more mid (breaking.BreaksClauses k bs s []) none-claused) refl
    clauses-went (b ∷ more) V Y Z y mid S =
        let one = test-went (rule.test_of b) V.0.0 Y.0 y mid S in
        let two =
        then-went bs mid (TestBreaks (rule.test_of b) V.0.0 Y.0)
        (breaking.BreaksAs k bs rule.a_value (rule.value_of b)) Subjected Subjected
        (TestGood (rule.test_of b) V.0.0 Y.0 y)
        (λ x z. (t : TypedForm) × rule.HasAs k (Calls k) bs rule.a_value (rule.value_of b) t
        × (z ≡ kept a_slot.Second t x))
        (ask k.facts a_slot.Second a_want.Value (judged k.facts (rule.value_of b)))
        (ask-went k A bs B Subjected a_slot.Second kept-second broken-still (λ x t. refl)
        (rule.value_of b) V.0.1 Z.0 rule.a_value a_want.Value value_) y _ one in
        let three =
        then-went bs mid (λ f. TestBreaks (rule.test_of b) V.0.0 Y.0 f
        ⊎ breaking.BreaksAs k bs rule.a_value (rule.value_of b) f)
        (breaking.BreaksClauses k bs s more) Subjected (λ z. Unit {0})
        (λ x. (z : Frame) × TestGood (rule.test_of b) V.0.0 Y.0 y z
        × ((t : TypedForm) × rule.HasAs k (Calls k) bs rule.a_value (rule.value_of b) t
        × (x ≡ kept a_slot.Second t z)))
        (ClauseGood more) (clauses k.facts (map (judged_branch k.facts) more))
        (clauses-went more V.1 Y.1 Z.1) y _ two in
        subst (λ (a : Arm). Went k A bs mid (breaking.BreaksClauses k bs s (b ∷ more))
        (λ z. Unit {0}) (ClauseGood (b ∷ more) y) y
        (clauses k.facts (map (judged_branch k.facts) more)
        (ask k.facts a_slot.Second a_want.Value a.value
        (take_test k.facts a.test.place (said a.test (st y bs mid)))))) (sym
        (arm-is k.facts b))
        (went-as bs mid _ (breaking.BreaksClauses k bs s (b ∷ more)) (λ z. Unit {0}) _
        (ClauseGood (b ∷ more) y) y _ (clauses-made b V.0 Y.0 more)
        (clauses-of b V.0 Y.0 more) good three)
      where
        good : (z : Frame)
            → ((x : Frame)
            × ((w : Frame) × TestGood (rule.test_of b) V.0.0 Y.0 y w
            × ((t : TypedForm) × rule.HasAs k (Calls k) bs rule.a_value (rule.value_of b) t
            × (x ≡ kept a_slot.Second t w))) × ClauseGood more x z) → ClauseGood (b ∷ more) y z
        good z (
          x,
          (w, (u, v, result, widened, hu, e, hv, c, bl, q1), (t, ht, q2)),
          (u2, cs, ts, vs, hu2, e2, h2, q3),
        ) = (
          u,
          chosen (set_for an_op.Eq) widened ∷ cs,
          v ∷ ts,
          t ∷ vs,
          hu,
          e,
          rule.clause b more v t result widened cs ts vs refl hv c bl ht (subst (λ
              (q : TypedForm). rule.HasClauses k (Calls k) bs q more cs ts vs)
              (one-subject u2 u hu2 hu) h2) refl refl refl,
          q3 ∙ ap (λ
              (f : Frame). record f {
                first = f.first ++ ts;
                second = f.second ++ vs;
                calls = f.calls ++ cs;
              }) (q2 ∙ ap (λ (f : Frame). kept a_slot.Second t f) q1)
              ∙ ap (λ (xs : List TypedForm). record y {
                first = xs;
                second = (y.second ++ t ∷ []) ++ vs;
                calls = (y.calls ++ chosen (set_for an_op.Eq) widened ∷ []) ++ cs;
              })
              (one_behind y.first ts v)
              ∙ ap (λ (xs : List TypedForm). record y {
                first = y.first ++ v ∷ ts;
                second = xs;
                calls = (y.calls ++ chosen (set_for an_op.Eq) widened ∷ []) ++ cs;
              })
              (one_behind y.second vs t)
              ∙ ap (λ (xs : List Chosen). record y {
                first = y.first ++ v ∷ ts;
                second = y.second ++ t ∷ vs;
                calls = xs;
              })
              (one_behind y.calls cs (chosen (set_for an_op.Eq) widened)),
        )

    -- clauses that have types break nothing, and have one typed form each
    clause-frame : TypedForm → Frame
    clause-frame u = record opened { side = side u }

    pub never-claused : (u : TypedForm) (hu : Subject u) (branches : List Branch) (cs : List Chosen)
        (ts vs : List TypedForm) → AllByRecursion (BranchWritten k) branches
        → AreExact k (map rule.test_of branches)
        → AreExact k (map rule.value_of branches)
        → rule.HasClauses k (Calls k) bs u branches cs ts vs → (f : Fault)
        → breaking.BreaksClauses k bs s branches f → ⊥
    never-claused u hu branches cs ts vs V Y Z h f b =
        by (clauses-went branches V Y Z (record opened { side = side u }) None
        (typed_subject u hu refl))
      where
        clean : (new : Option Fault) (z : Frame)
            → clauses k.facts (map (judged_branch k.facts) branches)
            (st (record opened { side = side u }) bs None) ≡ st z bs new → new ≡ None
        clean new z q =
            ap (λ (t : State). t.found) (sym q
            ∙ clauses-answered k A h B V (subject-type u hu) (judged k.facts s).place
            (record opened { side = side u }) None refl)

        by : Went k A bs None (breaking.BreaksClauses k bs s branches) (λ z. Unit {0})
            (ClauseGood branches (record opened { side = side u }))
            (record opened { side = side u })
            (clauses k.facts (map (judged_branch k.facts) branches)
            (st (record opened { side = side u }) bs None)) → ⊥
        by (well z new v br g i q) = (i.none (clean new z q)).1 f b
        by (ill g new z v br c i q) = (i.none (clean new z q)).1 f b
        by (still new z v yb br i q) = (i.none (clean new z q)).1 f b

    pub one-clauses : (u : TypedForm) (hu : Subject u) (branches : List Branch)
        (cs ds : List Chosen) (ts xs vs ys : List TypedForm)
        → AllByRecursion (BranchWritten k) branches
        → rule.HasClauses k (Calls k) bs u branches cs ts vs
        → rule.HasClauses k (Calls k) bs u branches ds xs ys → vs ≡ ys
    one-clauses u hu branches cs ds ts xs vs ys V h g = ap (λ (t : State). t.frame.second)
        (sym (clauses-answered k A h B V (subject-type u hu) (judged k.facts s).place
        (record opened { side = side u }) None refl)
        ∙ clauses-answered k A g B V (subject-type u hu) (judged k.facts s).place
        (record opened { side = side u }) None refl)

    -- ---- a whole `case`

    module _ (e : Form) (found : Option Fault) (p : Place) (branches : List Branch)
        (other : Option Form) (V : AllByRecursion (BranchWritten k) branches)
        (U : MayBeWritten k other)
        (Y : AreExact k (map rule.test_of branches)) (Z : AreExact k (map rule.value_of branches))
        (O : MayBeExact k other) (is : out-Form e ≡ Form-F.Case p s branches other) where
      abbrev Nothing_yet : Fault → Type 0
      Nothing_yet f = ⊥

      abbrev Fresh : Frame → Type 0
      Fresh y = y ≡ opened

      abbrev SubjectBreaks : Fault → Type 0
      SubjectBreaks f = breaking.BreaksAs k bs rule.an_operand s f

      abbrev SubjectGood : Frame → Frame → Type 0
      SubjectGood y z = (u : TypedForm) × Subject u
          × (z ≡ record (kept a_slot.Head u y) { side = side u })

      abbrev subject_step : State → State
      subject_step t = take_subject k.facts (judged k.facts s).place (said (judged k.facts s) t)

      subject-went : (y : Frame) (mid : Option Fault) → Fresh y
          → Went k A bs mid SubjectBreaks Subjected (SubjectGood y) y (subject_step (st y bs mid))
      unfolding take_subject said
      subject-went y mid fr =
          by (taken k.facts a_want.Operand (judged k.facts s).place
          ((judged k.facts s).answer bs mid).seen ((judged k.facts s).answer bs mid).found)
          (taken-is k A bs B s W X rule.an_operand a_want.Operand mid operand_)
        where
          by : (v : Valued) → ValuedAs k A bs B s W X rule.an_operand mid v
              → Went k A bs mid SubjectBreaks Subjected (SubjectGood y) y
              (st (record (kept_if a_slot.Head v.node y) {
                side =
                    side_of (judged k.facts s).place v.node;
              }) bs v.found)
          by v (got t q h i) =
              subst (λ (o : Option TypedForm). Went k A bs mid SubjectBreaks Subjected
              (SubjectGood y) y
              (st (record (kept_if a_slot.Head o y) {
                side =
                    side_of (judged k.facts s).place o;
              }) bs v.found)) (sym q)
              (well (record (kept a_slot.Head t y) { side = side t }) v.found
              (typed_subject t h refl) refl (t, h, refl) i refl)
          by v (missed x q b i) =
              subst (λ (o : Option TypedForm). Went k A bs mid SubjectBreaks Subjected
              (SubjectGood y) y
              (st (record (kept_if a_slot.Head o y) {
                side =
                    side_of (judged k.facts s).place o;
              }) bs v.found)) (sym q)
              (ill x v.found (record (is_broken y) { side = None })
              (lost_subject refl refl
              (λ u h. as-never k A bs B s W X rule.an_operand u h x b)) refl b i refl)

      abbrev P1 : Fault → Type 0
      P1 f = Nothing_yet f ⊎ SubjectBreaks f

      abbrev P2 : Fault → Type 0
      P2 f = P1 f ⊎ breaking.BreaksClauses k bs s branches f

      abbrev P3 : Fault → Type 0
      P3 f = P2 f ⊎ Behind k A bs B rule.a_value other f

      abbrev G1 : Frame → Type 0
      G1 z = (y : Frame) × Fresh y × SubjectGood y z

      abbrev G2 : Frame → Type 0
      G2 z = (y : Frame) × G1 y × ClauseGood branches y z

      abbrev G3 : Frame → Type 0
      G3 z = (y : Frame) × G2 y
          × ((o : Option TypedForm) × HasBehind k A bs B rule.a_value other o
          × (z ≡ with_last k A bs B o y))

      abbrev all_parts : State
      all_parts =
          ask_if k.facts a_slot.Last a_want.Value (option_map (judged k.facts) other)
          (clauses k.facts (map (judged_branch k.facts) branches)
          (subject_step (st opened bs found)))

      far : Far k A bs found P3 (λ z. Unit {0}) G3 all_parts
      far =
          let f0 : Far k A bs found Nothing_yet Fresh Fresh (st opened bs found) =
          fine opened found refl refl refl (no_more found Nothing_yet (λ f c. c)) refl in
          let f1 = go k A bs found Nothing_yet SubjectBreaks Fresh Subjected Fresh SubjectGood
          subject_step subject-went (st opened bs found) f0 in
          let f2 = go k A bs found P1 (breaking.BreaksClauses k bs s branches) Subjected
          (λ z. Unit {0}) G1 (ClauseGood branches)
          (clauses k.facts (map (judged_branch k.facts) branches)) (clauses-went branches V Y Z)
          _ f1 in
          go k A bs found P2 (Behind k A bs B rule.a_value other) (λ z. Unit {0}) (λ z. Unit {0}) G2
          (λ y z. (o : Option TypedForm) × HasBehind k A bs B rule.a_value other o
          × (z ≡ with_last k A bs B o y))
          (ask_if k.facts a_slot.Last a_want.Value (option_map (judged k.facts) other))
          (λ y mid v. behind-went k A bs B other U O rule.a_value a_want.Value value_ y mid) _
          f2

      to : (f : Fault) → P3 f → FormBreaks k bs e f
      to f (inl (inl (inl c))) = absurd c
      to f (inl (inl (inr c))) = inl (breaking.in_subject p s branches other is c)
      to f (inl (inr c)) = inl (breaking.in_clauses p s branches other is c)
      to f (inr c) = else_of other is c
        where
          else_of : (o : Option Form) → out-Form e ≡ Form-F.Case p s branches o
              → Behind k A bs B rule.a_value o f → FormBreaks k bs e f
          else_of None q c = absurd c
          else_of (Some d) q c = inl (breaking.in_case_else p s branches d q c)

      abbrev Own : Fault → Type 0
      Own f = NoWidestCase k bs p s branches other f

      from : (f : Fault) → FormBreaks k bs e f → P3 f ⊎ Own f
      from f c = by (only-left k A (of-layer k A bs e f is c))
        where
          behind_ : (o : Option Form) → ElseBreaks k bs o f → Behind k A bs B rule.a_value o f
          behind_ None x = x
          behind_ (Some d) x = x

          by : BreaksAt k bs (Form-F.Case p s branches other) f → P3 f ⊎ Own f
          by (inl x) = inl (inl (inl (inr x)))
          by (inr (inl x)) = inl (inl (inr x))
          by (inr (inr (inl x))) = inl (inr (behind_ other x))
          by (inr (inr (inr x))) = inr x

      else-behind : (o : Option Form) (w : Option TypedForm) → rule.HasElse k (Calls k) bs o w
          → HasBehind k A bs B rule.a_value o w
      else-behind None w (rule.no_else e1 e2) = e2
      else-behind None w (rule.else_ d u e1 h e2) = absurd cc
      else-behind (Some d) w (rule.no_else e1 e2) = absurd cc
      else-behind (Some d) w (rule.else_ c u e1 h e2) = (
        u,
        subst (λ (x : Form). rule.HasAs k (Calls k) bs rule.a_value x u)
            (let q : c ≡ d = cc in q) h,
        e2,
      )

      behind-else : (o : Option Form) (w : Option TypedForm) → HasBehind k A bs B rule.a_value o w
          → rule.HasElse k (Calls k) bs o w
      behind-else None w h = rule.no_else refl h
      behind-else (Some d) w h = rule.else_ d h.0 refl h.1 h.2

      one-behind-it : (o : Option Form) → MayBeWritten k o → MayBeExact k o
          → (v w : Option TypedForm) → HasBehind k A bs B rule.a_value o v
          → HasBehind k A bs B rule.a_value o w → v ≡ w
      one-behind-it None E F v w h g = h ∙ sym g
      one-behind-it (Some d) E F v w h g =
          h.2 ∙ ap (λ
          (q : TypedForm). Some q) (one-as k A bs B d E F rule.a_value h.0 g.0 h.1 g.1)
          ∙ sym g.2

      no-own : (g : Fault) → P3 g → (f : Fault) → Own f → ⊥
      no-own g (inl (inl (inl c))) f n = c
      no-own g (inl (inl (inr c))) f n = as-never k A bs B s W X rule.an_operand n.0 n.5 g c
      no-own g (inl (inr c)) f n = never-claused n.0 n.5 branches n.1 n.2 n.3 V Y Z n.6 g c
      no-own g (inr c) f n =
          behind-never k A bs B other U O rule.a_value n.4 (else-behind other n.4 n.7) g c

      closes : (u : TypedForm) (cs : List Chosen) (ts vs : List TypedForm) (w : Option TypedForm)
          (new : Option Fault)
          → cond (with_last k A bs B w
          (record opened {
            head = Some u;
            first = ts;
            second = vs;
            calls = cs;
            side = side u;
          })).broken (untyped new)
          (case_answer k.facts p
          (with_last k A bs B w
          (record opened {
            head = Some u;
            first = ts;
            second = vs;
            calls = cs;
            side = side u;
          })) new)
          ≡ by_widest p (widest k.facts (types_of vs ++ rule.else_types w)) new
          (λ ty. a_typed.Case ty u cs ts vs w)
      unfolding case_answer
      closes u cs ts vs None new = refl
      closes u cs ts vs (Some t) new = refl

      case-whole : (z y2 y1 y0 : Frame) (new : Option Fault) (v u : TypedForm) (cs : List Chosen)
          (ts vs : List TypedForm) (o : Option TypedForm) → Fresh y0 → Subject v
          → y1 ≡ record (kept a_slot.Head v y0) { side = side v }
          → Subject u → y1.side ≡ side u → rule.HasClauses k (Calls k) bs u branches cs ts vs
          → y2 ≡ record y1 {
            first = y1.first ++ ts;
            second = y1.second ++ vs;
            calls = y1.calls ++ cs;
          }
          → HasBehind k A bs B rule.a_value other o → z ≡ with_last k A bs B o y2
          → IsFirst found P3 new → all_parts ≡ st z bs new
          → Answers k bs e found ((judged k.facts e).answer bs found)
      case-whole z y2 y1 y0 new v u cs ts vs o q0 hv q1 hu es hc q2 hb q3 i q =
          widest-so k A bs e found new P3 p (types_of vs ++ rule.else_types o)
          (λ ty. a_typed.Case ty u cs ts vs o)
          (all_join (IsType k) (types_of vs) (rule.else_types o)
          (all-types k A vs (typed-clauses k A hc B V))
          (typed-else k A (behind-else other o hb) B U)) i to Own from own
          (λ ty wide. rule.case p s branches other u cs ts vs o ty is hu hc (behind-else other o hb)
          wide refl)
          (λ nw. inl
          (breaking.no_widest_case p s branches other u cs ts vs o is hu hc
          (behind-else other o hb) nw refl))
          (at-level k A e bs found (st z bs new) is (mapped-case k A p s branches other) q
          (ap (λ (y : Frame). cond y.broken (untyped new) (case_answer k.facts p y new)) frame_is
          ∙ closes u cs ts vs o new))
        where
          frame_is : z
              ≡ with_last k A bs B o
              (record opened { head = Some u; first = ts; second = vs; calls = cs; side = side u })
          frame_is =
              q3 ∙ ap (λ
              (y : Frame). with_last k A bs B o y) (q2 ∙ ap (λ
              (y : Frame). record y {
                first = y.first ++ ts;
                second = y.second ++ vs;
                calls = y.calls ++ cs;
              })
              (q1 ∙ ap (λ (y : Frame). record (kept a_slot.Head v y) { side = side v }) q0 ∙ ap (λ
              (t : TypedForm). record (kept a_slot.Head t opened) { side = side t })
              (one-subject v u hv hu)))

          own : (f : Fault) → Own f
              → HasNoWidest k (types_of vs ++ rule.else_types o) × (f ≡ fault MISMATCH p)
          own f n =
              let eu = one-subject n.0 u n.5 hu in
              let hc' : rule.HasClauses k (Calls k) bs u branches n.1 n.2 n.3 =
              subst (λ (t : TypedForm). rule.HasClauses k (Calls k) bs t branches n.1 n.2 n.3)
              eu n.6 in
              let ev = one-clauses u hu branches cs n.1 ts n.2 vs n.3 V hc hc' in
              let ew = one-behind-it other U O o n.4 hb (else-behind other n.4 n.7) in (
                subst (λ
                    (ys : List TypedForm). HasNoWidest k (types_of ys ++ rule.else_types o))
                    (sym ev) (subst (λ
                    (y : Option TypedForm). HasNoWidest k (types_of n.3 ++ rule.else_types y))
                    (sym ew) n.8),
                n.9,
              )

      pub case-exact : Answers k bs e found ((judged k.facts e).answer bs found)
      unfolding case_answer
      case-exact = by far
        where
          by : Far k A bs found P3 (λ z. Unit {0}) G3 all_parts
              → Answers k bs e found ((judged k.facts e).answer bs found)
          by (foul f new y v br c i q) = broken-so k A bs e found new P3 _ i to f c back
              (at-level k A e bs found (st y bs new) is (mapped-case k A p s branches other) q
              (ap (λ b. cond b (untyped new) (case_answer k.facts p y new)) br))
            where
              back : (g : Fault) → FormBreaks k bs e g → P3 g
              back g d = elim (from g d) [ inl x ↦ x | inr x ↦ absurd (no-own f c g x) ]
          by (fine z new v nb (
            y2,
            (y1, (y0, q0, (v0, h0, q1)), (u, cs, ts, vs, hu, es, hc, q2)),
            (o, hb, q3),
          ) i q) =
              case-whole z y2 y1 y0 new v0 u cs ts vs o q0 h0 q1 hu es hc q2 hb q3 i q
