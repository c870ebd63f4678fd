-- What a chain of relations answers is exact where its sides are.
use Rattle.std.proofs.Common.{◌≡◌, ◌⊎◌, inl, inr, Bool, true, false, cond, List, [], ◌∷◌, ◌++◌, map, length, Option, Some, None, refl, arith, ap, ◌∙◌, sym, subst}
use Rattle.fort_base.specs.declared.refusal.Place.{Place}
use Rattle.fort_base.specs.declared.rules.TheConstants.{MISMATCH}
use Rattle.fort_base.specs.declared.ty.Ty.{Ty}
use Rattle.fort_ops.specs.declared.op.Op.{Op}
use Rattle.fort_ops.specs.declared.op.Op.TheVariants as an_op
use Rattle.fort_scope.specs.declared.binding.Binding.{Binding}
use Rattle.fort_form.specs.declared.form.Form.{Form, out-Form}
use Rattle.fort_form.specs.declared.form.Form.TheOpen.{Form-F}
use Rattle.fort_form_typed.specs.declared.typed_form.Chosen.{Chosen}
use Rattle.fort_form_typed.specs.declared.typed_form.TypedForm.{TypedForm}
use Rattle.fort_form_typed.specs.declared.typed_form.TypedForm.TheVariants as a_typed
use Rattle.fort_typing_known.specs.declared.fault.Fault.{Fault}
use Rattle.fort_typing_known.specs.Known.{Knows}
use Rattle.fort_typing_known.specs.Sets.{operator_set}
use Rattle.fort_typing_rules.specs.Calls.{Calls, CallBreaks}
use Rattle.fort_typing_rules.specs.Types.{boolean, type_of, place_of, fault, IsBelow}
use Rattle.fort_typing_rules.specs.Elements.{chosen}
use Rattle.fort_typing_rules.specs.Typing as rule
use Rattle.fort_typing_rules.specs.Breaking as breaking
use Rattle.fort_typing_meaning.specs.declared.frame.Want.TheVariants as a_want
use Rattle.fort_typing_meaning.specs.declared.frame.Slot.TheVariants as a_slot
use Rattle.fort_typing_meaning.specs.declared.frame.Frame.{Frame}
use Rattle.fort_typing_meaning.specs.declared.frame.Side.{Side}
use Rattle.fort_typing_meaning.specs.declared.frame.Valued.{Valued}
use Rattle.fort_typing_meaning.specs.Tests.{value, untyped, taken}
use Rattle.fort_typing_meaning.specs.Parts.{State, opened, is_broken, kept, kept_if, said, compared, side_type, side_place, side_of, after_side, take_side}
use Rattle.fort_typing_meaning.specs.Judging.{judged}
use Rattle.fort_typing_law_rules.specs.Deciding.{IsAccepted}
use Rattle.fort_typing_law_rules.specs.Written.{IsWritten, AreBound}
use Rattle.fort_typing_law_rules.specs.Exact.{IsFirst, FormBreaks, Answers, IsExactExpression, AreExact}
use Rattle.fort_typing_law_rules.proofs.Written.{AllWritten}
use Rattle.fort_typing_law_rules.proofs.Typed.{typed-as}
use Rattle.fort_typing_law_rules.proofs.Answered.{operand_, st, at, sides_of, first-side, next-side, no-side, nothing_behind, one_behind}
use Rattle.fort_typing_law_rules.proofs.Asking.{place-is, ValuedAs, got, missed, taken-is, some-of, none-breaks, as-never, one-as}
use Rattle.fort_typing_law_rules.proofs.Firsts.{no_more, alike, both}
use Rattle.fort_typing_law_rules.proofs.Views.{BreaksAt}
use Rattle.fort_typing_law_rules.proofs.Steps.{typed-so, broken-so, of-layer, only-left}
use Rattle.fort_typing_law_rules.proofs.Comparing.{set_for, ComparisonBreaks, Compared, is_compared, not_compared, compared-exact, then-went, went-as, Subjected, typed_subject, lost_subject}
use Rattle.fort_typing_law_rules.proofs.Trying.{Far, fine, foul, Went, well, ill, still, go}

module _ (k : Knows) (A : IsAccepted k) (bs : List Binding) (B : AreBound k bs) where
  abbrev Is : Form → TypedForm → Type 0
  Is c u = rule.HasAs k (Calls k) bs rule.an_operand c u

  abbrev side : Form → TypedForm → Option Side
  side c u = Some (record { place = (judged k.facts c).place; ty = type_of u })

  -- ---- two sides

  module _ (op : Op) (c d : Form) (W : IsWritten k c) (X : IsExactExpression k c)
      (E : IsWritten k d) (F : IsExactExpression k d) where
    abbrev Sided : Frame → Type 0
    Sided y = Subjected k A bs B c W X y

    abbrev Next : Frame → Type 0
    Next y = Subjected k A bs B d E F y

    abbrev Test : Fault → Type 0
    Test f = breaking.BreaksAs k bs rule.an_operand d f

    abbrev Unequal : Fault → Type 0
    Unequal f = (u : TypedForm) × (v : TypedForm) × Is c u × Is d v
        × ComparisonBreaks k A op u v (place_of c) f

    abbrev SideBreaks : Fault → Type 0
    SideBreaks f = Test f ⊎ Unequal f

    abbrev SideGood : Frame → Frame → Type 0
    SideGood y z = (u : TypedForm) × (v : TypedForm) × (result : Ty) × (widened : List Bool)
        × Is c u × (y.side ≡ side c u) × Is d v
        × Calls k (set_for k A op) (type_of u ∷ type_of v ∷ []) result widened
        × IsBelow k result boolean
        × (z ≡ record y {
          first = y.first ++ v ∷ [];
          calls = y.calls ++ chosen (set_for k A op) widened ∷ [];
          side = side d v;
        })

    abbrev Goal : Frame → Option Fault → State → Type 0
    Goal y mid t = Went k A bs mid SideBreaks Next (SideGood y) y t

    abbrev there : Place
    there = (judged k.facts d).place

    abbrev fin : Option TypedForm → State → State
    fin o t = record t { frame = record t.frame { side = side_of there o } }

    abbrev after : Frame → Option TypedForm → Option Fault → State
    after y o new =
        fin o (after_side k.facts (Some op) there o (st (kept_if a_slot.First o y) bs new))

    side-first : (mid new : Option Fault) → ((f : Fault) → Unequal f → ⊥) → IsFirst mid Test new
        → IsFirst mid SideBreaks new
    side-first mid new n i =
        alike mid Test SideBreaks new (λ f x. inl x)
        (λ f x. elim x [ inl z ↦ z | inr z ↦ absurd (n f z) ]) i

    one-left : (u v : TypedForm) → Is c u → Is c v → u ≡ v
    one-left u v h g = one-as k A bs B c W X rule.an_operand u v h g

    one-right : (u v : TypedForm) → Is d u → Is d v → u ≡ v
    one-right u v h g = one-as k A bs B d E F rule.an_operand u v h g

    abbrev left_place : Place
    left_place = (judged k.facts c).place

    unequal-of : (u v : TypedForm) → Is c u → Is d v → (f : Fault) → Unequal f
        → ComparisonBreaks k A op u v left_place f
    unequal-of u v hu hv f x =
        subst (λ (q : Place). ComparisonBreaks k A op u v q f) (sym (place-is k A c))
        (subst (λ
        (z : TypedForm). ComparisonBreaks k A op u z (place_of c) f)
        (one-right x.1 v x.3 hv)
        (subst (λ
        (z : TypedForm). ComparisonBreaks k A op z x.1 (place_of c) f)
        (one-left x.0 u x.2 hu) x.4))

    unequal-made : (u v : TypedForm) → Is c u → Is d v → (f : Fault)
        → ComparisonBreaks k A op u v left_place f → Unequal f
    unequal-made u v hu hv f x =
        (u, v, hu, hv, subst (λ (q : Place). ComparisonBreaks k A op u v q f) (place-is k A c) x)

    told-side : (y : Frame) (o : Option TypedForm) (s : Option Side) (new : Option Fault)
        → y.side ≡ s
        → after y o new
        ≡ fin o (compared k.facts op (side_place there s) (side_type s) o
        (st (kept_if a_slot.First o y) bs new))
    told-side y None s new e =
        ap (λ (x : Option Side). fin None
        (compared k.facts op (side_place there x) (side_type x) None (st (is_broken y) bs new)))
        e
    told-side y (Some t) s new e =
        ap (λ (x : Option Side). fin (Some t)
        (compared k.facts op (side_place there x) (side_type x) (Some t)
        (st (kept a_slot.First t y) bs new))) e

    after-typed : (y : Frame) (mid : Option Fault) (u : TypedForm) → Is c u → y.side ≡ side c u
        → (v : Valued) → ValuedAs k A bs B d E F rule.an_operand mid v
        → Goal y mid (after y v.node v.found)
    after-typed y mid u hu e v (missed x q b i) =
        subst (λ (o : Option TypedForm). Goal y mid (after y o v.found)) (sym q)
        (ill x v.found (record (is_broken y) { side = None })
        (lost_subject refl refl (λ w h. as-never k A bs B d E F rule.an_operand w h x b))
        refl (inl b)
        (side-first mid v.found (λ f c. as-never k A bs B d E F rule.an_operand c.1 c.3 x b) i)
        (told-side y None (side c u) v.found e))
    after-typed y mid u hu e v (got t q h i) =
        subst (λ (o : Option TypedForm). Goal y mid (after y o v.found)) (sym q)
        (by (compared-exact k A op u t (typed-as k A hu B W).0 (typed-as k A h B E).0 left_place
        (kept a_slot.First t y) bs v.found))
      where
        by : Compared k A op u t left_place (kept a_slot.First t y) bs v.found
            (compared k.facts op left_place (Some (type_of u)) (Some t)
            (st (kept a_slot.First t y) bs v.found)) → Goal y mid (after y (Some t) v.found)
        by (is_compared result widened cl bl n r) =
            well (record y {
              first = y.first ++ t ∷ [];
              calls = y.calls ++ chosen (set_for k A op) widened ∷ [];
              side = side d t;
            }) v.found
            (typed_subject t h refl) refl
            (u, t, result, widened, hu, e, h, cl, bl, refl)
            (side-first mid v.found (λ f x. n f (unequal-of u t hu h f x)) i)
            (told-side y (Some t) (side c u) v.found e ∙ ap (fin (Some t)) r)
        by (not_compared f new x j r) =
            ill f new (record (is_broken (kept a_slot.First t y)) { side = side d t })
            (typed_subject t h refl) refl (inr (unequal-made u t hu h f x))
            (both mid v.found new Test Unequal i
            (alike v.found (ComparisonBreaks k A op u t left_place) Unequal new
            (unequal-made u t hu h) (unequal-of u t hu h) j))
            (told-side y (Some t) (side c u) v.found e ∙ ap (fin (Some t)) r)

    after-lost : (y : Frame) (mid : Option Fault) → y.side ≡ None → y.broken ≡ true
        → ((u : TypedForm) → Is c u → ⊥) → (v : Valued)
        → ValuedAs k A bs B d E F rule.an_operand mid v → Goal y mid (after y v.node v.found)
    after-lost y mid e br n v (missed x q b i) =
        subst (λ (o : Option TypedForm). Goal y mid (after y o v.found)) (sym q)
        (ill x v.found (record (is_broken y) { side = None })
        (lost_subject refl refl (λ w h. as-never k A bs B d E F rule.an_operand w h x b))
        refl (inl b)
        (side-first mid v.found (λ f z. n z.0 z.2) i) (told-side y None None v.found e))
    after-lost y mid e br n v (got t q h i) =
        subst (λ (o : Option TypedForm). Goal y mid (after y o v.found)) (sym q)
        (still v.found (record (kept a_slot.First t y) { side = side d t }) (typed_subject t h refl)
        br br (side-first mid v.found (λ f z. n z.0 z.2) i)
        (told-side y (Some t) None v.found e))

    pub side-went : (y : Frame) (mid : Option Fault) → Sided y
        → Goal y mid
        (take_side k.facts (Some op) (judged k.facts d).place
        (said (judged k.facts d) (st y bs mid)))
    unfolding take_side said
    side-went y mid (typed_subject u hu e) =
        after-typed y mid u hu e
        (taken k.facts a_want.Operand there ((judged k.facts d).answer bs mid).seen
        ((judged k.facts d).answer bs mid).found)
        (taken-is k A bs B d E F rule.an_operand a_want.Operand mid operand_)
    side-went y mid (lost_subject e br n) =
        after-lost y mid e br n
        (taken k.facts a_want.Operand there ((judged k.facts d).answer bs mid).seen
        ((judged k.facts d).answer bs mid).found)
        (taken-is k A bs B d E F rule.an_operand a_want.Operand mid operand_)

  -- ---- the sides behind one

  abbrev ChainRest : List Op → Form → List Form → Fault → Type 0
  ChainRest ops c ds f = breaking.BreaksSome k bs rule.an_operand ds f
      ⊎ breaking.ChainBreaks k bs ops (c ∷ ds) f

  none-chained : (c : Form) (f : Fault) → ChainRest [] c [] f → ⊥
  none-chained c f (inl b) = none-breaks k A bs rule.an_operand f b
  none-chained c f (inr (breaking.no_call op others a b more u v r e1 e2 hu hv x w)) = absurd cc
  none-chained c f
      (inr (breaking.no_truth op others a b more u v result widened e1 e2 hu hv x n w)) = absurd cc
  none-chained c f (inr (breaking.next_comparison op others a more e1 e2 x)) = absurd cc

  chain-of : (op : Op) (others : List Op) (c d : Form) (rest : List Form) (W : IsWritten k c)
      (X : IsExactExpression k c) (E : IsWritten k d) (F : IsExactExpression k d) (f : Fault)
      → ChainRest (op ∷ others) c (d ∷ rest) f
      → SideBreaks op c d W X E F f ⊎ ChainRest others d rest f
  chain-of op others c d rest W X E F f (inl b) =
      elim (some-of k A bs rule.an_operand d rest f b) [ inl x ↦ inl (inl x) | inr x ↦ inr (inl x) ]
  chain-of op others c d rest W X E F f
      (inr (breaking.no_call o os a b more u v r e1 e2 hu hv x w)) =
      let qo : o ≡ op = cc in let qa : a ≡ c = cc in let qb : b ≡ d = cc in
      inl (inr (
        u,
        v,
        subst (λ (z : Form). Is z u) qa hu,
        subst (λ
            (z : Form). Is z v) qb hv,
        inl (
          r,
          subst (λ
              (z : Op). CallBreaks k (operator_set k.facts z 2) (type_of u ∷ type_of v ∷ []) r) qo
              x,
          subst (λ (z : Form). f ≡ fault r (place_of z)) qa w,
        ),
      ))
  chain-of op others c d rest W X E F f
      (inr (breaking.no_truth o os a b more u v result widened e1 e2 hu hv x n w)) =
      let qo : o ≡ op = cc in let qa : a ≡ c = cc in let qb : b ≡ d = cc in
      inl (inr (
        u,
        v,
        subst (λ (z : Form). Is z u) qa hu,
        subst (λ (z : Form). Is z v) qb hv,
        inr (
          result,
          widened,
          subst (λ
              (z : Op). Calls k (operator_set k.facts z 2) (type_of u ∷ type_of v ∷ []) result
              widened) qo x,
          n,
          subst (λ (z : Form). f ≡ fault MISMATCH (place_of z)) qa w,
        ),
      ))
  chain-of op others c d rest W X E F f (inr (breaking.next_comparison o os a more e1 e2 x)) =
      let qo : os ≡ others = cc in let qm : more ≡ d ∷ rest = cc in
      inr (inr (subst (λ
      (zs : List Op). breaking.ChainBreaks k bs zs (d ∷ rest) f) qo (subst (λ
      (zs : List Form). breaking.ChainBreaks k bs os zs f) qm x)))

  chain-made : (op : Op) (others : List Op) (c d : Form) (rest : List Form) (W : IsWritten k c)
      (X : IsExactExpression k c) (E : IsWritten k d) (F : IsExactExpression k d) (f : Fault)
      → SideBreaks op c d W X E F f ⊎ ChainRest others d rest f
      → ChainRest (op ∷ others) c (d ∷ rest) f
  chain-made op others c d rest W X E F f (inl (inl b)) = inl (breaking.some_part d rest refl b)
  chain-made op others c d rest W X E F f (inl (inr (u, v, hu, hv, inl x))) =
      inr (breaking.no_call op others c d rest u v x.0 refl refl hu hv x.1 x.2)
  chain-made op others c d rest W X E F f (inl (inr (u, v, hu, hv, inr x))) =
      inr (breaking.no_truth op others c d rest u v x.0 x.1 refl refl hu hv x.2 x.3 x.4)
  chain-made op others c d rest W X E F f (inr (inl b)) =
      inl (breaking.some_later_part d rest refl b)
  chain-made op others c d rest W X E F f (inr (inr b)) =
      inr (breaking.next_comparison op others c (d ∷ rest) refl refl b)

  abbrev ChainGood : List Op → Form → List Form → Frame → Frame → Type 0
  ChainGood ops c ds y z = (u : TypedForm) × (us : List TypedForm) × (cs : List Chosen) × Is c u
      × rule.HasEach k (Calls k) bs rule.an_operand ds us
      × rule.Compares k (Calls k) ops (u ∷ us) cs
      × (z.first ≡ y.first ++ us) × (z.calls ≡ y.calls ++ cs)

  pub chain-went : (ops : List Op) (ds : List Form) → length ds ≡ length ops → AllWritten k ds
      → AreExact k ds
      → (c : Form) (W : IsWritten k c) (X : IsExactExpression k c) (y : Frame) (mid : Option Fault)
      → Subjected k A bs B c W X y
      → Went k A bs mid (ChainRest ops c ds) (λ z. Unit {0}) (ChainGood ops c ds y) y
      (sides_of k A ops (map (judged k.facts) ds) (st y bs mid))
  chain-went [] [] l V Z c W X y mid (typed_subject u h e) =
      well y mid tt refl (
        u,
        [],
        [],
        h,
        rule.no_part refl refl,
        rule.no_more u refl refl refl,
        sym (nothing_behind y.first),
        sym (nothing_behind y.calls),
      )
      (no_more mid (ChainRest [] c []) (none-chained c)) (no-side k A (st y bs mid))
  chain-went [] [] l V Z c W X y mid (lost_subject e br n) =
      still mid y tt br br (no_more mid (ChainRest [] c []) (none-chained c))
      (no-side k A (st y bs mid))
  chain-went [] (d ∷ rest) l V Z c W X y mid S = absurd (omega arith)
  chain-went (op ∷ others) [] l V Z c W X y mid S = absurd (omega arith)
  chain-went (op ∷ others) (d ∷ rest) l V Z c W X y mid S =
      let one = side-went op c d W X V.0 Z.0 y mid S in
      let two =
      then-went k A bs mid (SideBreaks op c d W X V.0 Z.0) (ChainRest others d rest)
      (Subjected k A bs B d V.0 Z.0) (λ z. Unit {0}) (SideGood op c d W X V.0 Z.0 y)
      (ChainGood others d rest)
      (sides_of k A others (map (judged k.facts) rest))
      (chain-went others rest (omega arith) V.1 Z.1 d V.0 Z.0) y _ one in
      subst (Went k A bs mid (ChainRest (op ∷ others) c (d ∷ rest)) (λ z. Unit {0})
      (ChainGood (op ∷ others) c (d ∷ rest) y) y)
      (sym (next-side k A op others d (map (judged k.facts) rest) (st y bs mid)))
      (went-as k A bs mid _ (ChainRest (op ∷ others) c (d ∷ rest)) (λ z. Unit {0}) _
      (ChainGood (op ∷ others) c (d ∷ rest) y) y _
      (chain-made op others c d rest W X V.0 Z.0) (chain-of op others c d rest W X V.0 Z.0)
      good two)
    where
      good : (z : Frame)
          → ((x : Frame) × SideGood op c d W X V.0 Z.0 y x × ChainGood others d rest x z)
          → ChainGood (op ∷ others) c (d ∷ rest) y z
      good z (
        x,
        (u, v, result, widened, hu, e, hv, cl, bl, q1),
        (v2, us, cs, hv2, hs, cmp, f1, f2),
      ) =
          let same : v2 ≡ v = one-right op c d W X V.0 Z.0 v2 v hv2 hv in (
            u,
            v ∷ us,
            chosen (set_for k A op) widened ∷ cs,
            hu,
            rule.part_ d rest v us refl refl hv hs,
            rule.more op others u v us result widened cs refl refl cl bl (subst (λ
                (t : TypedForm). rule.Compares k (Calls k) others (t ∷ us) cs) same cmp) refl,
            f1 ∙ ap (λ (f : Frame). f.first ++ us) q1 ∙ one_behind y.first us v,
            f2 ∙ ap (λ
                (f : Frame). f.calls ++ cs) q1
                ∙ one_behind y.calls cs (chosen (set_for k A op) widened),
          )

  -- ---- a whole chain

  module _ (e : Form) (found : Option Fault) (p : Place) (ops : List Op) (c : Form) (ds : List Form)
      (l : length ds ≡ length ops) (W : IsWritten k c) (V : AllWritten k ds)
      (X : IsExactExpression k c) (Z : AreExact k ds)
      (is : out-Form e ≡ Form-F.Chain p ops (c ∷ ds)) where
    abbrev Nothing_yet : Fault → Type 0
    Nothing_yet f = ⊥

    abbrev Fresh : Frame → Type 0
    Fresh y = y ≡ opened

    abbrev FirstBreaks : Fault → Type 0
    FirstBreaks f = breaking.BreaksAs k bs rule.an_operand c f

    abbrev FirstGood : Frame → Frame → Type 0
    FirstGood y z = (u : TypedForm) × Is c u
        × (z ≡ record (kept a_slot.First u y) { side = side c u })

    abbrev first_step : State → State
    first_step t = take_side k.facts None (judged k.facts c).place (said (judged k.facts c) t)

    first-went : (y : Frame) (mid : Option Fault) → Fresh y
        → Went k A bs mid FirstBreaks (Subjected k A bs B c W X) (FirstGood y) y
        (first_step (st y bs mid))
    unfolding take_side said
    first-went y mid fr =
        by (taken k.facts a_want.Operand (judged k.facts c).place
        ((judged k.facts c).answer bs mid).seen ((judged k.facts c).answer bs mid).found)
        (taken-is k A bs B c W X rule.an_operand a_want.Operand mid operand_)
      where
        by : (v : Valued) → ValuedAs k A bs B c W X rule.an_operand mid v
            → Went k A bs mid FirstBreaks (Subjected k A bs B c W X) (FirstGood y) y
            (st (record (kept_if a_slot.First v.node y) {
              side =
                  side_of (judged k.facts c).place v.node;
            }) bs v.found)
        by v (got t q h i) =
            subst (λ (o : Option TypedForm). Went k A bs mid FirstBreaks (Subjected k A bs B c W X)
            (FirstGood y) y
            (st (record (kept_if a_slot.First o y) {
              side =
                  side_of (judged k.facts c).place o;
            }) bs v.found)) (sym q)
            (well (record (kept a_slot.First t y) { side = side c t }) v.found
            (typed_subject t h refl) refl (t, h, refl) i refl)
        by v (missed x q b i) =
            subst (λ (o : Option TypedForm). Went k A bs mid FirstBreaks (Subjected k A bs B c W X)
            (FirstGood y) y
            (st (record (kept_if a_slot.First o y) {
              side =
                  side_of (judged k.facts c).place o;
            }) bs v.found)) (sym q)
            (ill x v.found (record (is_broken y) { side = None })
            (lost_subject refl refl
            (λ u h. as-never k A bs B c W X rule.an_operand u h x b)) refl b i refl)

    abbrev P1 : Fault → Type 0
    P1 f = Nothing_yet f ⊎ FirstBreaks f

    abbrev P2 : Fault → Type 0
    P2 f = P1 f ⊎ ChainRest ops c ds f

    abbrev G1 : Frame → Type 0
    G1 z = (y : Frame) × Fresh y × FirstGood y z

    abbrev G2 : Frame → Type 0
    G2 z = (y : Frame) × G1 y × ChainGood ops c ds y z

    abbrev all_parts : State
    all_parts = sides_of k A ops (map (judged k.facts) ds) (first_step (st opened bs found))

    far : Far k A bs found P2 (λ z. Unit {0}) G2 all_parts
    far =
        let f0 : Far k A bs found Nothing_yet Fresh Fresh (st opened bs found) =
        fine opened found refl refl refl (no_more found Nothing_yet (λ f z. z)) refl in
        let f1 = go k A bs found Nothing_yet FirstBreaks Fresh (Subjected k A bs B c W X) Fresh
        FirstGood first_step first-went (st opened bs found) f0 in
        go k A bs found P1 (ChainRest ops c ds) (Subjected k A bs B c W X) (λ z. Unit {0}) G1
        (ChainGood ops c ds) (sides_of k A ops (map (judged k.facts) ds))
        (chain-went ops ds l V Z c W X) _ f1

    to : (f : Fault) → P2 f → FormBreaks k bs e f
    to f (inl (inl x)) = absurd x
    to f (inl (inr x)) = inl (breaking.in_chain p ops (c ∷ ds) is (breaking.some_part c ds refl x))
    to f (inr (inl x)) =
        inl (breaking.in_chain p ops (c ∷ ds) is (breaking.some_later_part c ds refl x))
    to f (inr (inr x)) = inl (breaking.no_comparison p ops (c ∷ ds) is x)

    from : (f : Fault) → FormBreaks k bs e f → P2 f
    from f b = by (only-left k A (of-layer k A bs e f is b))
      where
        some : breaking.BreaksAs k bs rule.an_operand c f
            ⊎ breaking.BreaksSome k bs rule.an_operand ds f → P2 f
        some (inl x) = inl (inr x)
        some (inr x) = inr (inl x)

        by : BreaksAt k bs (Form-F.Chain p ops (c ∷ ds)) f → P2 f
        by (inl x) = some (some-of k A bs rule.an_operand c ds f x)
        by (inr x) = inr (inr x)

    chained : (z y1 y0 : Frame) (new : Option Fault) (v u : TypedForm) (us : List TypedForm)
        (cs : List Chosen) → z.broken ≡ false → Fresh y0
        → y1 ≡ record (kept a_slot.First v y0) { side = side c v } → Is c v → Is c u
        → rule.HasEach k (Calls k) bs rule.an_operand ds us
        → rule.Compares k (Calls k) ops (u ∷ us) cs → z.first ≡ y1.first ++ us
        → z.calls ≡ y1.calls ++ cs → IsFirst found P2 new → all_parts ≡ st z bs new
        → Answers k bs e found ((judged k.facts e).answer bs found)
    chained z y1 y0 new v u us cs nb q0 q1 hv hu hs cmp f1 f2 i q =
        typed-so k A bs e found new P2 _ i to
        (a_typed.Chain boolean (operator_set k.facts an_op.And 2) cs (u ∷ us))
        (rule.chain p ops (c ∷ ds) (u ∷ us) cs is (rule.part_ c ds u us refl refl hu hs) cmp refl)
        from
        (at k A e bs found (st z bs new) is
        (first-side k A ops c (map (judged k.facts) ds) (st opened bs found) ∙ q)
        (ap (λ b. cond b (untyped new)
        (value (a_typed.Chain boolean (operator_set k.facts an_op.And 2) z.calls z.first)
        new)) nb
        ∙ ap (λ (xs : List Chosen). value
        (a_typed.Chain boolean (operator_set k.facts an_op.And 2) xs z.first) new) calls_are
        ∙ ap (λ (xs : List TypedForm). value
        (a_typed.Chain boolean (operator_set k.facts an_op.And 2) cs xs) new) firsts_are))
      where
        same : v ≡ u
        same = one-as k A bs B c W X rule.an_operand v u hv hu

        firsts_are : z.first ≡ u ∷ us
        firsts_are =
            f1 ∙ ap (λ
            (y : Frame). y.first ++ us) (q1 ∙ ap (λ
            (y : Frame). record (kept a_slot.First v y) { side = side c v }) q0) ∙ ap (λ
            (t : TypedForm). t ∷ us) same

        calls_are : z.calls ≡ cs
        calls_are =
            f2 ∙ ap (λ
            (y : Frame). y.calls ++ cs) (q1 ∙ ap (λ
            (y : Frame). record (kept a_slot.First v y) { side = side c v }) q0)

    pub chain-exact : Answers k bs e found ((judged k.facts e).answer bs found)
    chain-exact = by far
      where
        by : Far k A bs found P2 (λ z. Unit {0}) G2 all_parts
            → Answers k bs e found ((judged k.facts e).answer bs found)
        by (foul f new y v br x i q) = broken-so k A bs e found new P2 _ i to f x from
            (at k A e bs found (st y bs new) is
            (first-side k A ops c (map (judged k.facts) ds) (st opened bs found) ∙ q)
            (ap (λ b. cond b (untyped new)
            (value (a_typed.Chain boolean (operator_set k.facts an_op.And 2) y.calls
            y.first) new)) br))
        by (fine z new w nb (y1, (y0, q0, (v, hv, q1)), (u, us, cs, hu, hs, cmp, f1, f2)) i q) =
            chained z y1 y0 new v u us cs nb q0 q1 hv hu hs cmp f1 f2 i q
