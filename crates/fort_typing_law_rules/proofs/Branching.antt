-- What an `if` answers is exact where its parts are.
use Rattle.std.proofs.Common.{◌≡◌, ◌⊎◌, inl, inr, true, cond, List, [], ◌∷◌, ◌++◌, map, Option, Some, None, refl, ap, ◌∙◌, sym, subst}
use Rattle.std.specs.List.{AllByRecursion}
use Rattle.fort_base.specs.declared.refusal.Place.{Place}
use Rattle.fort_base.specs.declared.rules.TheConstants.{MISMATCH}
use Rattle.fort_base.specs.declared.ty.Ty.{Ty}
use Rattle.fort_scope.specs.declared.binding.Binding.{Binding}
use Rattle.fort_form.specs.declared.form.Form.{Form, out-Form}
use Rattle.fort_form.specs.declared.form.Form.TheOpen.{Form-F}
use Rattle.fort_form.specs.declared.form.Branch.{Branch}
use Rattle.fort_form_typed.specs.declared.typed_form.TypedForm.{TypedForm}
use Rattle.fort_form_typed.specs.declared.typed_form.TypedForm.TheVariants as a_typed
use Rattle.fort_typing_known.specs.declared.fault.Fault.{Fault}
use Rattle.fort_typing_known.specs.Known.{Knows}
use Rattle.fort_typing_rules.specs.Calls.{Calls}
use Rattle.fort_typing_rules.specs.Types.{unit, type_of, types_of, fault, HasNoWidest}
use Rattle.fort_typing_rules.specs.Typing as rule
use Rattle.fort_typing_rules.specs.Breaking as breaking
use Rattle.fort_typing_meaning.specs.declared.frame.Want.{Want}
use Rattle.fort_typing_meaning.specs.declared.frame.Want.TheVariants as a_want
use Rattle.fort_typing_meaning.specs.declared.frame.Slot.TheVariants as a_slot
use Rattle.fort_typing_meaning.specs.declared.frame.Frame.{Frame}
use Rattle.fort_typing_meaning.specs.Tests.{value, untyped, widest}
use Rattle.fort_typing_meaning.specs.Parts.{Arm, State, begin, opened, is_broken, kept, ask, arms}
use Rattle.fort_typing_meaning.specs.Closing.{by_widest, if_answer}
use Rattle.fort_typing_meaning.specs.Judging.{inside, judged, judged_branch}
use Rattle.fort_typing_meaning.proofs.Levels.{arm-is}
use Rattle.fort_typing_law_rules.specs.Deciding.{IsType, AreTypes, IsAccepted}
use Rattle.fort_typing_law_rules.specs.Written.{IsWritten, AreBound}
use Rattle.fort_typing_law_rules.specs.Exact.{IsFirst, FormBreaks, Answers, IsExactExpression, AreExact}
use Rattle.fort_typing_law_rules.proofs.Types.{all_join}
use Rattle.fort_typing_law_rules.proofs.Written.{BranchWritten, tests-of, values-of}
use Rattle.fort_typing_law_rules.proofs.Typed.{all-types, typed-each, typed-as}
use Rattle.fort_typing_law_rules.proofs.Wide.{widest_is_computed, widest_told, none_told}
use Rattle.fort_typing_law_rules.proofs.Answered.{Same, value_, unit_, truth_, st, mapped, at, nothing_behind, one_behind}
use Rattle.fort_typing_law_rules.proofs.Asking.{Asked, kept_there, lacking, ask-exact, some-of, none-breaks, each-never, one-each, as-never, one-as}
use Rattle.fort_typing_law_rules.proofs.Firsts.{no_more, alike, both}
use Rattle.fort_typing_law_rules.proofs.Views.{BreaksAt, NoWidestIf}
use Rattle.fort_typing_law_rules.proofs.Steps.{typed-so, broken-so, refused-so, of-layer, only-left}

module _ (k : Knows) (A : IsAccepted k) (bs : List Binding) (B : AreBound k bs) where
  module _ (want : rule.Want) (w : Want) (m : Same want w) where
    -- what the clauses of an `if` break
    abbrev Either : List Branch → Fault → Type 0
    Either branches f = breaking.BreaksSome k bs rule.a_truth (map rule.test_of branches) f
        ⊎ breaking.BreaksSome k bs want (map rule.value_of branches) f

    abbrev EitherOne : Branch → Fault → Type 0
    EitherOne b f = breaking.BreaksAs k bs rule.a_truth (rule.test_of b) f
        ⊎ breaking.BreaksAs k bs want (rule.value_of b) f

    pub data AskedArms (branches : List Branch) (wf : Frame) (found : Option Fault)
        (s : State) : Type 0 where
      kept_arms : (ts vs : List TypedForm) (new : Option Fault)
          → rule.HasEach k (Calls k) bs rule.a_truth (map rule.test_of branches) ts
          → rule.HasEach k (Calls k) bs want (map rule.value_of branches) vs
          → IsFirst found (Either branches) new
          → s ≡ st (record wf { first = wf.first ++ ts; second = wf.second ++ vs }) bs new
          → AskedArms branches wf found s
      arms_lacking : (f : Fault) (new : Option Fault) (x : Frame) → Either branches f
          → IsFirst found (Either branches) new → s ≡ st x bs new → x.broken ≡ true
          → AskedArms branches wf found s

    none-at-all : (f : Fault) → Either [] f → ⊥
    none-at-all f (inl b) = none-breaks k A bs rule.a_truth f b
    none-at-all f (inr b) = none-breaks k A bs want f b

    apart : (b : Branch) (more : List Branch) (f : Fault) → Either (b ∷ more) f
        → EitherOne b f ⊎ Either more f
    apart b more f (inl c) =
        by (some-of k A bs rule.a_truth (rule.test_of b) (map rule.test_of more) f c)
      where
        by : breaking.BreaksAs k bs rule.a_truth (rule.test_of b) f
            ⊎ breaking.BreaksSome k bs rule.a_truth (map rule.test_of more) f
            → EitherOne b f ⊎ Either more f
        by (inl d) = inl (inl d)
        by (inr d) = inr (inl d)
    apart b more f (inr c) = by (some-of k A bs want (rule.value_of b) (map rule.value_of more) f c)
      where
        by : breaking.BreaksAs k bs want (rule.value_of b) f
            ⊎ breaking.BreaksSome k bs want (map rule.value_of more) f
            → EitherOne b f ⊎ Either more f
        by (inl d) = inl (inr d)
        by (inr d) = inr (inr d)

    together : (b : Branch) (more : List Branch) (f : Fault) → EitherOne b f ⊎ Either more f
        → Either (b ∷ more) f
    together b more f (inl (inl c)) =
        inl (breaking.some_part (rule.test_of b) (map rule.test_of more) refl c)
    together b more f (inl (inr c)) =
        inr (breaking.some_part (rule.value_of b) (map rule.value_of more) refl c)
    together b more f (inr (inl c)) =
        inl (breaking.some_later_part (rule.test_of b) (map rule.test_of more) refl c)
    together b more f (inr (inr c)) =
        inr (breaking.some_later_part (rule.value_of b) (map rule.value_of more) refl c)

    first-of : (b : Branch) (more : List Branch) (found mid new : Option Fault)
        → IsFirst found (EitherOne b) mid → IsFirst mid (Either more) new
        → IsFirst found (Either (b ∷ more)) new
    first-of b more found mid new i j =
        alike found (λ f. EitherOne b f
        ⊎ Either more f) (Either (b ∷ more)) new (λ f c. together b more f c)
        (λ f c. apart b more f c)
        (both found mid new (EitherOne b) (Either more) i j)

    -- what one clause leaves
    data OneArm (b : Branch) (wf : Frame) (found : Option Fault) (s : State) : Type 0 where
      kept_arm : (t v : TypedForm) (new : Option Fault)
          → rule.HasAs k (Calls k) bs rule.a_truth (rule.test_of b) t
          → rule.HasAs k (Calls k) bs want (rule.value_of b) v → IsFirst found (EitherOne b) new
          → s ≡ st (record wf { first = wf.first ++ t ∷ []; second = wf.second ++ v ∷ [] }) bs new
          → OneArm b wf found s
      arm_lacking : (f : Fault) (new : Option Fault) (x : Frame) → EitherOne b f
          → IsFirst found (EitherOne b) new → s ≡ st x bs new → x.broken ≡ true
          → OneArm b wf found s

    one-arm : (b : Branch) → BranchWritten k b → IsExactExpression k (rule.test_of b)
        → IsExactExpression k (rule.value_of b) → (wf : Frame) (found : Option Fault)
        → OneArm b wf found
        (ask k.facts a_slot.Second w (judged k.facts (rule.value_of b))
        (ask k.facts a_slot.First a_want.Truth (judged k.facts (rule.test_of b))
        (st wf bs found)))
    one-arm b W X Y wf found =
        by (ask-exact k A bs B (rule.test_of b) W.0 X rule.a_truth a_want.Truth a_slot.First wf
        found truth_)
      where
        second : State → State
        second s = ask k.facts a_slot.Second w (judged k.facts (rule.value_of b)) s

        joined : (mid new : Option Fault)
            → IsFirst found (breaking.BreaksAs k bs rule.a_truth (rule.test_of b)) mid
            → IsFirst mid (breaking.BreaksAs k bs want (rule.value_of b)) new
            → IsFirst found (EitherOne b) new
        joined mid new i j =
            both found mid new (breaking.BreaksAs k bs rule.a_truth (rule.test_of b))
            (breaking.BreaksAs k bs want (rule.value_of b)) i j

        after_kept : (t : TypedForm) (mid : Option Fault) (s : State)
            → rule.HasAs k (Calls k) bs rule.a_truth (rule.test_of b) t
            → IsFirst found (breaking.BreaksAs k bs rule.a_truth (rule.test_of b)) mid
            → Asked k A bs B (rule.value_of b) W.1 Y want a_slot.Second (kept a_slot.First t wf) mid
            s → OneArm b wf found s
        after_kept t mid s h i (kept_there v new g j e) =
            kept_arm t v new h g (joined mid new i j) e
        after_kept t mid s h i (lacking f new c j e) =
            arm_lacking f new (is_broken (kept a_slot.First t wf)) (inr c) (joined mid new i j) e
            refl

        after_lacking : (g : Fault) (mid : Option Fault) (s : State)
            → breaking.BreaksAs k bs rule.a_truth (rule.test_of b) g
            → IsFirst found (breaking.BreaksAs k bs rule.a_truth (rule.test_of b)) mid
            → Asked k A bs B (rule.value_of b) W.1 Y want a_slot.Second (is_broken wf) mid s
            → OneArm b wf found s
        after_lacking g mid s c i (kept_there v new h j e) =
            arm_lacking g new (kept a_slot.Second v (is_broken wf)) (inl c) (joined mid new i j) e
            refl
        after_lacking g mid s c i (lacking f new d j e) =
            arm_lacking g new (is_broken (is_broken wf)) (inl c) (joined mid new i j) e refl

        by : Asked k A bs B (rule.test_of b) W.0 X rule.a_truth a_slot.First wf found
            (ask k.facts a_slot.First a_want.Truth (judged k.facts (rule.test_of b))
            (st wf bs found))
            → OneArm b wf found
            (second (ask k.facts a_slot.First a_want.Truth (judged k.facts (rule.test_of b))
            (st wf bs found)))
        by (kept_there t mid h i e) = subst (λ (s : State). OneArm b wf found (second s)) (sym e)
            (after_kept t mid _ h i
            (ask-exact k A bs B (rule.value_of b) W.1 Y want w a_slot.Second
            (kept a_slot.First t wf) mid m))
        by (lacking f mid c i e) = subst (λ (s : State). OneArm b wf found (second s)) (sym e)
            (after_lacking f mid _ c i
            (ask-exact k A bs B (rule.value_of b) W.1 Y want w a_slot.Second (is_broken wf)
            mid m))

    after-arm : (b : Branch) (more : List Branch) (wf : Frame) (found mid : Option Fault)
        (t v : TypedForm) (s : State) → rule.HasAs k (Calls k) bs rule.a_truth (rule.test_of b) t
        → rule.HasAs k (Calls k) bs want (rule.value_of b) v → IsFirst found (EitherOne b) mid
        → AskedArms more (record wf { first = wf.first ++ t ∷ []; second = wf.second ++ v ∷ [] })
        mid s
        → AskedArms (b ∷ more) wf found s
    after-arm b more wf found mid t v s h g i (kept_arms ts vs new hs gs j e) =
        kept_arms (t ∷ ts) (v ∷ vs) new
        (rule.part_ (rule.test_of b) (map rule.test_of more) t ts refl refl h hs)
        (rule.part_ (rule.value_of b) (map rule.value_of more) v vs refl refl g gs)
        (first-of b more found mid new i j)
        (e ∙ ap (λ
        (us : List TypedForm). st
        (record wf { first = us; second = (wf.second ++ v ∷ []) ++ vs }) bs new)
        (one_behind wf.first ts t)
        ∙ ap (λ (us : List TypedForm). st (record wf { first = wf.first ++ t ∷ ts; second = us }) bs
        new) (one_behind wf.second vs v))
    after-arm b more wf found mid t v s h g i (arms_lacking f new x c j e br) =
        arms_lacking f new x (together b more f (inr c)) (first-of b more found mid new i j) e br

    after-none : (b : Branch) (more : List Branch) (wf y : Frame) (found mid : Option Fault)
        (f : Fault) (s : State) → EitherOne b f → IsFirst found (EitherOne b) mid → y.broken ≡ true
        → AskedArms more y mid s
        → AskedArms (b ∷ more) wf found s
    after-none b more wf y found mid f s c i br (kept_arms ts vs new hs gs j e) =
        arms_lacking f new (record y { first = y.first ++ ts; second = y.second ++ vs })
        (together b more f (inl c)) (first-of b more found mid new i j) e br
    after-none b more wf y found mid f s c i br (arms_lacking g new x d j e br2) =
        arms_lacking f new x (together b more f (inl c)) (first-of b more found mid new i j) e br2

    pub arms-exact : (branches : List Branch) (wf : Frame) (found : Option Fault)
        → AllByRecursion (BranchWritten k) branches → AreExact k (map rule.test_of branches)
        → AreExact k (map rule.value_of branches)
        → AskedArms branches wf found
        (arms k.facts w (map (judged_branch k.facts) branches) (st wf bs found))
    unfolding arms
    arms-exact [] wf found W X Y =
        kept_arms [] [] found (rule.no_part refl refl) (rule.no_part refl refl)
        (no_more found (Either []) none-at-all)
        (ap (λ (ts : List TypedForm). st (record wf { first = ts }) bs found)
        (sym (nothing_behind wf.first))
        ∙ ap (λ (ts : List TypedForm). st (record wf { first = wf.first ++ []; second = ts }) bs
        found) (sym (nothing_behind wf.second)))
    arms-exact (b ∷ more) wf found W X Y =
        subst (λ (a : Arm). AskedArms (b ∷ more) wf found
        (rest (ask k.facts a_slot.Second w a.value
        (ask k.facts a_slot.First a_want.Truth a.test (st wf bs found)))))
        (sym (arm-is k.facts b))
        (by (λ x mid. arms-exact more x mid W.1 X.1 Y.1) (one-arm b W.0 X.0 Y.0 wf found))
      where
        rest : State → State
        rest s = arms k.facts w (map (judged_branch k.facts) more) s

        both_asked : State
        both_asked =
            ask k.facts a_slot.Second w (judged k.facts (rule.value_of b))
            (ask k.facts a_slot.First a_want.Truth (judged k.facts (rule.test_of b))
            (st wf bs found))

        by : ((x : Frame) (mid : Option Fault)
            → AskedArms more x mid
            (arms k.facts w (map (judged_branch k.facts) more) (st x bs mid)))
            → OneArm b wf found both_asked → AskedArms (b ∷ more) wf found (rest both_asked)
        by others (kept_arm t v mid h g i e) =
            subst (λ (s : State). AskedArms (b ∷ more) wf found (rest s)) (sym e)
            (after-arm b more wf found mid t v _ h g i
            (others (record wf { first = wf.first ++ t ∷ []; second = wf.second ++ v ∷ [] })
            mid))
        by others (arm_lacking f mid y c i e br) =
            subst (λ (s : State). AskedArms (b ∷ more) wf found (rest s)) (sym e)
            (after-none b more wf y found mid f _ c i br (others y mid))

  -- ---- without `else`

  module _ (e : Form) (found : Option Fault) (p : Place) (branches : List Branch)
      (W : AllByRecursion (BranchWritten k) branches) (X : AreExact k (map rule.test_of branches))
      (Y : AreExact k (map rule.value_of branches)) where
    pub if-alone-exact : out-Form e ≡ Form-F.If p branches None
        → Answers k bs e found ((judged k.facts e).answer bs found)
    unfolding if_answer
    if-alone-exact is =
        by (arms-exact (rule.below unit) a_want.Unit unit_ branches opened found W X Y)
      where
        Parts : Fault → Type 0
        Parts f = Either (rule.below unit) a_want.Unit unit_ branches f

        to : (f : Fault) → Parts f → FormBreaks k bs e f
        to f (inl b) = inl (breaking.in_if_test p branches None is b)
        to f (inr b) = inl (breaking.in_if_alone p branches is b)

        from : (f : Fault) → FormBreaks k bs e f → Parts f
        from f b = only-left k A (of-layer k A bs e f is b)

        by : AskedArms (rule.below unit) a_want.Unit unit_ branches opened found
            (arms k.facts a_want.Unit (map (judged_branch k.facts) branches) (st opened bs found))
            → Answers k bs e found ((judged k.facts e).answer bs found)
        by (kept_arms ts vs new hs gs i q) =
            typed-so k A bs e found new Parts _ i to (a_typed.If unit ts vs None)
            (rule.if_alone p branches ts vs is hs gs refl) from
            (at k A e bs found (st (record opened { first = ts; second = vs }) bs new) is q refl)
        by (arms_lacking f new x b i q br) = broken-so k A bs e found new Parts _ i to f b from
            (at k A e bs found (st x bs new) is q
            (ap (λ c. cond c (untyped new)
            (value (a_typed.If unit x.first x.second None) new)) br))

    -- ---- with it

    module _ (d : Form) (V : IsWritten k d) (Z : IsExactExpression k d) where
      abbrev AllParts : Fault → Type 0
      AllParts f = Either rule.a_value a_want.Value value_ branches f
          ⊎ breaking.BreaksAs k bs rule.a_value d f

      if-to : out-Form e ≡ Form-F.If p branches (Some d) → (f : Fault) → AllParts f
          → FormBreaks k bs e f
      if-to is f (inl (inl b)) = inl (breaking.in_if_test p branches (Some d) is b)
      if-to is f (inl (inr b)) = inl (breaking.in_if p branches d is b)
      if-to is f (inr b) = inl (breaking.in_if_else p branches d is b)

      if-from : out-Form e ≡ Form-F.If p branches (Some d) → (f : Fault) → FormBreaks k bs e f
          → AllParts f ⊎ NoWidestIf k bs p branches d f
      if-from is f b = by (only-left k A (of-layer k A bs e f is b))
        where
          by : BreaksAt k bs (Form-F.If p branches (Some d)) f
              → AllParts f ⊎ NoWidestIf k bs p branches d f
          by (inl c) = inl (inl (inl c))
          by (inr (inl c)) = inl (inl (inr c))
          by (inr (inr (inl c))) = inl (inr c)
          by (inr (inr (inr c))) = inr c

      -- where a part breaks a rule, the widest type isn't asked
      no-own : (g : Fault) → AllParts g → (f : Fault) → NoWidestIf k bs p branches d f → ⊥
      no-own g (inl (inl b)) f n =
          each-never k A bs B rule.a_truth a_want.Truth a_slot.First truth_
          (map rule.test_of branches) n.0 (tests-of k branches W) X n.3 g b
      no-own g (inl (inr b)) f n =
          each-never k A bs B rule.a_value a_want.Value a_slot.First value_
          (map rule.value_of branches) n.1 (values-of k branches W) Y n.4 g b
      no-own g (inr b) f n = as-never k A bs B d V Z rule.a_value n.2 n.5 g b

      parts-only : out-Form e ≡ Form-F.If p branches (Some d) → (g : Fault) → AllParts g
          → (f : Fault) → FormBreaks k bs e f → AllParts f
      parts-only is g b f c = by (if-from is f c)
        where
          by : AllParts f ⊎ NoWidestIf k bs p branches d f → AllParts f
          by (inl x) = x
          by (inr x) = absurd (no-own g b f x)

      pub if-else-exact : out-Form e ≡ Form-F.If p branches (Some d)
          → Answers k bs e found ((judged k.facts e).answer bs found)
      unfolding if_answer
      if-else-exact is =
          by (arms-exact rule.a_value a_want.Value value_ branches opened found W X Y)
        where
          goal : Type 0
          goal = Answers k bs e found ((judged k.facts e).answer bs found)

          last_ : State → State
          last_ s = ask k.facts a_slot.Last a_want.Value (judged k.facts d) s

          joined : (mid new : Option Fault)
              → IsFirst found (Either rule.a_value a_want.Value value_ branches) mid
              → IsFirst mid (breaking.BreaksAs k bs rule.a_value d) new → IsFirst found AllParts new
          joined mid new i j =
              both found mid new (Either rule.a_value a_want.Value value_ branches)
              (breaking.BreaksAs k bs rule.a_value d) i j

          broken_close : (x : Frame) (new : Option Fault) → x.broken ≡ true
              → cond x.broken (untyped new) (if_answer k.facts p (Some (judged k.facts d)) x new)
              ≡ untyped new
          broken_close x new br =
              ap (λ c. cond c (untyped new) (if_answer k.facts p (Some (judged k.facts d)) x new))
              br

          lacks : (s : State) (x : Frame) (new : Option Fault) (f : Fault)
              → inside k.facts (mapped k A (Form-F.If p branches (Some d))) (begin bs found)
              ≡ st x bs new → x.broken ≡ true → AllParts f → IsFirst found AllParts new → goal
          lacks s x new f q br b i =
              broken-so k A bs e found new AllParts _ i (if-to is) f b (parts-only is f b)
              (at k A e bs found (st x bs new) is q (broken_close x new br))

          widely : (ts vs : List TypedForm) (u : TypedForm) (new : Option Fault)
              → rule.HasEach k (Calls k) bs rule.a_truth (map rule.test_of branches) ts
              → rule.HasEach k (Calls k) bs rule.a_value (map rule.value_of branches) vs
              → rule.HasAs k (Calls k) bs rule.a_value d u → IsFirst found AllParts new
              → (judged k.facts e).answer bs found
              ≡ by_widest p (widest k.facts (types_of vs ++ type_of u ∷ [])) new
              (λ ty. a_typed.If ty ts vs (Some u))
              → (o : Option Ty) → widest k.facts (types_of vs ++ type_of u ∷ []) ≡ o → goal
          widely ts vs u new hs gs h i q (Some ty) wide =
              typed-so k A bs e found new AllParts _ i (if-to is) (a_typed.If ty ts vs (Some u))
              (rule.if_else p branches d ts vs u ty is hs gs h (widest_told k A _ T ty wide)
              refl) from
              (q ∙ ap (λ
              (o : Option Ty). by_widest p o new (λ ty. a_typed.If ty ts vs (Some u))) wide)
            where
              T : AreTypes k (types_of vs ++ type_of u ∷ [])
              T = all_join (IsType k) (types_of vs) (type_of u ∷ [])
                  (all-types k A vs (typed-each k A gs B (values-of k branches W)))
                  ((typed-as k A h B V).0, tt)

              from : (f : Fault) → FormBreaks k bs e f → AllParts f
              from f b = pick (if-from is f b)
                where
                  pick : AllParts f ⊎ NoWidestIf k bs p branches d f → AllParts f
                  pick (inl x) = x
                  pick (inr n) =
                      let ev = one-each k A bs B rule.a_value a_want.Value a_slot.First value_
                      (map rule.value_of branches) vs n.1 (values-of k branches W) Y gs n.4 in
                      let eu = one-as k A bs B d V Z rule.a_value u n.2 h n.5 in
                      let nw : HasNoWidest k (types_of vs ++ type_of u ∷ []) =
                      subst (λ (y : TypedForm). HasNoWidest k (types_of vs ++ type_of y ∷ []))
                      (sym eu)
                      (subst (λ
                      (ys : List TypedForm). HasNoWidest k
                      (types_of ys ++ type_of n.2 ∷ [])) (sym ev) n.6) in
                      absurd (let z : Some ty ≡ None = sym wide ∙ widest_is_computed.none k A _ T nw
                      in cc)
          widely ts vs u new hs gs h i q None wide =
              refused-so k A bs e found new AllParts _ i (if-to is) MISMATCH p
              (inl (breaking.no_widest_if p branches d ts vs u is hs gs h
              (none_told k A _ T wide) refl)) from
              (q ∙ ap (λ
              (o : Option Ty). by_widest p o new (λ ty. a_typed.If ty ts vs (Some u))) wide)
            where
              T : AreTypes k (types_of vs ++ type_of u ∷ [])
              T = all_join (IsType k) (types_of vs) (type_of u ∷ [])
                  (all-types k A vs (typed-each k A gs B (values-of k branches W)))
                  ((typed-as k A h B V).0, tt)

              from : (f : Fault) → FormBreaks k bs e f → AllParts f ⊎ (f ≡ fault MISMATCH p)
              from f b = pick (if-from is f b)
                where
                  pick : AllParts f ⊎ NoWidestIf k bs p branches d f
                      → AllParts f ⊎ (f ≡ fault MISMATCH p)
                  pick (inl x) = inl x
                  pick (inr n) = inr n.7

          after : (ts vs : List TypedForm) (mid : Option Fault)
              → rule.HasEach k (Calls k) bs rule.a_truth (map rule.test_of branches) ts
              → rule.HasEach k (Calls k) bs rule.a_value (map rule.value_of branches) vs
              → IsFirst found (Either rule.a_value a_want.Value value_ branches) mid
              → arms k.facts a_want.Value (map (judged_branch k.facts) branches)
              (st opened bs found) ≡ st (record opened { first = ts; second = vs }) bs mid
              → Asked k A bs B d V Z rule.a_value a_slot.Last
              (record opened { first = ts; second = vs }) mid
              (last_ (st (record opened { first = ts; second = vs }) bs mid)) → goal
          after ts vs mid hs gs i q (kept_there u new h j r) =
              widely ts vs u new hs gs h (joined mid new i j)
              (at k A e bs found
              (st (record opened { first = ts; second = vs; last = Some u }) bs new) is
              (ap last_ q ∙ r) refl) (widest k.facts (types_of vs ++ type_of u ∷ [])) refl
          after ts vs mid hs gs i q (lacking f new b j r) =
              lacks (st opened bs found) (is_broken (record opened { first = ts; second = vs })) new
              f (ap last_ q ∙ r) refl (inr b) (joined mid new i j)

          after_lacking : (x : Frame) (f : Fault) (mid : Option Fault)
              → Either rule.a_value a_want.Value value_ branches f
              → IsFirst found (Either rule.a_value a_want.Value value_ branches) mid
              → arms k.facts a_want.Value (map (judged_branch k.facts) branches)
              (st opened bs found) ≡ st x bs mid → x.broken ≡ true
              → Asked k A bs B d V Z rule.a_value a_slot.Last x mid (last_ (st x bs mid)) → goal
          after_lacking x f mid b i q br (kept_there u new h j r) =
              lacks (st opened bs found) (kept a_slot.Last u x) new f (ap last_ q
              ∙ r) br (inl b) (joined mid new i j)
          after_lacking x f mid b i q br (lacking g new c j r) =
              lacks (st opened bs found) (is_broken x) new f (ap last_ q
              ∙ r) refl (inl b) (joined mid new i j)

          by : AskedArms rule.a_value a_want.Value value_ branches opened found
              (arms k.facts a_want.Value (map (judged_branch k.facts) branches)
              (st opened bs found)) → goal
          by (kept_arms ts vs mid hs gs i q) =
              after ts vs mid hs gs i q
              (ask-exact k A bs B d V Z rule.a_value a_want.Value a_slot.Last
              (record opened { first = ts; second = vs }) mid value_)
          by (arms_lacking f mid x b i q br) =
              after_lacking x f mid b i q br
              (ask-exact k A bs B d V Z rule.a_value a_want.Value a_slot.Last x mid value_)
