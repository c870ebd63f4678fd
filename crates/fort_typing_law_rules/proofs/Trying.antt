-- What a `try` answers is exact where its parts are; parts one after another, as far as they have
-- come.
use Rattle.std.proofs.Common.{◌≡◌, ◌⊎◌, inl, inr, Bool, true, false, cond, not, List, [], ◌∷◌, ◌++◌, map, Option, Some, None, refl, arith, ap, ◌∙◌, sym, subst}
use Rattle.std.specs.Prelude.{option_map}
use Rattle.std.specs.List.{AllByRecursion}
use Rattle.fort_base.specs.declared.ids.NameId.{NameId}
use Rattle.fort_base.specs.declared.refusal.Place.{Place}
use Rattle.fort_base.specs.declared.rules.TheConstants.{SHADOWS, MISMATCH, NOT_AN_EXCEPTION}
use Rattle.fort_base.specs.declared.ty.Ty.{Ty}
use Rattle.fort_scope.specs.declared.binding.Binding.{Binding}
use Rattle.fort_form.specs.declared.form.Form.{Form, out-Form}
use Rattle.fort_form.specs.declared.form.Form.TheOpen.{Form-F}
use Rattle.fort_form.specs.declared.form.TypeBranch.{TypeBranch, out-TypeBranch}
use Rattle.fort_form_typed.specs.declared.typed_form.TypedForm.{TypedForm}
use Rattle.fort_form_typed.specs.declared.typed_form.TypedForm.TheVariants as a_typed
use Rattle.fort_typing_known.specs.declared.fault.Fault.{Fault}
use Rattle.fort_typing_known.specs.Known.{Knows}
use Rattle.fort_typing_known.specs.Below.{is_below}
use Rattle.fort_typing_rules.specs.Calls.{Calls}
use Rattle.fort_typing_rules.specs.Types.{exception, unit, type_of, types_of, fault, IsBelow, HasNoWidest}
use Rattle.fort_typing_rules.specs.Typing as rule
use Rattle.fort_typing_rules.specs.Breaking as breaking
use Rattle.fort_typing_meaning.specs.declared.frame.Want.{Want}
use Rattle.fort_typing_meaning.specs.declared.frame.Want.TheVariants as a_want
use Rattle.fort_typing_meaning.specs.declared.frame.Slot.{Slot}
use Rattle.fort_typing_meaning.specs.declared.frame.Slot.TheVariants as a_slot
use Rattle.fort_typing_meaning.specs.declared.frame.Frame.{Frame}
use Rattle.fort_typing_meaning.specs.Faults.{with_fault, breaks}
use Rattle.fort_typing_meaning.specs.Tests.{untyped, widest}
use Rattle.fort_typing_meaning.specs.Parts.{Clause, State, opened, is_broken, kept, ask, ask_if, unless_lost, watch, catches, cases}
use Rattle.fort_typing_meaning.specs.Closing.{by_widest, try_answer, clause_type as close_clause_type}
use Rattle.fort_typing_meaning.specs.Judging.{judged, judged_clause}
use Rattle.fort_typing_meaning.proofs.Levels.{clause-is}
use Rattle.fort_typing_law_rules.specs.Deciding.{IsType, IsAccepted}
use Rattle.fort_typing_law_rules.specs.Written.{IsWritten, AreBound}
use Rattle.fort_typing_law_rules.specs.Exact.{IsFirst, FormBreaks, Answers, IsExactExpression, MayBeExact}
use Rattle.fort_typing_law_rules.proofs.Types.{built_in_type}
use Rattle.fort_typing_law_rules.proofs.Deciding.{is_decided}
use Rattle.fort_typing_law_rules.proofs.Written.{ClauseWritten, MayBeWritten}
use Rattle.fort_typing_law_rules.proofs.Typed.{all-types, typed-as, typed-cases}
use Rattle.fort_typing_law_rules.proofs.Answered.{Same, value_, unit_, st, at-level, mapped-try, clause-types}
use Rattle.fort_typing_law_rules.proofs.Asking.{Asked, kept_there, lacking, ask-exact, as-never, one-as}
use Rattle.fort_typing_law_rules.proofs.Firsts.{no_more, alike, one_more, both}
use Rattle.fort_typing_law_rules.proofs.Views.{BreaksAt, ShadowsCatch, FinallyBreaks, NoWidestTry}
use Rattle.fort_typing_law_rules.proofs.Steps.{broken-so, of-layer, only-left}
use Rattle.fort_typing_law_rules.proofs.Scopes.{not-both, lost_frame, Watched, is_free, is_taken, watch-exact}
use Rattle.fort_typing_law_rules.proofs.Choosing.{widest-so, AreClauses, Cased, all_cased, one_lacking, cases-exact, never-cased, one-cases}

module _ (k : Knows) (A : IsAccepted k) where
  -- ---- parts one after another, as far as they have come

  module _ (bs : List Binding) where
    -- all parts so far have types, or one breaks a rule
    pub data Far (found : Option Fault) (P : Fault → Type 0) (Inv Good : Frame → Type 0)
        (s : State) : Type 0 where
      fine : (y : Frame) (new : Option Fault) → Inv y → y.broken ≡ false → Good y
          → IsFirst found P new → s ≡ st y bs new → Far found P Inv Good s
      foul : (f : Fault) (new : Option Fault) (y : Frame) → Inv y → y.broken ≡ true → P f
          → IsFirst found P new → s ≡ st y bs new → Far found P Inv Good s

    -- what one step leaves of a frame
    pub data Went (mid : Option Fault) (Q : Fault → Type 0) (Inv Good : Frame → Type 0) (y : Frame)
        (s : State) : Type 0 where
      well : (z : Frame) (new : Option Fault) → Inv z → z.broken ≡ y.broken → Good z
          → IsFirst mid Q new → s ≡ st z bs new → Went mid Q Inv Good y s
      ill : (f : Fault) (new : Option Fault) (z : Frame) → Inv z → z.broken ≡ true → Q f
          → IsFirst mid Q new → s ≡ st z bs new → Went mid Q Inv Good y s
      still : (new : Option Fault) (z : Frame) → Inv z → y.broken ≡ true → z.broken ≡ true
          → IsFirst mid Q new → s ≡ st z bs new → Went mid Q Inv Good y s

    pub go : (found : Option Fault) (P Q : Fault → Type 0) (Inv Inv2 Good : Frame → Type 0)
        (Good2 : Frame → Frame → Type 0) (step : State → State)
        → ((y : Frame) (mid : Option Fault) → Inv y
        → Went mid Q Inv2 (Good2 y) y (step (st y bs mid)))
        → (s : State) → Far found P Inv Good s
        → Far found (λ f. P f ⊎ Q f) Inv2 (λ z. (y : Frame) × Good y × Good2 y z) (step s)
    go found P Q Inv Inv2 Good Good2 step each s (fine y mid v nb g i e) =
        subst (λ (t : State). Far found (λ f. P f ⊎ Q f) Inv2 (λ z.
        (y : Frame) × Good y × Good2 y z) (step t)) (sym e) (by (each y mid v))
      where
        by : Went mid Q Inv2 (Good2 y) y (step (st y bs mid))
            → Far found (λ f. P f ⊎ Q f) Inv2 (λ z.
            (y : Frame) × Good y × Good2 y z) (step (st y bs mid))
        by (well z new w br h j q) = fine z new w (br ∙ nb) (y, g, h) (both found mid new P Q i j) q
        by (ill f new z w br c j q) = foul f new z w br (inr c) (both found mid new P Q i j) q
        by (still new z w yb br j q) = not-both yb nb
    go found P Q Inv Inv2 Good Good2 step each s (foul f mid y v yb p i e) =
        subst (λ (t : State). Far found (λ f. P f ⊎ Q f) Inv2 (λ z.
        (y : Frame) × Good y × Good2 y z) (step t)) (sym e) (by (each y mid v))
      where
        by : Went mid Q Inv2 (Good2 y) y (step (st y bs mid))
            → Far found (λ f. P f ⊎ Q f) Inv2 (λ z.
            (y : Frame) × Good y × Good2 y z) (step (st y bs mid))
        by (well z new w br h j q) = foul f new z w (br ∙ yb) (inl p) (both found mid new P Q i j) q
        by (ill g new z w br c j q) = foul f new z w br (inl p) (both found mid new P Q i j) q
        by (still new z w yb2 br j q) = foul f new z w br (inl p) (both found mid new P Q i j) q

    module _ (B : AreBound k bs) where
      -- one part
      pub ask-went : (Inv : Frame → Type 0) (slot : Slot)
          → ((y : Frame) (t : TypedForm) → Inv y → Inv (kept slot t y))
          → ((y : Frame) → Inv y → Inv (is_broken y))
          → ((y : Frame) (t : TypedForm) → (kept slot t y).broken ≡ y.broken)
          → (d : Form) (W : IsWritten k d) (X : IsExactExpression k d) (want : rule.Want) (w : Want)
          → Same want w → (y : Frame) (mid : Option Fault) → Inv y
          → Went mid (breaking.BreaksAs k bs want d) Inv (λ z.
          (t : TypedForm) × rule.HasAs k (Calls k) bs want d t
          × (z ≡ kept slot t y)) y (ask k.facts slot w (judged k.facts d) (st y bs mid))
      ask-went Inv slot keeps broken same d W X want w m y mid v =
          by (ask-exact k A bs B d W X want w slot y mid m)
        where
          by : Asked k A bs B d W X want slot y mid
              (ask k.facts slot w (judged k.facts d) (st y bs mid))
              → Went mid (breaking.BreaksAs k bs want d) Inv (λ z.
              (t : TypedForm) × rule.HasAs k (Calls k) bs want d t
              × (z ≡ kept slot t y)) y (ask k.facts slot w (judged k.facts d) (st y bs mid))
          by (kept_there t new h i e) =
              well (kept slot t y) new (keeps y t v) (same y t) (t, h, refl) i e
          by (lacking f new b i e) = ill f new (is_broken y) (broken y v) refl b i e

      abbrev pub with_last : Option TypedForm → Frame → Frame
      with_last (Some t) y = kept a_slot.Last t y
      with_last None y = y

      -- the types of clauses are below `Exception`
      none-caught : (f : Fault) → breaking.ExceptionBreaks k [] f → ⊥
      none-caught f (breaking.this_type b more e n x) = absurd cc
      none-caught f (breaking.next_type b more e c) = absurd cc

      pub data Caught (branches : List TypeBranch) (y : Frame) (mid : Option Fault)
          (s : State) : Type 0 where
        all_caught : rule.AreExceptions k branches
            → IsFirst mid (breaking.ExceptionBreaks k branches) mid → s ≡ st y bs mid
            → Caught branches y mid s
        not_caught : (f : Fault) (new : Option Fault) → breaking.ExceptionBreaks k branches f
            → IsFirst mid (breaking.ExceptionBreaks k branches) new → s ≡ st (is_broken y) bs new
            → Caught branches y mid s

      caught-of : (b : TypeBranch) (more : List TypeBranch) (f : Fault)
          → breaking.ExceptionBreaks k (b ∷ more) f
          → ((IsBelow k (rule.clause_type b) exception → ⊥)
          × (f ≡ fault NOT_AN_EXCEPTION (out-TypeBranch b).place))
          ⊎ breaking.ExceptionBreaks k more f
      caught-of b more f (breaking.this_type c cs e n x) = let q : c ≡ b = cc in
          inl (
            subst (λ (z : TypeBranch). IsBelow k (rule.clause_type z) exception
                → ⊥) q n,
            subst (λ
                (z : TypeBranch). f ≡ fault NOT_AN_EXCEPTION (out-TypeBranch z).place) q x,
          )
      caught-of b more f (breaking.next_type c cs e x) =
          inr (subst (λ (ys : List TypeBranch). breaking.ExceptionBreaks k ys f)
          (let q : cs ≡ more = cc in q) x)

      abbrev catching : List TypeBranch → State → State
      catching more s = catches k.facts (map (judged_clause k.facts) more) s

      pub catches-exact : (branches : List TypeBranch) (y : Frame) (mid : Option Fault)
          → AllByRecursion (ClauseWritten k) branches
          → Caught branches y mid
          (catches k.facts (map (judged_clause k.facts) branches) (st y bs mid))
      unfolding catches breaks
      catches-exact [] y mid W =
          all_caught tt (no_more mid (breaking.ExceptionBreaks k []) none-caught) refl
      catches-exact (b ∷ more) y mid W =
          subst (λ (c : Clause). Caught (b ∷ more) y mid
          (catches k.facts (map (judged_clause k.facts) more)
          (cond (is_below k.facts c.ty exception) (st y bs mid)
          (st (is_broken y) bs (with_fault (fault NOT_AN_EXCEPTION c.place) mid)))))
          (sym (clause-is k.facts b))
          (by (λ z new. catches-exact more z new W.1)
          (is_below k.facts (rule.clause_type b) exception) refl)
        where
          own : Fault
          own = fault NOT_AN_EXCEPTION (out-TypeBranch b).place

          E : IsType k exception
          E = built_in_type k A 1 (omega arith)

          by : ((z : Frame) (new : Option Fault)
              → Caught more z new
              (catches k.facts (map (judged_clause k.facts) more) (st z bs new))) → (c : Bool)
              → is_below k.facts (rule.clause_type b) exception ≡ c
              → Caught (b ∷ more) y mid
              (catches k.facts (map (judged_clause k.facts) more)
              (cond c (st y bs mid)
              (st (is_broken y) bs
              (with_fault (fault NOT_AN_EXCEPTION (out-TypeBranch b).place) mid))))
          by rest true q = yes (rest y mid)
            where
              is_so : IsBelow k (rule.clause_type b) exception
              is_so = (is_decided k A).told (rule.clause_type b) exception W.0.0
                  (built_in_type k A 1 (omega arith)) q

              from : (f : Fault) → breaking.ExceptionBreaks k (b ∷ more) f
                  → breaking.ExceptionBreaks k more f
              from f c = elim (caught-of b more f c) [ inl z ↦ absurd (z.0 is_so) | inr z ↦ z ]

              yes : Caught more y mid
                  (catches k.facts (map (judged_clause k.facts) more) (st y bs mid))
                  → Caught (b ∷ more) y mid
                  (catches k.facts (map (judged_clause k.facts) more) (st y bs mid))
              yes (all_caught h i e) =
                  all_caught (is_so, h)
                  (alike mid (breaking.ExceptionBreaks k more)
                  (breaking.ExceptionBreaks k (b ∷ more)) mid
                  (λ f c. breaking.next_type b more refl c) from i) e
              yes (not_caught f new c i e) = not_caught f new (breaking.next_type b more refl c)
                  (alike mid (breaking.ExceptionBreaks k more)
                  (breaking.ExceptionBreaks k (b ∷ more)) new
                  (λ f c. breaking.next_type b more refl c) from i) e
          by rest false q =
              no (rest (is_broken y)
              (with_fault (fault NOT_AN_EXCEPTION (out-TypeBranch b).place) mid))
            where
              isnt : IsBelow k (rule.clause_type b) exception → ⊥
              isnt h = let z : true ≡ false =
                  sym ((is_decided k A).below (rule.clause_type b) exception W.0.0
                  (built_in_type k A 1 (omega arith)) h) ∙ q in absurd cc

              first_of : (new : Option Fault)
                  → IsFirst (with_fault (fault NOT_AN_EXCEPTION (out-TypeBranch b).place) mid)
                  (breaking.ExceptionBreaks k more) new
                  → IsFirst mid (breaking.ExceptionBreaks k (b ∷ more)) new
              first_of new j =
                  alike mid (λ f. (f ≡ fault NOT_AN_EXCEPTION (out-TypeBranch b).place)
                  ⊎ breaking.ExceptionBreaks k more f) (breaking.ExceptionBreaks k (b ∷ more))
                  new to back
                  (both mid (with_fault (fault NOT_AN_EXCEPTION (out-TypeBranch b).place) mid) new
                  (λ f. f ≡ fault NOT_AN_EXCEPTION (out-TypeBranch b).place)
                  (breaking.ExceptionBreaks k more)
                  (one_more (fault NOT_AN_EXCEPTION (out-TypeBranch b).place) mid) j)
                where
                  to : (f : Fault)
                      → (f ≡ fault NOT_AN_EXCEPTION (out-TypeBranch b).place)
                      ⊎ breaking.ExceptionBreaks k more f → breaking.ExceptionBreaks k (b ∷ more) f
                  to f (inl x) = breaking.this_type b more refl isnt x
                  to f (inr x) = breaking.next_type b more refl x

                  back : (f : Fault) → breaking.ExceptionBreaks k (b ∷ more) f
                      → (f ≡ fault NOT_AN_EXCEPTION (out-TypeBranch b).place)
                      ⊎ breaking.ExceptionBreaks k more f
                  back f c = elim (caught-of b more f c) [ inl z ↦ inl z.1 | inr z ↦ inr z ]

              no : Caught more (is_broken y)
                  (with_fault (fault NOT_AN_EXCEPTION (out-TypeBranch b).place) mid)
                  (catches k.facts (map (judged_clause k.facts) more)
                  (st (is_broken y) bs
                  (with_fault (fault NOT_AN_EXCEPTION (out-TypeBranch b).place) mid)))
                  → Caught (b ∷ more) y mid
                  (catches k.facts (map (judged_clause k.facts) more)
                  (st (is_broken y) bs
                  (with_fault (fault NOT_AN_EXCEPTION (out-TypeBranch b).place) mid)))
              no (all_caught h i e) =
                  not_caught (fault NOT_AN_EXCEPTION (out-TypeBranch b).place)
                  (with_fault (fault NOT_AN_EXCEPTION (out-TypeBranch b).place) mid)
                  (breaking.this_type b more refl isnt refl) (first_of _ i) e
              no (not_caught f new c i e) =
                  not_caught (fault NOT_AN_EXCEPTION (out-TypeBranch b).place) new
                  (breaking.this_type b more refl isnt refl) (first_of new i) e

      pub exceptions-never : (branches : List TypeBranch)
          → AllByRecursion (ClauseWritten k) branches → rule.AreExceptions k branches → (f : Fault)
          → breaking.ExceptionBreaks k branches f → ⊥
      exceptions-never [] W h f c = none-caught f c
      exceptions-never (b ∷ more) W h f c =
          elim (caught-of b more f c) [
            | inl z ↦ z.0 h.0
            | inr z ↦ exceptions-never more W.1 h.1 f z
          ]

      -- ---- what may be lacking behind

      abbrev pub Behind : rule.Want → Option Form → Fault → Type 0
      Behind want None f = ⊥
      Behind want (Some d) f = breaking.BreaksAs k bs want d f

      abbrev pub HasBehind : rule.Want → Option Form → Option TypedForm → Type 0
      HasBehind want None w = w ≡ None
      HasBehind want (Some d) w = (t : TypedForm) × rule.HasAs k (Calls k) bs want d t
          × (w ≡ Some t)

      pub behind-went : (other : Option Form) → MayBeWritten k other → MayBeExact k other
          → (want : rule.Want) (w : Want) → Same want w → (y : Frame) (mid : Option Fault)
          → Went mid (Behind want other) (λ z. Unit {0}) (λ z.
          (o : Option TypedForm) × HasBehind want other o
          × (z ≡ with_last o y)) y
          (ask_if k.facts a_slot.Last w (option_map (judged k.facts) other) (st y bs mid))
      behind-went None W X want w m y mid =
          well y mid tt refl (None, refl, refl) (no_more mid (λ f. ⊥) (λ f b. b)) refl
      behind-went (Some d) W X want w m y mid =
          by (ask-exact k A bs B d W X want w a_slot.Last y mid m)
        where
          by : Asked k A bs B d W X want a_slot.Last y mid
              (ask k.facts a_slot.Last w (judged k.facts d) (st y bs mid))
              → Went mid (Behind want (Some d)) (λ z. Unit {0}) (λ z.
              (o : Option TypedForm) × HasBehind want (Some d) o
              × (z ≡ with_last o y)) y
              (ask k.facts a_slot.Last w (judged k.facts d) (st y bs mid))
          by (kept_there t new h i e) =
              well (kept a_slot.Last t y) new tt refl (Some t, (t, h, refl), refl) i e
          by (lacking f new b i e) = ill f new (is_broken y) tt refl b i e

      pub behind-never : (other : Option Form) → MayBeWritten k other → MayBeExact k other
          → (want : rule.Want) (o : Option TypedForm) → HasBehind want other o → (f : Fault)
          → Behind want other f → ⊥
      behind-never None W X want o h f b = b
      behind-never (Some d) W X want o h f b = as-never k A bs B d W X want h.0 h.1 f b

  -- ---- `try`

  module _ (bs : List Binding) (B : AreBound k bs) (e : Form) (found : Option Fault) (p : Place)
      (b : Form) (name : Option (Place × NameId)) (branches : List TypeBranch) (last : Option Form)
      (W : IsWritten k b) (V : AllByRecursion (ClauseWritten k) branches) (U : MayBeWritten k last)
      (X : IsExactExpression k b) (Y : AreClauses k A branches) (Z : MayBeExact k last)
      (is : out-Form e ≡ Form-F.Try p b name branches last) where
    abbrev fresh : Bool
    fresh = rule.is_fresh k bs name

    abbrev Unlost : Frame → Type 0
    Unlost y = y.lost ≡ false

    abbrev Watching : Frame → Type 0
    Watching y = (y.lost ≡ not fresh) × (y.lost ≡ true → y.broken ≡ true)

    abbrev Head : Frame → Frame → Type 0
    Head y z = (u : TypedForm) × rule.HasAs k (Calls k) bs rule.a_value b u
        × (z ≡ kept a_slot.Head u y)

    watched-by : (n : Option (Place × NameId)) → rule.is_fresh k bs n ≡ rule.is_fresh k bs n
        → (y : Frame) (mid : Option Fault) → Unlost y
        → Went bs mid (ShadowsCatch k bs n) (λ z. (z.lost ≡ not (rule.is_fresh k bs n))
        × (z.lost ≡ true → z.broken ≡ true)) (λ z. (rule.is_fresh k bs n ≡ true)
        × (z ≡ y)) y (watch k.facts n (st y bs mid))
    unfolding watch
    watched-by None q y mid l =
        well y mid (l, λ z. not-both z l) refl (refl, refl) (no_more mid (λ f. ⊥) (λ f c. c)) refl
    watched-by (Some (spot, n)) q y mid l = by (watch-exact k A bs spot n y mid)
      where
        by : Watched k A bs spot n y mid (watch k.facts (Some (spot, n)) (st y bs mid))
            → Went bs mid (ShadowsCatch k bs (Some (spot, n)))
            (λ z. (z.lost ≡ not (rule.is_fresh k bs (Some (spot, n))))
            × (z.lost ≡ true
            → z.broken ≡ true)) (λ z. (rule.is_fresh k bs (Some (spot, n)) ≡ true) × (z ≡ y)) y
            (watch k.facts (Some (spot, n)) (st y bs mid))
        by (is_free vis q) =
            well y mid (
              l
                  ∙ sym (ap (λ c. not (cond c false true)) vis),
              λ z. not-both z l,
            ) refl
            (ap (λ c. cond c false true) vis, refl)
            (no_more mid (ShadowsCatch k bs (Some (spot, n))) (λ f c. not-both c.0 vis)) q
        by (is_taken new vis i q) =
            ill (fault SHADOWS spot) new (lost_frame y)
            (sym (ap (λ c. not (cond c false true)) vis), λ z. refl) refl (vis, refl) i q

    caught-went : (y : Frame) (mid : Option Fault) → Watching y
        → Went bs mid (breaking.ExceptionBreaks k branches) Watching
        (λ z. rule.AreExceptions k branches
        × (z ≡ y)) y (catches k.facts (map (judged_clause k.facts) branches) (st y bs mid))
    caught-went y mid v = by (catches-exact bs B branches y mid V)
      where
        by : Caught bs B branches y mid
            (catches k.facts (map (judged_clause k.facts) branches) (st y bs mid))
            → Went bs mid (breaking.ExceptionBreaks k branches) Watching
            (λ z. rule.AreExceptions k branches
            × (z ≡ y)) y (catches k.facts (map (judged_clause k.facts) branches) (st y bs mid))
        by (all_caught h i q) = well y mid v refl (h, refl) i q
        by (not_caught f new c i q) = ill f new (is_broken y) (v.0, λ z. refl) refl c i q

    abbrev CasesIfFresh : Fault → Type 0
    CasesIfFresh f = (fresh ≡ true) × breaking.BreaksCases k bs name branches f

    cased-went : (y : Frame) (mid : Option Fault) → Watching y
        → Went bs mid CasesIfFresh (λ z. Unit {0}) (λ z.
        (vs : List TypedForm) × rule.HasCases k (Calls k) bs name branches vs
        × (z ≡ record y { second = y.second ++ vs })) y
        (unless_lost (cases k.facts name (map (judged_clause k.facts) branches)) (st y bs mid))
    cased-went y mid v = by (rule.is_fresh k bs name) refl
      where
        abbrev_goal : State → Type 0
        abbrev_goal s =
            Went bs mid CasesIfFresh (λ z. Unit {0}) (λ z.
            (vs : List TypedForm) × rule.HasCases k (Calls k) bs name branches vs
            × (z ≡ record y { second = y.second ++ vs })) y s

        by : (c : Bool) → rule.is_fresh k bs name ≡ c
            → Went bs mid CasesIfFresh (λ z. Unit {0}) (λ z.
            (vs : List TypedForm) × rule.HasCases k (Calls k) bs name branches vs
            × (z ≡ record y { second = y.second ++ vs })) y
            (unless_lost (cases k.facts name (map (judged_clause k.facts) branches)) (st y bs mid))
        by true q = ask_them (cases-exact k A bs B name branches y mid V Y)
          where
            known : unless_lost (cases k.facts name (map (judged_clause k.facts) branches))
                (st y bs mid)
                ≡ cases k.facts name (map (judged_clause k.facts) branches) (st y bs mid)
            known = ap
                (λ c. cond c (st y bs mid)
                (cases k.facts name (map (judged_clause k.facts) branches) (st y bs mid))) (v.0
                ∙ ap not q)

            fresh_first : (new : Option Fault)
                → IsFirst mid (breaking.BreaksCases k bs name branches) new
                → IsFirst mid CasesIfFresh new
            fresh_first new i =
                alike mid (breaking.BreaksCases k bs name branches) CasesIfFresh new (λ f c. (q, c))
                (λ f c. c.1) i

            ask_them : Cased k A bs name branches y mid
                (cases k.facts name (map (judged_clause k.facts) branches) (st y bs mid))
                → Went bs mid CasesIfFresh (λ z. Unit {0}) (λ z.
                (vs : List TypedForm) × rule.HasCases k (Calls k) bs name branches vs
                × (z ≡ record y { second = y.second ++ vs })) y
                (unless_lost (cases k.facts name (map (judged_clause k.facts) branches))
                (st y bs mid))
            ask_them (all_cased vs new h i r) =
                well (record y { second = y.second ++ vs }) new tt refl (vs, h, refl)
                (fresh_first new i) (known ∙ r)
            ask_them (one_lacking f new x c i r br l hd) =
                ill f new x tt br (q, c) (fresh_first new i) (known ∙ r)
        by false q =
            still mid y tt (v.1 lost) (v.1 lost) (no_more mid CasesIfFresh (λ f c. not-both c.0 q))
            (ap (λ c. cond c (st y bs mid)
            (cases k.facts name (map (judged_clause k.facts) branches) (st y bs mid))) lost)
          where
            lost : y.lost ≡ true
            lost = v.0 ∙ ap not q

    abbrev P0 : Fault → Type 0
    P0 f = ⊥

    abbrev P1 : Fault → Type 0
    P1 f = P0 f ⊎ breaking.BreaksAs k bs rule.a_value b f

    abbrev P2 : Fault → Type 0
    P2 f = P1 f ⊎ ShadowsCatch k bs name f

    abbrev P3 : Fault → Type 0
    P3 f = P2 f ⊎ breaking.ExceptionBreaks k branches f

    abbrev P4 : Fault → Type 0
    P4 f = P3 f ⊎ CasesIfFresh f

    abbrev P5 : Fault → Type 0
    P5 f = P4 f ⊎ Behind bs B (rule.below unit) last f

    abbrev G0 : Frame → Type 0
    G0 y = y ≡ opened

    abbrev G1 : Frame → Type 0
    G1 z = (y : Frame) × G0 y × Head y z

    abbrev G2 : Frame → Type 0
    G2 z = (y : Frame) × G1 y × ((fresh ≡ true) × (z ≡ y))

    abbrev G3 : Frame → Type 0
    G3 z = (y : Frame) × G2 y × (rule.AreExceptions k branches × (z ≡ y))

    abbrev G4 : Frame → Type 0
    G4 z = (y : Frame) × G3 y
        × ((vs : List TypedForm) × rule.HasCases k (Calls k) bs name branches vs
        × (z ≡ record y { second = y.second ++ vs }))

    abbrev G5 : Frame → Type 0
    G5 z = (y : Frame) × G4 y
        × ((o : Option TypedForm) × HasBehind bs B (rule.below unit) last o
        × (z ≡ with_last bs B o y))

    abbrev all_parts : State
    all_parts =
        ask_if k.facts a_slot.Last a_want.Unit (option_map (judged k.facts) last)
        (unless_lost (cases k.facts name (map (judged_clause k.facts) branches))
        (catches k.facts (map (judged_clause k.facts) branches)
        (watch k.facts name
        (ask k.facts a_slot.Head a_want.Value (judged k.facts b) (st opened bs found)))))

    far : Far bs found P5 (λ z. Unit {0}) G5 all_parts
    far =
        let f0 : Far bs found P0 Unlost G0 (st opened bs found) =
        fine opened found refl refl refl (no_more found P0 (λ f c. c)) refl in
        let f1 : Far bs found P1 Unlost G1
        (ask k.facts a_slot.Head a_want.Value (judged k.facts b) (st opened bs found)) =
        go bs found P0 (breaking.BreaksAs k bs rule.a_value b) Unlost Unlost G0 Head
        (ask k.facts a_slot.Head a_want.Value (judged k.facts b))
        (ask-went bs B Unlost a_slot.Head (λ y t l. l) (λ y l. l) (λ y t. refl) b W X rule.a_value
        a_want.Value value_) (st opened bs found) f0 in
        let f2 = go bs found P1 (ShadowsCatch k bs name) Unlost Watching G1 (λ y z. (fresh ≡ true)
        × (z ≡ y)) (watch k.facts name) (watched-by name refl) _ f1 in
        let f3 = go bs found P2 (breaking.ExceptionBreaks k branches) Watching Watching G2
        (λ y z. rule.AreExceptions k branches
        × (z ≡ y)) (catches k.facts (map (judged_clause k.facts) branches)) caught-went _ f2
        in
        let f4 = go bs found P3 CasesIfFresh Watching (λ z. Unit {0}) G3 (λ y z.
        (vs : List TypedForm) × rule.HasCases k (Calls k) bs name branches vs
        × (z ≡ record y { second = y.second ++ vs }))
        (unless_lost (cases k.facts name (map (judged_clause k.facts) branches))) cased-went _ f3 in
        go bs found P4 (Behind bs B (rule.below unit) last) (λ z. Unit {0}) (λ z. Unit {0}) G4
        (λ y z. (o : Option TypedForm) × HasBehind bs B (rule.below unit) last o
        × (z ≡ with_last bs B o y))
        (ask_if k.facts a_slot.Last a_want.Unit (option_map (judged k.facts) last))
        (λ y mid v. behind-went bs B last U Z (rule.below unit) a_want.Unit unit_ y mid) _ f4

    to : (f : Fault) → P5 f → FormBreaks k bs e f
    to f (inl (inl (inl (inl (inl c))))) = absurd c
    to f (inl (inl (inl (inl (inr c))))) = inl (breaking.in_try p b name branches last is c)
    to f (inl (inl (inl (inr c)))) = shadowed name is c
      where
        shadowed : (n : Option (Place × NameId)) → out-Form e ≡ Form-F.Try p b n branches last
            → ShadowsCatch k bs n f → FormBreaks k bs e f
        shadowed None q c = absurd c
        shadowed (Some (spot, n)) q c =
            inl (breaking.shadowing_catch p spot b n branches last q c.0 c.1)
    to f (inl (inl (inr c))) = inl (breaking.no_exception p b name branches last is c)
    to f (inl (inr c)) = inl (breaking.in_catch p b name branches last is c.0 c.1)
    to f (inr c) = finally_ last is c
      where
        finally_ : (o : Option Form) → out-Form e ≡ Form-F.Try p b name branches o
            → Behind bs B (rule.below unit) o f → FormBreaks k bs e f
        finally_ None q c = absurd c
        finally_ (Some d) q c = inl (breaking.in_finally p b name branches d q c)

    abbrev Own : Fault → Type 0
    Own f = NoWidestTry k bs p b name branches last f

    from : (f : Fault) → FormBreaks k bs e f → P5 f ⊎ Own f
    from f c = by (only-left k A (of-layer k A bs e f is c))
      where
        behind_ : (o : Option Form) → FinallyBreaks k bs o f → Behind bs B (rule.below unit) o f
        behind_ None x = x
        behind_ (Some d) x = x

        by : BreaksAt k bs (Form-F.Try p b name branches last) f → P5 f ⊎ Own f
        by (inl x) = inl (inl (inl (inl (inl (inr x)))))
        by (inr (inl x)) = inl (inl (inl (inl (inr x))))
        by (inr (inr (inl x))) = inl (inl (inl (inr x)))
        by (inr (inr (inr (inl x)))) = inl (inl (inr x))
        by (inr (inr (inr (inr (inl x))))) = inl (inr (behind_ last x))
        by (inr (inr (inr (inr (inr x))))) = inr x

    has-behind : (o : Option Form) (w : Option TypedForm) → rule.HasFinally k (Calls k) bs o w
        → HasBehind bs B (rule.below unit) o w
    has-behind None w (rule.no_finally e1 e2) = e2
    has-behind None w (rule.finally_ d u e1 h e2) = absurd cc
    has-behind (Some d) w (rule.no_finally e1 e2) = absurd cc
    has-behind (Some d) w (rule.finally_ c u e1 h e2) = (
      u,
      subst (λ (x : Form). rule.HasAs k (Calls k) bs (rule.below unit) x u)
          (let q : c ≡ d = cc in q) h,
      e2,
    )

    behind-has : (o : Option Form) (w : Option TypedForm) → HasBehind bs B (rule.below unit) o w
        → rule.HasFinally k (Calls k) bs o w
    behind-has None w h = rule.no_finally refl h
    behind-has (Some d) w h = rule.finally_ d h.0 refl h.1 h.2

    never-fresh : (n : Option (Place × NameId)) (f : Fault) → rule.is_fresh k bs n ≡ true
        → ShadowsCatch k bs n f → ⊥
    never-fresh None f q c = c
    never-fresh (Some (spot, n)) f q c =
        let z : false ≡ true = sym (ap (λ c. cond c false true) c.0) ∙ q in absurd cc

    no-own : (g : Fault) → P5 g → (f : Fault) → Own f → ⊥
    no-own g (inl (inl (inl (inl (inl c))))) f n = c
    no-own g (inl (inl (inl (inl (inr c))))) f n = as-never k A bs B b W X rule.a_value n.0 n.3 g c
    no-own g (inl (inl (inl (inr c)))) f n = never-fresh name g n.4 c
    no-own g (inl (inl (inr c))) f n = exceptions-never bs B branches V n.5 g c
    no-own g (inl (inr c)) f n = never-cased k A bs B name branches n.1 V Y n.6 g c.1
    no-own g (inr c) f n =
        behind-never bs B last U Z (rule.below unit) n.2 (has-behind last n.2 n.7) g c

    closes : (u : TypedForm) (vs : List TypedForm) (w : Option TypedForm) (new : Option Fault)
        (types : List Ty)
        → cond (with_last bs B w (record opened { head = Some u; second = vs })).broken
        (untyped new)
        (try_answer k.facts p name types
        (with_last bs B w (record opened { head = Some u; second = vs })) new)
        ≡ by_widest p (widest k.facts (type_of u ∷ types_of vs)) new
        (λ ty. a_typed.Try ty u (rule.bound_name name) types vs w)
    unfolding try_answer
    closes u vs None new types = refl
    closes u vs (Some t) new types = refl

    broken-closes : (x : Frame) (new : Option Fault) (types : List Ty) → x.broken ≡ true
        → cond x.broken (untyped new) (try_answer k.facts p name types x new) ≡ untyped new
    broken-closes x new types br =
        ap (λ c. cond c (untyped new) (try_answer k.facts p name types x new)) br

    try-whole : (z y4 y3 y2 y1 y0 : Frame) (new : Option Fault) (u : TypedForm)
        (vs : List TypedForm) (o : Option TypedForm) → y0 ≡ opened
        → rule.HasAs k (Calls k) bs rule.a_value b u → y1 ≡ kept a_slot.Head u y0 → fresh ≡ true
        → y2 ≡ y1
        → rule.AreExceptions k branches → y3 ≡ y2 → rule.HasCases k (Calls k) bs name branches vs
        → y4 ≡ record y3 { second = y3.second ++ vs } → HasBehind bs B (rule.below unit) last o
        → z ≡ with_last bs B o y4
        → IsFirst found P5 new → all_parts ≡ st z bs new
        → Answers k bs e found ((judged k.facts e).answer bs found)
    try-whole z y4 y3 y2 y1 y0 new u vs o q0 hu q1 fr q2 ex q3 hv q4 hb q5 i q =
        widest-so k A bs e found new P5 p (type_of u ∷ types_of vs)
        (λ ty. a_typed.Try ty u (rule.bound_name name) (map rule.clause_type branches) vs o)
        ((typed-as k A hu B W).0, all-types k A vs (typed-cases k A hv B V)) i to Own from own
        (λ ty w. rule.try_catch p b name branches last u vs o ty is hu fr ex hv
        (behind-has last o hb) w refl)
        (λ w. inl
        (breaking.no_widest_try p b name branches last u vs o is hu fr ex hv
        (behind-has last o hb) w refl))
        (at-level k A e bs found (st z bs new) is (mapped-try k A p b name branches last) q
        (ap (λ (y : Frame). cond y.broken (untyped new)
        (try_answer k.facts p name
        (map close_clause_type (map (judged_clause k.facts) branches)) y new)) frame_is
        ∙ closes u vs o new (map close_clause_type (map (judged_clause k.facts) branches))
        ∙ ap (λ (types : List Ty). by_widest p (widest k.facts (type_of u ∷ types_of vs)) new
        (λ ty. a_typed.Try ty u (rule.bound_name name) types vs o))
        (clause-types k A branches)))
      where
        frame_is : z ≡ with_last bs B o (record opened { head = Some u; second = vs })
        frame_is =
            q5 ∙ ap (λ
            (y : Frame). with_last bs B o y) (q4 ∙ ap (λ
            (y : Frame). record y { second = y.second ++ vs }) (q3 ∙ q2 ∙ q1 ∙ ap (λ
            (y : Frame). kept a_slot.Head u y) q0))

        own : (f : Fault) → Own f → HasNoWidest k (type_of u ∷ types_of vs) × (f ≡ fault MISMATCH p)
        own f n =
            let eu = one-as k A bs B b W X rule.a_value u n.0 hu n.3 in
            let ev = one-cases k A bs B name branches vs n.1 V hv n.6 in (
              subst (λ
                  (y : TypedForm). HasNoWidest k (type_of y ∷ types_of vs)) (sym eu) (subst (λ
                  (ys : List TypedForm). HasNoWidest k (type_of n.0 ∷ types_of ys)) (sym ev) n.8),
              n.9,
            )

    pub try-exact : Answers k bs e found ((judged k.facts e).answer bs found)
    try-exact = by far
      where
        by : Far bs found P5 (λ z. Unit {0}) G5 all_parts
            → Answers k bs e found ((judged k.facts e).answer bs found)
        by (foul f new y v br c i q) = broken-so k A bs e found new P5 _ i to f c back
            (at-level k A e bs found (st y bs new) is (mapped-try k A p b name branches last) q
            (broken-closes y new _ br))
          where
            back : (g : Fault) → FormBreaks k bs e g → P5 g
            back g d = elim (from g d) [ inl x ↦ x | inr x ↦ absurd (no-own f c g x) ]
        by (fine z new v nb (
          y4,
          (y3, (y2, (y1, (y0, q0, (u, hu, q1)), (fr, q2)), (ex, q3)), (vs, hv, q4)),
          (o, hb, q5),
        ) i q) =
            try-whole z y4 y3 y2 y1 y0 new u vs o q0 hu q1 fr q2 ex q3 hv q4 hb q5 i q
