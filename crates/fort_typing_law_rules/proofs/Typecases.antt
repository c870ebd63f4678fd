-- What a `typecase` answers is exact where its parts are.
use Rattle.std.proofs.Common.{◌≡◌, ◌⊎◌, inl, inr, Bool, true, false, cond, List, ◌++◌, map, Option, Some, None, refl, ap, ◌∙◌, sym, subst}
use Rattle.std.specs.Prelude.{option_map}
use Rattle.std.specs.List.{AllByRecursion}
use Rattle.fort_base.specs.declared.ids.NameId.{NameId}
use Rattle.fort_base.specs.declared.refusal.Place.{Place}
use Rattle.fort_base.specs.declared.rules.TheConstants.{SHADOWS, MISMATCH}
use Rattle.fort_base.specs.declared.ty.Ty.{Ty}
use Rattle.fort_scope.specs.declared.binding.Binding.{Binding}
use Rattle.fort_form.specs.declared.form.Form.{Form, out-Form}
use Rattle.fort_form.specs.declared.form.Form.TheOpen.{Form-F}
use Rattle.fort_form.specs.declared.form.TypeBranch.{TypeBranch}
use Rattle.fort_form_typed.specs.declared.typed_form.TypedForm.{TypedForm}
use Rattle.fort_form_typed.specs.declared.typed_form.TypedForm.TheVariants as a_typed
use Rattle.fort_typing_known.specs.declared.fault.Fault.{Fault}
use Rattle.fort_typing_known.specs.Known.{Knows}
use Rattle.fort_typing_known.specs.Names.{is_visible}
use Rattle.fort_typing_rules.specs.Calls.{Calls}
use Rattle.fort_typing_rules.specs.Types.{type_of, types_of, fault, HasNoWidest}
use Rattle.fort_typing_rules.specs.Typing as rule
use Rattle.fort_typing_rules.specs.Breaking as breaking
use Rattle.fort_typing_meaning.specs.declared.frame.Want.TheVariants as a_want
use Rattle.fort_typing_meaning.specs.declared.frame.Slot.TheVariants as a_slot
use Rattle.fort_typing_meaning.specs.declared.frame.Frame.{Frame}
use Rattle.fort_typing_meaning.specs.Tests.{untyped, widest}
use Rattle.fort_typing_meaning.specs.Parts.{State, opened, is_broken, kept, ask, ask_with, unless_lost, watch, cases, lost_if_broken, head_type, else_with}
use Rattle.fort_typing_meaning.specs.Closing.{by_widest, typecase_answer, clause_type as close_clause_type}
use Rattle.fort_typing_meaning.specs.Judging.{judged, judged_clause}
use Rattle.fort_typing_law_rules.specs.Deciding.{IsType, IsAccepted}
use Rattle.fort_typing_law_rules.specs.Written.{IsWritten, AreBound}
use Rattle.fort_typing_law_rules.specs.Exact.{IsFirst, FormBreaks, Answers, IsExactExpression, MayBeExact}
use Rattle.fort_typing_law_rules.proofs.Types.{all_join}
use Rattle.fort_typing_law_rules.proofs.Written.{ClauseWritten, MayBeWritten}
use Rattle.fort_typing_law_rules.proofs.Typed.{all-types, typed-as, typed-cases, typed-else, clause-bound}
use Rattle.fort_typing_law_rules.proofs.Answered.{value_, st, at-level, mapped-typecase, clause-types}
use Rattle.fort_typing_law_rules.proofs.Asking.{Asked, kept_there, lacking, ask-exact, as-never, one-as}
use Rattle.fort_typing_law_rules.proofs.Firsts.{no_more, alike, both}
use Rattle.fort_typing_law_rules.proofs.Views.{BreaksAt, ElseBreaks}
use Rattle.fort_typing_law_rules.proofs.Steps.{broken-so, of-layer, only-left}
use Rattle.fort_typing_law_rules.proofs.Scopes.{not-both, lost_frame, Shadow, Watched, is_free, is_taken, watch-exact}
use Rattle.fort_typing_law_rules.proofs.Trying.{Far, fine, foul, Went, well, ill, still, go, with_last}
use Rattle.fort_typing_law_rules.proofs.Choosing.{AskedWith, kept_with, lacking_with, ask-with-exact, widest-so, AreClauses, Cased, all_cased, one_lacking, cases-exact, never-cased, one-cases}

module _ (k : Knows) (A : IsAccepted k) (bs : List Binding) (B : AreBound k bs) (e : Form)
    (found : Option Fault) (p spot : Place) (n : NameId) (d : Form) (branches : List TypeBranch)
    (other : Option Form)
    (W : IsWritten k d) (V : AllByRecursion (ClauseWritten k) branches) (U : MayBeWritten k other)
    (X : IsExactExpression k d) (Y : AreClauses k A branches) (Z : MayBeExact k other)
    (is : out-Form e ≡ Form-F.Typecase p spot n d branches other) where
  abbrev bound : Option (Place × NameId)
  bound = Some (spot, n)

  abbrev inner : TypedForm → List Binding
  inner u = rule.with_clause bs bound (type_of u)

  abbrev Subject : TypedForm → Type 0
  Subject u = rule.HasAs k (Calls k) bs rule.a_value d u

  -- what breaks behind a subject that has a type
  abbrev CasesOrElse : TypedForm → Fault → Type 0
  CasesOrElse u f = breaking.BreaksCases k bs bound branches f ⊎ ElseBreaks k (inner u) other f

  abbrev Within : Fault → Type 0
  Within f = (u : TypedForm) × (is_visible k.facts bs n ≡ false) × Subject u × CasesOrElse u f

  abbrev NotWithin : Type 0
  NotWithin = (f : Fault) → Within f → ⊥

  abbrev Inv1 : Frame → Type 0
  Inv1 y = (y.broken ≡ true → NotWithin) × (y.broken ≡ false → is_visible k.facts bs n ≡ false)

  abbrev Inv2 : Frame → Type 0
  Inv2 y = (y.lost ≡ y.broken) × (y.broken ≡ true → NotWithin)
      × (y.broken ≡ false
      → (is_visible k.facts bs n ≡ false) × ((u : TypedForm) × Subject u × (y.head ≡ Some u)))

  abbrev Unbroken : Frame → Type 0
  Unbroken y = y.broken ≡ false

  abbrev Nothing_yet : Fault → Type 0
  Nothing_yet f = ⊥

  watched : (y : Frame) (mid : Option Fault) → Unbroken y
      → Went k A bs mid (Shadow k A bs spot n) Inv1 (λ z. (is_visible k.facts bs n ≡ false)
      × (z ≡ y)) y (watch k.facts bound (st y bs mid))
  watched y mid nb = by (watch-exact k A bs spot n y mid)
    where
      by : Watched k A bs spot n y mid (watch k.facts (Some (spot, n)) (st y bs mid))
          → Went k A bs mid (Shadow k A bs spot n) Inv1 (λ z. (is_visible k.facts bs n ≡ false)
          × (z ≡ y)) y (watch k.facts (Some (spot, n)) (st y bs mid))
      by (is_free vis q) =
          well y mid (λ br. not-both br nb, λ c. vis) refl (vis, refl)
          (no_more mid (Shadow k A bs spot n) (λ f c. not-both c.0 vis)) q
      by (is_taken new vis i q) =
          ill (fault SHADOWS spot) new (lost_frame y) (
            λ br f w. not-both vis w.1,
            λ c. not-both refl c,
          ) refl (vis, refl) i q

  abbrev subject_of : State → State
  subject_of s = lost_if_broken (ask k.facts a_slot.Head a_want.Value (judged k.facts d) s)

  abbrev told_frame : Frame → Frame
  told_frame y = record y { lost = y.broken }

  subjected : (y : Frame) (mid : Option Fault) → Inv1 y
      → Went k A bs mid (breaking.BreaksAs k bs rule.a_value d) Inv2 (λ z.
      (u : TypedForm) × Subject u
      × (z ≡ told_frame (kept a_slot.Head u y))) y (subject_of (st y bs mid))
  subjected y mid v =
      by (ask-exact k A bs B d W X rule.a_value a_want.Value a_slot.Head y mid value_)
    where
      by : Asked k A bs B d W X rule.a_value a_slot.Head y mid
          (ask k.facts a_slot.Head a_want.Value (judged k.facts d) (st y bs mid))
          → Went k A bs mid (breaking.BreaksAs k bs rule.a_value d) Inv2 (λ z.
          (u : TypedForm) × Subject u
          × (z ≡ told_frame (kept a_slot.Head u y))) y (subject_of (st y bs mid))
      by (kept_there u new h i q) =
          well (told_frame (kept a_slot.Head u y)) new (refl, v.0, λ c. (v.1 c, (u, h, refl))) refl
          (u, h, refl) i (ap lost_if_broken q)
      by (lacking f new b i q) =
          ill f new (told_frame (is_broken y)) (
            refl,
            λ br g w. as-never k A bs B d W X rule.a_value w.0 w.2 f b,
            λ c. not-both refl c,
          ) refl
          b i (ap lost_if_broken q)

  -- ---- `else`

  data ElseLeft (u : TypedForm) (y : Frame) (mid : Option Fault) (s : State) : Type 0 where
    kept_else : (w : Option TypedForm) (new : Option Fault)
        → rule.HasElse k (Calls k) (inner u) other w
        → IsFirst mid (ElseBreaks k (inner u) other) new → s ≡ st (with_last k A bs B w y) bs new
        → ElseLeft u y mid s
    lacking_else : (f : Fault) (new : Option Fault) → ElseBreaks k (inner u) other f
        → IsFirst mid (ElseBreaks k (inner u) other) new → s ≡ st (is_broken y) bs new
        → ElseLeft u y mid s

  else-exact : (u : TypedForm) → IsType k (type_of u) → (o : Option Form) → o ≡ other
      → MayBeWritten k o → MayBeExact k o → (y : Frame) (mid : Option Fault) → y.head ≡ Some u
      → ElseLeft u y mid (else_with k.facts bound (option_map (judged k.facts) o) (st y bs mid))
  else-exact u T None q E F y mid hd =
      kept_else None mid (rule.no_else (sym q) refl) (subst (λ
      (o : Option Form). IsFirst mid (ElseBreaks k (inner u) o) mid) q
      (no_more mid (λ f. ⊥) (λ f c. c))) refl
  else-exact u T (Some x) q E F y mid hd =
      by (ask-with-exact k A bs B bound (type_of u) T x E F a_slot.Last y mid)
    where
      told : else_with k.facts bound (Some (judged k.facts x)) (st y bs mid)
          ≡ ask_with k.facts bound (type_of u) a_slot.Last (judged k.facts x) (st y bs mid)
      told = ap (λ
          (o : Option TypedForm). ask_with k.facts bound (head_type o) a_slot.Last
          (judged k.facts x) (st y bs mid)) hd

      by : AskedWith k A bs bound (type_of u) x a_slot.Last y mid
          (ask_with k.facts bound (type_of u) a_slot.Last (judged k.facts x) (st y bs mid))
          → ElseLeft u y mid
          (else_with k.facts bound (option_map (judged k.facts) (Some x)) (st y bs mid))
      by (kept_with t new h i r) =
          kept_else (Some t) new (rule.else_ x t (sym q) h refl) (subst (λ
          (o : Option Form). IsFirst mid (ElseBreaks k (inner u) o) new) q i) (told ∙ r)
      by (lacking_with f new b i r) =
          lacking_else f new (subst (λ (o : Option Form). ElseBreaks k (inner u) o f) q b) (subst (λ
          (o : Option Form). IsFirst mid (ElseBreaks k (inner u) o) new) q i) (told ∙ r)

  abbrev behind_it : State → State
  behind_it s =
      else_with k.facts bound (option_map (judged k.facts) other)
      (cases k.facts bound (map (judged_clause k.facts) branches) s)

  abbrev Done : Frame → Frame → Type 0
  Done y z = (u : TypedForm) × (vs : List TypedForm) × (w : Option TypedForm) × (y.head ≡ Some u)
      × Subject u × rule.HasCases k (Calls k) bs bound branches vs
      × rule.HasElse k (Calls k) (inner u) other w
      × (z ≡ with_last k A bs B w (record y { second = y.second ++ vs }))

  abbrev Goes : Frame → Option Fault → State → Type 0
  Goes y mid s = Went k A bs mid Within (λ z. Unit {0}) (Done y) y s

  last-broken : (w : Option TypedForm) (y : Frame) → (with_last k A bs B w y).broken ≡ y.broken
  last-broken None y = refl
  last-broken (Some t) y = refl

  module _ (u : TypedForm) (hu : Subject u) (free : is_visible k.facts bs n ≡ false) where
    T : IsType k (type_of u)
    T = (typed-as k A hu B W).0

    within-first : (mid one new : Option Fault)
        → IsFirst mid (breaking.BreaksCases k bs bound branches) one
        → IsFirst one (ElseBreaks k (inner u) other) new → IsFirst mid Within new
    within-first mid one new i j =
        alike mid (CasesOrElse u) Within new (λ f c. (u, free, hu, c)) back
        (both mid one new (breaking.BreaksCases k bs bound branches) (ElseBreaks k (inner u) other)
        i j)
      where
        back : (f : Fault) → Within f → CasesOrElse u f
        back f w =
            subst (λ (y : TypedForm). CasesOrElse y f)
            (one-as k A bs B d W X rule.a_value w.0 u w.2 hu) w.3

    else-after : (y : Frame) (mid one : Option Fault) (vs : List TypedForm) (s : State)
        → y.head ≡ Some u → rule.HasCases k (Calls k) bs bound branches vs
        → IsFirst mid (breaking.BreaksCases k bs bound branches) one
        → ElseLeft u (record y { second = y.second ++ vs }) one s → Goes y mid s
    else-after y mid one vs s hd h i (kept_else w new he j q) =
        well (with_last k A bs B w (record y { second = y.second ++ vs })) new tt
        (last-broken w (record y { second = y.second ++ vs })) (u, vs, w, hd, hu, h, he, refl)
        (within-first mid one new i j) q
    else-after y mid one vs s hd h i (lacking_else f new b j q) =
        ill f new (is_broken (record y { second = y.second ++ vs })) tt refl (u, free, hu, inr b)
        (within-first mid one new i j) q

    else-lacking : (y x : Frame) (mid one : Option Fault) (g : Fault) (s : State) → x.broken ≡ true
        → breaking.BreaksCases k bs bound branches g
        → IsFirst mid (breaking.BreaksCases k bs bound branches) one
        → ElseLeft u x one s → Goes y mid s
    else-lacking y x mid one g s br b i (kept_else w new he j q) =
        ill g new (with_last k A bs B w x) tt (last-broken w x
        ∙ br) (u, free, hu, inl b) (within-first mid one new i j) q
    else-lacking y x mid one g s br b i (lacking_else f new c j q) =
        ill g new (is_broken x) tt refl (u, free, hu, inl b) (within-first mid one new i j) q

    goes-within : (y : Frame) (mid : Option Fault) → y.head ≡ Some u
        → Goes y mid (behind_it (st y bs mid))
    goes-within y mid hd = by (cases-exact k A bs B bound branches y mid V Y)
      where
        by : Cased k A bs bound branches y mid
            (cases k.facts bound (map (judged_clause k.facts) branches) (st y bs mid))
            → Goes y mid (behind_it (st y bs mid))
        by (all_cased vs one h i q) =
            subst (λ (s : State). Goes y mid
            (else_with k.facts bound (option_map (judged k.facts) other) s)) (sym q)
            (else-after y mid one vs _ hd h i
            (else-exact u T other refl U Z (record y { second = y.second ++ vs }) one hd))
        by (one_lacking f one x b i q br l hx) =
            subst (λ (s : State). Goes y mid
            (else_with k.facts bound (option_map (judged k.facts) other) s)) (sym q)
            (else-lacking y x mid one f _ br b i (else-exact u T other refl U Z x one (hx ∙ hd)))

  tailed : (y : Frame) (mid : Option Fault) → Inv2 y
      → Goes y mid (unless_lost behind_it (st y bs mid))
  tailed y mid v = by y.broken refl
    where
      by : (c : Bool) → y.broken ≡ c → Goes y mid (unless_lost behind_it (st y bs mid))
      by true q =
          still mid y tt q q (no_more mid Within (v.1 q))
          (ap (λ c. cond c (st y bs mid) (behind_it (st y bs mid))) (v.0 ∙ q))
      by false q =
          let w = v.2 q
          in subst (Goes y mid)
          (sym (ap (λ c. cond c (st y bs mid) (behind_it (st y bs mid))) (v.0 ∙ q)))
          (goes-within w.1.0 w.1.1 w.0 y mid w.1.2)

  abbrev P1 : Fault → Type 0
  P1 f = Nothing_yet f ⊎ Shadow k A bs spot n f

  abbrev P2 : Fault → Type 0
  P2 f = P1 f ⊎ breaking.BreaksAs k bs rule.a_value d f

  abbrev P3 : Fault → Type 0
  P3 f = P2 f ⊎ Within f

  abbrev G1 : Frame → Type 0
  G1 z = (y : Frame) × (y ≡ opened) × ((is_visible k.facts bs n ≡ false) × (z ≡ y))

  abbrev G2 : Frame → Type 0
  G2 z = (y : Frame) × G1 y
      × ((u : TypedForm) × Subject u × (z ≡ told_frame (kept a_slot.Head u y)))

  abbrev G3 : Frame → Type 0
  G3 z = (y : Frame) × G2 y × Done y z

  abbrev all_parts : State
  all_parts = unless_lost behind_it (subject_of (watch k.facts bound (st opened bs found)))

  far : Far k A bs found P3 (λ z. Unit {0}) G3 all_parts
  far =
      let f0 : Far k A bs found Nothing_yet Unbroken (λ y. y ≡ opened) (st opened bs found) =
      fine opened found refl refl refl (no_more found Nothing_yet (λ f c. c)) refl in
      let f1 = go k A bs found Nothing_yet (Shadow k A bs spot n) Unbroken Inv1 (λ y. y
      ≡ opened) (λ y z. (is_visible k.facts bs n ≡ false)
      × (z ≡ y)) (watch k.facts bound) watched (st opened bs found) f0 in
      let f2 = go k A bs found P1 (breaking.BreaksAs k bs rule.a_value d) Inv1 Inv2 G1 (λ y z.
      (u : TypedForm) × Subject u
      × (z ≡ told_frame (kept a_slot.Head u y))) subject_of subjected _ f1 in
      go k A bs found P2 Within Inv2 (λ z. Unit {0}) G2 Done (unless_lost behind_it) tailed _ f2

  to : (f : Fault) → P3 f → FormBreaks k bs e f
  to f (inl (inl (inl c))) = absurd c
  to f (inl (inl (inr c))) = inl (breaking.shadowing p spot n d branches other is c.0 c.1)
  to f (inl (inr c)) = inl (breaking.in_typecase_subject p spot n d branches other is c)
  to f (inr (u, free, hu, inl c)) =
      inl (breaking.in_typecase p spot n d branches other u is free hu c)
  to f (inr (u, free, hu, inr c)) = else_of other is c
    where
      else_of : (o : Option Form) → out-Form e ≡ Form-F.Typecase p spot n d branches o
          → ElseBreaks k (rule.with_clause bs (Some (spot, n)) (type_of u)) o f
          → FormBreaks k bs e f
      else_of None q c = absurd c
      else_of (Some x) q c = inl (breaking.in_typecase_else p spot n d branches x u q free hu c)

  abbrev Own : Fault → Type 0
  Own f = (u : TypedForm) × (values : List TypedForm) × (w : Option TypedForm)
      × (is_visible k.facts bs n ≡ false) × Subject u
      × rule.HasCases k (Calls k) bs bound branches values
      × rule.HasElse k (Calls k) (inner u) other w
      × HasNoWidest k (types_of values ++ rule.else_types w) × (f ≡ fault MISMATCH p)

  from : (f : Fault) → FormBreaks k bs e f → P3 f ⊎ Own f
  from f b = by (only-left k A (of-layer k A bs e f is b))
    where
      by : BreaksAt k bs (Form-F.Typecase p spot n d branches other) f → P3 f ⊎ Own f
      by (inl x) = inl (inl (inl (inr x)))
      by (inr (inl x)) = inl (inl (inr x))
      by (inr (inr (u, free, hu, inl x))) = inl (inr (u, free, hu, inl x))
      by (inr (inr (u, free, hu, inr (inl x)))) = inl (inr (u, free, hu, inr x))
      by (inr (inr (u, free, hu, inr (inr (values, w, hc, he, nw, x))))) =
          inr (u, values, w, free, hu, hc, he, nw, x)

  one-else : (u : TypedForm) (o : Option Form) (v w : Option TypedForm) → Subject u
      → MayBeWritten k o → MayBeExact k o → rule.HasElse k (Calls k) (inner u) o v
      → rule.HasElse k (Calls k) (inner u) o w → v ≡ w
  one-else u None v w hu E F (rule.no_else e1 e2) (rule.no_else e3 e4) = e2 ∙ sym e4
  one-else u None v w hu E F (rule.no_else e1 e2) (rule.else_ x t e3 h e4) = absurd cc
  one-else u None v w hu E F (rule.else_ x t e1 h e2) g = absurd cc
  one-else u (Some x) v w hu E F (rule.no_else e1 e2) g = absurd cc
  one-else u (Some x) v w hu E F (rule.else_ y t e1 h e2) (rule.no_else e3 e4) = absurd cc
  one-else u (Some x) v w hu E F (rule.else_ y t e1 h e2) (rule.else_ z s e3 g e4) =
      let h' : rule.HasAs k (Calls k) (inner u) rule.a_value x t =
      subst (λ (q : Form). rule.HasAs k (Calls k) (inner u) rule.a_value q t)
      (let q : y ≡ x = cc in q) h in
      let g' : rule.HasAs k (Calls k) (inner u) rule.a_value x s =
      subst (λ (q : Form). rule.HasAs k (Calls k) (inner u) rule.a_value q s)
      (let q : z ≡ x = cc in q) g in
      e2 ∙ ap (λ
      (q : TypedForm). Some q)
      (one-as k A (inner u) (clause-bound k A bs bound (type_of u) B (typed-as k A hu B W).0) x
      E F rule.a_value t s h' g') ∙ sym e4

  else-never : (u : TypedForm) (o : Option Form) (w : Option TypedForm) → Subject u
      → MayBeWritten k o → MayBeExact k o → rule.HasElse k (Calls k) (inner u) o w → (f : Fault)
      → ElseBreaks k (inner u) o f → ⊥
  else-never u None w hu E F h f b = b
  else-never u (Some x) w hu E F (rule.no_else e1 e2) f b = absurd cc
  else-never u (Some x) w hu E F (rule.else_ y t e1 h e2) f b =
      let h' : rule.HasAs k (Calls k) (inner u) rule.a_value x t =
      subst (λ (q : Form). rule.HasAs k (Calls k) (inner u) rule.a_value q t)
      (let q : y ≡ x = cc in q) h in
      as-never k A (inner u) (clause-bound k A bs bound (type_of u) B (typed-as k A hu B W).0) x E F
      rule.a_value t h' f b

  no-own : (g : Fault) → P3 g → (f : Fault) → Own f → ⊥
  no-own g (inl (inl (inl c))) f o = c
  no-own g (inl (inl (inr c))) f o = not-both c.0 o.3
  no-own g (inl (inr c)) f o = as-never k A bs B d W X rule.a_value o.0 o.4 g c
  no-own g (inr (u, free, hu, inl c)) f o = never-cased k A bs B bound branches o.1 V Y o.5 g c
  no-own g (inr (u, free, hu, inr c)) f o =
      else-never o.0 other o.2 o.4 U Z o.6 g (subst (λ
      (y : TypedForm). ElseBreaks k (inner y) other g)
      (one-as k A bs B d W X rule.a_value u o.0 hu o.4) c)

  closes : (u : TypedForm) (vs : List TypedForm) (w : Option TypedForm) (new : Option Fault)
      (types : List Ty)
      → cond (with_last k A bs B w (record opened { head = Some u; second = vs })).broken
      (untyped new)
      (typecase_answer k.facts p n types
      (with_last k A bs B w (record opened { head = Some u; second = vs })) new)
      ≡ by_widest p (widest k.facts (types_of vs ++ rule.else_types w)) new
      (λ ty. a_typed.Typecase ty n u types vs w)
  unfolding typecase_answer
  closes u vs None new types = refl
  closes u vs (Some t) new types = refl

  closes-broken : (x : Frame) (new : Option Fault) (types : List Ty) → x.broken ≡ true
      → cond x.broken (untyped new) (typecase_answer k.facts p n types x new) ≡ untyped new
  closes-broken x new types br =
      ap (λ c. cond c (untyped new) (typecase_answer k.facts p n types x new)) br

  typecase-whole : (z y2 y1 y0 : Frame) (new : Option Fault) (v u : TypedForm) (vs : List TypedForm)
      (w : Option TypedForm) → is_visible k.facts bs n ≡ false → y0 ≡ opened → y1 ≡ y0 → Subject v
      → y2 ≡ told_frame (kept a_slot.Head v y1)
      → y2.head ≡ Some u → Subject u → rule.HasCases k (Calls k) bs bound branches vs
      → rule.HasElse k (Calls k) (inner u) other w
      → z ≡ with_last k A bs B w (record y2 { second = y2.second ++ vs })
      → IsFirst found P3 new → all_parts ≡ st z bs new
      → Answers k bs e found ((judged k.facts e).answer bs found)
  typecase-whole z y2 y1 y0 new v u vs w free q0 q1 hv q2 hd hu hc he q3 i q =
      widest-so k A bs e found new P3 p (types_of vs ++ rule.else_types w)
      (λ ty. a_typed.Typecase ty n u (map rule.clause_type branches) vs w)
      (all_join (IsType k) (types_of vs) (rule.else_types w)
      (all-types k A vs (typed-cases k A hc B V))
      (typed-else k A he (clause-bound k A bs bound (type_of u) B (typed-as k A hu B W).0)
      U)) i to Own from own
      (λ ty wide. rule.typecase p spot n d branches other u vs w ty is free hu hc he wide refl)
      (λ nw. inl
      (breaking.no_widest_typecase p spot n d branches other u vs w is free hu hc he nw
      refl))
      (at-level k A e bs found (st z bs new) is (mapped-typecase k A p spot n d branches other) q
      (ap (λ (y : Frame). cond y.broken (untyped new)
      (typecase_answer k.facts p n
      (map close_clause_type (map (judged_clause k.facts) branches)) y new)) frame_is
      ∙ closes u vs w new (map close_clause_type (map (judged_clause k.facts) branches))
      ∙ ap (λ (types : List Ty). by_widest p (widest k.facts (types_of vs ++ rule.else_types w)) new
      (λ ty. a_typed.Typecase ty n u types vs w)) (clause-types k A branches)))
    where
      same : v ≡ u
      same = one-as k A bs B d W X rule.a_value v u hv hu

      frame_is : z ≡ with_last k A bs B w (record opened { head = Some u; second = vs })
      frame_is =
          q3 ∙ ap (λ
          (y : Frame). with_last k A bs B w (record y { second = y.second ++ vs })) (q2 ∙ ap (λ
          (y : Frame). told_frame (kept a_slot.Head v y)) (q1 ∙ q0) ∙ ap (λ
          (t : TypedForm). told_frame (kept a_slot.Head t opened)) same)

      own : (f : Fault) → Own f
          → HasNoWidest k (types_of vs ++ rule.else_types w) × (f ≡ fault MISMATCH p)
      own f o =
          let eu = one-as k A bs B d W X rule.a_value o.0 u o.4 hu in
          let ev = one-cases k A bs B bound branches vs o.1 V hc o.5 in
          let he' : rule.HasElse k (Calls k) (inner u) other o.2 =
          subst (λ (y : TypedForm). rule.HasElse k (Calls k) (inner y) other o.2) eu o.6 in
          let ew = one-else u other w o.2 hu U Z he he' in (
            subst (λ
                (ys : List TypedForm). HasNoWidest k (types_of ys ++ rule.else_types w)) (sym ev)
                (subst (λ
                (y : Option TypedForm). HasNoWidest k (types_of o.1 ++ rule.else_types y))
                (sym ew) o.7),
            o.8,
          )

  pub typecase-exact : Answers k bs e found ((judged k.facts e).answer bs found)
  typecase-exact = by far
    where
      by : Far k A bs found P3 (λ z. Unit {0}) G3 all_parts
          → Answers k bs e found ((judged k.facts e).answer bs found)
      by (foul f new y v br c i q) = broken-so k A bs e found new P3 _ i to f c back
          (at-level k A e bs found (st y bs new) is (mapped-typecase k A p spot n d branches other)
          q (closes-broken y new _ br))
        where
          back : (g : Fault) → FormBreaks k bs e g → P3 g
          back g b = elim (from g b) [ inl x ↦ x | inr x ↦ absurd (no-own f c g x) ]
      by (fine z new v nb (
        y2,
        (y1, (y0, q0, (free, q1)), (u0, h0, q2)),
        (u, vs, w, hd, hu, hc, he, q3),
      ) i q) =
          typecase-whole z y2 y1 y0 new u0 u vs w free q0 q1 h0 q2 hd hu hc he q3 i q
