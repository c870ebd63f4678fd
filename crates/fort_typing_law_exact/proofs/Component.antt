-- What a component becomes by the rules, or the broken rule that is reported, is what is computed.
use Rattle.std.proofs.Common.{◌≡◌, ◌⊎◌, inl, inr, ℕ, Bool, true, false, List, [], ◌∷◌, ◌++◌, length, slice_get, Option, Some, None, Result, Ok, Err, refl, ap, ◌∙◌, sym, subst}
use Rattle.std.specs.List.{AllByRecursion}
use Rattle.fort_base.specs.declared.ids.NameId.{NameId}
use Rattle.fort_base.specs.declared.ids.TypeId.{TypeId}
use Rattle.fort_base.specs.declared.rules.TheConstants.{NO_RUN}
use Rattle.fort_base.specs.declared.ty.Ty.{Ty}
use Rattle.fort_form.specs.declared.component.BodyForm.{BodyForm}
use Rattle.fort_form.specs.declared.component.Forms.{Forms}
use Rattle.fort_form.specs.declared.component.InitialForm.{InitialForm}
use Rattle.fort_form_typed.specs.declared.component.Typed.{Typed}
use Rattle.fort_form_typed.specs.declared.component.TypedBody.{TypedBody}
use Rattle.fort_form_typed.specs.declared.typed_form.TypedForm.{TypedForm}
use Rattle.fort_typing_known.specs.declared.fault.Fault.{Fault}
use Rattle.fort_typing_known.specs.Known.{Knows}
use Rattle.fort_typing_rules.specs.Types.{fault}
use Rattle.fort_typing_rules.specs.Components.{HasInitial, InitialBreaks, HasBody, BodyBreaks, HasRun, typed_initial, typed_body, HasTypes, DeclarationBreaks, initial, body, GoesBefore, IsReported, first, no_run}
use Rattle.fort_typing_meaning.specs.Faults.{goes_first}
use Rattle.fort_typing_law_rules.specs.Deciding.{IsType, IsAccepted}
use Rattle.fort_typing_law_rules.specs.Exact.{IsFirst}
use Rattle.fort_typing_law_rules.proofs.Firsts.{both}
use Rattle.fort_typing_meaning.specs.Whole.{Whole, judged_initial, more_initials, with_initial, judged_initials, judged_body, more_bodies, with_body, judged_bodies, has_run, begun, whole, whole_by, typed_whole}
use Rattle.fort_typing_law_exact.specs.Ready.{IsBodyReady, IsReady}
use Rattle.fort_typing_law_exact.specs.Exact.{IsExactly, TypingIsExact, IsOneOfTwo, has_typing, has_report, OneOfTwo}
use Rattle.fort_typing_law_exact.proofs.Faults.{before-is, before-told, neither-first}
use Rattle.fort_typing_law_exact.proofs.Declared.{AreRows, SomeBreaks, Walked, all_have, one_lacks, none-walked, one-walked, broken-at, broken-of, rows-long, row-at, rows-of, rows-once, rows-never}
use Rattle.fort_typing_law_exact.proofs.Initials.{initial-once, initial-never, initial-told}
use Rattle.fort_typing_law_exact.proofs.Bodies.{body-once, body-never, body-told}
use Rattle.fort_typing_law_exact.proofs.Runs.{run-is, run-told}

abbrev Row : Type 0
Row = Option TypeId × NameId × Ty × TypedForm

module _ (k : Knows) (A : IsAccepted k) where
  abbrev InitialRows : List InitialForm → List Row → Type 0
  InitialRows is xs = AreRows typed_initial (HasInitial k) (InitialBreaks k) is xs

  abbrev InitialsBreak : List InitialForm → Fault → Type 0
  InitialsBreak is f = SomeBreaks typed_initial (HasInitial k) (InitialBreaks k) is f

  abbrev WalkedInitials : List InitialForm → List Row → List Row → Option Fault → Option Fault
      → Type 0
  WalkedInitials is before behind found new =
      Walked typed_initial (HasInitial k) (InitialBreaks k) is before behind found new

  abbrev BodyRows : List BodyForm → List TypedBody → Type 0
  BodyRows bs xs = AreRows typed_body (HasBody k) (BodyBreaks k) bs xs

  abbrev BodiesBreak : List BodyForm → Fault → Type 0
  BodiesBreak bs f = SomeBreaks typed_body (HasBody k) (BodyBreaks k) bs f

  abbrev WalkedBodies : List BodyForm → List TypedBody → List TypedBody → Option Fault
      → Option Fault → Type 0
  WalkedBodies bs before behind found new =
      Walked typed_body (HasBody k) (BodyBreaks k) bs before behind found new

  -- ---- declarations one after another

  initials-walked : (is : List InitialForm) (w : Whole)
      → AllByRecursion (λ (i : InitialForm). IsType k i.ty) is
      → WalkedInitials is w.initials (judged_initials k.facts is w).initials w.found
      (judged_initials k.facts is w).found × ((judged_initials k.facts is w).bodies ≡ w.bodies)
  unfolding judged_initials
  initials-walked [] w T =
      (none-walked typed_initial (HasInitial k) (InitialBreaks k) w.initials w.found, refl)
  initials-walked (i ∷ is) w T =
      let next = with_initial i (judged_initial k.facts i w.found) w in
      let rest = initials-walked is next T.1 in (
        one-walked typed_initial (HasInitial k) (InitialBreaks k) i is w.initials next.initials
            (judged_initials k.facts is next).initials w.found
            (judged_initials k.facts is next).found (judged_initial k.facts i w.found)
            (initial-told k A i T.0 w.found) (λ t e. ap (λ
            (o : Option TypedForm). more_initials i o w.initials) e) rest.0,
        rest.1,
      )

  bodies-walked : (bs : List BodyForm) (w : Whole) → AllByRecursion (IsBodyReady k) bs
      → WalkedBodies bs w.bodies (judged_bodies k.facts bs w).bodies w.found
      (judged_bodies k.facts bs w).found × ((judged_bodies k.facts bs w).initials ≡ w.initials)
  unfolding judged_bodies
  bodies-walked [] w R = (none-walked typed_body (HasBody k) (BodyBreaks k) w.bodies w.found, refl)
  bodies-walked (b ∷ bs) w R =
      let next = with_body b (judged_body k.facts b w.found) w in
      let rest = bodies-walked bs next R.1 in (
        one-walked typed_body (HasBody k) (BodyBreaks k) b bs w.bodies next.bodies
            (judged_bodies k.facts bs next).bodies w.found (judged_bodies k.facts bs next).found
            (judged_body k.facts b w.found)
            (body-told k A b R.0 w.found) (λ t e. ap (λ
            (o : Option TypedForm). more_bodies b o w.bodies) e) rest.0,
        rest.1,
      )

some-same : {a b : Fault} → Some a ≡ Some b → a ≡ b
some-same e = cc

abbrev ok : Typed → Result Typed Fault
ok t = Ok t

abbrev err : Fault → Result Typed Fault
err x = Err x

ok-same : {t u : Typed} → ok t ≡ ok u → t ≡ u
ok-same e = cc

err-same : {x y : Fault} → err x ≡ err y → x ≡ y
err-same e = cc

some-none : {C : Type 0} {T : Type 0} {a : T} {o : Option T} → o ≡ Some a → o ≡ None → C
some-none e f = absurd cc

not-both : {C : Type 0} {c : Bool} → c ≡ true → c ≡ false → C
not-both h i = absurd cc

module _ (k : Knows) (forms : Forms) (R : IsReady k forms) where
  A : IsAccepted k
  A = R.accepted

  abbrev early : Whole
  early = judged_initials k.facts forms.initials begun

  abbrev late : Whole
  late = whole k.facts forms

  abbrev Broken : Fault → Type 0
  Broken f = InitialsBreak k A forms.initials f ⊎ BodiesBreak k A forms.bodies f

  walked_initials : WalkedInitials k A forms.initials [] early.initials None early.found
      × (early.bodies ≡ [])
  walked_initials = initials-walked k A forms.initials begun R.initials

  walked_bodies : WalkedBodies k A forms.bodies early.bodies late.bodies early.found late.found
      × (late.initials ≡ early.initials)
  walked_bodies = bodies-walked k A forms.bodies early R.bodies

  first-initial : WalkedInitials k A forms.initials [] early.initials None early.found
      → IsFirst None (InitialsBreak k A forms.initials) early.found
  first-initial (all_have rows e H i) = i
  first-initial (one_lacks f b i) = i

  first-body : WalkedBodies k A forms.bodies early.bodies late.bodies early.found late.found
      → IsFirst early.found (BodiesBreak k A forms.bodies) late.found
  first-body (all_have rows e H i) = i
  first-body (one_lacks f b i) = i

  found-first : IsFirst None Broken late.found
  found-first =
      both None early.found late.found (InitialsBreak k A forms.initials)
      (BodiesBreak k A forms.bodies) (first-initial walked_initials.0) (first-body walked_bodies.0)

  -- ---- declarations by numbers

  declaration-of : (f : Fault) → Broken f → DeclarationBreaks k forms f
  declaration-of f (inl b) =
      let r = broken-of typed_initial (HasInitial k) (InitialBreaks k) forms.initials f b
      in initial r.0 r.1 r.2 r.3
  declaration-of f (inr b) =
      let r = broken-of typed_body (HasBody k) (BodyBreaks k) forms.bodies f b
      in body r.0 r.1 r.2 r.3

  of-declaration : (f : Fault) → DeclarationBreaks k forms f → Broken f
  of-declaration f (initial n i e b) =
      inl (broken-at typed_initial (HasInitial k) (InitialBreaks k) forms.initials n i f e b)
  of-declaration f (body n d e b) =
      inr (broken-at typed_body (HasBody k) (BodyBreaks k) forms.bodies n d f e b)

  initials-of : (t : Typed) → HasTypes k forms t → InitialRows k A forms.initials t.initials
  initials-of t H =
      rows-of typed_initial (HasInitial k) (InitialBreaks k) forms.initials t.initials H.initials
      H.each_initial

  bodies-of : (t : Typed) → HasTypes k forms t → BodyRows k A forms.bodies t.bodies
  bodies-of t H =
      rows-of typed_body (HasBody k) (BodyBreaks k) forms.bodies t.bodies H.bodies H.each_body

  initials-never : (xs : List Row) → InitialRows k A forms.initials xs → (f : Fault)
      → InitialsBreak k A forms.initials f → ⊥
  initials-never xs H f b =
      rows-never typed_initial (HasInitial k) (InitialBreaks k) (λ
      (i : InitialForm). IsType k i.ty) (λ i T t u h g. initial-once k i t u h g)
      (λ i T t h f b. initial-never k i t h f b) forms.initials xs R.initials H f b

  bodies-never : (xs : List TypedBody) → BodyRows k A forms.bodies xs → (f : Fault)
      → BodiesBreak k A forms.bodies f → ⊥
  bodies-never xs H f b =
      rows-never typed_body (HasBody k) (BodyBreaks k) (IsBodyReady k)
      (λ d S t u h g. body-once k A d S t u h g) (λ d S t h f b. body-never k A d S t h f b)
      forms.bodies xs R.bodies H f b

  initials-once : (xs ys : List Row) → InitialRows k A forms.initials xs
      → InitialRows k A forms.initials ys → xs ≡ ys
  initials-once xs ys H G =
      rows-once typed_initial (HasInitial k) (InitialBreaks k) (λ
      (i : InitialForm). IsType k i.ty) (λ i T t u h g. initial-once k i t u h g)
      (λ i T t h f b. initial-never k i t h f b) forms.initials xs ys R.initials H G

  bodies-once : (xs ys : List TypedBody) → BodyRows k A forms.bodies xs
      → BodyRows k A forms.bodies ys → xs ≡ ys
  bodies-once xs ys H G =
      rows-once typed_body (HasBody k) (BodyBreaks k) (IsBodyReady k)
      (λ d S t u h g. body-once k A d S t u h g) (λ d S t h f b. body-never k A d S t h f b)
      forms.bodies xs ys R.bodies H G

  -- what has types breaks no rule
  types-never : (t : Typed) → HasTypes k forms t → (f : Fault) → DeclarationBreaks k forms f → ⊥
  types-never t H f b = by (of-declaration f b)
    where
      by : Broken f → ⊥
      by (inl c) = initials-never t.initials (initials-of t H) f c
      by (inr c) = bodies-never t.bodies (bodies-of t H) f c

  one-typing : (t u : Typed) → HasTypes k forms t → HasTypes k forms u → t ≡ u
  one-typing t u H G =
      let a = initials-once t.initials u.initials (initials-of t H) (initials-of u G) in
      let c = bodies-once t.bodies u.bodies (bodies-of t H) (bodies-of u G) in
      ap (λ (xs : List Row). let z : Typed = record { initials = xs; bodies = t.bodies } in z) a
      ∙ ap (λ (xs : List TypedBody). let z : Typed =
      record { initials = u.initials; bodies = xs } in z) c

  -- ---- the answer

  abbrev left_typed : Typed
  left_typed = record { initials = late.initials; bodies = late.bodies }

  answer-is : (o : Option Fault) (r : Bool) → late.found ≡ o → has_run k.facts ≡ r
      → typed_whole k.facts forms ≡ whole_by forms.name r late o
  unfolding typed_whole
  answer-is o r e f =
      ap (λ (c : Bool). whole_by forms.name c late late.found) f ∙ ap (λ
      (x : Option Fault). whole_by forms.name r late x) e

  -- where no rule is broken, each has its row
  initial-rows : late.found ≡ None
      → WalkedInitials k A forms.initials [] early.initials None early.found
      → InitialRows k A forms.initials early.initials
  initial-rows e (all_have rows q H i) = subst (InitialRows k A forms.initials) (sym q) H
  initial-rows e (one_lacks f b i) = absurd ((found-first.none e).1 f (inl b))

  body-rows : late.found ≡ None → early.bodies ≡ []
      → WalkedBodies k A forms.bodies early.bodies late.bodies early.found late.found
      → BodyRows k A forms.bodies late.bodies
  body-rows e z (all_have rows q H i) =
      subst (BodyRows k A forms.bodies) (sym (q ∙ ap (λ xs. xs ++ rows) z)) H
  body-rows e z (one_lacks f b i) = absurd ((found-first.none e).1 f (inr b))

  left-has : late.found ≡ None → HasRun k → HasTypes k forms left_typed
  left-has e r =
      let H = subst (InitialRows k A forms.initials) (sym walked_bodies.1)
      (initial-rows e walked_initials.0) in
      let G = body-rows e walked_initials.1 walked_bodies.0 in
      record {
        initials =
            rows-long typed_initial (HasInitial k) (InitialBreaks k) forms.initials late.initials H;
        each_initial =
            row-at typed_initial (HasInitial k) (InitialBreaks k) forms.initials late.initials H;
        bodies = rows-long typed_body (HasBody k) (BodyBreaks k) forms.bodies late.bodies G;
        each_body = row-at typed_body (HasBody k) (BodyBreaks k) forms.bodies late.bodies G;
        runs = r;
      }

  -- the first broken rule is reported
  found-reported : (x : Fault) → late.found ≡ Some x → IsReported k forms x
  found-reported x e = first (declaration-of x (own (found-first.some x e))) none
    where
      own : (None ≡ Some x) ⊎ Broken x → Broken x
      own (inl z) = some-none z refl
      own (inr b) = b

      none : (y : Fault) → DeclarationBreaks k forms y → GoesBefore y x → ⊥
      none y b g = not-both (before-is y x g) (found-first.first x y e (inr (of-declaration y b)))

  none-broken : late.found ≡ None → (y : Fault) → DeclarationBreaks k forms y → ⊥
  none-broken e y b = (found-first.none e).1 y (of-declaration y b)

  -- what is reported is the first broken rule
  reported-found : (x y : Fault) → late.found ≡ Some y → DeclarationBreaks k forms x
      → ((z : Fault) → DeclarationBreaks k forms z → GoesBefore z x → ⊥) → y ≡ x
  reported-found x y e b none = by (goes_first y x) refl
    where
      own : (None ≡ Some y) ⊎ Broken y → Broken y
      own (inl z) = some-none z refl
      own (inr c) = c

      by : (c : Bool) → goes_first y x ≡ c → y ≡ x
      by true g =
          absurd (none y (declaration-of y (own (found-first.some y e))) (before-told y x g))
      by false g = neither-first y x g (found-first.first y x e (inr (of-declaration x b)))

  -- ---- by what is found, and whether there is a `run`

  no-run : has_run k.facts ≡ false → HasRun k → ⊥
  no-run e r = not-both (run-is k r) e

  some-broken : (x : Fault) → late.found ≡ Some x → (y : Fault) × DeclarationBreaks k forms y
  some-broken x e = by (found-first.some x e)
    where
      by : (None ≡ Some x) ⊎ Broken x → (y : Fault) × DeclarationBreaks k forms y
      by (inl z) = some-none z refl
      by (inr b) = (x, declaration-of x b)

  data Ends : Type 0 where
    ends_typed : late.found ≡ None → has_run k.facts ≡ true → Ends
    ends_without : late.found ≡ None → has_run k.facts ≡ false → Ends
    ends_broken : (x : Fault) → late.found ≡ Some x → Ends

  ends : Ends
  ends = by late.found refl (two (has_run k.facts) refl)
    where
      two : (c : Bool) → has_run k.facts ≡ c → (has_run k.facts ≡ true) ⊎ (has_run k.facts ≡ false)
      two true e = inl e
      two false e = inr e

      by : (o : Option Fault) → late.found ≡ o
          → (has_run k.facts ≡ true) ⊎ (has_run k.facts ≡ false) → Ends
      by (Some x) e r = ends_broken x e
      by None e (inl r) = ends_typed e r
      by None e (inr r) = ends_without e r

  broken-is : (r : Bool) (x : Fault) → whole_by forms.name r late (Some x) ≡ err x
  broken-is true x = refl
  broken-is false x = refl

  broken-answer : (x : Fault) → late.found ≡ Some x → typed_whole k.facts forms ≡ err x
  broken-answer x e = answer-is (Some x) (has_run k.facts) e refl ∙ broken-is (has_run k.facts) x

  computed : (t : Typed) → HasTypes k forms t → typed_whole k.facts forms ≡ Ok t
  computed t H = by ends
    where
      by : Ends → typed_whole k.facts forms ≡ Ok t
      by (ends_typed e r) =
          answer-is None true e r ∙ ap (λ
          (u : Typed). Ok u) (one-typing left_typed t (left-has e (run-told k r)) H)
      by (ends_without e r) = absurd (no-run r H.runs)
      by (ends_broken x e) = let s = some-broken x e in absurd (types-never t H s.0 s.1)

  typing-told : (t : Typed) → typed_whole k.facts forms ≡ Ok t → HasTypes k forms t
  typing-told t q = by ends
    where
      by : Ends → HasTypes k forms t
      by (ends_typed e r) =
          subst (HasTypes k forms) (ok-same (sym (answer-is None true e r) ∙ q))
          (left-has e (run-told k r))
      by (ends_without e r) = absurd (let z = sym (answer-is None false e r) ∙ q in cc)
      by (ends_broken x e) = absurd (let z = sym (broken-answer x e) ∙ q in cc)

  refused : (x : Fault) → IsReported k forms x → typed_whole k.facts forms ≡ Err x
  refused x (first b none) = by ends
    where
      by : Ends → typed_whole k.facts forms ≡ Err x
      by (ends_typed e r) = absurd (none-broken e x b)
      by (ends_without e r) = absurd (none-broken e x b)
      by (ends_broken y e) =
          broken-answer y e ∙ ap (λ (f : Fault). Err f) (reported-found x y e b none)
  refused x (no_run none n is) = by ends
    where
      by : Ends → typed_whole k.facts forms ≡ Err x
      by (ends_typed e r) = absurd (n (run-told k r))
      by (ends_without e r) = answer-is None false e r ∙ ap (λ (f : Fault). Err f) (sym is)
      by (ends_broken y e) = let s = some-broken y e in absurd (none s.0 s.1)

  report-told : (x : Fault) → typed_whole k.facts forms ≡ Err x → IsReported k forms x
  report-told x q = by ends
    where
      by : Ends → IsReported k forms x
      by (ends_typed e r) = absurd (let z = sym (answer-is None true e r) ∙ q in cc)
      by (ends_without e r) =
          no_run (none-broken e) (no-run r) (sym (err-same (sym (answer-is None false e r) ∙ q)))
      by (ends_broken y e) =
          subst (IsReported k forms) (err-same (sym (broken-answer y e) ∙ q)) (found-reported y e)

  exactly : IsExactly k forms
  exactly =
      record {
        computed = computed;
        has_types = typing-told;
        refused = refused;
        reported = report-told;
      }

  one-of : IsOneOfTwo k forms
  one-of = by (typed_whole k.facts forms) refl
    where
      by : (r : Result Typed Fault) → typed_whole k.facts forms ≡ r → IsOneOfTwo k forms
      by (Ok t) e = has_typing t (typing-told t e)
      by (Err x) e = has_report x (report-told x e)

pub typing_is_exact : TypingIsExact
typing_is_exact k forms R = exactly k forms R

pub one_of_two : OneOfTwo
one_of_two = record {
  one = one-of;
  never_both =
      λ k forms R t H x S. absurd (let z = sym (computed k forms R t H) ∙ refused k forms R x S
      in cc);
  one_typing = λ k forms R t u H G. one-typing k forms R t u H G;
  one_report = λ k forms R x y S T. err-same (sym (refused k forms R x S) ∙ refused k forms R y T);
}
