-- What a run answers: the typed form that it becomes, or nothing where it breaks a rule or an
-- element in it has no type.
use Rattle.std.proofs.Common.{◌≡◌, ◌⊎◌, inl, inr, ◌≤◌, ℕ, zero, suc, Bool, true, false, cond, not, ◌||◌, List, [], ◌∷◌, ◌++◌, length, Option, None, Result, Ok, Err, refl, arith, ap, ◌∙◌, sym, subst}
use Rattle.fort_base.specs.declared.refusal.CheckFault.{CheckFault}
use Rattle.fort_base.specs.declared.refusal.CheckFault.TheVariants as a_fault
use Rattle.fort_base.specs.declared.refusal.Place.{Place}
use Rattle.fort_base.specs.declared.refusal.Rule.{Rule}
use Rattle.fort_base.specs.declared.rules.TheConstants.{MISMATCH}
use Rattle.fort_juxt.specs.declared.elements.Element.{Element}
use Rattle.fort_juxt.specs.declared.elements.Tight.{Tight}
use Rattle.fort_juxt.specs.declared.elements.Tight.TheVariants as a_rewriting
use Rattle.fort_juxt.specs.Tight as tight
use Rattle.fort_form_typed.specs.declared.typed_form.TypedForm.{TypedForm}
use Rattle.fort_typing_known.specs.declared.fault.Fault.{Fault}
use Rattle.fort_typing_known.specs.Known.{Knows}
use Rattle.fort_typing_rules.specs.declared.part.Part.{Part}
use Rattle.fort_typing_rules.specs.declared.part.Meaning.{Meaning}
use Rattle.fort_typing_rules.specs.declared.part.Meaning.TheVariants as a_meaning
use Rattle.fort_typing_rules.specs.Calls.{Calls}
use Rattle.fort_typing_rules.specs.Types.{type_of, is_nothing, fault}
use Rattle.fort_typing_rules.specs.Elements as rule
use Rattle.fort_typing_meaning.specs.declared.frame.Outcome.{Outcome}
use Rattle.fort_typing_meaning.specs.Faults.{with_fault, breaks}
use Rattle.fort_typing_meaning.specs.Tests.{value, untyped}
use Rattle.fort_typing_meaning.specs.Joining.{Further, on, stop, replaced, rewritten_by, rewritten, further, run_within, run}
use Rattle.fort_typing_law_rules.specs.Deciding.{IsAccepted}
use Rattle.fort_typing_law_rules.specs.Typed.{AreTyped}
use Rattle.fort_typing_law_rules.specs.Exact.{IsFirst}
use Rattle.fort_typing_law_rules.proofs.Types.{all_left, all_right, all_first, all_rest, all_join}
use Rattle.fort_typing_law_rules.proofs.Typed.{rewritten-typed}
use Rattle.fort_typing_law_rules.proofs.Juxtaposing.{rewriting_is_computed}
use Rattle.fort_typing_law_rules.proofs.Running.{to, step-is, around_it, longer, same_run}
use Rattle.fort_typing_law_rules.proofs.Runs.{rewriting-of, Own, breaks-of-run, run-breaks}
use Rattle.fort_typing_law_rules.proofs.Firsts.{no_more, alike, one_more, both}
use Rattle.fort_typing_law_rules.proofs.Scopes.{not-both}
use Rattle.fort_typing_law_rules.proofs.Pairs.{Fit, Plain, a_value, no_type, plain}
use Rattle.fort_typing_law_rules.proofs.Stepping.{AllFit, HasUnknown, Step, step_refused, step_done, step_stops, step-told}

-- A run begins with no postfix, and isn't a function set's name by itself.
abbrev pub Begins : List Part → Type 0
Begins [] = ⊥
Begins (p ∷ []) = (p.postfix ≡ false) × (rule.is_name_by p.meaning ≡ false)
Begins (p ∷ q ∷ ps) = p.postfix ≡ false

begins-made : (before after : List Part) (x y : Part) (place : Place) (m : Meaning)
    → rule.is_name_by m ≡ false → Begins (before ++ x ∷ y ∷ after)
    → Begins (before ++ rule.made place m ∷ after)
begins-made [] [] x y place m n b = (refl, n)
begins-made [] (q ∷ after) x y place m n b = refl
begins-made (c ∷ []) after x y place m n b = b
begins-made (c ∷ d ∷ before) after x y place m n b = b

-- what comes of two is a value or without a type
made-plain : (c : Bool) (m : rule.Made) → rule.is_name_by (rule.meaning_of c m) ≡ false
made-plain true (rule.gives t) = refl
made-plain false (rule.gives t) = by (is_nothing (type_of t))
  where
    by : (d : Bool) → rule.is_name_by (cond d a_meaning.Unknown (a_meaning.Value t)) ≡ false
    by true = refl
    by false = refl
made-plain c (rule.breaks r at) = refl

made-fit : (place : Place) (c : Bool) (m : rule.Made) → Fit (rule.made place (rule.meaning_of c m))
made-fit place true (rule.gives t) = refl
made-fit place false (rule.gives t) = by (is_nothing (type_of t))
  where
    by : (d : Bool) → Fit (rule.made place (cond d a_meaning.Unknown (a_meaning.Value t)))
    by true = tt
    by false = refl
made-fit place c (rule.breaks r at) = tt

-- an element without a type, in a run after a rewriting
unknown-split : (before after : List Part) (p : Part) → HasUnknown (before ++ p ∷ after)
    → (p.meaning ≡ a_meaning.Unknown) ⊎ (HasUnknown before ⊎ HasUnknown after)
unknown-split [] after p (inl e) = inl e
unknown-split [] after p (inr u) = inr (inr u)
unknown-split (b ∷ before) after p (inl e) = inr (inl (inl e))
unknown-split (b ∷ before) after p (inr u) = by (unknown-split before after p u)
  where
    by : (p.meaning ≡ a_meaning.Unknown) ⊎ (HasUnknown before ⊎ HasUnknown after)
        → (p.meaning ≡ a_meaning.Unknown) ⊎ (HasUnknown (b ∷ before) ⊎ HasUnknown after)
    by (inl e) = inl e
    by (inr (inl v)) = inr (inl (inr v))
    by (inr (inr v)) = inr (inr v)

unknown-round : (before after : List Part) (x y : Part) → HasUnknown before ⊎ HasUnknown after
    → HasUnknown (before ++ x ∷ y ∷ after)
unknown-round [] after x y (inl u) = absurd u
unknown-round [] after x y (inr u) = inr (inr u)
unknown-round (b ∷ before) after x y (inl (inl e)) = inl e
unknown-round (b ∷ before) after x y (inl (inr u)) = inr (unknown-round before after x y (inl u))
unknown-round (b ∷ before) after x y (inr u) = inr (unknown-round before after x y (inr u))

unknown-still : (before after : List Part) (p : Part) → HasUnknown before ⊎ HasUnknown after
    → HasUnknown (before ++ p ∷ after)
unknown-still [] after p (inl u) = absurd u
unknown-still [] after p (inr u) = inr u
unknown-still (b ∷ before) after p (inl (inl e)) = inl e
unknown-still (b ∷ before) after p (inl (inr u)) = inr (unknown-still before after p (inl u))
unknown-still (b ∷ before) after p (inr u) = inr (unknown-still before after p (inr u))

-- of two elements that are known only those round them may be without a type
unknown-others : (before after : List Part) (x y : Part) → (x.meaning ≡ a_meaning.Unknown → ⊥)
    → (y.meaning ≡ a_meaning.Unknown → ⊥) → HasUnknown (before ++ x ∷ y ∷ after)
    → HasUnknown before ⊎ HasUnknown after
unknown-others [] after x y f g (inl e) = absurd (f e)
unknown-others [] after x y f g (inr (inl e)) = absurd (g e)
unknown-others [] after x y f g (inr (inr u)) = inr u
unknown-others (b ∷ before) after x y f g (inl e) = inl (inl e)
unknown-others (b ∷ before) after x y f g (inr u) = by (unknown-others before after x y f g u)
  where
    by : HasUnknown before ⊎ HasUnknown after → HasUnknown (b ∷ before) ⊎ HasUnknown after
    by (inl v) = inl (inr v)
    by (inr v) = inr v

no-two : (p : Part) (before after : List Part) (x y : Part) → p ∷ [] ≡ before ++ x ∷ y ∷ after → ⊥
no-two p [] after x y e = absurd cc
no-two p (b ∷ []) after x y e = absurd cc
no-two p (b ∷ c ∷ before) after x y e = absurd cc

-- a known meaning
pub known : (m n : Meaning) → m ≡ n → rule.is_unknown_by n ≡ false → m ≡ a_meaning.Unknown → ⊥
known m n e z u = not-both (ap rule.is_unknown_by (sym e ∙ u)) z

replaced-on : (before after : List Part) (place : Place) (m : rule.Made) (found new : Option Fault)
    → replaced before place after (to m) found ≡ stop new → ⊥
replaced-on before after place (rule.gives u) found new e =
    by (rule.is_whole before after || not (is_nothing (type_of u))) e
  where
    by : (c : Bool)
        → cond c (on (before ++ rule.made place (a_meaning.Value u) ∷ after) found)
        (on (before ++ rule.made place a_meaning.Unknown ∷ after) (breaks MISMATCH place found))
        ≡ stop new → ⊥
    by true d = absurd cc
    by false d = absurd cc
replaced-on before after place (rule.breaks r at) found new e = absurd cc

module _ (k : Knows) (A : IsAccepted k) where
  abbrev RunBreaks : List Part → Fault → Type 0
  RunBreaks ps f = rule.RunBreaks k (Calls k) ps f

  -- A run that may be asked.
  abbrev pub IsRun : List Part → Type 0
  IsRun ps = Begins ps × AllFit ps × AreTyped k ps

  -- What a run answers.
  pub data RunTold (ps : List Part) (found : Option Fault) (o : Outcome) : Type 0 where
    run_becomes : (t : TypedForm) (new : Option Fault) → rule.Becomes k (Calls k) ps t
        → IsFirst found (RunBreaks ps) new → o ≡ value t new → RunTold ps found o
    run_broken : (f : Fault) (new : Option Fault) → RunBreaks ps f
        → IsFirst found (RunBreaks ps) new → o ≡ untyped new → RunTold ps found o
    run_unknown : (new : Option Fault) → HasUnknown ps → IsFirst found (RunBreaks ps) new
        → o ≡ untyped new → RunTold ps found o

  -- ---- known elements

  known-two : (ps before after : List Part) (place : Place) (m : rule.Made)
      → rule.Rewritten k (Calls k) ps before place m after
      → (x : Part) × (y : Part) × (ps ≡ before ++ x ∷ y ∷ after)
      × (x.meaning ≡ a_meaning.Unknown → ⊥) × (y.meaning ≡ a_meaning.Unknown → ⊥)
  known-two ps before after place m (rule.applied f a h is at w) =
      let u = by w in (f, a, is, u.0, u.1)
    where
      by : rule.Applies k (Calls k) f a m
          → (f.meaning ≡ a_meaning.Unknown → ⊥) × (a.meaning ≡ a_meaning.Unknown → ⊥)
      by (rule.call name u result widened p q c e) = (known _ _ p refl, known _ _ q refl)
      by (rule.no_call name u r p q c e) = (known _ _ p refl, known _ _ q refl)
      by (rule.value g u domain result p arrow q b e) = (known _ _ p refl, known _ _ q refl)
      by (rule.no_argument g u domain result p arrow q b e) = (known _ _ p refl, known _ _ q refl)
  known-two ps before after place m (rule.followed a p h is at w) =
      let u = by w in (a, p, is, u.0, u.1)
    where
      by : rule.Follows k (Calls k) a p m
          → (a.meaning ≡ a_meaning.Unknown → ⊥) × (p.meaning ≡ a_meaning.Unknown → ⊥)
      by (rule.index u i t q z s e) = (known _ _ q refl, known _ _ z refl)
      by (rule.no_array u i q z s e) = (known _ _ q refl, known _ _ z refl)
      by (rule.power u d result widened q z c e) = (known _ _ q refl, known _ _ z refl)
      by (rule.no_power u d r q z c e) = (known _ _ q refl, known _ _ z refl)
      by (rule.field u spot name f q z s e) = (known _ _ q refl, known _ _ z refl)
      by (rule.no_field u spot name q z s e) = (known _ _ q refl, known _ _ z refl)
      by (rule.size u spot name ts q z s e) = (known _ _ q refl, known _ _ z refl)
      by (rule.method u spot name ts result widened q z s d c e) =
          (known _ _ q refl, known _ _ z refl)
      by (rule.no_method u spot name ts q z s d e) = (known _ _ q refl, known _ _ z refl)
      by (rule.no_method_call u spot name ts r q z s d c e) = (known _ _ q refl, known _ _ z refl)
  known-two ps before after place m (rule.joined a b h none is at w) =
      let u = by w in (a, b, is ∙ ap (λ (bs : List Part). bs ++ a ∷ b ∷ after) (sym none), u.0, u.1)
    where
      by : rule.Joins k (Calls k) a b m
          → (a.meaning ≡ a_meaning.Unknown → ⊥) × (b.meaning ≡ a_meaning.Unknown → ⊥)
      by (rule.joining u v result widened q z c e) = (known _ _ q refl, known _ _ z refl)
      by (rule.no_joining u v r q z c e) = (known _ _ q refl, known _ _ z refl)

  -- a run with an element without a type becomes no typed form
  pub unknown-never : {ps : List Part} {t : TypedForm} → rule.Becomes k (Calls k) ps t
      → HasUnknown ps → ⊥
  unknown-never {t = t} (rule.whole p is m) u = by (subst HasUnknown is u)
    where
      by : HasUnknown (p ∷ []) → ⊥
      by (inl e) = known p.meaning (a_meaning.Value t) m refl e
      by (inr v) = v
  unknown-never {ps = ps} (rule.on before after place u step free rest) v =
      let s = known-two ps before after place (rule.gives u) step in
      unknown-never rest
      (unknown-still before after _
      (unknown-others before after s.0 s.1 s.3 s.4 (subst HasUnknown s.2 v)))

  -- ---- a run after a rewriting

  good-after : (ps before after : List Part) (place : Place) (m : rule.Made)
      → rule.Rewritten k (Calls k) ps before place m after → IsRun ps
      → IsRun (rule.rewritten before place m after)
  good-after ps before after place m w (B, F, T) =
      let s = around_it k A ps before after place m w in
      let G = subst AllFit s.2 F in
      let R = all_right Fit before (s.0 ∷ s.1 ∷ after) G in (
        begins-made before after s.0 s.1 place (rule.meaning_of (rule.is_whole before after) m)
            (made-plain (rule.is_whole before after) m) (subst Begins s.2 B),
        all_join Fit before
            (rule.made place (rule.meaning_of (rule.is_whole before after) m) ∷ after)
            (all_left Fit before (s.0 ∷ s.1 ∷ after) G) (
              made-fit place (rule.is_whole before after) m,
              all_rest Fit s.1 after (all_rest Fit s.0 (s.1 ∷ after) R),
            ),
        (rewritten-typed k A ps before after place m w T).1,
      )

  shorter : (ps before after : List Part) (place : Place) (m : rule.Made)
      → rule.Rewritten k (Calls k) ps before place m after → (n : ℕ) → length ps ≤ suc n
      → length (rule.rewritten before place m after) ≤ n
  shorter ps before after place m w n l =
      let s = around_it k A ps before after place m w in
      let e = ap length s.2
      ∙ longer k A before after s.0 s.1
      (rule.made place (rule.meaning_of (rule.is_whole before after) m)) in
      omega arith

  -- one of several rules, none of which but its own is broken by a rewriting
  both-of : (ps before after : List Part) (place : Place) (m : rule.Made)
      (found mid new : Option Fault) → AreTyped k ps
      → rule.Rewritten k (Calls k) ps before place m after
      → IsFirst found (Own k A before place m after) mid
      → IsFirst mid (RunBreaks (rule.rewritten before place m after)) new
      → IsFirst found (RunBreaks ps) new
  both-of ps before after place m found mid new T w i j =
      alike found (λ f. Own k A before place m after f
      ⊎ RunBreaks (rule.rewritten before place m after) f) (RunBreaks ps) new
      (run-breaks k A ps before after place m w)
      (breaks-of-run k A ps before after place m T w)
      (both found mid new (Own k A before place m after)
      (RunBreaks (rule.rewritten before place m after)) i j)

  -- a rewriting that gives an element
  after-free : (ps before after : List Part) (place : Place) (u : TypedForm) (found : Option Fault)
      (o : Outcome) → AreTyped k ps
      → rule.Rewritten k (Calls k) ps before place (rule.gives u) after
      → rule.not_barred before u after ≡ true
      → RunTold (rule.rewritten before place (rule.gives u) after) found o → RunTold ps found o
  after-free ps before after place u found o T w free told = by told
    where
      none-own : (f : Fault) → Own k A before place (rule.gives u) after f → ⊥
      none-own f (c, d, e) =
          not-both free (ap (λ z. z || not (is_nothing (type_of u))) c ∙ ap not d)

      clean : IsFirst found (Own k A before place (rule.gives u) after) found
      clean = no_more found (Own k A before place (rule.gives u) after) none-own

      value-there : (c d : Bool) → c || not d ≡ true
          → cond c (a_meaning.Value u) (cond d a_meaning.Unknown (a_meaning.Value u))
          ≡ a_meaning.Value u
      value-there true d e = refl
      value-there false false e = refl
      value-there false true e = absurd (let z : false ≡ true = e in cc)

      still : HasUnknown (rule.rewritten before place (rule.gives u) after) → HasUnknown ps
      still v = at (unknown-split before after _ v)
        where
          at : ((rule.meaning_of (rule.is_whole before after) (rule.gives u)) ≡ a_meaning.Unknown)
              ⊎ (HasUnknown before ⊎ HasUnknown after) → HasUnknown ps
          at (inl e) =
              absurd (known _ _
              (value-there (rule.is_whole before after) (is_nothing (type_of u)) free) refl e)
          at (inr x) =
              let s = around_it k A ps before after place (rule.gives u) w
              in subst HasUnknown (sym s.2) (unknown-round before after s.0 s.1 x)

      by : RunTold (rule.rewritten before place (rule.gives u) after) found o → RunTold ps found o
      by (run_becomes t new b i e) =
          run_becomes t new (rule.on before after place u w free b)
          (both-of ps before after place (rule.gives u) found found new T w clean i) e
      by (run_broken f new b i e) =
          run_broken f new (run-breaks k A ps before after place (rule.gives u) w f (inr b))
          (both-of ps before after place (rule.gives u) found found new T w clean i) e
      by (run_unknown new v i e) =
          run_unknown new (still v)
          (both-of ps before after place (rule.gives u) found found new T w clean i) e

  -- a rewriting that breaks a rule
  after-broken : (ps before after : List Part) (place : Place) (m : rule.Made)
      (found mid : Option Fault) (f : Fault) (o : Outcome) → AreTyped k ps
      → rule.Rewritten k (Calls k) ps before place m after
      → Own k A before place m after f → IsFirst found (Own k A before place m after) mid
      → HasUnknown (rule.rewritten before place m after)
      → RunTold (rule.rewritten before place m after) mid o → RunTold ps found o
  after-broken ps before after place m found mid f o T w own i v (run_becomes t new b j e) =
      absurd (unknown-never b v)
  after-broken ps before after place m found mid f o T w own i v (run_broken g new b j e) =
      run_broken f new (run-breaks k A ps before after place m w f (inl own))
      (both-of ps before after place m found mid new T w i j) e
  after-broken ps before after place m found mid f o T w own i v (run_unknown new x j e) =
      run_broken f new (run-breaks k A ps before after place m w f (inl own))
      (both-of ps before after place m found mid new T w i j) e

  -- ---- how a run goes on

  one-answer : (es : List Element) (s t : Result Tight CheckFault) → tight.Rewrites es s
      → tight.Rewrites es t → s ≡ t
  one-answer es s t h g = sym (rewriting_is_computed es s h) ∙ rewriting_is_computed es t g

  never-both : (es : List Element) (r : Rule) (at : Place) (t : Tight)
      → tight.Rewrites es (Err (a_fault.Refused r at)) → tight.Rewrites es (Ok t) → ⊥
  never-both es r at t h g =
      let z = one-answer es (Err (a_fault.Refused r at)) (Ok t) h g in absurd cc

  -- a run of one element breaks nothing
  alone-clean : (p : Part) (f : Fault) → RunBreaks (p ∷ []) f → ⊥
  alone-clean p f (rule.no_rewriting r at h e) =
      never-both (rule.elements (p ∷ [])) r at a_rewriting.Whole h
      (tight.whole (rule.element p) refl refl)
  alone-clean p f (rule.this_rewriting before after place at r w e) =
      let s = around_it k A (p ∷ []) before after place (rule.breaks r at) w
      in no-two p before after s.0 s.1 s.2
  alone-clean p f (rule.a_nothing before after place u w c d e) =
      let s = around_it k A (p ∷ []) before after place (rule.gives u) w
      in no-two p before after s.0 s.1 s.2
  alone-clean p f (rule.later_rewriting before after place m w c) =
      let s = around_it k A (p ∷ []) before after place m w in no-two p before after s.0 s.1 s.2

  alone : (p : Part) (found : Option Fault) (o : Outcome) → Plain p
      → o ≡ record { seen = p.meaning; found = found } → RunTold (p ∷ []) found o
  alone p found o (a_value u e) q =
      run_becomes u found (rule.whole p refl e) (no_more found (RunBreaks (p ∷ [])) (alone-clean p))
      (q ∙ ap (λ (m : Meaning). record { seen = m; found = found }) e)
  alone p found o (no_type e) q =
      run_unknown found (inl e) (no_more found (RunBreaks (p ∷ [])) (alone-clean p)) (q ∙ ap (λ
      (m : Meaning). record { seen = m; found = found }) e)

  only-refused : (ps : List Part) (r : Rule) (at : Place)
      → tight.Rewrites (rule.elements ps) (Err (a_fault.Refused r at)) → (f : Fault)
      → RunBreaks ps f → f ≡ fault r at
  only-refused ps r at h f (rule.no_rewriting r2 at2 h2 e) =
      let z = one-answer (rule.elements ps) (Err (a_fault.Refused r2 at2))
      (Err (a_fault.Refused r at)) h2 h in
      let p : r2 ≡ r = cc in
      let q : at2 ≡ at = cc in
      e ∙ ap (λ (x : Rule). fault x at2) p ∙ ap (λ (x : Place). fault r x) q
  only-refused ps r at h f (rule.this_rewriting before after place spot r2 w e) =
      let g = rewriting-of k A ps before after place (rule.breaks r2 spot) w
      in absurd (never-both (rule.elements ps) r at g.0 h g.1)
  only-refused ps r at h f (rule.a_nothing before after place u w c d e) =
      let g = rewriting-of k A ps before after place (rule.gives u) w
      in absurd (never-both (rule.elements ps) r at g.0 h g.1)
  only-refused ps r at h f (rule.later_rewriting before after place m w c) =
      let g = rewriting-of k A ps before after place m w
      in absurd (never-both (rule.elements ps) r at g.0 h g.1)

  refused-first : (ps : List Part) (r : Rule) (at : Place)
      (h : tight.Rewrites (rule.elements ps) (Err (a_fault.Refused r at))) (found : Option Fault)
      → IsFirst found (RunBreaks ps) (breaks r at found)
  unfolding breaks
  refused-first ps r at h found =
      alike found (λ f. f
      ≡ fault r at) (RunBreaks ps) (with_fault (fault r at) found)
      (λ f e. rule.no_rewriting r at h e) (only-refused ps r at h) (one_more (fault r at) found)

  rewritten-refused : (ps : List Part) (r : Rule) (at : Place)
      → tight.Rewrites (rule.elements ps) (Err (a_fault.Refused r at)) → (found : Option Fault)
      → rewritten k.facts ps found ≡ stop (breaks r at found)
  unfolding rewritten
  rewritten-refused ps r at h found =
      ap (λ x. rewritten_by k.facts ps x found)
      (rewriting_is_computed (rule.elements ps) (Err (a_fault.Refused r at)) h)

  -- where an element has no type, no rule of the run is broken
  none-broken : (ps : List Part) (t : Tight) → AreTyped k ps
      → tight.Rewrites (rule.elements ps) (Ok t)
      → ((found : Option Fault) → rewritten k.facts ps found ≡ stop found) → (f : Fault)
      → RunBreaks ps f → ⊥
  none-broken ps t T h e f (rule.no_rewriting r at g x) = never-both (rule.elements ps) r at t g h
  none-broken ps t T h e f (rule.this_rewriting before after place at r w x) =
      replaced-on before after place (rule.breaks r at) None None
      (sym (step-is k A ps before after place (rule.breaks r at) None T w) ∙ e None)
  none-broken ps t T h e f (rule.a_nothing before after place u w c d x) =
      replaced-on before after place (rule.gives u) None None
      (sym (step-is k A ps before after place (rule.gives u) None T w) ∙ e None)
  none-broken ps t T h e f (rule.later_rewriting before after place m w c) =
      replaced-on before after place m None None (sym (step-is k A ps before after place m None T w)
      ∙ e None)

  unknown-at : (before after : List Part) (p : Part) → p.meaning ≡ a_meaning.Unknown
      → HasUnknown (before ++ p ∷ after)
  unknown-at [] after p e = inl e
  unknown-at (b ∷ before) after p e = inr (unknown-at before after p e)

  abbrev Next : Type 0
  Next = Option Fault → List Part → Outcome

  -- a rewriting that is done
  free-told : (next : Next) (ps before after : List Part) (place : Place) (u : TypedForm)
      (found : Option Fault) → AreTyped k ps
      → rule.Rewritten k (Calls k) ps before place (rule.gives u) after
      → ((mid : Option Fault)
      → RunTold (rule.rewritten before place (rule.gives u) after) mid
      (next mid (rule.rewritten before place (rule.gives u) after)))
      → rule.not_barred before u after ≡ true
      → RunTold ps found (further next (replaced before place after (to (rule.gives u)) found))
  free-told next ps before after place u found T w rest free =
      after-free ps before after place u found _ T w free (subst (λ
      (x : Outcome). RunTold (rule.rewritten before place (rule.gives u) after) found x)
      (sym same) (rest found))
    where
      same : further next (replaced before place after (to (rule.gives u)) found)
          ≡ next found (rule.rewritten before place (rule.gives u) after)
      same = ap
          (λ z. further next
          (cond z (on (before ++ rule.made place (a_meaning.Value u) ∷ after) found)
          (on (before ++ rule.made place a_meaning.Unknown ∷ after)
          (breaks MISMATCH place found)))) free
          ∙ ap (next found)
          (sym (same_run k A before after place u (rule.is_whole before after)
          (is_nothing (type_of u)) free))

  gives-told : (next : Next) (ps before after : List Part) (place : Place) (u : TypedForm)
      (found : Option Fault) → AreTyped k ps
      → rule.Rewritten k (Calls k) ps before place (rule.gives u) after
      → ((mid : Option Fault)
      → RunTold (rule.rewritten before place (rule.gives u) after) mid
      (next mid (rule.rewritten before place (rule.gives u) after)))
      → (c d : Bool) → rule.is_whole before after ≡ c → is_nothing (type_of u) ≡ d
      → RunTold ps found (further next (replaced before place after (to (rule.gives u)) found))
  unfolding breaks
  gives-told next ps before after place u found T w rest false true p q =
      after-broken ps before after place (rule.gives u) found
      (with_fault (fault MISMATCH place) found) (fault MISMATCH place) _ T w (p, q, refl)
      (alike found (λ f. f
      ≡ fault MISMATCH place) (Own k A before place (rule.gives u) after)
      (with_fault (fault MISMATCH place) found) (λ f e. (p, q, e)) (λ f e. e.2)
      (one_more (fault MISMATCH place) found))
      (unknown-at before after
      (rule.made place (rule.meaning_of (rule.is_whole before after) (rule.gives u))) there)
      (subst (λ
      (x : Outcome). RunTold (rule.rewritten before place (rule.gives u) after)
      (with_fault (fault MISMATCH place) found) x) (sym same)
      (rest (with_fault (fault MISMATCH place) found)))
    where
      there : rule.meaning_of (rule.is_whole before after) (rule.gives u) ≡ a_meaning.Unknown
      there = ap (λ z. cond z (a_meaning.Value u) (rule.barred u)) p
          ∙ ap (λ z. cond z a_meaning.Unknown (a_meaning.Value u)) q

      same : further next (replaced before place after (to (rule.gives u)) found)
          ≡ next (with_fault (fault MISMATCH place) found)
          (rule.rewritten before place (rule.gives u) after)
      same = ap
          (λ z. further next
          (cond z (on (before ++ rule.made place (a_meaning.Value u) ∷ after) found)
          (on (before ++ rule.made place a_meaning.Unknown ∷ after)
          (breaks MISMATCH place found))))
          (ap (λ z. z || not (is_nothing (type_of u))) p ∙ ap not q)
          ∙ ap (λ (m : Meaning). next (with_fault (fault MISMATCH place) found)
          (before ++ rule.made place m ∷ after)) (sym there)
  gives-told next ps before after place u found T w rest true d p q =
      free-told next ps before after place u found T w rest
      (ap (λ z. z || not (is_nothing (type_of u))) p)
  gives-told next ps before after place u found T w rest false false p q =
      free-told next ps before after place u found T w rest
      (ap (λ z. z || not (is_nothing (type_of u))) p ∙ ap not q)

  breaks-told : (next : Next) (ps before after : List Part) (place at : Place) (r : Rule)
      (found : Option Fault) → AreTyped k ps
      → rule.Rewritten k (Calls k) ps before place (rule.breaks r at) after
      → ((mid : Option Fault)
      → RunTold (rule.rewritten before place (rule.breaks r at) after) mid
      (next mid (rule.rewritten before place (rule.breaks r at) after)))
      → RunTold ps found (further next (replaced before place after (to (rule.breaks r at)) found))
  unfolding breaks
  breaks-told next ps before after place at r found T w rest =
      after-broken ps before after place (rule.breaks r at) found (with_fault (fault r at) found)
      (fault r at) _ T w refl (one_more (fault r at) found)
      (unknown-at before after (rule.made place a_meaning.Unknown) refl)
      (rest (with_fault (fault r at) found))

  done-told : (next : Next) (ps before after : List Part) (place : Place) (m : rule.Made)
      (found : Option Fault) → AreTyped k ps → rule.Rewritten k (Calls k) ps before place m after
      → ((mid : Option Fault)
      → RunTold (rule.rewritten before place m after) mid
      (next mid (rule.rewritten before place m after)))
      → RunTold ps found (further next (replaced before place after (to m) found))
  done-told next ps before after place (rule.gives u) found T w rest =
      gives-told next ps before after place u found T w rest (rule.is_whole before after)
      (is_nothing (type_of u)) refl refl
  done-told next ps before after place (rule.breaks r at) found T w rest =
      breaks-told next ps before after place at r found T w rest

  more-told : (next : Next) (ps : List Part) (found : Option Fault) → IsRun ps → Step k A ps
      → ((before after : List Part) (place : Place) (m : rule.Made)
      → rule.Rewritten k (Calls k) ps before place m after → (mid : Option Fault)
      → RunTold (rule.rewritten before place m after) mid
      (next mid (rule.rewritten before place m after)))
      → RunTold ps found (further next (rewritten k.facts ps found))
  more-told next ps found R (step_refused r at h) rest =
      run_broken (fault r at) (breaks r at found) (rule.no_rewriting r at h refl)
      (refused-first ps r at h found) (ap (further next) (rewritten-refused ps r at h found))
  more-told next ps found R (step_done before after place m w) rest =
      subst (λ (x : Further). RunTold ps found (further next x))
      (sym (step-is k A ps before after place m found R.2 w))
      (done-told next ps before after place m found R.2 w (rest before after place m w))
  more-told next ps found R (step_stops u t h e) rest =
      run_unknown found u (no_more found (RunBreaks ps) (none-broken ps t R.2 h e))
      (ap (further next) (e found))

  told-within : (n : ℕ) (ps : List Part) (found : Option Fault) → length ps ≤ n → IsRun ps
      → RunTold ps found (run_within k.facts n found ps)
  told-within n [] found l R = absurd R.0
  told-within zero (p ∷ ps) found l R = absurd (omega arith)
  told-within (suc n) (p ∷ []) found l R =
      alone p found _ (plain p (all_first Fit p [] R.1) R.0.0 R.0.1) refl
  told-within (suc n) (p ∷ q ∷ ps) found l R =
      more-told (run_within k.facts n) (p ∷ q ∷ ps) found R (step-told k A p q ps R.0 R.1 R.2)
      (λ before after place m w mid. told-within n (rule.rewritten before place m after) mid
      (shorter (p ∷ q ∷ ps) before after place m w n l)
      (good-after (p ∷ q ∷ ps) before after place m w R))

  -- What a run answers.
  pub run-told : (ps : List Part) (found : Option Fault) → IsRun ps
      → RunTold ps found (run k.facts ps found)
  unfolding run
  run-told ps found R = told-within (length ps) ps found (omega arith) R
