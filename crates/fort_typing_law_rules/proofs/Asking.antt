-- A part of a form, asked: it has a type as wanted, or breaks a rule; and the first broken rule is
-- found.
use Rattle.std.proofs.Common.{◌≡◌, ◌⊎◌, inl, inr, ℕ, Bool, true, false, not, cond, ◌||◌, List, [], ◌∷◌, map, Option, Some, None, refl, arith, ap, ◌∙◌, sym, subst}
use Rattle.std.proofs.lemmas.Bool.{eqb-true}
use Rattle.fort_base.specs.declared.ids.NameId.{NameId}
use Rattle.fort_base.specs.declared.ids.TypeId.{TypeId}
use Rattle.fort_base.specs.declared.refusal.Place.{Place}
use Rattle.fort_base.specs.declared.refusal.Rule.{Rule}
use Rattle.fort_base.specs.declared.rules.TheConstants.{MISMATCH, FUNCTION_AS_VALUE}
use Rattle.fort_base.specs.declared.ty.Ty.{Ty, out-Ty}
use Rattle.fort_base.specs.declared.ty.Ty.TheVariants as a_type
use Rattle.fort_base.specs.declared.ty.Ty.TheOpen.{Ty-F}
use Rattle.fort_types.proofs.ByParts.{same_layers}
use Rattle.fort_scope.specs.declared.binding.Binding.{Binding}
use Rattle.fort_form.specs.declared.form.Form.{Form, out-Form}
use Rattle.fort_form.specs.declared.form.Form.TheOpen.{Form-F}
use Rattle.fort_form.specs.declared.form.Item.{Item}
use Rattle.fort_form.specs.declared.form.Branch.{Branch}
use Rattle.fort_form.specs.declared.form.Generator.{Generator}
use Rattle.fort_form.specs.declared.form.TypeBranch.{TypeBranch}
use Rattle.fort_form_typed.specs.declared.typed_form.TypedForm.{TypedForm}
use Rattle.fort_typing_known.specs.declared.fault.Fault.{Fault}
use Rattle.fort_typing_known.specs.Known.{Knows}
use Rattle.fort_typing_known.specs.Below.{is_below}
use Rattle.fort_typing_known.specs.Names.{functions}
use Rattle.fort_typing_rules.specs.declared.part.Meaning.{Meaning}
use Rattle.fort_typing_rules.specs.declared.part.Meaning.TheVariants as a_meaning
use Rattle.fort_typing_rules.specs.Calls.{Calls}
use Rattle.fort_typing_rules.specs.Types.{exception, zz32, zz64, unit, is_nothing, type_of, place_of, fault}
use Rattle.fort_typing_rules.specs.Typing as rule
use Rattle.fort_typing_rules.specs.Breaking as breaking
use Rattle.fort_typing_meaning.specs.declared.frame.Want.{Want}
use Rattle.fort_typing_meaning.specs.declared.frame.Slot.{Slot}
use Rattle.fort_typing_meaning.specs.declared.frame.Slot.TheVariants as a_slot
use Rattle.fort_typing_meaning.specs.declared.frame.Frame.{Frame}
use Rattle.fort_typing_meaning.specs.declared.frame.Outcome.{Outcome}
use Rattle.fort_typing_meaning.specs.declared.frame.Valued.{Valued}
use Rattle.fort_typing_meaning.specs.Faults.{with_fault, breaks}
use Rattle.fort_typing_meaning.specs.Tests.{is_number_at, is_declared, suits, rule_of, no_node, valued, as_wanted, taken}
use Rattle.fort_typing_meaning.specs.Parts.{Judge, State, opened, is_broken, kept, kept_if, said, ask, ask_below, asks, take_part, take_below, below_by, as_wanted_below}
use Rattle.fort_typing_meaning.specs.Judging.{judged}
use Rattle.fort_typing_law_rules.specs.Deciding.{IsType, IsAccepted, Decides}
use Rattle.fort_typing_law_rules.specs.Written.{IsWritten, AreBound}
use Rattle.fort_typing_law_rules.specs.Exact.{IsFirst, PostfixBreaks, FormBreaks, IsSeen, a_type, a_name, a_postfix, a_fault, IsExactExpression, AreExact}
use Rattle.fort_typing_law_rules.proofs.Types.{out_named, built_in_type, unit_type}
use Rattle.fort_typing_law_rules.proofs.Deciding.{is_decided}
use Rattle.fort_typing_law_rules.proofs.Written.{AllWritten}
use Rattle.fort_typing_law_rules.proofs.Typed.{typed-of}
use Rattle.fort_typing_law_rules.proofs.Answered.{Same, value_, operand_, unit_, small_, truth_, number_, exception_, WantTyped, st, kepts, at, judged-out, flags, closes-name, has_is_answered, one_typed_form}
use Rattle.fort_typing_law_rules.proofs.Answered as answered
use Rattle.fort_typing_law_rules.proofs.Firsts.{no_more, alike, one_more, both}

-- a test of the type of what has a value
abbrev pub tested : (Ty → Bool) → Rule → Place → Option TypedForm → Option Fault → Valued
tested test r place None found = no_node found
tested test r place (Some t) found =
    cond (test (type_of t)) (record { node = Some t; found = found })
    (no_node (breaks r place found))

not_true : (c : Bool) → not c ≡ true → c ≡ false
not_true true h = absurd cc
not_true false h = refl

either : (c d : Bool) → c || d ≡ true → (c ≡ true) ⊎ (d ≡ true)
either true d h = inl refl
either false d h = inr h

declared-at : (t : Ty) (x : Ty-F Ty) (n : ℕ) → out-Ty t ≡ x → is_number_at x n ≡ true
    → t ≡ a_type.Named (record { 0 = n })
declared-at t (Ty-F.Named i) n e h =
    let q : i.0 ≡ n = eqb-true i.0 n h in
    same_layers t (a_type.Named (record { 0 = n })) (e ∙ ap (λ
    (m : ℕ). let j : TypeId = record { 0 = m } in Ty-F.Named j) q
    ∙ sym (out_named (record { 0 = n })))
declared-at t Ty-F.Nothing n e h = absurd cc
declared-at t Ty-F.Any n e h = absurd cc
declared-at t (Ty-F.Tuple ts) n e h = absurd cc
declared-at t (Ty-F.Arrow a b) n e h = absurd cc
declared-at t (Ty-F.Array a) n e h = absurd cc

pub same-rule : (want : rule.Want) (w : Want) → Same want w → rule_of w ≡ breaking.rule_of want
same-rule _ _ value_ = refl
same-rule _ _ operand_ = refl
same-rule _ _ unit_ = refl
same-rule _ _ small_ = refl
same-rule _ _ truth_ = refl
same-rule _ _ number_ = refl
same-rule _ _ exception_ = refl

pub no-postfix : (k : Knows) (bs : List Binding) (x : Form-F Form Item Branch Generator TypeBranch)
    (f : Fault) → rule.postfix_at x ≡ false → PostfixBreaks k bs x f → ⊥
no-postfix k bs (Form-F.Subscript p i) f e b = absurd cc
no-postfix k bs (Form-F.Power p d) f e b = absurd cc
no-postfix k bs (Form-F.Method p at name es) f e b = absurd cc
no-postfix k bs _ f e b = b

module _ (k : Knows) (A : IsAccepted k) where
  D : Decides k
  D = is_decided k A

  pub place-is : (d : Form) → (judged k.facts d).place ≡ place_of d
  unfolding place_of
  place-is d = ap (λ (j : Judge). j.place) (judged-out k A d) ∙ (flags k A (out-Form d)).0

  number-suits : (t : Ty) → (is_declared t 2 ≡ true) ⊎ (is_declared t 3 ≡ true)
      → (t ≡ zz32) ⊎ (t ≡ zz64)
  number-suits t (inl h) = inl (declared-at t (out-Ty t) 2 refl h)
  number-suits t (inr h) = inr (declared-at t (out-Ty t) 3 refl h)

  -- what is computed to be as wanted is as wanted
  pub suits-told : (want : rule.Want) (w : Want) → Same want w → (t : Ty) → IsType k t
      → suits k.facts w t ≡ true → rule.Suits k want t
  unfolding suits
  suits-told _ _ value_ t T h = tt
  suits-told _ _ operand_ t T h = not_true (is_nothing t) h
  suits-told _ _ unit_ t T h = D.told t unit T (unit_type k A) h
  suits-told _ _ small_ t T h = D.told t zz32 T (built_in_type k A 2 (omega arith)) h
  suits-told _ _ truth_ t T h = declared-at t (out-Ty t) 5 refl h
  suits-told _ _ number_ t T h = number-suits t (either (is_declared t 2) (is_declared t 3) h)
  suits-told _ _ exception_ t T h = D.told t exception T (built_in_type k A 1 (omega arith)) h

  pub suits-is : (want : rule.Want) (w : Want) → Same want w → (t : Ty) → IsType k t
      → rule.Suits k want t → suits k.facts w t ≡ true
  suits-is want w m t T h = answered.suits-is k A want w t m h T

  names-is : (e : Form) (name : NameId) (bs : List Binding) (found : Option Fault)
      → rule.Names k bs e name
      → (judged k.facts e).answer bs found
      ≡ record { seen = a_meaning.Functions name; found = found }
  names-is e name bs found (rule.names p is s) =
      at k A e bs found (st opened bs found) is refl (closes-name k A p name bs found functions s)

  -- ---- one part

  module _ (bs : List Binding) (B : AreBound k bs) (d : Form) (W : IsWritten k d)
      (X : IsExactExpression k d) where
    abbrev Has : TypedForm → Type 0
    Has t = rule.Has k (Calls k) bs d t

    pub breaks-of : (f : Fault) → FormBreaks k bs d f → breaking.Breaks k bs d f
    breaks-of f (inl b) = b
    breaks-of f (inr p) = absurd (no-postfix k bs (out-Form d) f X.0 p)

    pub one-type : (t u : TypedForm) → Has t → Has u → t ≡ u
    one-type t u h i = one_typed_form k A bs B d W t u h i

    pub never : (t : TypedForm) → Has t → (f : Fault) → breaking.Breaks k bs d f → ⊥
    never t h f b =
        ((X.1 bs B None).first.none (ap (λ
        (o : Outcome). o.found) (has_is_answered k A bs B d W t h None))).1 f (inl b)

    pub never-named : (name : NameId) → rule.Names k bs d name → (f : Fault)
        → breaking.Breaks k bs d f → ⊥
    never-named name n f b =
        ((X.1 bs B None).first.none (ap (λ (o : Outcome). o.found) (names-is d name bs None n))).1 f
        (inl b)

    pub apart : (t : TypedForm) (name : NameId) → Has t → rule.Names k bs d name → ⊥
    apart t name h n =
        let e : a_meaning.Value t ≡ a_meaning.Functions name =
        ap (λ (o : Outcome). o.seen) (sym (has_is_answered k A bs B d W t h None)
        ∙ names-is d name bs None n) in absurd cc

    -- what has a type as wanted breaks nothing
    pub as-never : (want : rule.Want) (t : TypedForm) → rule.HasAs k (Calls k) bs want d t
        → (f : Fault) → breaking.BreaksAs k bs want d f → ⊥
    as-never want t (rule.suits h s) f (breaking.inside b) = never t h f b
    as-never want t (rule.suits h s) f (breaking.named name n w) = apart t name h n
    as-never want t (rule.suits h s) f (breaking.unlike u g n w) =
        n (subst (λ (z : TypedForm). rule.Suits k want (type_of z)) (one-type t u h g) s)

    pub one-as : (want : rule.Want) (t u : TypedForm) → rule.HasAs k (Calls k) bs want d t
        → rule.HasAs k (Calls k) bs want d u → t ≡ u
    one-as want t u (rule.suits h s) (rule.suits g r) = one-type t u h g

    -- ---- what is taken of it

    pub data ValuedAs (want : rule.Want) (found : Option Fault) (v : Valued) : Type 0 where
      got : (t : TypedForm) → v.node ≡ Some t → rule.HasAs k (Calls k) bs want d t
          → IsFirst found (breaking.BreaksAs k bs want d) v.found → ValuedAs want found v
      missed : (x : Fault) → v.node ≡ None → breaking.BreaksAs k bs want d x
          → IsFirst found (breaking.BreaksAs k bs want d) v.found → ValuedAs want found v

    module _ (want : rule.Want) (r : Rule) (re : r ≡ breaking.rule_of want) (test : Ty → Bool)
        (yes : (t : Ty) → IsType k t → test t ≡ true → rule.Suits k want t)
        (no : (t : Ty) → IsType k t → rule.Suits k want t → test t ≡ true)
        (found : Option Fault) where
      abbrev here : Place
      here = (judged k.facts d).place

      abbrev own : Rule → Fault
      own q = record { rule = q; place = here }

      own-is : (q : Rule) → own q ≡ fault q (place_of d)
      own-is q = ap (λ (p : Place). fault q p) (place-is d)

      own-rule : own r ≡ fault (breaking.rule_of want) (place_of d)
      own-rule = own-is r ∙ ap (λ (q : Rule). fault q (place_of d)) re

      abbrev As : Fault → Type 0
      As f = breaking.BreaksAs k bs want d f

      tested-by : (t : TypedForm) (mid : Option Fault) → Has t
          → IsFirst found (FormBreaks k bs d) mid → (c : Bool) → test (type_of t) ≡ c
          → ValuedAs want found
          (cond c (record { node = Some t; found = mid }) (no_node (breaks r here mid)))
      unfolding breaks
      tested-by t mid h i true e =
          let s = rule.suits h (yes (type_of t) (typed-of k A h B W).0 e) in
          got t refl s
          (alike found (FormBreaks k bs d) As mid (λ f b. breaking.inside (breaks-of f b))
          (λ f b. absurd (as-never want t s f b)) i)
      tested-by t mid h i false e = missed (own r) refl (breaking.unlike t h unsuited own-rule)
          (alike found (λ f. FormBreaks k bs d f
          ⊎ (f ≡ own r)) As (with_fault (own r) mid) to from
          (both found mid (with_fault (own r) mid) (FormBreaks k bs d) (λ f. f
          ≡ own r) i (one_more (own r) mid)))
        where
          unsuited : rule.Suits k want (type_of t) → ⊥
          unsuited s =
              let g : true ≡ false = sym (no (type_of t) (typed-of k A h B W).0 s) ∙ e in absurd cc

          to : (f : Fault) → FormBreaks k bs d f ⊎ (f ≡ own r) → As f
          to f (inl b) = breaking.inside (breaks-of f b)
          to f (inr q) = breaking.unlike t h unsuited (q ∙ own-rule)

          from : (f : Fault) → As f → FormBreaks k bs d f ⊎ (f ≡ own r)
          from f (breaking.inside b) = inl (inl b)
          from f (breaking.named name n w) = absurd (apart t name h n)
          from f (breaking.unlike u g n w) = inr (w ∙ sym own-rule)

      taken-by : (m : Meaning) (mid : Option Fault) → IsSeen k bs d m
          → IsFirst found (FormBreaks k bs d) mid
          → ValuedAs want found
          (tested test r here (valued here m mid).node (valued here m mid).found)
      unfolding breaks valued
      taken-by m mid (a_type t e h) i =
          subst (λ (n : Meaning). ValuedAs want found
          (tested test r here (valued here n mid).node (valued here n mid).found)) (sym e)
          (tested-by t mid h i (test (type_of t)) refl)
      taken-by m mid (a_name name e n) i =
          subst (λ (n : Meaning). ValuedAs want found
          (tested test r here (valued here n mid).node (valued here n mid).found)) (sym e)
          (missed (own FUNCTION_AS_VALUE) refl (breaking.named name n (own-is FUNCTION_AS_VALUE))
          (alike found (λ f. FormBreaks k bs d f
          ⊎ (f ≡ own FUNCTION_AS_VALUE)) As (with_fault (own FUNCTION_AS_VALUE) mid) to from
          (both found mid (with_fault (own FUNCTION_AS_VALUE) mid) (FormBreaks k bs d) (λ f. f
          ≡ own FUNCTION_AS_VALUE) i (one_more (own FUNCTION_AS_VALUE) mid))))
        where
          to : (f : Fault) → FormBreaks k bs d f ⊎ (f ≡ own FUNCTION_AS_VALUE) → As f
          to f (inl b) = breaking.inside (breaks-of f b)
          to f (inr q) = breaking.named name n (q ∙ own-is FUNCTION_AS_VALUE)

          from : (f : Fault) → As f → FormBreaks k bs d f ⊎ (f ≡ own FUNCTION_AS_VALUE)
          from f (breaking.inside b) = inl (inl b)
          from f (breaking.named name n w) = inr (w ∙ sym (own-is FUNCTION_AS_VALUE))
          from f (breaking.unlike u g s w) = absurd (apart u name g n)
      taken-by m mid (a_postfix p n) i = absurd (let e : true ≡ false = sym p ∙ X.0 in cc)
      taken-by m mid (a_fault x e b) i =
          subst (λ (n : Meaning). ValuedAs want found
          (tested test r here (valued here n mid).node (valued here n mid).found)) (sym e)
          (missed x refl (breaking.inside (breaks-of x b))
          (alike found (FormBreaks k bs d) As mid (λ f c. breaking.inside (breaks-of f c))
          from i))
        where
          from : (f : Fault) → As f → FormBreaks k bs d f
          from f (breaking.inside c) = inl c
          from f (breaking.named name n w) = absurd (never-named name n x (breaks-of x b))
          from f (breaking.unlike u g s w) = absurd (never u g x (breaks-of x b))

      abbrev outcome : Outcome
      outcome = (judged k.facts d).answer bs found

      pub taken-exact : ValuedAs want found
          (tested test r here (valued here outcome.seen outcome.found).node
          (valued here outcome.seen outcome.found).found)
      taken-exact = let x = X.1 bs B found in taken-by outcome.seen outcome.found x.seen x.first

    -- ---- a part in its place

    pub data Asked (want : rule.Want) (slot : Slot) (wf : Frame) (found : Option Fault)
        (s : State) : Type 0 where
      kept_there : (t : TypedForm) (new : Option Fault) → rule.HasAs k (Calls k) bs want d t
          → IsFirst found (breaking.BreaksAs k bs want d) new → s ≡ st (kept slot t wf) bs new
          → Asked want slot wf found s
      lacking : (f : Fault) (new : Option Fault) → breaking.BreaksAs k bs want d f
          → IsFirst found (breaking.BreaksAs k bs want d) new → s ≡ st (is_broken wf) bs new
          → Asked want slot wf found s

    asked-by : (want : rule.Want) (slot : Slot) (wf : Frame) (found : Option Fault) (v : Valued)
        → ValuedAs want found v → Asked want slot wf found (st (kept_if slot v.node wf) bs v.found)
    asked-by want slot wf found v (got t e h i) =
        kept_there t v.found h i (ap (λ
        (o : Option TypedForm). st (kept_if slot o wf) bs v.found) e)
    asked-by want slot wf found v (missed x e b i) =
        lacking x v.found b i (ap (λ (o : Option TypedForm). st (kept_if slot o wf) bs v.found) e)

    as-tested : (w : Want) (place : Place) (o : Option TypedForm) (found : Option Fault)
        → as_wanted k.facts w place o found ≡ tested (suits k.facts w) (rule_of w) place o found
    as-tested w place None found = refl
    as-tested w place (Some t) found = refl

    below-tested : (ty : Ty) (place : Place) (o : Option TypedForm) (found : Option Fault)
        → below_by k.facts ty place o found ≡ tested (λ
        (t : Ty). is_below k.facts t ty) MISMATCH place o found
    below-tested ty place None found = refl
    below-tested ty place (Some t) found = refl

    pub taken-is : (want : rule.Want) (w : Want) (found : Option Fault) → Same want w
        → ValuedAs want found
        (taken k.facts w (judged k.facts d).place ((judged k.facts d).answer bs found).seen
        ((judged k.facts d).answer bs found).found)
    unfolding taken
    taken-is want w found m =
        let o = (judged k.facts d).answer bs found in
        let p = (judged k.facts d).place in
        subst (ValuedAs want found)
        (sym (as-tested w p (valued p o.seen o.found).node (valued p o.seen o.found).found))
        (taken-exact want (rule_of w) (same-rule want w m) (suits k.facts w) (suits-told want w m)
        (suits-is want w m) found)

    pub below-is : (ty : Ty) (found : Option Fault) → IsType k ty
        → ValuedAs (rule.below ty) found
        (below_by k.facts ty (judged k.facts d).place
        (valued (judged k.facts d).place ((judged k.facts d).answer bs found).seen
        ((judged k.facts d).answer bs found).found).node
        (valued (judged k.facts d).place ((judged k.facts d).answer bs found).seen
        ((judged k.facts d).answer bs found).found).found)
    below-is ty found T =
        let o = (judged k.facts d).answer bs found in
        let p = (judged k.facts d).place in
        subst (ValuedAs (rule.below ty) found)
        (sym (below-tested ty p (valued p o.seen o.found).node (valued p o.seen o.found).found))
        (taken-exact (rule.below ty) MISMATCH refl (λ
        (t : Ty). is_below k.facts t ty) (λ t U h. D.told t ty U T h)
        (λ t U h. D.below t ty U T h) found)

    pub ask-exact : (want : rule.Want) (w : Want) (slot : Slot) (wf : Frame) (found : Option Fault)
        → Same want w
        → Asked want slot wf found (ask k.facts slot w (judged k.facts d) (st wf bs found))
    unfolding ask take_part said
    ask-exact want w slot wf found m =
        let o = (judged k.facts d).answer bs found in
        asked-by want slot wf found (taken k.facts w (judged k.facts d).place o.seen o.found)
        (taken-is want w found m)

    pub ask-below-exact : (ty : Ty) (wf : Frame) (found : Option Fault) → IsType k ty
        → Asked (rule.below ty) a_slot.Last wf found
        (ask_below k.facts ty (judged k.facts d) (st wf bs found))
    unfolding ask_below take_below as_wanted_below said
    ask-below-exact ty wf found T =
        let o = (judged k.facts d).answer bs found in
        let p = (judged k.facts d).place in
        asked-by (rule.below ty) a_slot.Last wf found
        (below_by k.facts ty p (valued p o.seen o.found).node (valued p o.seen o.found).found)
        (below-is ty found T)

  -- ---- parts one after another

  kept-broken : (slot : Slot) (t : TypedForm) (wf : Frame) → (kept slot t wf).broken ≡ wf.broken
  kept-broken a_slot.Head t wf = refl
  kept-broken a_slot.First t wf = refl
  kept-broken a_slot.Second t wf = refl
  kept-broken a_slot.Last t wf = refl

  pub kepts-broken : (slot : Slot) (ts : List TypedForm) (wf : Frame)
      → (kepts slot ts wf).broken ≡ wf.broken
  kepts-broken slot [] wf = refl
  kepts-broken slot (t ∷ ts) wf = kepts-broken slot ts (kept slot t wf) ∙ kept-broken slot t wf

  pub data AskedAll (bs : List Binding) (want : rule.Want) (slot : Slot) (ds : List Form)
      (wf : Frame) (found : Option Fault) (s : State) : Type 0 where
    kept_all : (ts : List TypedForm) (new : Option Fault) → rule.HasEach k (Calls k) bs want ds ts
        → IsFirst found (breaking.BreaksSome k bs want ds) new → s ≡ st (kepts slot ts wf) bs new
        → AskedAll bs want slot ds wf found s
    some_lacking : (f : Fault) (new : Option Fault) (w : Frame) → breaking.BreaksSome k bs want ds f
        → IsFirst found (breaking.BreaksSome k bs want ds) new → s ≡ st w bs new → w.broken ≡ true
        → AskedAll bs want slot ds wf found s

  pub none-breaks : (bs : List Binding) (want : rule.Want) (f : Fault)
      → breaking.BreaksSome k bs want [] f → ⊥
  none-breaks bs want f (breaking.some_part d ds e b) = absurd cc
  none-breaks bs want f (breaking.some_later_part d ds e b) = absurd cc

  pub some-of : (bs : List Binding) (want : rule.Want) (d : Form) (ds : List Form) (f : Fault)
      → breaking.BreaksSome k bs want (d ∷ ds) f
      → breaking.BreaksAs k bs want d f ⊎ breaking.BreaksSome k bs want ds f
  some-of bs want d ds f (breaking.some_part d' ds' e b) =
      inl (subst (λ (x : Form). breaking.BreaksAs k bs want x f) (let q : d' ≡ d = cc in q) b)
  some-of bs want d ds f (breaking.some_later_part d' ds' e b) =
      inr (subst (λ (x : List Form). breaking.BreaksSome k bs want x f)
      (let q : ds' ≡ ds = cc in q) b)

  some-made : (bs : List Binding) (want : rule.Want) (d : Form) (ds : List Form) (f : Fault)
      → breaking.BreaksAs k bs want d f ⊎ breaking.BreaksSome k bs want ds f
      → breaking.BreaksSome k bs want (d ∷ ds) f
  some-made bs want d ds f (inl b) = breaking.some_part d ds refl b
  some-made bs want d ds f (inr b) = breaking.some_later_part d ds refl b

  module _ (bs : List Binding) (B : AreBound k bs) (want : rule.Want) (w : Want) (slot : Slot)
      (m : Same want w) where
    more-first : (d : Form) (ds : List Form) (found mid new : Option Fault)
        → IsFirst found (breaking.BreaksAs k bs want d) mid
        → IsFirst mid (breaking.BreaksSome k bs want ds) new
        → IsFirst found (breaking.BreaksSome k bs want (d ∷ ds)) new
    more-first d ds found mid new i j =
        alike found (λ f. breaking.BreaksAs k bs want d f
        ⊎ breaking.BreaksSome k bs want ds f) (breaking.BreaksSome k bs want (d ∷ ds)) new
        (λ f b. some-made bs want d ds f b) (λ f b. some-of bs want d ds f b)
        (both found mid new (breaking.BreaksAs k bs want d) (breaking.BreaksSome k bs want ds) i
        j)

    abbrev Goal : List Form → Frame → Option Fault → State → Type 0
    Goal ds wf found s = AskedAll bs want slot ds wf found s

    after-kept : (d : Form) (ds : List Form) (wf : Frame) (found mid : Option Fault) (t : TypedForm)
        (s : State) → rule.HasAs k (Calls k) bs want d t
        → IsFirst found (breaking.BreaksAs k bs want d) mid
        → AskedAll bs want slot ds (kept slot t wf) mid s
        → AskedAll bs want slot (d ∷ ds) wf found s
    after-kept d ds wf found mid t s h i (kept_all ts new hs j e) =
        kept_all (t ∷ ts) new (rule.part_ d ds t ts refl refl h hs)
        (more-first d ds found mid new i j) e
    after-kept d ds wf found mid t s h i (some_lacking f new x b j e br) =
        some_lacking f new x (breaking.some_later_part d ds refl b)
        (more-first d ds found mid new i j) e br

    after-lacking : (d : Form) (ds : List Form) (wf : Frame) (found mid : Option Fault) (f : Fault)
        (s : State) → breaking.BreaksAs k bs want d f
        → IsFirst found (breaking.BreaksAs k bs want d) mid
        → AskedAll bs want slot ds (is_broken wf) mid s → AskedAll bs want slot (d ∷ ds) wf found s
    after-lacking d ds wf found mid f s b i (kept_all ts new hs j e) =
        some_lacking f new (kepts slot ts (is_broken wf)) (breaking.some_part d ds refl b)
        (more-first d ds found mid new i j) e (kepts-broken slot ts (is_broken wf))
    after-lacking d ds wf found mid f s b i (some_lacking g new x c j e br) =
        some_lacking f new x (breaking.some_part d ds refl b) (more-first d ds found mid new i j) e
        br

    pub asks-exact : (ds : List Form) (wf : Frame) (found : Option Fault) → AllWritten k ds
        → AreExact k ds
        → AskedAll bs want slot ds wf found
        (asks k.facts slot w (map (judged k.facts) ds) (st wf bs found))
    unfolding asks
    asks-exact [] wf found W X =
        kept_all [] found (rule.no_part refl refl)
        (no_more found (breaking.BreaksSome k bs want []) (none-breaks bs want)) refl
    asks-exact (d ∷ ds) wf found W X =
        next (λ x mid. asks-exact ds x mid W.1 X.1)
        (ask-exact bs B d W.0 X.0 want w slot wf found m)
      where
        next : ((x : Frame) (mid : Option Fault)
            → AskedAll bs want slot ds x mid
            (asks k.facts slot w (map (judged k.facts) ds) (st x bs mid)))
            → Asked bs B d W.0 X.0 want slot wf found
            (ask k.facts slot w (judged k.facts d) (st wf bs found))
            → AskedAll bs want slot (d ∷ ds) wf found
            (asks k.facts slot w (map (judged k.facts) ds)
            (ask k.facts slot w (judged k.facts d) (st wf bs found)))
        next rest (kept_there t mid h i e) =
            subst (λ (s : State). AskedAll bs want slot (d ∷ ds) wf found
            (asks k.facts slot w (map (judged k.facts) ds) s)) (sym e)
            (after-kept d ds wf found mid t _ h i (rest (kept slot t wf) mid))
        next rest (lacking f mid b i e) =
            subst (λ (s : State). AskedAll bs want slot (d ∷ ds) wf found
            (asks k.facts slot w (map (judged k.facts) ds) s)) (sym e)
            (after-lacking d ds wf found mid f _ b i (rest (is_broken wf) mid))

    -- parts that have types as wanted break nothing
    pub each-never : (ds : List Form) (ts : List TypedForm) → AllWritten k ds → AreExact k ds
        → rule.HasEach k (Calls k) bs want ds ts → (f : Fault) → breaking.BreaksSome k bs want ds f
        → ⊥
    each-never [] ts W X h f b = none-breaks bs want f b
    each-never (d ∷ ds) ts W X (rule.no_part e1 e2) f b = absurd cc
    each-never (d ∷ ds) ts W X (rule.part_ d' ds' u us e1 e2 h rest) f b =
        let one : rule.HasAs k (Calls k) bs want d u =
        subst (λ (x : Form). rule.HasAs k (Calls k) bs want x u) (let q : d' ≡ d = cc in q) h in
        let others : rule.HasEach k (Calls k) bs want ds us =
        subst (λ (x : List Form). rule.HasEach k (Calls k) bs want x us)
        (let q : ds' ≡ ds = cc in q) rest in
        elim (some-of bs want d ds f b) [
          | inl c ↦ as-never bs B d W.0 X.0 want u one f c
          | inr c ↦ each-never ds us W.1 X.1 others f c
        ]

    -- and they have one typed form each
    pub one-each : (ds : List Form) (ts us : List TypedForm) → AllWritten k ds → AreExact k ds
        → rule.HasEach k (Calls k) bs want ds ts → rule.HasEach k (Calls k) bs want ds us → ts ≡ us
    one-each ds ts us W X (rule.no_part e1 e2) (rule.no_part e3 e4) = e2 ∙ sym e4
    one-each ds ts us W X (rule.no_part e1 e2) (rule.part_ d ds' u vs e3 e4 h rest) = absurd
        (let q : [] ≡ d ∷ ds' = sym e1 ∙ e3 in cc)
    one-each ds ts us W X (rule.part_ d ds' u vs e3 e4 h rest) (rule.no_part e1 e2) = absurd
        (let q : [] ≡ d ∷ ds' = sym e1 ∙ e3 in cc)
    one-each ds ts us W X (rule.part_ d ds' u vs e1 e2 h rest) (rule.part_ c cs x xs e3 e4 g more) =
        let same : d ∷ ds' ≡ c ∷ cs = sym e1 ∙ e3 in
        let W' = subst (AllWritten k) e1 W in
        let X' = subst (AreExact k) e1 X in
        let g' : rule.HasAs k (Calls k) bs want d x =
        subst (λ (y : Form). rule.HasAs k (Calls k) bs want y x) (let q : c ≡ d = cc in q) g in
        let more' : rule.HasEach k (Calls k) bs want ds' xs =
        subst (λ (y : List Form). rule.HasEach k (Calls k) bs want y xs)
        (let q : cs ≡ ds' = cc in q) more in
        e2 ∙ ap (λ (y : TypedForm). y ∷ vs) (one-as bs B d W'.0 X'.0 want u x h g') ∙ ap (λ
        (ys : List TypedForm). x ∷ ys) (one-each ds' vs xs W'.1 X'.1 rest more') ∙ sym e4
