-- The next rewriting of a run of two elements or more: it is refused, or done, or an element in it
-- has no type.
use Rattle.std.proofs.Common.{◌≡◌, ◌⊎◌, inl, inr, ℕ, suc, Bool, true, false, not, ◌&&◌, List, [], ◌∷◌, ◌++◌, length, Option, Some, Result, Ok, Err, refl, arith, ap, ◌∙◌, sym, subst}
use Rattle.std.specs.List.{AllByRecursion}
use Rattle.fort_base.specs.declared.refusal.CheckFault.{CheckFault}
use Rattle.fort_base.specs.declared.refusal.CheckFault.TheVariants as a_fault
use Rattle.fort_base.specs.declared.refusal.Place.{Place}
use Rattle.fort_base.specs.declared.refusal.Rule.{Rule}
use Rattle.fort_base.specs.declared.rules.TheConstants.{FUNCTION_AS_VALUE, TIGHT_ARGUMENT}
use Rattle.fort_juxt.specs.declared.elements.Element.{Element}
use Rattle.fort_juxt.specs.declared.elements.Tight.{Tight}
use Rattle.fort_juxt.specs.declared.elements.Tight.TheVariants as a_rewriting
use Rattle.fort_juxt.specs.First.{IsFirst}
use Rattle.fort_juxt.specs.Tight.{postfix_first, Rewrites, applies, no_argument, applies_postfix, postfix_of_name, joins, first_is_name, second_is_name, whole}
use Rattle.fort_typing_known.specs.declared.fault.Fault.{Fault}
use Rattle.fort_typing_known.specs.Known.{Knows}
use Rattle.fort_typing_rules.specs.declared.part.Part.{Part}
use Rattle.fort_typing_rules.specs.declared.part.Meaning.TheVariants as a_meaning
use Rattle.fort_typing_rules.specs.Calls.{Calls}
use Rattle.fort_typing_rules.specs.Elements as rule
use Rattle.fort_typing_meaning.specs.declared.frame.Made.{Made}
use Rattle.fort_typing_meaning.specs.declared.frame.Made.TheVariants as a_made
use Rattle.fort_typing_meaning.specs.Juxtaposing.{next_rewriting}
use Rattle.fort_typing_meaning.specs.Joining.{applied, joined, followed, Around, around, more_before, stop, replaced, replaced_in, rewritten_by, rewritten}
use Rattle.fort_typing_law_rules.specs.Deciding.{IsAccepted}
use Rattle.fort_typing_law_rules.specs.Typed.{AreTyped}
use Rattle.fort_typing_law_rules.proofs.Types.{all_first, all_rest, all_right}
use Rattle.fort_typing_law_rules.proofs.Typed.{PartTyped}
use Rattle.fort_typing_law_rules.proofs.Running.{first-typed, second-typed}
use Rattle.fort_typing_law_rules.proofs.Juxtaposing.{rewriting_is_computed, one_longer, behind_one}
use Rattle.fort_typing_law_rules.proofs.Rewriting.{rewriting_told}
use Rattle.fort_typing_law_rules.proofs.Pairs.{Fit, does, stops, plain, argument, Applied, applied-told, Joined, joined-told, Followed, followed-told}

-- ---- lists of elements

abbrev pub AllFit : List Part → Type 0
AllFit ps = AllByRecursion Fit ps

-- Some element has no type.
abbrev pub HasUnknown : List Part → Type 0
HasUnknown [] = ⊥
HasUnknown (p ∷ ps) = (p.meaning ≡ a_meaning.Unknown) ⊎ HasUnknown ps

unknown-in : (before after : List Part) (x y : Part)
    → (x.meaning ≡ a_meaning.Unknown) ⊎ (y.meaning ≡ a_meaning.Unknown)
    → HasUnknown (before ++ x ∷ y ∷ after)
unknown-in [] after x y (inl e) = inl e
unknown-in [] after x y (inr e) = inr (inl e)
unknown-in (b ∷ before) after x y u = inr (unknown-in before after x y u)

fit-first : (ps before after : List Part) (x y : Part) → ps ≡ before ++ x ∷ y ∷ after → AllFit ps
    → Fit x
fit-first ps before after x y is F =
    all_first Fit x (y ∷ after) (all_right Fit before (x ∷ y ∷ after) (subst AllFit is F))

fit-second : (ps before after : List Part) (x y : Part) → ps ≡ before ++ x ∷ y ∷ after → AllFit ps
    → Fit y
fit-second ps before after x y is F =
    all_first Fit y after
    (all_rest Fit x (y ∷ after) (all_right Fit before (x ∷ y ∷ after) (subst AllFit is F)))

-- a list that is divided as seen by grouping
abbrev Split : List Part → List Element → Element → Element → Type 0
Split ps before f a = (bs : List Part) × (x : Part) × (y : Part) × (qs : List Part)
    × (ps ≡ bs ++ x ∷ y ∷ qs) × (rule.element x ≡ f) × (rule.element y ≡ a)
    × (length bs ≡ length before)

split-two : (ps : List Part) (before after : List Element) (f a : Element)
    → rule.elements ps ≡ before ++ f ∷ a ∷ after → Split ps before f a
split-two [] [] after f a e = absurd cc
split-two [] (b ∷ before) after f a e = absurd cc
split-two (x ∷ []) [] after f a e = absurd (let d : rule.element x ∷ [] ≡ f ∷ a ∷ after = e in cc)
split-two (x ∷ y ∷ qs) [] after f a e =
    let d : rule.element x ∷ rule.element y ∷ rule.elements qs ≡ f ∷ a ∷ after = e in
    let p : rule.element x ≡ f = cc in
    let q : rule.element y ≡ a = cc in
    ([], x, y, qs, refl, p, q, refl)
split-two (x ∷ ps) (b ∷ before) after f a e =
    let d : rule.element x ∷ rule.elements ps ≡ b ∷ (before ++ f ∷ a ∷ after) = e in
    let more : rule.elements ps ≡ before ++ f ∷ a ∷ after = cc in
    let r = split-two ps before after f a more in
    (x ∷ r.0, r.1, r.2, r.3, ap (λ zs. x ∷ zs) r.4, r.5, r.6, ap suc r.7)

and-left : (a b : Bool) → a && b ≡ true → a ≡ true
and-left true b e = refl
and-left false b e = e

and-right : (a b : Bool) → a && b ≡ true → b ≡ true
and-right true b e = e
and-right false b e = absurd (let z : false ≡ true = e in cc)

not-true : (b : Bool) → not b ≡ true → b ≡ false
not-true true e = absurd (let z : false ≡ true = e in cc)
not-true false e = refl

two-there : (before after : List Part) (x y : Part)
    → around (length before) (before ++ x ∷ y ∷ after)
    ≡ Some (record { before = before; one = x; other = y; after = after })
two-there [] after x y = refl
two-there (b ∷ before) after x y = ap (more_before b) (two-there before after x y)

-- nothing comes of two elements there
stop-way : (way : Part → Part → Made) (ps before after : List Part) (x y : Part)
    (found : Option Fault) → ps ≡ before ++ x ∷ y ∷ after → way x y ≡ a_made.Stops
    → replaced_in way (around (length before) ps) found ≡ stop found
stop-way way ps before after x y found is w =
    ap (λ (zs : List Part). replaced_in way (around (length before) zs) found) is
    ∙ ap (λ (o : Option Around). replaced_in way o found) (two-there before after x y)
    ∙ ap (λ (n : Made). replaced before x.place after n found) w

module _ (k : Knows) (A : IsAccepted k) where
  -- The next rewriting: refused, done, or not done since an element has no type.
  pub data Step (ps : List Part) : Type 0 where
    step_refused : (r : Rule) (at : Place)
        → Rewrites (rule.elements ps) (Err (a_fault.Refused r at)) → Step ps
    step_done : (before after : List Part) (place : Place) (m : rule.Made)
        → rule.Rewritten k (Calls k) ps before place m after → Step ps
    step_stops : HasUnknown ps → (t : Tight) → Rewrites (rule.elements ps) (Ok t)
        → ((found : Option Fault) → rewritten k.facts ps found ≡ stop found) → Step ps

  stopped : (ps : List Part) (t : Tight) → Rewrites (rule.elements ps) (Ok t)
      → (found : Option Fault) → rewritten_by k.facts ps (Ok t) found ≡ stop found
      → rewritten k.facts ps found ≡ stop found
  unfolding rewritten
  stopped ps t h found e =
      ap (λ r. rewritten_by k.facts ps r found) (rewriting_is_computed (rule.elements ps) (Ok t) h)
      ∙ e

  from-applied : (ps before after : List Part) (x y : Part) → ps ≡ before ++ x ∷ y ∷ after
      → Rewrites (rule.elements ps) (Ok (a_rewriting.Apply (length before))) → Applied k A x y
      → Step ps
  from-applied ps before after x y is h (does m w) =
      step_done before after x.place m (rule.applied x y h is refl w)
  from-applied ps before after x y is h (stops e u) =
      step_stops (subst HasUnknown (sym is) (unknown-in before after x y u))
      (a_rewriting.Apply (length before)) h
      (λ found. stopped ps (a_rewriting.Apply (length before)) h found
      (stop-way (applied k.facts) ps before after x y found is e))

  from-followed : (ps before after : List Part) (x y : Part) → ps ≡ before ++ x ∷ y ∷ after
      → Rewrites (rule.elements ps) (Ok (a_rewriting.Postfix (suc (length before))))
      → Followed k A x y → Step ps
  from-followed ps before after x y is h (does m w) =
      step_done before after x.place m (rule.followed x y h is refl w)
  from-followed ps before after x y is h (stops e u) =
      step_stops (subst HasUnknown (sym is) (unknown-in before after x y u))
      (a_rewriting.Postfix (suc (length before))) h
      (λ found. stopped ps (a_rewriting.Postfix (suc (length before))) h found
      (stop-way (followed k.facts) ps before after x y found is e))

  from-joined : (after : List Part) (x y : Part)
      → Rewrites (rule.elements (x ∷ y ∷ after)) (Ok a_rewriting.Left) → Joined k A x y
      → Step (x ∷ y ∷ after)
  from-joined after x y h (does m w) =
      step_done [] after x.place m (rule.joined x y h refl refl refl w)
  from-joined after x y h (stops e u) = step_stops (unknown-in [] after x y u) a_rewriting.Left h
      (λ found. stopped (x ∷ y ∷ after) a_rewriting.Left h found
      (stop-way (joined k.facts) (x ∷ y ∷ after) [] after x y found refl e))

  -- the element before the first postfix is none
  unfixed : (es before after : List Element) (z p : Element)
      → IsFirst postfix_first es (before ++ z ∷ []) (p ∷ after) → (c : Bool) → z.postfix ≡ c
      → c ≡ false
  unfixed es before after z p first false e = refl
  unfixed es before after z p first true e =
      absurd (let l =
      first.least before (z ∷ p ∷ after) (first.divided ∙ behind_one before (p ∷ after) z) e
      in let m = one_longer before z in omega arith)

  pub step-told : (x y : Part) (rest : List Part) → x.postfix ≡ false → AllFit (x ∷ y ∷ rest)
      → AreTyped k (x ∷ y ∷ rest) → Step (x ∷ y ∷ rest)
  step-told x y rest first_plain F T =
      by (next_rewriting (rule.elements (x ∷ y ∷ rest)))
      (rewriting_told (rule.element x) (rule.elements (y ∷ rest)) first_plain)
    where
      by : (r : Result Tight CheckFault) → Rewrites (rule.elements (x ∷ y ∷ rest)) r
          → Step (x ∷ y ∷ rest)
      by r (applies before after f a first arg is) =
          let s = split-two (x ∷ y ∷ rest) before after f a first.divided in
          from-applied (x ∷ y ∷ rest) s.0 s.3 s.1 s.2 s.4
          (applies before after f a first arg (ap (λ (n : ℕ). Ok (a_rewriting.Apply n)) s.7))
          (applied-told k A s.1 s.2 (ap (λ
          (e : Element). e.function) s.5 ∙ and-left f.function (not a.postfix) first.met)
          (argument s.2 (fit-second (x ∷ y ∷ rest) s.0 s.3 s.1 s.2 s.4 F) (ap (λ
          (e : Element). e.postfix) s.6
          ∙ not-true a.postfix (and-right f.function (not a.postfix) first.met))
          (ap (λ (e : Element). e.parens) s.6 ∙ and-left a.parens (not (postfix_first after)) arg))
          (first-typed k A (x ∷ y ∷ rest) s.0 s.3 s.1 s.2 s.4 T)
          (second-typed k A (x ∷ y ∷ rest) s.0 s.3 s.1 s.2 s.4 T))
      by r (no_argument before after f a first arg is) =
          step_refused TIGHT_ARGUMENT a.place (no_argument before after f a first arg refl)
      by r (applies_postfix never before after z p first named is) =
          let s = split-two (x ∷ y ∷ rest) before after z p (first.divided
          ∙ behind_one before (p ∷ after) z) in
          from-followed (x ∷ y ∷ rest) s.0 s.3 s.1 s.2 s.4
          (applies_postfix never before after z p first named (ap (λ
          (n : ℕ). Ok (a_rewriting.Postfix n)) (ap suc s.7 ∙ sym (one_longer before z))))
          (followed-told k A s.1 s.2
          (plain s.1 (fit-first (x ∷ y ∷ rest) s.0 s.3 s.1 s.2 s.4 F) (ap (λ
          (e : Element). e.postfix) s.5
          ∙ unfixed _ before after z p first z.postfix refl) (ap (λ
          (e : Element). e.named) s.5 ∙ named))
          (fit-second (x ∷ y ∷ rest) s.0 s.3 s.1 s.2 s.4 F) (ap (λ
          (e : Element). e.postfix) s.6 ∙ first.met)
          (first-typed k A (x ∷ y ∷ rest) s.0 s.3 s.1 s.2 s.4 T)
          (second-typed k A (x ∷ y ∷ rest) s.0 s.3 s.1 s.2 s.4 T))
      by r (postfix_of_name never before after z p first named is) =
          step_refused FUNCTION_AS_VALUE z.place
          (postfix_of_name never before after z p first named refl)
      by r (joins never none u v after divided nu nv is) =
          let d : rule.element x ∷ rule.element y ∷ rule.elements rest ≡ u ∷ v ∷ after = divided in
          let p : rule.element x ≡ u = cc in
          let q : rule.element y ≡ v = cc in
          from-joined rest x y (joins never none u v after divided nu nv refl)
          (joined-told k A x y
          (plain x (all_first Fit x (y ∷ rest) F) first_plain (ap (λ
          (e : Element). e.named) p ∙ nu))
          (plain y (all_first Fit y rest (all_rest Fit x (y ∷ rest) F))
          (none.unmet (rule.element x ∷ []) (rule.element y ∷ rule.elements rest) refl)
          (ap (λ (e : Element). e.named) q ∙ nv))
          (all_first (PartTyped k A) x (y ∷ rest) T)
          (all_first (PartTyped k A) y rest (all_rest (PartTyped k A) x (y ∷ rest) T)))
      by r (first_is_name never none u v after divided nu is) =
          step_refused FUNCTION_AS_VALUE u.place
          (first_is_name never none u v after divided nu refl)
      by r (second_is_name never none u v after divided nu nv is) =
          step_refused FUNCTION_AS_VALUE v.place
          (second_is_name never none u v after divided nu nv refl)
      by r (whole z divided is) = absurd
          (let d : rule.element x ∷ rule.element y ∷ rule.elements rest ≡ z ∷ [] = divided in cc)
