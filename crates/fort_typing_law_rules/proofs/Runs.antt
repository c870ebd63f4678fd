-- Rewritings of a run: there is one at most, and what a run breaks goes by it.
use Rattle.std.proofs.Common.{◌≡◌, ◌⊎◌, inl, inr, suc, true, false, List, [], ◌∷◌, ◌++◌, length, Result, Ok, refl, arith, ap, ◌∙◌, sym, subst}
use Rattle.fort_base.specs.declared.refusal.CheckFault.{CheckFault}
use Rattle.fort_base.specs.declared.refusal.Place.{Place}
use Rattle.fort_base.specs.declared.refusal.Rule.{Rule}
use Rattle.fort_base.specs.declared.rules.TheConstants.{MISMATCH}
use Rattle.fort_juxt.specs.declared.elements.Tight.{Tight}
use Rattle.fort_juxt.specs.declared.elements.Tight.TheVariants as a_rewriting
use Rattle.fort_juxt.specs.Tight.{Rewrites}
use Rattle.fort_form_typed.specs.declared.typed_form.TypedForm.{TypedForm}
use Rattle.fort_typing_known.specs.declared.fault.Fault.{Fault}
use Rattle.fort_typing_known.specs.Known.{Knows}
use Rattle.fort_typing_rules.specs.declared.part.Part.{Part}
use Rattle.fort_typing_rules.specs.Calls.{Calls}
use Rattle.fort_typing_rules.specs.Types.{type_of, is_nothing, fault}
use Rattle.fort_typing_rules.specs.Elements as rule
use Rattle.fort_typing_meaning.specs.Joining.{applied, joined, followed}
use Rattle.fort_typing_law_rules.specs.Deciding.{IsAccepted}
use Rattle.fort_typing_law_rules.specs.Typed.{AreTyped}
use Rattle.fort_typing_law_rules.proofs.Juxtaposing.{rewriting_is_computed}
use Rattle.fort_typing_law_rules.proofs.Running.{to, applies-is, joins-is, follows-is, first-typed, second-typed}

-- ---- lists with two items at one place

same-front : {X : Type 0} (before other after rest : List X) (x y u v : X)
    → length before ≡ length other → before ++ x ∷ y ∷ after ≡ other ++ u ∷ v ∷ rest
    → (before ≡ other) × (x ≡ u) × (y ≡ v) × (after ≡ rest)
same-front [] [] after rest x y u v l e = (refl, cc, cc, cc)
same-front [] (o ∷ other) after rest x y u v l e = absurd (omega arith)
same-front (b ∷ before) [] after rest x y u v l e = absurd (omega arith)
same-front (b ∷ before) (o ∷ other) after rest x y u v l e =
    let first : b ≡ o = cc in
    let more : before ++ x ∷ y ∷ after ≡ other ++ u ∷ v ∷ rest = cc in
    let r = same-front before other after rest x y u v (omega arith) more in
    (ap (λ z. z ∷ before) first ∙ ap (λ zs. o ∷ zs) r.0, r.1, r.2, r.3)

made-once : (m n : rule.Made) → to m ≡ to n → m ≡ n
made-once (rule.gives t) (rule.gives u) e =
    let q : t ≡ u = cc in ap (λ (x : TypedForm). rule.gives x) q
made-once (rule.gives t) (rule.breaks r p) e = absurd cc
made-once (rule.breaks r p) (rule.gives u) e = absurd cc
made-once (rule.breaks r p) (rule.breaks s q) e =
    let f : fault r p ≡ fault s q = cc in
    let a : r ≡ s = ap (λ (x : Fault). x.rule) f in
    let b : p ≡ q = ap (λ (x : Fault). x.place) f in
    ap (λ (x : Rule). rule.breaks x p) a ∙ ap (λ (x : Place). rule.breaks s x) b

module _ (k : Knows) (A : IsAccepted k) where
  -- ---- one rewriting at most

  one-tight : (ps : List Part) (s t : Result Tight CheckFault) → Rewrites (rule.elements ps) s
      → Rewrites (rule.elements ps) t → s ≡ t
  one-tight ps s t h g =
      sym (rewriting_is_computed (rule.elements ps) s h)
      ∙ rewriting_is_computed (rule.elements ps) t g

  abbrev pub Alike : List Part → Place → rule.Made → List Part → List Part → Place → rule.Made
      → List Part → Type 0
  Alike before place m after other spot n rest = (before ≡ other) × (place ≡ spot) × (m ≡ n)
      × (after ≡ rest)

  pub one-rewritten : (ps before after other rest : List Part) (place spot : Place)
      (m n : rule.Made) → AreTyped k ps → rule.Rewritten k (Calls k) ps before place m after
      → rule.Rewritten k (Calls k) ps other spot n rest
      → Alike before place m after other spot n rest
  one-rewritten ps before after other rest place spot m n T (rule.applied f a h is at g)
      (rule.applied f2 a2 h2 is2 at2 g2) =
      let e = one-tight ps _ _ h h2 in
      let l : length before ≡ length other = cc in
      let s = same-front before other after rest f a f2 a2 l (sym is ∙ is2) in
      let w : to m ≡ to n =
      sym (applies-is k A f a m (first-typed k A ps before after f a is T)
      (second-typed k A ps before after f a is T) g) ∙ ap (λ
      (x : Part). applied k.facts x a) s.1 ∙ ap (λ (x : Part). applied k.facts f2 x) s.2
      ∙ applies-is k A f2 a2 n (first-typed k A ps other rest f2 a2 is2 T)
      (second-typed k A ps other rest f2 a2 is2 T) g2 in
      (s.0, at ∙ ap (λ (x : Part). x.place) s.1 ∙ sym at2, made-once m n w, s.3)
  one-rewritten ps before after other rest place spot m n T (rule.applied f a h is at g)
      (rule.followed f2 a2 h2 is2 at2 g2) = absurd (let e = one-tight ps _ _ h h2 in cc)
  one-rewritten ps before after other rest place spot m n T (rule.applied f a h is at g)
      (rule.joined f2 a2 h2 none is2 at2 g2) = absurd (let e = one-tight ps _ _ h h2 in cc)
  one-rewritten ps before after other rest place spot m n T (rule.followed f a h is at g)
      (rule.applied f2 a2 h2 is2 at2 g2) = absurd (let e = one-tight ps _ _ h h2 in cc)
  one-rewritten ps before after other rest place spot m n T (rule.followed f a h is at g)
      (rule.followed f2 a2 h2 is2 at2 g2) =
      let e = one-tight ps _ _ h h2 in
      let l : length before ≡ length other = cc in
      let s = same-front before other after rest f a f2 a2 l (sym is ∙ is2) in
      let w : to m ≡ to n =
      sym (follows-is k A f a m (first-typed k A ps before after f a is T)
      (second-typed k A ps before after f a is T) g) ∙ ap (λ
      (x : Part). followed k.facts x a) s.1 ∙ ap (λ (x : Part). followed k.facts f2 x) s.2
      ∙ follows-is k A f2 a2 n (first-typed k A ps other rest f2 a2 is2 T)
      (second-typed k A ps other rest f2 a2 is2 T) g2 in
      (s.0, at ∙ ap (λ (x : Part). x.place) s.1 ∙ sym at2, made-once m n w, s.3)
  one-rewritten ps before after other rest place spot m n T (rule.followed f a h is at g)
      (rule.joined f2 a2 h2 none is2 at2 g2) = absurd (let e = one-tight ps _ _ h h2 in cc)
  one-rewritten ps before after other rest place spot m n T (rule.joined f a h none is at g)
      (rule.applied f2 a2 h2 is2 at2 g2) = absurd (let e = one-tight ps _ _ h h2 in cc)
  one-rewritten ps before after other rest place spot m n T (rule.joined f a h none is at g)
      (rule.followed f2 a2 h2 is2 at2 g2) = absurd (let e = one-tight ps _ _ h h2 in cc)
  one-rewritten ps before after other rest place spot m n T (rule.joined f a h none is at g)
      (rule.joined f2 a2 h2 none2 is2 at2 g2) =
      let s = same-front [] [] after rest f a f2 a2 refl (sym is ∙ is2) in
      let w : to m ≡ to n =
      sym (joins-is k A f a m (first-typed k A ps [] after f a is T)
      (second-typed k A ps [] after f a is T) g) ∙ ap (λ
      (x : Part). joined k.facts x a) s.1 ∙ ap (λ (x : Part). joined k.facts f2 x) s.2
      ∙ joins-is k A f2 a2 n (first-typed k A ps [] rest f2 a2 is2 T)
      (second-typed k A ps [] rest f2 a2 is2 T) g2 in
      (none ∙ sym none2, at ∙ ap (λ (x : Part). x.place) s.1 ∙ sym at2, made-once m n w, s.3)

  -- ---- what a run breaks, by its next rewriting

  pub rewriting-of : (ps before after : List Part) (place : Place) (m : rule.Made)
      → rule.Rewritten k (Calls k) ps before place m after
      → (t : Tight) × Rewrites (rule.elements ps) (Ok t)
  rewriting-of ps before after place m (rule.applied f a h is at g) =
      (a_rewriting.Apply (length before), h)
  rewriting-of ps before after place m (rule.followed a p h is at g) =
      (a_rewriting.Postfix (suc (length before)), h)
  rewriting-of ps before after place m (rule.joined a b h none is at g) = (a_rewriting.Left, h)

  -- the rule that a rewriting breaks by itself
  abbrev pub Own : List Part → Place → rule.Made → List Part → Fault → Type 0
  Own before place (rule.gives u) after f = (rule.is_whole before after ≡ false)
      × (is_nothing (type_of u) ≡ true) × (f ≡ fault MISMATCH place)
  Own before place (rule.breaks r at) after f = f ≡ fault r at

  pub breaks-of-run : (ps before after : List Part) (place : Place) (m : rule.Made) → AreTyped k ps
      → rule.Rewritten k (Calls k) ps before place m after → (f : Fault)
      → rule.RunBreaks k (Calls k) ps f
      → Own before place m after f
      ⊎ rule.RunBreaks k (Calls k) (rule.rewritten before place m after) f
  breaks-of-run ps before after place m T w f (rule.no_rewriting r at h e) =
      let o = rewriting-of ps before after place m w
      in absurd (let q = one-tight ps _ _ o.1 h in cc)
  breaks-of-run ps before after place m T w f (rule.this_rewriting b a p at r h e) =
      let s = one-rewritten ps before after b a place p m (rule.breaks r at) T w h in
      inl (subst (λ (n : rule.Made). Own before place n after f) (sym s.2) e)
  breaks-of-run ps before after place m T w f (rule.a_nothing b a p u h whole nn e) =
      let s = one-rewritten ps before after b a place p m (rule.gives u) T w h in
      inl (subst (λ (n : rule.Made). Own before place n after f) (sym s.2) (
        subst (λ
            (bs : List Part). rule.is_whole bs after ≡ false) (sym s.0) (subst (λ
            (bs : List Part). rule.is_whole b bs ≡ false) (sym s.3) whole),
        nn,
        e ∙ ap (λ
            (x : Place). fault MISMATCH x) (sym s.1),
      ))
  breaks-of-run ps before after place m T w f (rule.later_rewriting b a p n h c) =
      let s = one-rewritten ps before after b a place p m n T w h in
      inr (subst (λ
      (bs : List Part). rule.RunBreaks k (Calls k) (rule.rewritten bs place m after) f)
      (sym s.0) (subst (λ
      (x : Place). rule.RunBreaks k (Calls k) (rule.rewritten b x m after) f) (sym s.1)
      (subst (λ
      (x : rule.Made). rule.RunBreaks k (Calls k) (rule.rewritten b p x after) f) (sym s.2)
      (subst (λ
      (bs : List Part). rule.RunBreaks k (Calls k) (rule.rewritten b p n bs) f) (sym s.3)
      c))))

  pub run-breaks : (ps before after : List Part) (place : Place) (m : rule.Made)
      → rule.Rewritten k (Calls k) ps before place m after → (f : Fault)
      → Own before place m after f
      ⊎ rule.RunBreaks k (Calls k) (rule.rewritten before place m after) f
      → rule.RunBreaks k (Calls k) ps f
  run-breaks ps before after place (rule.gives u) w f (inl o) =
      rule.a_nothing before after place u w o.0 o.1 o.2
  run-breaks ps before after place (rule.breaks r at) w f (inl o) =
      rule.this_rewriting before after place at r w o
  run-breaks ps before after place m w f (inr c) = rule.later_rewriting before after place m w c
