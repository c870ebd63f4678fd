-- The grouping of a juxtaposition: functions are only what is applied, and the last element of each
-- chunk is a value.
use Rattle.std.proofs.Common.{◌≡◌, ℕ, suc, ◌+◌, Bool, true, false, ◌&&◌, List, [], ◌∷◌, ◌++◌, length, slice_get, Some, refl, arith, rules, ap, ◌∙◌, sym, subst}
use Rattle.std.specs.List.{AllByRecursion}
use Rattle.fort_juxt.specs.declared.elements.Element.{Element}
use Rattle.fort_juxt.specs.declared.elements.Grouping.{Grouping, out-Grouping, the_lemmas}
use Rattle.fort_juxt.specs.declared.elements.Grouping.TheOpen.{Grouping-F}
use Rattle.fort_juxt.specs.declared.elements.Grouping.TheVariants as a_grouping
use Rattle.fort_juxt.specs.First.{IsNowhere}
use Rattle.fort_juxt.specs.Loose.{Chunk, elements as chunk_elements, all_elements, AreFunctions, AreChunks, AreApart, IsDivision, name_ends, units, joined_to, joined, applied_to, applied, chunk_groups, IsGroupingOf}
use Rattle.fort_typing_known.specs.Known.{Knows}
use Rattle.fort_typing_rules.specs.declared.part.Part.{Part}
use Rattle.fort_typing_rules.specs.declared.part.Meaning.{Meaning}
use Rattle.fort_typing_rules.specs.declared.part.Meaning.TheVariants as a_meaning
use Rattle.fort_typing_rules.specs.Elements as rule
use Rattle.fort_typing_law_rules.specs.Deciding.{IsAccepted}
use Rattle.fort_typing_law_rules.specs.Typed.{AreTyped}
use Rattle.fort_typing_law_rules.proofs.Pairs.{Fit, plain}
use Rattle.fort_typing_law_rules.proofs.Stepping.{AllFit}
use Rattle.fort_typing_law_rules.proofs.Growing.{Good, good_one, good_apply, good_pair}

pub out_one : (i : ℕ) → out-Grouping (a_grouping.One i) ≡ Grouping-F.One i
out_one i = search (rules, the_lemmas)

pub out_apply : (a b : Grouping) → out-Grouping (a_grouping.Apply a b) ≡ Grouping-F.Apply a b
out_apply a b = search (rules, the_lemmas)

pub out_pair : (a b : Grouping) → out-Grouping (a_grouping.Pair a b) ≡ Grouping-F.Pair a b
out_pair a b = search (rules, the_lemmas)

-- an element that is no function is no name
unnamed : (m : Meaning) → rule.is_function_by m ≡ false → rule.is_name_by m ≡ false
unnamed a_meaning.Unknown e = refl
unnamed (a_meaning.Value t) e = refl
unnamed (a_meaning.Functions name) e = e
unnamed (a_meaning.Index t) e = refl
unnamed (a_meaning.Exponent t) e = refl
unnamed (a_meaning.Field spot name) e = refl
unnamed (a_meaning.Method spot name ts) e = refl

-- None is a postfix.
abbrev pub NoPostfix : List Part → Type 0
NoPostfix qs = AllByRecursion (λ (p : Part). p.postfix ≡ false) qs

abbrev LastUnnamed : List Element → Type 0
LastUnnamed [] = Unit {0}
LastUnnamed (f ∷ []) = f.named ≡ false
LastUnnamed (f ∷ e ∷ es) = LastUnnamed (e ∷ es)

-- no name ends a list
abbrev Unended : List Element → Type 0
Unended es = (b r : List Element) → es ≡ b ++ r → name_ends r ≡ false

one-unended : (f : Element) → f.named && true ≡ false → f.named ≡ false
one-unended f e = by f.named refl e
  where
    by : (c : Bool) → f.named ≡ c → c && true ≡ false → f.named ≡ false
    by true n z = absurd (let w : true ≡ false = z in cc)
    by false n z = n

last-unnamed : (es : List Element) → Unended es → LastUnnamed es
last-unnamed [] never = tt
last-unnamed (f ∷ []) never = one-unended f (never [] (f ∷ []) refl)
last-unnamed (f ∷ e ∷ es) never =
    last-unnamed (e ∷ es) (λ b r d. never (f ∷ b) r (ap (λ zs. f ∷ zs) d))

unended-right : (xs ys : List Element) → Unended (xs ++ ys) → Unended ys
unended-right [] ys never = never
unended-right (x ∷ xs) ys never =
    unended-right xs ys (λ b r d. never (x ∷ b) r (ap (λ zs. x ∷ zs) d))

nothing-more : (xs : List Element) → xs ++ [] ≡ xs
nothing-more [] = refl
nothing-more (x ∷ xs) = ap (λ zs. x ∷ zs) (nothing-more xs)

module _ (k : Knows) (A : IsAccepted k) (ps : List Part) (T : AreTyped k ps) where
  -- the element at a number
  abbrev Slot : ℕ → Element → Type 0
  Slot j e = (p : Part) × (slice_get ps j ≡ Some p) × (rule.element p ≡ e) × Fit p
      × (p.postfix ≡ false)

  abbrev Slots : ℕ → List Element → Type 0
  Slots j [] = Unit {0}
  Slots j (e ∷ es) = Slot j e × Slots (j + 1) es

  slots-of : (qs : List Part) (j : ℕ) → AllFit qs → NoPostfix qs
      → ((m : ℕ) → slice_get ps (j + m) ≡ slice_get qs m) → Slots j (rule.elements qs)
  slots-of [] j F N get = tt
  slots-of (q ∷ qs) j F N get = (
    (q, ap (slice_get ps) (let z : j ≡ j + 0 = omega arith in z) ∙ get 0, refl, F.0, N.0),
    slots-of qs (j + 1) F.1 N.1 (λ m. ap (slice_get ps)
        (let z : (j + 1) + m ≡ j + suc m = omega arith in z) ∙ get (suc m)),
  )

  slots-left : (xs ys : List Element) (j : ℕ) → Slots j (xs ++ ys) → Slots j xs
  slots-left [] ys j S = tt
  slots-left (x ∷ xs) ys j S = (S.0, slots-left xs ys (j + 1) S.1)

  slots-right : (xs ys : List Element) (j : ℕ) → Slots j (xs ++ ys) → Slots (j + length xs) ys
  slots-right [] ys j S = subst (λ (n : ℕ). Slots n ys) (let z : j ≡ j + 0 = omega arith in z) S
  slots-right (x ∷ xs) ys j S = subst (λ (n : ℕ). Slots n ys)
      (let z : (j + 1) + length xs ≡ j + suc (length xs) = omega arith
      in z) (slots-right xs ys (j + 1) S.1)

  abbrev AllGood : List Grouping → Type 0
  AllGood gs = AllByRecursion (Good k A ps T) gs

  -- a list of one good grouping
  abbrev Single : List Grouping → Type 0
  Single gs = (h : Grouping) × (gs ≡ h ∷ []) × Good k A ps T h

  good-value : (j : ℕ) (e : Element) → Slot j e → e.named ≡ false → Good k A ps T (a_grouping.One j)
  good-value j e (p, at, is, F, z) n =
      good_one j p (out_one j) at (plain p F z (ap (λ (x : Element). x.named) is ∙ n))

  other-value : (j : ℕ) (e : Element) → Slot j e → e.function ≡ false
      → Good k A ps T (a_grouping.One j)
  other-value j e (p, at, is, F, z) n =
      good_one j p (out_one j) at
      (plain p F z (unnamed p.meaning (ap (λ (x : Element). x.function) is ∙ n)))

  others-good : (os : List Element) (j : ℕ) → Slots j os → AreFunctions false os
      → AllGood (units j (length os))
  others-good [] j S O = tt
  others-good (o ∷ os) j S O = (other-value j o S.0 O.0, others-good os (j + 1) S.1 O.1)

  joined-to-good : (g : Grouping) (hs : List Grouping) → Good k A ps T g → AllGood hs
      → Good k A ps T (joined_to g hs)
  joined-to-good g [] G H = G
  joined-to-good g (h ∷ hs) G H =
      joined-to-good (a_grouping.Pair g h) hs (good_pair g h (out_pair g h) G H.0) H.1

  -- a function before groupings that give one good grouping
  applied-step : (j : ℕ) (f : Element) (gs : List Grouping) → Slot j f → f.function ≡ true
      → Single (applied gs) → Single (applied (a_grouping.One j ∷ gs))
  applied-step j f [] S n (h, e, G) = absurd cc
  applied-step j f (x ∷ xs) (p, at, is, F, z) n (h, e, G) =
      let q : applied_to x xs ≡ h = cc in (
        a_grouping.Apply (a_grouping.One j) (applied_to x xs),
        refl,
        good_apply (a_grouping.One j) (applied_to x xs) j p
            (out_apply (a_grouping.One j) (applied_to x xs)) (out_one j) at (ap (λ
            (y : Element). y.function) is ∙ n) (subst (Good k A ps T) (sym q) G),
      )

  applied-good : (fs : List Element) (j : ℕ) (g : Grouping) → Slots j fs → AreFunctions true fs
      → Good k A ps T g → Single (applied (units j (length fs) ++ g ∷ []))
  applied-good [] j g S O G = (g, refl, G)
  applied-good (f ∷ fs) j g S O G =
      applied-step j f (units (j + 1) (length fs) ++ g ∷ []) S.0 O.0
      (applied-good fs (j + 1) g S.1 O.1 G)

  functions-good : (f : Element) (fs : List Element) (j : ℕ) → Slots j (f ∷ fs)
      → AreFunctions true (f ∷ fs) → LastUnnamed (f ∷ fs)
      → Single (applied (units j (length (f ∷ fs)) ++ []))
  functions-good f [] j S O L = (a_grouping.One j, refl, good-value j f S.0 L)
  functions-good f (e ∷ fs) j S O L =
      applied-step j f (units (j + 1) (length (e ∷ fs)) ++ []) S.0 O.0
      (functions-good e fs (j + 1) S.1 O.1 L)

  lists-good : (fs os : List Element) (j : ℕ) → Slots j (fs ++ os) → (fs ++ os ≡ [] → ⊥)
      → AreFunctions true fs → AreFunctions false os → (os ≡ [] → LastUnnamed fs)
      → Single (applied (units j (length fs) ++ joined (units (j + length fs) (length os))))
  lists-good [] [] j S filled F O L = absurd (filled refl)
  lists-good (f ∷ fs) [] j S filled F O L =
      functions-good f fs j (slots-left (f ∷ fs) [] j S) F (L refl)
  lists-good fs (o ∷ os) j S filled F O L =
      let R = slots-right fs (o ∷ os) j S in
      applied-good fs j
      (joined_to (a_grouping.One (j + length fs)) (units ((j + length fs) + 1) (length os)))
      (slots-left fs (o ∷ os) j S) F
      (joined-to-good (a_grouping.One (j + length fs)) (units ((j + length fs) + 1) (length os))
      (other-value (j + length fs) o R.0 O.0)
      (others-good os ((j + length fs) + 1) R.1 O.1))

  -- where a chunk has no others, it is the last one
  last-of : (c : Chunk) (cs : List Chunk) → AreApart (c ∷ cs) → Unended (all_elements (c ∷ cs))
      → c.others ≡ [] → LastUnnamed c.functions
  last-of c [] P never e =
      last-unnamed c.functions
      (subst Unended (nothing-more (chunk_elements c) ∙ ap (λ
      (xs : List Element). c.functions ++ xs) e ∙ nothing-more c.functions) never)
  last-of c (d ∷ cs) P never e = absurd (P.0 e)

  apart-rest : (c : Chunk) (cs : List Chunk) → AreApart (c ∷ cs) → AreApart cs
  apart-rest c [] P = tt
  apart-rest c (d ∷ cs) P = P.2

  chunks-good : (cs : List Chunk) (j : ℕ) → Slots j (all_elements cs) → AreChunks cs → AreApart cs
      → Unended (all_elements cs) → AllGood (chunk_groups j cs)
  chunks-good [] j S C P never = tt
  chunks-good (c ∷ cs) j S C P never =
      let r = lists-good c.functions c.others j
      (slots-left (chunk_elements c) (all_elements cs) j S) C.0.filled C.0.functions C.0.others
      (last-of c cs P never) in
      subst (λ (gs : List Grouping). AllGood
      (gs ++ chunk_groups (j + length (chunk_elements c)) cs)) (sym r.1) (
        r.2,
        chunks-good cs (j + length (chunk_elements c))
            (slots-right (chunk_elements c) (all_elements cs) j S) C.1 (apart-rest c cs P)
            (unended-right (chunk_elements c) (all_elements cs) never),
      )

  -- The grouping of elements none of which is a postfix, where there are some.
  pub grouping-good : AllFit ps → NoPostfix ps → IsNowhere name_ends (rule.elements ps)
      → (rule.elements ps ≡ [] → ⊥) → (chunks : List Chunk) → IsDivision (rule.elements ps) chunks
      → (g : Grouping) × IsGroupingOf chunks g × Good k A ps T g
  grouping-good F N never filled [] D = absurd (filled (sym D.whole))
  grouping-good F N never filled (c ∷ cs) D =
      let S : Slots 0 (all_elements (c ∷ cs)) =
      subst (Slots 0) (sym D.whole) (slots-of ps 0 F N (λ m. ap (slice_get ps)
      (let z : 0 + m ≡ m = omega arith in z))) in
      let U : Unended (all_elements (c ∷ cs)) =
      subst Unended (sym D.whole) (λ b r d. never.unmet b r d) in
      let first =
      lists-good c.functions c.others 0 (slots-left (chunk_elements c) (all_elements cs) 0 S)
      D.each.0.filled D.each.0.functions D.each.0.others (last-of c cs D.apart U) in
      let rest =
      chunks-good cs (0 + length (chunk_elements c))
      (slots-right (chunk_elements c) (all_elements cs) 0 S) D.each.1 (apart-rest c cs D.apart)
      (unended-right (chunk_elements c) (all_elements cs) U) in (
        joined_to first.0 (chunk_groups (0 + length (chunk_elements c)) cs),
        ap (λ (gs : List Grouping). joined (gs ++ chunk_groups (0 + length (chunk_elements c)) cs))
            first.1,
        joined-to-good first.0 (chunk_groups (0 + length (chunk_elements c)) cs) first.2 rest,
      )
