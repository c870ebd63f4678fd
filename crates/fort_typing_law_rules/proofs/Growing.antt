-- What a grouping gives, and the first of the rules that it breaks.
use Rattle.std.proofs.Common.{◌≡◌, ◌⊎◌, inl, inr, ℕ, zero, suc, Bool, true, false, cond, ◌||◌, List, [], ◌∷◌, slice_get, Option, Some, None, refl, ap, ◌∙◌, sym, subst}
use Rattle.fort_base.specs.declared.refusal.Place.{Place}
use Rattle.fort_base.specs.declared.refusal.Rule.{Rule}
use Rattle.fort_base.specs.declared.rules.TheConstants.{MISMATCH}
use Rattle.fort_base.specs.declared.ty.Ty.{Ty, out-Ty}
use Rattle.fort_base.specs.declared.ty.Ty.TheOpen.{Ty-F}
use Rattle.fort_juxt.specs.declared.elements.Grouping.{Grouping, out-Grouping}
use Rattle.fort_juxt.specs.declared.elements.Grouping.TheOpen.{Grouping-F}
use Rattle.fort_form_typed.specs.declared.typed_form.TypedForm.{TypedForm}
use Rattle.fort_typing_known.specs.declared.fault.Fault.{Fault}
use Rattle.fort_typing_known.specs.Known.{Facts, Knows}
use Rattle.fort_typing_rules.specs.declared.part.Part.{Part}
use Rattle.fort_typing_rules.specs.declared.part.Meaning.{Meaning}
use Rattle.fort_typing_rules.specs.declared.part.Meaning.TheVariants as a_meaning
use Rattle.fort_typing_rules.specs.Calls.{Calls}
use Rattle.fort_typing_rules.specs.Types.{type_of, is_nothing, nothing_at, fault}
use Rattle.fort_typing_rules.specs.Elements as rule
use Rattle.fort_typing_meaning.specs.declared.frame.Made.{Made}
use Rattle.fort_typing_meaning.specs.declared.frame.Made.TheVariants as a_made
use Rattle.fort_typing_meaning.specs.Faults.{with_fault, breaks}
use Rattle.fort_typing_meaning.specs.Joining.{applied_to, applied, joined_by, joined, Grown, grown, barred_found, as_grown, Grows, grows_by, grows_two, grows_one, grows}
use Rattle.fort_typing_law_rules.specs.Deciding.{IsAccepted}
use Rattle.fort_typing_law_rules.specs.Typed.{AreTyped}
use Rattle.fort_typing_law_rules.specs.Exact.{IsFirst}
use Rattle.fort_typing_law_rules.proofs.Typed.{PartTyped, part-typed, grouped-typed}
use Rattle.fort_typing_law_rules.proofs.Running.{to, applies-is, joins-is}
use Rattle.fort_typing_law_rules.proofs.Beside.{from}
use Rattle.fort_typing_law_rules.proofs.Firsts.{no_more, alike, one_more, both}
use Rattle.fort_typing_law_rules.proofs.Scopes.{not-both}
use Rattle.fort_typing_law_rules.proofs.Pairs.{Pair, does, stops, Plain, a_value, no_type, applied-told, joined-told}
use Rattle.fort_typing_law_rules.proofs.Stepping.{HasUnknown}

-- ---- an element without a type gives nothing with another one

unknown-is : (m : Meaning) → rule.is_unknown_by m ≡ true → m ≡ a_meaning.Unknown
unknown-is a_meaning.Unknown e = refl
unknown-is (a_meaning.Value t) e = absurd cc
unknown-is (a_meaning.Functions name) e = absurd cc
unknown-is (a_meaning.Index t) e = absurd cc
unknown-is (a_meaning.Exponent t) e = absurd cc
unknown-is (a_meaning.Field spot name) e = absurd cc
unknown-is (a_meaning.Method spot name ts) e = absurd cc

unapplied-second : (k : Facts) (f a : Part) (m : Meaning)
    → applied_to k f a m a_meaning.Unknown ≡ a_made.Stops
unapplied-second k f a a_meaning.Unknown = refl
unapplied-second k f a (a_meaning.Value t) = refl
unapplied-second k f a (a_meaning.Functions name) = refl
unapplied-second k f a (a_meaning.Index t) = refl
unapplied-second k f a (a_meaning.Exponent t) = refl
unapplied-second k f a (a_meaning.Field spot name) = refl
unapplied-second k f a (a_meaning.Method spot name ts) = refl

unjoined-second : (k : Facts) (place : Place) (m : Meaning)
    → joined_by k place m a_meaning.Unknown ≡ a_made.Stops
unjoined-second k place a_meaning.Unknown = refl
unjoined-second k place (a_meaning.Value t) = refl
unjoined-second k place (a_meaning.Functions name) = refl
unjoined-second k place (a_meaning.Index t) = refl
unjoined-second k place (a_meaning.Exponent t) = refl
unjoined-second k place (a_meaning.Field spot name) = refl
unjoined-second k place (a_meaning.Method spot name ts) = refl

module _ (k : Facts) (f a : Part) where
  either : (c d : Bool) → c || d ≡ true → (c ≡ true) ⊎ (d ≡ true)
  either true d e = inl refl
  either false d e = inr e

  unapplied : rule.is_unknown f || rule.is_unknown a ≡ true → applied k f a ≡ a_made.Stops
  unfolding applied
  unapplied u = by (either (rule.is_unknown f) (rule.is_unknown a) u)
    where
      by : (rule.is_unknown f ≡ true) ⊎ (rule.is_unknown a ≡ true)
          → applied_to k f a f.meaning a.meaning ≡ a_made.Stops
      by (inl e) = ap (λ (m : Meaning). applied_to k f a m a.meaning) (unknown-is f.meaning e)
      by (inr e) =
          ap (λ (m : Meaning). applied_to k f a f.meaning m) (unknown-is a.meaning e)
          ∙ unapplied-second k f a f.meaning

  unjoined : rule.is_unknown f || rule.is_unknown a ≡ true → joined k f a ≡ a_made.Stops
  unfolding joined
  unjoined u = by (either (rule.is_unknown f) (rule.is_unknown a) u)
    where
      by : (rule.is_unknown f ≡ true) ⊎ (rule.is_unknown a ≡ true)
          → joined_by k f.place f.meaning a.meaning ≡ a_made.Stops
      by (inl e) = ap (λ (m : Meaning). joined_by k f.place m a.meaning) (unknown-is f.meaning e)
      by (inr e) =
          ap (λ (m : Meaning). joined_by k f.place f.meaning m) (unknown-is a.meaning e)
          ∙ unjoined-second k f.place f.meaning

module _ (k : Knows) (A : IsAccepted k) (ps : List Part) (T : AreTyped k ps) where
  abbrev pub Grouped : Grouping → Part → Type 0
  Grouped g q = rule.Grouped k (Calls k) ps g q

  abbrev pub GroupBreaks : Grouping → Fault → Type 0
  GroupBreaks g f = rule.GroupBreaks k (Calls k) ps g f

  abbrev IsBarred : Grouping → Fault → Type 0
  IsBarred g f = rule.IsBarred k (Calls k) ps g f

  -- ---- what comes of a grouping comes of it once

  made-part : (place : Place) (m : rule.Made) (found : Option Fault)
      → (grown place (to m) found).part ≡ rule.made place (rule.meaning_of true m)
  made-part place (rule.gives t) found = refl
  made-part place (rule.breaks r at) found = refl

  two-parts : (way : Part → Part → Made) (a b : Grows) (p r : Part) (found : Option Fault)
      → ((n : Option Fault) → (a n).part ≡ p) → ((n : Option Fault) → (b n).part ≡ r)
      → (grows_two way a b found).part
      ≡ (grown p.place (way (rule.as_part p) (rule.as_part r)) None).part
  two-parts way a b p r found ha hb =
      ap (λ (x : Part). (grown x.place
      (way (rule.as_part x) (rule.as_part (b (as_grown (a found)).found).part))
      (as_grown (b (as_grown (a found)).found)).found).part) (ha found)
      ∙ ap (λ (x : Part). (grown p.place (way (rule.as_part p) (rule.as_part x))
      (as_grown (b (as_grown (a found)).found)).found).part) (hb (as_grown (a found)).found)
      ∙ part-only p.place (way (rule.as_part p) (rule.as_part r))
      (as_grown (b (as_grown (a found)).found)).found None
    where
      part-only : (place : Place) (m : Made) (n l : Option Fault)
          → (grown place m n).part ≡ (grown place m l).part
      part-only place (a_made.Gives t) n l = refl
      part-only place (a_made.Breaks x) n l = refl
      part-only place a_made.Stops n l = refl

  grouped-part : {g : Grouping} {q : Part} → Grouped g q → (found : Option Fault)
      → (grows k.facts ps g found).part ≡ q
  grouped-part {g = g} (rule.of_one i is at) found =
      ap (λ (x : Grown). x.part) (from k A ps T g found is ∙ ap (λ o. grows_one o found) at)
  grouped-part {g = g} (rule.of_applied a b p r m is ga gb h qe) found =
      ap (λ (x : Grown). x.part) (from k A ps T g found is)
      ∙ two-parts (applied k.facts) (grows k.facts ps a) (grows k.facts ps b) p r found
      (grouped-part ga) (grouped-part gb)
      ∙ ap (λ (n : Made). (grown p.place n None).part)
      (applies-is k A (rule.as_part p) (rule.as_part r) m
      (part-typed k A p (grouped-typed k A ps ga T))
      (part-typed k A r (grouped-typed k A ps gb T)) h)
      ∙ made-part p.place m None ∙ sym qe
  grouped-part {g = g} (rule.of_joined a b p r m is ga gb h qe) found =
      ap (λ (x : Grown). x.part) (from k A ps T g found is)
      ∙ two-parts (joined k.facts) (grows k.facts ps a) (grows k.facts ps b) p r found
      (grouped-part ga) (grouped-part gb)
      ∙ ap (λ (n : Made). (grown p.place n None).part)
      (joins-is k A (rule.as_part p) (rule.as_part r) m
      (part-typed k A p (grouped-typed k A ps ga T))
      (part-typed k A r (grouped-typed k A ps gb T)) h)
      ∙ made-part p.place m None ∙ sym qe
  grouped-part {g = g} (rule.of_unapplied a b p r is ga gb u qe) found =
      ap (λ (x : Grown). x.part) (from k A ps T g found is)
      ∙ two-parts (applied k.facts) (grows k.facts ps a) (grows k.facts ps b) p r found
      (grouped-part ga) (grouped-part gb)
      ∙ ap (λ (n : Made). (grown p.place n None).part)
      (unapplied k.facts (rule.as_part p) (rule.as_part r) u) ∙ sym qe
  grouped-part {g = g} (rule.of_unjoined a b p r is ga gb u qe) found =
      ap (λ (x : Grown). x.part) (from k A ps T g found is)
      ∙ two-parts (joined k.facts) (grows k.facts ps a) (grows k.facts ps b) p r found
      (grouped-part ga) (grouped-part gb)
      ∙ ap (λ (n : Made). (grown p.place n None).part)
      (unjoined k.facts (rule.as_part p) (rule.as_part r) u) ∙ sym qe

  pub one-grouped : (g : Grouping) (p q : Part) → Grouped g p → Grouped g q → p ≡ q
  one-grouped g p q h i = sym (grouped-part h None) ∙ grouped-part i None

  -- ---- a part of a grouping that is `Nothing`

  value-once : (m : Meaning) (t u : TypedForm) → m ≡ a_meaning.Value t → m ≡ a_meaning.Value u
      → t ≡ u
  value-once m t u p q = let z : a_meaning.Value t ≡ a_meaning.Value u = sym p ∙ q in cc

  barred-first : (g : Grouping) (q : Part) (found : Option Fault) → Grouped g q
      → IsFirst found (IsBarred g) (barred_found q q.meaning found)
  unfolding breaks
  barred-first g q found G = by q.meaning refl
    where
      back : (f : Fault) → IsBarred g f → f ≡ fault MISMATCH q.place
      back f (q2, t, G2, e2, n2, x) =
          x ∙ ap (λ (p : Part). fault MISMATCH p.place) (one-grouped g q2 q G2 G)

      type-of : (f : Fault) → IsBarred g f
          → (t : TypedForm) × (q.meaning ≡ a_meaning.Value t) × (is_nothing (type_of t) ≡ true)
      type-of f (q2, t, G2, e2, n2, x) =
          (t, ap (λ (p : Part). p.meaning) (one-grouped g q q2 G G2) ∙ e2, n2)

      none : (m : Meaning) → q.meaning ≡ m
          → ((t : TypedForm) → m ≡ a_meaning.Value t → is_nothing (type_of t) ≡ true → ⊥)
          → IsFirst found (IsBarred g) found
      none m e not_value =
          no_more found (IsBarred g) (λ f b. let r = type-of f b in not_value r.0 (sym e ∙ r.1) r.2)

      at : (u : TypedForm) → q.meaning ≡ a_meaning.Value u → (c : Bool) → is_nothing (type_of u) ≡ c
          → IsFirst found (IsBarred g) (cond c (with_fault (fault MISMATCH q.place) found) found)
      at u e true n =
          alike found (λ f. f
          ≡ fault MISMATCH q.place) (IsBarred g) (with_fault (fault MISMATCH q.place) found)
          (λ f x. (q, u, G, e, n, x)) back (one_more (fault MISMATCH q.place) found)
      at u e false n =
          none (a_meaning.Value u) e
          (λ t z w. not-both w (ap (λ
          (x : TypedForm). is_nothing (type_of x))
          (sym (value-once (a_meaning.Value u) u t refl z)) ∙ n))

      by : (m : Meaning) → q.meaning ≡ m → IsFirst found (IsBarred g) (barred_found q m found)
      by (a_meaning.Value u) e = at u e (is_nothing (type_of u)) refl
      by a_meaning.Unknown e = none a_meaning.Unknown e (λ t z w. absurd cc)
      by (a_meaning.Functions name) e = none (a_meaning.Functions name) e (λ t z w. absurd cc)
      by (a_meaning.Index t) e = none (a_meaning.Index t) e (λ t z w. absurd cc)
      by (a_meaning.Exponent t) e = none (a_meaning.Exponent t) e (λ t z w. absurd cc)
      by (a_meaning.Field spot name) e = none (a_meaning.Field spot name) e (λ t z w. absurd cc)
      by (a_meaning.Method spot name ts) e =
          none (a_meaning.Method spot name ts) e (λ t z w. absurd cc)

  -- ---- groupings of values, in which functions are only what is applied

  pub data Good : Grouping → Type 0 where
    good_one : {g : Grouping} (i : ℕ) (p : Part) → out-Grouping g ≡ Grouping-F.One i
        → slice_get ps i ≡ Some p → Plain p → Good g
    good_apply : {g : Grouping} (a b : Grouping) (i : ℕ) (f : Part)
        → out-Grouping g ≡ Grouping-F.Apply a b → out-Grouping a ≡ Grouping-F.One i
        → slice_get ps i ≡ Some f
        → rule.is_function_by f.meaning ≡ true → Good b → Good g
    good_pair : {g : Grouping} (a b : Grouping) → out-Grouping g ≡ Grouping-F.Pair a b → Good a
        → Good b → Good g

  -- why something has no type
  abbrev Cause : (Fault → Type 0) → Part → Type 0
  Cause P q = q.meaning ≡ a_meaning.Unknown → ((f : Fault) × P f) ⊎ HasUnknown ps

  -- What a grouping gives.
  pub data GroupTold (g : Grouping) (found : Option Fault) : Type 0 where
    group_told : (q : Part) (new : Option Fault) → Grouped g q → Plain q
        → IsFirst found (GroupBreaks g) new
        → grows k.facts ps g found ≡ record { part = q; found = new } → Cause (GroupBreaks g) q
        → GroupTold g found

  -- what a grouping breaks as a part of another one
  abbrev SideBreaks : Grouping → Fault → Type 0
  SideBreaks g f = GroupBreaks g f ⊎ IsBarred g f

  data Side (Q : Part → Type 0) (g : Grouping) (found : Option Fault) : Type 0 where
    side : (p : Part) (new : Option Fault) → Grouped g p → Q (rule.as_part p)
        → IsFirst found (SideBreaks g) new
        → as_grown (grows k.facts ps g found) ≡ record { part = rule.as_part p; found = new }
        → Cause (SideBreaks g) (rule.as_part p) → Side Q g found

  barred-plain : (q : Part) (u : TypedForm) (c : Bool) → is_nothing (type_of u) ≡ c
      → q.meaning ≡ a_meaning.Value u → Plain (rule.as_part q)
  barred-plain q u true n e =
      no_type (ap rule.barred_by e ∙ ap (λ z. cond z a_meaning.Unknown (a_meaning.Value u)) n)
  barred-plain q u false n e =
      a_value u (ap rule.barred_by e ∙ ap (λ z. cond z a_meaning.Unknown (a_meaning.Value u)) n)

  part-plain : (q : Part) → Plain q → Plain (rule.as_part q)
  part-plain q (a_value u e) = barred-plain q u (is_nothing (type_of u)) refl e
  part-plain q (no_type e) = no_type (ap rule.barred_by e)

  part-cause : (g : Grouping) (q : Part) → Grouped g q → Plain q → Cause (GroupBreaks g) q
      → Cause (SideBreaks g) (rule.as_part q)
  part-cause g q G (no_type e) why z = by (why e)
    where
      by : ((f : Fault) × GroupBreaks g f) ⊎ HasUnknown ps
          → ((f : Fault) × SideBreaks g f) ⊎ HasUnknown ps
      by (inl (f, b)) = inl (f, inl b)
      by (inr u) = inr u
  part-cause g q G (a_value u e) why z = by (is_nothing (type_of u)) refl
    where
      by : (c : Bool) → is_nothing (type_of u) ≡ c → ((f : Fault) × SideBreaks g f) ⊎ HasUnknown ps
      by true n = inl (fault MISMATCH q.place, inr (q, u, G, e, n, refl))
      by false n = absurd
          (let w : a_meaning.Value u ≡ a_meaning.Unknown =
          sym (ap rule.barred_by e ∙ ap (λ x. cond x a_meaning.Unknown (a_meaning.Value u)) n)
          ∙ z in cc)

  side-of : (g : Grouping) (found : Option Fault) → GroupTold g found → Side Plain g found
  side-of g found (group_told q new G P i is why) =
      side q (barred_found q q.meaning new) G (part-plain q P)
      (both found new (barred_found q q.meaning new) (GroupBreaks g) (IsBarred g) i
      (barred-first g q new G))
      (ap as_grown is) (part-cause g q G P why)

  not-apply : (g a b : Grouping) (i : ℕ) → out-Grouping g ≡ Grouping-F.One i
      → out-Grouping g ≡ Grouping-F.Apply a b → ⊥
  not-apply g a b i p q = let z : Grouping-F.One i ≡ Grouping-F.Apply a b = sym p ∙ q in absurd cc

  not-pair : (g a b : Grouping) (i : ℕ) → out-Grouping g ≡ Grouping-F.One i
      → out-Grouping g ≡ Grouping-F.Pair a b → ⊥
  not-pair g a b i p q = let z : Grouping-F.One i ≡ Grouping-F.Pair a b = sym p ∙ q in absurd cc

  one-clean : (g : Grouping) (i : ℕ) → out-Grouping g ≡ Grouping-F.One i → (f : Fault)
      → GroupBreaks g f → ⊥
  one-clean g i is f (rule.group_application a b p r l at e G H w x) = not-apply g a b i is e
  one-clean g i is f (rule.group_joining a b p r l at e G H w x) = not-pair g a b i is e
  one-clean g i is f (rule.applied_first a b e c) = not-apply g a b i is e
  one-clean g i is f (rule.applied_second a b e c) = not-apply g a b i is e
  one-clean g i is f (rule.joined_first a b e c) = not-pair g a b i is e
  one-clean g i is f (rule.joined_second a b e c) = not-pair g a b i is e
  one-clean g i is f (rule.barred_function a b e c) = not-apply g a b i is e
  one-clean g i is f (rule.barred_argument a b e c) = not-apply g a b i is e
  one-clean g i is f (rule.barred_left a b e c) = not-pair g a b i is e
  one-clean g i is f (rule.barred_right a b e c) = not-pair g a b i is e

  unknown-slice : (qs : List Part) (i : ℕ) (p : Part) → slice_get qs i ≡ Some p
      → p.meaning ≡ a_meaning.Unknown → HasUnknown qs
  unknown-slice [] i p at e = absurd cc
  unknown-slice (q ∷ qs) zero p at e = inl
      (let z : q ≡ p = cc in ap (λ (x : Part). x.meaning) z ∙ e)
  unknown-slice (q ∷ qs) (suc i) p at e = inr (unknown-slice qs i p at e)

  one-told : (g : Grouping) (i : ℕ) (p : Part) (found : Option Fault)
      → out-Grouping g ≡ Grouping-F.One i → slice_get ps i ≡ Some p → Plain p → GroupTold g found
  one-told g i p found is at P =
      group_told p found (rule.of_one i is at) P (no_more found (GroupBreaks g) (one-clean g i is))
      (from k A ps T g found is
      ∙ ap (λ o. grows_one o found) at) (λ e. inr (unknown-slice ps i p at e))

  abbrev IsFunction : Part → Type 0
  IsFunction p = rule.is_function_by p.meaning ≡ true

  arrow-something : (s : Ty-F Ty) → rule.is_arrow_at s ≡ true → nothing_at s ≡ false
  arrow-something Ty-F.Nothing e = absurd (let z : false ≡ true = e in cc)
  arrow-something Ty-F.Any e = refl
  arrow-something (Ty-F.Named t) e = refl
  arrow-something (Ty-F.Tuple ts) e = refl
  arrow-something (Ty-F.Arrow a b) e = refl
  arrow-something (Ty-F.Array t) e = refl

  function-part : (m : Meaning) → rule.is_function_by m ≡ true
      → rule.is_function_by (rule.barred_by m) ≡ true
  function-part (a_meaning.Functions name) e = refl
  function-part (a_meaning.Value t) e =
      ap (λ z. rule.is_function_by (cond z a_meaning.Unknown (a_meaning.Value t)))
      (arrow-something (out-Ty (type_of t)) e) ∙ e
  function-part a_meaning.Unknown e = e
  function-part (a_meaning.Index t) e = e
  function-part (a_meaning.Exponent t) e = e
  function-part (a_meaning.Field spot name) e = e
  function-part (a_meaning.Method spot name ts) e = e

  side-function : (a : Grouping) (i : ℕ) (f : Part) (found : Option Fault)
      → out-Grouping a ≡ Grouping-F.One i → slice_get ps i ≡ Some f → IsFunction f
      → Side IsFunction a found
  side-function a i f found is at fn =
      side f (barred_found f f.meaning found) (rule.of_one i is at) (function-part f.meaning fn)
      (both found found (barred_found f f.meaning found) (GroupBreaks a) (IsBarred a)
      (no_more found (GroupBreaks a) (one-clean a i is))
      (barred-first a f found (rule.of_one i is at)))
      (ap as_grown (from k A ps T a found is ∙ ap (λ o. grows_one o found) at))
      (λ e. absurd (not-both (function-part f.meaning fn) (ap rule.is_function_by e)))

  -- ---- two groupings

  abbrev Own : Grouping → Grouping → (Part → Part → rule.Made → Type 0) → Fault → Type 0
  Own a b Way f = (p : Part) × (r : Part) × (l : Rule) × (at : Place) × Grouped a p × Grouped b r
      × Way (rule.as_part p) (rule.as_part r) (rule.breaks l at) × (f ≡ fault l at)

  abbrev Sum : Grouping → Grouping → (Part → Part → rule.Made → Type 0) → Fault → Type 0
  Sum a b Way f = (SideBreaks a f ⊎ SideBreaks b f) ⊎ Own a b Way f

  module _ (g a b : Grouping) (Way : Part → Part → rule.Made → Type 0) (way : Part → Part → Made)
      (does_so : (p r : Part) (m : rule.Made) → Grouped a p → Grouped b r
      → Way (rule.as_part p) (rule.as_part r) m
      → Grouped g (rule.made p.place (rule.meaning_of true m)))
      (stops_so : (p r : Part) → Grouped a p → Grouped b r
      → rule.is_unknown (rule.as_part p) || rule.is_unknown (rule.as_part r) ≡ true
      → Grouped g (rule.made p.place a_meaning.Unknown))
      (is_so : (p r : Part) (m : rule.Made) → Grouped a p → Grouped b r
      → Way (rule.as_part p) (rule.as_part r) m
      → way (rule.as_part p) (rule.as_part r) ≡ to m)
      (grows_so : (found : Option Fault)
      → grows k.facts ps g found
      ≡ grows_two way (grows k.facts ps a) (grows k.facts ps b) found)
      (split : (f : Fault) → GroupBreaks g f → Sum a b Way f)
      (join : (f : Fault) → Sum a b Way f → GroupBreaks g f) where
    module _ (p r : Part) (G : Grouped a p) (H : Grouped b r) where
      -- what two break by themselves is what is computed of them
      own-made : (f : Fault) → Own a b Way f
          → (l : Rule) × (at : Place)
          × (way (rule.as_part p) (rule.as_part r) ≡ to (rule.breaks l at)) × (f ≡ fault l at)
      own-made f (p2, r2, l, at, G2, H2, w, x) = (
        l,
        at,
        ap (λ (z : Part). way (rule.as_part z) (rule.as_part r)) (one-grouped a p p2 G G2) ∙ ap (λ
            (z : Part). way (rule.as_part p2) (rule.as_part z)) (one-grouped b r r2 H H2)
            ∙ is_so p2 r2 (rule.breaks l at) G2 H2 w,
        x,
      )

      none-own : (c : Made) → way (rule.as_part p) (rule.as_part r) ≡ c
          → ((x : Fault) → c ≡ a_made.Breaks x → ⊥) → (f : Fault) → Own a b Way f → ⊥
      none-own c e not f o = let z = own-made f o in not (fault z.0 z.1) (sym e ∙ z.2)

      one-own : (l : Rule) (at : Place)
          → way (rule.as_part p) (rule.as_part r) ≡ to (rule.breaks l at) → (f : Fault)
          → Own a b Way f → f ≡ fault l at
      one-own l at e f o =
          let z = own-made f o
          in let q : a_made.Breaks (fault z.0 z.1) ≡ a_made.Breaks (fault l at) = sym z.2 ∙ e
          in z.3 ∙ (let w : fault z.0 z.1 ≡ fault l at = cc in w)

      module _ (found n m : Option Fault) (i : IsFirst found (SideBreaks a) n)
          (j : IsFirst n (SideBreaks b) m)
          (e : grows k.facts ps g found
          ≡ grown p.place (way (rule.as_part p) (rule.as_part r)) m) where
        sides : IsFirst found (λ f. SideBreaks a f ⊎ SideBreaks b f) m
        sides = both found n m (SideBreaks a) (SideBreaks b) i j

        first-so : (new : Option Fault) → IsFirst m (Own a b Way) new
            → IsFirst found (GroupBreaks g) new
        first-so new o =
            alike found (Sum a b Way) (GroupBreaks g) new join split
            (both found m new (λ f. SideBreaks a f ⊎ SideBreaks b f) (Own a b Way) sides o)

        does-told : (x : rule.Made) → Way (rule.as_part p) (rule.as_part r) x → GroupTold g found
        unfolding breaks
        does-told (rule.gives t) w =
            group_told (rule.made p.place (a_meaning.Value t)) m (does_so p r (rule.gives t) G H w)
            (a_value t refl)
            (first-so m
            (no_more m (Own a b Way)
            (none-own (a_made.Gives t) (is_so p r (rule.gives t) G H w)
            (λ x q. absurd cc))))
            (e ∙ ap (λ
            (c : Made). grown p.place c m) (is_so p r (rule.gives t) G H w))
            (λ q. absurd cc)
        does-told (rule.breaks l at) w =
            group_told (rule.made p.place a_meaning.Unknown) (with_fault (fault l at) m)
            (does_so p r (rule.breaks l at) G H w) (no_type refl)
            (first-so (with_fault (fault l at) m)
            (alike m (λ f. f
            ≡ fault l at) (Own a b Way) (with_fault (fault l at) m)
            (λ f x. (p, r, l, at, G, H, w, x))
            (one-own l at (is_so p r (rule.breaks l at) G H w)) (one_more (fault l at) m)))
            (e ∙ ap (λ
            (c : Made). grown p.place c m) (is_so p r (rule.breaks l at) G H w))
            (λ q. inl (fault l at, join (fault l at) (inr (p, r, l, at, G, H, w, refl))))

        stops-told : way (rule.as_part p) (rule.as_part r) ≡ a_made.Stops
            → rule.is_unknown (rule.as_part p) || rule.is_unknown (rule.as_part r) ≡ true
            → ((f : Fault) × (SideBreaks a f ⊎ SideBreaks b f)) ⊎ HasUnknown ps → GroupTold g found
        stops-told s u why =
            group_told (rule.made p.place a_meaning.Unknown) m (stops_so p r G H u) (no_type refl)
            (first-so m (no_more m (Own a b Way) (none-own a_made.Stops s (λ x q. absurd cc)))) (e
            ∙ ap (λ (c : Made). grown p.place c m) s) (λ q. by why)
          where
            by : ((f : Fault) × (SideBreaks a f ⊎ SideBreaks b f)) ⊎ HasUnknown ps
                → ((f : Fault) × GroupBreaks g f) ⊎ HasUnknown ps
            by (inl (f, x)) = inl (f, join f (inl x))
            by (inr x) = inr x

    or-left : (c d : Bool) → c ≡ true → c || d ≡ true
    or-left c d e = ap (λ z. z || d) e

    or-right : (c d : Bool) → d ≡ true → c || d ≡ true
    or-right true d e = refl
    or-right false d e = e

    pair-told : (Q R : Part → Type 0) (found : Option Fault) → Side Q a found
        → ((mid : Option Fault) → Side R b mid)
        → ((p r : Part) → Q p → R r → PartTyped k A p → PartTyped k A r
        → Pair (Way p r) (way p r) p r) → GroupTold g found
    pair-told Q R found (side p n G x i ea why) others pairs = second (others n)
      where
        second : Side R b n → GroupTold g found
        second (side r m H y j eb whyb) =
            by (pairs (rule.as_part p) (rule.as_part r) x y
            (part-typed k A p (grouped-typed k A ps G T))
            (part-typed k A r (grouped-typed k A ps H T)))
          where
            e : grows k.facts ps g found ≡ grown p.place (way (rule.as_part p) (rule.as_part r)) m
            e = grows_so found ∙ ap (λ
                (z : Grown). grows_by way z (as_grown (grows k.facts ps b z.found))) ea
                ∙ ap (grows_by way (record { part = rule.as_part p; found = n })) eb

            one-unknown : ((rule.as_part p).meaning ≡ a_meaning.Unknown)
                ⊎ ((rule.as_part r).meaning ≡ a_meaning.Unknown)
                → rule.is_unknown (rule.as_part p) || rule.is_unknown (rule.as_part r) ≡ true
            one-unknown (inl z) =
                or-left (rule.is_unknown (rule.as_part p)) (rule.is_unknown (rule.as_part r))
                (ap rule.is_unknown_by z)
            one-unknown (inr z) =
                or-right (rule.is_unknown (rule.as_part p)) (rule.is_unknown (rule.as_part r))
                (ap rule.is_unknown_by z)

            left-cause : ((f : Fault) × SideBreaks a f) ⊎ HasUnknown ps
                → ((f : Fault) × (SideBreaks a f ⊎ SideBreaks b f)) ⊎ HasUnknown ps
            left-cause (inl (f, z)) = inl (f, inl z)
            left-cause (inr z) = inr z

            right-cause : ((f : Fault) × SideBreaks b f) ⊎ HasUnknown ps
                → ((f : Fault) × (SideBreaks a f ⊎ SideBreaks b f)) ⊎ HasUnknown ps
            right-cause (inl (f, z)) = inl (f, inr z)
            right-cause (inr z) = inr z

            cause : ((rule.as_part p).meaning ≡ a_meaning.Unknown)
                ⊎ ((rule.as_part r).meaning ≡ a_meaning.Unknown)
                → ((f : Fault) × (SideBreaks a f ⊎ SideBreaks b f)) ⊎ HasUnknown ps
            cause (inl z) = left-cause (why z)
            cause (inr z) = right-cause (whyb z)

            by : Pair (Way (rule.as_part p) (rule.as_part r))
                (way (rule.as_part p) (rule.as_part r)) (rule.as_part p) (rule.as_part r)
                → GroupTold g found
            by (does z w) = does-told p r G H found n m i j e z w
            by (stops s u) = stops-told p r G H found n m i j e s (one-unknown u) (cause u)

  -- what an application of groupings breaks
  module _ (g a b : Grouping) (is : out-Grouping g ≡ Grouping-F.Apply a b) where
    apply-same : (c d : Grouping) → out-Grouping g ≡ Grouping-F.Apply c d → (c ≡ a) × (d ≡ b)
    apply-same c d e = let z : Grouping-F.Apply c d ≡ Grouping-F.Apply a b = sym e ∙ is in (cc, cc)

    apply-not-pair : (c d : Grouping) → out-Grouping g ≡ Grouping-F.Pair c d → ⊥
    apply-not-pair c d e =
        let z : Grouping-F.Pair c d ≡ Grouping-F.Apply a b = sym e ∙ is in absurd cc

    apply-split : (f : Fault) → GroupBreaks g f → Sum a b (rule.Applies k (Calls k)) f
    apply-split f (rule.group_application c d p r l at e G H w x) =
        let s = apply-same c d e
        in inr (
          p,
          r,
          l,
          at,
          subst (λ (z : Grouping). Grouped z p) s.0 G,
          subst (λ
              (z : Grouping). Grouped z r) s.1 H,
          w,
          x,
        )
    apply-split f (rule.group_joining c d p r l at e G H w x) = absurd (apply-not-pair c d e)
    apply-split f (rule.applied_first c d e b1) =
        inl (inl (inl (subst (λ (z : Grouping). GroupBreaks z f) (apply-same c d e).0 b1)))
    apply-split f (rule.applied_second c d e b1) =
        inl (inr (inl (subst (λ (z : Grouping). GroupBreaks z f) (apply-same c d e).1 b1)))
    apply-split f (rule.joined_first c d e b1) = absurd (apply-not-pair c d e)
    apply-split f (rule.joined_second c d e b1) = absurd (apply-not-pair c d e)
    apply-split f (rule.barred_function c d e b1) =
        inl (inl (inr (subst (λ (z : Grouping). IsBarred z f) (apply-same c d e).0 b1)))
    apply-split f (rule.barred_argument c d e b1) =
        inl (inr (inr (subst (λ (z : Grouping). IsBarred z f) (apply-same c d e).1 b1)))
    apply-split f (rule.barred_left c d e b1) = absurd (apply-not-pair c d e)
    apply-split f (rule.barred_right c d e b1) = absurd (apply-not-pair c d e)

    apply-join : (f : Fault) → Sum a b (rule.Applies k (Calls k)) f → GroupBreaks g f
    apply-join f (inl (inl (inl x))) = rule.applied_first a b is x
    apply-join f (inl (inl (inr x))) = rule.barred_function a b is x
    apply-join f (inl (inr (inl x))) = rule.applied_second a b is x
    apply-join f (inl (inr (inr x))) = rule.barred_argument a b is x
    apply-join f (inr (p, r, l, at, G, H, w, x)) = rule.group_application a b p r l at is G H w x

    apply-told : (i : ℕ) (h : Part) (found : Option Fault) → out-Grouping a ≡ Grouping-F.One i
        → slice_get ps i ≡ Some h → IsFunction h → ((mid : Option Fault) → GroupTold b mid)
        → GroupTold g found
    apply-told i h found ia at fn others =
        pair-told g a b (rule.Applies k (Calls k)) (applied k.facts)
        (λ p r m G H w. rule.of_applied a b p r m is G H w refl)
        (λ p r G H u. rule.of_unapplied a b p r is G H u refl)
        (λ p r m G H w. applies-is k A (rule.as_part p) (rule.as_part r) m
        (part-typed k A p (grouped-typed k A ps G T))
        (part-typed k A r (grouped-typed k A ps H T)) w) (λ n. from k A ps T g n is)
        apply-split apply-join
        IsFunction Plain found (side-function a i h found ia at fn)
        (λ mid. side-of b mid (others mid)) (λ p r x y F G. applied-told k A p r x y F G)

  -- what two groupings joined break
  module _ (g a b : Grouping) (is : out-Grouping g ≡ Grouping-F.Pair a b) where
    pair-same : (c d : Grouping) → out-Grouping g ≡ Grouping-F.Pair c d → (c ≡ a) × (d ≡ b)
    pair-same c d e = let z : Grouping-F.Pair c d ≡ Grouping-F.Pair a b = sym e ∙ is in (cc, cc)

    pair-not-apply : (c d : Grouping) → out-Grouping g ≡ Grouping-F.Apply c d → ⊥
    pair-not-apply c d e =
        let z : Grouping-F.Apply c d ≡ Grouping-F.Pair a b = sym e ∙ is in absurd cc

    pair-split : (f : Fault) → GroupBreaks g f → Sum a b (rule.Joins k (Calls k)) f
    pair-split f (rule.group_joining c d p r l at e G H w x) =
        let s = pair-same c d e
        in inr (
          p,
          r,
          l,
          at,
          subst (λ (z : Grouping). Grouped z p) s.0 G,
          subst (λ
              (z : Grouping). Grouped z r) s.1 H,
          w,
          x,
        )
    pair-split f (rule.group_application c d p r l at e G H w x) = absurd (pair-not-apply c d e)
    pair-split f (rule.joined_first c d e b1) =
        inl (inl (inl (subst (λ (z : Grouping). GroupBreaks z f) (pair-same c d e).0 b1)))
    pair-split f (rule.joined_second c d e b1) =
        inl (inr (inl (subst (λ (z : Grouping). GroupBreaks z f) (pair-same c d e).1 b1)))
    pair-split f (rule.applied_first c d e b1) = absurd (pair-not-apply c d e)
    pair-split f (rule.applied_second c d e b1) = absurd (pair-not-apply c d e)
    pair-split f (rule.barred_left c d e b1) =
        inl (inl (inr (subst (λ (z : Grouping). IsBarred z f) (pair-same c d e).0 b1)))
    pair-split f (rule.barred_right c d e b1) =
        inl (inr (inr (subst (λ (z : Grouping). IsBarred z f) (pair-same c d e).1 b1)))
    pair-split f (rule.barred_function c d e b1) = absurd (pair-not-apply c d e)
    pair-split f (rule.barred_argument c d e b1) = absurd (pair-not-apply c d e)

    pair-join : (f : Fault) → Sum a b (rule.Joins k (Calls k)) f → GroupBreaks g f
    pair-join f (inl (inl (inl x))) = rule.joined_first a b is x
    pair-join f (inl (inl (inr x))) = rule.barred_left a b is x
    pair-join f (inl (inr (inl x))) = rule.joined_second a b is x
    pair-join f (inl (inr (inr x))) = rule.barred_right a b is x
    pair-join f (inr (p, r, l, at, G, H, w, x)) = rule.group_joining a b p r l at is G H w x

    joined-group : (found : Option Fault) → GroupTold a found
        → ((mid : Option Fault) → GroupTold b mid) → GroupTold g found
    joined-group found first others =
        pair-told g a b (rule.Joins k (Calls k)) (joined k.facts)
        (λ p r m G H w. rule.of_joined a b p r m is G H w refl)
        (λ p r G H u. rule.of_unjoined a b p r is G H u refl)
        (λ p r m G H w. joins-is k A (rule.as_part p) (rule.as_part r) m
        (part-typed k A p (grouped-typed k A ps G T))
        (part-typed k A r (grouped-typed k A ps H T)) w) (λ n. from k A ps T g n is)
        pair-split pair-join
        Plain Plain found (side-of a found first) (λ mid. side-of b mid (others mid))
        (λ p r x y F G. joined-told k A p r x y F G)

  -- What a grouping gives.
  pub good-told : {g : Grouping} → Good g → (found : Option Fault) → GroupTold g found
  good-told {g = g} (good_one i p is at P) found = one-told g i p found is at P
  good-told {g = g} (good_apply a b i f is ia at fn G) found =
      apply-told g a b is i f found ia at fn (λ mid. good-told G mid)
  good-told {g = g} (good_pair a b is G H) found =
      joined-group g a b is found (good-told G found) (λ mid. good-told H mid)
