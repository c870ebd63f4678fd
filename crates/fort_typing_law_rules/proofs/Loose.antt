-- A juxtaposition of some elements, none of which is a postfix, answers exactly where its elements
-- do.
use Rattle.std.proofs.Common.{◌≡◌, ◌⊎◌, inl, inr, ℕ, zero, true, false, List, [], ◌∷◌, map, Option, Some, None, Result, Ok, Err, refl, ap, ◌∙◌, subst}
use Rattle.std.specs.List.{AllByRecursion}
use Rattle.fort_base.specs.declared.refusal.CheckFault.{CheckFault}
use Rattle.fort_base.specs.declared.refusal.CheckFault.TheVariants as a_fault
use Rattle.fort_base.specs.declared.refusal.Place.{Place}
use Rattle.fort_base.specs.declared.refusal.Rule.{Rule}
use Rattle.fort_base.specs.declared.rules.TheConstants.{FUNCTION_AS_VALUE}
use Rattle.fort_juxt.specs.declared.elements.Element.{Element}
use Rattle.fort_juxt.specs.declared.elements.Grouping.{Grouping}
use Rattle.fort_juxt.specs.Loose as loose
use Rattle.fort_juxt.specs.Walks.{chunks_of}
use Rattle.fort_juxt.proofs.Divisions.{divided}
use Rattle.fort_juxt.proofs.LooseLaws.{one_grouping}
use Rattle.fort_scope.specs.declared.binding.Binding.{Binding}
use Rattle.fort_form.specs.declared.form.Form.{Form, out-Form}
use Rattle.fort_form.specs.declared.form.Form.TheOpen.{Form-F}
use Rattle.fort_form_typed.specs.declared.typed_form.TypedForm.{TypedForm}
use Rattle.fort_typing_known.specs.declared.fault.Fault.{Fault}
use Rattle.fort_typing_known.specs.Known.{Knows}
use Rattle.fort_typing_rules.specs.declared.part.Part.{Part}
use Rattle.fort_typing_rules.specs.declared.part.Meaning.{Meaning}
use Rattle.fort_typing_rules.specs.declared.part.Meaning.TheVariants as a_meaning
use Rattle.fort_typing_rules.specs.Calls.{Calls}
use Rattle.fort_typing_rules.specs.Types.{fault}
use Rattle.fort_typing_rules.specs.Elements as element
use Rattle.fort_typing_rules.specs.Typing as rule
use Rattle.fort_typing_rules.specs.Breaking as breaking
use Rattle.fort_typing_meaning.specs.declared.frame.Outcome.{Outcome}
use Rattle.fort_typing_meaning.specs.Faults.{with_fault, breaks}
use Rattle.fort_typing_meaning.specs.Tests.{value, untyped, refused}
use Rattle.fort_typing_meaning.specs.Parts.{opened, elements}
use Rattle.fort_typing_meaning.specs.Juxtaposing.{first_place, first_of, grouping_by, grouping_of}
use Rattle.fort_typing_meaning.specs.Joining.{grows, grown_outcome, grouped_by, beside}
use Rattle.fort_typing_meaning.specs.Judging.{judged}
use Rattle.fort_typing_law_rules.specs.Deciding.{IsAccepted}
use Rattle.fort_typing_law_rules.specs.Written.{AreBound}
use Rattle.fort_typing_law_rules.specs.Typed.{AreTyped}
use Rattle.fort_typing_law_rules.specs.Exact.{IsFirst, FormBreaks, Answers, IsExact, AreExact}
use Rattle.fort_typing_law_rules.proofs.Written.{AllWritten}
use Rattle.fort_typing_law_rules.proofs.Answered.{st, at}
use Rattle.fort_typing_law_rules.proofs.Firsts.{alike, one_more, both}
use Rattle.fort_typing_law_rules.proofs.Steps.{typed-so, broken-so, of-layer, only-left}
use Rattle.fort_typing_law_rules.proofs.Elements.{EachExact, Elements, all_known, one_unknown, elements-exact}
use Rattle.fort_typing_law_rules.proofs.Rewriting.{first-told, nowhere-told}
use Rattle.fort_typing_law_rules.proofs.Pairs.{Plain, a_value, no_type}
use Rattle.fort_typing_law_rules.proofs.Stepping.{AllFit, HasUnknown}
use Rattle.fort_typing_law_rules.proofs.Growing.{GroupTold, group_told, good-told}
use Rattle.fort_typing_law_rules.proofs.Chunks.{NoPostfix, grouping-good}
use Rattle.fort_typing_law_rules.proofs.Occurring.{unknown-stands}
use Rattle.fort_typing_law_rules.proofs.Asked.{parts-known, asked-fit, asked-plain, asked-filled, one-asked, asked-unknown}

module _ (k : Knows) (A : IsAccepted k) (ps : List Part) (T : AreTyped k ps) where
  abbrev BesideBreaks : Fault → Type 0
  BesideBreaks f = element.BesideBreaks k (Calls k) ps f

  -- What a juxtaposition answers.
  pub data BesideTold (found : Option Fault) (o : Outcome) : Type 0 where
    beside_becomes : (t : TypedForm) (new : Option Fault) → element.Stands k (Calls k) ps t
        → IsFirst found BesideBreaks new → o ≡ value t new → BesideTold found o
    beside_broken : (f : Fault) (new : Option Fault) → BesideBreaks f
        → IsFirst found BesideBreaks new → o ≡ untyped new → BesideTold found o
    beside_unknown : (new : Option Fault) → HasUnknown ps → IsFirst found BesideBreaks new
        → o ≡ untyped new → BesideTold found o

  module _ (g : Grouping) (h : loose.Groups (element.elements ps) (Ok g)) where
    group-of : (f : Fault) → BesideBreaks f → element.GroupBreaks k (Calls k) ps g f
    group-of f (element.name_alone r at i e) =
        let z = one_grouping (element.elements ps) _ _ i h in absurd cc
    group-of f (element.in_group g2 i b) =
        let z = one_grouping (element.elements ps) _ _ i h in let q : g2 ≡ g = cc
        in subst (λ (x : Grouping). element.GroupBreaks k (Calls k) ps x f) q b

    grouped-told : (found : Option Fault) (o : Outcome) → GroupTold k A ps T g found
        → o ≡ grown_outcome (grows k.facts ps g found) → BesideTold found o
    grouped-told found o (group_told q new G P i e why) is = by P
      where
        all : IsFirst found BesideBreaks new
        all = alike found (element.GroupBreaks k (Calls k) ps g) BesideBreaks new
            (λ f b. element.in_group g h b) group-of i

        so : (m : Meaning) → q.meaning ≡ m → o ≡ record { seen = m; found = new }
        so m z = is ∙ ap grown_outcome e ∙ ap (λ (x : Meaning). record { seen = x; found = new }) z

        caused : o ≡ untyped new
            → ((f : Fault) × element.GroupBreaks k (Calls k) ps g f) ⊎ HasUnknown ps
            → BesideTold found o
        caused z (inl (f, b)) = beside_broken f new (element.in_group g h b) all z
        caused z (inr u) = beside_unknown new u all z

        by : Plain q → BesideTold found o
        by (a_value u z) =
            beside_becomes u new (element.grouped g q h G z) all (so (a_meaning.Value u) z)
        by (no_type z) = caused (so a_meaning.Unknown z) (why z)

  -- a name that ends its chunk
  only-refused : (r : Rule) (at : Place)
      → loose.Groups (element.elements ps) (Err (a_fault.Refused r at)) → (f : Fault)
      → BesideBreaks f → f ≡ fault r at
  only-refused r at h f (element.name_alone r2 at2 i e) =
      let z = one_grouping (element.elements ps) _ _ i h in
      let p : r2 ≡ r = cc in
      let q : at2 ≡ at = cc in
      e ∙ ap (λ (x : Rule). fault x at2) p ∙ ap (λ (x : Place). fault r x) q
  only-refused r at h f (element.in_group g i b) =
      absurd (let z = one_grouping (element.elements ps) _ _ i h in cc)

  name-told : (r : Rule) (at : Place)
      → loose.Groups (element.elements ps) (Err (a_fault.Refused r at)) → (found : Option Fault)
      → BesideTold found (refused r at found)
  unfolding breaks
  name-told r at h found =
      beside_broken (fault r at) (with_fault (fault r at) found) (element.name_alone r at h refl)
      (alike found (λ f. f
      ≡ fault r at) BesideBreaks (with_fault (fault r at) found)
      (λ f e. element.name_alone r at h e) (only-refused r at h)
      (one_more (fault r at) found)) refl

  pub beside-told : AllFit ps → NoPostfix ps → (element.elements ps ≡ [] → ⊥)
      → (found : Option Fault) → BesideTold found (beside k.facts ps found)
  unfolding beside grouping_of
  beside-told F N filled found = by (first_place loose.name_ends zero (element.elements ps)) refl
    where
      by : (o : Option (ℕ × List Element))
          → first_place loose.name_ends zero (element.elements ps) ≡ o
          → BesideTold found (grouped_by k.facts ps (grouping_by (element.elements ps) o) found)
      by (Some (n, [])) e =
          let m = first-told loose.name_ends zero n (element.elements ps) [] e in absurd
          (let z : false ≡ true = m.2.met in cc)
      by (Some (n, x ∷ after)) e =
          let m = first-told loose.name_ends zero n (element.elements ps) (x ∷ after) e in
          name-told FUNCTION_AS_VALUE x.place (loose.name_alone m.0 after x m.2 refl) found
      by None e =
          let never = nowhere-told loose.name_ends zero (element.elements ps) e in
          let G = grouping-good k A ps T F N never filled (chunks_of (element.elements ps))
          (divided (element.elements ps)) in
          grouped-told G.0
          (loose.grouped never (chunks_of (element.elements ps)) (divided (element.elements ps))
          G.0 G.1 refl) found _ (good-told k A ps T G.2 found)
          (ap (λ (r : Result Grouping CheckFault). grouped_by k.facts ps r found) (ap first_of G.1))

module _ (k : Knows) where
  no-postfixes : (es : List Form) → AreExact k es
      → AllByRecursion (λ (d : Form). rule.postfix_at (out-Form d) ≡ false) es
  no-postfixes [] X = tt
  no-postfixes (d ∷ ds) X = (X.0.0, no-postfixes ds X.1)

  exact-each : (es : List Form) → AreExact k es → AllByRecursion (IsExact k) es
  exact-each [] X = tt
  exact-each (d ∷ ds) X = (X.0.1, exact-each ds X.1)

module _ (k : Knows) (A : IsAccepted k) (bs : List Binding) (B : AreBound k bs) (e : Form)
    (found : Option Fault) (p : Place) (d : Form) (ds : List Form)
    (is : out-Form e ≡ Form-F.Beside p (d ∷ ds)) (W : AllWritten k (d ∷ ds))
    (X : AreExact k (d ∷ ds)) where
  abbrev Goal : Type 0
  Goal = Answers k bs e found ((judged k.facts e).answer bs found)

  abbrev Inside : List Part → Fault → Type 0
  Inside ps f = breaking.BreaksParts k bs (d ∷ ds) f ⊎ element.BesideBreaks k (Calls k) ps f

  each : EachExact k A bs B (d ∷ ds)
  each = exact-each k (d ∷ ds) X

  module _ (ps : List Part) (mid : Option Fault) (asked : breaking.AsksParts k bs (d ∷ ds) ps)
      (T : AreTyped k ps) (i : IsFirst found (breaking.BreaksParts k bs (d ∷ ds)) mid)
      (eq : elements (map (judged k.facts) (d ∷ ds)) (st opened bs found)
      ≡ st (record opened { parts = ps }) bs mid) where
    to : (f : Fault) → Inside ps f → FormBreaks k bs e f
    to f (inl b) = inl (breaking.in_beside p (d ∷ ds) is b)
    to f (inr b) = inl (breaking.no_beside p (d ∷ ds) ps is asked b)

    from : (f : Fault) → FormBreaks k bs e f → Inside ps f
    from f b = by (only-left k A (of-layer k A bs e f is b))
      where
        by : breaking.BreaksParts k bs (d ∷ ds) f
            ⊎ ((qs : List Part) × breaking.AsksParts k bs (d ∷ ds) qs
            × element.BesideBreaks k (Calls k) qs f) → Inside ps f
        by (inl x) = inl x
        by (inr (qs, h, x)) =
            inr (subst (λ
            (zs : List Part). element.BesideBreaks k (Calls k) zs f)
            (one-asked k A bs B (d ∷ ds) qs ps W each h asked) x)

    so : (o : Outcome) → beside k.facts ps mid ≡ o → (judged k.facts e).answer bs found ≡ o
    so o q = at k A e bs found (st (record opened { parts = ps }) bs mid) is eq q

    all : (new : Option Fault) → IsFirst mid (element.BesideBreaks k (Calls k) ps) new
        → IsFirst found (Inside ps) new
    all new j =
        both found mid new (breaking.BreaksParts k bs (d ∷ ds))
        (element.BesideBreaks k (Calls k) ps) i j

    told : BesideTold k A ps T mid (beside k.facts ps mid)
    told = beside-told k A ps T (asked-fit k bs (d ∷ ds) ps asked)
        (asked-plain k bs (d ∷ ds) ps (no-postfixes k (d ∷ ds) X) asked)
        (asked-filled k bs d ds ps asked) mid

    known-beside : rule.HasParts k (Calls k) bs (d ∷ ds) ps → Goal
    known-beside hs = by told
      where
        by : BesideTold k A ps T mid (beside k.facts ps mid) → Goal
        by (beside_becomes t new b j q) =
            typed-so k A bs e found new (Inside ps) _ (all new j) to t
            (rule.beside p (d ∷ ds) ps is hs b) from (so _ q)
        by (beside_broken f new b j q) =
            broken-so k A bs e found new (Inside ps) _ (all new j) to f (inr b) from (so _ q)
        by (beside_unknown new u j q) = absurd (parts-known k hs u)

    unknown-beside : (f : Fault) → breaking.BreaksParts k bs (d ∷ ds) f → Goal
    unknown-beside f x = by told
      where
        by : BesideTold k A ps T mid (beside k.facts ps mid) → Goal
        by (beside_becomes t new b j q) =
            absurd (unknown-stands k A ps t b (asked-unknown k A bs B (d ∷ ds) ps W each asked f x))
        by (beside_broken g new b j q) =
            broken-so k A bs e found new (Inside ps) _ (all new j) to g (inr b) from (so _ q)
        by (beside_unknown new u j q) =
            broken-so k A bs e found new (Inside ps) _ (all new j) to f (inl x) from (so _ q)

  pub beside-exact : Goal
  beside-exact = by (elements-exact k A bs B (d ∷ ds) opened found W each)
    where
      by : Elements k A bs B (d ∷ ds) opened found
          (elements (map (judged k.facts) (d ∷ ds)) (st opened bs found)) → Goal
      by (all_known ps mid hs asked T i eq) = known-beside ps mid asked T i eq hs
      by (one_unknown f ps mid x asked T i eq) = unknown-beside ps mid asked T i eq f x
