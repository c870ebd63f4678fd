-- What comes of a juxtaposition, as the judge computes it.
use Rattle.std.proofs.Common.{◌≡◌, Bool, true, false, cond, List, Option, None, Ok, refl, ap, ◌∙◌, sym}
use Rattle.fort_base.specs.declared.refusal.Place.{Place}
use Rattle.fort_base.specs.declared.rules.TheConstants.{MISMATCH}
use Rattle.fort_juxt.specs.declared.elements.Grouping.{Grouping, out-Grouping, map-Grouping, fold_out-Grouping}
use Rattle.fort_juxt.specs.declared.elements.Grouping.TheOpen.{Grouping-F}
use Rattle.fort_form_typed.specs.declared.typed_form.TypedForm.{TypedForm}
use Rattle.fort_typing_known.specs.declared.fault.Fault.{Fault}
use Rattle.fort_typing_known.specs.Known.{Knows}
use Rattle.fort_typing_rules.specs.declared.part.Part.{Part}
use Rattle.fort_typing_rules.specs.declared.part.Meaning.{Meaning}
use Rattle.fort_typing_rules.specs.declared.part.Meaning.TheVariants as a_meaning
use Rattle.fort_typing_rules.specs.Types.{type_of, is_nothing}
use Rattle.fort_typing_rules.specs.Calls.{Calls}
use Rattle.fort_typing_rules.specs.Elements as rule
use Rattle.fort_typing_meaning.specs.declared.frame.Made.{Made}
use Rattle.fort_typing_meaning.specs.Faults.{breaks}
use Rattle.fort_typing_meaning.specs.Joining.{applied, joined, Grown, grown, barred_found, as_grown, Grows, grows_by, grows_two, grows_one, grows_at, grows, grown_outcome, grouped_by, beside}
use Rattle.fort_typing_law_rules.specs.Deciding.{IsAccepted}
use Rattle.fort_typing_law_rules.specs.Typed.{AreTyped}
use Rattle.fort_typing_law_rules.proofs.Typed.{part-typed, grouped-typed}
use Rattle.fort_typing_law_rules.specs.Laws.{BesideIsComputed, OneBeside}
use Rattle.fort_typing_law_rules.proofs.Juxtaposing.{grouping_is_computed}
use Rattle.fort_typing_law_rules.proofs.Running.{to, applies-is, joins-is, value-once}

-- ---- parts that are known

pub not_both : {c : Bool} → c ≡ true → c ≡ false → ⊥
not_both h i = absurd cc

value_known : (p : Part) (t : TypedForm) (c : Bool) (found : Option Fault)
    → rule.is_unknown_by (cond c a_meaning.Unknown (a_meaning.Value t)) ≡ false
    → cond c (breaks MISMATCH p.place found) found ≡ found
value_known p t true found h = absurd cc
value_known p t false found h = refl

meaning_known : (p : Part) (m : Meaning) (found : Option Fault)
    → rule.is_unknown_by (rule.barred_by m) ≡ false → barred_found p m found ≡ found
meaning_known p a_meaning.Unknown found h = refl
meaning_known p (a_meaning.Value t) found h = value_known p t (is_nothing (type_of t)) found h
meaning_known p (a_meaning.Functions name) found h = refl
meaning_known p (a_meaning.Index t) found h = refl
meaning_known p (a_meaning.Exponent t) found h = refl
meaning_known p (a_meaning.Field at name) found h = refl
meaning_known p (a_meaning.Method at name ts) found h = refl

pub known_first : (m : Meaning) → rule.is_unknown_by (rule.barred_by m) ≡ false
    → rule.is_unknown_by m ≡ false
known_first a_meaning.Unknown h = h
known_first (a_meaning.Value t) h = refl
known_first (a_meaning.Functions name) h = refl
known_first (a_meaning.Index t) h = refl
known_first (a_meaning.Exponent t) h = refl
known_first (a_meaning.Field at name) h = refl
known_first (a_meaning.Method at name ts) h = refl

module _ (k : Knows) (A : IsAccepted k) where
  pub applied_known : (f a : Part) (m : rule.Made) → rule.Applies k (Calls k) f a m
      → (rule.is_unknown f ≡ false) × (rule.is_unknown a ≡ false)
  applied_known f a m (rule.call name u result widened fm am c me) =
      (ap rule.is_unknown_by fm, ap rule.is_unknown_by am)
  applied_known f a m (rule.no_call name u r fm am c me) =
      (ap rule.is_unknown_by fm, ap rule.is_unknown_by am)
  applied_known f a m (rule.value g u domain result fm arrow am b me) =
      (ap rule.is_unknown_by fm, ap rule.is_unknown_by am)
  applied_known f a m (rule.no_argument g u domain result fm arrow am b me) =
      (ap rule.is_unknown_by fm, ap rule.is_unknown_by am)

  pub joined_known : (a b : Part) (m : rule.Made) → rule.Joins k (Calls k) a b m
      → (rule.is_unknown a ≡ false) × (rule.is_unknown b ≡ false)
  joined_known a b m (rule.joining u v result widened am bm c me) =
      (ap rule.is_unknown_by am, ap rule.is_unknown_by bm)
  joined_known a b m (rule.no_joining u v r am bm c me) =
      (ap rule.is_unknown_by am, ap rule.is_unknown_by bm)

  module _ (ps : List Part) (P : AreTyped k ps) where
    grows-out : (g : Grouping)
        → grows k.facts ps g
        ≡ grows_at k.facts ps (map-Grouping Grouping Grows (grows k.facts ps) (out-Grouping g))
    unfolding grows
    grows-out g = fold_out-Grouping Grows (grows_at k.facts ps) g

    pub from : (g : Grouping) {x : Grouping-F Grouping} (found : Option Fault) → out-Grouping g ≡ x
        → grows k.facts ps g found
        ≡ grows_at k.facts ps (map-Grouping Grouping Grows (grows k.facts ps) x) found
    from g found is =
        ap (λ (f : Grows). f found) (grows-out g
        ∙ ap (λ y. grows_at k.facts ps (map-Grouping Grouping Grows (grows k.facts ps) y)) is)

    -- what two parts give is the element that it is said to be
    gives_part : (q : Part) (place : Place) (m : rule.Made) (found : Option Fault)
        → q ≡ rule.made place (rule.meaning_of true m) → rule.is_unknown q ≡ false
        → grown place (to m) found ≡ record { part = q; found = found }
    gives_part q place (rule.gives t) found is known =
        ap (λ (p : Part). record { part = p; found = found }) (sym is)
    gives_part q place (rule.breaks r at) found is known =
        absurd (not_both (ap rule.is_unknown is) known)

    two_parts : (way : Part → Part → Made) (a b : Grows) (p r q : Part) (m : rule.Made)
        (found : Option Fault) → rule.is_unknown (rule.as_part p) ≡ false
        → rule.is_unknown (rule.as_part r) ≡ false
        → a found ≡ record { part = p; found = found }
        → b found ≡ record { part = r; found = found }
        → way (rule.as_part p) (rule.as_part r) ≡ to m
        → q ≡ rule.made p.place (rule.meaning_of true m) → rule.is_unknown q ≡ false
        → grows_two way a b found ≡ record { part = q; found = found }
    two_parts way a b p r q m found kp kr ha hb w is known =
        ap (λ (x : Grown). grows_by way (as_grown x) (as_grown (b (as_grown x).found))) ha
        ∙ ap (λ (n : Option Fault). grows_by way (record { part = rule.as_part p; found = n })
        (as_grown (b n))) (meaning_known p p.meaning found kp)
        ∙ ap (λ (x : Grown). grows_by way (record { part = rule.as_part p; found = found })
        (as_grown x)) hb
        ∙ ap (λ (n : Option Fault). grows_by way (record { part = rule.as_part p; found = found })
        (record { part = rule.as_part r; found = n })) (meaning_known r r.meaning found kr)
        ∙ ap (λ (n : Made). grown p.place n found) w
        ∙ gives_part q p.place m found is known

    grows-is : {g : Grouping} {q : Part} → rule.Grouped k (Calls k) ps g q → (found : Option Fault)
        → rule.is_unknown q ≡ false → grows k.facts ps g found ≡ record { part = q; found = found }
    grows-is {g = g} (rule.of_one i is at) found known =
        from g found is ∙ ap (λ o. grows_one o found) at
    grows-is {g = g} {q = q} (rule.of_applied a b p r m is ga gb h qe) found known =
        let w = applied_known (rule.as_part p) (rule.as_part r) m h in
        from g found is
        ∙ two_parts (applied k.facts) (grows k.facts ps a) (grows k.facts ps b) p r q m found
        w.0 w.1
        (grows-is ga found (known_first p.meaning w.0))
        (grows-is gb found (known_first r.meaning w.1))
        (applies-is k A (rule.as_part p) (rule.as_part r) m
        (part-typed k A p (grouped-typed k A ps ga P))
        (part-typed k A r (grouped-typed k A ps gb P)) h) qe known
    grows-is {g = g} {q = q} (rule.of_joined a b p r m is ga gb h qe) found known =
        let w = joined_known (rule.as_part p) (rule.as_part r) m h in
        from g found is
        ∙ two_parts (joined k.facts) (grows k.facts ps a) (grows k.facts ps b) p r q m found w.0
        w.1
        (grows-is ga found (known_first p.meaning w.0))
        (grows-is gb found (known_first r.meaning w.1))
        (joins-is k A (rule.as_part p) (rule.as_part r) m
        (part-typed k A p (grouped-typed k A ps ga P))
        (part-typed k A r (grouped-typed k A ps gb P)) h) qe known
    grows-is (rule.of_unapplied a b p r is ga gb u qe) found known =
        absurd (not_both (ap rule.is_unknown qe) known)
    grows-is (rule.of_unjoined a b p r is ga gb u qe) found known =
        absurd (not_both (ap rule.is_unknown qe) known)

pub beside_is_computed : BesideIsComputed
unfolding beside
beside_is_computed k A ps P t (rule.grouped g q gr h m) found =
    ap (λ r. grouped_by k.facts ps r found) (grouping_is_computed (rule.elements ps) (Ok g) gr)
    ∙ ap grown_outcome (grows-is k A ps P h found (ap rule.is_unknown_by m))
    ∙ ap (λ (w : Meaning). record { seen = w; found = found }) m

pub one_beside : OneBeside
one_beside k A ps P t u h i =
    value-once (sym (beside_is_computed k A ps P t h None) ∙ beside_is_computed k A ps P u i None)
