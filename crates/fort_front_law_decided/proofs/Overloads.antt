-- No component that has members neither keeps the overload rules, nor breaks one of them.
use Rattle.std.proofs.Common.{◌≡◌, ◌<◌, ◌≤◌, ◌⊎◌, inl, inr, ℕ, length, Some, refl, sym, subst, arith}
use Rattle.std.specs.List.{slice_get}
use Rattle.std.specs.Prelude.{get_or, None}
use Rattle.std.proofs.lemmas.Option.{slice_get_within}
use Rattle.fort_base.specs.declared.refusal.Place.{Place}
use Rattle.fort_base.specs.declared.refusal.Rule.{Rule}
use Rattle.fort_base.specs.declared.rules.TheConstants.{ABSTRACT_NOT_COVERED, SAME_PARAMETERS, RESULT_NOT_BELOW, NO_MEET, MEET_NOT_DECLARED, ARROW_OVERLAP, TOO_WIDE}
use Rattle.fort_base.specs.declared.table.TypeTable.{TypeTable}
use Rattle.fort_tree_type_names.specs.TypeNames.{type_names}
use Rattle.fort_types.specs.Hierarchy.{DeclaredTypes, Sound}
use Rattle.fort_types.specs.Laws.{RelationIsBelow}
use Rattle.fort_types.specs.Table.{HasRows}
use Rattle.fort_hier.specs.Hierarchies.{declares}
use Rattle.fort_hier.specs.Laws.{AcceptedIsSound}
use Rattle.fort_types_sets.specs.declared.member.Member.{Member}
use Rattle.fort_types_sets.specs.declared.member.MemberSet.{MemberSet}
use Rattle.fort_types_sets.specs.declared.member.Members.{Members}
use Rattle.fort_types_sets.specs.Applicable.{Somewhere, IsMoreSpecific}
use Rattle.fort_types_sets.specs.Coverage.{IsCovered}
use Rattle.fort_types_sets.specs.Meets.{ArrowsClash, HasNone, AreTooMany}
use Rattle.fort_types_sets.specs.Pairs as broken
use Rattle.fort_types_sets.specs.Pairs.{NeverMeet, AreUnordered, AreCovered, ChoicesCovered, Passes, aside, ordered, reversed, met, Breaks}
use Rattle.fort_types_sets.specs.Rules.{StandsAt, IsWellMade, KeepsRules}
use Rattle.fort_member.specs.Laws.{SetsAreWellMade}
use Rattle.fort_over.specs.Answers.{KeepAllRules, IsUncovered, IsReported}
use Rattle.fort_over.specs.Standing.{standing, Spot, StandsBefore, pairs_of, NoneBroken}
use Rattle.fort_front_law_decided.specs.Phases.{OverloadsDecide}
use Rattle.fort_front_law_decided.proofs.Order.{by_lower, by_before, none_earliest}
use Rattle.fort_front_law_decided.proofs.Claims.{CantFail, all_below}
use Rattle.fort_front_law_decided.proofs.Items.{item_at}
use Rattle.fort_front_law_decided.proofs.Deciding.{result_or, covered_or, choice_numbered, object_or}

-- ---- where pairs stand

abbrev spot_at : Place → Place → ℕ → ℕ → ℕ → Spot
spot_at later_place earlier_place number later earlier = record {
  later_place = later_place;
  earlier_place = earlier_place;
  number = number;
  later = later;
  earlier = earlier;
}

-- What is so of a pair where it is so of all that stand before it is so of each.
module _ (P : Spot → Type 0) (step : (a : Spot) → ((b : Spot) → StandsBefore b a → P b) → P a) where
  moved : (b : Spot) (l e : Place) (n i : ℕ) → b.later_place ≡ l → b.earlier_place ≡ e
      → b.number ≡ n → b.later ≡ i → P (spot_at l e n i b.earlier) → P b
  moved b l e n i p q r s w =
      subst (λ z. P (spot_at z b.earlier_place b.number b.later b.earlier)) (sym p)
      (subst (λ z. P (spot_at l z b.number b.later b.earlier)) (sym q)
      (subst (λ z. P (spot_at l e z b.later b.earlier)) (sym r)
      (subst (λ z. P (spot_at l e n z b.earlier)) (sym s) w)))

  spots : (l e : Place) (n i j : ℕ) → P (spot_at l e n i j)
  spots = by_before (λ l. (e : Place) (n i j : ℕ) → P (spot_at l e n i j))
      (λ l by_later. by_before (λ e. (n i j : ℕ) → P (spot_at l e n i j))
      (λ e by_earlier. by_lower (λ n. (i j : ℕ) → P (spot_at l e n i j))
      (λ n by_set. by_lower (λ i. (j : ℕ) → P (spot_at l e n i j))
      (λ i by_second. by_lower (λ j. P (spot_at l e n i j))
      (λ j by_first. step (spot_at l e n i j) (λ b before. elim before as (λ _. P b) [
        | inl places ↦ (elim places as (λ _. P b) [
          | inl x ↦ by_later b.later_place x b.earlier_place b.number b.later b.earlier
          | inr x ↦
              moved b l b.earlier_place b.number b.later x.0 refl refl refl
              (by_earlier b.earlier_place x.1 b.number b.later b.earlier)
        ])
        | inr w ↦ (elim w.2 as (λ _. P b) [
          | inl x ↦
              moved b l e b.number b.later w.0 w.1 refl refl (by_set b.number x b.later b.earlier)
          | inr v ↦ (elim v.1 as (λ _. P b) [
            | inl x ↦ moved b l e n b.later w.0 w.1 v.0 refl (by_second b.later x b.earlier)
            | inr x ↦ moved b l e n i w.0 w.1 v.0 x.0 (by_first b.earlier x.1)
          ])
        ])
      ]))))))

  pub by_standing : (a : Spot) → P a
  by_standing a = spots a.later_place a.earlier_place a.number a.later a.earlier

-- ---- two declarations of a set

earlier_or : (i j : ℕ) → (i < j) ⊎ (j ≤ i)
earlier_or i j = grind arith

module _ (asked : RelationIsBelow) (h : DeclaredTypes) (table : TypeTable) (sound : Sound h)
    (rows : HasRows h table) where
  module _ (s : MemberSet) (made : IsWellMade h s) (i j : ℕ) (p q : Member) (st : StandsAt s i p)
      (su : StandsAt s j q) (kept : (rule : ℕ) → Breaks h s p q rule → ⊥) where
    -- neither is more specific, and they may meet
    unordered : AreUnordered h s p q → CantFail (Passes h s p q)
    unordered u none = none (met u clash no_meet wide covered)
      where
        clash : Somewhere (ArrowsClash h) p.parameters q.parameters → ⊥
        clash w = kept ARROW_OVERLAP.0 (broken.arrow_overlap refl u w)

        no_meet : Somewhere (HasNone h) p.parameters q.parameters → ⊥
        no_meet w = kept NO_MEET.0 (broken.no_meet refl u clash w)

        wide : AreTooMany h p.parameters q.parameters → ⊥
        wide w = kept TOO_WIDE.0 (broken.too_wide refl u clash no_meet w)

        covered : ChoicesCovered h s.members p q
        covered types choice =
            elim (covered_or asked h table sound rows s made i j p q st su types
            (choice_numbered asked h table sound rows s made i j p q st su types choice)) as
            (λ _. AreCovered h s.members p q types) [
              | inl c ↦ c
              | inr n ↦ absurd (kept MEET_NOT_DECLARED.0
                  (broken.not_declared refl u clash no_meet wide types choice n))
            ]

    -- Two declarations that break no rule pass.
    pub pass : CantFail (Passes h s p q)
    pass none = unordered (record {
      unequal = unequal;
      may_meet = may_meet;
      not_first = not_first;
      not_second = not_second;
    }) none
      where
        unequal : p.parameters ≡ q.parameters → ⊥
        unequal e = kept SAME_PARAMETERS.0 (broken.same_parameters refl e)

        may_meet : NeverMeet h s p q → ⊥
        may_meet n = none (aside unequal n)

        not_first : IsMoreSpecific h p q → ⊥
        not_first w =
            elim (result_or asked h table sound rows s made i j p q st su) as (λ _. ⊥) [
              | inl b ↦ none (ordered unequal w b)
              | inr n ↦ kept RESULT_NOT_BELOW.0 (broken.first_result refl unequal may_meet w n)
            ]

        not_second : IsMoreSpecific h q p → ⊥
        not_second w =
            elim (result_or asked h table sound rows s made j i q p su st) as (λ _. ⊥) [
              | inl b ↦ none (reversed unequal w b)
              | inr n ↦ kept RESULT_NOT_BELOW.0 (broken.second_result refl unequal may_meet w n)
            ]

  -- ---- all sets

  module _ (m : Members) (made : (n : ℕ) (s : MemberSet) → slice_get m.sets n ≡ Some s → IsWellMade h s)
      (unbroken : ((rule : Rule) × (at : Place) × IsReported h m rule.0 at) → ⊥) where
    abbrev HasBreak : Spot → Type 0
    HasBreak a = (s : MemberSet) × (p q : Member) × (rule : ℕ) × pairs_of m.sets a s p q
        × Breaks h s p q rule

    no_break : (a : Spot) → HasBreak a → ⊥
    no_break = by_standing (λ a. HasBreak a → ⊥) (λ a before b.
        unbroken (
          record { 0 = b.3 },
          a.later_place,
          inl (
            a,
            refl,
            record {
              s = b.0;
              p = b.1;
              q = b.2;
              asked = b.4;
              breaks = b.5;
              none_before = λ other t x y number pair w l.
                  before other l (t, x, y, number, pair, w);
            },
          ),
        ))

    none_broken : NoneBroken h (pairs_of m.sets)
    none_broken a s p q rule pair w = no_break a (s, p, q, rule, pair, w)

    none_uncovered : (at : Place) → IsUncovered h m at → ⊥
    none_uncovered = none_earliest (IsUncovered h m)
        (λ at first. unbroken (ABSTRACT_NOT_COVERED, at, inr (refl, none_broken, first)))

    -- the place at which two declarations of a set would break a rule
    kept_at : (n i j : ℕ) (s : MemberSet) (p q : Member) → slice_get m.sets n ≡ Some s
        → StandsAt s i p → StandsAt s j q → i < j → (rule : ℕ) → Breaks h s p q rule → ⊥
    kept_at n i j s p q e st su l rule =
        none_broken (spot_at (standing q.place) (standing p.place) n j i) s p q rule (
          e,
          record {
            earlier = st;
            later = su;
            in_order = l;
            earlier_place = refl;
            later_place = refl;
          },
        )

    abbrev PassAt : MemberSet → ℕ → ℕ → Type 0
    PassAt s i j = (p q : Member) → StandsAt s i p → StandsAt s j q → i < j → Passes h s p q

    pass_at : (n : ℕ) (s : MemberSet) → slice_get m.sets n ≡ Some s → (i j : ℕ)
        → i < length s.members → j < length s.members → CantFail (PassAt s i j)
    pass_at n s e i j a b none = elim (earlier_or i j) as (λ _. ⊥) [
      | inr l ↦ none (λ p q st su k. absurd (omega arith))
      | inl l ↦
          (let x = item_at s.members i a in let y = item_at s.members j b in
          pass s (made n s e) i j x.0 y.0 x.1 y.1 (kept_at n i j s x.0 y.0 e x.1 y.1 l)
          (λ w. none (λ p q st su k. same p q x.0 y.0 st su x.1 y.1 w)))
    ]
      where
        same : (p q x y : Member) → StandsAt s i p → StandsAt s j q → StandsAt s i x
            → StandsAt s j y → Passes h s x y → Passes h s p q
        same p q x y st su sx sy w =
            let f : x ≡ p = cc in let g : y ≡ q = cc in
            subst (λ z. Passes h s z q) f (subst (λ z. Passes h s x z) g w)

    keeps : (n : ℕ) (s : MemberSet) → slice_get m.sets n ≡ Some s → CantFail (KeepsRules h s)
    keeps n s e none =
        all_below (λ i. (j : ℕ) → j < length s.members → PassAt s i j) (length s.members)
        (λ i a. all_below (PassAt s i) (length s.members) (λ j b. pass_at n s e i j a b))
        (λ f. none (record {
          pairs = λ i j p q st su l.
              f i (slice_get_within s.members i p st) j (slice_get_within s.members j q su) p q st su l;
          covered = λ i at d t o st is below.
              elim (object_or asked h table sound rows s (made n s e) i at d t o st below) as
              (λ _. IsCovered h s d at o) [
                | inl c ↦ c
                | inr u ↦ absurd (none_uncovered (standing (get_or m.places o.0 None)) (record {
                  n = n;
                  i = i;
                  at = at;
                  s = s;
                  d = d;
                  t = t;
                  o = o;
                  set_is = e;
                  stands = st;
                  is_abstract = is;
                  is_below = below;
                  uncovered = u;
                  place_is = refl;
                }))
              ];
        }))

    pub all_keep : CantFail (KeepAllRules h m)
    all_keep none =
        all_below (λ n. (s : MemberSet) → slice_get m.sets n ≡ Some s → KeepsRules h s)
        (length m.sets) each_set (λ f. none (λ n s e. f n (slice_get_within m.sets n s e) s e))
      where
        each_set : (n : ℕ) → n < length m.sets
            → CantFail ((s : MemberSet) → slice_get m.sets n ≡ Some s → KeepsRules h s)
        each_set n l never = let x = item_at m.sets n l in
            keeps n x.0 x.1 (λ w. never (λ s e. let q : x.0 ≡ s = one_set n x.0 s x.1 e
            in subst (KeepsRules h) q w))
          where
            one_set : (n : ℕ) (x s : MemberSet) → slice_get m.sets n ≡ Some x
                → slice_get m.sets n ≡ Some s → x ≡ s
            one_set n x s e f = cc

pub kept_or_report : AcceptedIsSound → RelationIsBelow → SetsAreWellMade → OverloadsDecide
kept_or_report sound asked made c h m is are none unbroken =
    all_keep asked (declares c) h.table (sound c (type_names c) h is) is.rows m (made c h is m are)
    unbroken none
