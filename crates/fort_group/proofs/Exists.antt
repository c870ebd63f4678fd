-- Each flat expression has a grouping that breaks no rule, or breaks one.
use Rattle.std.proofs.Common.{◌≡◌, ℕ, zero, suc, ◌+◌, ◌-◌, ◌<◌, ◌≤◌, Bool, true, false, List, length, get_or, Option, Some, None, IsTrue, ◌⊎◌, inl, inr, refl, ap, arith, subst}
use Rattle.std.proofs.lemmas.Bool.{cases_lt}
use Rattle.std.proofs.lemmas.Option.{slice_get-get_or}
use Rattle.fort_base.specs.declared.rules.TheConstants.{MIXED_SPACING, NO_PRECEDENCE, SPACING_CONTRADICTS, BAD_CHAIN}
use Rattle.fort_base.specs.declared.refusal.Place.{Place}
use Rattle.fort_base.specs.declared.refusal.Rule.{Rule}
use Rattle.fort_ops.specs.declared.op.Op.{Op}
use Rattle.fort_ops.specs.declared.precedence.Group.{Group}
use Rattle.fort_ops.specs.declared.precedence.Group.TheVariants.{Sum}
use Rattle.fort_ops.specs.Precedence.{group_of}
use Rattle.fort_tree.specs.declared.grouped.Joint.{Joint}
use Rattle.fort_tree.specs.declared.grouped.Joint.TheVariants.{Beside}
use Rattle.fort_tree.specs.declared.grouped.Row.{Row}
use Rattle.fort_tree.specs.declared.grouped.Grouped.{Grouped, out-Grouped}
use Rattle.fort_tree.specs.declared.grouped.Grouped as tree
use Rattle.fort_tree.specs.declared.grouped.Grouped.TheOpen.{Grouped-F}
use Rattle.fort_group.specs.declared.form.Form.{Form}
use Rattle.fort_group.specs.declared.form.Form.TheVariants as a_form
use Rattle.fort_group.specs.Joints.{operator_of, operator_in, between, strength}
use Rattle.fort_group.specs.Grouping.{form_of, root, fits, Fits, FitsLeft, SameSide, Continues}
use Rattle.fort_group.specs.Joining.{juxtaposed, linked, JoinsBy, IsWeakest, IsTheGrouping}
use Rattle.fort_group.specs.Numbers.{number}
use Rattle.fort_group.specs.Spacing.{first_mixed}
use Rattle.fort_group.specs.Walks.{spaced, sensible}
use Rattle.fort_group.specs.Answers.{Breaks, IsGrouped, EachAnswered}
use Rattle.fort_group.proofs.Numbers.{number_once}
use Rattle.fort_group.proofs.Weakest.{one_place, keeps, moves}
use Rattle.fort_group.proofs.Whole.{one_unit, none_left, none_right, both}
use Rattle.fort_group.proofs.Rules.{mixed, none_there, contradicts, senseless, whole}

-- ---- what the code asks has an answer

same_or : (a b : Op) → (a ≡ b) ⊎ ((a ≡ b) → ⊥)
same_or a b = elim (cases_lt (number a) (number b)) as (λ z. (a ≡ b) ⊎ ((a ≡ b) → ⊥)) [
  | inl h ↦ inr (λ e. let d : number a ≡ number b = ap number e in absurd (omega arith))
  | inr h ↦ elim (cases_lt (number b) (number a)) as (λ z. (a ≡ b) ⊎ ((a ≡ b) → ⊥)) [
    | inl h' ↦ inr (λ e. let d : number a ≡ number b = ap number e in absurd (omega arith))
    | inr h' ↦ inl (number_once a b (omega arith))
  ]
]

sum_or : (g : Group) → (g ≡ Sum) ⊎ ((g ≡ Sum) → ⊥)
sum_or Sum = inl refl
sum_or _ = inr (λ e. cc)

not_side : (other op : Op) → ((other ≡ op) → ⊥) → ((group_of other ≡ Sum) × (group_of op ≡ Sum) → ⊥)
    → SameSide other op → ⊥
not_side other op n m (inl e) = n e
not_side other op n m (inr p) = m p

side_or : (other op : Op) → SameSide other op ⊎ (SameSide other op → ⊥)
side_or other op = elim (same_or other op) as (λ z. SameSide other op ⊎ (SameSide other op → ⊥)) [
  | inl e ↦ inl (inl e)
  | inr n ↦ elim (sum_or (group_of other)) as (λ z. SameSide other op ⊎ (SameSide other op → ⊥)) [
    | inr a ↦ inr (not_side other op n (λ p. a p.0))
    | inl a ↦ elim (sum_or (group_of op)) as (λ z. SameSide other op ⊎ (SameSide other op → ⊥)) [
      | inl b ↦ inl (inr (a, b))
      | inr b ↦ inr (not_side other op n (λ p. b p.1))
    ]
  ]
]

continues_or : (t : Grouped-F Grouped) (op : Op) → Continues t op ⊎ (Continues t op → ⊥)
continues_or (Grouped-F.Binary other l r) op = side_or other op
continues_or (Grouped-F.Unit n) op = inr (λ z. z)
continues_or (Grouped-F.Chain ops parts) op = inr (λ z. z)
continues_or (Grouped-F.Juxt units) op = inr (λ z. z)

true_or : (b : Bool) → IsTrue b ⊎ (IsTrue b → ⊥)
true_or true = inl refl
true_or false = inr (λ e. cc)

neither : (l : Grouped) (op : Op) → (Fits l (group_of op) → ⊥) → (Continues (out-Grouped l) op → ⊥)
    → FitsLeft l op → ⊥
neither l op n m (inl e) = n e
neither l op n m (inr c) = m c

left_or : (l : Grouped) (op : Op) → FitsLeft l op ⊎ (FitsLeft l op → ⊥)
left_or l op =
    elim (true_or (fits (root l) (group_of op))) as (λ z. FitsLeft l op ⊎ (FitsLeft l op → ⊥)) [
      | inl e ↦ inl (inl e)
      | inr n ↦ elim (continues_or (out-Grouped l) op) as (λ z. FitsLeft l op ⊎ (FitsLeft l op → ⊥)) [
        | inl c ↦ inl (inr c)
        | inr m ↦ inr (neither l op n m)
      ]
    ]

-- ---- a join, a place and a grouping are there

joins_by : (form : Form) (op : Op) (l r : Grouped) → (o : Option Grouped) × JoinsBy form op l r o
joins_by a_form.Juxt op l r = (juxtaposed l r, refl)
joins_by a_form.Chain op l r = (linked op l r, refl)
joins_by a_form.Binary op l r =
    elim (left_or l op) as (λ z. (o : Option Grouped) × JoinsBy a_form.Binary op l r o) [
      | inr n ↦ (None, λ a b. n a)
      | inl a ↦ elim (true_or (fits (root r) (group_of op))) as (λ z.
          (o : Option Grouped) × JoinsBy a_form.Binary op l r o) [
            | inl b ↦ (Some (tree.Binary op l r), (refl, a, b))
            | inr n ↦ (None, λ c b. n b)
          ]
    ]

module _ (joints : List Joint) where
  weakest_there : (n i j : ℕ) → j ≡ i + suc n → (k : ℕ) × IsWeakest joints i j k
  weakest_there zero i j e =
      let d : i + 1 ≡ j = omega arith
      in (i, subst (λ m. IsWeakest joints i m i) d (one_place joints i))
  weakest_there (suc n) i j e =
      let p = weakest_there n i (i + suc n) refl in
      let d : (i + suc n) + 1 ≡ j = omega arith in
      elim (cases_lt (strength joints p.0) (strength joints (i + suc n))) as (λ z.
      (k : ℕ) × IsWeakest joints i j k) [
        | inl h ↦
            (p.0, subst (λ m. IsWeakest joints i m p.0) d (keeps joints i (i + suc n) p.0 p.1 h))
        | inr h ↦ (
          i + suc n,
          subst (λ m. IsWeakest joints i m (i + suc n)) d (moves joints i (i + suc n) p.0 p.1 h),
        )
      ]

  signed : (k : ℕ) → k < length joints → (s : Op) × (between joints k ≡ Some s)
  signed k lt =
      (operator_of (get_or joints k Beside), ap operator_in (slice_get-get_or joints k Beside lt))

  halves : (i j k : ℕ) (s : Op) → IsWeakest joints i j k → between joints k ≡ Some s
      → (a : Option Grouped) → IsTheGrouping joints i k a
      → (b : Option Grouped) → IsTheGrouping joints (k + 1) j b
      → (o : Option Grouped) × IsTheGrouping joints i j o
  halves i j k s w e None x b y = (None, none_left joints i j k s w e x)
  halves i j k s w e (Some l) x None y = (None, none_right joints i j k s w e y)
  halves i j k s w e (Some l) x (Some r) y =
      let m = joins_by (form_of s) s l r in (m.0, both joints i j k s l r m.0 w e x y m.1)

  there : (n i j : ℕ) → j < i + n → i ≤ j → j ≤ length joints
      → (o : Option Grouped) × IsTheGrouping joints i j o
  there zero i j lt le within = absurd (omega arith)
  there (suc n) i j lt le within =
      elim (cases_lt i j) as (λ z. (o : Option Grouped) × IsTheGrouping joints i j o) [
        | inr c ↦ (let d : i ≡ j = omega arith in (Some (tree.Unit i), one_unit joints i j d))
        | inl c ↦ (
            let w = weakest_there (j - (i + 1)) i j (omega arith) in
            let from = w.1.from in
            let to = w.1.to in
            let s = signed w.0 (omega arith) in
            let l = there n i w.0 (omega arith) from (omega arith) in
            let r = there n (w.0 + 1) j (omega arith) (omega arith) within in
            halves i j w.0 s.0 w.1 s.1 l.0 l.1 r.0 r.1)
      ]

-- ---- the four rules in turn

module _ (row : Row) where
  abbrev Answered : Type 0
  Answered = ((g : Grouped) × IsGrouped row g)
      ⊎ ((rule : Rule) × (place : Place) × Breaks row rule place)

  by_sense : (g : Grouped) → None ≡ first_mixed row.joints
      → IsTheGrouping row.joints 0 (length row.joints) (Some g) → (spaced row.joints g).good ≡ true
      → (b : Bool) → sensible g ≡ b → Answered
  by_sense g even the good true e = inl (g, whole row g even the good e)
  by_sense g even the good false e = inr (BAD_CHAIN, row.place, senseless row g even the good e)

  by_spacing : (g : Grouped) → None ≡ first_mixed row.joints
      → IsTheGrouping row.joints 0 (length row.joints) (Some g) → (b : Bool)
      → (spaced row.joints g).good ≡ b → Answered
  by_spacing g even the true e = by_sense g even the e (sensible g) refl
  by_spacing g even the false e = inr (SPACING_CONTRADICTS, row.place, contradicts row g even the e)

  by_grouping : None ≡ first_mixed row.joints → (o : Option Grouped)
      → IsTheGrouping row.joints 0 (length row.joints) o → Answered
  by_grouping even None the = inr (NO_PRECEDENCE, row.place, none_there row even the)
  by_grouping even (Some g) the = by_spacing g even the (spaced row.joints g).good refl

  by_gaps : (o : Option Place) → o ≡ first_mixed row.joints → Answered
  by_gaps (Some place) e = inr (MIXED_SPACING, place, mixed row place e)
  by_gaps None e =
      let x = there row.joints (suc (length row.joints)) 0 (length row.joints) (omega arith)
      (omega arith) (omega arith) in by_grouping e x.0 x.1

pub each_answered : EachAnswered
each_answered row = by_gaps row (first_mixed row.joints) refl
