-- A root is the weakest of its tree.
use Rattle.std.proofs.Common.{◌≡◌, ℕ, ◌+◌, ◌<◌, ◌≤◌, List, inl, inr, refl, ap, ◌∙◌, arith}
use Rattle.std.proofs.lemmas.Bool.{cases_lt}
use Rattle.fort_ops.specs.declared.op.Op.{Op}
use Rattle.fort_ops.specs.declared.precedence.Group.{Group}
use Rattle.fort_ops.specs.declared.precedence.Group.TheVariants.{Relation}
use Rattle.fort_tree.specs.declared.grouped.Joint.{Joint}
use Rattle.fort_tree.specs.declared.grouped.Grouped.{Grouped, out-Grouped, out-roll-Grouped}
use Rattle.fort_tree.specs.declared.grouped.Grouped as tree
use Rattle.fort_ops.specs.Precedence.{group_of, rank}
use Rattle.fort_group.specs.Joints.{rank_in, strength}
use Rattle.fort_group.specs.declared.form.Form.TheVariants as a_form
use Rattle.fort_group.specs.Grouping.{form_at, root_at, root, IsJuxt, two, one_more, IsGrouping, unit, juxt, binary, chain, IsChain, first, next}
use Rattle.fort_group.proofs.Trees.{out-binary, out-chain, out-juxt}
use Rattle.fort_group.proofs.Ranks.{rank_over, fits_rank, left_rank}

pub relation_rank : (g : Group) → form_at g ≡ a_form.Chain → rank g ≡ 2
relation_rank Relation e = refl
relation_rank _ e = absurd (cc e)

module _ (joints : List Joint) where
  -- the weakest of a place, or all behind it stronger
  abbrev pub AtLeast : ℕ → ℕ → ℕ → Type 0
  AtLeast i j m = (n : ℕ) → i ≤ n → n < j → m ≤ strength joints n

  -- beside a place of strength m, whose left side is at least m and right side above it
  pub beside : (i k j m x : ℕ) → strength joints k ≡ m → AtLeast i k x → m ≤ x → (y : ℕ)
      → AtLeast (k + 1) j y → m < y → AtLeast i j m
  beside i k j m x e f le y g lt n a b =
      elim (cases_lt n k) as (λ z. m ≤ strength joints n) [
        | inl h ↦ (let d = f n a h in omega arith)
        | inr h ↦ elim (cases_lt k n) as (λ z. m ≤ strength joints n) [
          | inl h' ↦ (let d = g n (omega arith) b in omega arith)
          | inr h' ↦
              (let d : strength joints n ≡ strength joints k = ap (strength joints) (omega arith)
              in omega arith)
        ]
      ]

  pub juxt_adjacent : (i j : ℕ) (units : List ℕ) → IsJuxt joints i j units
      → (i < j) × ((n : ℕ) → i ≤ n → n < j → strength joints n ≡ 6)
  juxt_adjacent i j units (two e) =
      (omega arith, λ n a b. ap (strength joints) (omega arith) ∙ ap rank_in e)
  juxt_adjacent i j units (one_more {k = k} r e) =
      let h = juxt_adjacent _ _ _ r in (
        omega (arith, h.0),
        λ n a b. elim (cases_lt n k) as (λ z. strength joints n ≡ 6) [
          | inl c ↦ h.1 n a c
          | inr c ↦ (let d : n ≡ k = omega arith in ap (strength joints) d ∙ ap rank_in e)
        ],
      )

  mutual
    pub least : (i j : ℕ) (g : Grouped) → IsGrouping joints i j g
        → (i ≤ j) × AtLeast i j (rank_over (root g))
    least i j g unit = (omega arith, λ n a b. absurd (omega arith))
    least i j g (juxt {units = units} r) =
        let h = juxt_adjacent i j units r in (
          omega (arith, h.0),
          λ n a b. let e = h.1 n a b
              in let d : rank_over (root (tree.Juxt units)) ≡ 6 =
              ap (λ o. rank_over (root_at o)) (out-juxt units) in omega arith,
        )
    least i j g (binary {k = k} {op = op} {left = l} {right = r} b e gl gr fl fr) =
        let hl = least i k l gl in
        let hr = least (k + 1) j r gr in
        let d : rank_over (root (tree.Binary op l r)) ≡ rank (group_of op) =
        ap (λ o. rank_over (root_at o)) (out-binary op l r) in (
          omega (arith, hl.0, hr.0),
          rw d (beside i k j (rank (group_of op)) (rank_over (root l)) (ap rank_in b) hl.1
              (left_rank l op fl) (rank_over (root r)) hr.1
              (fits_rank (root r) (group_of op) fr)),
        )
    least i j g (chain {ops = ops} {parts = parts} c) =
        let h = chained_least i j ops parts c in
        (omega (arith, h.0), rw (ap (λ o. rank_over (root_at o)) (out-chain ops parts)) h.1)

    pub chained_least : (i j : ℕ) (ops : List Op) (parts : List Grouped)
        → IsChain joints i j ops parts → (i < j) × AtLeast i j 2
    chained_least i j ops parts (first {k = k} {op = op} {left = l} {right = r} b e gl gr fl fr) =
        let hl = least i k l gl in
        let hr = least (k + 1) j r gr in
        let f : 2 < rank_over (root l) = fits_rank (root l) Relation fl in (
          omega (arith, hl.0, hr.0),
          beside i k j 2 (rank_over (root l)) (ap rank_in b
              ∙ relation_rank (group_of op) e) hl.1 (omega arith) (rank_over (root r)) hr.1
              (fits_rank (root r) Relation fr),
        )
    chained_least i j ops parts
        (next {k = k} {ops = ops'} {parts = parts'} {op = op} {right = r} c b e gr fr) =
        let hl = chained_least i k ops' parts' c in
        let hr = least (k + 1) j r gr in (
          omega (arith, hl.0, hr.0),
          beside i k j 2 2 (ap rank_in b
              ∙ relation_rank (group_of op) e) hl.1 (omega arith) (rank_over (root r)) hr.1
              (fits_rank (root r) Relation fr),
        )
