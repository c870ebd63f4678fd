-- A grouping has its units in order.
use Rattle.std.proofs.Common.{◌≡◌, ℕ, zero, suc, ◌+◌, ◌-◌, List, [], ◌∷◌, ◌++◌, map, refl, sym, ap, ◌∙◌, arith, append_assoc}
use Rattle.std.proofs.lemmas.List.{map-append, append-nil}
use Rattle.fort_ops.specs.declared.op.Op.{Op}
use Rattle.fort_tree.specs.declared.grouped.Joint.{Joint}
use Rattle.fort_tree.specs.declared.grouped.Grouped.{Grouped, fold-roll-Grouped}
use Rattle.fort_tree.specs.declared.grouped.Grouped.TheOpen.{Grouped-F}
use Rattle.fort_tree.specs.declared.grouped.Grouped.TheVariants.{rolls-Unit, rolls-Binary, rolls-Chain, rolls-Juxt}
use Rattle.fort_group.specs.Grouping.{IsJuxt, two, one_more, IsGrouping, unit, juxt, binary, chain, IsChain, first, next}
use Rattle.fort_group.specs.Yield.{all_of, units_step, units_of, counted, UnitsInOrder}
use Rattle.fort_group.proofs.Least.{juxt_adjacent, least, chained_least}

counted_sum : (i a b : ℕ) → counted i (a + b) ≡ counted i a ++ counted (i + a) b
counted_sum i zero b =
    let e : 0 + b ≡ b = omega arith in let f : i + 0 ≡ i = omega arith
    in ap (counted i) e ∙ ap (λ v. counted v b) (sym f)
counted_sum i (suc a) b =
    let e : suc a + b ≡ suc (a + b) = omega arith in
    let f : (i + 1) + a ≡ i + suc a = omega arith in
    ap (counted i) e
    ∙ ap (λ v. i ∷ v) (counted_sum (i + 1) a b ∙ ap (λ v. counted (i + 1) a ++ counted v b) f)

meets : (i k j a b n : ℕ) (xs ys : List ℕ) → k + 1 ≡ i + a → j + 1 ≡ (k + 1) + b → j + 1 ≡ i + n
    → xs ≡ counted i a → ys ≡ counted (k + 1) b → xs ++ ys ≡ counted i n
meets i k j a b n xs ys e f g p q =
    let h : n ≡ a + b = omega arith in
    ap (λ v. v ++ ys) p ∙ ap (λ v. counted i a ++ v) (q ∙ ap (λ v. counted v b) e)
    ∙ sym (counted_sum i a b) ∙ ap (counted i) (sym h)

all_append : (us : List (List ℕ)) (u : List ℕ) → all_of (us ++ u ∷ []) ≡ all_of us ++ u
all_append [] u = append-nil u
all_append (v ∷ us) u = ap (λ w. v ++ w) (all_append us u) ∙ sym (append_assoc v (all_of us) u)

module _ (joints : List Joint) where
  juxt_ordered : (i j n : ℕ) (us : List ℕ) → IsJuxt joints i j us → j + 1 ≡ i + n → us ≡ counted i n
  juxt_ordered i j n us (two e) f = let h : n ≡ 2 = omega arith in ap (counted i) (sym h)
  juxt_ordered i j n us (one_more {k = k} {units = u} r e) f =
      let d = (juxt_adjacent joints i k u r).0 in
      meets i k j ((k + 1) - i) 1 n u ((k + 1) ∷ []) (omega arith) (omega arith) f
      (juxt_ordered i k ((k + 1) - i) u r (omega arith)) refl

  mutual
    ordered : (i j n : ℕ) (t : Grouped) → IsGrouping joints i j t → j + 1 ≡ i + n
        → units_of t ≡ counted i n
    ordered i j n t unit e = let h : n ≡ 1 = omega arith in
        ap units_of (sym (rolls-Unit i)) ∙ fold-roll-Grouped (List ℕ) units_step (Grouped-F.Unit i)
        ∙ ap (counted i) (sym h)
    ordered i j n t (juxt {units = us} r) e =
        ap units_of (sym (rolls-Juxt us))
        ∙ fold-roll-Grouped (List ℕ) units_step (Grouped-F.Juxt us) ∙ juxt_ordered i j n us r e
    ordered i j n t (binary {k = k} {op = op} {left = l} {right = r} b f gl gr fl fr) e =
        let d = (least joints i k l gl).0 in let d' = (least joints (k + 1) j r gr).0 in
        ap units_of (sym (rolls-Binary op l r))
        ∙ fold-roll-Grouped (List ℕ) units_step (Grouped-F.Binary op l r)
        ∙ meets i k j ((k + 1) - i) (j - k) n (units_of l) (units_of r) (omega arith) (omega arith)
        e
        (ordered i k ((k + 1) - i) l gl (omega arith))
        (ordered (k + 1) j (j - k) r gr (omega arith))
    ordered i j n t (chain {ops = ops} {parts = parts} c) e =
        ap units_of (sym (rolls-Chain ops parts))
        ∙ fold-roll-Grouped (List ℕ) units_step (Grouped-F.Chain ops parts)
        ∙ chained_ordered i j n ops parts c e

    chained_ordered : (i j n : ℕ) (ops : List Op) (parts : List Grouped)
        → IsChain joints i j ops parts → j + 1 ≡ i + n → all_of (map units_of parts) ≡ counted i n
    chained_ordered i j n ops parts (first {k = k} {left = l} {right = r} b f gl gr fl fr) e =
        let d = (least joints i k l gl).0 in let d' = (least joints (k + 1) j r gr).0 in
        ap (λ v. units_of l ++ v) (append-nil (units_of r))
        ∙ meets i k j ((k + 1) - i) (j - k) n (units_of l) (units_of r) (omega arith) (omega arith)
        e
        (ordered i k ((k + 1) - i) l gl (omega arith))
        (ordered (k + 1) j (j - k) r gr (omega arith))
    chained_ordered i j n ops parts
        (next {k = k} {ops = ops'} {parts = parts'} {right = r} c b f gr fr) e =
        let d = (chained_least joints i k ops' parts' c).0
        in let d' = (least joints (k + 1) j r gr).0 in
        ap all_of (map-append units_of parts' (r ∷ []))
        ∙ all_append (map units_of parts') (units_of r)
        ∙ meets i k j ((k + 1) - i) (j - k) n (all_of (map units_of parts')) (units_of r)
        (omega arith) (omega arith) e
        (chained_ordered i k ((k + 1) - i) ops' parts' c (omega arith))
        (ordered (k + 1) j (j - k) r gr (omega arith))

pub ordered_law : UnitsInOrder
ordered_law joints i j n t g e = ordered joints i j n t g e
