-- Each grouping is a unit, or two groupings joined at the last of its weakest places.
use Rattle.std.proofs.Common.{◌≡◌, ℕ, ◌+◌, ◌<◌, ◌≤◌, false, cond, List, [], ◌∷◌, Option, Some, None, inl, inr, refl, sym, ap, ◌∙◌, arith, subst}
use Rattle.std.proofs.lemmas.Bool.{cases_lt}
use Rattle.fort_ops.specs.declared.op.Op.{Op}
use Rattle.fort_ops.specs.declared.precedence.Group.TheVariants.{Relation}
use Rattle.fort_ops.specs.declared.op.Op.TheVariants.{Juxt}
use Rattle.fort_tree.specs.declared.grouped.Joint.{Joint}
use Rattle.fort_tree.specs.declared.grouped.Grouped.{Grouped, out-Grouped}
use Rattle.fort_tree.specs.declared.grouped.Grouped as tree
use Rattle.fort_tree.specs.declared.grouped.Grouped.TheOpen.{Grouped-F}
use Rattle.fort_ops.specs.Precedence.{group_of, rank}
use Rattle.fort_group.specs.Joints.{rank_in, between, strength}
use Rattle.fort_group.specs.declared.form.Form.TheVariants as a_form
use Rattle.fort_group.specs.Grouping.{form_of, root_at, root, fits, Fits, FitsLeft, IsJuxt, two, one_more, IsGrouping, unit, juxt, binary, chain, IsChain, first, next}
use Rattle.fort_group.specs.Joining.{juxtaposed_at, linked_at, linked, Pairs, JoinsBy, Joins, IsWeakest}
use Rattle.fort_group.proofs.Ranks.{rank_over, fits_rank, left_rank}
use Rattle.fort_group.proofs.Trees.{out-unit, out-chain, out-juxt}
use Rattle.fort_group.proofs.Least.{relation_rank, AtLeast, beside, least, chained_least}

module _ (joints : List Joint) where
  weakest_once : (i j k m : ℕ) → IsWeakest joints i j k → IsWeakest joints i j m → k ≡ m
  weakest_once i j k m v w =
      elim (cases_lt k m) as (λ z. k ≡ m) [
        | inl h ↦ (let a = v.last m h w.to in let b = w.least k v.from v.to in absurd (omega arith))
        | inr h ↦ elim (cases_lt m k) as (λ z. k ≡ m) [
          | inl h' ↦
              (let a = w.last k h' v.to in let b = v.least m w.from w.to in absurd (omega arith))
          | inr h' ↦ omega arith
        ]
      ]

  -- a place of strength m between sides that are at least m and above it
  weakest_at : (i k j m x y : ℕ) → strength joints k ≡ m → i ≤ k → k + 1 ≤ j → AtLeast joints i k x
      → m ≤ x → AtLeast joints (k + 1) j y → m < y → IsWeakest joints i j k
  weakest_at i k j m x y e a b f le g lt = record {
    from = a;
    to = omega arith;
    least = λ n c d. let h = beside joints i k j m x e f le y g lt n c d in omega arith;
    last = λ n c d. let h = g n (omega arith) d in omega arith;
  }

  pub record Halves (i j : ℕ) (h : Grouped) (k : ℕ) (s : Op) : Type 0 where
    pub left : Grouped
    pub right : Grouped
    pub groups_left : IsGrouping joints i k left
    pub groups_right : IsGrouping joints (k + 1) j right
    pub joined : Joins s left right (Some h)
    pub joins : (o : Option Grouped) → Joins s left right o → o ≡ Some h

  pub record Split (i j : ℕ) (h : Grouped) : Type 0 where
    pub at : ℕ
    pub sign : Op
    pub weakest : IsWeakest joints i j at
    pub signed : between joints at ≡ Some sign
    pub halves : Halves i j h at sign

  not_chain_fits : (ops : List Op) (l r : Grouped) (t : Grouped-F Grouped) → out-Grouped l ≡ t
      → Fits l Relation → (op : Op) → linked_at op t l r ≡ Some (tree.Chain (op ∷ []) (l ∷ r ∷ []))
  not_chain_fits ops l r (Grouped-F.Unit n) e f op =
      ap (λ b. cond b (Some (tree.Chain (op ∷ []) (l ∷ r ∷ []))) None) f
  not_chain_fits ops l r (Grouped-F.Binary other a b) e f op =
      ap (λ b. cond b (Some (tree.Chain (op ∷ []) (l ∷ r ∷ []))) None) f
  not_chain_fits ops l r (Grouped-F.Juxt units) e f op =
      ap (λ b. cond b (Some (tree.Chain (op ∷ []) (l ∷ r ∷ []))) None) f
  not_chain_fits ops l r (Grouped-F.Chain os ps) e f op =
      let z : fits (root l) Relation ≡ false = ap (λ t. fits (root_at t) Relation) e in absurd cc

  joins_linked : (op : Op) (l r h : Grouped) → form_of op ≡ a_form.Chain → Fits r Relation
      → linked_at op (out-Grouped l) l r ≡ Some h
      → (o : Option Grouped) → Joins op l r o → o ≡ Some h
  joins_linked op l r h e f q o m =
      let m' : o ≡ linked op l r = subst (λ b. JoinsBy b op l r o) e m in
      m' ∙ ap (λ b. cond b (linked_at op (out-Grouped l) l r) None) f ∙ q

  linked_joins : (op : Op) (l r h : Grouped) → form_of op ≡ a_form.Chain → Fits r Relation
      → linked_at op (out-Grouped l) l r ≡ Some h
      → Joins op l r (Some h)
  linked_joins op l r h e f q =
      subst (λ b. JoinsBy b op l r (Some h)) (sym e)
      (sym (ap (λ b. cond b (linked_at op (out-Grouped l) l r) None) f ∙ q))

  joins_pairs : (op : Op) (l r : Grouped) → FitsLeft l op → Fits r (group_of op)
      → (o : Option Grouped) → Pairs op l r o → o ≡ Some (tree.Binary op l r)
  joins_pairs op l r fl fr None m = absurd (m fl fr)
  joins_pairs op l r fl fr (Some g) m = ap Some m.0

  juxt_split : (i j : ℕ) (units : List ℕ) → IsJuxt joints i j units → Split i j (tree.Juxt units)
  juxt_split i j units (two e) = record {
    at = i;
    sign = Juxt;
    weakest =
        weakest_at i i (i + 1) 6 6 7 (ap rank_in e) (omega arith) (omega arith)
        (λ n a b. absurd (omega arith)) (omega arith) (λ n a b. absurd (omega arith)) (omega arith);
    signed = e;
    halves = record {
      left = tree.Unit i;
      right = tree.Unit (i + 1);
      groups_left = unit;
      groups_right = unit;
      joined = sym (ap (λ t. juxtaposed_at t (out-Grouped (tree.Unit (i + 1)))) (out-unit i)
          ∙ ap (λ t. juxtaposed_at (Grouped-F.Unit i) t) (out-unit (i + 1)));
      joins = λ o m. m ∙ ap (λ t. juxtaposed_at t (out-Grouped (tree.Unit (i + 1)))) (out-unit i)
          ∙ ap (λ t. juxtaposed_at (Grouped-F.Unit i) t) (out-unit (i + 1));
    };
  }
  juxt_split i j units (one_more {k = k} {units = us} r e) =
      let h = least joints i k (tree.Juxt us) (juxt r) in
      let d : rank_over (root (tree.Juxt us)) ≡ 6 = ap (λ o. rank_over (root_at o)) (out-juxt us) in
      record {
        at = k;
        sign = Juxt;
        weakest =
            weakest_at i k (k + 1) 6 (rank_over (root (tree.Juxt us))) 7 (ap rank_in e) h.0
            (omega arith) h.1 (omega arith) (λ n a b. absurd (omega arith)) (omega arith);
        signed = e;
        halves = record {
          left = tree.Juxt us;
          right = tree.Unit (k + 1);
          groups_left = juxt r;
          groups_right = unit;
          joined = sym (ap (λ t. juxtaposed_at t (out-Grouped (tree.Unit (k + 1)))) (out-juxt us)
              ∙ ap (λ t. juxtaposed_at (Grouped-F.Juxt us) t) (out-unit (k + 1)));
          joins = λ o m. m
              ∙ ap (λ t. juxtaposed_at t (out-Grouped (tree.Unit (k + 1)))) (out-juxt us)
              ∙ ap (λ t. juxtaposed_at (Grouped-F.Juxt us) t) (out-unit (k + 1));
        };
      }

  chained_split : (i j : ℕ) (ops : List Op) (parts : List Grouped) → IsChain joints i j ops parts
      → Split i j (tree.Chain ops parts)
  chained_split i j ops parts (first {k = k} {op = op} {left = l} {right = r} b e gl gr fl fr) =
      let hl = least joints i k l gl in
      let hr = least joints (k + 1) j r gr in
      let f : 2 < rank_over (root l) = fits_rank (root l) Relation fl in
      record {
        at = k;
        sign = op;
        weakest =
            weakest_at i k j 2 (rank_over (root l)) (rank_over (root r)) (ap rank_in b
            ∙ relation_rank (group_of op) e) hl.0 hr.0 hl.1 (omega arith) hr.1
            (fits_rank (root r) Relation fr);
        signed = b;
        halves = record {
          left = l;
          right = r;
          groups_left = gl;
          groups_right = gr;
          joined = linked_joins op l r _ e fr (not_chain_fits [] l r (out-Grouped l) refl fl op);
          joins = joins_linked op l r _ e fr (not_chain_fits [] l r (out-Grouped l) refl fl op);
        };
      }
  chained_split i j ops parts
      (next {k = k} {ops = ops'} {parts = parts'} {op = op} {right = r} c b e gr fr) =
      let hl = chained_least joints i k ops' parts' c in
      let hr = least joints (k + 1) j r gr in
      record {
        at = k;
        sign = op;
        weakest =
            weakest_at i k j 2 2 (rank_over (root r)) (ap rank_in b
            ∙ relation_rank (group_of op) e) (omega (arith, hl.0)) hr.0 hl.1 (omega arith) hr.1
            (fits_rank (root r) Relation fr);
        signed = b;
        halves = record {
          left = tree.Chain ops' parts';
          right = r;
          groups_left = chain c;
          groups_right = gr;
          joined = linked_joins op (tree.Chain ops' parts') r _ e fr
              (ap (λ t. linked_at op t (tree.Chain ops' parts') r) (out-chain ops' parts'));
          joins = joins_linked op (tree.Chain ops' parts') r _ e fr
              (ap (λ t. linked_at op t (tree.Chain ops' parts') r) (out-chain ops' parts'));
        };
      }

  pub split : (i j : ℕ) (h : Grouped) → IsGrouping joints i j h → i < j → Split i j h
  split i j h unit lt = absurd (omega arith)
  split i j h (juxt {units = units} r) lt = juxt_split i j units r
  split i j h (chain {ops = ops} {parts = parts} c) lt = chained_split i j ops parts c
  split i j h (binary {k = k} {op = op} {left = l} {right = r} b e gl gr fl fr) lt =
      let hl = least joints i k l gl in
      let hr = least joints (k + 1) j r gr in
      record {
        at = k;
        sign = op;
        weakest =
            weakest_at i k j (rank (group_of op)) (rank_over (root l)) (rank_over (root r))
            (ap rank_in b) hl.0 hr.0 hl.1 (left_rank l op fl) hr.1
            (fits_rank (root r) (group_of op) fr);
        signed = b;
        halves = record {
          left = l;
          right = r;
          groups_left = gl;
          groups_right = gr;
          joined = subst (λ b. JoinsBy b op l r (Some (tree.Binary op l r))) (sym e) (refl, fl, fr);
          joins = λ o m. joins_pairs op l r fl fr o (subst (λ b. JoinsBy b op l r o) e m);
        };
      }

  -- the halves at a weakest place that was found
  pub split_at : (i j : ℕ) (h : Grouped) (k : ℕ) (s : Op) → IsGrouping joints i j h
      → IsWeakest joints i j k → between joints k ≡ Some s → Halves i j h k s
  split_at i j h k s g w e =
      let p = split i j h g (let a = w.from in let b = w.to in omega arith) in
      let q = weakest_once i j p.at k p.weakest w in
      let d : p.sign ≡ s = let z = ap (between joints) q in cc in
      subst (λ v. Halves i j h k v) d (subst (λ v. Halves i j h v p.sign) q p.halves)
