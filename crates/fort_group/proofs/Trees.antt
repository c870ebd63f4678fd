-- Trees by layers: induction, and facts that hold everywhere in a tree.
use Rattle.std.proofs.Common.{◌≡◌, ℕ, zero, suc, List, [], ◌∷◌, map, refl, sym, ap, ◌∙◌, arith, subst}
use Rattle.std.specs.List.{Contains, All}
use Rattle.fort_ops.specs.declared.op.Op.{Op}
use Rattle.fort_tree.specs.declared.grouped.Grouped.{Grouped, out-Grouped, roll-Grouped, out-roll-Grouped, roll-out-Grouped, ind-Grouped, map-Grouped}
use Rattle.fort_tree.specs.declared.grouped.Grouped as tree
use Rattle.fort_tree.specs.declared.grouped.Grouped.TheVariants.{rolls-Unit, rolls-Binary, rolls-Chain, rolls-Juxt}
use Rattle.fort_tree.specs.declared.grouped.Grouped.TheOpen.{Grouped-F}
use Rattle.fort_group.specs.Nodes.{itself, in_left, in_right, in_part, Everywhere}

pub out-unit : (n : ℕ) → out-Grouped (tree.Unit n) ≡ Grouped-F.Unit n
out-unit n = ap out-Grouped (sym (rolls-Unit n)) ∙ out-roll-Grouped (Grouped-F.Unit n)

pub out-binary : (op : Op) (l r : Grouped)
    → out-Grouped (tree.Binary op l r) ≡ Grouped-F.Binary op l r
out-binary op l r =
    ap out-Grouped (sym (rolls-Binary op l r)) ∙ out-roll-Grouped (Grouped-F.Binary op l r)

pub out-chain : (ops : List Op) (parts : List Grouped)
    → out-Grouped (tree.Chain ops parts) ≡ Grouped-F.Chain ops parts
out-chain ops parts =
    ap out-Grouped (sym (rolls-Chain ops parts)) ∙ out-roll-Grouped (Grouped-F.Chain ops parts)

pub out-juxt : (units : List ℕ) → out-Grouped (tree.Juxt units) ≡ Grouped-F.Juxt units
out-juxt units = ap out-Grouped (sym (rolls-Juxt units)) ∙ out-roll-Grouped (Grouped-F.Juxt units)

-- the fact holds of each tree of a list
abbrev pub Every : (Grouped → Type 0) → List Grouped → Type 0
Every P [] = Unit {0}
Every P (t ∷ ts) = P t × Every P ts

-- and of each child of a node
abbrev pub Parts : (Grouped → Type 0) → Grouped-F Grouped → Type 0
Parts P (Grouped-F.Unit n) = Unit {0}
Parts P (Grouped-F.Juxt units) = Unit {0}
Parts P (Grouped-F.Binary op l r) = P l × P r
Parts P (Grouped-F.Chain ops parts) = Every P parts

module _ (P : Grouped → Type 0) where
  pub of_contained : (ts : List Grouped) (t : Grouped) → Every P ts → Contains ts t → P t
  of_contained [] t every (k, within, same) = absurd (omega arith)
  of_contained (u ∷ us) t every (zero, within, same) = subst P same every.0
  of_contained (u ∷ us) t every (suc k, within, same) =
      of_contained us t every.1 (k, omega arith, same)

  pub from_contained : (ts : List Grouped) → ((t : Grouped) → Contains ts t → P t) → Every P ts
  from_contained [] each = tt
  from_contained (u ∷ us) each = (
    each u (0, omega arith, refl),
    from_contained us (λ t h. each t (suc h.0, omega (arith, h.1), h.2)),
  )

  pub all_from_every : (ts : List Grouped) → Every P ts → All P ts
  all_from_every [] every k d within = absurd (omega arith)
  all_from_every (u ∷ us) every zero d within = every.0
  all_from_every (u ∷ us) every (suc k) d within = all_from_every us every.1 k d (omega arith)

  pub every_from_all : (ts : List Grouped) → All P ts → Every P ts
  every_from_all [] all = tt
  every_from_all (u ∷ us) all =
      (all 0 u (omega arith), every_from_all us (λ k d within. all (suc k) d (omega arith)))

  every : (es : List ((t : Grouped) × P t)) → Every P (map (λ (e : (t : Grouped) × P t). e.0) es)
  every [] = tt
  every (e ∷ es) = (e.1, every es)

  parts : (y : Grouped-F ((t : Grouped) × P t))
      → Parts P (map-Grouped ((t : Grouped) × P t) Grouped (λ e. e.0) y)
  parts (Grouped-F.Unit n) = tt
  parts (Grouped-F.Juxt units) = tt
  parts (Grouped-F.Binary op a b) = (a.1, b.1)
  parts (Grouped-F.Chain ops es) = every es

  -- induction: what follows from the children's holds of each tree
  pub by_parts : ((t : Grouped) → Parts P (out-Grouped t) → P t) → (t : Grouped) → P t
  by_parts k =
      ind-Grouped P
      (λ x y e. k (roll-Grouped x)
      (subst (Parts P) (sym (out-roll-Grouped x)) (subst (Parts P) e (parts y))))

module _ (P : Grouped-F Grouped → Type 0) where
  pub everywhere : (g : Grouped) → P (out-Grouped g) → Parts (Everywhere P) (out-Grouped g)
      → Everywhere P g
  everywhere g here below t (itself _) = here
  everywhere g here below t (in_left op l r _ h) =
      let p : Parts (Everywhere P) (Grouped-F.Binary op l r) =
      subst (Parts (Everywhere P)) (out-binary op l r) below in p.0 t h
  everywhere g here below t (in_right op l r _ h) =
      let p : Parts (Everywhere P) (Grouped-F.Binary op l r) =
      subst (Parts (Everywhere P)) (out-binary op l r) below in p.1 t h
  everywhere g here below t (in_part ops parts part _ c h) =
      let p : Parts (Everywhere P) (Grouped-F.Chain ops parts) =
      subst (Parts (Everywhere P)) (out-chain ops parts) below in
      of_contained (Everywhere P) parts part p c t h

  below_at : (g : Grouped) (x : Grouped-F Grouped) → roll-Grouped x ≡ g → Everywhere P g
      → Parts (Everywhere P) x
  below_at g (Grouped-F.Unit n) e all = tt
  below_at g (Grouped-F.Juxt units) e all = tt
  below_at g (Grouped-F.Binary op l r) e all =
      let q : tree.Binary op l r ≡ g = sym (rolls-Binary op l r) ∙ e in
      let f : Everywhere P (tree.Binary op l r) = subst (Everywhere P) (sym q) all in
      (λ t h. f t (in_left op l r t h), λ t h. f t (in_right op l r t h))
  below_at g (Grouped-F.Chain ops parts) e all =
      let q : tree.Chain ops parts ≡ g = sym (rolls-Chain ops parts) ∙ e in
      let f : Everywhere P (tree.Chain ops parts) = subst (Everywhere P) (sym q) all in
      from_contained (Everywhere P) parts (λ p c t h. f t (in_part ops parts p t c h))

  pub below : (g : Grouped) → Everywhere P g → Parts (Everywhere P) (out-Grouped g)
  below g all = below_at g (out-Grouped g) (roll-out-Grouped g) all
