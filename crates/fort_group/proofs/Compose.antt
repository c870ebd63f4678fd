-- Two groupings that are joined are one.
use Rattle.std.proofs.Common.{◌≡◌, ℕ, ◌+◌, Bool, true, false, cond, List, [], ◌∷◌, ◌++◌, Some, None, refl, sym, ap, ◌∙◌, subst}
use Rattle.fort_ops.specs.declared.op.Op.{Op}
use Rattle.fort_ops.specs.declared.precedence.Group.TheVariants.{Relation}
use Rattle.fort_ops.specs.declared.op.Op.TheVariants.{Juxt}
use Rattle.fort_tree.specs.declared.grouped.Joint.{Joint}
use Rattle.fort_tree.specs.declared.grouped.Grouped.{Grouped, out-Grouped}
use Rattle.fort_tree.specs.declared.grouped.Grouped as tree
use Rattle.fort_tree.specs.declared.grouped.Grouped.TheOpen.{Grouped-F}
use Rattle.fort_group.specs.Joints.{between}
use Rattle.fort_group.specs.declared.form.Form.{Form}
use Rattle.fort_group.specs.declared.form.Form.TheVariants as a_form
use Rattle.fort_group.specs.Grouping.{form_of, root, fits, Fits, IsJuxt, two, one_more, IsGrouping, unit, juxt, binary, chain, IsChain, first, next}
use Rattle.fort_group.specs.Joining.{juxtaposed_at, linked_at, JoinsBy, Joins}
use Rattle.fort_group.proofs.Trees.{out-unit, out-binary, out-chain, out-juxt}

module _ (joints : List Joint) where
  is_unit : (i j : ℕ) (g : Grouped) (n : ℕ) → IsGrouping joints i j g
      → out-Grouped g ≡ Grouped-F.Unit n → (i ≡ j) × (n ≡ i)
  is_unit i j g n unit e = let z = out-unit i in (refl, cc)
  is_unit i j g n (juxt {units = units} r) e = let z = out-juxt units in absurd cc
  is_unit i j g n (binary {op = op} {left = l} {right = r} b f gl gr fl fr) e =
      let z = out-binary op l r in absurd cc
  is_unit i j g n (chain {ops = ops} {parts = parts} c) e = let z = out-chain ops parts in absurd cc

  is_juxt : (i j : ℕ) (g : Grouped) (us : List ℕ) → IsGrouping joints i j g
      → out-Grouped g ≡ Grouped-F.Juxt us → IsJuxt joints i j us
  is_juxt i j g us unit e = let z = out-unit i in absurd cc
  is_juxt i j g us (juxt {units = units} r) e =
      let z = out-juxt units in let d : units ≡ us = cc in subst (IsJuxt joints i j) d r
  is_juxt i j g us (binary {op = op} {left = l} {right = r} b f gl gr fl fr) e =
      let z = out-binary op l r in absurd cc
  is_juxt i j g us (chain {ops = ops} {parts = parts} c) e =
      let z = out-chain ops parts in absurd cc

  is_chain : (i j : ℕ) (g : Grouped) (os : List Op) (ps : List Grouped) → IsGrouping joints i j g
      → out-Grouped g ≡ Grouped-F.Chain os ps → IsChain joints i j os ps
  is_chain i j g os ps unit e = let z = out-unit i in absurd cc
  is_chain i j g os ps (juxt {units = units} r) e = let z = out-juxt units in absurd cc
  is_chain i j g os ps (binary {op = op} {left = l} {right = r} b f gl gr fl fr) e =
      let z = out-binary op l r in absurd cc
  is_chain i j g os ps (chain {ops = ops} {parts = parts} c) e =
      let z = out-chain ops parts in let d : ops ≡ os = cc in let d' : parts ≡ ps = cc in
      subst (λ o. IsChain joints i j o ps) d (subst (IsChain joints i j ops) d' c)

  first_made : (i k j : ℕ) (op : Op) (l r g : Grouped) → between joints k ≡ Some op
      → form_of op ≡ a_form.Chain → IsGrouping joints i k l → IsGrouping joints (k + 1) j r
      → Fits r Relation → (b : Bool) → fits (root l) Relation ≡ b
      → Some g ≡ cond b (Some (tree.Chain (op ∷ []) (l ∷ r ∷ []))) None → IsGrouping joints i j g
  first_made i k j op l r g e f gl gr fr true fl m =
      let d : tree.Chain (op ∷ []) (l ∷ r ∷ []) ≡ g = cc
      in subst (IsGrouping joints i j) d (chain (first e f gl gr fl fr))
  first_made i k j op l r g e f gl gr fr false fl m = absurd cc

  linked_made : (i k j : ℕ) (op : Op) (l r g : Grouped) → between joints k ≡ Some op
      → form_of op ≡ a_form.Chain → IsGrouping joints i k l → IsGrouping joints (k + 1) j r
      → Fits r Relation → (t : Grouped-F Grouped) → out-Grouped l ≡ t → Some g ≡ linked_at op t l r
      → IsGrouping joints i j g
  linked_made i k j op l r g e f gl gr fr (Grouped-F.Chain ops parts) o m =
      let d : tree.Chain (ops ++ op ∷ []) (parts ++ r ∷ []) ≡ g = cc in
      subst (IsGrouping joints i j) d (chain (next (is_chain i k l ops parts gl o) e f gr fr))
  linked_made i k j op l r g e f gl gr fr (Grouped-F.Unit n) o m =
      first_made i k j op l r g e f gl gr fr (fits (root l) Relation) refl m
  linked_made i k j op l r g e f gl gr fr (Grouped-F.Binary other a b) o m =
      first_made i k j op l r g e f gl gr fr (fits (root l) Relation) refl m
  linked_made i k j op l r g e f gl gr fr (Grouped-F.Juxt units) o m =
      first_made i k j op l r g e f gl gr fr (fits (root l) Relation) refl m

  relation_made : (i k j : ℕ) (op : Op) (l r g : Grouped) → between joints k ≡ Some op
      → form_of op ≡ a_form.Chain → IsGrouping joints i k l → IsGrouping joints (k + 1) j r
      → (b : Bool) → fits (root r) Relation ≡ b
      → Some g ≡ cond b (linked_at op (out-Grouped l) l r) None → IsGrouping joints i j g
  relation_made i k j op l r g e f gl gr true fr m =
      linked_made i k j op l r g e f gl gr fr (out-Grouped l) refl m
  relation_made i k j op l r g e f gl gr false fr m = absurd cc

  units_made : (i k j : ℕ) (l r g : Grouped) → between joints k ≡ Some Juxt
      → IsGrouping joints i k l → IsGrouping joints (k + 1) j r
      → (t u : Grouped-F Grouped) → out-Grouped l ≡ t → out-Grouped r ≡ u
      → Some g ≡ juxtaposed_at t u → IsGrouping joints i j g
  units_made i k j l r g e gl gr (Grouped-F.Unit m) (Grouped-F.Unit n) o p q =
      let a = is_unit i k l m gl o in let b = is_unit (k + 1) j r n gr p in
      let d : IsJuxt joints k (k + 1) (k ∷ (k + 1) ∷ []) = two e in
      let x : tree.Juxt (k ∷ (k + 1) ∷ []) ≡ g = cc in
      subst (λ v. IsGrouping joints v j g) (sym a.0)
      (subst (λ v. IsGrouping joints k v g) b.0
      (subst (IsGrouping joints k (k + 1)) x (juxt d)))
  units_made i k j l r g e gl gr (Grouped-F.Juxt us) (Grouped-F.Unit n) o p q =
      let a = is_juxt i k l us gl o in let b = is_unit (k + 1) j r n gr p in
      let x : tree.Juxt (us ++ (k + 1) ∷ []) ≡ g = cc in
      subst (λ v. IsGrouping joints i v g) b.0
      (subst (IsGrouping joints i (k + 1)) x (juxt (one_more a e)))
  units_made i k j l r g e gl gr (Grouped-F.Binary op a b) (Grouped-F.Unit n) o p q = absurd cc
  units_made i k j l r g e gl gr (Grouped-F.Chain ops parts) (Grouped-F.Unit n) o p q = absurd cc
  units_made i k j l r g e gl gr t (Grouped-F.Binary op a b) o p q = absurd cc
  units_made i k j l r g e gl gr t (Grouped-F.Chain ops parts) o p q = absurd cc
  units_made i k j l r g e gl gr t (Grouped-F.Juxt units) o p q = absurd cc

  only_juxt : (op : Op) → form_of op ≡ a_form.Juxt → op ≡ Juxt
  only_juxt Juxt e = refl
  only_juxt _ e = absurd (cc e)

  made_by : (i k j : ℕ) (op : Op) (l r g : Grouped) → between joints k ≡ Some op
      → IsGrouping joints i k l → IsGrouping joints (k + 1) j r
      → (form : Form) → form_of op ≡ form → JoinsBy form op l r (Some g) → IsGrouping joints i j g
  made_by i k j op l r g e gl gr a_form.Juxt f m =
      units_made i k j l r g (e
      ∙ ap Some (only_juxt op f)) gl gr (out-Grouped l) (out-Grouped r) refl refl m
  made_by i k j op l r g e gl gr a_form.Chain f m =
      relation_made i k j op l r g e f gl gr (fits (root r) Relation) refl m
  made_by i k j op l r g e gl gr a_form.Binary f m =
      subst (IsGrouping joints i j) (sym m.0) (binary e f gl gr m.1 m.2)

  pub made : (i k j : ℕ) (op : Op) (l r g : Grouped) → between joints k ≡ Some op
      → IsGrouping joints i k l → IsGrouping joints (k + 1) j r → Joins op l r (Some g)
      → IsGrouping joints i j g
  made i k j op l r g e gl gr m = made_by i k j op l r g e gl gr (form_of op) refl m
