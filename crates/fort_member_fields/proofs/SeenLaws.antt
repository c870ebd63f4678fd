-- The names that stood so far.
use Rattle.std.proofs.Common.{◌≡◌, inl, inr, ◌↔◌, ℕ, Bool, true, false, not, cond, IsTrue, List, [], ◌∷◌, ◌++◌, length, Some, nat_eq, refl, sym, ap, ◌∙◌, subst}
use Rattle.std.specs.List.{slice_get, list_any}
use Rattle.std.proofs.lemmas.Bool.{eqb-true, eq-eqb}
use Rattle.indexmap.specs.IndexSet.{contains, IndexSet}
use Rattle.fort_base.specs.declared.ids.NameId.{NameId}
use Rattle.fort_types_sets.specs.declared.field.Field.{Field}
use Rattle.fort_member_fields.specs.Walks.{HasFieldNamed, HoldsNames}
use Rattle.fort_member_fields.proofs.Items.{get_left, get_end, get_cases}

twice_not : (b : Bool) → not (not b) ≡ b
twice_not true = refl
twice_not false = refl

pub stood_told : {S : Type 0} (before : List Field) (seen : IndexSet ℕ S) (name : NameId) (r : Bool)
    → r ≡ not (contains nat_eq seen name.0) → HoldsNames before seen → IsTrue (not r)
    ↔ HasFieldNamed before name
stood_told before seen name r e h = subst (λ z. IsTrue z
    ↔ HasFieldNamed before name) (sym (ap not e ∙ twice_not (contains nat_eq seen name.0)))
    (h.knows name)

-- no name stood
pub names_none : {S : Type 0} (seen : IndexSet ℕ S) → seen.keys ≡ [] → HoldsNames [] seen
names_none seen e =
    record {
      knows =
          λ v. (
            λ t. absurd
                (let f : false ≡ true = sym (ap (list_any (nat_eq v.0)) e) ∙ t in cc),
            λ w. absurd (nothing w.0 w.1 w.2),
          );
    }
  where
    nothing : (k : ℕ) (f : Field) → slice_get [] k ≡ Some f → ⊥
    nothing k f e = cc

same_name : (a b : NameId) → nat_eq a.0 b.0 ≡ true → a ≡ b
same_name a b e = ap numbered (eqb-true a.0 b.0 e)
  where
    numbered : ℕ → NameId
    numbered n = record { 0 = n }

-- a name more
pub names_more : {S : Type 0} (before : List Field) (x : Field) (name : NameId)
    (old new : IndexSet ℕ S)
    → ((q : ℕ) → contains nat_eq new q ≡ cond (nat_eq name.0 q) true (contains nat_eq old q))
    → x.name ≡ name → HoldsNames before old → HoldsNames (before ++ x ∷ []) new
names_more before x name old new u e h = record { knows = λ v. at v (nat_eq name.0 v.0) refl }
  where
    at : (v : NameId) (b : Bool) → nat_eq name.0 v.0 ≡ b → IsTrue (contains nat_eq new v.0)
        ↔ HasFieldNamed (before ++ x ∷ []) v
    at v true q =
        let s : contains nat_eq new v.0 ≡ true =
        u v.0 ∙ ap (λ z. cond z true (contains nat_eq old v.0)) q in
        (λ _. (length before, x, get_end before x, e ∙ same_name name v q), λ _. s)
    at v false q =
        let s : contains nat_eq new v.0 ≡ contains nat_eq old v.0 =
        u v.0 ∙ ap (λ z. cond z true (contains nat_eq old v.0)) q in (
          λ t. let w = (h.knows v).0 (sym s ∙ t)
              in (w.0, w.1, get_left before (x ∷ []) w.0 w.1 w.2, w.3),
          λ w. elim (get_cases before x w.0 w.1 w.2) as (λ _. IsTrue (contains nat_eq new v.0)) [
            | inl p ↦ s ∙ (h.knows v).1 (w.0, w.1, p, w.3)
            | inr p ↦ absurd (other (sym e ∙ ap (λ (z : Field). z.name) p.1 ∙ w.3) q)
          ],
        )
      where
        other : name ≡ v → nat_eq name.0 v.0 ≡ false → ⊥
        other n q =
            let y = eq-eqb name.0 v.0 (ap (λ (z : NameId). z.0) n)
            in let f : false ≡ true = sym q ∙ y in cc
