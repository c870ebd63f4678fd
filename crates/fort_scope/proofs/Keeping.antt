-- What the map of a scope keeps.
use Rattle.std.proofs.Common.{◌≡◌, ◌≢◌, ◌↔◌, ℕ, Bool, true, false, cond, nat_eq, IsTrue, is_some, List, [], ◌∷◌, ◌++◌, take, Option, Some, None, IfSome, IfNone, Bor, Contains, AllPairs, refl, sym, ap, ◌∙◌, subst, arith}
use Rattle.std.proofs.lemmas.Bool.{eqb-true}
use Rattle.std.proofs.lemmas.List.{get_or-take, length-take, map-append, take-map}
use Rattle.std.proofs.lemmas.List.Elements.{Contains-get_or}
use Rattle.std.proofs.lemmas.List.Quantifiers.{all_pairs_push}
use Rattle.std.proofs.lemmas.Map.Views.{IsSome-lookup_from_Contains, Contains-keys_from_lookup}
use Rattle.std.specs.Cmp.{nat_eq_equiv}
use Rattle.std.specs.Option.{option_copied}
use Rattle.std.specs.Map.{keys_of, values_of, lookup}
use Rattle.indexmap.specs.IndexMap.{IndexMap, insert_entry}
use Rattle.indexmap.proofs.CallerLemmas.{insert_entry-new}
use Rattle.fort_base.specs.declared.ids.NameId.{NameId}
use Rattle.fort_scope.specs.declared.binding.Binding.{Binding}
use Rattle.fort_scope.specs.Scopes.{names, IsBound, AreDistinct}
use Rattle.fort_scope.specs.Kept.{IsKept}

-- what a look-up finds has the name that is asked
pub found_name : (es : List (ℕ × Binding)) (q : ℕ) (v : Binding) → keys_of es ≡ names (values_of es)
    → lookup (nat_eq q) es ≡ Some v → v.name.0 ≡ q
found_name [] q v k f = absurd cc
found_name (e ∷ es) q v k f = by (nat_eq q e.0) refl f
    (let h : keys_of es ≡ names (values_of es) = cc in found_name es q v h)
  where
    by : (b : Bool) → nat_eq q e.0 ≡ b → cond b (Some e.1) (lookup (nat_eq q) es) ≡ Some v
        → (lookup (nat_eq q) es ≡ Some v → v.name.0 ≡ q) → v.name.0 ≡ q
    by true t g w =
        let i : e.1 ≡ v = cc in let h : e.0 ≡ e.1.name.0 = cc
        in ap (λ (b : Binding). b.name.0) (sym i) ∙ (sym h ∙ sym (eqb-true q e.0 t))
    by false t g w = w g

-- a name is bound exactly where a look-up finds something
pub bound_found : (es : List (ℕ × Binding)) (name : NameId) → keys_of es ≡ names (values_of es)
    → IsTrue (is_some (lookup (nat_eq name.0) es)) ↔ IsBound (values_of es) name
bound_found es name k = (
  λ t. subst (λ ns. Contains ns name.0) k (Contains-keys_from_lookup eqb-true name.0 es t),
  λ w. IsSome-lookup_from_Contains nat_eq_equiv name.0 es
      (subst (λ ns. Contains ns name.0) (sym k) w),
)

same_name : (m n : NameId) → m.0 ≡ n.0 → m ≡ n
same_name m n e = let f : ℕ → NameId = λ k. record { 0 = k } in ap f e

pub finds_named : (es : List (ℕ × Binding)) (name : NameId) (r : Option (Bor Binding))
    → keys_of es ≡ names (values_of es) → option_copied r ≡ lookup (nat_eq name.0) es
    → IfSome r (λ b. b.now.name ≡ name)
finds_named es name None k e = tt
finds_named es name (Some b) k e = same_name b.now.name name (found_name es name.0 b.now k (sym e))

pub finds_none : (es : List (ℕ × Binding)) (name : NameId) (r : Option (Bor Binding))
    → keys_of es ≡ names (values_of es) → option_copied r ≡ lookup (nat_eq name.0) es
    → IfNone r (IsBound (values_of es) name → ⊥)
finds_none es name (Some b) k e = tt
finds_none es name None k e = λ w. let h : IsTrue (is_some (lookup (nat_eq name.0) es)) =
    (bound_found es name k).1 w
    in let f : is_some (lookup (nat_eq name.0) es) ≡ false = ap is_some (sym e)
    in let g : true ≡ false = sym h ∙ f in absurd cc

-- ---- one binding more, and fewer

nobody : (es : List (ℕ × Binding)) (name : NameId) → IsKept es → (IsBound (values_of es) name → ⊥)
    → (o : Option Binding) → o ≡ lookup (nat_eq name.0) es → lookup (nat_eq name.0) es ≡ None
nobody es name h n None e = sym e
nobody es name h n (Some b) e = absurd (n ((bound_found es name h.keyed).0 (ap is_some (sym e))))

pub entries_push : {S : Type 0} (m : IndexMap ℕ Binding S) (b : Binding) → IsKept m.entries
    → (IsBound (values_of m.entries) b.name → ⊥) → {entries : List (ℕ × Binding)}
    → entries ≡ insert_entry nat_eq m.entries b.name.0 b → entries ≡ m.entries ++ (b.name.0, b) ∷ []
entries_push m b h n e =
    e ∙ insert_entry-new nat_eq m b.name.0 b
    (nobody m.entries b.name h n (lookup (nat_eq b.name.0) m.entries) refl)

pub values_push : (es : List (ℕ × Binding)) (n : ℕ) (b : Binding)
    → values_of (es ++ (n, b) ∷ []) ≡ values_of es ++ b ∷ []
values_push es n b = map-append (λ (e : ℕ × Binding). e.1) es ((n, b) ∷ [])

pub kept_push : (es : List (ℕ × Binding)) (b : Binding) → IsKept es
    → (IsBound (values_of es) b.name → ⊥) → IsKept (es ++ (b.name.0, b) ∷ [])
kept_push es b h n = record {
  keyed = map-append (λ (e : ℕ × Binding). e.0) es ((b.name.0, b) ∷ [])
      ∙ (ap (λ ns. ns ++ b.name.0 ∷ []) h.keyed
      ∙ (sym (map-append (λ (c : Binding). c.name.0) (values_of es) (b ∷ []))
      ∙ ap names (sym (values_push es b.name.0 b))));
  distinct =
      subst AreDistinct (sym (values_push es b.name.0 b))
      (subst (AllPairs (λ m n. m ≢ n))
      (sym (map-append (λ (c : Binding). c.name.0) (values_of es) (b ∷ [])))
      (all_pairs_push (λ m n. m ≢ n) (names (values_of es)) b.name.0 h.distinct
      (λ k d l e. n
      (subst (Contains (names (values_of es))) e
      (Contains-get_or (names (values_of es)) k d l)))));
}

pub values_take : (es : List (ℕ × Binding)) (mark : ℕ)
    → values_of (take mark es) ≡ take mark (values_of es)
values_take es mark = sym (take-map (λ (e : ℕ × Binding). e.1) mark es)

pairs_take : (ns : List ℕ) (mark : ℕ) → AllPairs (λ m n. m ≢ n) ns
    → AllPairs (λ m n. m ≢ n) (take mark ns)
pairs_take ns mark h = λ i j d l e q. let n = length-take mark ns
    in h i j d l (omega arith) (sym (get_or-take mark ns i d (omega arith))
    ∙ (q ∙ get_or-take mark ns j d (omega arith)))

pub kept_take : (es : List (ℕ × Binding)) (mark : ℕ) → IsKept es → IsKept (take mark es)
kept_take es mark h = record {
  keyed = sym (take-map (λ (e : ℕ × Binding). e.0) mark es)
      ∙ (ap (take mark) h.keyed
      ∙ (take-map (λ
      (b : Binding). b.name.0) mark (values_of es) ∙ ap names (sym (values_take es mark))));
  distinct =
      subst AreDistinct (sym (values_take es mark))
      (subst (AllPairs (λ m n. m ≢ n)) (take-map (λ (b : Binding). b.name.0) mark (values_of es))
      (pairs_take (names (values_of es)) mark h.distinct));
}
