-- What a name stands for is what it was found as.
use Rattle.std.proofs.Common.{◌≡◌, suc, Bool, true, false, cond, List, [], ◌∷◌, Option, Some, None, refl, subst}
use Rattle.std.specs.Prelude.{nat_eq, slice_get}
use Rattle.fort_base.specs.declared.ids.NameId.{NameId}
use Rattle.fort_base.specs.declared.ids.TypeId.{TypeId}
use Rattle.fort_types_sets.specs.declared.field.Field.{Field}
use Rattle.fort_scope.specs.declared.binding.Binding.{Binding}
use Rattle.fort_typing_known.specs.Known.{Knows}
use Rattle.fort_typing_known.specs.Names.{Standing, a_binding, a_field, a_variable, a_single, functions, nothing, bound, field_in, number_in, field_of, variable, single, standing_single, standing_top, standing_field, standing_within, standing_bound, standing}
use Rattle.fort_typing_known.specs.Sets.{is_function}

module _ (k : Knows) (bs : List Binding) (name : NameId) where
  abbrev pub Says : Standing → Type 0
  Says (a_binding b) = bound bs name ≡ Some b
  Says (a_field o f) = (k.facts.owner ≡ Some o) × (field_of k.facts o name ≡ Some f)
  Says (a_variable n v) = slice_get k.facts.members.variables n ≡ Some v
  Says (a_single o) = single k.facts name ≡ Some o
  Says _ = Unit {0}

  by_function : (c : Bool) → Says (cond c functions nothing)
  by_function true = tt
  by_function false = tt

  at_single : (o : Option TypeId) → single k.facts name ≡ o → Says (standing_single k.facts name o)
  at_single (Some o) e = e
  at_single None e = by_function (is_function k.facts name)

  found : (fs : List Field) (v : Field) → field_in fs name ≡ Some v
      → slice_get fs (number_in fs name) ≡ Some v
  found [] v e = absurd cc
  found (f ∷ fs) v e = go (nat_eq f.name.0 name.0) (λ q. found fs v q) e
    where
      go : (c : Bool) → (field_in fs name ≡ Some v → slice_get fs (number_in fs name) ≡ Some v)
          → cond c (Some f) (field_in fs name) ≡ Some v
          → slice_get (f ∷ fs) (cond c 0 (suc (number_in fs name))) ≡ Some v
      go true r q = q
      go false r q = r q

  at_top : (o : Option Field) → variable k.facts name ≡ o → Says (standing_top k.facts name o)
  at_top (Some v) e = found k.facts.members.variables v e
  at_top None e = at_single (single k.facts name) refl

  at_field : (t : TypeId) (o : Option Field) → k.facts.owner ≡ Some t → field_of k.facts t name ≡ o
      → Says (standing_field k.facts name t o)
  at_field t (Some f) q e = (q, e)
  at_field t None q e = at_top (variable k.facts name) refl

  at_within : (o : Option TypeId) → k.facts.owner ≡ o → Says (standing_within k.facts name o)
  at_within (Some t) q = at_field t (field_of k.facts t name) q refl
  at_within None q = at_top (variable k.facts name) refl

  at_bound : (o : Option Binding) → bound bs name ≡ o → Says (standing_bound k.facts name o)
  at_bound (Some b) e = e
  at_bound None e = at_within k.facts.owner refl

  pub stands_so : (s : Standing) → standing k.facts bs name ≡ s → Says s
  unfolding standing
  stands_so s e = subst Says e (at_bound (bound bs name) refl)
