-- From the lists that the code holds to the component, and what an accepted component is.
use Rattle.std.proofs.Common.{◌≡◌, ◌≤◌, ◌^◌, ℕ, List, map, length, refl, sym, ap, ◌∙◌, subst, arith}
use Rattle.std.proofs.Math.ListN.{length-append}
use Rattle.fort_base.specs.declared.refusal.Place.{Place}
use Rattle.fort_tree.specs.declared.declarations.Component.{Component}
use Rattle.fort_tree.specs.declared.spot.Name.{Name}
use Rattle.fort_types.specs.Hierarchy.{DeclaredTypes, Sound}
use Rattle.fort_hier.specs.declared.accepted.Hierarchy.{Hierarchy}
use Rattle.fort_hier.specs.declared.heads.TypeHead.{TypeHead}
use Rattle.fort_hier.specs.Heads.{heads_of, head_place}
use Rattle.fort_hier.specs.Names.{Spelling}
use Rattle.fort_types_builtin.specs.Types.{built_in_declared}
use Rattle.fort_types_builtin.proofs.PlainTypes.{built_in_count}
use Rattle.fort_hier.specs.Numbers.{all_types, declared_by, declared_types, hierarchy_of, IsUnknown}
use Rattle.fort_hier.specs.Lowest.{rule_number}
use Rattle.fort_hier.specs.Hierarchies.{declares, places_of, IsHierarchy, sentence}
use Rattle.fort_hier.proofs.NamesWalk.{as_long}
use Rattle.fort_hier.proofs.Soundness.{sound}

module _ (c : Component) where
  pub types_by : {types : DeclaredTypes} {names : List Spelling} {heads : List TypeHead}
      → types ≡ hierarchy_of names heads → names ≡ c.names → heads ≡ heads_of c → types ≡ declares c
  types_by {heads = heads} t e f =
      t ∙ ap (λ z. hierarchy_of z heads) e ∙ ap (hierarchy_of c.names) f

  pub names_by : {names : List Spelling} {heads : List TypeHead} → names ≡ c.names
      → heads ≡ heads_of c → declared_types names heads ≡ declared_types c.names (heads_of c)
  names_by {heads = heads} e f = ap (λ z. declared_types z heads) e ∙ ap (declared_types c.names) f

  -- what is said of unknown names, and of the types' sentences
  pub unknown_by : (mentioned : List Name) (Q : (Place → Type 0) → Type 0) {names : List Spelling}
      {heads : List TypeHead} → names ≡ c.names → heads ≡ heads_of c
      → Q (IsUnknown (all_types names heads) names mentioned)
      → Q (IsUnknown (all_types c.names (heads_of c)) c.names mentioned)
  unknown_by mentioned Q {heads = heads} e f w =
      subst (λ z. Q (IsUnknown (all_types c.names z) c.names mentioned)) f
      (subst (λ z. Q (IsUnknown (all_types z heads) z mentioned)) e w)

  pub sentences_by : (Q : DeclaredTypes → List Place → Type 0) {types : DeclaredTypes}
      {heads : List TypeHead} → types ≡ declares c → heads ≡ heads_of c
      → Q types (map head_place heads) → Q (declares c) (places_of c)
  sentences_by Q {heads = heads} t f w =
      subst (λ z. Q (declares c) (map head_place z)) f (subst (λ z. Q z (map head_place heads)) t w)

  pub few_declared : (n : ℕ) → n ≤ 1073741824 → n ≡ length (heads_of c)
      → length (declares c) ≤ 2 ^ 32
  few_declared n l e =
      let a = length-append built_in_declared
      (map (declared_by (all_types c.names (heads_of c)) c.names) (heads_of c))
      in let b = built_in_count in
      let m = as_long (declared_by (all_types c.names (heads_of c)) c.names) (heads_of c)
      in omega arith

  pub accepted_sound : (mentioned : List Name) (h : Hierarchy) → IsHierarchy c mentioned h
      → Sound (declares c)
  accepted_sound mentioned h a =
      sound (map (declared_by (all_types c.names (heads_of c)) c.names) (heads_of c)) (places_of c)
      h.table
      (as_long head_place (heads_of c)
      ∙ sym (as_long (declared_by (all_types c.names (heads_of c)) c.names) (heads_of c)))
      a.rows (λ s place w. a.kept (rule_number s) place (sentence s refl w))
