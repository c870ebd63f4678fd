-- What is known of a component that keeps the rules before typing is made of an accepted component.
use Rattle.std.proofs.Common.{◌≡◌, ◌<◌, ◌≤◌, ◌+◌, ℕ, List, [], ◌++◌, length, replicate, Some, None, sym, subst, ap, ◌∙◌, arith}
use Rattle.std.specs.List.{slice_get, AllByRecursion, flat_map}
use Rattle.fort_tree.specs.declared.declarations.Component.{Component}
use Rattle.fort_tree_type_names.specs.TypeNames.{type_names}
use Rattle.fort_types_builtin.specs.declared.types.TheConstants.{TYPE_COUNT}
use Rattle.fort_hier.specs.declared.accepted.Hierarchy.{Hierarchy}
use Rattle.fort_hier.specs.Heads.{heads_of}
use Rattle.fort_hier.specs.Hierarchies.{IsHierarchy, declares}
use Rattle.fort_hier.specs.Names.{spelling}
use Rattle.fort_hier.proofs.AcceptedLaws.{accepted_sound}
use Rattle.fort_types_sets.specs.declared.field.Field.{Field}
use Rattle.fort_types_sets.specs.declared.member.Members.{Members}
use Rattle.fort_member_fields.specs.Own.{types_of, own_fields, variables_of, declared_own}
use Rattle.fort_member_fields.proofs.Items.{of_get}
use Rattle.fort_member.specs.Answers.{AreMembers}
use Rattle.fort_member.proofs.Numbered.{all_item, all_join, a_name_numbered}
use Rattle.fort_member.proofs.WellMadeLaws.{sets_well_made}
use Rattle.fort_typing_law_ready.specs.Fit.{KeepersAreAccepted}
use Rattle.fort_typing_law_ready.proofs.Known.{declared, counts, known_all, Known}
use Rattle.fort_typing_law_ready.proofs.FieldLaws.{IsHeld, AreHeld, none_held, has_held, all_own_held, all_tops_held}

module _ (c : Component) (h : Hierarchy) (is : IsHierarchy c (type_names c) h) where
  as_many : length (declared c) ≡ length (declares c)
  as_many = (counts c).0 ∙ sym (counts c).1

  own_held : AllByRecursion (AreHeld (length (declared c))) (own_fields c)
  own_held =
      all_join (AreHeld (length (declared c))) (replicate TYPE_COUNT [])
      (flat_map (declared_own (types_of c) c.names) c.declarations)
      (none_held (length (declared c)) TYPE_COUNT)
      (all_own_held (length (declared c)) (types_of c) c.names (Known c)
      (λ x l. a_name_numbered (declared c) (spelling c.names x) l) c.declarations
      (known_all c h is))

  variables_held : AreHeld (length (declared c)) (variables_of c)
  variables_held =
      all_tops_held (length (declared c)) (types_of c) c.names (Known c)
      (λ x l. a_name_numbered (declared c) (spelling c.names x) l) c.declarations (known_all c h is)

pub keepers_accepted : KeepersAreAccepted
keepers_accepted c h m is has rules = record {
  sound = accepted_sound c (type_names c) h is;
  rows = is.rows;
  built_in = let k = (counts c).1 in omega arith;
  objects = has.objects;
  made = sets_well_made c h is m has;
  kept = rules;
  fields = λ n i all f at within. subst (λ k. IsHeld k f) (as_many c h is)
      (has_held (length (declared c)) (declares c) (own_fields c) (own_held c h is) n f
      ((has.fields.fields.each n all at).has f (of_get all i f within)));
  variables = λ i v at. subst (λ k. IsHeld k v) (as_many c h is)
      (all_item (IsHeld (length (declared c))) (variables_of c) i v (variables_held c h is)
      (subst (λ vs. slice_get vs i ≡ Some v) has.variables at));
  enclosed = λ t none. absurd cc;
}
