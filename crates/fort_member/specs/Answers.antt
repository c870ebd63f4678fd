-- The chapter "Members": what an accepted component has. The code makes one part after another.
use Rattle.std.specs.Prelude.{◌≡◌, ◌++◌, List, Option, None, Some, map, replicate}
use Rattle.std.specs.List.{flat_map}
use Rattle.fort_base.specs.declared.refusal.Place.{Place}
use Rattle.fort_tree.specs.declared.declarations.Component.{Component}
use Rattle.fort_tree.specs.declared.declarations.Declared.{Declared}
use Rattle.fort_types_builtin.specs.declared.types.TheConstants.{TYPE_COUNT}
use Rattle.fort_hier.specs.declared.heads.TypeHead.{TypeHead}
use Rattle.fort_hier.specs.Heads.{head_place}
use Rattle.fort_hier.specs.Hierarchies.{declares, places_of}
use Rattle.fort_hier.specs.Names.{Spelling}
use Rattle.fort_hier.specs.Numbers.{all_types, hierarchy_of}
use Rattle.fort_types_sets.specs.declared.field.Field.{Field}
use Rattle.fort_types_sets.specs.declared.member.Members.{Members}
use Rattle.fort_types_sets.specs.Leaves.{leaves_of}
use Rattle.fort_member_fields.specs.Own.{declared_variables, variables_of}
use Rattle.fort_member_fields.specs.Answers.{HasFields}
use Rattle.fort_member.specs.BuiltIn.{built_in_entries}
use Rattle.fort_member.specs.Declarations.{declared_entries, entries_of}
use Rattle.fort_member.specs.Sets.{sets_of}

-- The places of the names of all types, by their numbers; a built-in type has none.
abbrev pub all_places : Component → List (Option Place)
all_places c = replicate TYPE_COUNT None ++ map Some (places_of c)

-- What an accepted component has: the places of its types, which of them are objects or leaves,
-- their fields, its overload sets, and its variables at the top.
pub record AreMembers (c : Component) (m : Members) : Type 0 where
  pub places : m.places ≡ all_places c
  pub objects : m.objects ≡ leaves_of (declares c)
  pub fields : HasFields c m.fields
  pub sets : m.sets ≡ sets_of (entries_of c)
  pub variables : m.variables ≡ variables_of c

-- The members by a component's names, the heads of its types, its declarations, and the fields of
-- its types.
pub record AreOver (names : List Spelling) (heads : List TypeHead) (declarations : List Declared)
    (fields : List (List Field)) (m : Members) : Type 0 where
  pub places : m.places ≡ replicate TYPE_COUNT None ++ map Some (map head_place heads)
  pub objects : m.objects ≡ leaves_of (hierarchy_of names heads)
  pub fields_are : m.fields ≡ fields
  pub sets : m.sets
      ≡ sets_of
      (built_in_entries ++ flat_map (declared_entries (all_types names heads) names) declarations)
  pub variables : m.variables
      ≡ flat_map (declared_variables (all_types names heads) names) declarations
